use Rattle.std.proofs.Common.{sym}
use Rattle.wasm_typing.proofs.TableTypes.{compare_typing, unary_typing, binary_typing}
use Rattle.body_check.proofs.numeric.numeric_type.Goals as goal

pub returns-in-Compare : goal.returns-in-Compare
returns-in-Compare c = rw (c.in-Compare.is, c.two.ensures) (sym (compare_typing c.in-Compare.ty c.in-Compare.field-1))

pub returns-in-Unary : goal.returns-in-Unary
returns-in-Unary c = rw (c.in-Unary.is, c.one-in-Unary.ensures) (sym (unary_typing c.in-Unary.ty c.in-Unary.field-1))

pub returns-in-Binary : goal.returns-in-Binary
returns-in-Binary c = rw (c.in-Binary.is, c.two-in-Binary.ensures) (sym (binary_typing c.in-Binary.ty c.in-Binary.field-1))
