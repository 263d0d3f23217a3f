use Rattle.packed_stmts.proofs.Common.{◌≡◌, ◌++◌, length, take}
use Rattle.std.specs.Prelude.{flat_map}
use Rattle.packed_stmts.specs.Packed.{size_code, one_type_code}
use Rattle.packed_stmts.proofs.packing.put_types.Given as goal

abbrev pub invariant-loop-ty : goal.invariant-loop-ty
invariant-loop-ty l = l.bytes ≡ l.fn.bytes ++ (size_code (length l.types) ++ flat_map one_type_code (take l.ty-index l.types))
