use Rattle.wasm_binary.proofs.Common.{◌≡◌, Some, ap, ◌∙◌, subst, form_in, nothing, row_of}
use Rattle.wasm_tree.specs.Parts.{numeric_tree}
use Rattle.wasm_tree.specs.declared.opcodes.Op.{Op}
use Rattle.wasm_binary.specs.Opcodes.{op_form}
use Rattle.wasm_binary.proofs.Instructions.{op_row}
use Rattle.wasm_binary.proofs.code.alone_of.Goals as goal

pub returns-in-Some-Numeric : goal.returns-in-Some-Numeric
returns-in-Some-Numeric c =
    let op = c.in-Some-Numeric in
    subst (λ n. form_in (row_of n) ≡ Some (nothing (numeric_tree op.op))) op.ensures.some
    (op_row op.field-0 ∙ ap (λ (o : Op). Some (op_form o)) op.field-0-is)
