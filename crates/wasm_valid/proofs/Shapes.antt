-- The faults of expressions: none of code that is more than one instruction; section by section.
use Rattle.wasm_valid.proofs.Common.{◌≡◌, ℕ, ◌≤◌, Bool, List, [], ◌∷◌, length, sym, refl, ap, ◌∙◌, arith, ValType, Code, GlobalGet}
use Rattle.wasm_valid.proofs.Common.{I32Const, I64Const, Kind, then_code, code_tree, kind_tree, Instr, neither, shape_of}

-- two instructions or more are no expression of one
two_instructions : (globals : List (ValType × Bool)) (p q : ℕ) (k l : Kind) (code : Code)
    → shape_of globals (then_code p k (then_code q l code)) ≡ neither
two_instructions globals p q (I32Const n) l code = refl
two_instructions globals p q (I64Const n) l code = refl
two_instructions globals p q (GlobalGet i) l code = refl
two_instructions globals p q _ l code = refl

pub more_than_one : (globals : List (ValType × Bool)) (instrs : List Instr) (code : Code) → 2 ≤ length instrs → code_tree instrs ≡ code
    → neither ≡ shape_of globals code
more_than_one globals [] code more e = absurd (omega (arith, more))
more_than_one globals (i ∷ []) code more e = absurd (omega (arith, more))
more_than_one globals (i ∷ j ∷ instrs) code more e =
    sym (two_instructions globals i.place j.place (kind_tree i.kind) (kind_tree j.kind) (code_tree instrs)) ∙ ap (shape_of globals) e
