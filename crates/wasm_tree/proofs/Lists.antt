-- Lists of instructions and the code that they are.
use Rattle.wasm_tree.proofs.Common.{◌≡◌, ℕ, zero, suc, ◌<◌, List, [], ◌∷◌, ◌++◌, length, get_or, Some, refl, ap, arith, code_length}
use Rattle.wasm_tree.proofs.Common.{instr_at, ◌+>◌, then_code, code_tree, instr_tree, kind_tree}
use Rattle.wasm_tree.specs.declared.code.Instr.{Instr}

pub code_tree-push : (instrs : List Instr) (instr : Instr) → code_tree (instrs ++ instr ∷ []) ≡ code_tree instrs +> instr_tree instr
code_tree-push [] instr = refl
code_tree-push (i ∷ instrs) instr = ap (then_code i.place (kind_tree i.kind)) (code_tree-push instrs instr)

pub code_tree-length : (instrs : List Instr) → code_length (code_tree instrs) ≡ length instrs
code_tree-length [] = refl
code_tree-length (i ∷ instrs) = ap suc (code_tree-length instrs)

pub code_tree-at : (instrs : List Instr) (i : ℕ) (other : Instr) → i < length instrs
    → instr_at i (code_tree instrs) ≡ Some (instr_tree (get_or instrs i other))
code_tree-at [] i other less = absurd (omega (arith, less))
code_tree-at (instr ∷ instrs) zero other less = refl
code_tree-at (instr ∷ instrs) (suc i) other less = code_tree-at instrs i other (omega (arith, less))
