-- Each instruction of a list is smaller than the list.
use Rattle.wasm_tree.proofs.Common.{◌≡◌, ℕ, zero, suc, ◌+◌, ◌<◌, ◌≤◌, List, [], ◌∷◌, length, get_or, ap, arith, code_tree, kind_tree}
use Rattle.wasm_tree.specs.Size.{code_size, kind_size}
use Rattle.wasm_tree.specs.declared.code.Instr.{Instr}

pub instr_smaller : (items : List Instr) (i : ℕ) (x : Instr) → i < length items → x ≡ get_or items i x
    → kind_size (kind_tree x.kind) + 1 ≤ code_size (code_tree items)
instr_smaller [] i x less is = absurd (omega (arith, less))
instr_smaller (y ∷ items) zero x less is =
    let e : kind_size (kind_tree x.kind) ≡ kind_size (kind_tree y.kind) = ap (λ (z : Instr). kind_size (kind_tree z.kind)) is in
    omega (arith, e)
instr_smaller (y ∷ items) (suc i) x less is =
    let h : kind_size (kind_tree x.kind) + 1 ≤ code_size (code_tree items) = instr_smaller items i x (omega (arith, less)) is in
    omega (arith, h)
