-- Code that is gone through one instruction after another.
use Rattle.c_helpers.proofs.Common.{◌≡◌, ℕ, ◌+◌, ◌<◌, ◌≤◌, List, ◌∷◌, length, get_or, drop, sym, ap, ◌∙◌, drop_all, drop_more, end_code}
use Rattle.c_helpers.proofs.Common.{then_code, code_tree, kind_tree, Instr}

pub code_more : (items : List Instr) (i : ℕ) (x : Instr) → i < length items → x ≡ get_or items i x
    → code_tree (drop i items) ≡ then_code x.place (kind_tree x.kind) (code_tree (drop (i + 1) items))
code_more items i x less is =
    ap (λ (rest : List Instr). code_tree rest) (drop_more items i x less ∙ ap (λ (y : Instr). y ∷ drop (i + 1) items) (sym is))

pub code_done : (items : List Instr) (i : ℕ) → length items ≤ i → code_tree (drop i items) ≡ end_code
code_done items i past = ap (λ (rest : List Instr). code_tree rest) (drop_all i items past)
