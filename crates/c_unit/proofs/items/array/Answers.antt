use Rattle.c_unit.proofs.Common.{◌≡◌, ℕ, List, length, ap, ◌∙◌, Name, Array}
use Rattle.c_unit.proofs.items.array.Goals as goal

same : (name own : Name) (len : ℕ) (bytes all : List ℕ) → name ≡ own → len ≡ length bytes → bytes ≡ all
    → Array name len bytes ≡ Array own (length all) all
same name own len bytes all named counted copied =
    ap (λ n. Array n len bytes) named ∙ ap (λ k. Array own k bytes) counted ∙ ap (λ bs. Array own (length bs) bs) copied

pub returns : goal.returns
returns c = same _ _ _ _ _ c.in_ok-name.ensures c.len.ensures c.in_ok-bytes.ensures
