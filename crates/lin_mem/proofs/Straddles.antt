-- Bytes that lie in two pages.
use Rattle.lin_mem.proofs.Common.{◌≡◌, ℕ, ◌-◌, List, [], ◌∷◌, ◌++◌, length, take, drop, sym, ap, ◌∙◌, arith, length-drop, drop_of_length-le}
use Rattle.lin_mem.proofs.Common.{take-append_seam, append-nil}
use borrow.Rule.Slice.PartMut.{put_mid}

-- a list whose first part is written, and then the rest, holds both
pub put_rest : (out first second : List ℕ) (room : ℕ) → length first ≡ room
    → put_mid room (length (first ++ drop room out) - room) (first ++ drop room out) second ≡ first ++ second
put_rest out first second room l =
    let xs = first ++ drop room out in
    let front : take room xs ≡ first = ap (λ k. take k xs) (sym l) ∙ take-append_seam first (drop room out) in
    let none : drop (length xs - room) (drop room xs) ≡ [] =
    drop_of_length-le (drop room xs) {i = length xs - room} (omega (arith, length-drop room xs)) in
    ap (λ ys. ys ++ (second ++ drop (length xs - room) (drop room xs))) front
    ∙ ap (λ ys. first ++ (second ++ ys)) none
    ∙ ap (λ ys. first ++ ys) (append-nil second)
