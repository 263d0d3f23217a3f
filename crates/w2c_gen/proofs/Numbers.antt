-- The numbers and the bodies, one more.
use Rattle.w2c_gen.proofs.Common.{◌≡◌, ℕ, suc, ◌+◌, List, [], ◌∷◌, ◌++◌, map, sym, ap, ◌∙◌, arith, map-range_with_len_more, range_with_len}
use Rattle.w2c_gen.proofs.Common.{BodyEntry, body_of, body_with, next_number, number_at}

pub number_more : (n k x y : ℕ) → x ≡ number_at n k → y ≡ next_number x → y ≡ number_at n (k + 1)
number_more n k x y e f =
    let one : suc k ≡ k + 1 = omega arith in
    f ∙ ap next_number e ∙ ap (number_at n) one

pub bodies_more : (n k x : ℕ) (list more : List BodyEntry) (body : BodyEntry) → x ≡ number_at n (k + 1)
    → list ≡ map (body_of n) (range_with_len 0 k) → body ≡ body_with x k → more ≡ list ++ body ∷ []
    → more ≡ map (body_of n) (range_with_len 0 (k + 1))
bodies_more n k x list more body e f g h =
    let one : k + 1 ≡ suc k = omega arith in
    let its : body ≡ body_of n k = g ∙ ap (λ y. body_with y k) (e ∙ ap (number_at n) one) in
    h ∙ ap (λ l. l ++ body ∷ []) f ∙ ap (λ b. map (body_of n) (range_with_len 0 k) ++ b ∷ []) its
    ∙ sym (map-range_with_len_more (body_of n) 0 k k (omega arith))
