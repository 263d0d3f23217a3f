-- Numbers of units in decimal, as the machine writes them, and the new names that are made of them.
use Rattle.c_merge.proofs.Common.{◌≡◌, ℕ, zero, suc, ◌^◌, ◌<◌, [], ◌∷◌, ◌++◌, decimal, ap, ◌∙◌, append_assoc, arith, Name, decimal_text}
use Rattle.c_merge.proofs.Common.{name_in}
use Rattle.std.proofs.lemmas.Fmt.{decimal_digit, decimal-digits_of}

decimal_is : (n : ℕ) → n < 2 ^ 64 → decimal n ≡ decimal_text n
decimal_is zero small = decimal_digit 0 (omega arith)
decimal_is (suc n) small = decimal-digits_of (suc n) (omega arith) small

-- a name that is put together piece by piece
pub spelled : (u : ℕ) (name start a text b d e : Name) → u < 2 ^ 64 → start ≡ [] → text ≡ decimal u → a ≡ start ++ 117 ∷ []
    → b ≡ a ++ text → d ≡ b ++ 95 ∷ [] → e ≡ d ++ name
    → e ≡ name_in u name
spelled u name start a text b d e small none digits first second third fourth =
    fourth
    ∙ ap (λ l. l ++ name) (third ∙ ap (λ l. l ++ 95 ∷ []) (second ∙ (λ i. first i ++ digits i)))
    ∙ ap (λ l. (((l ++ 117 ∷ []) ++ decimal u) ++ 95 ∷ []) ++ name) none
    ∙ ap (λ l. 117 ∷ l) (append_assoc (decimal u) (95 ∷ []) name)
    ∙ ap (λ l. 117 ∷ (l ++ 95 ∷ name)) (decimal_is u small)
