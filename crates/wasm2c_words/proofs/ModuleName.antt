-- Where a part of a file's name begins.
use Rattle.wasm2c_words.proofs.Common.{◌≡◌, ℕ, ◌-◌, ◌<◌, ◌≤◌, true, false, not, List, length, get_or, ◌==◌, arith, suffix_len_is}
use Rattle.wasm2c_words.proofs.Common.{suffix_len}

apart : (a b : ℕ) → (a ≡ b → ⊥) → not (a == b) ≡ true
apart a b none = grind (arith, none)

alike : (a b : ℕ) → a ≡ b → not (a == b) ≡ false
alike a b same = grind (arith, same)

-- no such byte stands from the place on, and one stands before it
pub place_is : (bytes : List ℕ) (wanted place : ℕ) → place ≤ length bytes
    → ((k : ℕ) → place ≤ k → k < length bytes → get_or bytes k 0 ≡ wanted → ⊥) → (0 < place → get_or bytes (place - 1) 0 ≡ wanted)
    → place ≡ length bytes - suffix_len (λ b. not (b == wanted)) bytes
place_is bytes wanted place within none_behind before =
    let len : suffix_len (λ b. not (b == wanted)) bytes ≡ length bytes - place =
    suffix_len_is (λ b. not (b == wanted)) bytes place 0 within
    (λ k from below. apart (get_or bytes k 0) wanted (none_behind k from below))
    (λ some. alike (get_or bytes (place - 1) 0) wanted (before some)) in
    omega (arith, len)
