-- Entries that stand among others: by their place, and by their number.
use Rattle.std.proofs.Common.{length-append}
use Rattle.w2c_base.proofs.Lists.{get_numbered, get_zipped}
use Rattle.w2c_base.proofs.Places.{right_behind}
use Rattle.init_meaning.proofs.Common.{◌≡◌, ℕ, ◌+◌, ◌<◌, List, ◌∷◌, ◌++◌, length, slice_get, Some, sym, ap, ◌∙◌, arith, same_Some}
use Rattle.init_meaning.proofs.Common.{slice_get_within, range_with_len, numbered}

pub some_there : {A : Type 0} (front : List A) (x : A) (behind whole : List A) → front ++ x ∷ behind ≡ whole → 0 < length whole
some_there front x behind whole e = let n = length-append front (x ∷ behind) in let k = ap length e in omega (arith, n, k)

pub there_at : {A : Type 0} (front : List A) (x : A) (behind whole : List A) → front ++ x ∷ behind ≡ whole
    → slice_get whole (length front) ≡ Some x
there_at front x behind whole e = ap (λ xs. slice_get xs (length front)) (sym e) ∙ right_behind front x behind

-- a numbered entry
pub record IsNumbered {A : Type 0} (xs : List A) (front : List (ℕ × A)) (x : ℕ × A) : Type 0 where
  pub number : x.0 ≡ length front
  pub entry : slice_get xs x.0 ≡ Some x.1

pub is_numbered : {A : Type 0} (xs : List A) (front : List (ℕ × A)) (x : ℕ × A) (behind : List (ℕ × A))
    → front ++ x ∷ behind ≡ numbered xs → IsNumbered xs front x
is_numbered xs front x behind e =
    let both = get_zipped (range_with_len 0 (length xs)) xs (length front) x (there_at front x behind (numbered xs) e) in
    let less = slice_get_within xs (length front) x.1 both.1 in
    let place : 0 + length front ≡ length front = omega arith in
    let same : x.0 ≡ length front = same_Some x.0 (length front)
    (sym both.0 ∙ get_numbered 0 (length xs) (length front) less ∙ ap Some place) in
    record { number = same; entry = ap (slice_get xs) same ∙ both.1 }
