-- Numbers that one byte spells.
use Rattle.leb_bytes.proofs.Common.{◌≡◌, ℕ, ◌+◌, ◌*◌, ◌%◌, ◌<◌, Bool, true, List, [], ◌∷◌, length, get_or, pos, ◌-ℤ◌, Ok, sym, ap, ◌∙◌}
use Rattle.leb_bytes.proofs.Common.{arith, ints, w32, w64, to_z, of_z, AnswersSigned, AnswersUnsigned}
use Rattle.std.proofs.lemmas.Bool.Decides.{nat_tests}
use Rattle.std.specs.Prelude.{if◌then◌else◌, nat_lt}

pub without_sign : (window : List ℕ) (b : ℕ) → b < 128 → 0 < length window → b ≡ get_or window 0 0
    → AnswersUnsigned 32 window (Ok (b, 1))
without_sign [] b low some is = absurd (omega (arith, some))
without_sign (x ∷ window) b low some is = (
  omega arith,
  record {
    run = omega (arith, low, is);
    short = omega arith;
    value = omega (arith, low, is);
    fits = omega (arith, low);
  },
)

-- the sign's bit is clear
clear : (sum b : ℕ) → sum ≡ b → b < 64 → pos b ≡ (if nat_lt sum 64 then pos sum else (pos sum -ℤ pos 128))
clear sum b is low =
    let below : nat_lt sum 64 ≡ true = grind (arith, nat_tests, is, low) in
    sym (ap (λ (t : Bool). if t then pos sum else (pos sum -ℤ pos 128)) below ∙ ap pos is)

pub with_sign_32 : (window : List ℕ) (b : ℕ) → b < 64 → 0 < length window → b ≡ get_or window 0 0
    → AnswersSigned 32 window (Ok (pos b, 1))
with_sign_32 [] b low some is = absurd (omega (arith, some))
with_sign_32 (x ∷ window) b low some is = (
  omega arith,
  record {
    run = omega (arith, low, is);
    short = omega arith;
    value = clear (x % 128 + 128 * 0) b (omega (arith, low, is)) low;
    low = omega (arith, ints, low);
    high = omega (arith, ints, low);
  },
)

pub with_sign_64 : (window : List ℕ) (b : ℕ) → b < 64 → 0 < length window → b ≡ get_or window 0 0
    → AnswersSigned 64 window (Ok (pos b, 1))
with_sign_64 [] b low some is = absurd (omega (arith, some))
with_sign_64 (x ∷ window) b low some is = (
  omega arith,
  record {
    run = omega (arith, low, is);
    short = omega arith;
    value = clear (x % 128 + 128 * 0) b (omega (arith, low, is)) low;
    low = omega (arith, ints, low);
    high = omega (arith, ints, low);
  },
)

-- such a number is kept by casts
pub kept_32 : (b : ℕ) → b < 64 → to_z w32 (of_z w32 (pos b)) ≡ pos b
kept_32 b low = omega (arith, ints, low)

pub kept_64 : (b : ℕ) → b < 64 → to_z w64 (of_z w64 (pos b)) ≡ pos b
kept_64 b low = omega (arith, ints, low)
