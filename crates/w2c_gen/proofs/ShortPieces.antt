-- Bytes that spell fields in the shortest way, piece by piece.
use Rattle.w2c_gen.proofs.Common.{◌≡◌, ℕ, zero, suc, ◌*◌, ◌^◌, ◌<◌, ◌≤◌, Bool, true, false, List, [], ◌∷◌, ◌++◌, length, ℤ, pos, IsTrue}
use Rattle.w2c_gen.proofs.Common.{sym, refl, subst, arith, ints, IsNumberRun, SpellsSigned, SpellsUnsigned, seven_bit_sum, signed_sum}
use Rattle.w2c_gen.proofs.Common.{signed_shortest, unsigned_shortest, InRange, IsShortest, Module, Fields, byte, finished, here, number}
use Rattle.w2c_gen.proofs.Common.{provided, signed, text, window, Part, content, id_of, is_empty, filled-empty, filled-full, filled}
use Rattle.wasm_writing.specs.Aside.{SpelledBy, SpelledShort}

pub record Short (fields : Fields) (bytes : List ℕ) : Type 0 where
  pub is : SpelledShort fields bytes

pub finished_short : Short finished []
unfolding SpelledBy
finished_short = record { is = refl }

pub byte_short : {b : ℕ} {rest : Fields} {bytes : List ℕ} → Short rest bytes → Short (byte b rest) (b ∷ bytes)
unfolding SpelledBy
byte_short {b} {rest} {bytes} s = record { is = (b ∷ [], bytes, refl, refl, s.is) }

pub text_short : {t : List ℕ} {rest : Fields} {bytes : List ℕ} → Short rest bytes → Short (text t rest) (t ++ bytes)
unfolding SpelledBy
text_short {t} {rest} {bytes} s = record { is = (t, bytes, refl, refl, s.is) }

pub here_short : {place : ℕ} {rest : Fields} {bytes : List ℕ} → Short rest bytes → Short (here place rest) bytes
unfolding SpelledBy
here_short s = record { is = s.is }

pub provided_short : {b : Bool} {rest : Fields} {bytes : List ℕ} → IsTrue b → Short rest bytes → Short (provided b rest) bytes
unfolding SpelledBy
provided_short met s = record { is = (met, s.is) }

-- a number of one byte
one_byte : (n : ℕ) → n < 128 → IsShortest (SpellsUnsigned 32) (n ∷ []) n
one_byte n lt =
    unsigned_shortest 32 n 1 (n ∷ []) (record { run = lt; short = omega arith; value = omega (arith, lt) })
    (omega (arith, lt)) (omega arith) (λ k some h. omega (arith, some))

pub number_short : {n : ℕ} {rest : Fields} {bytes : List ℕ} → n < 128 → Short rest bytes → Short (number n rest) (n ∷ bytes)
unfolding SpelledBy
number_short {n} {rest} {bytes} lt s = record { is = (n ∷ [], bytes, refl, one_byte n lt, s.is) }

pub window_short : {size : ℕ} {inside rest : Fields} {within bytes : List ℕ} → size < 128 → length within ≡ size
    → Short inside within → Short rest bytes → Short (window inside rest) (size ∷ (within ++ bytes))
unfolding SpelledBy
window_short {size} {inside} {rest} {within} {bytes} lt e s t =
    record { is = (size, (size ∷ [], within ++ bytes, refl, one_byte size lt, (within, bytes, refl, (e, s.is), t.is))) }

-- a number with a sign that four bytes do not hold, in five
five_at_least : (n : ℕ) → 2 ^ 27 ≤ n → (k : ℕ) → 0 < k → InRange (7 * k) (pos n) → 5 ≤ k
five_at_least n much zero some r = omega (arith, some)
five_at_least n much (suc zero) some r = omega (arith, ints, much, r.high)
five_at_least n much (suc (suc zero)) some r = omega (arith, ints, much, r.high)
five_at_least n much (suc (suc (suc zero))) some r = omega (arith, ints, much, r.high)
five_at_least n much (suc (suc (suc (suc zero)))) some r = omega (arith, ints, much, r.high)
five_at_least n much (suc (suc (suc (suc (suc k))))) some r = omega arith

pub five_short : (n : ℕ) (front : List ℕ) → IsNumberRun front → length front ≡ 5 → pos n ≡ signed_sum 5 (seven_bit_sum front)
    → 2 ^ 27 ≤ n → n < 2 ^ 31 → IsShortest (SpellsSigned 32) front (pos n)
five_short n front run five value much fits =
    signed_shortest 32 5 (pos n) front run five value
    (record { low = omega (arith, ints); high = omega (arith, ints, fits) }) (omega arith) (five_at_least n much)

pub signed_short : {z : ℤ} {rest : Fields} {bytes : List ℕ} (front : List ℕ) → IsShortest (SpellsSigned 32) front z → Short rest bytes
    → Short (signed 32 z rest) (front ++ bytes)
unfolding SpelledBy
signed_short {z} {rest} {bytes} front i s = record { is = (front, bytes, refl, i, s.is) }

-- a section, and none where it has no entries
pub empty_short : (t : Module) (part : Part) {rest : Fields} {bytes : List ℕ} → is_empty part t ≡ true → Short rest bytes
    → Short (filled t part rest) bytes
empty_short t part {rest} {bytes} e s = subst (λ f. Short f bytes) (sym (filled-empty t part rest e)) s

pub section_short : (t : Module) (part : Part) {size : ℕ} {rest : Fields} {within bytes : List ℕ} → is_empty part t ≡ false → size < 128
    → length within ≡ size → Short (content part t finished) within → Short rest bytes
    → Short (filled t part rest) (id_of part ∷ size ∷ (within ++ bytes))
section_short t part {size} {rest} {within} {bytes} e lt l s u =
    subst (λ f. Short f (id_of part ∷ size ∷ (within ++ bytes))) (sym (filled-full t part rest e)) (byte_short (window_short lt l s u))
