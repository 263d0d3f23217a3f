-- Fields that exactly one list of bytes spells in the shortest way, which has at most so many.
use Rattle.w2c_gen.proofs.Common.{◌≡◌, ℕ, ◌+◌, ◌^◌, ◌<◌, ◌≤◌, Bool, true, List, [], ◌∷◌, ◌++◌, length, ℤ, IsTrue, sym, refl, subst, inl}
use Rattle.w2c_gen.proofs.Common.{inr, arith, length-append, cases_Bool, all_append, SpellsSigned, SpellsUnsigned, InRange, IsShortest}
use Rattle.w2c_gen.proofs.Common.{Module, AreBytes, Fields, byte, finished, here, number, provided, signed, text, window, Part, content}
use Rattle.w2c_gen.proofs.Common.{id_of, is_empty, types, filled-empty, filled-full, filled}
use Rattle.wasm_writing.specs.Aside.{SpelledBy, SpelledShort}
use Rattle.w2c_gen.proofs.ShortestBytes.{signed_in_bytes, unsigned_in_bytes}
use Rattle.w2c_gen.proofs.OnlyOne.{OnlyOne, one_list, one_next, one_number, one_signed, one_window}

pub record Within (fields : Fields) (most : ℕ) : Type 0 where
  pub bytes : List ℕ
  pub are_bytes : AreBytes bytes
  pub spelled : SpelledShort fields bytes
  pub few : length bytes ≤ most
  pub one : OnlyOne (SpelledShort fields)

both_bytes : (front rest : List ℕ) → AreBytes front → AreBytes rest → AreBytes (front ++ rest)
both_bytes front rest = all_append (λ b. b < 256) front rest

pub within_more : {fields : Fields} {n : ℕ} (m : ℕ) → n ≤ m → Within fields n → Within fields m
within_more m le w =
    record { bytes = w.bytes; are_bytes = w.are_bytes; spelled = w.spelled; few = omega (arith, le, w.few); one = w.one }

pub within_finished : Within finished 0
unfolding SpelledBy
within_finished = record { bytes = []; are_bytes = tt; spelled = refl; few = omega arith; one = one_list [] }

pub within_byte : (b : ℕ) {rest : Fields} {n : ℕ} → b < 256 → Within rest n → Within (byte b rest) (1 + n)
unfolding SpelledBy
within_byte b {rest} small w = record {
  bytes = b ∷ w.bytes;
  are_bytes = (small, w.are_bytes);
  spelled = (b ∷ [], w.bytes, refl, refl, w.spelled);
  few = omega (arith, w.few);
  one = one_next (λ front. front ≡ b ∷ []) (SpelledShort rest) (one_list (b ∷ [])) w.one;
}

pub within_text : (t : List ℕ) {rest : Fields} {n : ℕ} → AreBytes t → Within rest n → Within (text t rest) (length t + n)
unfolding SpelledBy
within_text t {rest} are w = record {
  bytes = t ++ w.bytes;
  are_bytes = both_bytes t w.bytes are w.are_bytes;
  spelled = (t, w.bytes, refl, refl, w.spelled);
  few = omega (arith, w.few, length-append t w.bytes);
  one = one_next (λ front. front ≡ t) (SpelledShort rest) (one_list t) w.one;
}

pub within_here : (place : ℕ) {rest : Fields} {n : ℕ} → Within rest n → Within (here place rest) n
unfolding SpelledBy
within_here place w = record {
  bytes = w.bytes;
  are_bytes = w.are_bytes;
  spelled = w.spelled;
  few = w.few;
  one = λ a b are_a are_b s t. w.one a b are_a are_b s t;
}

pub within_provided : {b : Bool} {rest : Fields} {n : ℕ} → IsTrue b → Within rest n → Within (provided b rest) n
unfolding SpelledBy
within_provided met w = record {
  bytes = w.bytes;
  are_bytes = w.are_bytes;
  spelled = (met, w.spelled);
  few = w.few;
  one = λ a b are_a are_b s t. w.one a b are_a are_b s.1 t.1;
}

pub within_number : (k : ℕ) {rest : Fields} {n : ℕ} → k < 2 ^ 32 → Within rest n → Within (number k rest) (5 + n)
unfolding SpelledBy
within_number k {rest} fits w =
    let s = unsigned_in_bytes k fits in
    record {
      bytes = s.0 ++ w.bytes;
      are_bytes = both_bytes s.0 w.bytes s.1 w.are_bytes;
      spelled = (s.0, w.bytes, refl, s.2, w.spelled);
      few = omega (arith, w.few, s.2.spells.short, length-append s.0 w.bytes);
      one = one_next (λ front. IsShortest (SpellsUnsigned 32) front k) (SpelledShort rest) (one_number k) w.one;
    }

pub within_signed : (z : ℤ) {rest : Fields} {n : ℕ} → InRange 32 z → Within rest n → Within (signed 32 z rest) (5 + n)
unfolding SpelledBy
within_signed z {rest} fits w =
    let s = signed_in_bytes z fits in
    record {
      bytes = s.0 ++ w.bytes;
      are_bytes = both_bytes s.0 w.bytes s.1 w.are_bytes;
      spelled = (s.0, w.bytes, refl, s.2, w.spelled);
      few = omega (arith, w.few, s.2.spells.short, length-append s.0 w.bytes);
      one = one_next (λ front. IsShortest (SpellsSigned 32) front z) (SpelledShort rest) (one_signed z) w.one;
    }

pub within_window : {inside rest : Fields} {m n : ℕ} → m < 2 ^ 32 → Within inside m → Within rest n
    → Within (window inside rest) (5 + m + n)
unfolding SpelledBy
within_window {inside} {rest} small v w =
    let size = length v.bytes in
    let s = unsigned_in_bytes size (omega (arith, small, v.few)) in
    let more = v.bytes ++ w.bytes in
    record {
      bytes = s.0 ++ more;
      are_bytes = both_bytes s.0 more s.1 (both_bytes v.bytes w.bytes v.are_bytes w.are_bytes);
      spelled = (size, (s.0, more, refl, s.2, (v.bytes, w.bytes, refl, (refl, v.spelled), w.spelled)));
      few = omega (arith, v.few, w.few, s.2.spells.short, length-append s.0 more, length-append v.bytes w.bytes);
      one = one_window inside rest v.one w.one;
    }

-- ---- a section, or nothing where it has no entries

id_small : (part : Part) → id_of part < 256
id_small types = omega arith
id_small _ = omega arith

pub within_empty : (t : Module) (part : Part) {rest : Fields} {n : ℕ} → is_empty part t ≡ true → Within rest n
    → Within (filled t part rest) n
within_empty t part {rest} {n} e w = subst (λ f. Within f n) (sym (filled-empty t part rest e)) w

pub within_filled : (t : Module) (part : Part) {rest : Fields} {m n : ℕ} → m < 2 ^ 32 → Within (content part t finished) m → Within rest n
    → Within (filled t part rest) (6 + m + n)
within_filled t part {rest} {m} {n} small inside w = elim (cases_Bool (is_empty part t)) [
  | inl e ↦ subst (λ f. Within f (6 + m + n)) (sym (filled-empty t part rest e)) (within_more (6 + m + n) (omega arith) w)
  | inr e ↦ subst (λ f. Within f (6 + m + n)) (sym (filled-full t part rest e))
      (within_more (6 + m + n) (omega arith) (within_byte (id_of part) (id_small part) (within_window small inside w)))
]
