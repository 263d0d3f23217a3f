-- Each number of 32 bits has a shortest spelling in bytes.
use Rattle.w2c_gen.proofs.Common.{◌≡◌, ℕ, ◌+◌, ◌%◌, ◌^◌, ◌<◌, List, [], ◌∷◌, length, ℤ, sym, refl, ap, ◌∙◌, arith, IsNumberRun}
use Rattle.w2c_gen.proofs.Common.{SpellsSigned, SpellsUnsigned, seven_bit_sum, signed_sum, InRange, IsShortest, AreBytes}
use Rattle.leb_bytes.proofs.Existence.{shortest_signed, shortest_unsigned}

-- of all but the last what counts is the low seven bits, and that they are at least 128
in_bytes : List ℕ → List ℕ
in_bytes [] = []
in_bytes (b ∷ []) = b ∷ []
in_bytes (b ∷ c ∷ bs) = (128 + b % 128) ∷ in_bytes (c ∷ bs)

in_bytes-run : (bytes : List ℕ) → IsNumberRun bytes → IsNumberRun (in_bytes bytes)
unfolding in_bytes
in_bytes-run [] run = run
in_bytes-run (b ∷ []) run = run
in_bytes-run (b ∷ c ∷ []) run = (omega arith, run.1)
in_bytes-run (b ∷ c ∷ d ∷ bs) run = (omega arith, in_bytes-run (c ∷ d ∷ bs) run.1)

in_bytes-bytes : (bytes : List ℕ) → IsNumberRun bytes → AreBytes (in_bytes bytes)
unfolding in_bytes
in_bytes-bytes [] run = tt
in_bytes-bytes (b ∷ []) run = (omega (arith, run), tt)
in_bytes-bytes (b ∷ c ∷ bs) run = (omega arith, in_bytes-bytes (c ∷ bs) run.1)

length-in_bytes : (bytes : List ℕ) → length (in_bytes bytes) ≡ length bytes
unfolding in_bytes
length-in_bytes [] = refl
length-in_bytes (b ∷ []) = refl
length-in_bytes (b ∷ c ∷ bs) = omega (arith, length-in_bytes (c ∷ bs))

seven_bit_sum-in_bytes : (bytes : List ℕ) → seven_bit_sum (in_bytes bytes) ≡ seven_bit_sum bytes
unfolding in_bytes
seven_bit_sum-in_bytes [] = refl
seven_bit_sum-in_bytes (b ∷ []) = refl
seven_bit_sum-in_bytes (b ∷ c ∷ bs) = omega (arith, seven_bit_sum-in_bytes (c ∷ bs))

pub unsigned_in_bytes : (n : ℕ) → n < 2 ^ 32 → (bytes : List ℕ) × AreBytes bytes × IsShortest (SpellsUnsigned 32) bytes n
unsigned_in_bytes n fits =
    let some = shortest_unsigned 32 n (omega arith) fits in
    let bytes = some.0 in
    let spells = some.1.spells in
    let same = length-in_bytes bytes in
    let shortest : IsShortest (SpellsUnsigned 32) (in_bytes bytes) n = record {
      spells = record {
        run = in_bytes-run bytes spells.run;
        short = omega (arith, same, spells.short);
        value = spells.value ∙ sym (seven_bit_sum-in_bytes bytes);
        fits = spells.fits;
      };
      least = λ other h. omega (arith, same, some.1.least other h);
    } in
    (in_bytes bytes, in_bytes-bytes bytes spells.run, shortest)

pub signed_in_bytes : (z : ℤ) → InRange 32 z → (bytes : List ℕ) × AreBytes bytes × IsShortest (SpellsSigned 32) bytes z
signed_in_bytes z fits =
    let some = shortest_signed 32 z (omega arith) fits in
    let bytes = some.0 in
    let spells = some.1.spells in
    let same = length-in_bytes bytes in
    let shortest : IsShortest (SpellsSigned 32) (in_bytes bytes) z = record {
      spells = record {
        run = in_bytes-run bytes spells.run;
        short = omega (arith, same, spells.short);
        value = spells.value ∙ ap (signed_sum (length bytes)) (sym (seven_bit_sum-in_bytes bytes))
            ∙ ap (λ k. signed_sum k (seven_bit_sum (in_bytes bytes))) (sym same);
        low = spells.low;
        high = spells.high;
      };
      least = λ other h. omega (arith, same, some.1.least other h);
    } in
    (in_bytes bytes, in_bytes-bytes bytes spells.run, shortest)
