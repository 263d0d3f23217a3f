-- Rows of bytes: in halves that are numbers, and one byte after another.
use Rattle.crun_lines.proofs.Common.{◌≡◌, ℕ, suc, ◌+◌, ◌-◌, ◌*◌, ◌<◌, ◌&&◌, List, [], ◌∷◌, ◌++◌, length, get_or, take, drop, set, ◌==◌}
use Rattle.crun_lines.proofs.Common.{slice_range, sym, refl, ap, ◌∙◌, add-one, arith, length-drop, get_or-drop, drop-cons, take-suc}
use Rattle.crun_lines.proofs.Common.{drop-drop, take-suc-set, take-add, list_all, bytes_at, little_endian}
use Rattle.std.proofs.Math.Seq.{take-length}
use Rattle.std.proofs.lemmas.Bool.Decides.{nat_tests}
use Rattle.std.proofs.lemmas.List.Folds.{list_all-append}

sum_is_zero : (b n : ℕ) → (b + 256 * n == 0) ≡ ((b == 0) && (n == 0))
sum_is_zero b n = grind (arith, nat_tests)

number_is_zero : (bytes : List ℕ) → (little_endian bytes == 0) ≡ list_all (λ b. b == 0) bytes
number_is_zero [] = refl
number_is_zero (b ∷ bytes) = sum_is_zero b (little_endian bytes) ∙ ap (λ t. (b == 0) && t) (number_is_zero bytes)

halves : (bytes : List ℕ) (at : ℕ) → bytes_at bytes at 16 ≡ bytes_at bytes at 8 ++ bytes_at bytes (at + 8) 8
halves bytes at = take-add 8 8 (drop at bytes) ∙ ap (λ rest. take 8 (drop at bytes) ++ take 8 rest) (drop-drop 8 at bytes)

row_is_zero : (bytes : List ℕ) (at : ℕ)
    → ((little_endian (bytes_at bytes at 8) == 0) && (little_endian (bytes_at bytes (at + 8) 8) == 0))
    ≡ list_all (λ b. b == 0) (bytes_at bytes at 16)
row_is_zero bytes at =
    rw (number_is_zero (bytes_at bytes at 8), number_is_zero (bytes_at bytes (at + 8) 8), halves bytes at)
    (sym (list_all-append (λ b. b == 0) (bytes_at bytes at 8) (bytes_at bytes (at + 8) 8)))

-- a range of eight bytes
eight : (bytes : List ℕ) (at : ℕ) → slice_range bytes at (at + 8) ≡ bytes_at bytes at 8
eight bytes at = let e : at + 8 - at ≡ 8 = omega arith in ap (λ n. take n (drop at bytes)) e

-- the numbers in both halves say whether a row is 0
pub halves_tell : (bytes : List ℕ) (at m n : ℕ) → m ≡ little_endian (slice_range bytes at (at + 8))
    → n ≡ little_endian (slice_range bytes (at + 8) (at + 8 + 8))
    → ((m == 0) && (n == 0)) ≡ list_all (λ b. b == 0) (bytes_at bytes at 16)
halves_tell bytes at m n low high =
    rw (low, high, eight bytes at, eight bytes (at + 8)) (row_is_zero bytes at)

pub low_is_zero : (bytes : List ℕ) (at m n : ℕ) → m ≡ little_endian (slice_range bytes at (at + 8))
    → n ≡ little_endian (slice_range bytes (at + 8) (at + 8 + 8)) → m ≡ 0
    → (n == 0) ≡ list_all (λ b. b == 0) (bytes_at bytes at 16)
low_is_zero bytes at m n low high e = ap (λ (k : ℕ). (k == 0) && (n == 0)) (sym e) ∙ halves_tell bytes at m n low high

-- one more byte of a row
pub one_more : (bytes row : List ℕ) (at i b : ℕ) → i < length row → at + i < length bytes
    → b ≡ little_endian (slice_range bytes (at + i) (at + i + 1)) → take i row ≡ bytes_at bytes at i
    → take (i + 1) (set row i b) ≡ bytes_at bytes at (i + 1)
one_more bytes row at i b lt within is e =
    let first : take (suc i) (set row i b) ≡ take i row ++ b ∷ [] = take-suc-set row i b lt in
    let second : take (suc i) (drop at bytes) ≡ take i (drop at bytes) ++ get_or (drop at bytes) i 0 ∷ [] =
    take-suc (drop at bytes) i 0 (omega (arith, length-drop at bytes)) in
    let byte : b ≡ get_or (drop at bytes) i 0 = is ∙ one_byte bytes (at + i) within ∙ sym (get_or-drop at bytes i 0) in
    rw add-one (first ∙ ap (λ front. front ++ b ∷ []) e ∙ ap (λ last. bytes_at bytes at i ++ last ∷ []) byte ∙ sym second) where
      one_byte : (bytes : List ℕ) (at : ℕ) → at < length bytes → little_endian (slice_range bytes at (at + 1)) ≡ get_or bytes at 0
      one_byte bytes at within =
          let e : at + 1 - at ≡ 1 = omega arith in
          let cut : drop at bytes ≡ get_or bytes at 0 ∷ drop (suc at) bytes = drop-cons bytes at 0 within in
          ap (λ n. little_endian (take n (drop at bytes))) e ∙ ap (λ rest. little_endian (take 1 rest)) cut ∙ omega arith

-- all bytes of a row
pub whole_row : (bytes row : List ℕ) (at i : ℕ) → i ≡ 16 → length row ≡ 16 → take i row ≡ bytes_at bytes at i → row ≡ bytes_at bytes at 16
whole_row bytes row at i e size read =
    sym (take-length row) ∙ ap (λ n. take n row) (size ∙ sym e) ∙ read ∙ ap (λ n. bytes_at bytes at n) e
