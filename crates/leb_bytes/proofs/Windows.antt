-- What stands at the front of a window: the answer that is computed is the one that the bytes have.
use Rattle.leb_bytes.proofs.Common.{◌≡◌, ℕ, zero, suc, ◌+◌, ◌-◌, ◌*◌, ◌/◌, ◌^◌, ◌<◌, ◌≤◌, Bool, true, false, cond, ltb, leb, ◌≢◌, List, []}
use Rattle.leb_bytes.proofs.Common.{◌∷◌, ◌++◌, length, get_or, take, ℤ, pos, ◌-ℤ◌, ◌≤ℤ◌, ◌<ℤ◌, int_lt, int_le, Ok, Err, Result, sym, refl}
use Rattle.leb_bytes.proofs.Common.{ap, ◌∙◌, subst, inl, inr, arith, length-append, length-take-le, pow_mono, ltb-false, ltb-true, le-ltb}
use Rattle.leb_bytes.proofs.Common.{lt-ltb, le-leb, leb-false, take-append_seam, take-length, and_from, and_parts, cases_lt, lt-leb, ints}
use Rattle.leb_bytes.proofs.Common.{All-cons, All-head, All-nil, All-tail, IsNumberRun, SpellsSigned, SpellsUnsigned, most_bytes}
use Rattle.leb_bytes.proofs.Common.{seven_bit_sum, signed_sum, count_of, fits_signed, fitting, signed_after, signed_of, unsigned_after}
use Rattle.leb_bytes.proofs.Common.{unsigned_of, Answers, AnswersSigned, AnswersUnsigned, GoOn, HasBitsPast, HasBitsUnlikeSign, InRange}
use Rattle.leb_bytes.proofs.Common.{IsRunOf, NeverWrong, LebFault, Ends, TooLong, Unused, true≢false}
use Rattle.std.specs.List.{prefix_len}
use Rattle.std.proofs.lemmas.List.Sums.{prefix_len-le-length, prefix_len_stops}
use Rattle.leb_bytes.proofs.Fits.{Unlike, below-div_zero, div-zero_below, in_range_short, in_range_unlike, unlike_from}
use Rattle.leb_bytes.proofs.Runs.{IsNumberRun-from_go_on, IsNumberRun-some, seven_bit_sum-below}

-- ---- a run that fits is a spelling, and one that does not has wrong bits

pub sum-below : (k : ℕ) (window : List ℕ) → k ≤ length window → seven_bit_sum (take k window) < 2 ^ (7 * k)
sum-below k window within =
    subst (λ n. seven_bit_sum (take k window) < 2 ^ (7 * n)) (length-take-le k window within) (seven_bit_sum-below (take k window))

run-some : (k : ℕ) (window : List ℕ) → k ≤ length window → IsNumberRun (take k window) → 0 < k
run-some k window within r = subst (λ n. 0 < n) (length-take-le k window within) (IsNumberRun-some (take k window) r)

pub unsigned-fits : (width k s : ℕ) (window : List ℕ) → IsRunOf (most_bytes width) (take k window) s → s < 2 ^ width
    → SpellsUnsigned width (take k window) s
unsigned-fits width k s window r fits = record { run = r.run; short = r.short; value = r.value; fits = fits }

pub unsigned-wrong : (width k s : ℕ) (window : List ℕ) → k ≤ length window → IsRunOf (most_bytes width) (take k window) s → 2 ^ width ≤ s
    → (most_bytes width ≤ length window) × HasBitsPast width (take (most_bytes width) window)
unsigned-wrong width k s window within r big =
    let below = sum-below k window within in
    let length = length-take-le k window within in
    elim (cases_lt k (most_bytes width)) [
      | inl less ↦
          let room : 2 ^ (7 * k) ≤ 2 ^ width = pow_mono {i = 7 * k} {j = width} (omega (arith, less)) in
          absurd (omega (arith, below, room, big, r.value))
      | inr past ↦
          let e : k ≡ most_bytes width = omega (arith, past, r.short, length) in
          let wrong : HasBitsPast width (take k window) =
          record {
            run = r.run;
            past = λ z. omega (
              arith,
              div-zero_below (seven_bit_sum (take k window)) (2 ^ width) (omega (arith, pow_mono {i = 0} {j = width} (omega arith))) z,
              r.value,
              big,
            );
          } in
          (omega (arith, e, within), subst (λ n. HasBitsPast width (take n window)) e wrong)
    ]

pub signed-fits : (width k s : ℕ) (window : List ℕ) → k ≤ length window → IsRunOf (most_bytes width) (take k window) s
    → InRange width (signed_sum k s) → SpellsSigned width (take k window) (signed_sum k s)
signed-fits width k s window within r fits =
    let e : signed_sum k s ≡ signed_sum (length (take k window)) (seven_bit_sum (take k window)) =
    ap (λ n. signed_sum n s) (sym (length-take-le k window within)) ∙ ap (signed_sum (length (take k window))) r.value in
    record { run = r.run; short = r.short; value = e; low = fits.low; high = fits.high }

pub signed-wrong : (width k s : ℕ) (window : List ℕ) → 0 < width → k ≤ length window → IsRunOf (most_bytes width) (take k window) s
    → (InRange width (signed_sum k s) → ⊥) → (most_bytes width ≤ length window) × HasBitsUnlikeSign width (take (most_bytes width) window)
signed-wrong width k s window wide within r out =
    let some = run-some k window within r.run in
    let lt : s < 2 ^ (7 * k) = omega (arith, sum-below k window within, r.value) in
    let length = length-take-le k window within in
    elim (cases_lt k (most_bytes width)) [
      | inl less ↦ absurd (out (in_range_short width k s some less lt))
      | inr past ↦
          let e : k ≡ most_bytes width = omega (arith, past, r.short, length) in
          let u : Unlike width k s = unlike_from width k s some wide (omega (arith, past)) lt out in
          let wrong : HasBitsUnlikeSign width (take k window) = record {
            run = r.run;
            set = λ z. u.set (ap (λ n. n / 2 ^ (width - 1)) r.value ∙ z);
            clear = λ z. u.clear (ap (λ n. n / 2 ^ (width - 1)) r.value ∙ z ∙ ap (λ n. 2 ^ (7 * n - (width - 1)) - 1) length);
          } in
          (omega (arith, e, within), subst (λ n. HasBitsUnlikeSign width (take n window)) e wrong)
    ]

-- where no width is looked at, the other faults are the same
pub same_fault : {A B : Type 0} (most : ℕ) (Spells : List ℕ → A → Type 0) (Other : List ℕ → B → Type 0) (Wrong : List ℕ → Type 0)
    (window : List ℕ) (f : LebFault) → Answers most Spells NeverWrong window (Err f) → Answers most Other Wrong window (Err f)
same_fault most Spells Other Wrong window Ends a = a
same_fault most Spells Other Wrong window TooLong a = a
same_fault most Spells Other Wrong window Unused a = absurd a.1

-- ---- how many bytes

abbrev lead : List ℕ → ℕ
lead window = prefix_len (λ b. leb 128 b) window

lead-top : (b : ℕ) (bs : List ℕ) → 128 ≤ b → lead (b ∷ bs) ≡ 1 + lead bs
lead-top b bs top = ap (λ t. cond t (1 + lead bs) 0) (le-leb 128 b top)

lead-last : (b : ℕ) (bs : List ℕ) → b < 128 → lead (b ∷ bs) ≡ 0
lead-last b bs last = ap (λ t. cond t (1 + lead bs) 0) (lt-leb 128 b last)

lead-run : (k : ℕ) (window : List ℕ) → k ≤ length window → IsNumberRun (take k window) → suc (lead window) ≡ k
lead-run zero window within r = absurd r
lead-run (suc k) [] within r = absurd r
lead-run (suc zero) (b ∷ bs) within r = omega (arith, lead-last b bs r)
lead-run (suc (suc k)) (b ∷ []) within r = absurd (omega (arith, within))
lead-run (suc (suc k)) (b ∷ c ∷ bs) within r = omega (arith, lead-top b (c ∷ bs) r.0, lead-run (suc k) (c ∷ bs) (omega (arith, within)) r.1)

lead-go_on : (k : ℕ) (window : List ℕ) → k ≤ length window → GoOn (take k window) → k ≤ lead window
lead-go_on zero window within g = omega arith
lead-go_on (suc k) [] within g = absurd (omega (arith, within))
lead-go_on (suc k) (b ∷ bs) within g =
    let top = lead-top b bs (All-head (λ b. 128 ≤ b) b (take k bs) g) in
    let rest = lead-go_on k bs (omega (arith, within)) (All-tail (λ b. 128 ≤ b) b (take k bs) g) in
    omega (arith, top, rest)

go_on-lead : (k : ℕ) (window : List ℕ) → k ≤ lead window → GoOn (take k window)
go_on-lead zero window le = All-nil (λ b. 128 ≤ b)
go_on-lead (suc k) [] le = absurd (omega (arith, le))
go_on-lead (suc k) (b ∷ bs) le =
    elim (cases_lt b 128) [
      | inl last ↦ absurd (omega (arith, le, lead-last b bs last))
      | inr top ↦ All-cons (λ b. 128 ≤ b) b (take k bs) top (go_on-lead k bs (omega (arith, le, lead-top b bs top)))
    ]

count_of-run : (most k : ℕ) (window : List ℕ) → k ≤ length window → k ≤ most → IsNumberRun (take k window) → count_of most window ≡ Ok k
count_of-run most k window within short r =
    let l = lead window in
    let e = lead-run k window within r in
    let below : ltb l most ≡ true = lt-ltb l most (omega (arith, e, short)) in
    let inside : ltb l (length window) ≡ true = lt-ltb l (length window) (omega (arith, e, within)) in
    let n : l + 1 ≡ k = omega (arith, e) in
    ap (λ t. cond t (cond (ltb l (length window)) (Ok (l + 1)) (Err Ends)) (Err TooLong)) below
    ∙ ap (λ t. cond t (Ok (l + 1)) (Err Ends)) inside
    ∙ ap Ok n

count_of-ends : (most : ℕ) (window : List ℕ) → length window < most → GoOn window → count_of most window ≡ Err Ends
count_of-ends most window short g =
    let l = lead window in
    let all : GoOn (take (length window) window) = subst GoOn (sym (take-length window)) g in
    let le = lead-go_on (length window) window (omega arith) all in
    let whole = prefix_len-le-length (λ b. leb 128 b) window in
    let below : ltb l most ≡ true = lt-ltb l most (omega (arith, whole, short)) in
    let outside : ltb l (length window) ≡ false = le-ltb l (length window) le in
    ap (λ t. cond t (cond (ltb l (length window)) (Ok (l + 1)) (Err Ends)) (Err TooLong)) below
    ∙ ap (λ t. cond t (Ok (l + 1)) (Err Ends)) outside

count_of-too_long : (most : ℕ) (window : List ℕ) → most ≤ length window → GoOn (take most window) → count_of most window ≡ Err TooLong
count_of-too_long most window within g =
    let l = lead window in
    let past : ltb l most ≡ false = le-ltb l most (lead-go_on most window within g) in
    ap (λ t. cond t (cond (ltb l (length window)) (Ok (l + 1)) (Err Ends)) (Err TooLong)) past

-- what a count says
abbrev Counts : ℕ → List ℕ → Result ℕ LebFault → Type 0
Counts most window (Ok k) = (k ≤ length window) × (k ≤ most) × IsNumberRun (take k window)
Counts most window (Err Ends) = (length window < most) × GoOn window
Counts most window (Err TooLong) = (most ≤ length window) × GoOn (take most window)
Counts most window (Err Unused) = ⊥

counts-at : (most : ℕ) (window : List ℕ) (t u : Bool) → ltb (lead window) most ≡ t → ltb (lead window) (length window) ≡ u
    → Counts most window (cond t (cond u (Ok (lead window + 1)) (Err Ends)) (Err TooLong))
counts-at most window true true below inside =
    let l = lead window in
    let lt : l < length window = ltb-true l (length window) inside in
    let last : get_or window l 0 < 128 = leb-false 128 (get_or window l 0) (prefix_len_stops (λ b. leb 128 b) window 0 lt) in
    let r : IsNumberRun (take (suc l) window) = IsNumberRun-from_go_on l window (go_on-lead l window (omega arith)) lt last in
    let e : suc l ≡ l + 1 = omega arith in
    (omega (arith, lt), omega (arith, ltb-true l most below), subst (λ n. IsNumberRun (take n window)) e r)
counts-at most window true false below outside =
    let l = lead window in
    let le = ltb-false l (length window) outside in
    let whole = prefix_len-le-length (λ b. leb 128 b) window in
    (omega (arith, ltb-true l most below, le), subst GoOn (take-length window) (go_on-lead (length window) window le))
counts-at most window false u past v =
    let l = lead window in
    let le = ltb-false l most past in
    (omega (arith, le, prefix_len-le-length (λ b. leb 128 b) window), go_on-lead most window le)

counts : (most : ℕ) (window : List ℕ) → Counts most window (count_of most window)
counts most window = counts-at most window (ltb (lead window) most) (ltb (lead window) (length window)) refl refl

-- ---- the answer without a sign

fitting-true : {A : Type 0} (t : Bool) (n : A) (k : ℕ) → t ≡ true → fitting t n k ≡ Ok (n, k)
fitting-true t n k e = ap (λ u. fitting u n k) e

fitting-false : {A : Type 0} (t : Bool) (n : A) (k : ℕ) → t ≡ false → fitting t n k ≡ Err Unused
fitting-false t n k e = ap (λ u. fitting u n k) e

-- any answer that the bytes have is the one that is computed
pub unsigned_of-complete : (width : ℕ) (window : List ℕ) (r : Result (ℕ × ℕ) LebFault) → AnswersUnsigned width window r
    → unsigned_of width window ≡ r
unsigned_of-complete width window (Ok x) a =
    let k = x.1 in
    let s = seven_bit_sum (take k window) in
    let short : k ≤ most_bytes width = omega (arith, a.1.short, length-take-le k window a.0) in
    let fits : ltb s (2 ^ width) ≡ true = lt-ltb s (2 ^ width) (omega (arith, a.1.value, a.1.fits)) in
    ap (unsigned_after width window) (count_of-run (most_bytes width) k window a.0 short a.1.run)
    ∙ fitting-true (ltb s (2 ^ width)) s k fits
    ∙ ap (λ n. Ok (n, k)) (sym a.1.value)
unsigned_of-complete width window (Err Ends) a = ap (unsigned_after width window) (count_of-ends (most_bytes width) window a.0 a.1)
unsigned_of-complete width window (Err TooLong) a = ap (unsigned_after width window) (count_of-too_long (most_bytes width) window a.0 a.1)
unsigned_of-complete width window (Err Unused) a =
    let k = most_bytes width in
    let s = seven_bit_sum (take k window) in
    let big : 2 ^ width ≤ s =
    elim (cases_lt s (2 ^ width)) [ inl less ↦ absurd (a.1.past (below-div_zero s (2 ^ width) less)) | inr more ↦ more ] in
    ap (unsigned_after width window) (count_of-run k k window a.0 (omega arith) a.1.run)
    ∙ fitting-false (ltb s (2 ^ width)) s k (le-ltb s (2 ^ width) big)

unsigned-fitting : (width k : ℕ) (window : List ℕ) (t : Bool) → ltb (seven_bit_sum (take k window)) (2 ^ width) ≡ t → k ≤ length window
    → k ≤ most_bytes width → IsNumberRun (take k window) → AnswersUnsigned width window (fitting t (seven_bit_sum (take k window)) k)
unsigned-fitting width k window true e within short r =
    let s = seven_bit_sum (take k window) in (
      within,
      unsigned-fits width k s window (record { run = r; short = omega (arith, short, length-take-le k window within); value = refl })
          (ltb-true s (2 ^ width) e),
    )
unsigned-fitting width k window false e within short r =
    let s = seven_bit_sum (take k window) in
    unsigned-wrong width k s window within (record { run = r; short = omega (arith, short, length-take-le k window within); value = refl })
    (ltb-false s (2 ^ width) e)

unsigned-after : (width : ℕ) (window : List ℕ) (c : Result ℕ LebFault) → Counts (most_bytes width) window c
    → AnswersUnsigned width window (unsigned_after width window c)
unsigned-after width window (Ok k) h = unsigned-fitting width k window (ltb (seven_bit_sum (take k window)) (2 ^ width)) refl h.0 h.1 h.2
unsigned-after width window (Err Ends) h = h
unsigned-after width window (Err TooLong) h = h
unsigned-after width window (Err Unused) h = absurd h

-- the answer that is computed is one that the bytes have
pub unsigned_of-sound : (width : ℕ) (window : List ℕ) → AnswersUnsigned width window (unsigned_of width window)
unsigned_of-sound width window = unsigned-after width window (count_of (most_bytes width) window) (counts (most_bytes width) window)

-- ---- the answer with a sign

tests_in_range : (width : ℕ) (n : ℤ) → InRange width n → fits_signed width n ≡ true
tests_in_range width n fits =
    and_from (int_le (pos 0 -ℤ pos (2 ^ (width - 1))) n) (int_lt n (pos (2 ^ (width - 1)))) (le-test _ _ fits.low) (lt-test _ _ fits.high)
  where
    le-test : (a b : ℤ) → a ≤ℤ b → int_le a b ≡ true
    le-test a b h = grind (arith, ints)

    lt-test : (a b : ℤ) → a <ℤ b → int_lt a b ≡ true
    lt-test a b h = grind (arith, ints)

in_range_tests : (width : ℕ) (n : ℤ) → fits_signed width n ≡ true → InRange width n
in_range_tests width n e =
    let both = and_parts (int_le (pos 0 -ℤ pos (2 ^ (width - 1))) n) (int_lt n (pos (2 ^ (width - 1)))) e in
    record { low = test-le _ _ both.0; high = test-lt _ _ both.1 }
  where
    test-le : (a b : ℤ) → int_le a b ≡ true → a ≤ℤ b
    test-le a b h = grind (arith, ints)

    test-lt : (a b : ℤ) → int_lt a b ≡ true → a <ℤ b
    test-lt a b h = grind (arith, ints)

false_from : (t : Bool) → (t ≡ true → ⊥) → t ≡ false
false_from true h = absurd (h refl)
false_from false h = refl

pub signed_of-complete : (width : ℕ) (window : List ℕ) (r : Result (ℤ × ℕ) LebFault) → AnswersSigned width window r
    → signed_of width window ≡ r
signed_of-complete width window (Ok x) a =
    let k = x.1 in
    let l = length-take-le k window a.0 in
    let n = signed_sum k (seven_bit_sum (take k window)) in
    let e : x.0 ≡ n = a.1.value ∙ ap (λ j. signed_sum j (seven_bit_sum (take k window))) l in
    let fits : InRange width n = subst (InRange width) e (record { low = a.1.low; high = a.1.high }) in
    ap (signed_after width window) (count_of-run (most_bytes width) k window a.0 (omega (arith, a.1.short, l)) a.1.run)
    ∙ fitting-true (fits_signed width n) n k (tests_in_range width n fits)
    ∙ ap (λ m. Ok (m, k)) (sym e)
signed_of-complete width window (Err Ends) a = ap (signed_after width window) (count_of-ends (most_bytes width) window a.0 a.1)
signed_of-complete width window (Err TooLong) a = ap (signed_after width window) (count_of-too_long (most_bytes width) window a.0 a.1)
signed_of-complete width window (Err Unused) a =
    let k = most_bytes width in
    let s = seven_bit_sum (take k window) in
    let n = signed_sum k s in
    let l = length-take-le k window a.0 in
    let u : Unlike width k s =
    record { set = a.1.set; clear = subst (λ j. s / 2 ^ (width - 1) ≢ 2 ^ (7 * j - (width - 1)) - 1) l a.1.clear } in
    let out : InRange width n → ⊥ = λ fits. in_range_unlike width k s (omega arith) (sum-below k window a.0) fits u in
    ap (signed_after width window) (count_of-run k k window a.0 (omega arith) a.1.run)
    ∙ fitting-false (fits_signed width n) n k (false_from (fits_signed width n) (λ t. out (in_range_tests width n t)))

signed-fitting : (width k : ℕ) (window : List ℕ) (t : Bool) → fits_signed width (signed_sum k (seven_bit_sum (take k window))) ≡ t
    → 0 < width → k ≤ length window → k ≤ most_bytes width → IsNumberRun (take k window)
    → AnswersSigned width window (fitting t (signed_sum k (seven_bit_sum (take k window))) k)
signed-fitting width k window true e wide within short r =
    let s = seven_bit_sum (take k window) in (
      within,
      signed-fits width k s window within
          (record { run = r; short = omega (arith, short, length-take-le k window within); value = refl })
          (in_range_tests width (signed_sum k s) e),
    )
signed-fitting width k window false e wide within short r =
    let s = seven_bit_sum (take k window) in
    let out : InRange width (signed_sum k s) → ⊥ = λ fits. true≢false (sym (tests_in_range width (signed_sum k s) fits) ∙ e) in
    signed-wrong width k s window wide within
    (record { run = r; short = omega (arith, short, length-take-le k window within); value = refl }) out

signed-after : (width : ℕ) (window : List ℕ) (c : Result ℕ LebFault) → 0 < width → Counts (most_bytes width) window c
    → AnswersSigned width window (signed_after width window c)
signed-after width window (Ok k) wide h =
    signed-fitting width k window (fits_signed width (signed_sum k (seven_bit_sum (take k window)))) refl wide h.0 h.1 h.2
signed-after width window (Err Ends) wide h = h
signed-after width window (Err TooLong) wide h = h
signed-after width window (Err Unused) wide h = absurd h

pub signed_of-sound : (width : ℕ) (window : List ℕ) → 0 < width → AnswersSigned width window (signed_of width window)
signed_of-sound width window wide = signed-after width window (count_of (most_bytes width) window) wide (counts (most_bytes width) window)

-- ---- whatever follows a spelling

within : (bytes more : List ℕ) → length bytes ≤ length (bytes ++ more)
within bytes more = simp length-append (omega arith)

pub unsigned_of-append : (width : ℕ) (bytes more : List ℕ) (n : ℕ) → SpellsUnsigned width bytes n
    → unsigned_of width (bytes ++ more) ≡ Ok (n, length bytes)
unsigned_of-append width bytes more n spells =
    unsigned_of-complete width (bytes ++ more) (Ok (n, length bytes))
    (within bytes more, subst (λ b. SpellsUnsigned width b n) (sym (take-append_seam bytes more)) spells)

pub signed_of-append : (width : ℕ) (bytes more : List ℕ) (n : ℤ) → SpellsSigned width bytes n
    → signed_of width (bytes ++ more) ≡ Ok (n, length bytes)
signed_of-append width bytes more n spells =
    signed_of-complete width (bytes ++ more) (Ok (n, length bytes))
    (within bytes more, subst (λ b. SpellsSigned width b n) (sym (take-append_seam bytes more)) spells)
