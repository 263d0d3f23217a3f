-- The bytes in front that pass a test.
use Rattle.c_lex.proofs.Common.{◌≡◌, ℕ, suc, ◌+◌, ◌-◌, ◌<◌, ◌≤◌, Bool, true, false, cond, not, ◌&&◌, List, [], ◌∷◌, ◌++◌, length, get_or}
use Rattle.c_lex.proofs.Common.{take, drop, ◌==◌, slice_index, Some, None, Option, option_map, sym, refl, ap, ◌∙◌, append_assoc, append-nil}
use Rattle.c_lex.proofs.Common.{add-one, arith, length-drop, length-take-le, drop-cons, list_all, Begins, are_digits, comment_end}
use Rattle.c_lex.proofs.Common.{comment_front, front, is_blank, is_comment_byte, is_digit, is_letter, is_word_byte, longer, one_sign, past}
use Rattle.c_lex.proofs.Common.{run, run_token, sign_front, two_sign, word_token, Token}
use Rattle.std.proofs.lemmas.List.{take_more, drop_all}

pub run_more : (p : ℕ → Bool) (xs : List ℕ) (i : ℕ) → i < length xs → p (get_or xs i 0) ≡ true → take i xs ++ run p (drop i xs) ≡ run p xs
    → take (i + 1) xs ++ run p (drop (i + 1) xs) ≡ run p xs
run_more p xs i lt passes so_far =
    let d : drop i xs ≡ get_or xs i 0 ∷ drop (i + 1) xs = rw add-one (drop-cons xs i 0 lt) in
    let r : run p (drop i xs) ≡ get_or xs i 0 ∷ run p (drop (i + 1) xs) = rw (d, passes) refl in
    let t : take (i + 1) xs ≡ take i xs ++ get_or xs i 0 ∷ [] = take_more xs i 0 lt in
    rw t (append_assoc (take i xs) (get_or xs i 0 ∷ []) (run p (drop (i + 1) xs))) ∙ ap (λ ys. take i xs ++ ys) (sym r) ∙ so_far

pub run_stops : (p : ℕ → Bool) (xs : List ℕ) (i : ℕ) → i < length xs → p (get_or xs i 0) ≡ false → take i xs ++ run p (drop i xs) ≡ run p xs
    → take i xs ≡ run p xs
run_stops p xs i lt off so_far =
    let d : drop i xs ≡ get_or xs i 0 ∷ drop (i + 1) xs = rw add-one (drop-cons xs i 0 lt) in
    let r : run p (drop i xs) ≡ [] = rw (d, off) refl in
    sym (append-nil (take i xs)) ∙ ap (λ ys. take i xs ++ ys) (sym r) ∙ so_far

pub run_ends : (p : ℕ → Bool) (xs : List ℕ) (i : ℕ) → length xs ≤ i → take i xs ++ run p (drop i xs) ≡ run p xs → take i xs ≡ run p xs
run_ends p xs i le so_far =
    let r : run p (drop i xs) ≡ [] = rw (drop_all i xs le) refl in
    sym (append-nil (take i xs)) ∙ ap (λ ys. take i xs ++ ys) (sym r) ∙ so_far

pub no_digits : (ds : List ℕ) → length ds ≡ 0 → are_digits ds ≡ false
no_digits [] e = refl
no_digits (d ∷ ds) e = absurd (omega arith)

pub one_digit : (ds : List ℕ) → length ds ≡ 1 → are_digits ds ≡ is_digit (slice_index ds 0)
one_digit [] e = absurd (omega arith)
one_digit (d ∷ []) e = refl
one_digit (d ∷ x ∷ ds) e = absurd (omega arith)

pub more_digits : (ds : List ℕ) → 2 ≤ length ds
    → are_digits ds ≡ ((is_digit (slice_index ds 0) && not (slice_index ds 0 == 48)) && list_all is_digit (drop 1 ds))
more_digits [] e = absurd (omega arith)
more_digits (d ∷ []) e = absurd (omega arith)
more_digits (d ∷ x ∷ ds) e = refl

past_drops : (p : ℕ → Bool) (xs : List ℕ) → past p xs ≡ drop (length (run p xs)) xs
past_drops p [] = refl
past_drops p (x ∷ xs) = by (p x) refl (past_drops p xs)
  where
    by : (b : Bool) → p x ≡ b → past p xs ≡ drop (length (run p xs)) xs → past p (x ∷ xs) ≡ drop (length (run p (x ∷ xs))) (x ∷ xs)
    by true e ih = rw (e, ih) refl
    by false e ih = rw e refl

pub past_is : (p : ℕ → Bool) (xs : List ℕ) (n : ℕ) → n ≤ length xs → take n xs ≡ run p xs → past p xs ≡ drop n xs
past_is p xs n le is = past_drops p xs ∙ ap (λ k. drop k xs) (sym (ap length is) ∙ length-take-le n xs le)

-- the length from a place on, behind so many bytes
abbrev pub shifted : ℕ → Option ℕ → Option ℕ
shifted i None = None
shifted i (Some n) = Some (i + n)

pub comment_short : (xs : List ℕ) (i : ℕ) → length xs ≤ i + 1 → comment_end (drop i xs) ≡ None
comment_short xs i le = by (drop i xs) (length-drop i xs)
  where
    by : (ys : List ℕ) → length ys ≡ length xs - i → comment_end ys ≡ None
    by [] e = refl
    by (y ∷ []) e = refl
    by (y ∷ z ∷ ys) e = absurd (omega arith)

drop_two : (xs : List ℕ) (i : ℕ) → i + 1 < length xs → drop i xs ≡ get_or xs i 0 ∷ get_or xs (i + 1) 0 ∷ drop (i + 1 + 1) xs
drop_two xs i lt =
    let a : drop i xs ≡ get_or xs i 0 ∷ drop (i + 1) xs = rw (add-one i) (drop-cons xs i 0 (omega arith)) in
    let b : drop (i + 1) xs ≡ get_or xs (i + 1) 0 ∷ drop (i + 1 + 1) xs = rw (add-one (i + 1)) (drop-cons xs (i + 1) 0 lt) in
    a ∙ ap (λ ys. get_or xs i 0 ∷ ys) b

pub comment_closed : (xs : List ℕ) (i : ℕ) → i + 1 < length xs → comment_end xs ≡ shifted i (comment_end (drop i xs))
    → ((get_or xs i 0 == 42) && (get_or xs (i + 1) 0 == 47)) ≡ true → comment_end xs ≡ Some (i + 2)
comment_closed xs i lt so_far e =
    let s : comment_end (drop i xs) ≡ Some 2 = rw (drop_two xs i lt, e) refl in
    so_far ∙ ap (shifted i) s

pub comment_bad : (xs : List ℕ) (i : ℕ) → i + 1 < length xs → comment_end xs ≡ shifted i (comment_end (drop i xs))
    → ((get_or xs i 0 == 42) && (get_or xs (i + 1) 0 == 47)) ≡ false → is_comment_byte (get_or xs i 0) ≡ false → comment_end xs ≡ None
comment_bad xs i lt so_far e bad =
    let s : comment_end (drop i xs) ≡ None = rw (drop_two xs i lt, e, bad) refl in
    so_far ∙ ap (shifted i) s

shifted_more : (i : ℕ) (o : Option ℕ) → shifted i (option_map suc o) ≡ shifted (i + 1) o
shifted_more i None = refl
shifted_more i (Some n) = ap Some (omega arith)

pub comment_more : (xs : List ℕ) (i : ℕ) → i + 1 < length xs → comment_end xs ≡ shifted i (comment_end (drop i xs))
    → ((get_or xs i 0 == 42) && (get_or xs (i + 1) 0 == 47)) ≡ false → is_comment_byte (get_or xs i 0) ≡ true
    → comment_end xs ≡ shifted (i + 1) (comment_end (drop (i + 1) xs))
comment_more xs i lt so_far e good =
    let b : drop (i + 1) xs ≡ get_or xs (i + 1) 0 ∷ drop (i + 1 + 1) xs = rw (add-one (i + 1)) (drop-cons xs (i + 1) 0 lt) in
    let s : comment_end (drop i xs) ≡ option_map suc (comment_end (drop (i + 1) xs)) =
    rw (drop_two xs i lt, e, good) (ap (λ ys. option_map suc (comment_end ys)) (sym b)) in
    so_far ∙ ap (shifted i) s ∙ shifted_more i (comment_end (drop (i + 1) xs))

pub sign_last : (b : ℕ) (rest : List ℕ) → length rest ≡ 0 → sign_front b rest ≡ Begins (one_sign b) 0
sign_last b [] e = refl
sign_last b (c ∷ rest) e = absurd (omega arith)

pub sign_more : (b : ℕ) (rest : List ℕ) → 0 < length rest
    → sign_front b rest ≡ cond ((b == 47) && (slice_index rest 0 == 42)) (comment_front (comment_end (drop 1 rest)))
    (longer (two_sign b (slice_index rest 0)) (one_sign b))
sign_more b [] some = absurd (omega arith)
sign_more b (c ∷ rest) some = refl

-- a text that is not empty, by its first byte
pub front_cons : (xs : List ℕ) → 0 < length xs → xs ≡ slice_index xs 0 ∷ drop 1 xs
front_cons [] some = absurd (omega arith)
front_cons (x ∷ xs) some = refl

run_cons : (p : ℕ → Bool) (xs : List ℕ) (n : ℕ) → 0 < length xs → n ≤ length (drop 1 xs) → take n (drop 1 xs) ≡ run p (drop 1 xs)
    → (take (n + 1) xs ≡ slice_index xs 0 ∷ run p (drop 1 xs)) × (length (run p (drop 1 xs)) ≡ n)
run_cons p [] n some le is = absurd (omega arith)
run_cons p (x ∷ xs) n some le is = (rw add-one (ap (λ ys. x ∷ ys) is), sym (ap length is) ∙ length-take-le n xs le)

pub word_front : (xs rest : List ℕ) (n : ℕ) (t : Token) → 0 < length xs → rest ≡ drop 1 xs → n ≤ length rest
    → take n rest ≡ run is_word_byte rest → t ≡ word_token (take (n + 1) xs)
    → is_blank (slice_index xs 0) ≡ false → is_letter (slice_index xs 0) ≡ true → Begins t n ≡ front (slice_index xs 0) (drop 1 xs)
word_front xs rest n t some behind le is same blank letter =
    let w = run_cons is_word_byte xs n some (rw behind at le) (rw behind at is) in
    let f : front (slice_index xs 0) (drop 1 xs)
    ≡ Begins (word_token (slice_index xs 0 ∷ run is_word_byte (drop 1 xs))) (length (run is_word_byte (drop 1 xs))) =
    rw (blank, letter) refl in
    ap (λ u. Begins u n) (same ∙ ap word_token w.0)
    ∙ ap (λ k. Begins (word_token (slice_index xs 0 ∷ run is_word_byte (drop 1 xs))) k) (sym w.1) ∙ sym f

pub number_front : (xs rest : List ℕ) (n : ℕ) (t : Token) → 0 < length xs → rest ≡ drop 1 xs → n ≤ length rest
    → take n rest ≡ run is_word_byte rest → t ≡ run_token (take (n + 1) xs)
    → is_blank (slice_index xs 0) ≡ false → is_letter (slice_index xs 0) ≡ false → is_digit (slice_index xs 0) ≡ true
    → Begins t n ≡ front (slice_index xs 0) (drop 1 xs)
number_front xs rest n t some behind le is same blank letter digit =
    let w = run_cons is_word_byte xs n some (rw behind at le) (rw behind at is) in
    let f : front (slice_index xs 0) (drop 1 xs)
    ≡ Begins (run_token (slice_index xs 0 ∷ run is_word_byte (drop 1 xs))) (length (run is_word_byte (drop 1 xs))) =
    rw (blank, letter, digit) refl in
    ap (λ u. Begins u n) (same ∙ ap run_token w.0)
    ∙ ap (λ k. Begins (run_token (slice_index xs 0 ∷ run is_word_byte (drop 1 xs))) k) (sym w.1) ∙ sym f
