-- A token that a text may hold is read from its own text as itself, where what follows ends it.
use Rattle.c_tree.proofs.Common.{◌≡◌, ℕ, ◌+◌, Bool, true, false, cond, not, ◌&&◌, ◌||◌, List, [], ◌∷◌, ◌++◌, map, length, IsTrue, nat_le}
use Rattle.c_tree.proofs.Common.{◌==◌, bytes_eq, sym, refl, ap, ◌∙◌, subst, arith, rules, not-true, nat_tests, AllByRecursion, list_all}
use Rattle.c_tree.proofs.Common.{list_any, all_append, of_each, Begins, Lexeme, and_then, are_digits, comment_end, comment_front, front}
use Rattle.c_tree.proofs.Common.{is_blank, is_digit, is_letter, is_word_byte, key_word_among, key_words, lexeme, lexemes, long_signs}
use Rattle.c_tree.proofs.Common.{longer, number_token, one_sign, other_words, past, run, run_token, short_signs, sign_front, two_sign}
use Rattle.c_tree.proofs.Common.{word_token, Fixed, Named, Number, Token, Wrong, fixed_text, same_tok, suffix_text, token_text, IsName, Tok}
use Rattle.c_tree.proofs.Common.{or_parts}
use denote.Enum.Bare.{same_true}
use Rattle.c_tree.specs.contracts.token.Tok.{the_type}
use Rattle.c_tree.specs.declared.token.Tok.TheVariants as tok
use Rattle.c_tree.specs.declared.token.Suffix.{Suffix}
use Rattle.c_tree.specs.declared.token.Suffix.TheVariants.{OfPlain}
use Rattle.w2c_base.proofs.Tests.{all_join}
use Rattle.w2c_base.proofs.Conjunctions.{both_hold}

-- ---- tests

-- ---- what a text may hold

-- the tokens with a text of their own
abbrev pub fixed_toks : List Tok
fixed_toks = tok.Include ∷ (key_words ++ (short_signs ++ long_signs))

abbrev pub is_fixed : Tok → Bool
is_fixed t = list_any (same_tok t) fixed_toks

abbrev pub IsProper : Token → Type 0
IsProper (Fixed t) = IsTrue (is_fixed t)
IsProper (Named name) = IsName name
IsProper (Number suffix digits) = are_digits digits ≡ true
IsProper Wrong = ⊥

-- a byte at which every token before it ends
abbrev pub ends_token : ℕ → Bool
ends_token b = not (is_word_byte b || (b == 42 || (nat_le 60 b && nat_le b 62)))

abbrev pub EndsToken : List ℕ → Type 0
EndsToken [] = Unit {0}
EndsToken (b ∷ rest) = ends_token b ≡ true

-- read in front of what ends it, and in front of anything
abbrev pub IsRead : Token → Type 0
IsRead t =
    (rest : List ℕ) (place : ℕ) → EndsToken rest → (q : ℕ) × (lexemes 0 place (token_text t ++ rest) ≡ lexeme place t ∷ lexemes 0 q rest)

abbrev pub IsReadAnywhere : Token → Type 0
IsReadAnywhere t = (rest : List ℕ) (place : ℕ) → (q : ℕ) × (lexemes 0 place (token_text t ++ rest) ≡ lexeme place t ∷ lexemes 0 q rest)

no_word : (b : ℕ) → ends_token b ≡ true → is_word_byte b ≡ false
no_word b e = (or_parts _ _ (not-true _ e)).0

no_second : (b : ℕ) → ends_token b ≡ true → (b == 42 ≡ false) × (b == 60 ≡ false) × (b == 61 ≡ false) × (b == 62 ≡ false)
no_second b e =
    let h : b == 42 || (nat_le 60 b && nat_le b 62) ≡ false =
    (or_parts (is_word_byte b) (b == 42 || (nat_le 60 b && nat_le b 62)) (not-true _ e)).1 in
    (grind (arith, nat_tests), grind (arith, nat_tests), grind (arith, nat_tests), grind (arith, nat_tests))

-- ---- words

pass_all : (xs ys : List ℕ) (p : ℕ) → (q : ℕ) × (lexemes (length xs) p (xs ++ ys) ≡ lexemes 0 q ys)
pass_all [] ys p = (p, refl)
pass_all (x ∷ xs) ys p = pass_all xs ys (p + 1)

run_stops : (rest : List ℕ) → EndsToken rest → run is_word_byte rest ≡ []
run_stops [] stop = refl
run_stops (b ∷ rest) stop = rw (no_word b stop) refl

run_all : (xs rest : List ℕ) → list_all is_word_byte xs ≡ true → EndsToken rest → run is_word_byte (xs ++ rest) ≡ xs
run_all [] rest all stop = run_stops rest stop
run_all (x ∷ xs) rest all stop =
    let h = both_hold (is_word_byte x) (list_all is_word_byte xs) all in
    rw h.0 (ap (λ t. x ∷ t) (run_all xs rest h.1 stop))

letter_blank : (b : ℕ) → is_letter b ≡ true → is_blank b ≡ false
letter_blank b h = grind (arith, nat_tests)

digit_blank : (b : ℕ) → is_digit b ≡ true → is_blank b ≡ false
digit_blank b h = grind (arith, nat_tests)

digit_letter : (b : ℕ) → is_digit b ≡ true → is_letter b ≡ false
digit_letter b h = grind (arith, nat_tests)

-- a token of this length at the front
abbrev Starts : Token → ℕ → Type 0
Starts t n = (place : ℕ) (follow : ℕ → List Lexeme) → and_then (Begins t n) place follow ≡ lexeme place t ∷ follow n

front_read : (t : Token) (b : ℕ) (bs rest : List ℕ) (place : ℕ) → front b (bs ++ rest) ≡ Begins t (length bs) → Starts t (length bs)
    → (q : ℕ) × (lexemes 0 place ((b ∷ bs) ++ rest) ≡ lexeme place t ∷ lexemes 0 q rest)
front_read t b bs rest place f starts =
    let p = pass_all bs rest (place + 1) in (
      p.0,
      ap (λ x. and_then x place (λ k. lexemes k (place + 1) (bs ++ rest))) f ∙ starts place (λ k. lexemes k (place + 1) (bs ++ rest))
          ∙ ap (λ x. lexeme place t ∷ x) p.1,
    )

word_read : (t : Token) (b : ℕ) (bs rest : List ℕ) (place : ℕ) → is_letter b ≡ true → list_all is_word_byte bs ≡ true
    → word_token (b ∷ bs) ≡ t → Starts t (length bs) → EndsToken rest
    → (q : ℕ) × (lexemes 0 place ((b ∷ bs) ++ rest) ≡ lexeme place t ∷ lexemes 0 q rest)
word_read t b bs rest place letter all is starts stop =
    front_read t b bs rest place (rw (letter_blank b letter, letter, run_all bs rest all stop, is) refl) starts

-- a word that is no key word is a name
not_among : (ts : List Tok) (w : List ℕ) → list_any (bytes_eq w) (map fixed_text ts ++ other_words) ≡ false → key_word_among ts w ≡ Named w
not_among [] w other = rw other refl
not_among (t ∷ ts) w other =
    let h = or_parts (bytes_eq w (fixed_text t)) (list_any (bytes_eq w) (map fixed_text ts ++ other_words)) other in
    rw h.0 (not_among ts w h.1)

name_read : (n : List ℕ) → IsName n → IsRead (Named n)
name_read [] is rest place stop = absurd cc
name_read (b ∷ bs) is rest place stop =
    let h = both_hold _ _ is in
    let g = both_hold _ _ h.0 in
    word_read (Named (b ∷ bs)) b bs rest place g.0 g.1 (not_among key_words (b ∷ bs) (not-true _ h.1)) (λ _ _. refl) stop

-- ---- numbers

word_suffix : (s : Suffix) → list_all is_word_byte (suffix_text s) ≡ true
word_suffix OfPlain = refl
word_suffix _ = refl

digit_word : (b : ℕ) → is_digit b ≡ true → is_word_byte b ≡ true
digit_word b h = grind (arith, nat_tests)

pub digits_words : (ds : List ℕ) → list_all is_digit ds ≡ true → list_all is_word_byte ds ≡ true
digits_words [] all = refl
digits_words (d ∷ ds) all = let h = both_hold (is_digit d) (list_all is_digit ds) all in rw (digit_word d h.0, digits_words ds h.1) refl

pub all_digits : (ds : List ℕ) → are_digits ds ≡ true → list_all is_digit ds ≡ true
all_digits [] e = absurd cc
all_digits (d ∷ []) e = rw e refl
all_digits (d ∷ x ∷ ds) e =
    let h = both_hold (is_digit d && not (d == 48)) (list_all is_digit (x ∷ ds)) e in let g = both_hold (is_digit d) (not (d == 48)) h.0 in
    rw g.0 h.1

-- no suffix begins with a digit
run_digits : (ds : List ℕ) (s : Suffix) → list_all is_digit ds ≡ true → run is_digit (ds ++ suffix_text s) ≡ ds
run_digits [] OfPlain all = refl
run_digits [] _ all = refl
run_digits (d ∷ ds) s all = let h = both_hold (is_digit d) (list_all is_digit ds) all in rw h.0 (ap (λ t. d ∷ t) (run_digits ds s h.1))

past_digits : (ds : List ℕ) (s : Suffix) → list_all is_digit ds ≡ true → past is_digit (ds ++ suffix_text s) ≡ suffix_text s
past_digits [] OfPlain all = refl
past_digits [] _ all = refl
past_digits (d ∷ ds) s all = let h = both_hold (is_digit d) (list_all is_digit ds) all in rw h.0 (past_digits ds s h.1)

suffix_again : (ds : List ℕ) (s : Suffix) → are_digits ds ≡ true → number_token ds (suffix_text s) ≡ Number s ds
suffix_again ds OfPlain e = rw e refl
suffix_again ds _ e = rw e refl

run_is : (ds : List ℕ) (s : Suffix) → are_digits ds ≡ true → run_token (ds ++ suffix_text s) ≡ Number s ds
run_is ds s e = let all = all_digits ds e in rw (run_digits ds s all, past_digits ds s all) (suffix_again ds s e)

number_read : (s : Suffix) (ds : List ℕ) → are_digits ds ≡ true → IsRead (Number s ds)
number_read s [] e rest place stop = absurd cc
number_read s (d ∷ ds) e rest place stop =
    let all = both_hold (is_digit d) (list_all is_digit ds) (all_digits (d ∷ ds) e) in
    let w : List ℕ = ds ++ suffix_text s in
    let words : list_all is_word_byte w ≡ true = all_join is_word_byte ds (suffix_text s) (digits_words ds all.1) (word_suffix s) in
    let whole : run is_word_byte (w ++ rest) ≡ w = run_all w rest words stop in
    let begins : front d (w ++ rest) ≡ Begins (run_token (d ∷ run is_word_byte (w ++ rest))) (length (run is_word_byte (w ++ rest))) =
    rw (digit_blank d all.0, digit_letter d all.0, all.0) refl in
    front_read (Number s (d ∷ ds)) d w rest place
    (begins ∙ ap (λ x. Begins (run_token (d ∷ x)) (length x)) whole ∙ ap (λ t. Begins t (length w)) (run_is (d ∷ ds) s e)) (λ _ _. refl)

-- ---- signs

second_differs : (x y b c : ℕ) → c == y ≡ false → bytes_eq (b ∷ c ∷ []) (x ∷ y ∷ []) ≡ false
second_differs x y b c other = by (b == x)
  where
    by : (t : Bool) → (t && ((c == y) && true)) ≡ false
    by true = rw other refl
    by false = refl

no_long_sign : (b c : ℕ) → ends_token c ≡ true → two_sign b c ≡ Wrong
no_long_sign b c stop =
    let h = no_second c stop in
    rw (
      second_differs 60 60 b c h.1,
      second_differs 62 62 b c h.3,
      second_differs 61 61 b c h.2,
      second_differs 33 61 b c h.2,
      second_differs 60 61 b c h.2,
      second_differs 62 61 b c h.2,
    ) refl

abbrev begins_sign : ℕ → Bool
begins_sign b = not (is_blank b || (is_letter b || (is_digit b || b == 35)))

-- a sign of one byte
abbrev IsShort : Tok → Type 0
IsShort t = (b : ℕ) × (fixed_text t ≡ b ∷ []) × (begins_sign b ≡ true) × (one_sign b ≡ Fixed t) × Starts (Fixed t) 0

and_false : (x y : Bool) → y ≡ false → x && y ≡ false
and_false true y e = e
and_false false y e = refl

sign_is : (b : ℕ) (t : Token) (rest : List ℕ) → one_sign b ≡ t → EndsToken rest → sign_front b rest ≡ Begins t 0
sign_is b t [] is stop = rw is refl
sign_is b t (c ∷ rest) is stop =
    ap (λ x. cond x (comment_front (comment_end rest)) (longer (two_sign b c) (one_sign b)))
    (and_false (b == 47) (c == 42) (no_second c stop).0)
    ∙ ap (λ x. longer x (one_sign b)) (no_long_sign b c stop)
    ∙ ap (λ x. Begins x 0) is

short_read : (t : Tok) → IsShort t → IsRead (Fixed t)
short_read t s rest place stop =
    let h = or_parts (is_blank s.0) (is_letter s.0 || (is_digit s.0 || s.0 == 35)) (not-true _ s.2) in
    let g = or_parts (is_letter s.0) (is_digit s.0 || s.0 == 35) h.1 in
    let k = or_parts (is_digit s.0) (s.0 == 35) g.1 in
    let f : front s.0 rest ≡ Begins (Fixed t) 0 = rw (h.0, g.0, k.0, k.1) (sign_is s.0 (Fixed t) rest s.3 stop) in
    rw s.1 (front_read (Fixed t) s.0 [] rest place f s.4)

-- ---- all of them

-- a key word
abbrev IsWord : Tok → Type 0
IsWord t =
    (b : ℕ) × (bs : List ℕ) × (fixed_text t ≡ b ∷ bs) × (is_letter b ≡ true) × (list_all is_word_byte bs ≡ true)
    × (word_token (b ∷ bs) ≡ Fixed t) × Starts (Fixed t) (length bs)

key_word_read : (t : Tok) → IsWord t → IsRead (Fixed t)
key_word_read t w rest place stop = rw w.2 (word_read (Fixed t) w.0 w.1 rest place w.3 w.4 w.5 w.6 stop)

words_are : AllByRecursion IsWord key_words
words_are = (
  (_, _, refl, refl, refl, refl, λ _ _. refl),
  (
    (_, _, refl, refl, refl, refl, λ _ _. refl),
    (
      (_, _, refl, refl, refl, refl, λ _ _. refl),
      (
        (_, _, refl, refl, refl, refl, λ _ _. refl),
        (
          (_, _, refl, refl, refl, refl, λ _ _. refl),
          (
            (_, _, refl, refl, refl, refl, λ _ _. refl),
            (
              (_, _, refl, refl, refl, refl, λ _ _. refl),
              (
                (_, _, refl, refl, refl, refl, λ _ _. refl),
                (
                  (_, _, refl, refl, refl, refl, λ _ _. refl),
                  (
                    (_, _, refl, refl, refl, refl, λ _ _. refl),
                    (
                      (_, _, refl, refl, refl, refl, λ _ _. refl),
                      (
                        (_, _, refl, refl, refl, refl, λ _ _. refl),
                        (
                          (_, _, refl, refl, refl, refl, λ _ _. refl),
                          ((_, _, refl, refl, refl, refl, λ _ _. refl), ((_, _, refl, refl, refl, refl, λ _ _. refl), tt)),
                        ),
                      ),
                    ),
                  ),
                ),
              ),
            ),
          ),
        ),
      ),
    ),
  ),
)

shorts_are : AllByRecursion IsShort short_signs
shorts_are = (
  (_, refl, refl, refl, λ _ _. refl),
  (
    (_, refl, refl, refl, λ _ _. refl),
    (
      (_, refl, refl, refl, λ _ _. refl),
      (
        (_, refl, refl, refl, λ _ _. refl),
        (
          (_, refl, refl, refl, λ _ _. refl),
          (
            (_, refl, refl, refl, λ _ _. refl),
            (
              (_, refl, refl, refl, λ _ _. refl),
              (
                (_, refl, refl, refl, λ _ _. refl),
                (
                  (_, refl, refl, refl, λ _ _. refl),
                  (
                    (_, refl, refl, refl, λ _ _. refl),
                    (
                      (_, refl, refl, refl, λ _ _. refl),
                      (
                        (_, refl, refl, refl, λ _ _. refl),
                        (
                          (_, refl, refl, refl, λ _ _. refl),
                          (
                            (_, refl, refl, refl, λ _ _. refl),
                            (
                              (_, refl, refl, refl, λ _ _. refl),
                              (
                                (_, refl, refl, refl, λ _ _. refl),
                                (
                                  (_, refl, refl, refl, λ _ _. refl),
                                  (
                                    (_, refl, refl, refl, λ _ _. refl),
                                    ((_, refl, refl, refl, λ _ _. refl), ((_, refl, refl, refl, λ _ _. refl), tt)),
                                  ),
                                ),
                              ),
                            ),
                          ),
                        ),
                      ),
                    ),
                  ),
                ),
              ),
            ),
          ),
        ),
      ),
    ),
  ),
)

abbrev IsFixedReadAnywhere : Tok → Type 0
IsFixedReadAnywhere t = IsReadAnywhere (Fixed t)

longs_read : AllByRecursion IsFixedReadAnywhere long_signs
longs_read = (
  λ rest place. (_, refl),
  (
    λ rest place. (_, refl),
    (λ rest place. (_, refl), (λ rest place. (_, refl), (λ rest place. (_, refl), (λ rest place. (_, refl), tt)))),
  ),
)

pub include_read : IsReadAnywhere (Fixed tok.Include)
include_read rest place = (_, refl)

-- what holds of each of a list holds of one that is found there
picked : (P : Tok → Type 0) (ts : List Tok) → AllByRecursion P ts → (t : Tok) → list_any (same_tok t) ts ≡ true → P t
picked P [] all t found = absurd cc
picked P (u ∷ ts) all t found = by (λ f. picked P ts all.1 t f) (same_tok t u) refl found
  where
    by : (list_any (same_tok t) ts ≡ true → P t) → (b : Bool) → same_tok t u ≡ b → b || list_any (same_tok t) ts ≡ true → P t
    by later true e f = subst P (sym (same_true the_type (search rules) t u e)) all.0
    by later false e f = later f

abbrev IsFixedRead : Tok → Type 0
IsFixedRead t = IsRead (Fixed t)

fixed_read : AllByRecursion IsFixedRead fixed_toks
fixed_read = (
  λ rest place stop. include_read rest place,
  all_append IsFixedRead key_words (short_signs ++ long_signs) (of_each IsWord IsFixedRead key_word_read key_words words_are)
      (all_append IsFixedRead short_signs long_signs (of_each IsShort IsFixedRead short_read short_signs shorts_are)
      (of_each IsFixedReadAnywhere IsFixedRead (λ t any rest place stop. any rest place) long_signs longs_read)),
)

pub reads : (t : Token) → IsProper t → IsRead t
reads (Fixed t) is = picked IsFixedRead fixed_toks fixed_read t is
reads (Named n) is = name_read n is
reads (Number s ds) is = number_read s ds is
reads Wrong is = absurd is

-- what no byte behind it makes longer
pub left_paren_read : IsReadAnywhere (Fixed tok.LeftParen)
left_paren_read [] place = (_, refl)
left_paren_read (c ∷ rest) place = (_, refl)

pub left_bracket_read : IsReadAnywhere (Fixed tok.LeftBracket)
left_bracket_read [] place = (_, refl)
left_bracket_read (c ∷ rest) place = (_, refl)
