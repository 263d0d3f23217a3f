-- Single tokens: fixed texts, names and numbers.
use Rattle.c_read.proofs.Common.{◌≡◌, ℕ, ◌^◌, ◌<◌, ◌≤◌, Bool, true, false, cond, not, ◌&&◌, List, [], ◌∷◌, ◌++◌, nat_lt, ◌==◌, Ok, Err}
use Rattle.c_read.proofs.Common.{decimal, sym, refl, ap, subst, arith, rules, ltb-true, list_all, Becomes, Faulty, Of, One, OneByte}
use Rattle.c_read.proofs.Common.{OneNumber, Symbol, Takes, first, fits, limit, move, others, value_of, Lexeme, are_digits, is_digit, Fixed}
use Rattle.c_read.proofs.Common.{FitsNum, Named, Number, Token, Wrong, kind_of, num_token, NumberTooLarge, Unexpected, Kind, Suffix, Of32}
use Rattle.c_read.proofs.Common.{Of64, OfPlain, Tok, is_last, Outcome, Parser, and_then, num_of, number_at, plain_at}
use Rattle.std.proofs.lemmas.Bool.Decides.{nat_tests}
use Rattle.std.proofs.lemmas.Fmt.{decimal-digits_value}
use Rattle.std.proofs.lemmas.Str.Parse.{IsNumeralModel, numerals_by_fold}
use denote.Enum.Bare.{same_true}
use Rattle.w2c_base.proofs.Conjunctions.{both_hold}
use Rattle.c_tree.specs.contracts.token.Tok.{the_type}
use Rattle.c_tree.specs.declared.token.Tok.TheVariants as tok
use Rattle.c_tree.specs.declared.token.Part.TheVariants as part
use Rattle.c_tree.specs.declared.token.Kind.TheVariants as kind
use Rattle.c_tree.specs.declared.token.Wanted.TheVariants as wanted
use Rattle.c_tree.specs.declared.tree.Num.{Num}
use Rattle.c_tree.specs.declared.tree.Num.TheVariants.{Plain}
use Rattle.c_lex.specs.Reading.{next_kind, unexpected, is_fixed, expect, name, name_at, number, plain}
use Rattle.c_read.proofs.Exact.{Has, HasDigits, Proper, Exact, free, next, open_part, no_part, takes_one}

-- ---- fixed texts

-- neither a name nor a number, nor the end
abbrev pub is_text : Tok → Bool
is_text tok.Name = false
is_text tok.Plain = false
is_text tok.End = false
is_text _ = true

fits_text : (t : Tok) (k : Kind) → is_text t ≡ true → fits t k ≡ is_fixed t k
fits_text tok.Name k e = absurd cc
fits_text tok.Plain k e = absurd cc
fits_text _ (kind.Fixed u) e = refl
fits_text _ _ e = refl

is_token : (t : Tok) (x : Token) → is_fixed t (kind_of x) ≡ true → x ≡ Fixed t
is_token t (Fixed u) e = ap Fixed (sym (same_true the_type tt t u e))
is_token t _ e = absurd cc

not_end : (t : Tok) → is_text t ≡ true → t ≡ tok.End → ⊥
not_end t e is = let f : is_text tok.End ≡ true = subst (λ x. is_text x ≡ true) is e in cc f

text_not_last : (t : Tok) → is_text t ≡ true → is_last (Fixed t) ≡ false
text_not_last tok.End e = absurd cc
text_not_last _ e = refl

has_first : (t : Tok) (ls : List Lexeme) → is_text t ≡ true → (first ls).token ≡ Fixed t → Has ls (Fixed t ∷ []) (others ls)
has_first t [] e is = absurd (not_end t e (cc))
has_first t (l ∷ ls) e is = (is, text_not_last t e, refl)

moves_text : (t : Tok) (l : Lexeme) → is_text t ≡ true → l.token ≡ Fixed t → is_fixed t (kind_of l.token) ≡ true → move (One t) l ≡ Takes
moves_text t l e is fixed = rw (fits_text t (kind_of l.token) e, fixed, is) refl

pub expect_exact : (t : Tok) (ls : List Lexeme) → is_text t ≡ true → Exact [] (λ _. Fixed t ∷ []) free (One t ∷ []) ls (expect t ls)
unfolding expect next_kind unexpected
expect_exact t ls e = by (is_fixed t (kind_of (first ls).token)) refl
  where
    by : (b : Bool) → is_fixed t (kind_of (first ls).token) ≡ b
        → Exact [] (λ _. Fixed t ∷ []) free (One t ∷ []) ls
        (cond b (Ok (tt {0}, others ls)) (Err (Unexpected (first ls).place (wanted.Token t))))
    by true fixed =
        let is = is_token t (first ls).token fixed in
        record { is = (takes_one (One t) ls (moves_text t (first ls) e is fixed), Fixed t ∷ [], has_first t ls e is, refl, tt) }
    by false fixed = no_part (rw (fits_text t (kind_of (first ls).token) e, fixed) refl)

-- a fixed text, and what stands behind it
pub text : {B : Type 0} {before : List Token} {tb : B → List Token} {fb : B → Type 0} {t : Tok} {more : List Symbol} {ls : List Lexeme}
    {k : Parser B} → is_text t ≡ true → Proper ls
    → ((l1 : List Lexeme) → Proper l1 → Exact (before ++ Fixed t ∷ []) tb fb more l1 (k l1))
    → Exact before tb fb (One t ∷ more) ls (and_then (expect t ls) (λ _. k))
text {t = t} {ls = ls} is proper behind = next proper (expect_exact t ls is) (λ u l1 p1 h. behind l1 p1)

-- ---- names

name_exact : (ls : List Lexeme) → Exact [] (λ n. Named n ∷ []) free (One tok.Name ∷ []) ls (name ls)
unfolding name unexpected
name_exact [] = no_part refl
name_exact (l ∷ ls) = by l.token refl
  where
    by : (x : Token) → l.token ≡ x → Exact [] (λ n. Named n ∷ []) free (One tok.Name ∷ []) (l ∷ ls) (name_at x (l ∷ ls))
    by (Named n) is = record { is = (takes_one (One tok.Name) (l ∷ ls) (rw is refl), Named n ∷ [], (is, refl, refl), refl, tt) }
    by _ is = no_part (rw is refl)

-- a name, and what stands behind it
pub named : {B : Type 0} {before : List Token} {tb : B → List Token} {fb : B → Type 0} {more : List Symbol} {ls : List Lexeme}
    {k : List ℕ → Parser B} → Proper ls
    → ((n : List ℕ) (l1 : List Lexeme) → Proper l1 → Exact (before ++ Named n ∷ []) tb fb more l1 (k n l1))
    → Exact before tb fb (One tok.Name ∷ more) ls (and_then (name ls) k)
named {ls = ls} proper behind = next proper (name_exact ls) (λ n l1 p1 h. behind n l1 p1)

-- ---- numbers

abbrev pub are_all_digits : List ℕ → Bool
are_all_digits ds = list_all is_digit ds

own : IsNumeralModel (λ ds. are_all_digits ds ≡ true) (value_of 0)
own = numerals_by_fold _ (search rules) value_of (search rules)

not_zero : (d : ℕ) → not (d == 48) ≡ true → d ≡ 48 → ⊥
not_zero d e is = grind (arith, nat_tests)

-- digits with no leading zero are what is written of their value
digits_again : (ds : List ℕ) → are_digits ds ≡ true → value_of 0 ds < 2 ^ 64 → decimal (value_of 0 ds) ≡ ds
digits_again [] e lt = absurd cc
digits_again (d ∷ []) e lt = decimal-digits_value own (d ∷ []) (rw e refl) (omega arith) (λ _. refl) lt
digits_again (d ∷ x ∷ ds) e lt =
    let h = both_hold (is_digit d && not (d == 48)) (list_all is_digit (x ∷ ds)) e in
    let g = both_hold (is_digit d) (not (d == 48)) h.0 in
    decimal-digits_value own (d ∷ x ∷ ds) (rw g.0 h.1) (omega arith) (λ z. absurd (not_zero d g.1 z)) lt

num_again : (s : Suffix) (ds : List ℕ) → are_digits ds ≡ true → value_of 0 ds < limit s → num_token (num_of s (value_of 0 ds)) ≡ Number s ds
num_again OfPlain ds e lt = ap (Number OfPlain) (digits_again ds e (omega arith))
num_again Of32 ds e lt = ap (Number Of32) (digits_again ds e (omega arith))
num_again Of64 ds e lt = ap (Number Of64) (digits_again ds e lt)

num_fits : (s : Suffix) (n : ℕ) → n < limit s → FitsNum (num_of s n)
num_fits OfPlain n lt = lt
num_fits _ n lt = lt

abbrev pub NumberExact : ℕ → List Lexeme → Outcome Num → Type 0
NumberExact d ls o = Exact [] (λ v. num_token v ∷ []) FitsNum (Of part.InNumber d ∷ []) ls o

number_is : (d : ℕ) (l : Lexeme) (s : Suffix) (ds : List ℕ) → l.token ≡ Number s ds → move (Of part.InNumber d) l ≡ Becomes (OneNumber ∷ [])
number_is d l s ds is = rw is refl

pub number_exact : (d : ℕ) (ls : List Lexeme) → Proper ls → NumberExact d ls (number ls)
unfolding number unexpected
number_exact d [] proper = no_part refl
number_exact d (l ∷ ls) proper = by l.token refl
  where
    in_range : (s : Suffix) (ds : List ℕ) → l.token ≡ Number s ds → (b : Bool) → nat_lt (value_of 0 ds) (limit s) ≡ b
        → NumberExact d (l ∷ ls) (cond b (Ok (num_of s (value_of 0 ds), ls)) (Err (NumberTooLarge l.place)))
    in_range s ds is true small =
        let m : move OneNumber l ≡ Takes = rw (is, small) refl in
        let digits : are_digits ds ≡ true = subst HasDigits is proper.0 in
        open_part (number_is d l s ds is)
        (record {
          is = (
            takes_one OneNumber (l ∷ ls) m,
            Number s ds ∷ [],
            (is, refl, refl),
            ap (λ t. t ∷ []) (num_again s ds digits (ltb-true _ _ small)),
            num_fits s (value_of 0 ds) (ltb-true _ _ small),
          );
        })
    in_range s ds is false large =
        let m : move OneNumber l ≡ Faulty (NumberTooLarge l.place) = rw (is, large) refl in
        open_part (number_is d l s ds is) (no_part m)

    by : (x : Token) → l.token ≡ x → NumberExact d (l ∷ ls) (number_at x (l ∷ ls))
    by (Number s ds) is = in_range s ds is (nat_lt (value_of 0 ds) (limit s)) refl
    by _ is = no_part (rw is refl)

-- ---- numbers without a suffix

abbrev pub plain_tokens : ℕ → List Token
plain_tokens n = num_token (Plain n) ∷ []

abbrev pub PlainExact : Symbol → ℕ → List Lexeme → Type 0
PlainExact s above ls = Exact [] plain_tokens (λ v. v < above) (s ∷ []) ls (plain above ls)

-- what a symbol for a number without a suffix does at a token
record TakesPlain (s : Symbol) (above : ℕ) : Type 0 where
  within : above ≤ 2 ^ 64
  small : (l : Lexeme) (ds : List ℕ) → l.token ≡ Number OfPlain ds → nat_lt (value_of 0 ds) above ≡ true → move s l ≡ Takes
  large : (l : Lexeme) (ds : List ℕ) → l.token ≡ Number OfPlain ds → nat_lt (value_of 0 ds) above ≡ false
      → move s l ≡ Faulty (NumberTooLarge l.place)
  other : (l : Lexeme) (t : Token) → l.token ≡ t → ((ds : List ℕ) → t ≡ Number OfPlain ds → ⊥)
      → move s l ≡ Faulty (Unexpected l.place (wanted.Token tok.Plain))

plain_exact : (s : Symbol) (above : ℕ) (ls : List Lexeme) → TakesPlain s above → Proper ls → PlainExact s above ls
unfolding plain unexpected
plain_exact s above [] row proper = no_part (row.other (first []) (Fixed tok.End) refl (λ ds e. cc))
plain_exact s above (l ∷ ls) row proper = by l.token refl
  where
    in_range : (ds : List ℕ) → l.token ≡ Number OfPlain ds → (b : Bool) → nat_lt (value_of 0 ds) above ≡ b
        → Exact [] plain_tokens (λ v. v < above) (s ∷ []) (l ∷ ls) (cond b (Ok (value_of 0 ds, ls)) (Err (NumberTooLarge l.place)))
    in_range ds is true small =
        let digits : are_digits ds ≡ true = subst HasDigits is proper.0 in
        let lt : value_of 0 ds < 2 ^ 64 = omega (arith, ltb-true _ _ small, row.within) in
        record {
          is = (
            takes_one s (l ∷ ls) (row.small l ds is small),
            Number OfPlain ds ∷ [],
            (is, refl, refl),
            ap (λ x. Number OfPlain x ∷ []) (digits_again ds digits lt),
            ltb-true _ _ small,
          );
        }
    in_range ds is false large = no_part (row.large l ds is large)

    by : (x : Token) → l.token ≡ x → Exact [] plain_tokens (λ v. v < above) (s ∷ []) (l ∷ ls) (plain_at above x (l ∷ ls))
    by (Number OfPlain ds) is = in_range ds is (nat_lt (value_of 0 ds) above) refl
    by (Number Of32 ds) is = no_part (row.other l (Number Of32 ds) is (λ es e. cc))
    by (Number Of64 ds) is = no_part (row.other l (Number Of64 ds) is (λ es e. cc))
    by (Fixed u) is = no_part (row.other l (Fixed u) is (λ es e. cc))
    by (Named n) is = no_part (row.other l (Named n) is (λ es e. cc))
    by Wrong is = no_part (row.other l Wrong is (λ es e. cc))

byte_row : TakesPlain OneByte 256
byte_row =
    record {
      within = omega arith;
      small = λ l ds is e. rw (is, e) refl;
      large = λ l ds is e. rw (is, e) refl;
      other = λ l t is differs. by l t is differs;
    }
  where
    by : (l : Lexeme) (t : Token) → l.token ≡ t → ((ds : List ℕ) → t ≡ Number OfPlain ds → ⊥)
        → move OneByte l ≡ Faulty (Unexpected l.place (wanted.Token tok.Plain))
    by l (Number OfPlain ds) is differs = absurd (differs ds refl)
    by l (Number Of32 ds) is differs = rw is refl
    by l (Number Of64 ds) is differs = rw is refl
    by l _ is differs = rw is refl

count_row : TakesPlain (One tok.Plain) (2 ^ 32)
count_row =
    record {
      within = omega arith;
      small = λ l ds is e. rw (is, e) refl;
      large = λ l ds is e. rw (is, e) refl;
      other = λ l t is differs. by l t is differs;
    }
  where
    by : (l : Lexeme) (t : Token) → l.token ≡ t → ((ds : List ℕ) → t ≡ Number OfPlain ds → ⊥)
        → move (One tok.Plain) l ≡ Faulty (Unexpected l.place (wanted.Token tok.Plain))
    by l (Number OfPlain ds) is differs = absurd (differs ds refl)
    by l (Number Of32 ds) is differs = rw is refl
    by l (Number Of64 ds) is differs = rw is refl
    by l _ is differs = rw is refl

pub byte_exact : (ls : List Lexeme) → Proper ls → PlainExact OneByte 256 ls
byte_exact ls proper = plain_exact OneByte 256 ls byte_row proper

pub count_exact : (ls : List Lexeme) → Proper ls → PlainExact (One tok.Plain) (2 ^ 32) ls
count_exact ls proper = plain_exact (One tok.Plain) (2 ^ 32) ls count_row proper
