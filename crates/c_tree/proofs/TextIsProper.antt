-- Each token of a text but the end and what is wrong is proper.
use Rattle.c_tree.proofs.Common.{◌≡◌, ℕ, zero, suc, ◌+◌, Bool, true, false, cond, not, ◌&&◌, ◌⊎◌, List, [], ◌∷◌, ◌++◌, map, ◌==◌, Some}
use Rattle.c_tree.proofs.Common.{None, codes, Option, bytes_eq, refl, ap, subst, inl, inr, AllByRecursion, list_all, list_any, Begins}
use Rattle.c_tree.proofs.Common.{Front, Gap, Lexeme, and_then, are_digits, comment_end, comment_front, front, is_blank, is_digit}
use Rattle.c_tree.proofs.Common.{is_include, is_letter, is_word_byte, key_word_among, key_words, lexemes, long_signs, longer, number_token}
use Rattle.c_tree.proofs.Common.{one_sign, other_words, past, run, short_signs, sign_among, sign_front, tokens, two_sign, word_token, Fixed}
use Rattle.c_tree.proofs.Common.{Named, Number, Token, Wrong, fixed_text, IsName, Tok}
use Rattle.c_tree.specs.declared.token.Tok.TheVariants as tok
use Rattle.c_tree.proofs.Proper.{IsProper, is_fixed}
use Rattle.c_tree.proofs.Laid.{tokens_from}

abbrev pub IsGood : Token → Type 0
IsGood t = IsProper t ⊎ (t ≡ Wrong)

choose : (b : Bool) (x y : Token) → (b ≡ true → IsGood x) → (b ≡ false → IsGood y) → IsGood (cond b x y)
choose true x y f g = f refl
choose false x y f g = g refl

abbrev IsFixedTok : Tok → Type 0
IsFixedTok t = is_fixed t ≡ true

-- ---- signs

good_sign : (ts : List Tok) (text : List ℕ) → AllByRecursion IsFixedTok ts → IsGood (sign_among ts text)
good_sign [] text all = inr refl
good_sign (t ∷ ts) text all =
    choose (bytes_eq text (fixed_text t)) (Fixed t) (sign_among ts text) (λ _. inl all.0) (λ _. good_sign ts text all.1)

shorts_fixed : AllByRecursion IsFixedTok short_signs
shorts_fixed = (
  refl,
  (
    refl,
    (
      refl,
      (
        refl,
        (refl, (refl, (refl, (refl, (refl, (refl, (refl, (refl, (refl, (refl, (refl, (refl, (refl, (refl, (refl, (refl, tt)))))))))))))))),
      ),
    ),
  ),
)

longs_fixed : AllByRecursion IsFixedTok long_signs
longs_fixed = (refl, (refl, (refl, (refl, (refl, (refl, tt))))))

words_fixed : AllByRecursion IsFixedTok key_words
words_fixed = (refl, (refl, (refl, (refl, (refl, (refl, (refl, (refl, (refl, (refl, (refl, (refl, (refl, (refl, (refl, tt)))))))))))))))

-- ---- words

-- none of the key words that are left, and of those passed none either
good_word_among : (ts : List Tok) (w : List ℕ) → AllByRecursion IsFixedTok ts
    → (list_any (bytes_eq w) (map fixed_text ts ++ other_words) ≡ false → IsName w) → IsGood (key_word_among ts w)
good_word_among [] w all named = choose (list_any (bytes_eq w) other_words) Wrong (Named w) (λ _. inr refl) (λ e. inl (named e))
good_word_among (t ∷ ts) w all named =
    choose (bytes_eq w (fixed_text t)) (Fixed t) (key_word_among ts w) (λ _. inl all.0)
    (λ e. good_word_among ts w all.1 (λ f. named (rw (e, f) refl)))

good_word : (b : ℕ) (bs : List ℕ) → is_letter b ≡ true → list_all is_word_byte bs ≡ true → IsGood (word_token (b ∷ bs))
good_word b bs letter all = good_word_among key_words (b ∷ bs) words_fixed (λ e. rw (letter, all) (ap not e))

passes : (p : ℕ → Bool) (x : ℕ) (more : List ℕ) (b : Bool) → p x ≡ b → list_all p more ≡ true → list_all p (cond b (x ∷ more) []) ≡ true
passes p x more true e all = rw (e, all) refl
passes p x more false e all = refl

run_passes : (p : ℕ → Bool) (xs : List ℕ) → list_all p (run p xs) ≡ true
run_passes p [] = refl
run_passes p (x ∷ xs) = passes p x (run p xs) (p x) refl (run_passes p xs)

-- ---- numbers

good_run : (ds rest : List ℕ) → IsGood (number_token ds rest)
good_run ds rest = choose (are_digits ds) _ _
    (λ e. choose (bytes_eq rest []) _ _ (λ _. inl e)
    (λ _. choose (bytes_eq rest (codes "u")) _ _ (λ _. inl e)
    (λ _. choose (bytes_eq rest (codes "ull")) _ _ (λ _. inl e) (λ _. inr refl))))
    (λ _. inr refl)

-- ---- whole texts

abbrev pub GoodFront : Front → Type 0
GoodFront (Gap k) = Unit {0}
GoodFront (Begins t k) = IsGood t

choose_front : (b : Bool) (x y : Front) → (b ≡ true → GoodFront x) → (b ≡ false → GoodFront y) → GoodFront (cond b x y)
choose_front true x y f g = f refl
choose_front false x y f g = g refl

good_comment : (o : Option ℕ) → GoodFront (comment_front o)
good_comment None = inr refl
good_comment (Some n) = tt

good_longer : (t u : Token) → IsGood t → IsGood u → GoodFront (longer t u)
good_longer Wrong u long short = short
good_longer _ u long short = long

good_sign_front : (b : ℕ) (rest : List ℕ) → GoodFront (sign_front b rest)
good_sign_front b [] = good_sign short_signs (b ∷ []) shorts_fixed
good_sign_front b (c ∷ rest) =
    choose_front ((b == 47) && (c == 42)) _ _ (λ _. good_comment (comment_end rest))
    (λ _. good_longer (two_sign b c) (one_sign b) (good_sign long_signs (b ∷ c ∷ []) longs_fixed)
    (good_sign short_signs (b ∷ []) shorts_fixed))

pub good_front : (b : ℕ) (rest : List ℕ) → GoodFront (front b rest)
good_front b rest =
    choose_front (is_blank b) _ _ (λ _. tt)
    (λ _. choose_front (is_letter b) _ _ (λ l. good_word b (run is_word_byte rest) l (run_passes is_word_byte rest)) (λ _.
    choose_front (is_digit b) _ _ (λ _. good_run (run is_digit (b ∷ run is_word_byte rest)) (past is_digit (b ∷ run is_word_byte rest)))
    (λ _.
    choose_front (b == 35) _ _ (λ _. choose_front (is_include (b ∷ rest)) _ _ (λ _. inl refl) (λ _. inr refl))
    (λ _. good_sign_front b rest))))

nothing_left : (xs : List Token) (t : Token) → xs ++ t ∷ [] ≡ [] → ⊥
nothing_left [] t e = absurd cc
nothing_left (x ∷ xs) t e = absurd cc

is_proper : (t u : Token) → IsGood u → (u ≡ Wrong → ⊥) → u ≡ t → IsProper t
is_proper t u (inl proper) right e = subst IsProper e proper
is_proper t u (inr wrong) right e = absurd (right wrong)

-- what stands at a place, and the tokens behind it
behind : (f : Front) (p : ℕ) (follow : ℕ → List Lexeme) (t : Token) (ts : List Token) → GoodFront f
    → ((k : ℕ) (us : List Token) → map (λ l. l.token) (follow k) ≡ us ++ Fixed tok.End ∷ [] → AllByRecursion IsProper us)
    → map (λ l. l.token) (and_then f p follow) ≡ t ∷ (ts ++ Fixed tok.End ∷ []) → AllByRecursion IsProper (t ∷ ts)
behind (Gap k) p follow t ts good next is = next k (t ∷ ts) is
behind (Begins Wrong k) p follow t ts good next is = absurd (nothing_left ts (Fixed tok.End) cc)
behind (Begins (Fixed tok.End) k) p follow t ts good next is = absurd (nothing_left ts (Fixed tok.End) cc)
behind (Begins (Fixed u) k) p follow t ts good next is = (is_proper t (Fixed u) good (λ e. cc) cc, next k ts cc)
behind (Begins (Named n) k) p follow t ts good next is = (is_proper t (Named n) good (λ e. cc) cc, next k ts cc)
behind (Begins (Number s ds) k) p follow t ts good next is = (is_proper t (Number s ds) good (λ e. cc) cc, next k ts cc)

all_proper : (text : List ℕ) (k p : ℕ) (ts : List Token) → tokens_from k p text ≡ ts ++ Fixed tok.End ∷ [] → AllByRecursion IsProper ts
all_proper text k p [] e = tt
all_proper [] k p (t ∷ ts) e = absurd (nothing_left ts (Fixed tok.End) cc)
all_proper (b ∷ rest) (suc k) p (t ∷ ts) e = all_proper rest k (p + 1) (t ∷ ts) e
all_proper (b ∷ rest) zero p (t ∷ ts) e =
    behind (front b rest) p (λ k. lexemes k (p + 1) rest) t ts (good_front b rest) (λ k us is. all_proper rest k (p + 1) us is) e

-- the tokens of a text in front of its end are proper
pub tokens_proper : (text : List ℕ) (ts : List Token) → tokens text ≡ ts ++ Fixed tok.End ∷ [] → AllByRecursion IsProper ts
tokens_proper text ts e = all_proper text 0 0 ts e
