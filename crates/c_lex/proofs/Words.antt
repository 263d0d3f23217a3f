-- A key word or a sign by the first token with its text.
use Rattle.c_lex.proofs.Common.{◌≡◌, ℕ, Bool, true, false, cond, List, [], ◌∷◌, Some, Option, bytes_eq, refl, ap, ◌∙◌, list_any}
use Rattle.c_lex.proofs.Common.{key_word_among, key_words, other_words, sign_among, word_token, Fixed, fixed_text, among, sign_of, word_of}
use Rattle.c_tree.specs.declared.token.Tok.{Tok}

pub sign_is : (ts : List Tok) (text : List ℕ) → sign_of (among ts text) ≡ sign_among ts text
sign_is [] text = refl
sign_is (t ∷ ts) text = by (bytes_eq text (fixed_text t)) (sign_is ts text)
  where
    by : (b : Bool) → sign_of (among ts text) ≡ sign_among ts text
        → sign_of (cond b (Some t) (among ts text)) ≡ cond b (Fixed t) (sign_among ts text)
    by true e = refl
    by false e = e

word_among_is : (ts : List Tok) (word : List ℕ)
    → word_of (list_any (bytes_eq word) other_words) word (among ts word) ≡ key_word_among ts word
word_among_is [] word = refl
word_among_is (t ∷ ts) word = by (bytes_eq word (fixed_text t)) (list_any (bytes_eq word) other_words) (word_among_is ts word)
  where
    by : (b other : Bool) → word_of other word (among ts word) ≡ key_word_among ts word
        → word_of other word (cond b (Some t) (among ts word)) ≡ cond b (Fixed t) (key_word_among ts word)
    by true other e = refl
    by false other e = e

-- whether or not a key word was found
pub word_is : (word : List ℕ) (found : Option Tok) → found ≡ among key_words word
    → word_of (list_any (bytes_eq word) other_words) word found ≡ word_token word
word_is word found e = ap (word_of (list_any (bytes_eq word) other_words) word) e ∙ word_among_is key_words word
