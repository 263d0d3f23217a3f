-- The tokens of a text that is laid out with gaps that keep its tokens apart.
use Rattle.c_tree.proofs.Common.{◌≡◌, ℕ, ◌+◌, List, [], ◌∷◌, ◌++◌, map, refl, ap, ◌∙◌, append_assoc, AllByRecursion, laid, lexeme, lexemes}
use Rattle.c_tree.proofs.Common.{Token, token_text}
use Rattle.c_tree.proofs.Proper.{IsProper, EndsToken, reads}

abbrev pub tokens_from : ℕ → ℕ → List ℕ → List Token
tokens_from pass place text = map (λ l. l.token) (lexemes pass place text)

-- in front of a proper token a gap lets the token before it be read as itself
abbrev pub KeepsApart : (Token → Token → List ℕ) → Type 0
KeepsApart gap = (t u : Token) → IsProper t → IsProper u → (rest : List ℕ) (place : ℕ)
    → (q : ℕ) × (lexemes 0 place (token_text t ++ (gap t u ++ (token_text u ++ rest)))
    ≡ lexeme place t ∷ lexemes 0 q (token_text u ++ rest))

-- the tokens of a laid out text, in front of what ends its last one
pub laid_tokens : (gap : Token → Token → List ℕ) → KeepsApart gap → (t : Token) (ts : List Token) → IsProper t → AllByRecursion IsProper ts
    → (rest : List ℕ) → EndsToken rest → (place : ℕ)
    → (q : ℕ) × (tokens_from 0 place (token_text t ++ (laid gap t ts ++ rest)) ≡ t ∷ (ts ++ tokens_from 0 q rest))
laid_tokens gap apart t [] is all rest stop place = let h = reads t is rest place stop in (h.0, ap (map (λ l. l.token)) h.1)
laid_tokens gap apart t (u ∷ us) is all rest stop place =
    let h = apart t u is all.0 (laid gap u us ++ rest) place in
    let more = laid_tokens gap apart u us all.0 all.1 rest stop h.0 in
    let same : token_text t ++ ((gap t u ++ (token_text u ++ laid gap u us)) ++ rest)
    ≡ token_text t ++ (gap t u ++ (token_text u ++ (laid gap u us ++ rest))) =
    ap (λ x. token_text t ++ x) (append_assoc (gap t u) (token_text u ++ laid gap u us) rest
    ∙ ap (λ x. gap t u ++ x) (append_assoc (token_text u) (laid gap u us) rest)) in
    (more.0, ap (tokens_from 0 place) same ∙ ap (map (λ l. l.token)) h.1 ∙ ap (λ x. t ∷ x) more.1)

-- a blank between any two tokens
pub blank_apart : KeepsApart (λ t u. 32 ∷ [])
blank_apart t u is next rest place = let h = reads t is (32 ∷ (token_text u ++ rest)) place refl in (h.0 + 1, h.1)
