-- The tokens of a text, from its front.
use Rattle.c_lex.proofs.Common.{◌≡◌, ℕ, zero, suc, ◌+◌, ◌<◌, ◌≤◌, List, [], ◌∷◌, length, drop, slice_index, refl, ap, ◌∙◌, add-one, arith}
use Rattle.c_lex.proofs.Common.{Begins, Gap, and_then, front, lexeme, lexemes, Fixed, Named, Number, Token, Wrong}
use Rattle.c_tree.specs.declared.token.Tok.TheVariants as tok
use Rattle.c_lex.specs.Cursor.{seen}

pub at_end : (text : List ℕ) (place : ℕ) → length text ≡ 0 → lexemes 0 place text ≡ lexeme place (Fixed tok.End) ∷ []
at_end [] place e = refl
at_end (b ∷ text) place e = absurd (omega arith)

pass : (n place : ℕ) (xs : List ℕ) → n ≤ length xs → lexemes n place xs ≡ lexemes 0 (place + n) (drop n xs)
pass zero place xs le = ap (λ p. lexemes 0 p xs) (omega arith)
pass (suc n) place [] le = absurd (omega arith)
pass (suc n) place (x ∷ xs) le = pass n (place + 1) xs (omega arith) ∙ ap (λ p. lexemes 0 p (drop n xs)) (omega arith)

pub behind_gap : (text : List ℕ) (place n : ℕ) → n < length text → Gap n ≡ front (slice_index text 0) (drop 1 text)
    → lexemes 0 place text ≡ lexemes 0 (place + n + 1) (drop (n + 1) text)
behind_gap [] place n lt is = absurd (omega arith)
behind_gap (b ∷ text) place n lt is =
    let e : lexemes 0 place (b ∷ text) ≡ lexemes n (place + 1) text = rw (← is) refl in
    let q : place + 1 + n ≡ place + n + 1 = omega arith in
    let d : drop n text ≡ drop (n + 1) (b ∷ text) = rw add-one refl in
    e ∙ pass n (place + 1) text (omega arith) ∙ ap (λ p. lexemes 0 p (drop n text)) q ∙ ap (lexemes 0 (place + n + 1)) d

pub at_token : (text : List ℕ) (place n : ℕ) (t : Token) → n < length text → Begins t n ≡ front (slice_index text 0) (drop 1 text)
    → lexemes 0 place text ≡ seen place t (lexemes 0 (place + n + 1) (drop (n + 1) text))
at_token [] place n t lt is = absurd (omega arith)
at_token (b ∷ text) place n t lt is =
    let q : place + 1 + n ≡ place + n + 1 = omega arith in
    let d : drop n text ≡ drop (n + 1) (b ∷ text) = rw add-one refl in
    let behind : lexemes n (place + 1) text ≡ lexemes 0 (place + n + 1) (drop (n + 1) (b ∷ text)) =
    pass n (place + 1) text (omega arith) ∙ ap (λ p. lexemes 0 p (drop n text)) q ∙ ap (lexemes 0 (place + n + 1)) d in
    rw (← is) (by t behind)
  where
    by : (u : Token) → lexemes n (place + 1) text ≡ lexemes 0 (place + n + 1) (drop (n + 1) (b ∷ text))
        → and_then (Begins u n) place (λ k. lexemes k (place + 1) text) ≡ seen place u (lexemes 0 (place + n + 1) (drop (n + 1) (b ∷ text)))
    by Wrong e = refl
    by (Named x) e = ap (λ ls. lexeme place (Named x) ∷ ls) e
    by (Number s ds) e = ap (λ ls. lexeme place (Number s ds) ∷ ls) e
    by (Fixed tok.End) e = refl
    by (Fixed u) e = ap (λ ls. lexeme place (Fixed u) ∷ ls) e
