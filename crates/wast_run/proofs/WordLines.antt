-- The lines of words, with one word more, and how many of the words are ok.
use Rattle.wast_run.proofs.Common.{◌≡◌, ℕ, suc, ◌+◌, ◌≤◌, Bool, true, false, List, [], ◌∷◌, ◌++◌, length, if◌then◌else◌, sym, refl, ap, ◌∙◌}
use Rattle.wast_run.proofs.Common.{append_assoc, append-nil, arith, Command, lines_before, command_line, is_ok, lines_from, lines_of}
use Rattle.wast_run.proofs.Common.{ok_count, total_line, Word}

pub lines_more : (number : ℕ) (words : List Word) (w : Word)
    → lines_from number (words ++ w ∷ []) ≡ lines_from number words ++ command_line (number + length words) w
lines_more number [] w = let e : number ≡ number + 0 = omega arith in append-nil (command_line number w) ∙ ap (λ n. command_line n w) e
lines_more number (x ∷ words) w =
    let e : suc number + length words ≡ number + suc (length words) = omega arith in
    ap (λ l. command_line number x ++ l) (lines_more (suc number) words w)
    ∙ sym (append_assoc (command_line number x) (lines_from (suc number) words) (command_line (suc number + length words) w))
    ∙ ap (λ n. (command_line number x ++ lines_from (suc number) words) ++ command_line n w) e

-- the line of the command that has so many before it
pub line_more : (words : List Word) (w : Word) (index : ℕ) → length words ≡ index
    → lines_of (words ++ w ∷ []) ≡ lines_of words ++ command_line (index + 1) w
line_more words w index many =
    let e : 1 + length words ≡ index + 1 = omega (arith, many) in
    lines_more 1 words w ∙ ap (λ n. lines_of words ++ command_line n w) e

pub count_more : (words : List Word) (w : Word) → ok_count (words ++ w ∷ []) ≡ (if is_ok w then suc (ok_count words) else ok_count words)
count_more [] w = refl
count_more (x ∷ words) w = go (is_ok x) (is_ok w) (count_more words w)
  where
    go : (c b : Bool) → ok_count (words ++ w ∷ []) ≡ (if b then suc (ok_count words) else ok_count words)
        → (if c then suc (ok_count (words ++ w ∷ [])) else ok_count (words ++ w ∷ []))
        ≡ (if b then suc (if c then suc (ok_count words) else ok_count words) else (if c then suc (ok_count words) else ok_count words))
    go true true h = ap suc h
    go true false h = ap suc h
    go false true h = h
    go false false h = h

pub counted_few : (b : Bool) (ok count index : ℕ) → count ≡ (if b then suc ok else ok) → ok ≤ index → count ≤ index + 1
counted_few true ok count index is few = let e : count ≡ suc ok = is in omega (arith, e, few)
counted_few false ok count index is few = let e : count ≡ ok = is in omega (arith, e, few)

-- the lines of the first commands stand first
pub lines_in_front : (words : List Word) (rest : List Command) → (more : List ℕ) × (lines_before words rest ≡ lines_of words ++ more)
lines_in_front words [] = (total_line (length words) (ok_count words), refl)
lines_in_front words (command ∷ rest) = ([], sym (append-nil (lines_of words)))
