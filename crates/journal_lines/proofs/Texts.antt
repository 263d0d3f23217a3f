-- What a line says, by its text and by its words.
use Rattle.journal_lines.proofs.Common.{◌≡◌, ℕ, ◌<◌, List, [], ◌∷◌, ◌++◌, IfSome, IfNone, IfOk, Some, None, Ok, Err, codes, Option, Result}
use Rattle.journal_lines.proofs.Common.{sym, ap, ◌∙◌, subst, lit<, append_cancel_right, join_with_byte-slice_split, AllByRecursion}
use Rattle.journal_lines.proofs.Common.{join_with_byte, IsLine, SayLine, line_words, JournalLine}
use Rattle.journal_lines.specs.declared.line.JournalLine.TheVariants as line
use Rattle.journal_lines.proofs.Cutting.{cut, cut-join, AllLack}
use Rattle.journal_lines.proofs.Joins.{joined, words_are_high}
use Rattle.journal_lines.proofs.Written.{lacks_low, IsHigh}

pub all_lack : (c : ℕ) (texts : List (List ℕ)) → c < 48 → AllByRecursion IsHigh texts → AllLack c texts
all_lack c [] small h = tt
all_lack c (t ∷ texts) small h = (lacks_low c t small h.0, all_lack c texts small h.1)

cut_words : (x : List ℕ) (xs : List (List ℕ)) → AllByRecursion IsHigh (x ∷ xs) → cut 32 (join_with_byte 32 (x ∷ xs)) ≡ x ∷ xs
cut_words x xs h = cut-join 32 x xs (all_lack 32 (x ∷ xs) (lit< tt) h)

cut_line : (l : JournalLine) → AllByRecursion IsHigh (line_words l) → cut 32 (join_with_byte 32 (line_words l)) ≡ line_words l
cut_line (line.Host h) are = cut_words _ _ are
cut_line _ h = cut_words _ _ h

pub said_by_words : (text : List ℕ) (l : JournalLine) → IsLine text l → SayLine (cut 32 text) l
said_by_words text l is =
    let same : text ≡ join_with_byte 32 (line_words l) = append_cancel_right text (join_with_byte 32 (line_words l))
    (codes "\n") (sym is.1 ∙ joined l) in
    (is.0, ap (cut 32) same ∙ cut_line l (words_are_high l is.0))

pub said_by_text : (text : List ℕ) (l : JournalLine) → SayLine (cut 32 text) l → IsLine text l
said_by_text text l said = (
  said.0,
  joined l ∙ ap (λ (ws : List (List ℕ)). join_with_byte 32 ws ++ codes "\n") (sym said.1)
      ∙ ap (λ (t : List ℕ). t ++ codes "\n") (join_with_byte-slice_split 32 text),
)

-- the same of an answer
pub said : {E : Type 0} (text : List ℕ) (words : List (List ℕ)) (found : Result (Option JournalLine) E) → words ≡ cut 32 text
    → IfOk found (λ f. IfSome f (SayLine words)) → IfOk found (λ f. IfSome f (IsLine text))
said text words (Ok (Some l)) are h = said_by_text text l (subst (λ ws. SayLine ws l) are h)
said text words (Ok None) are h = tt
said text words (Err e) are h = tt

pub unsaid : {E : Type 0} (text : List ℕ) (words : List (List ℕ)) (found : Result (Option JournalLine) E) → words ≡ cut 32 text
    → IfOk found (λ f. IfNone f ((l : JournalLine) → SayLine words l → ⊥))
    → IfOk found (λ f. IfNone f ((l : JournalLine) → IsLine text l → ⊥))
unsaid text words (Ok None) are h = λ l is. h l (subst (λ ws. SayLine ws l) (sym are) (said_by_words text l is))
unsaid text words (Ok (Some l)) are h = tt
unsaid text words (Err e) are h = tt
