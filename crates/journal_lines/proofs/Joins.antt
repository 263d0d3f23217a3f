-- A line is its words with blanks between them, and a newline.
use Rattle.journal_lines.proofs.Common.{◌≡◌, ℕ, List, [], ◌∷◌, ◌++◌, map, codes, flat_map, refl, ap, ◌∙◌, append_assoc, append-nil}
use Rattle.journal_lines.proofs.Common.{AllByRecursion, join_with_byte, IsNumber, ValType, reply_of, reply_text, name_text, number_text}
use Rattle.journal_lines.proofs.Common.{spaced, IsProper, line_text, result_text, spaced_type, type_text, equals, line_words, JournalLine}
use Rattle.journal_lines.specs.declared.line.JournalLine.TheVariants as line
use Rattle.journal_lines.proofs.Written.{high_name, high_number, high_reply, high_result, high_type, IsHigh}

module _ {A : Type 0} (text spaced : A → List ℕ) (is_spaced : (x : A) → spaced x ≡ 32 ∷ text x) where
  -- words behind a first word, each with a blank in front
  spread : (first : List ℕ) (items : List A) (last : List ℕ)
      → first ++ flat_map spaced items ++ codes " = " ++ last ≡ join_with_byte 32 (first ∷ equals (map text items) last)
  spread first [] last =
      ap (λ (l : List ℕ). l ++ codes " = " ++ last) (append-nil first) ∙ append_assoc first (codes " = ") last
  spread first (x ∷ items) last =
      let behind : List ℕ = 32 ∷ (text x ++ flat_map spaced items) in
      ap (λ (l : List ℕ). first ++ (l ++ flat_map spaced items) ++ codes " = " ++ last) (is_spaced x)
      ∙ ap (λ (l : List ℕ). l ++ last) (append_assoc first behind (codes " = "))
      ∙ append_assoc first (behind ++ codes " = ") last
      ∙ ap (λ (l : List ℕ). first ++ 32 ∷ l) (spread (text x) items last)

-- two words in one
two_words : (x y : List ℕ) (words : List (List ℕ)) → join_with_byte 32 ((x ++ codes " " ++ y) ∷ words) ≡ join_with_byte 32 (x ∷ y ∷ words)
two_words x y [] = append_assoc x (codes " ") y
two_words x y (w ∷ words) =
    ap (λ (l : List ℕ). l ++ 32 ∷ join_with_byte 32 (w ∷ words)) (append_assoc x (codes " ") y)
    ∙ append_assoc x (32 ∷ y) (32 ∷ join_with_byte 32 (w ∷ words))

module _ {A : Type 0} (text : A → List ℕ) where
  all_high : (P : A → Type 0) → ((x : A) → P x → IsHigh (text x)) → (items : List A) (last : List ℕ) → AllByRecursion P items → IsHigh last
      → AllByRecursion IsHigh (equals (map text items) last)
  all_high P high [] last are h = (refl, (h, tt))
  all_high P high (x ∷ items) last are h = (high x are.0, all_high P high items last are.1 h)

pub joined : (l : JournalLine) → line_text l ≡ join_with_byte 32 (line_words l) ++ codes "\n"
joined (line.Module name) = refl
joined (line.Function f) =
    ap (λ (l : List ℕ). codes "function " ++ (l ++ codes "\n"))
    (spread type_text spaced_type (λ t. refl) (name_text f.name) f.ty.params (result_text f.ty.result))
joined (line.Host h) =
    let reply : List ℕ = reply_text (reply_of h.reply) in
    ap (λ (l : List ℕ). codes "host " ++ (l ++ codes "\n"))
    (spread number_text spaced (λ v. refl) (name_text h.host ++ codes " " ++ name_text h.function) h.args reply
    ∙ two_words (name_text h.host) (name_text h.function) (equals (map number_text h.args) reply))

abbrev pub IsAny : ValType → Type 0
IsAny t = Unit {0}

pub every_type : (types : List ValType) → AllByRecursion IsAny types
every_type [] = tt
every_type (t ∷ types) = (tt, every_type types)

-- what lines are made of
pub words_are_high : (l : JournalLine) → IsProper l → AllByRecursion IsHigh (line_words l)
words_are_high (line.Module name) is = (refl, (high_name name is, tt))
words_are_high (line.Function f) is = (
  refl,
  (
    high_name f.name is,
    all_high type_text IsAny (λ t _. high_type t) f.ty.params (result_text f.ty.result)
        (every_type f.ty.params) (high_result f.ty.result),
  ),
)
words_are_high (line.Host h) is = (
  refl,
  (
    high_name h.host is.0,
    (
      high_name h.function is.1,
      all_high number_text IsNumber high_number h.args (reply_text (reply_of h.reply)) is.2
          (high_reply h.reply is.3),
    ),
  ),
)
