-- What calls have written, one behind another.
use Rattle.std.proofs.Common.{◌≡◌, ℕ, List, [], ◌++◌, Option, Some, None, append_assoc, refl, sym, ap, ◌∙◌, subst, Result, Ok, Err, IfOk}
use Rattle.std.proofs.Common.{append-nil}
use Rattle.w2c_io.specs.declared.answers.WriteAnswer.{WriteAnswer}
use Rattle.w2c_io.specs.Contents.{extended, IsPrefix}
use Rattle.w2c_io.specs.Causes.{WriteCause}
use Rattle.w2c_io.specs.Telling.{SaysPart}
use Rattle.w2c_io.proofs.Causes.{cause_behind, cause_of, done_cause}
use Rattle.program_words.specs.Writing.{Writes}

pub none_written : (old : Option (List ℕ)) → old ≡ extended old []
none_written None = refl
none_written (Some bytes) = ap Some (sym (append-nil bytes))

pub extended_twice : (old : Option (List ℕ)) (a b : List ℕ) → extended (extended old a) b ≡ extended old (a ++ b)
extended_twice None a b = refl
extended_twice (Some bytes) a b = ap Some (append_assoc bytes a b)

-- a prefix of a text is one of a longer text
pub prefix_in_front : (part a b : List ℕ) → IsPrefix part a → IsPrefix part (a ++ b)
prefix_in_front part a b (rest, is) = (rest ++ b, ap (λ l. l ++ b) is ∙ append_assoc part rest b)

-- a prefix behind a text
pub prefix_behind : (a part b : List ℕ) → IsPrefix part b → IsPrefix (a ++ part) (a ++ b)
prefix_behind a part b (rest, is) = (rest, ap (λ l. a ++ l) is ∙ sym (append_assoc a part rest))

pub prefix_of_itself : (a : List ℕ) → IsPrefix a a
prefix_of_itself a = ([], sym (append-nil a))

pub says_nothing : (old : Option (List ℕ)) (text : List ℕ) → SaysPart old old text
says_nothing old text = ([], (text, refl), none_written old)

-- a part of a text is one of a longer text
pub part_in_front : (old new : Option (List ℕ)) (a b : List ℕ) → SaysPart old new a → SaysPart old new (a ++ b)
part_in_front old new a b (part, prefix, gained) = (part, prefix_in_front part a b prefix, gained)

-- a part of a text behind one that is written
pub part_behind : (old middle new : Option (List ℕ)) (a b : List ℕ) → middle ≡ extended old a → SaysPart middle new b
    → SaysPart old new (a ++ b)
part_behind old middle new a b written (part, prefix, gained) = (
  a ++ part,
  prefix_behind a part b prefix,
  gained ∙ ap (λ o. extended o part) written ∙ extended_twice old a part,
)

pub whole_behind : (old middle new : Option (List ℕ)) (a b : List ℕ) → middle ≡ extended old a → new ≡ extended middle b → new
    ≡ extended old (a ++ b)
whole_behind old middle new a b written gained = gained ∙ ap (λ o. extended o b) written ∙ extended_twice old a b

-- ---- one call behind another

pub wrote_nothing : {A : Type 0} (x : A) (old : Option (List ℕ)) (faults : ℕ) → Writes old old faults faults [] (Ok x)
wrote_nothing x old faults = record { whole = none_written old; part = tt; cause = done_cause x faults faults refl }

pub then_writes : {A B : Type 0} (x : A) (r : Result B WriteAnswer) (old middle new : Option (List ℕ)) (before between after : ℕ)
    (a b : List ℕ)
    → Writes old middle before between a (Ok x) → Writes middle new between after b r → Writes old new before after (a ++ b) r
then_writes x (Ok y) old middle new before between after a b first second = record {
  whole = whole_behind old middle new a b first.whole second.whole;
  part = tt;
  cause = cause_behind before between after (Ok y) first.cause.kept second.cause;
}
then_writes x (Err e) old middle new before between after a b first second = record {
  whole = tt;
  part = part_behind old middle new a b first.whole second.part;
  cause = cause_behind before between after (Err e) first.cause.kept second.cause;
}

pub stops_writing : {A B : Type 0} (e : WriteAnswer) (old new : Option (List ℕ)) (before after : ℕ) (a b : List ℕ)
    → Writes {A = A} old new before after a (Err e) → Writes {A = B} old new before after (a ++ b) (Err e)
stops_writing e old new before after a b first = record {
  whole = tt;
  part = part_in_front old new a b first.part;
  cause = cause_of before after e first.cause;
}

-- ---- a line, if there was memory for it

-- the cause of its write, whatever it is
pub line_cause : {A E : Type 0} (line : Result (List ℕ) E) (r : Result A WriteAnswer) (old new : Option (List ℕ)) (before after : ℕ)
    → ((text : List ℕ) → IfOk line (λ bytes. bytes ≡ text) → Writes old new before after text r) → WriteCause before after r
line_cause (Ok bytes) r old new before after wrote = (wrote bytes refl).cause
line_cause (Err e) r old new before after wrote = (wrote [] tt).cause

-- ---- a line that is another text

pub line_as : {E : Type 0} (line : Result (List ℕ) E) (text other : List ℕ) → text ≡ other → IfOk line (λ bytes. bytes ≡ text)
    → IfOk line (λ bytes. bytes ≡ other)
line_as line text other same is = subst (λ t. IfOk line (λ bytes. bytes ≡ t)) same is

pub writes_text : {A : Type 0} (r : Result A WriteAnswer) (old new : Option (List ℕ)) (before after : ℕ) (text other : List ℕ) → text
    ≡ other
    → Writes old new before after text r → Writes old new before after other r
writes_text r old new before after text other same wrote = subst (λ t. Writes old new before after t r) same wrote
