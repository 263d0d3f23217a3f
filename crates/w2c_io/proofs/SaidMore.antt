-- One piece more.
use Rattle.w2c_io.proofs.Common.{◌≡◌, ℕ, List, [], ◌∷◌, ◌++◌, OnOk, OnErr, Some, Ok, Err, Result, sym, refl, ap, ◌∙◌, append_assoc}
use Rattle.w2c_io.proofs.Common.{append-nil, IsPrefix, extended, Event, Put, Read, WriteAnswer}
use Rattle.w2c_io.specs.Said.{said, taken}

said_more : (events : List Event) (piece : List ℕ) (answer : Result (Unit {0}) WriteAnswer)
    → said (events ++ Put piece answer ∷ []) ≡ said events ++ taken piece answer
said_more [] piece answer = append-nil (taken piece answer)
said_more (Put p a ∷ events) piece answer =
    ap (λ (l : List ℕ). taken p a ++ l) (said_more events piece answer) ∙ sym (append_assoc (taken p a) (said events) (taken piece answer))
said_more (Read n l a ∷ events) piece answer = said_more events piece answer
said_more (_ ∷ events) piece answer = said_more events piece answer

pub put_whole : (old new : List Event) (piece : List ℕ) (answer : Result (Unit {0}) WriteAnswer) → new ≡ old ++ Put piece answer ∷ []
    → OnOk answer (Some (said new) ≡ extended (Some (said old)) piece)
put_whole old new piece (Ok u) is = λ i. Some ((ap said is ∙ said_more old piece (Ok u)) i)
put_whole old new piece (Err why) is = tt

pub put_part : (old new : List Event) (piece : List ℕ) (answer : Result (Unit {0}) WriteAnswer) → new ≡ old ++ Put piece answer ∷ []
    → OnErr answer ((part : List ℕ) × IsPrefix part piece × (Some (said new) ≡ extended (Some (said old)) part))
put_part old new piece (Ok u) is = tt
put_part old new piece (Err why) is = ([], (piece, refl), λ i. Some ((ap said is ∙ said_more old piece (Err why)) i))
