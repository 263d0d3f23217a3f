-- What passes through files as one is written.
use Rattle.w2c_files.proofs.Common.{◌≡◌, ℕ, true, List, [], ◌∷◌, ◌++◌, length, ◌==◌, Ok, Err, sym, refl, ap, ◌∙◌, append_assoc, append-nil}
use Rattle.w2c_files.proofs.Common.{arith, both_put, file_written, finished_in_vain, nothing_put, one_put, part_behind, part_written}
use Rattle.w2c_files.proofs.Common.{put_in_vain, Name, Begin, Event, Finish, Put, BreaksOff, Finishes, Passes, PutsPart, PutsText}
use Rattle.w2c_files.proofs.Common.{WritesFile, WriteAnswer}
use Rattle.std.proofs.lemmas.Bool.Decides.{nat_tests}

-- a file was begun, and so much of it was put
abbrev pub Began : Name → List ℕ → List Event → Type 0
Began name part events = (middle : List Event) × PutsText part middle × (events ≡ Begin name (Ok tt) ∷ middle)

pub began : (old new : List Event) (name : Name) → new ≡ old ++ Begin name (Ok tt) ∷ [] → Passes old new (Began name [])
began old new name is = (Begin name (Ok tt) ∷ [], is, ([], nothing_put, refl))

pub began_more : (old middle new : List Event) (name : Name) (part piece : List ℕ) → Passes old middle (Began name part)
    → new ≡ middle ++ Put piece (Ok tt) ∷ [] → Passes old new (Began name (part ++ piece))
began_more old middle new name part piece (events, is, (inner, put, calls)) one = (
  events ++ Put piece (Ok tt) ∷ [],
  one ∙ ap (λ (l : List Event). l ++ Put piece (Ok tt) ∷ []) is ∙ append_assoc old events (Put piece (Ok tt) ∷ []),
  (
    inner ++ Put piece (Ok tt) ∷ [],
    both_put part piece inner (Put piece (Ok tt) ∷ []) put (one_put piece),
    ap (λ (l : List Event). l ++ Put piece (Ok tt) ∷ []) calls,
  ),
)

-- what was put since it was begun
behind_begin : (old new : List Event) (name : Name) (part : List ℕ) → Passes old new (Began name part)
    → Passes (old ++ Begin name (Ok tt) ∷ []) new (PutsText part)
behind_begin old new name part (events, is, (inner, put, calls)) = (
  inner,
  is ∙ ap (λ (l : List Event). old ++ l) calls ∙ sym (append_assoc old (Begin name (Ok tt) ∷ []) inner),
  put,
)

pub all_written : (old middle new : List Event) (name : Name) (text : List ℕ) → Passes old middle (Began name text)
    → new ≡ middle ++ Finish (Ok tt) ∷ [] → Passes old new (WritesFile name text)
all_written old middle new name text passed one =
    file_written old (old ++ Begin name (Ok tt) ∷ []) middle new name text refl (behind_begin old middle name text passed) one

pub not_finished : (old middle new : List Event) (name : Name) (text : List ℕ) (why : WriteAnswer) → Passes old middle (Began name text)
    → new ≡ middle ++ Finish (Err why) ∷ [] → Passes old new (BreaksOff name text why)
not_finished old middle new name text why passed one =
    finished_in_vain old (old ++ Begin name (Ok tt) ∷ []) middle new name text why refl (behind_begin old middle name text passed) one

-- the next piece was put in vain, and the file given up
pub given_up : (old middle put new : List Event) (name : Name) (text part piece after : List ℕ) (why : WriteAnswer)
    → text ≡ part ++ (piece ++ after) → Passes old middle (Began name part) → put ≡ middle ++ Put piece (Err why) ∷ []
    → Passes put new Finishes → Passes old new (BreaksOff name text why)
given_up old middle put new name text part piece after why split passed one ends =
    part_written old (old ++ Begin name (Ok tt) ∷ []) put new name text why refl (stopped (behind_begin old middle name part passed)) ends
  where
    stopped : Passes (old ++ Begin name (Ok tt) ∷ []) middle (PutsText part)
        → Passes (old ++ Begin name (Ok tt) ∷ []) put (PutsPart text why)
    stopped (events, is, puts) = (
      events ++ Put piece (Err why) ∷ [],
      one ∙ ap (λ (l : List Event). l ++ Put piece (Err why) ∷ []) is
          ∙ append_assoc (old ++ Begin name (Ok tt) ∷ []) events (Put piece (Err why) ∷ []),
      part_behind text part piece after why events (Put piece (Err why) ∷ []) split puts
          (put_in_vain piece piece [] why (sym (append-nil piece))),
    )

pub nothing_left : (rest : List ℕ) → (length rest == 0) ≡ true → rest ≡ []
nothing_left [] none = refl
nothing_left (b ∷ rest) none = absurd (grind (arith, nat_tests))
