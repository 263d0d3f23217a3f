-- What passes through files that are written one after another.
use Rattle.w2c_files.proofs.Common.{ℕ, List, [], ◌∷◌, ◌++◌, sym, refl, ap, ◌∙◌, inl, inr, append_assoc, append-nil, Name, Event, BreaksOff}
use Rattle.w2c_files.proofs.Common.{WritesFile, WriteAnswer, BreaksOffAt, WritesFiles, WritesSome}

pub none_written : WritesFiles [] []
none_written = refl

pub one_written : (name : Name) (text : List ℕ) (events : List Event) → WritesFile name text events
    → WritesFiles ((name, text) ∷ []) events
one_written name text events wrote = (events, [], sym (append-nil events), wrote, refl)

pub both_written : (front back : List (Name × List ℕ)) (first last : List Event) → WritesFiles front first → WritesFiles back last
    → WritesFiles (front ++ back) (first ++ last)
both_written [] back first last none then = rw none then
both_written (file ∷ front) back first last (one, rest, is, wrote, more) then = (
  one,
  rest ++ last,
  ap (λ (l : List Event). l ++ last) is ∙ append_assoc one rest last,
  wrote,
  both_written front back rest last more then,
)

-- the first file is broken off
pub first_broken : (name : Name) (text : List ℕ) (rest : List (Name × List ℕ)) (why : WriteAnswer) (events : List Event)
    → BreaksOff name text why events → BreaksOffAt ((name, text) ∷ rest) name why events
first_broken name text rest why events broken = record {
  done = [];
  rest = rest;
  text = text;
  first = [];
  last = events;
  split = refl;
  calls = refl;
  whole = refl;
  broken = broken;
}

-- behind files that are written whole
pub behind_broken : (front back : List (Name × List ℕ)) (name : Name) (why : WriteAnswer) (first last : List Event)
    → WritesFiles front first → BreaksOffAt back name why last → BreaksOffAt (front ++ back) name why (first ++ last)
behind_broken front back name why first last whole at = record {
  done = front ++ at.done;
  rest = at.rest;
  text = at.text;
  first = first ++ at.first;
  last = at.last;
  split = ap (λ (l : List (Name × List ℕ)). front ++ l) at.split ∙ sym (append_assoc front at.done ((name, at.text) ∷ at.rest));
  calls = ap (λ (l : List Event). first ++ l) at.calls ∙ sym (append_assoc first at.first at.last);
  whole = both_written front at.done first at.first whole at.whole;
  broken = at.broken;
}

-- more files are still to come
pub longer_broken : (front more : List (Name × List ℕ)) (name : Name) (why : WriteAnswer) (events : List Event)
    → BreaksOffAt front name why events → BreaksOffAt (front ++ more) name why events
longer_broken front more name why events at = record {
  done = at.done;
  rest = at.rest ++ more;
  text = at.text;
  first = at.first;
  last = at.last;
  split = ap (λ (l : List (Name × List ℕ)). l ++ more) at.split ∙ append_assoc at.done ((name, at.text) ∷ at.rest) more;
  calls = at.calls;
  whole = at.whole;
  broken = at.broken;
}

pub none_begun : (files : List (Name × List ℕ)) → WritesSome files []
none_begun files = inl (record { done = []; rest = files; split = refl; whole = refl })

pub all_some : (files : List (Name × List ℕ)) (events : List Event) → WritesFiles files events → WritesSome files events
all_some files events whole = inl (record { done = files; rest = []; split = sym (append-nil files); whole = whole })

pub broken_some : (files : List (Name × List ℕ)) (name : Name) (why : WriteAnswer) (events : List Event)
    → BreaksOffAt files name why events → WritesSome files events
broken_some files name why events at = inr (name, why, at)
