-- Files that are read in order, as far as they give bytes.
use Rattle.w2c_files.proofs.Common.{◌≡◌, ℕ, List, [], ◌∷◌, ◌++◌, Result, sym, refl, subst, inl, inr, append-nil, Name, Event, Read}
use Rattle.w2c_files.proofs.Common.{ReadAnswer, ReadsAll, ReadsInOrder, ReadsSome, limited, ReadStop}
use Rattle.std.proofs.lemmas.List.{map-append}

-- files that gave bytes, then others
pub all_then : (each : ℕ) (names : List Name) (all : List (List ℕ)) (first : List Event) (more : List (Name × ℕ)) (last : List Event)
    → ReadsAll each names all first → ReadsInOrder more last → ReadsInOrder (limited each names ++ more) (first ++ last)
all_then each [] [] events more last is then = subst (λ (e : List Event). ReadsInOrder more (e ++ last)) (sym is) then
all_then each (n ∷ names) (b ∷ all) (e ∷ events) more last (is, rest) then =
    inl (b, is, all_then each names all events more last rest then)
all_then each _ _ _ more last h then = absurd h

-- all files gave bytes
pub all_in_order : (each : ℕ) (names : List Name) (all : List (List ℕ)) (events : List Event) → ReadsAll each names all events
    → ReadsInOrder (limited each names) events
all_in_order each names all events gave =
    subst (λ (fs : List (Name × ℕ)). ReadsInOrder fs events) (append-nil (limited each names))
    (subst (ReadsInOrder (limited each names ++ [])) (append-nil events) (all_then each names all events [] [] gave tt))

-- others may follow
pub longer : (files more : List (Name × ℕ)) (events : List Event) → ReadsInOrder files events → ReadsInOrder (files ++ more) events
longer files more [] reads = tt
longer [] more (e ∷ events) reads = absurd reads
longer (f ∷ files) more (e ∷ events) (inl (b, is, rest)) = inl (b, is, longer files more events rest)
longer (f ∷ files) more (e ∷ events) (inr last) = inr last

-- the first of what was read
none_first : (first last : List Event) → first ++ last ≡ [] → first ≡ []
none_first [] last is = refl
none_first (e ∷ first) last is = absurd cc

pub first_in_order : (files : List (Name × ℕ)) (first last : List Event) → ReadsInOrder files (first ++ last) → ReadsInOrder files first
first_in_order files [] last reads = tt
first_in_order [] (e ∷ first) last reads = absurd reads
first_in_order (f ∷ files) (e ∷ first) last (inl (bytes, is, rest)) = inl (bytes, is, first_in_order files first last rest)
first_in_order (f ∷ files) (e ∷ first) last (inr (answer, is, none)) = inr (answer, is, none_first first last none)

-- the last that was read, whatever it answered
pub last_read : (name : Name) (most : ℕ) (more : List (Name × ℕ)) (answer : Result (List ℕ) ReadAnswer)
    → ReadsInOrder ((name, most) ∷ more) (Read name most answer ∷ [])
last_read name most more answer = inr (answer, refl, refl)

pub unto_last : (each : ℕ) (front : List Name) (name : Name) (most : ℕ) (more : List (Name × ℕ)) (all : List (List ℕ))
    (first events : List Event) (answer : Result (List ℕ) ReadAnswer) → ReadsAll each front all first
    → events ≡ first ++ Read name most answer ∷ [] → ReadsInOrder (limited each front ++ (name, most) ∷ more) events
unto_last each front name most more all first events answer gave is =
    rw is (all_then each front all first ((name, most) ∷ more) (Read name most answer ∷ []) gave (last_read name most more answer))

pub both_limited : (each : ℕ) (front back : List Name) → limited each (front ++ back) ≡ limited each front ++ limited each back
both_limited each front back = map-append (λ (name : Name). (name, each)) front back

front_in_order : (each : ℕ) (names front rest : List Name) (all : List (List ℕ)) (events first last : List Event) → names ≡ front ++ rest
    → ReadsAll each front all first → events ≡ first ++ last → ReadsInOrder (limited each rest) last
    → ReadsInOrder (limited each names) events
front_in_order each names front rest all events first last split gave calls then =
    rw calls (rw split (rw (both_limited each front rest) (all_then each front all first (limited each rest) last gave then)))

-- some files gave bytes, and the next was read last, or memory was wanting
pub some_in_order : (each most : ℕ) (names : List Name) (why : ReadStop) (events : List Event) → ReadsSome each most names why events
    → ReadsInOrder (limited each names) events
some_in_order each most names why events (front, rest, all, first, last, split, gave, calls, inl (none, is)) =
    front_in_order each names front rest all events first last split gave calls (subst (ReadsInOrder (limited each rest)) (sym none) tt)
some_in_order each most names why events
    (front, rest, all, first, last, split, gave, calls, inr (name, after, answer, rest_is, last_is, stops, together)) =
    front_in_order each names front rest all events first last split gave calls
    (rw rest_is (subst (ReadsInOrder (limited each (name ∷ after))) (sym last_is) (last_read name each (limited each after) answer)))
