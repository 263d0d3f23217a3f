-- What passed through files that are read one after another.
use Rattle.w2c_files.proofs.Common.{around, ◌≡◌, ℕ, suc, ◌+◌, ◌-◌, List, [], ◌∷◌, ◌++◌, length, take, drop, IsErrAnd, IfErr, slice_get}
use Rattle.w2c_files.proofs.Common.{Some, Ok, Err, Result, sym, refl, ap, ◌∙◌, subst, inl, inr, append_assoc, append-nil, arith, take_next}
use Rattle.w2c_files.proofs.Common.{Name, Event, Read, Passes, ReadsAll, ReadsOne, ReadsSome, StopsBy, total, ReadStop}
use Rattle.std.proofs.Math.Seq.{take-length}
use Rattle.w2c_files.specs.declared.reading.ReadStop.TheVariants as stop

reads_joined : (each : ℕ) (names : List Name) (all : List (List ℕ)) (events : List Event) (name : Name) (bytes : List ℕ)
    → ReadsAll each names all events
    → ReadsAll each (names ++ name ∷ []) (all ++ bytes ∷ []) (events ++ Read name each (Ok bytes) ∷ [])
reads_joined each [] [] events name bytes reads = rw reads (refl, refl)
reads_joined each (n ∷ names) (b ∷ all) (e ∷ events) name bytes reads = (reads.0, reads_joined each names all events name bytes reads.1)
reads_joined each _ _ _ name bytes reads = absurd reads

pub one_more_read : (each left : ℕ) (old before new : List Event) (names : List Name) (k number : ℕ) (name : Name)
    → (all more : List (List ℕ)) (bytes : List ℕ) → slice_get names k ≡ Some name → more ≡ all ++ bytes ∷ []
    → Passes old before (ReadsAll each (take k names) all) → Passes before new (ReadsOne each left name number (Ok bytes))
    → Passes old new (ReadsAll each (take (k + 1) names) more)
one_more_read each left old before new names k number name all more bytes at same (events, is, reads) (one, one_is, read) = (
  events ++ Read name each (Ok bytes) ∷ [],
  one_is ∙ ap (λ (l : List Event). before ++ l) read ∙ ap (λ (l : List Event). l ++ Read name each (Ok bytes) ∷ []) is
      ∙ append_assoc old events (Read name each (Ok bytes) ∷ []),
  rw same (rw (take_next names k name at) (reads_joined each (take k names) all events name bytes reads)),
)

-- the next file is refused
pub next_stops : (each most left : ℕ) (old before new : List Event) (names : List Name) (k : ℕ) (name : Name)
    → (all : List (List ℕ)) (why : ReadStop) → slice_get names k ≡ Some name → length all ≡ k → total all + left ≡ most
    → Passes old before (ReadsAll each (take k names) all) → Passes before new (ReadsOne each left name k (Err why))
    → Passes old new (ReadsSome each most names why)
next_stops each most left old before new names k name all why at many room (events, is, reads) (one, one_is, (answer, read, stops)) = (
  events ++ one,
  one_is ∙ ap (λ (l : List Event). l ++ one) is ∙ append_assoc old events one,
  (
    take k names,
    name ∷ drop (suc k) names,
    all,
    events,
    one,
    around names k name at,
    reads,
    refl,
    inr (
      name,
      drop (suc k) names,
      answer,
      refl,
      read,
      rw many (subst (λ n. StopsBy n k answer why) (let e : left ≡ most - total all = omega (arith, room) in e) stops),
      omega (arith, room),
    ),
  ),
)

-- memory is wanting behind the files that were read
pub memory_stops : (each most : ℕ) (old new : List Event) (names front rest : List Name) (all : List (List ℕ))
    → names ≡ front ++ rest → Passes old new (ReadsAll each front all) → Passes old new (ReadsSome each most names stop.Memory)
memory_stops each most old new names front rest all split (events, is, reads) =
    (events, is, (front, rest, all, events, [], split, reads, sym (append-nil events), inl (refl, refl)))

pub all_passed : (each : ℕ) (old new : List Event) (names : List Name) (k : ℕ) (all : List (List ℕ)) → k ≡ length names
    → Passes old new (ReadsAll each (take k names) all) → Passes old new (ReadsAll each names all)
all_passed each old new names k all end (events, is, reads) =
    (events, is, subst (λ (l : List Name). ReadsAll each l all events) (ap (λ n. take n names) end ∙ take-length names) reads)

pub if_memory : {A : Type 0} (r : Result A ReadStop) (P : ReadStop → Type 0) → IsErrAnd r (λ e. e ≡ stop.Memory) → P stop.Memory → IfErr r P
if_memory (Ok x) P is p = tt
if_memory (Err e) P is p = subst P (sym is) p
