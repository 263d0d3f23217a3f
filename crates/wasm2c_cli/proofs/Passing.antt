-- What passes through files that are read or written one after another, by the stop.
use Rattle.wasm2c_cli.proofs.Common.{◌≡◌, ℕ, suc, ◌-◌, List, [], ◌∷◌, ◌++◌, length, IfErr, OnOk, slice_get, Some, Ok, Err, string_bytes}
use Rattle.wasm2c_cli.proofs.Common.{Result, sym, refl, ap, ◌∙◌, subst, inl, inr, append_assoc, same_Some, both_passed, file_written}
use Rattle.wasm2c_cli.proofs.Common.{finished_in_vain, passed_so, Name, Begin, Event, Finish, Read, BreaksOff, Passes, PutsText, WritesFile}
use Rattle.wasm2c_cli.proofs.Common.{ReadAnswer, WriteAnswer, behind_broken, both_written, broken_some, first_broken, longer_broken}
use Rattle.wasm2c_cli.proofs.Common.{one_written, BreaksOffAt, ReadsAll, ReadsSome, StopsBy, WritesFiles, NotThere, Past, TooLong}
use Rattle.wasm2c_cli.proofs.Common.{Unreadable, total, ReadStop, most_module_bytes, StopsAtFile, StopsAtLimit, StopsAtRead}
use Rattle.wasm2c_cli.proofs.Common.{StopsAtUnreadable, EndsReading, EndsWriting, TriesReading, ReadsFirst, StopsAfter, StopsByAnswer}
use Rattle.wasm2c_cli.proofs.Common.{most_set_bytes, PassesLimitBy, Reason, Stop}
use Rattle.w2c_io.specs.declared.answers.ReadAnswer.TheVariants as reading
use Rattle.w2c_io.specs.declared.answers.WriteAnswer.TheVariants as writing
use Rattle.w2c_files.specs.declared.reading.ReadStop.TheVariants as read
use Rattle.w2c_base.proofs.Places.{right_behind}
use Rattle.w2c_files.proofs.InOrder.{all_in_order, some_in_order}
use Rattle.wasm2c_cli.specs.declared.stop.Stop.TheVariants as stops

-- ---- the first of files are read

pub all_read_first : (names : List Name) (all : List (List ℕ)) (given : List Event) → ReadsAll most_module_bytes names all given
    → ReadsFirst names given
all_read_first names all given reads = all_in_order most_module_bytes names all given reads

pub many_read : (each : ℕ) (names : List Name) (all : List (List ℕ)) (events : List Event) → ReadsAll each names all events
    → length all ≡ length names
many_read each [] [] events reads = refl
many_read each (n ∷ names) (b ∷ all) (e ∷ events) reads = ap suc (many_read each names all events reads.1)
many_read each _ _ _ reads = absurd reads

-- ---- where reading stops

-- the number of the file at which reading stops, and why
abbrev stop_of : ReadStop → ℕ × Unreadable
stop_of (read.Unread k) = (k, NotThere)
stop_of (read.TooLong k) = (k, TooLong)
stop_of (read.Past k place) = (k, Past place)
stop_of read.Memory = (0, NotThere)

by_answer : (number before : ℕ) (answer : Result (List ℕ) ReadAnswer) (why : ReadStop) → (why ≡ read.Memory → ⊥)
    → StopsBy (most_set_bytes - before) number answer why → ((stop_of why).0 ≡ number) × StopsByAnswer before answer (stop_of why).1
by_answer number before (Ok bytes) (read.Past k place) apart (same, is, long) = (same, (long, is))
by_answer number before (Err reading.TooLong) (read.TooLong k) apart is = (is, tt)
by_answer number before (Err reading.Absent) (read.Unread k) apart is = (is, tt)
by_answer number before (Err reading.Failed) (read.Unread k) apart is = (is, tt)
by_answer number before (Err reading.Memory) read.Memory apart is = absurd (apart refl)
by_answer number before _ _ apart is = absurd is

module _ (names : List Name) (given : List Event) where
  abbrev Stopped : ReadStop → Type 0
  Stopped why = ReadsSome most_module_bytes most_set_bytes names why given

  -- the file with a number
  stopped_at : (why : ReadStop) (file : Name) → (why ≡ read.Memory → ⊥) → Stopped why → slice_get names (stop_of why).0 ≡ Some file
      → StopsAfter names given file (stop_of why).1
  stopped_at why file apart (front, rest, all, first, last, split, reads, calls, inl (none, memory)) at = absurd (apart memory)
  stopped_at why file apart (front, rest, all, first, last, split, reads, calls, inr (name, after, answer, is, one, stops, together)) at =
      let because = by_answer (length all) (total all) answer why apart stops in
      let parts : names ≡ front ++ name ∷ after = split ∙ ap (λ (l : List Name). front ++ l) is in
      let number = because.0 ∙ many_read most_module_bytes front all first reads in
      let here = subst (λ (l : List Name). slice_get l (stop_of why).0 ≡ Some file) parts at in
      let same : name ≡ file = same_Some name file (sym (right_behind front name after)
      ∙ subst (λ (n : ℕ). slice_get (front ++ name ∷ after) n ≡ Some file) number here) in
      record {
        front = front;
        rest = after;
        all = all;
        answer = answer;
        first = first;
        split = parts ∙ ap (λ (n : Name). front ++ n ∷ after) same;
        read = reads;
        calls = calls ∙ ap (λ (l : List Event). first ++ l) one ∙ ap (λ (n : Name). first ++ Read n most_module_bytes answer ∷ []) same;
        together = together;
        stops = because.1;
      }

  ends_unread : (k : ℕ) (stop : Stop) → Stopped (read.Unread k) → StopsAtUnreadable names k stop → EndsReading names given stop
  ends_unread k (stops.Unread name) why at = stopped_at (read.Unread k) (string_bytes name) (λ e. cc) why at
  ends_unread k stops.Memory why is = tt
  ends_unread k _ why is = absurd is

  ends_at_limit : (limit : Reason) (k : ℕ) (stop : Stop)
      → ((file : Name) → slice_get names k ≡ Some file → PassesLimitBy (StopsAfter names given file) limit)
      → StopsAtLimit limit names k stop → EndsReading names given stop
  ends_at_limit limit k (stops.Refused name reason) passes (is, at) = rw is (passes (string_bytes name) at)
  ends_at_limit limit k stops.Memory passes is = tt
  ends_at_limit limit k _ passes is = absurd is

  reading_ends : (why : ReadStop) (stop : Stop) → Stopped why → StopsAtRead why names stop → EndsReading names given stop
  reading_ends (read.Unread k) stop why is = ends_unread k stop why is
  reading_ends (read.TooLong k) stop why is =
      ends_at_limit _ k stop (λ file at. inl (stopped_at (read.TooLong k) file (λ e. cc) why at, refl)) is
  reading_ends (read.Past k place) stop why is =
      ends_at_limit _ k stop (λ file at. inr (place, stopped_at (read.Past k place) file (λ e. cc) why at, refl)) is
  reading_ends read.Memory stop why is = subst (EndsReading names given) (sym is) tt

  tries_reading : (why : ReadStop) (stop : Stop) → StopsAtRead why names stop → Stopped why → TriesReading names stop given
  tries_reading why stop is some =
      record { reads = some_in_order most_module_bytes most_set_bytes names why given some; ends = reading_ends why stop some is }

pub reading_tried : (old new : List Event) (names : List Name) (why : ReadStop) (stop : Stop)
    → Passes old new (ReadsSome most_module_bytes most_set_bytes names why) → StopsAtRead why names stop
    → Passes old new (TriesReading names stop)
reading_tried old new names why stop passed is =
    passed_so old new (ReadsSome most_module_bytes most_set_bytes names why) (TriesReading names stop)
    (λ given. tries_reading names given why stop is) passed

-- ---- one file, as its finish answers

pub finished : (old begun middle new : List Event) (name : Name) (text : List ℕ) (result : Result (Unit {0}) WriteAnswer)
    → begun ≡ old ++ Begin name (Ok tt) ∷ [] → Passes begun middle (PutsText text) → new ≡ middle ++ Finish result ∷ []
    → OnOk result (Passes old new (WritesFile name text))
finished old begun middle new name text (Ok tt) begins put ends = file_written old begun middle new name text begins put ends
finished old begun middle new name text (Err why) begins put ends = tt

pub not_finished : (old begun middle new : List Event) (name : Name) (text : List ℕ) (result : Result (Unit {0}) WriteAnswer)
    → begun ≡ old ++ Begin name (Ok tt) ∷ [] → Passes begun middle (PutsText text) → new ≡ middle ++ Finish result ∷ []
    → IfErr result (λ why. Passes old new (BreaksOff name text why))
not_finished old begun middle new name text (Ok x) begins put ends = tt
not_finished old begun middle new name text (Err why) begins put ends = finished_in_vain old begun middle new name text why begins put ends

-- ---- where writing stops

ends_at : (files : List (Name × List ℕ)) (answer : WriteAnswer) (file : Name) (put : List Event) (stop : Stop)
    → BreaksOffAt files file answer put → StopsAtFile answer file stop → EndsWriting files stop put
ends_at files answer file put (stops.Unwritten name) broken (failed, same) = rw same (rw failed at broken)
ends_at files answer file put stops.Memory broken is = broken_some files file answer put broken
ends_at files answer file put _ broken is = absurd is

-- the first of files is broken off
pub first_ends : (old new : List Event) (f : Name × List ℕ) (rest files : List (Name × List ℕ)) → f ∷ rest ≡ files → (answer : WriteAnswer)
    (stop : Stop) → Passes old new (BreaksOff f.0 f.1 answer) → StopsAtFile answer f.0 stop → Passes old new (EndsWriting files stop)
first_ends old new f rest files same answer stop passed is =
    subst (λ (l : List (Name × List ℕ)). Passes old new (EndsWriting l stop)) same
    (passed_so old new (BreaksOff f.0 f.1 answer) (EndsWriting (f ∷ rest) stop)
    (λ put broken. ends_at (f ∷ rest) answer f.0 put stop (first_broken f.0 f.1 rest answer put broken) is) passed)

module _ (old middle new : List Event) (f g : Name × List ℕ) (files : List (Name × List ℕ)) (same : f ∷ g ∷ [] ≡ files) where
  -- the second is
  pub second_ends : (answer : WriteAnswer) (stop : Stop) → Passes old middle (WritesFile f.0 f.1)
      → Passes middle new (BreaksOff g.0 g.1 answer) → StopsAtFile answer g.0 stop → Passes old new (EndsWriting files stop)
  second_ends answer stop one broken is = subst (λ (l : List (Name × List ℕ)). Passes old new (EndsWriting l stop)) same
      (both_passed old middle new (WritesFile f.0 f.1) (BreaksOff g.0 g.1 answer) (EndsWriting (f ∷ g ∷ []) stop)
      (λ front back wrote breaks. ends_at (f ∷ g ∷ []) answer g.0 (front ++ back) stop
      (behind_broken (f ∷ []) (g ∷ []) g.0 answer front back (one_written f.0 f.1 front wrote)
      (first_broken g.0 g.1 [] answer back breaks)) is) one broken)

  pub two_written : Passes old middle (WritesFile f.0 f.1) → Passes middle new (WritesFile g.0 g.1) → Passes old new (WritesFiles files)
  two_written one two = subst (λ (l : List (Name × List ℕ)). Passes old new (WritesFiles l)) same
      (both_passed old middle new (WritesFile f.0 f.1) (WritesFile g.0 g.1) (WritesFiles (f ∷ g ∷ []))
      (λ front back wrote then. both_written (f ∷ []) (g ∷ []) front back (one_written f.0 f.1 front wrote)
      (one_written g.0 g.1 back then)) one two)

-- behind files that are written, and in front of others
pub ends_among : (front files rest : List (Name × List ℕ)) (first last : List Event) (stop : Stop) → WritesFiles front first
    → EndsWriting files stop last → EndsWriting (front ++ (files ++ rest)) stop (first ++ last)
ends_among front files rest first last stops.Usage whole ends = absurd ends
ends_among front files rest first last (stops.Refused name reason) whole ends = absurd ends
ends_among front files rest first last (stops.Unread name) whole ends = absurd ends
ends_among front files rest first last (stops.Unwritten name) whole ends =
    behind_broken front (files ++ rest) (string_bytes name) writing.Failed first last whole
    (longer_broken files rest (string_bytes name) writing.Failed last ends)
ends_among front files rest first last stops.Memory whole (inl s) = inl (record {
  done = front ++ s.done;
  rest = s.rest ++ rest;
  split = ap (λ (l : List (Name × List ℕ)). front ++ (l ++ rest)) s.split
      ∙ ap (λ (l : List (Name × List ℕ)). front ++ l) (append_assoc s.done s.rest rest) ∙ sym (append_assoc front s.done (s.rest ++ rest));
  whole = both_written front s.done first last whole s.whole;
})
ends_among front files rest first last stops.Memory whole (inr (name, why, at)) =
    inr (name, why, behind_broken front (files ++ rest) name why first last whole (longer_broken files rest name why last at))
