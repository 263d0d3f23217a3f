-- Reading files ends in one way: they all give bytes, or it stops at one of them.
use Rattle.wasm2c_cli.proofs.Common.{◌≡◌, ℕ, ◌+◌, ◌-◌, ◌≤◌, List, [], ◌∷◌, ◌++◌, length, Ok, Err, Result, sym, refl, ap, ◌∙◌, subst, arith}
use Rattle.wasm2c_cli.proofs.Common.{Contents, Name, Event, Read, ReadAnswer, AreRead, NotThere, Past, StopsReading, TooLong, Unreadable}
use Rattle.wasm2c_cli.proofs.Common.{total, most_module_bytes, ReadsWhole, StopsAfter, StopsByAnswer, most_set_bytes}
use Rattle.w2c_io.specs.declared.answers.ReadAnswer.TheVariants as reading
use Rattle.w2c_files.proofs.Given.{gave_last, one_answer, one_given}
use Rattle.w2c_files.proofs.Stops.{no_stop, one_stop, same_bytes}
use Rattle.std.proofs.lemmas.List.{same_from_push}

pub record EndsOnce (names : List Name) (Stops : Name → Unreadable → Type 0) (Reads : List (List ℕ) → Type 0) : Type 0 where
  pub one_stops : (file other : Name) (why reason : Unreadable) → Stops file why → Stops other reason → (file ≡ other) × (why ≡ reason)
  pub same_read : (all others : List (List ℕ)) → Reads all → Reads others → all ≡ others
  pub stops_or_reads : (file : Name) (why : Unreadable) (all : List (List ℕ)) → Stops file why → Reads all → ⊥
  pub none_stops : (file : Name) (why : Unreadable) → names ≡ [] → Stops file why → ⊥

no_name : (names front rest : List Name) (file : Name) → names ≡ [] → names ≡ front ++ file ∷ rest → ⊥
no_name names [] rest file none is = cc
no_name names (n ∷ front) rest file none is = cc

-- ---- by what the files hold

pub contents_end : (contents : Contents) (names : List Name) → EndsOnce names
    (StopsReading most_module_bytes most_set_bytes contents names) (AreRead most_module_bytes most_set_bytes contents names)
contents_end contents names = record {
  one_stops = λ file other why reason s t. one_stop most_module_bytes most_set_bytes contents names file other why reason s t;
  same_read = λ all others r s. same_bytes most_module_bytes most_set_bytes contents names all others r s;
  stops_or_reads = λ file why all s r. no_stop most_module_bytes most_set_bytes contents names file why all s r;
  none_stops = λ file why none s. no_name names s.front s.rest file none s.split;
}

-- ---- by what the reads gave

-- an answer stops the reading for one reason
abbrev reason_of : ℕ → Result (List ℕ) ReadAnswer → Unreadable
reason_of before (Ok bytes) = Past (most_set_bytes - before)
reason_of before (Err reading.TooLong) = TooLong
reason_of before (Err _) = NotThere

is_reason : (before : ℕ) (answer : Result (List ℕ) ReadAnswer) (why : Unreadable) → StopsByAnswer before answer why
    → why ≡ reason_of before answer
is_reason before (Ok bytes) (Past place) s = ap Past s.1
is_reason before (Err reading.TooLong) TooLong s = refl
is_reason before (Err reading.Absent) NotThere s = refl
is_reason before (Err reading.Failed) NotThere s = refl
is_reason before _ _ s = absurd s

-- a read that gave bytes with room does not stop the reading
room : (before : ℕ) (bytes : List ℕ) (answer : Result (List ℕ) ReadAnswer) (why : Unreadable) → answer ≡ Ok bytes
    → before + length bytes ≤ most_set_bytes → StopsByAnswer before answer why → ⊥
room before bytes answer why is fits s = by why (subst (λ (a : Result (List ℕ) ReadAnswer). StopsByAnswer before a why) is s)
  where
    by : (why : Unreadable) → StopsByAnswer before (Ok bytes) why → ⊥
    by (Past place) (over, at) = omega (arith, over, fits)
    by _ s = s

module _ (given : List Event) (names : List Name) where
  one_after : (file other : Name) (why reason : Unreadable) → StopsAfter names given file why → StopsAfter names given other reason
      → (file ≡ other) × (why ≡ reason)
  one_after file other why reason s t =
      let last = same_from_push s.first t.first (Read file most_module_bytes s.answer) (Read other most_module_bytes t.answer)
      (sym s.calls ∙ t.calls) in
      let answers = one_answer file other most_module_bytes s.answer t.answer last.1 in
      let all = one_given most_module_bytes s.front t.front s.all t.all s.first s.read (rw last.0 t.read) in (
        answers.0,
        is_reason (total t.all) t.answer why (rw (all, answers.1) at s.stops) ∙ sym (is_reason (total t.all) t.answer reason t.stops),
      )

  after_or_whole : (file : Name) (why : Unreadable) (all : List (List ℕ)) → StopsAfter names given file why → ReadsWhole names given all → ⊥
  after_or_whole file why all s w =
      let last = gave_last most_module_bytes names all s.first (Read file most_module_bytes s.answer) (rw s.calls at w.calls) in
      let answers = one_answer file last.name most_module_bytes s.answer (Ok last.bytes) last.is in
      let same = one_given most_module_bytes s.front last.front s.all last.before s.first s.read last.gave in
      let sum = last.sum in let before = ap total same in let together = w.together in
      room (total s.all) last.bytes s.answer why answers.1 (omega (arith, sum, before, together)) s.stops

  pub reads_end : EndsOnce names (StopsAfter names given) (ReadsWhole names given)
  reads_end = record {
    one_stops = one_after;
    same_read = λ all others r s. one_given most_module_bytes names names all others given r.calls s.calls;
    stops_or_reads = after_or_whole;
    none_stops = λ file why none s. no_name names s.front s.rest file none s.split;
  }
