-- What stands after a call, where the files behave as files: what its clauses on contents say.
use Rattle.wasm2c_cli.proofs.Common.{◌≡◌, ℕ, zero, suc, ◌⊎◌, List, [], ◌∷◌, ◌++◌, get_or, Some, None, Ok, Err, Option, Result, MatchOption}
use Rattle.wasm2c_cli.proofs.Common.{sym, refl, ◌∙◌, subst, inl, inr, append-nil, arith, same_Some, Contents, Name, Told, Event, Read}
use Rattle.wasm2c_cli.proofs.Common.{AreHonest, Does, ReadAnswer, FailsLast, WritesFiles, limited, AreRead, IsUnreadable, NotThere, Past}
use Rattle.wasm2c_cli.proofs.Common.{StopsReading, TooLong, Unreadable, total, StandsAt, written, most_module_bytes, Line, generate}
use Rattle.wasm2c_cli.proofs.Common.{line_of, runtime, AreReadOf, AreSourcesBy, IsJob, IsJobOf, Job, Missing, Refused, Usage, Write}
use Rattle.wasm2c_cli.proofs.Common.{WritesBy, read_line, refused_line, usage_line, write_line, Follows, IsJobOver, PassesLine, ReadsFirst}
use Rattle.wasm2c_cli.proofs.Common.{ReadsWhole, StopsAfter, StopsByAnswer, inputs_of, most_set_bytes, Done, StandsOfJob, Answers, Reason}
use Rattle.w2c_io.specs.declared.answers.ReadAnswer.TheVariants as reading
use Rattle.w2c_files.proofs.Honest.{broken_stands, files_hold, honest_both, in_order_keep, reads_are, some_stand}
use Rattle.wasm2c_cli.specs.HonestPassing.{PassesHonestly}

-- ---- jobs over bytes of which less is said

module _ (P Q : List (List ℕ) → Type 0) (so : (all : List (List ℕ)) → P all → Q all) where
  pub sources_so : (line : Line) (sources : List (List ℕ)) → AreSourcesBy P line sources → AreSourcesBy Q line sources
  sources_so (generate g) sources read = read
  sources_so (runtime dir) sources read = read
  sources_so line sources read = so sources read

  writes_so : (line : Line) (files : List (Name × List ℕ)) → WritesBy P line files → WritesBy Q line files
  writes_so (runtime dir) files w = w
  writes_so line files w =
      let read = sources_so line w.sources w.read in
      record { sources = w.sources; modules = w.modules; read = read; accepted = w.accepted; written = w.written }

-- what a call comes to, for each status from 0 on: the job's files stand whole, a file is refused, the words have no line, a file is not
-- there or its read failed, a write of a file failed, or memory was wanting
abbrev Came : List Name → (List ℕ → Type 0) → Contents → Told → List Event → ℕ → Type 0
Came words says m new events status = get_or (
    ((files : List (Name × List ℕ)) × IsJob words m (Write files) × (new ≡ written (Some m) files))
    ∷ ((new ≡ Some m) × ((file : Name) × (reason : Reason) × says (refused_line file reason) × IsJob words m (Refused file reason)))
    ∷ ((new ≡ Some m) × (line_of words ≡ None))
    ∷ ((new ≡ Some m) × ((file : Name) × says (read_line file) × (IsJob words m (Missing file) ⊎ FailsLast file events)))
    ∷ ((file : Name) × (files : List (Name × List ℕ)) × IsJob words m (Write files) × StandsAt (Some m) new files file
    × says (write_line file))
    ∷ StandsOfJob words m (Some m) new ∷ []) status ⊥

-- ---- one line

module _ (line : Line) (m : Contents) (given put : List Event) (new : Told) (current after : Option Name)
    (reads : ReadsFirst (inputs_of line) given) (honest : AreHonest (given ++ put) (Some m) current new after) where
  -- what stands behind the reads is what stood before
  behind : (at : Option Name) × AreHonest put (Some m) at new after
  behind =
      let (told, at, first, last) = honest_both given put (Some m) new current after honest in
      let kept = (in_order_keep (limited most_module_bytes (inputs_of line)) given (Some m) told current at reads first).0 in
      (at, subst (λ (t : Told). AreHonest put t at new after) kept last)

  none_put : put ≡ [] → new ≡ Some m
  none_put none = (subst (λ (es : List Event). AreHonest es (Some m) behind.0 new after) none behind.1).0

  pub whole_put : (files : List (Name × List ℕ)) → WritesFiles files put → new ≡ written (Some m) files
  whole_put files wrote = files_hold files put (Some m) new behind.0 after wrote behind.1

  pub all_held : (all : List (List ℕ)) → ReadsWhole (inputs_of line) given all → AreReadOf line m all
  all_held all read =
      let (told, at, first, last) = honest_both given put (Some m) new current after honest in
      let held = reads_are most_module_bytes (inputs_of line) all given m (Some m) told current at refl read.calls first in
      record { held = held.0; fit = read.fit; together = read.together }

  written_job : (files : List (Name × List ℕ)) → IsJobOver line given (Write files) → IsJobOf line m (Write files)
  written_job files job = writes_so (ReadsWhole (inputs_of line) given) (AreReadOf line m) all_held line files job

  -- what the last read found, and what was read in front of it
  last_read : (file : Name) (why : Unreadable) (at : StopsAfter (inputs_of line) given file why)
      → ((told : Told) × (here : Option Name) × (now : Option Name) × Does (Read file most_module_bytes at.answer) (Some m) here told now)
      × AreRead most_module_bytes most_set_bytes m at.front at.all
  last_read file why at =
      let (told, name, before, behind) = honest_both given put (Some m) new current after honest in
      let (middle, other, first, last) = honest_both at.first (Read file most_module_bytes at.answer ∷ []) (Some m) told current name
      (subst (λ (es : List Event). AreHonest es (Some m) current told name) at.calls before) in
      let (held, kept, fit) = reads_are most_module_bytes at.front at.all at.first m (Some m) middle current other refl at.read first in (
        (last.0, other, last.1, subst (λ (t : Told). Does (Read file most_module_bytes at.answer) t other last.0 last.1) kept last.2),
        record { held = held; fit = fit; together = at.together },
      )

  -- the reading stopped as it does over what the files hold, or the last read failed
  stopped_job : (file : Name) (why : Unreadable) → StopsAfter (inputs_of line) given file why
      → StopsReading most_module_bytes most_set_bytes m (inputs_of line) file why ⊎ ((why ≡ NotThere) × FailsLast file given)
  stopped_job file why at =
      let (last, read) = last_read file why at in
      elim (by last.0 last.1 last.2 at.answer why at.stops at.calls last.3) [
        | inl stops ↦ inl (record { front = at.front; rest = at.rest; all = at.all; split = at.split; read = read; stops = stops })
        | inr fails ↦ inr fails
      ]
    where
      by : (told : Told) (here now : Option Name) (answer : Result (List ℕ) ReadAnswer) (why : Unreadable)
          → StopsByAnswer (total at.all) answer why → given ≡ at.first ++ Read file most_module_bytes answer ∷ []
          → Does (Read file most_module_bytes answer) (Some m) here told now
          → IsUnreadable most_module_bytes most_set_bytes (total at.all) m file why ⊎ ((why ≡ NotThere) × FailsLast file given)
      by told here now (Err reading.Absent) NotThere stops calls does = inl does.0
      by told here now (Err reading.Failed) NotThere stops calls does = inr (refl, (at.first, most_module_bytes, calls))
      by told here now (Err reading.TooLong) TooLong stops calls does = inl does.0
      by told here now (Ok bytes) (Past place) (long, is) calls does = inl (bytes, does.0, does.3, omega (arith, long, at.together), is)
      by told here now _ _ stops calls does = absurd stops

  -- where the file is there
  limit_job : (file : Name) (why : Unreadable) → (why ≡ NotThere → ⊥) → StopsAfter (inputs_of line) given file why
      → StopsReading most_module_bytes most_set_bytes m (inputs_of line) file why
  limit_job file why there at = elim (stopped_job file why at) [ inl stops ↦ stops | inr fails ↦ absurd (there fails.0) ]

  refused_job : (file : Name) (reason : Reason) → IsJobOver line given (Refused file reason) → IsJobOf line m (Refused file reason)
  refused_job file reason (inl (inl (stops, is))) = inl (inl (limit_job file TooLong (λ e. cc) stops, is))
  refused_job file reason (inl (inr (place, stops, is))) = inl (inr (place, limit_job file (Past place) (λ e. cc) stops, is))
  refused_job file reason (inr (sources, read, first)) =
      inr (sources, sources_so (ReadsWhole (inputs_of line) given) (AreReadOf line m) all_held line sources read, first)

  -- ---- what a call on words of this line comes to

  module _ (words : List Name) (found : line_of words ≡ Some line) (status : ℕ) (says : List ℕ → Type 0) (events : List Event)
      (split : events ≡ given ++ put) where
    abbrev CameTo : ℕ → Type 0
    CameTo = Came words says m new events

    on_job : (job : Job) → IsJobOver line given job → Follows job status says put → CameTo status
    on_job Usage job follows = absurd follows
    on_job (Missing file) job (is, none, said) = subst CameTo (sym is) (
      none_put none,
      (
        file,
        said,
        elim (stopped_job file NotThere job) [
          | inl of_line ↦ inl (rw found of_line)
          | inr (away, (front, limit, calls)) ↦ inr (
            front,
            limit,
            split ∙ (λ i. calls i ++ none i) ∙ append-nil (front ++ Read file limit (Err reading.Failed) ∷ []),
          )
        ],
      ),
    )
    on_job (Refused file reason) job (is, none, said) =
        subst CameTo (sym is) (none_put none, (file, reason, said, rw found (refused_job file reason job)))
    on_job (Write files) job (inl (is, wrote)) = subst CameTo (sym is) (files, rw found (written_job files job), whole_put files wrote)
    on_job (Write files) job (inr (inl (is, file, broken, said))) =
        let at = broken_stands files file _ put (Some m) new behind.0 after broken behind.1 in
        subst CameTo (sym is) (file, files, rw found (written_job files job), at, said)
    on_job (Write files) job (inr (inr (is, some))) =
        let stands = some_stand files put (Some m) new behind.0 after some behind.1 in
        subst CameTo (sym is) (inr (files, rw found (written_job files job), stands))

-- ---- the words

module _ (words : List Name) (status : ℕ) (says : List ℕ → Type 0) (m : Contents) (new : Told)
    (call : PassesHonestly words status says m new) where
  abbrev Comes : ℕ → Type 0
  Comes = Came words says m new call.events

  pub came : Comes status
  came = by (line_of words) refl call.passes
    where
      so : (events : List Event) → call.events ≡ events → AreHonest events (Some m) call.current new call.after
      so events is = subst (λ (es : List Event). AreHonest es (Some m) call.current new call.after) is call.honest

      by : (o : Option Line) → line_of words ≡ o → MatchOption o ((call.events ≡ []) × (((status ≡ 2) × says usage_line) ⊎ (status ≡ 5)))
          (λ line. PassesLine line status says call.events) → Comes status
      by None is (nothing, inl (two, said)) = subst Comes (sym two) ((so [] nothing).0, is)
      by None is (nothing, inr five) = subst Comes (sym five) (inl (so [] nothing).0)
      by (Some line) is p = elim p.follows [
        | inl (job, over, follows) ↦ on_job line m p.given p.put new call.current call.after p.reads (so (p.given ++ p.put) p.split)
            words is status says call.events p.split job over follows
        | inr (five, none) ↦ subst Comes (sym five)
            (inl (none_put line m p.given p.put new call.current call.after p.reads (so (p.given ++ p.put) p.split) none))
      ]

  -- status 1 to 3: nothing has changed
  pub honest_untouched : (status ≡ 1) ⊎ (status ≡ 2) ⊎ (status ≡ 3) → new ≡ Some m
  honest_untouched (inl is) = (subst Comes is came).0
  honest_untouched (inr (inl is)) = (subst Comes is came).0
  honest_untouched (inr (inr is)) = (subst Comes is came).0

  -- any status: that of the job, unless a read or a write failed or memory was wanting
  pub honest_answered : (n : ℕ) → Comes n
      → (n ≡ 4) ⊎ (n ≡ 5) ⊎ ((file : Name) × FailsLast file call.events) ⊎ ((job : Job) × IsJob words m job × Answers job n)
  honest_answered zero (files, job, whole) = inr (inr (inr (Write files, job, refl)))
  honest_answered (suc zero) (same, (file, reason, said, job)) = inr (inr (inr (Refused file reason, job, refl)))
  honest_answered (suc (suc zero)) (same, none) = inr (inr (inr (Usage, rw none refl, refl)))
  honest_answered (suc (suc (suc zero))) (same, (file, said, inl job)) = inr (inr (inr (Missing file, job, refl)))
  honest_answered (suc (suc (suc zero))) (same, (file, said, inr fails)) = inr (inr (inl (file, fails)))
  honest_answered (suc (suc (suc (suc zero)))) broken = inl refl
  honest_answered (suc (suc (suc (suc (suc zero))))) stands = inr (inl refl)
  honest_answered _ none = absurd none

-- status 0: the job's files stand whole
pub honest_done : (words : List Name) (says : List ℕ → Type 0) (m : Contents) (new : Told) → PassesHonestly words 0 says m new
    → Done words (Some m) new
honest_done words says m new call = λ contents told.
    subst (λ (c : Contents). (files : List (Name × List ℕ)) × IsJob words c (Write files) × (new ≡ written (Some m) files))
    (same_Some m contents told) (came words 0 says m new call)
