-- What the end of the work says of what passed through the files.
use Rattle.wasm2c_cli.proofs.Common.{◌≡◌, ℕ, ◌⊎◌, List, [], ◌∷◌, ◌++◌, Some, None, string_bytes, Option, refl, ap, ◌∙◌, subst, inl, inr}
use Rattle.wasm2c_cli.proofs.Common.{Name, Event, all_some, broken_some, WritesFiles, most_module_bytes, Module, TranslationTheorem, Line}
use Rattle.wasm2c_cli.proofs.Common.{generate, line_of, runtime, Job, Missing, Refused, Write, files_of, line_for, status_of, PassesWhole}
use Rattle.wasm2c_cli.proofs.Common.{PassesWork, TriesLine, TriesWork, Follows, IsJobOver, IsUnitOf, PassesFor, PassesLine, PutsLinkedUnits}
use Rattle.wasm2c_cli.proofs.Common.{ReadsFirst, ReadsWhole, inputs_of, targets_of, runtime_files, NamesModules, Stop}
use Rattle.w2c_io.specs.declared.answers.WriteAnswer.TheVariants as writing
use Rattle.wasm2c_cli.specs.declared.stop.Stop.TheVariants as stops
use Rattle.wasm2c_cli.proofs.Passing.{all_read_first, many_read}
use Rattle.wasm2c_cli.proofs.TopLaws.{Made, files_made, generated_made, translated_by, hold_units, linked_units}
use Rattle.wasm2c_cli.proofs.TopLaws.{TextsSpellUnits, targets_have}

-- ---- work that was finished

-- the modules of a line are translated, and their files put
record Puts (line : Line) (events : List Event) : Type 0 where
  given : List Event
  put : List Event
  modules : List Module
  split : events ≡ given ++ put
  reads : ReadsFirst (inputs_of line) given
  made : Made (ReadsWhole (inputs_of line) given) line modules
  files : WritesFiles (files_of (targets_of line) modules) put

is_made : (line : Line) (events : List Event) → ((dir : Name) → line ≡ runtime dir → ⊥) → PassesWhole line events → Puts line events
is_made (generate g) events names whole =
    let made = generated_made (ReadsWhole [] []) g whole.bytes whole.generated whole.taken whole.named in
    record { given = []; put = events; modules = whole.generated ∷ []; split = refl; reads = tt; made = made; files = whole.files }
is_made (runtime dir) events names whole = absurd (names dir refl)
is_made line events names all =
    let reads = all_read_first (inputs_of line) all.sources all.given all.read.calls in
    let many = many_read most_module_bytes (inputs_of line) all.sources all.given all.read.calls in
    let made = files_made (ReadsWhole (inputs_of line) all.given) line all.sources all.modules tt all.read many all.taken all.named in
    record { given = all.given; put = all.put; modules = all.modules; split = all.split; reads = reads; made = made; files = all.files }

-- ---- the status, and what passes

module _ (words : List Name) (status : ℕ) (says : List ℕ → Type 0) (events : List Event) where
  -- memory was wanting for a line, before any call
  for_memory : status ≡ 5 → events ≡ [] → PassesFor words status says events
  for_memory five nothing = by_line (line_of words) refl
    where
      by_line : (o : Option Line) → line_of words ≡ o → PassesFor words status says events
      by_line None is = rw is (nothing, inr five)
      by_line (Some line) is =
          rw is (record { given = []; put = []; split = nothing; reads = tt; follows = inr (five, refl) })

  -- ---- work that was finished

  pub finish_passes : PassesWork words events → (status ≡ 0) ⊎ (status ≡ 5) → PassesFor words status says events
  finish_passes (line, is, has, whole) ends = rw is (by line whole)
    where
      follows : (files : List (Name × List ℕ)) (put : List Event) → WritesFiles files put → Follows (Write files) status says put
      follows files put wrote = elim ends [ inl zero ↦ inl (zero, wrote) | inr five ↦ inr (inr (five, all_some files put wrote)) ]

      by : (line : Line) → PassesWhole line events → PassesLine line status says events
      by (runtime dir) whole =
          let written = follows (runtime_files dir) events whole in
          record { given = []; put = events; split = refl; reads = tt; follows = inl (Write (runtime_files dir), refl, written) }
      by line whole =
          let m : Puts line events = is_made line events (λ dir e. cc) whole in
          let files = files_of (targets_of line) m.modules in
          let job = translated_by (ReadsWhole (inputs_of line) m.given) line m.modules m.made in
          let written = follows files m.put m.files in
          record { given = m.given; put = m.put; split = m.split; reads = m.reads; follows = inl (Write files, job, written) }

  -- ---- work that stopped

  abbrev Ended : Line → List Event → List Event → Type 0
  Ended line given put = ((job : Job) × IsJobOver line given job × Follows job status says put) ⊎ ((status ≡ 5) × (put ≡ []))

  -- the stop's status and its line, or memory was wanting
  abbrev Ends : Stop → Type 0
  Ends stop = ((status ≡ status_of stop) × says (line_for stop)) ⊎ (status ≡ 5)

  on_line : (line : Line) (stop : Stop) → TriesLine line stop events → Ends stop → PassesLine line status says events
  on_line line stop tried ends =
      record { given = tried.given; put = tried.put; split = tried.split; reads = tried.reads; follows = follows stop tried ends }
    where
      wants : status ≡ 5 → (tried : TriesLine line stops.Memory events) → Ended line tried.given tried.put
      wants five tried = elim tried.ends [ inl none ↦ inr (five, none) | inr some ↦ inl (Write some.0, some.1, inr (inr (five, some.2))) ]

      follows : (stop : Stop) (tried : TriesLine line stop events) → Ends stop → Ended line tried.given tried.put
      follows stops.Usage tried ends = absurd tried.ends
      follows stops.Memory tried (inl (five, said)) = wants five tried
      follows stops.Memory tried (inr five) = wants five tried
      follows (stops.Refused name reason) tried (inl (is, said)) =
          inl (Refused (string_bytes name) reason, tried.ends.1, (is, tried.ends.0, said))
      follows (stops.Unread name) tried (inl (is, said)) = inl (Missing (string_bytes name), tried.ends.1, (is, tried.ends.0, said))
      follows (stops.Unwritten name) tried (inl (is, said)) =
          inl (Write tried.ends.0, tried.ends.1, inr (inl (is, string_bytes name, tried.ends.2, said)))
      follows (stops.Unwritten name) tried (inr five) = inl (
        Write tried.ends.0,
        tried.ends.1,
        inr (inr (five, broken_some tried.ends.0 (string_bytes name) writing.Failed tried.put tried.ends.2)),
      )
      follows _ tried (inr five) = inr (five, tried.ends.0)

  pub stop_passes : (stop : Stop) → TriesWork words stop events → (status ≡ status_of stop) ⊎ (status ≡ 5)
      → (status ≡ status_of stop → says (line_for stop) ⊎ (status ≡ 5)) → PassesFor words status says events
  stop_passes stop tried is said = by tried (ends is)
    where
      ends : (status ≡ status_of stop) ⊎ (status ≡ 5) → Ends stop
      ends (inr five) = inr five
      ends (inl is) = elim (said is) [ inl told ↦ inl (is, told) | inr five ↦ inr five ]

      by : TriesWork words stop events → Ends stop → PassesFor words status says events
      by (inl (usage, none, nothing)) (inl (is, told)) =
          rw none (nothing, inl (is ∙ ap status_of usage, subst says (ap line_for usage) told))
      by (inl (usage, none, nothing)) (inr five) = rw none (nothing, inr five)
      by (inr (inl (memory, nothing))) (inl (is, told)) = for_memory (is ∙ ap status_of memory) nothing
      by (inr (inl (memory, nothing))) (inr five) = for_memory five nothing
      by (inr (inr (line, found, tried))) ends = rw found (on_line line stop tried ends)

-- ---- what is linked of the units that were put

pub puts_linked : TranslationTheorem → TextsSpellUnits → (words : List Name) (events : List Event) → PassesWork words events
    → NamesModules words → PutsLinkedUnits words events
puts_linked theorem spell words events (line, is, has, whole) names =
    let m : Puts line events = is_made line events (λ dir e. names dir (is ∙ ap (λ (l : Line). Some l) e)) whole in
    let all : Made (ReadsWhole (inputs_of line) m.given) line m.modules = m.made in
    let units = hold_units spell (targets_of line) all.sources m.modules (targets_have line has) all.named all.taken all.many in (
      line,
      is,
      record {
        given = m.given;
        put = m.put;
        split = m.split;
        reads = m.reads;
        stand = record { sources = all.sources; modules = m.modules; read = all.read; all = units };
        files = m.files;
        same = linked_units theorem IsUnitOf (λ t bytes tree unit. unit.is_module) (targets_of line) all.sources m.modules units;
      },
    )
