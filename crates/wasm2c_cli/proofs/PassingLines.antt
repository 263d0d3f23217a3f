-- What passes through the files for each form of a line.
use Rattle.wasm2c_cli.proofs.Common.{◌≡◌, ℕ, ◌≤◌, List, [], length, IfErr, OnOk, Some, Ok, Err, Result, sym, refl, subst, inl, inr}
use Rattle.wasm2c_cli.proofs.Common.{append-nil, IfErr-weaker, on_ok_weaker, AllByRecursion, both_passed, passed_so, Name, Event, Passes}
use Rattle.wasm2c_cli.proofs.Common.{ReadsAll, WritesFiles, total, most_module_bytes, Module, Generation, Line, generate, line_of, runtime}
use Rattle.wasm2c_cli.proofs.Common.{Write, files_of, module_files, AreTaken, HasPassed, IsNamed, IsTakenFile, StopsAccepting, AllAccepted}
use Rattle.wasm2c_cli.proofs.Common.{EndsLine, EndsTranslating, EndsWriting, PassesWhole, PassesWork, TranslatesAll, TriesLine}
use Rattle.wasm2c_cli.proofs.Common.{TriesReading, TriesTranslating, TriesWork, IsJobOver, ReadsWhole, inputs_of, most_set_bytes, target}
use Rattle.wasm2c_cli.proofs.Common.{targets_of, runtime_files, Stop, EndsReading}
use Rattle.wasm2c_cli.specs.declared.stop.Stop.TheVariants as stops
use Rattle.wasm2c_cli.specs.Plan as plan
use Rattle.wasm2c_cli.proofs.LineStops.{IsOfFiles, files_by, generated_by}
use Rattle.wasm2c_cli.proofs.Passing.{all_read_first}
use Rattle.wasm2c_cli.proofs.Taken.{taken_accepted}

-- ---- translating files

module _ (inputs : List Name) (targets : List plan.Target) (old new : List Event) where
  -- not all are read
  reading_ends : (given : List Event) (stop : Stop) → EndsReading inputs given stop → EndsTranslating inputs targets given [] stop
  reading_ends given (stops.Refused name reason) why = (refl, inl why)
  reading_ends given (stops.Unread name) why = (refl, why)
  reading_ends given stops.Memory why = inl refl
  reading_ends given _ why = absurd why

  pub reading_passed : (stop : Stop) → Passes old new (TriesReading inputs stop) → Passes old new (TriesTranslating inputs targets stop)
  reading_passed stop = passed_so old new (TriesReading inputs stop) (TriesTranslating inputs targets stop) (λ given tried.
      record { given = given; put = []; split = sym (append-nil given); reads = tried.reads; ends = reading_ends given stop tried.ends })

  -- all are read and accepted, and not all are written
  writing_ends : (given put : List Event) (modules : List Module) → AllAccepted inputs given modules → (stop : Stop)
      → EndsWriting (files_of targets modules) stop put → EndsTranslating inputs targets given put stop
  writing_ends given put modules all (stops.Unwritten name) broken = (modules, all, broken)
  writing_ends given put modules all stops.Memory some = inr (modules, all, some)
  writing_ends given put modules all _ why = absurd why

  module _ (sources : List (List ℕ)) (fit : AllByRecursion (λ bytes. length bytes ≤ most_module_bytes) sources)
      (together : total sources ≤ most_set_bytes) where
    all_read : (given : List Event) → ReadsAll most_module_bytes inputs sources given → ReadsWhole inputs given sources
    all_read given calls = record { calls = calls; fit = fit; together = together }

    -- not all are accepted
    accepting_ends : (given : List Event) → ReadsAll most_module_bytes inputs sources given → (stop : Stop)
        → StopsAccepting inputs sources stop → EndsTranslating inputs targets given [] stop
    accepting_ends given calls (stops.Refused name reason) why = (refl, inr (sources, all_read given calls, why))
    accepting_ends given calls stops.Memory why = inl refl
    accepting_ends given calls _ why = absurd why

    pub accepting_passed : (stop : Stop) → StopsAccepting inputs sources stop → Passes old new (ReadsAll most_module_bytes inputs sources)
        → Passes old new (TriesTranslating inputs targets stop)
    accepting_passed stop why = passed_so old new (ReadsAll most_module_bytes inputs sources) (TriesTranslating inputs targets stop)
        (λ given calls.
        let reads = all_read_first inputs sources given calls in
        record { given = given; put = []; split = sym (append-nil given); reads = reads; ends = accepting_ends given calls stop why })

    module _ (modules : List Module) (taken : AreTaken sources modules) (middle : List Event)
        (read : Passes old middle (ReadsAll most_module_bytes inputs sources)) where
      all_accepted : (given : List Event) → ReadsAll most_module_bytes inputs sources given → AllAccepted inputs given modules
      all_accepted given calls = record { sources = sources; read = all_read given calls; accepted = taken_accepted sources modules taken }

      pub writing_passed : {A : Type 0} (result : Result A Stop)
          → IfErr result (λ stop. Passes middle new (EndsWriting (files_of targets modules) stop))
          → IfErr result (λ stop. Passes old new (TriesTranslating inputs targets stop))
      writing_passed result = IfErr-weaker result _ _ (λ stop. both_passed old middle new (ReadsAll most_module_bytes inputs sources)
          (EndsWriting (files_of targets modules) stop) (TriesTranslating inputs targets stop) (λ given put calls why.
          let reads = all_read_first inputs sources given calls in
          let ends = writing_ends given put modules (all_accepted given calls) stop why in
          record { given = given; put = put; split = refl; reads = reads; ends = ends }) read)

      pub all_passed : {A : Type 0} (result : Result A Stop) → OnOk result (AllByRecursion IsNamed targets)
          → OnOk result (Passes middle new (WritesFiles (files_of targets modules)))
          → OnOk result (Passes old new (TranslatesAll inputs targets))
      all_passed (Ok x) named wrote =
          both_passed old middle new (ReadsAll most_module_bytes inputs sources) (WritesFiles (files_of targets modules))
          (TranslatesAll inputs targets) (λ given put calls files. record {
            given = given;
            put = put;
            sources = sources;
            modules = modules;
            split = refl;
            read = all_read given calls;
            taken = taken;
            named = named;
            files = files;
          }) read wrote
      all_passed (Err stop) named wrote = tt

-- ---- a line of one file, and a set

files_ended : (line : Line) (stop : Stop) (given put : List Event) → IsOfFiles line
    → EndsTranslating (inputs_of line) (targets_of line) given put stop → EndsLine line given put stop
files_ended (generate g) stop given put of why = absurd of
files_ended (runtime dir) stop given put of why = absurd of
files_ended line (stops.Unwritten name) given put of (modules, all, broken) =
    (_, files_by (ReadsWhole (inputs_of line) given) line all.sources modules of all.read all.accepted, broken)
files_ended line stops.Memory given put of (inl none) = inl none
files_ended line stops.Memory given put of (inr (modules, all, some)) =
    inr (_, files_by (ReadsWhole (inputs_of line) given) line all.sources modules of all.read all.accepted, some)
files_ended line _ given put of why = why

pub files_tried : {A : Type 0} (old new : List Event) (result : Result A Stop) (line : Line) → IsOfFiles line
    → IfErr result (λ stop. Passes old new (TriesTranslating (inputs_of line) (targets_of line) stop))
    → IfErr result (λ stop. Passes old new (TriesLine line stop))
files_tried old new result line of = IfErr-weaker result _ _
    (λ stop. passed_so old new (TriesTranslating (inputs_of line) (targets_of line) stop) (TriesLine line stop) (λ events tried.
    let ends = files_ended line stop tried.given tried.put of tried.ends in
    record { given = tried.given; put = tried.put; split = tried.split; reads = tried.reads; ends = ends }))

-- ---- a line without reads

module _ (line : Line) (files : List (Name × List ℕ)) (job : IsJobOver line [] (Write files)) where
  put_ends : (put : List Event) (stop : Stop) → EndsWriting files stop put → EndsLine line [] put stop
  put_ends put (stops.Unwritten name) broken = (files, job, broken)
  put_ends put stops.Memory some = inr (files, job, some)
  put_ends put _ why = absurd why

  put_tried : {A : Type 0} (old new : List Event) (result : Result A Stop) → IfErr result (λ stop. Passes old new (EndsWriting files stop))
      → IfErr result (λ stop. Passes old new (TriesLine line stop))
  put_tried old new result = IfErr-weaker result _ _ (λ stop. passed_so old new (EndsWriting files stop) (TriesLine line stop) (λ put why.
      record { given = []; put = put; split = refl; reads = tt; ends = put_ends put stop why }))

-- a generated module
module _ (g : Generation) (bytes : List ℕ) (m : Module) (taken : IsTakenFile g bytes m) where
  module _ {A : Type 0} (old new : List Event) (result : Result A Stop) (t : plan.Target) (is : t ≡ target g.output g.module_name) where
    pub generation_tried : IfErr result (λ stop. Passes old new (EndsWriting (module_files t m) stop))
        → IfErr result (λ stop. Passes old new (TriesLine (generate g) stop))
    generation_tried tried = put_tried (generate g) (module_files (target g.output g.module_name) m)
        (generated_by (ReadsWhole [] []) g bytes m taken) old new result
        (subst (λ (t : plan.Target). IfErr result (λ stop. Passes old new (EndsWriting (module_files t m) stop))) is tried)

    pub generation_passed : IsNamed t → OnOk result (Passes old new (WritesFiles (module_files t m)))
        → OnOk result (Passes old new (PassesWhole (generate g)))
    generation_passed named wrote = on_ok_weaker result
        (passed_so old new (WritesFiles (module_files (target g.output g.module_name) m)) (PassesWhole (generate g)) (λ events whole.
        record { bytes = bytes; generated = m; taken = taken; named = subst IsNamed is named; files = whole }))
        (subst (λ (t : plan.Target). OnOk result (Passes old new (WritesFiles (module_files t m)))) is wrote)

-- the runtime
module _ {A : Type 0} (old new : List Event) (dir : Name) (files : List (Name × List ℕ)) (same : files ≡ runtime_files dir)
    (result : Result A Stop) where
  pub runtime_tried : IfErr result (λ stop. Passes old new (EndsWriting files stop))
      → IfErr result (λ stop. Passes old new (TriesLine (runtime dir) stop))
  runtime_tried = put_tried (runtime dir) files same old new result

  pub runtime_passed : OnOk result (Passes old new (WritesFiles files)) → OnOk result (Passes old new (PassesWhole (runtime dir)))
  runtime_passed wrote = subst (λ (l : List (Name × List ℕ)). OnOk result (Passes old new (WritesFiles l))) same wrote

-- ---- the work on the line of words

module _ {A : Type 0} (old new : List Event) (words : List Name) (line : Line) (result : Result A Stop)
    (is : line_of words ≡ Some line) where
  pub work_tried : IfErr result (λ stop. Passes old new (TriesLine line stop))
      → IfErr result (λ stop. Passes old new (TriesWork words stop))
  work_tried = IfErr-weaker result _ _
      (λ stop. passed_so old new (TriesLine line stop) (TriesWork words stop) (λ events tried. inr (inr (line, is, tried))))

  pub work_passed : HasPassed line → OnOk result (Passes old new (PassesWhole line)) → OnOk result (Passes old new (PassesWork words))
  work_passed has = on_ok_weaker result (passed_so old new (PassesWhole line) (PassesWork words) (λ events whole. (line, is, has, whole)))
