-- What the stop of each form says of its line's job.
use Rattle.wasm2c_cli.proofs.Common.{◌≡◌, ℕ, List, [], ◌∷◌, length, IfOk, IfErr, OnOk, Some, Ok, Err, string_bytes, Option, Result, refl}
use Rattle.wasm2c_cli.proofs.Common.{ap, ◌∙◌, subst, inl, inr, IfErr-weaker, IfOk-weaker, Name, Told, is_one, written, Module, Generation}
use Rattle.wasm2c_cli.proofs.Common.{Line, generate, line_of, runtime, AreReadOf, TranslatesBy, files_of, module_files, FinishesLine}
use Rattle.wasm2c_cli.proofs.Common.{FinishesWork, HasPassed, IsGenerated, IsNamed, IsTakenFile, StopsTranslating, StopsWriting, inputs_of}
use Rattle.wasm2c_cli.proofs.Common.{target, targets_of, runtime_files, KeepsCurrent, StopsLine, StopsWork, Stop, Finished, AreAccepted}
use Rattle.wasm2c_cli.proofs.Common.{WritesBy}
use Rattle.wasm2c_cli.specs.declared.stop.Stop.TheVariants as stops
use Rattle.wasm2c_cli.specs.declared.work.Finished.TheVariants as finished
use Rattle.wasm2c_cli.specs.Plan as plan
use Rattle.wasm2c_cli.proofs.ModuleFiles.{one_of_targets}

-- ---- a generated module, whose files have the names of its target

pub generated_by : (Reads : List (List ℕ) → Type 0) (g : Generation) (bytes : List ℕ) (m : Module) → IsTakenFile g bytes m
    → TranslatesBy Reads (generate g) (module_files (target g.output g.module_name) m)
generated_by Reads g bytes m taken =
    record { sources = bytes ∷ []; modules = m ∷ []; read = (bytes, taken.file, refl); accepted = (taken.accepted, tt); written = refl }

pub all_generated : (old new : Told) (g : Generation) (bytes : List ℕ) (m : Module) (r : Result Unit Stop) → IsTakenFile g bytes m
    → (t : plan.Target) → t ≡ target g.output g.module_name → IsNamed t → OnOk r (new ≡ written old (module_files t m))
    → OnOk r (IsGenerated g (length bytes) old new)
all_generated old new g bytes m (Ok done) taken t is named stand =
    let whole = stand ∙ ap (λ (t : plan.Target). written old (module_files t m)) is in
    record { bytes = bytes; generated = m; taken = taken; many = refl; named = subst IsNamed is named; stand = whole }
all_generated old new g bytes m (Err stop) taken t is named stand = stand

-- a line of files that are read: of one file, and of a set
abbrev pub IsOfFiles : Line → Type 0
IsOfFiles (generate g) = ⊥
IsOfFiles (runtime dir) = ⊥
IsOfFiles _ = Unit {0}

-- the files of modules that are accepted are those that such a line asks for
pub files_by : (Reads : List (List ℕ) → Type 0) (line : Line) (sources : List (List ℕ)) (modules : List Module) → IsOfFiles line
    → Reads sources → AreAccepted sources modules → WritesBy Reads line (files_of (targets_of line) modules)
files_by Reads (generate g) sources modules of read accepted = absurd of
files_by Reads (runtime dir) sources modules of read accepted = absurd of
files_by Reads line sources modules of read accepted =
    record { sources = sources; modules = modules; read = read; accepted = accepted; written = refl }

module _ (old new : Told) (r r' w w' : ℕ) (named : Option Name) where
  -- ---- files of a line, and of a set

  files_stop : (line : Line) (stop : Stop) → IsOfFiles line
      → StopsTranslating (inputs_of line) (targets_of line) old new r r' w w' named stop → StopsLine line old new r r' w w' named stop
  files_stop (generate g) stop of why = absurd of
  files_stop (runtime dir) stop of why = absurd of
  files_stop line (stops.Unwritten name) of (one, faulted, stands) = (
    one,
    faulted,
    λ contents tells.
        let (modules, all, at) = stands contents tells in
        (_, files_by (AreReadOf line contents) line all.sources modules of all.read all.accepted, at),
  )
  files_stop line stops.Memory of why = λ contents tells. elim (why contents tells) [
    | inl same ↦ inl same
    | inr (modules, all, part) ↦ inr (_, files_by (AreReadOf line contents) line all.sources modules of all.read all.accepted, part)
  ]
  files_stop line _ of why = why

  pub files_stopped : {A : Type 0} (line : Line) (result : Result A Stop) → IsOfFiles line
      → IfErr result (StopsTranslating (inputs_of line) (targets_of line) old new r r' w w' named)
      → IfErr result (StopsLine line old new r r' w w' named)
  files_stopped line result of = IfErr-weaker result _ _ (λ stop. files_stop line stop of)

  -- ---- a generated module

  generating_stops : (g : Generation) (bytes : List ℕ) (m : Module) → IsTakenFile g bytes m → (stop : Stop)
      → StopsWriting old new (module_files (target g.output g.module_name) m) w w' named stop
      → StopsLine (generate g) old new r r' w w' named stop
  generating_stops g bytes m taken (stops.Unwritten name) (faulted, stands) = (
    one_of_targets (target g.output g.module_name ∷ []) (m ∷ []) (string_bytes name)
        (is_one old new (module_files (target g.output g.module_name) m) (string_bytes name) stands),
    faulted,
    λ contents tells. (_, generated_by (AreReadOf (generate g) contents) g bytes m taken, stands),
  )
  generating_stops g bytes m taken stops.Memory stands =
      λ contents tells. inr (_, generated_by (AreReadOf (generate g) contents) g bytes m taken, stands)
  generating_stops g bytes m taken _ why = absurd why

  pub all_stopped : {A : Type 0} (g : Generation) (bytes : List ℕ) (m : Module) (result : Result A Stop) → IsTakenFile g bytes m
      → (t : plan.Target) → t ≡ target g.output g.module_name → IfErr result (StopsWriting old new (module_files t m) w w' named)
      → IfErr result (StopsLine (generate g) old new r r' w w' named)
  all_stopped g bytes m result taken t is why = IfErr-weaker result _ _ (generating_stops g bytes m taken)
      (subst (λ (t : plan.Target). IfErr result (StopsWriting old new (module_files t m) w w' named)) is why)

  -- ---- the runtime

  runtime_stops : (dir : Name) (stop : Stop) → StopsWriting old new (runtime_files dir) w w' named stop
      → StopsLine (runtime dir) old new r r' w w' named stop
  runtime_stops dir (stops.Unwritten name) (faulted, stands) =
      (is_one old new (runtime_files dir) (string_bytes name) stands, faulted, λ contents tells. (runtime_files dir, refl, stands))
  runtime_stops dir stops.Memory stands = λ contents tells. inr (runtime_files dir, refl, stands)
  runtime_stops dir _ why = absurd why

  pub runtime_stopped : {A : Type 0} (dir : Name) (files : List (Name × List ℕ)) (result : Result A Stop) → files ≡ runtime_files dir
      → IfErr result (StopsWriting old new files w w' named) → IfErr result (StopsLine (runtime dir) old new r r' w w' named)
  runtime_stopped dir files result same why = IfErr-weaker result _ _ (runtime_stops dir) (rw same at why)

-- the files of the runtime under their names
pub runtime_finished : (old new : Told) (dir : Name) (files : List (Name × List ℕ)) (result : Result Finished Stop)
    → files ≡ runtime_files dir → IfOk result (λ f. f ≡ finished.Written) → IfOk result (λ _. new ≡ written old files)
    → IfOk result (FinishesLine (runtime dir) old new)
runtime_finished old new dir files (Ok f) same is whole = (is, whole ∙ ap (written old) same)
runtime_finished old new dir files (Err stop) same is whole = tt

-- the work on the line of words
pub work_finished : (old new : Told) (words : List Name) (line : Line) (result : Result Finished Stop) → line_of words ≡ Some line
    → HasPassed line → IfOk result (FinishesLine line old new) → IfOk result (FinishesWork words old new)
work_finished old new words line result is passed = IfOk-weaker result _ _ (λ f done. (line, is, passed, done))

pub work_stopped : {A : Type 0} (old new : Told) (r r' w w' : ℕ) (named : Option Name) (words : List Name) (line : Line)
    (result : Result A Stop) → line_of words ≡ Some line → IfErr result (StopsLine line old new r r' w w' named)
    → IfErr result (StopsWork words old new r r' w w' named)
work_stopped old new r r' w w' named words line result is = IfErr-weaker result _ _ (λ stop why. inr (inr (line, is, why)))

-- where writing stops, no clause is on the current file
keeps : (current current' : Option Name) (old new : Told) (files : List (Name × List ℕ)) (w w' : ℕ) (named : Option Name) (stop : Stop)
    → StopsWriting old new files w w' named stop → KeepsCurrent current current' stop
keeps current current' old new files w w' named (stops.Unwritten name) why = tt
keeps current current' old new files w w' named stops.Memory why = tt
keeps current current' old new files w w' named _ why = absurd why

pub all_kept : {A : Type 0} (current current' : Option Name) (old new : Told) (files : List (Name × List ℕ)) (w w' : ℕ)
    (named : Option Name) (result : Result A Stop) → IfErr result (StopsWriting old new files w w' named)
    → IfErr result (KeepsCurrent current current')
all_kept current current' old new files w w' named result = IfErr-weaker result _ _ (keeps current current' old new files w w' named)
