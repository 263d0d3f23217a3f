-- What the end of the work says of the status, and of what stands.
use Rattle.wasm2c_cli.proofs.Common.{◌≡◌, ℕ, ◌⊎◌, List, [], ◌∷◌, ◌++◌, length, Some, None, string_bytes, Option, sym, refl, ap, ◌∙◌, subst}
use Rattle.wasm2c_cli.proofs.Common.{inl, inr, arith, length-map, same_Some, AllByRecursion, Faulted, Rose, Contents, HasFile, Name, Told}
use Rattle.wasm2c_cli.proofs.Common.{Says, SaysPart, Tells, all_stand, stand_whole, AreDistinct, HasText, StandsAt, file_names, written}
use Rattle.wasm2c_cli.proofs.Common.{AreBytes, Module, File, IsTranslatedFile, TranslationTheorem, IsModuleOf, header_text_of, text_of}
use Rattle.wasm2c_cli.proofs.Common.{Generation, Line, generate, line_of, runtime, set, translate, AreReadOf, AreSourcesBy, IsJob, IsJobOf}
use Rattle.wasm2c_cli.proofs.Common.{Job, Missing, Refused, TranslatesBy, Usage, Write, files_of, IsLine, line_for, memory_line, read_line}
use Rattle.wasm2c_cli.proofs.Common.{refused_line, status_of, summary_line, write_line, AreTaken, FinishesLine, FinishesWork, HasName}
use Rattle.wasm2c_cli.proofs.Common.{HasPassed, IsNamed, IsTakenFile, IsTranslated, SumsUp, SumsUpPart, Target, inputs_of, names_of_targets}
use Rattle.wasm2c_cli.proofs.Common.{target_in, targets_of, runtime_files, Done, Generates, IsInput, IsOutput, KeepsCurrent, StandsOfJob}
use Rattle.wasm2c_cli.proofs.Common.{StopsLine, StopsWork, Answers, NamesModules, DoTheSameWithOthers, HoldAll, HoldsText, HoldsUnit, Stand}
use Rattle.wasm2c_cli.proofs.Common.{StandAll, WritesLinkedUnits, WritesUnits, texts_made, Reason, Stop, Finished, get_or, IsUnitOf}
use Rattle.w2c_files.proofs.Honest.{as_many}
use Rattle.w2c_gen.specs.GeneratedFile.{IsGeneratedFile}
use Rattle.w2c_sim.proofs.Accepting.{module_of}
use Rattle.program_words.proofs.Written.{none_written}
use Rattle.wasm2c_cli.specs.declared.stop.Stop.TheVariants as stops
use Rattle.wasm2c_cli.specs.declared.work.Finished.TheVariants as finished
use Rattle.wasm2c_cli.proofs.JobLaws.{files_distinct}
use Rattle.wasm2c_cli.proofs.LineStops.{IsOfFiles}
use Rattle.wasm2c_cli.proofs.Passed.{distinct_outputs}
use Rattle.wasm2c_cli.proofs.Taken.{length-taken, taken_accepted}
use Rattle.w2c_sim.specs.Translation.{SpellsUnit}

-- ---- work that was finished

-- these are the modules of a line, made of the bytes of which Reads is so
pub record Made (Reads : List (List ℕ) → Type 0) (line : Line) (modules : List Module) : Type 0 where
  pub sources : List (List ℕ)
  pub read : AreSourcesBy Reads line sources
  pub taken : AreTaken sources modules
  pub many : length modules ≡ length (targets_of line)
  pub named : AllByRecursion IsNamed (targets_of line)

many_targets : (line : Line) → IsOfFiles line → length (inputs_of line) ≡ length (targets_of line)
many_targets (translate t) of = refl
many_targets (set s) of = sym (length-map s.inputs (target_in s.dir))
many_targets _ of = absurd of

pub files_made : (Reads : List (List ℕ) → Type 0) (line : Line) (sources : List (List ℕ)) (modules : List Module) → IsOfFiles line
    → Reads sources → length sources ≡ length (inputs_of line) → AreTaken sources modules → AllByRecursion IsNamed (targets_of line)
    → Made Reads line modules
files_made Reads (generate g) sources modules of read many taken named = absurd of
files_made Reads (runtime dir) sources modules of read many taken named = absurd of
files_made Reads line sources modules of read many taken named =
    let as_targets = length-taken sources modules taken ∙ many ∙ many_targets line of in
    record { sources = sources; read = read; taken = taken; many = as_targets; named = named }

pub generated_made : (Reads : List (List ℕ) → Type 0) (g : Generation) (bytes : List ℕ) (m : Module) → IsTakenFile g bytes m
    → AreBytes g.module_name → Made Reads (generate g) (m ∷ [])
generated_made Reads g bytes m taken named = record {
  sources = bytes ∷ [];
  read = (bytes, taken.file, refl);
  taken = ((taken.are_bytes, taken.accepted), tt);
  many = refl;
  named = (named, tt);
}

pub translated_by : (Reads : List (List ℕ) → Type 0) (line : Line) (modules : List Module) (m : Made Reads line modules)
    → TranslatesBy Reads line (files_of (targets_of line) modules)
translated_by Reads line modules m =
    record { sources = m.sources; modules = modules; read = m.read; accepted = taken_accepted m.sources modules m.taken; written = refl }

-- the modules of a line are translated, and their files stand
abbrev IsMade : Line → Contents → Told → Told → Type 0
IsMade line contents old new =
    (modules : List Module) × Made (AreReadOf line contents) line modules × (new ≡ written old (files_of (targets_of line) modules))

is_made : (line : Line) (contents : Contents) (old new : Told) (f : Finished) → ((dir : Name) → line ≡ runtime dir → ⊥)
    → FinishesLine line old new f → old ≡ Some contents → IsMade line contents old new
is_made (generate g) contents old new f names (count, summed, m) told =
    (m.generated ∷ [], generated_made (AreReadOf (generate g) contents) g m.bytes m.generated m.taken m.named, m.stand)
is_made (runtime dir) contents old new f names fin told = absurd (names dir refl)
is_made line contents old new f names fin told =
    let m : IsTranslated (inputs_of line) (targets_of line) contents old new = fin.1 contents told in
    let many = as_many contents (inputs_of line) m.sources m.read.held in
    (m.modules, files_made (AreReadOf line contents) line m.sources m.modules tt m.read many m.taken m.named, m.stand)

-- the files are the job's, and stand
job_of_line : (line : Line) (contents : Contents) (old new : Told) (f : Finished) → FinishesLine line old new f → old ≡ Some contents
    → (files : List (Name × List ℕ)) × IsJobOf line contents (Write files) × (new ≡ written old files)
job_of_line (runtime dir) contents old new f (written_so, whole) told = (runtime_files dir, refl, whole)
job_of_line line contents old new f fin told =
    let (modules, made, stand) = is_made line contents old new f (λ dir e. cc) fin told in
    (files_of (targets_of line) modules, translated_by (AreReadOf line contents) line modules made, stand)

module _ (words : List Name) (old new : Told) (f : Finished) (fin : FinishesWork words old new f) where
  pub finish_done : Done words old new
  finish_done = λ contents told.
      let (line, is, passed, ends) = fin in
      let (made, of_line, whole) = job_of_line line contents old new f ends told in (made, rw is of_line, whole)

  pub finish_complete : {P Q : Type 0} (status : ℕ) → (status ≡ 0) ⊎ (status ≡ 5) → (contents : Contents) → old ≡ Some contents → P → Q
      → (status ≡ 5) ⊎ ((job : Job) × IsJob words contents job × Answers job status)
  finish_complete status (inr five) contents told no_reads no_writes = inl five
  finish_complete status (inl ok) contents told no_reads no_writes =
      let (made, job, whole) = finish_done contents told in inr (Write made, job, ok)

  pub finish_stands : (contents : Contents) → old ≡ Some contents → StandsOfJob words contents old new
  finish_stands contents told = let (made, job, whole) = finish_done contents told in inr (made, job, all_stand old new made whole)

  -- ---- the summary

  module _ (said said' : Option (List ℕ)) (faults faults' : ℕ) (sums : SumsUp said said' faults faults' f) where
    -- what was generated is summed up
    pub finish_summary : (g : Generation) → Generates words g → (bytes : List ℕ) × IsGeneratedFile g.count bytes
        × Says said said' faults faults' (summary_line g.count (length bytes))
    finish_summary g asked =
        let (line, is, passed, ends) = fin in
        let same = same_Some line (generate g) (sym is ∙ asked) in
        let (count, written_so, m) = subst (λ (l : Line). FinishesLine l old new f) same ends in
        (m.bytes, m.taken.file, subst (λ (n : ℕ). Says said said' faults faults' (summary_line g.count n)) m.many (rw written_so at sums))

    -- where nothing was generated, nothing is said
    pub finish_silent : ((g : Generation) → Generates words g → ⊥) → said' ≡ said
    finish_silent none = by f fin sums
      where
        generates : (count length : ℕ) (line : Line) → line_of words ≡ Some line
            → FinishesLine line old new (finished.Generated count length) → ⊥
        generates count length (generate g) is ends = none g is
        generates count length _ is ends = let other = ends.0 in cc

        by : (f : Finished) → FinishesWork words old new f → SumsUp said said' faults faults' f → said' ≡ said
        by finished.Written fin same = same
        by (finished.Generated count length) (line, is, passed, ends) sums = absurd (generates count length line is ends)

-- where memory was wanting for the summary
pub finish_part : (f : Finished) (said said' : Option (List ℕ)) → SumsUpPart said said' f
    → (line : List ℕ) × IsLine line × SaysPart said said' line
finish_part finished.Written said said' same = (memory_line, inl (stops.Memory, refl), ([], (memory_line, refl), same ∙ none_written said))
finish_part (finished.Generated count bytes) said said' part = (summary_line count bytes, inr (count, bytes, refl), part)

-- work that was finished has no status of a stop
pub finish_no_stop : {C : Type 0} (status : ℕ) → (status ≡ 0) ⊎ (status ≡ 5) → (status ≡ 1) ⊎ (status ≡ 2) ⊎ (status ≡ 3) → C
finish_no_stop status ends is = absurd (omega (arith, ends, is))

-- ---- the units of the modules

-- files of distinct names that are written stand
pub all_there : (old : Contents) (new : Told) (files : List (Name × List ℕ)) → AreDistinct (file_names files)
    → new ≡ written (Some old) files → (name : Name) (text : List ℕ) → HasText name text files → HasFile new name text
all_there old None files distinct whole name text has = tt
all_there old (Some after) files distinct whole name text has = stand_whole files old after distinct (sym whole) name text has

-- what w2c_sim says of texts: that of a file's module spells its unit
abbrev pub TextsSpellUnits : Type 0
TextsSpellUnits = (bytes name : List ℕ) (tree : Module) → IsModuleOf bytes name tree
    → SpellsUnit (record { name = name; tree = tree }) (text_of tree name)

-- the units of modules that are accepted
pub hold_units : TextsSpellUnits → (targets : List Target) (sources : List (List ℕ)) (modules : List Module)
    → AllByRecursion HasName targets → AllByRecursion IsNamed targets → AreTaken sources modules → length modules ≡ length targets
    → HoldAll IsUnitOf targets sources modules
hold_units spell [] [] [] has named taken many = tt
hold_units spell [] (bytes ∷ sources) (m ∷ modules) has named taken many = absurd (omega (arith, many))
hold_units spell (t ∷ targets) [] [] has named taken many = absurd (omega (arith, many))
hold_units spell (t ∷ targets) (bytes ∷ sources) (m ∷ modules) ((some, short), has) (is_name, named) ((are, ok), taken) many =
    let is_module : IsModuleOf bytes t.module_name m = module_of bytes t.module_name m ok are some short is_name in
    let here : IsUnitOf t bytes m = record { is_module = is_module; unit = spell bytes t.module_name m is_module } in
    (here, hold_units spell targets sources modules has named taken (omega (arith, many)))
hold_units spell _ _ _ has named taken many = absurd taken

-- they stand where their files do
units_hold : (new : Told) (targets : List Target) (sources : List (List ℕ)) (modules : List Module)
    → HoldAll IsUnitOf targets sources modules
    → ((name : Name) (text : List ℕ) → HasText name text (files_of targets modules) → HasFile new name text)
    → HoldAll (HoldsUnit new) targets sources modules
units_hold new [] [] [] held there = tt
units_hold new (t ∷ targets) (bytes ∷ sources) (m ∷ modules) (unit, held) there = (
  record {
    text = record { is_module = unit.is_module; stands = there t.c_file (text_of m t.module_name) (inl (refl, refl)) };
    header_stands = there t.header (header_text_of m t.module_name) (inr (inl (refl, refl)));
    unit = unit.unit;
  },
  units_hold new targets sources modules held (λ name text one. there name text (inr (inr one))),
)
units_hold new _ _ _ held there = absurd held

-- what a line has passed, of its modules
pub targets_have : (line : Line) → HasPassed line → AllByRecursion HasName (targets_of line)
targets_have (translate t) (c_file, has) = (has, tt)
targets_have (set s) (has, apart) = has
targets_have (generate g) (c_file, has, some, few) = (has, tt)
targets_have (runtime dir) passed = tt

distinct_targets : (line : Line) → HasPassed line → AreDistinct (names_of_targets (targets_of line))
distinct_targets (runtime dir) passed = tt
distinct_targets line passed = distinct_outputs line passed

-- the files of a line's modules are written
pub units_stand : (old : Contents) (new : Told) (line : Line) (sources : List (List ℕ)) (modules : List Module) → HasPassed line
    → HoldAll IsUnitOf (targets_of line) sources modules → new ≡ written (Some old) (files_of (targets_of line) modules)
    → HoldAll (HoldsUnit new) (targets_of line) sources modules
units_stand old new line sources modules passed held whole =
    let files = files_of (targets_of line) modules in
    units_hold new (targets_of line) sources modules held
    (all_there old new files (files_distinct (targets_of line) modules (distinct_targets line passed)) whole)

pub finish_units : TextsSpellUnits → (words : List Name) (old new : Told) (f : Finished) → FinishesWork words old new f
    → NamesModules words → WritesUnits words old new
finish_units spell words old new f (line, is, passed, fin) names = λ contents told.
    let (modules, m, stand) = is_made line contents old new f (λ dir e. names dir (is ∙ ap (λ (l : Line). Some l) e)) fin told in
    let units = hold_units spell (targets_of line) m.sources modules (targets_have line passed) m.named m.taken m.many in
    let whole = stand ∙ ap (λ (t : Told). written t (files_of (targets_of line) modules)) told in
    let all = units_stand contents new line m.sources modules passed units whole in
    (line, is, record { sources = m.sources; modules = modules; read = m.read; all = all })

-- ---- what is linked of the units

-- what holds of each, where it follows of one
pub hold_weaker : (P Q : Stand) → ((t : Target) (bytes : List ℕ) (m : Module) → P t bytes m → Q t bytes m)
    → (targets : List Target) (sources : List (List ℕ)) (modules : List Module) → HoldAll P targets sources modules
    → HoldAll Q targets sources modules
hold_weaker P Q weaker [] [] [] held = tt
hold_weaker P Q weaker (t ∷ targets) (bytes ∷ sources) (m ∷ modules) (here, held) =
    (weaker t bytes m here, hold_weaker P Q weaker targets sources modules held)
hold_weaker P Q weaker _ _ _ held = absurd held

module _ (theorem : TranslationTheorem) (P : Stand)
    (is_module : (t : Target) (bytes : List ℕ) (m : Module) → P t bytes m → IsModuleOf bytes t.module_name m) where
  -- files that are translated, and others
  all_translated : (others : List File) → AllByRecursion IsTranslatedFile others
      → (targets : List Target) (sources : List (List ℕ)) (modules : List Module) → HoldAll P targets sources modules
      → AllByRecursion IsTranslatedFile (texts_made targets sources modules ++ others)
  all_translated others translated [] [] [] held = translated
  all_translated others translated (t ∷ targets) (bytes ∷ sources) (m ∷ modules) (here, held) =
      ((m, is_module t bytes m here, refl), all_translated others translated targets sources modules held)
  all_translated others translated _ _ _ held = absurd held

  pub linked_units : (targets : List Target) (sources : List (List ℕ)) (modules : List Module) → HoldAll P targets sources modules
      → DoTheSameWithOthers (texts_made targets sources modules)
  linked_units targets sources modules held = λ others translated.
      theorem (texts_made targets sources modules ++ others) (all_translated others translated targets sources modules held)

-- the texts of units that stand
abbrev pub texts_stand : (new : Told) (line : Line) (contents : Contents) → StandAll (HoldsUnit new) line contents
    → StandAll (HoldsText new) line contents
texts_stand new line contents stand =
    let weaker = hold_weaker (HoldsUnit new) (HoldsText new) (λ t bytes m held. held.text) (targets_of line) stand.sources stand.modules in
    record { sources = stand.sources; modules = stand.modules; read = stand.read; all = weaker stand.all }

pub are_linked : TranslationTheorem → (words : List Name) (old new : Told) → WritesUnits words old new → WritesLinkedUnits words old new
are_linked theorem words old new writes = λ contents told.
    let (line, is, stand) = writes contents told in
    let texts = texts_stand new line contents stand in
    let same = linked_units theorem (HoldsText new) (λ t bytes m held. held.is_module) (targets_of line) stand.sources stand.modules in
    (line, is, texts, same texts.all)

-- ---- work that stopped

-- no stop has status 0
pub stop_not : {C : Type 0} (status : ℕ) (stop : Stop) → (status ≡ status_of stop) ⊎ (status ≡ 5) → status ≡ 0 → C
stop_not status stops.Usage ends zero = absurd (omega (arith, ends, zero))
stop_not status _ ends zero = absurd (omega (arith, ends, zero))

-- statuses 1 to 3: nothing was written
pub stop_current : (current current' : Option Name) (status : ℕ) (stop : Stop) → KeepsCurrent current current' stop
    → (status ≡ status_of stop) ⊎ (status ≡ 5) → (status ≡ 1) ⊎ (status ≡ 2) ⊎ (status ≡ 3) → current' ≡ current
stop_current current current' status (stops.Unwritten file) keeps ends is = absurd (omega (arith, ends, is))
stop_current current current' status stops.Memory keeps ends is = absurd (omega (arith, ends, is))
stop_current current current' status _ keeps ends is = keeps

module _ (words : List Name) (old new : Told) (r r' w w' : ℕ) (named : Option Name) (status : ℕ) where
  abbrev OnLine : Line → Stop → Type 0
  OnLine line stop = StopsLine line old new r r' w w' named stop

  abbrev pub Stopped : Stop → Type 0
  Stopped stop = StopsWork words old new r r' w w' named stop

  -- the status that is reported: that of the stop, or want of memory
  abbrev pub Ends : Stop → Type 0
  Ends stop = (status ≡ status_of stop) ⊎ (status ≡ 5)

  -- where no count rose, the stop's status is the job's answer, or want of memory
  line_answers : (line : Line) (stop : Stop) → line_of words ≡ Some line → OnLine line stop → status ≡ status_of stop
      → (contents : Contents) → old ≡ Some contents → (Rose r r' → ⊥) → (Rose w w' → ⊥)
      → (status ≡ 5) ⊎ ((job : Job) × IsJob words contents job × Answers job status)
  line_answers line stops.Usage found why is contents told no_reads no_writes = absurd why
  line_answers line (stops.Refused file reason) found (one, job, same) is contents told no_reads no_writes =
      inr (Refused (string_bytes file) reason, rw found (job contents told), is)
  line_answers line (stops.Unread file) found (one, inl faulted, same) is contents told no_reads no_writes = absurd (no_reads faulted.rose)
  line_answers line (stops.Unread file) found (one, inr (m, tells, job), same) is contents told no_reads no_writes =
      let missing = Missing (string_bytes file) in
      inr (missing, rw found (subst (λ (c : Contents). IsJobOf line c missing) (same_Some m contents (sym tells ∙ told)) job), is)
  line_answers line (stops.Unwritten file) found (one, faulted, stands) is contents told no_reads no_writes =
      absurd (no_writes faulted.rose)
  line_answers line stops.Memory found why is contents told no_reads no_writes = inl is

  pub stop_complete : (stop : Stop) → Stopped stop → Ends stop → (contents : Contents) → old ≡ Some contents
      → (Rose r r' → ⊥) → (Rose w w' → ⊥) → (status ≡ 5) ⊎ ((job : Job) × IsJob words contents job × Answers job status)
  stop_complete stop why (inr five) contents told no_reads no_writes = inl five
  stop_complete stop (inl (usage, none, same)) (inl is) contents told no_reads no_writes =
      inr (Usage, rw none refl, is ∙ ap status_of usage)
  stop_complete stop (inr (inl (memory, same))) (inl is) contents told no_reads no_writes = inl (is ∙ ap status_of memory)
  stop_complete stop (inr (inr (line, found, why))) (inl is) contents told no_reads no_writes =
      line_answers line stop found why is contents told no_reads no_writes

  -- nothing has changed, or some of the job's files stand
  line_stands : (line : Line) (stop : Stop) → line_of words ≡ Some line → OnLine line stop → (contents : Contents)
      → old ≡ Some contents → StandsOfJob words contents old new
  line_stands line stops.Usage found why contents told = absurd why
  line_stands line (stops.Unwritten file) found (one, faulted, stands) contents told =
      let (made, job, at) = stands contents told in inr (made, rw found job, inr (string_bytes file, at))
  line_stands line stops.Memory found why contents told =
      elim (why contents told) [ inl same ↦ inl same | inr (made, job, stands) ↦ inr (made, rw found job, stands) ]
  line_stands line _ found why contents told = inl why.2

  pub stop_stands : (stop : Stop) → Stopped stop → (contents : Contents) → old ≡ Some contents → StandsOfJob words contents old new
  stop_stands stop (inl (usage, none, same)) contents told = inl same
  stop_stands stop (inr (inl (memory, same))) contents told = inl same
  stop_stands stop (inr (inr (line, found, why))) contents told = line_stands line stop found why contents told

  module _ (says : List ℕ → Type 0) where
    -- the job is a refusal
    abbrev IsRefusedHere : Type 0
    IsRefusedHere = (file : Name) × (reason : Reason) × IsInput file (line_of words)
        × Tells old (λ contents. IsJob words contents (Refused file reason)) × says (refused_line file reason)

    -- the file was asked for and a read of it failed, or it is told not to be there
    abbrev IsUnreadHere : Type 0
    IsUnreadHere = (file : Name) × IsInput file (line_of words) × (Faulted file r r' named
        ⊎ ((contents : Contents) × (old ≡ Some contents) × IsJob words contents (Missing file))) × says (read_line file)

    -- a write of the file failed, and the files in front of it stand
    abbrev IsUnwrittenHere : Type 0
    IsUnwrittenHere = (file : Name) × IsOutput file (line_of words) × Faulted file w w' named
        × Tells old (λ contents. (made : List (Name × List ℕ)) × IsJob words contents (Write made) × StandsAt old new made file)
        × says (write_line file)

    -- what a stop comes to, for each status from 0 on; with statuses 1 to 3 nothing has changed
    abbrev Came : ℕ → Type 0
    Came n = get_or (⊥ ∷ ((new ≡ old) × IsRefusedHere) ∷ (new ≡ old) ∷ ((new ≡ old) × IsUnreadHere) ∷ IsUnwrittenHere ∷ Unit {0} ∷ []) n ⊥

    line_came : (line : Line) (stop : Stop) → line_of words ≡ Some line → OnLine line stop → says (line_for stop) → Came (status_of stop)
    line_came line stops.Usage found why said = absurd why
    line_came line (stops.Refused file reason) found (input, job, same) said =
        (same, (string_bytes file, reason, rw found input, λ contents told. rw found (job contents told), said))
    line_came line (stops.Unread file) found (input, inl faulted, same) said =
        (same, (string_bytes file, rw found input, inl faulted, said))
    line_came line (stops.Unread file) found (input, inr (contents, told, job), same) said =
        (same, (string_bytes file, rw found input, inr (contents, told, rw found job), said))
    line_came line (stops.Unwritten file) found (output, faulted, stands) said = (
      string_bytes file,
      rw found output,
      faulted,
      λ contents told. let (made, job, at) = stands contents told in (made, rw found job, at),
      said,
    )
    line_came line stops.Memory found why said = tt

    module _ (stop : Stop) (why : Stopped stop) (ends : Ends stop)
        (said : status ≡ status_of stop → says (line_for stop) ⊎ (status ≡ 5)) where
      came : Came status
      came = by why ends
        where
          by : Stopped stop → Ends stop → Came status
          by why (inr five) = subst Came (sym five) tt
          by (inl (usage, none, same)) (inl is) = subst Came (sym (is ∙ ap status_of usage)) same
          by (inr (inl (memory, same))) (inl is) = subst Came (sym (is ∙ ap status_of memory)) tt
          by (inr (inr (line, found, why))) (inl is) = elim (said is) [
            | inl told ↦ subst Came (sym is) (line_came line stop found why told)
            | inr five ↦ subst Came (sym five) tt
          ]

      pub stop_refused : status ≡ 1 → IsRefusedHere
      stop_refused one = (subst Came one came).1

      pub stop_unread : status ≡ 3 → IsUnreadHere
      stop_unread three = (subst Came three came).1

      pub stop_unwritten : status ≡ 4 → IsUnwrittenHere
      stop_unwritten four = subst Came four came

      pub stop_untouched : (status ≡ 1) ⊎ (status ≡ 2) ⊎ (status ≡ 3) → new ≡ old
      stop_untouched (inl one) = (subst Came one came).0
      stop_untouched (inr (inl two)) = subst Came two came
      stop_untouched (inr (inr three)) = (subst Came three came).0
