-- Words ask for at most one job, and the files of a job have distinct names.
use Rattle.wasm2c_cli.proofs.Common.{◌≡◌, ℕ, ◌⊎◌, List, [], ◌∷◌, Some, None, Option, MatchOption, sym, refl, ap, ◌∙◌, subst, inl, inr}
use Rattle.wasm2c_cli.proofs.Common.{Contents, Name, Event, NotThere, StopsReading, Unreadable, AreDistinct, file_names, most_module_bytes}
use Rattle.wasm2c_cli.proofs.Common.{Module, Line, generate, line_of, runtime, AreReadOf, AreSourcesBy, IsJob, IsJobBy, IsJobOf, Job}
use Rattle.wasm2c_cli.proofs.Common.{Missing, Refused, TranslatesBy, Usage, Write, Writes, WritesBy, files_of, HasPassed, IsJobOver}
use Rattle.wasm2c_cli.proofs.Common.{ReadsWhole, StopsAfter, Target, inputs_of, most_set_bytes, names_of_targets, targets_of}
use Rattle.wasm2c_cli.proofs.Common.{IsFirstRefused, PassesLimitBy, Reason, AreAccepted}
use Rattle.w2c_gen.proofs.Formed.{one_file}
use Rattle.wasm2c_cli.proofs.ModuleFiles.{one_of_targets}
use Rattle.wasm2c_cli.proofs.OneReading.{contents_end, EndsOnce, reads_end}
use Rattle.wasm2c_cli.proofs.Passed.{passed, distinct_outputs}
use Rattle.wasm2c_cli.proofs.ReasonLaws.{accepted_not_first, one_first_refused, one_limit, limit_not_missing, modules_of, over}

-- Below, reading the files of a line ends in one way: `S` says where it stops, and `R` what it gives.

-- ---- the bytes of the modules

-- a line whose modules' bytes are had reads all its files
stop_not_sources : (line : Line) (S : Name → Unreadable → Type 0) (R : List (List ℕ) → Type 0) → EndsOnce (inputs_of line) S R
    → (file : Name) (why : Unreadable) (sources : List (List ℕ)) → S file why → AreSourcesBy R line sources → ⊥
stop_not_sources (generate g) S R ends file why sources s made = ends.none_stops file why refl s
stop_not_sources (runtime dir) S R ends file why sources s none = ends.none_stops file why refl s
stop_not_sources line S R ends file why sources s read = ends.stops_or_reads file why sources s read

same_sources : (line : Line) (S : Name → Unreadable → Type 0) (R : List (List ℕ) → Type 0) → EndsOnce (inputs_of line) S R
    → (sources others : List (List ℕ)) → HasPassed line → AreSourcesBy R line sources → AreSourcesBy R line others → sources ≡ others
same_sources (generate g) S R ends sources others p r s =
    let made : r.0 ≡ s.0 = one_file g.count r.0 s.0 p.3 r.1 s.1 in
    r.2 ∙ ap (λ (bytes : List ℕ). bytes ∷ []) made ∙ sym s.2
same_sources (runtime dir) S R ends sources others p r s = r ∙ sym s
same_sources line S R ends sources others p r s = ends.same_read sources others r s

-- what is written is what is translated, or the runtime
translated_or_not : {C : Type 0} (line : Line) (R : List (List ℕ) → Type 0) (files : List (Name × List ℕ)) → WritesBy R line files
    → (TranslatesBy R line files → C) → ((dir : Name) → line ≡ runtime dir → C) → C
translated_or_not (runtime dir) R files w by_files by_runtime = by_runtime dir refl
translated_or_not line R files w by_files by_runtime = by_files w

same_files : (line : Line) (S : Name → Unreadable → Type 0) (R : List (List ℕ) → Type 0) → EndsOnce (inputs_of line) S R → HasPassed line
    → (files others : List (Name × List ℕ)) → WritesBy R line files → WritesBy R line others → files ≡ others
same_files (runtime dir) S R ends p files others t u = t ∙ sym u
same_files line S R ends p files others t u =
    let same = same_sources line S R ends t.sources u.sources p t.read u.read in
    let accepted = subst (λ (all : List (List ℕ)). AreAccepted all u.modules) (sym same) u.accepted in
    let modules = modules_of t.sources t.modules u.modules t.accepted accepted in
    t.written ∙ ap (files_of (targets_of line)) modules ∙ sym u.written

module _ (line : Line) (S : Name → Unreadable → Type 0) (R : List (List ℕ) → Type 0) (ends : EndsOnce (inputs_of line) S R)
    (p : HasPassed line) where
  limit_not_sources : (file : Name) (reason : Reason) (sources : List (List ℕ)) → PassesLimitBy (S file) reason
      → AreSourcesBy R line sources → ⊥
  limit_not_sources file reason sources limit read =
      let (why, s, for) = over (S file) reason limit in stop_not_sources line S R ends file why sources s read

  -- ---- what is written

  stop_not_written : (file : Name) (why : Unreadable) (files : List (Name × List ℕ)) → S file why → WritesBy R line files → ⊥
  stop_not_written file why files s w = translated_or_not line R files w (λ t. stop_not_sources line S R ends file why t.sources s t.read)
      (λ dir is. ends.none_stops file why (ap inputs_of is) s)

  -- ---- at most one job

  -- why a line's file is refused, as its job says
  abbrev Refuses : Name → Reason → Type 0
  Refuses file reason = PassesLimitBy (S file) reason
      ⊎ ((sources : List (List ℕ)) × AreSourcesBy R line sources × IsFirstRefused (inputs_of line) sources file reason)

  missing_not_refused : (file other : Name) (reason : Reason) → S file NotThere → Refuses other reason → ⊥
  missing_not_refused file other reason s (inl limit) = limit_not_missing S ends.one_stops other file reason limit s
  missing_not_refused file other reason s (inr (sources, read, first)) = stop_not_sources line S R ends file NotThere sources s read

  not_refused_and_written : (file : Name) (reason : Reason) (files : List (Name × List ℕ)) → Refuses file reason → WritesBy R line files → ⊥
  not_refused_and_written file reason files (inl limit) w =
      let (why, s, for) = over (S file) reason limit in stop_not_written file why files s w
  not_refused_and_written file reason files (inr (sources, read, first)) w = translated_or_not line R files w
      (λ t. accepted_not_first (inputs_of line) t.sources t.modules file reason t.accepted
      (rw (same_sources line S R ends sources t.sources p read t.read) at first))
      (λ dir is. subst (λ (names : List Name). IsFirstRefused names sources file reason) (ap inputs_of is) first)

  same_refusal : (file other : Name) (reason r : Reason) → Refuses file reason → Refuses other r → (file ≡ other) × (reason ≡ r)
  same_refusal file other reason r (inl limit) (inl limit') = one_limit S ends.one_stops file other reason r limit limit'
  same_refusal file other reason r (inl limit) (inr (sources, read, first)) = absurd (limit_not_sources file reason sources limit read)
  same_refusal file other reason r (inr (sources, read, first)) (inl limit) = absurd (limit_not_sources other r sources limit read)
  same_refusal file other reason r (inr (sources, read, first)) (inr (others, read', first')) =
      one_first_refused (inputs_of line) sources file other reason r first
      (rw (same_sources line S R ends sources others p read read') first')

  pub one_line_job : (job other : Job) → IsJobBy S R line job → IsJobBy S R line other → job ≡ other
  one_line_job Usage other j k = absurd j
  one_line_job (Missing file) (Missing other) j k = ap Missing (ends.one_stops file other NotThere NotThere j k).0
  one_line_job (Missing file) (Refused other reason) j k = absurd (missing_not_refused file other reason j k)
  one_line_job (Missing file) (Write files) j k = absurd (stop_not_written file NotThere files j k)
  one_line_job (Refused file reason) (Missing other) j k = absurd (missing_not_refused other file reason k j)
  one_line_job (Refused file reason) (Refused other r) j k =
      let same = same_refusal file other reason r j k in λ i. Refused (same.0 i) (same.1 i)
  one_line_job (Refused file reason) (Write files) j k = absurd (not_refused_and_written file reason files j k)
  one_line_job (Write files) (Missing other) j k = absurd (stop_not_written other NotThere files k j)
  one_line_job (Write files) (Refused other reason) j k = absurd (not_refused_and_written other reason files k j)
  one_line_job (Write files) (Write others) j k = ap Write (same_files line S R ends p files others j k)
  one_line_job _ _ j k = absurd k

pub one_job : (words : List Name) (contents : Contents) (job other : Job) → IsJob words contents job → IsJob words contents other
    → job ≡ other
one_job words contents job other j k = by_line (line_of words) refl j k
  where
    by_line : (line : Option Line) → line_of words ≡ line → MatchOption line (job ≡ Usage) (λ l. IsJobOf l contents job)
        → MatchOption line (other ≡ Usage) (λ l. IsJobOf l contents other) → job ≡ other
    by_line None is p q = p ∙ sym q
    by_line (Some line) is p q = one_line_job line (StopsReading most_module_bytes most_set_bytes contents (inputs_of line))
        (AreReadOf line contents) (contents_end contents (inputs_of line)) (passed words line is) job other p q

-- over what the reads gave
pub one_job_over : (words : List Name) (line : Line) → line_of words ≡ Some line → (given : List Event) (job other : Job)
    → IsJobOver line given job → IsJobOver line given other → job ≡ other
one_job_over words line is given job other j k = one_line_job line (StopsAfter (inputs_of line) given)
    (ReadsWhole (inputs_of line) given) (reads_end given (inputs_of line)) (passed words line is) job other j k

-- ---- the names of the files

pub files_distinct : (targets : List Target) (modules : List Module) → AreDistinct (names_of_targets targets)
    → AreDistinct (file_names (files_of targets modules))
files_distinct [] modules distinct = tt
files_distinct (t ∷ targets) [] distinct = tt
files_distinct (t ∷ targets) (m ∷ modules) distinct = (
  λ one. elim one [ inl same ↦ distinct.0 (inl same) | inr other ↦ distinct.0 (inr (one_of_targets targets modules t.c_file other)) ],
  (λ one. distinct.1.0 (one_of_targets targets modules t.header one), files_distinct targets modules distinct.1.1),
)

distinct_of_line : (line : Line) (contents : Contents) (files : List (Name × List ℕ)) → HasPassed line → Writes line contents files
    → AreDistinct (file_names files)
distinct_of_line (runtime dir) contents files p w = rw w (distinct_outputs (runtime dir) p)
distinct_of_line line contents files p w = rw w.written (files_distinct (targets_of line) w.modules (distinct_outputs line p))

pub distinct_files : (words : List Name) (contents : Contents) (files : List (Name × List ℕ)) → IsJob words contents (Write files)
    → AreDistinct (file_names files)
distinct_files words contents files job = by_line (line_of words) refl job
  where
    by_line : (line : Option Line) → line_of words ≡ line → MatchOption line (Write files ≡ Usage) (λ l. IsJobOf l contents (Write files))
        → AreDistinct (file_names files)
    by_line None is e = absurd cc
    by_line (Some line) is w = distinct_of_line line contents files (passed words line is) w
