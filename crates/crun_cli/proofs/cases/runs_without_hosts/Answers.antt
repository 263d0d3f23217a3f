use Rattle.crun_cli.proofs.Common.{◌≡◌, ℕ, false, List, [], ◌∷◌, Some, None, Option, refl, ap, subst, arith, I32, extended, call_with}
use Rattle.crun_cli.proofs.Common.{division, lines_of, Answered, hosts_of, HostModule, Asked, run_with, HasRun, HasStatus}
use Rattle.std.specs.Fmt.{digits}
use Rattle.std.proofs.lemmas.Option.{none-some}
use Rattle.crun_cli.proofs.cases.runs_without_hosts.Goals as goal

abbrev byte_count : Option (List ℕ) → ℕ
byte_count None = 0
byte_count (Some []) = 0
byte_count (Some (b ∷ bytes)) = 1

module _ {H : Type 0} (m : HostModule H) where
  -- nobody is asked
  no_asks : (asks : List Asked) (after : List H) → Answered m [] asks after → asks ≡ []
  no_asks [] after answered = refl
  no_asks (a ∷ asks) after (middle, answers, rest) = absurd (none-some answers.old answers.old_is)

  other_status : (new : Option (List ℕ))
      → HasRun m [] (division ∷ []) (call_with (I32 7) (I32 2) ∷ []) 2 false (Some []) new 1 → ⊥
  other_status new r =
      let e : 1 ≡ 0 = subst
      (λ (asks : List Asked). HasStatus (run_with m [] (division ∷ []) (call_with (I32 7) (I32 2) ∷ []) 2 asks).outcome 1)
      (no_asks r.asks r.after r.answered) r.has_status in
      absurd (omega (arith, e))

  other_line : (status : ℕ)
      → HasRun m [] (division ∷ []) (call_with (I32 7) (I32 2) ∷ []) 2 false (Some []) (Some []) status → ⊥
  unfolding digits
  other_line status r =
      let lines = subst
      (λ (asks : List Asked). ◌≡◌ {A = Option (List ℕ)} (Some [])
      (extended (Some []) (lines_of (hosts_of m []) false (run_with m [] (division ∷ []) (call_with (I32 7) (I32 2) ∷ []) 2 asks))))
      (no_asks r.asks r.after r.answered) r.lines in
      let e : 0 ≡ 1 = ap byte_count lines in
      absurd (omega (arith, e))

pub returns-clause-quotient : goal.returns-clause-quotient
unfolding digits
returns-clause-quotient g c = record { asks = []; after = []; answered = refl; told = refl; has_status = refl; lines = refl }

pub returns-clause-division_by_0 : goal.returns-clause-division_by_0
unfolding digits
returns-clause-division_by_0 g c = record { asks = []; after = []; answered = refl; told = refl; has_status = refl; lines = refl }

pub returns-clause-few_statements : goal.returns-clause-few_statements
unfolding digits
returns-clause-few_statements g c = record { asks = []; after = []; answered = refl; told = refl; has_status = refl; lines = refl }

pub returns-clause-trap : goal.returns-clause-trap
unfolding digits
returns-clause-trap g c = record { asks = []; after = []; answered = refl; told = refl; has_status = refl; lines = refl }

pub returns-clause-other_status : goal.returns-clause-other_status
returns-clause-other_status g c run = other_status g.H.HostModule _ run

pub returns-clause-other_line : goal.returns-clause-other_line
returns-clause-other_line g c run = other_line g.H.HostModule _ run
