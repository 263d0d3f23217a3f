-- What a session keeps to, wherever it stands.
use Rattle.crun.proofs.Common.{◌≡◌, ℕ, ◌≤◌, sym, refl, subst, HostModule, IfEnded, IsReady, IsStarted, IfOver, Keeps, phase_of, standing_of}
use Rattle.crun.proofs.Common.{Engine, Outcome, Standing}
use Rattle.crun.specs.declared.outcome.Kept.{Kept}
use Rattle.crun.specs.declared.outcome.Kept.TheVariants as kept
use Rattle.crun.specs.declared.outcome.Outcome.TheVariants as outcome
use Rattle.crun.specs.declared.outcome.Phase.TheVariants as phase
use Rattle.crun.specs.declared.outcome.Standing.TheVariants as standing

-- where a session stands, by what is asked of it
pub not_over : (s : Standing) (P : Kept → Type 0) → ((why : Kept) → s ≡ standing.Over why → ⊥) → IfOver s P
not_over standing.Fresh P never = tt
not_over standing.Ready P never = tt
not_over (standing.Over why) P never = absurd (never why refl)

pub is_fresh : (s : Standing) → phase_of s ≡ phase.Fresh → s ≡ standing.Fresh
is_fresh standing.Fresh is = refl
is_fresh _ is = absurd cc

module _ {H : Type 0} (m : HostModule H) (e : Engine H) (steps inits : ℕ) (started : IsStarted m e) (fewer : e.left ≤ steps) where
  -- behind want of memory
  pub keeps_over : (why : Kept) → Keeps m e steps inits (standing.Over why)
  keeps_over why = record { started = started; fewer = fewer; ready = tt; fresh = λ is. absurd cc }

  -- behind an outcome
  pub keeps_behind : (o : Outcome) (now : Standing) → now ≡ standing_of o → IfEnded o (IsReady m e) → Keeps m e steps inits now
  keeps_behind o now is ready = subst (Keeps m e steps inits) (sym is) (go o ready)
    where
      go : (o : Outcome) → IfEnded o (IsReady m e) → Keeps m e steps inits (standing_of o)
      go (outcome.Ended value) ready = record { started = started; fewer = fewer; ready = ready; fresh = λ is. absurd cc }
      go (outcome.Trapped kind) ready = keeps_over (kept.Trapped kind)
      go (outcome.Undefined u) ready = keeps_over (kept.Undefined u)
      go outcome.OutOfSteps ready = keeps_over kept.OutOfSteps

-- an outcome behind which the session is ready is an end
pub ready_ended : (o : Outcome) (P : Type 0) → standing_of o ≡ standing.Ready → IfEnded o P → P
ready_ended (outcome.Ended value) P is h = h
ready_ended (outcome.Trapped kind) P is h = absurd cc
ready_ended _ P is h = absurd cc
