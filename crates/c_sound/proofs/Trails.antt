-- What is given back, and the begin of a function of a unit, leave the trail as it is.
use Rattle.c_sound.proofs.Common.{◌≡◌, ℕ, List, Option, refl, Trail, Definition, CValue, Frame, Machine}
use Rattle.c_meaning.specs.Step as step
use Rattle.c_meaning.proofs.StepsKeep as kept
pub use Rattle.c_meaning.proofs.StepsKeep.{there_or_not}

-- The step leaves the trail as it is.
abbrev pub StepKeeps : Machine → step.Step → Type 0
StepKeeps m o = (kept.machine_of o).trail ≡ m.trail

pub give_keeps : (m : Machine) (value : Option CValue) (below : List Frame) → StepKeeps m (step.give m value below)
give_keeps m value below = kept.give_keeps (kept.trail_kept (λ (t : Trail). t ≡ m.trail)) m value below refl

pub begin_keeps : (d : Option Definition) (u : ℕ) (m : Machine) (args : List CValue) (below : List Frame)
    → StepKeeps m (step.begin d u m args below)
begin_keeps d u m args below = kept.begin_keeps (λ now. now.trail ≡ m.trail) d u m args below refl
