-- No statement ends a listed call: what it tells are asks. So the values of the calls that ended stay
-- while a function runs.
use Rattle.c_meaning.proofs.Common.{◌≡◌, List, [], ◌∷◌, Option, refl, ◌∙◌, append-nil, values_behind, Ask, Asked, Reply, asked, values_in}
use Rattle.c_meaning.proofs.Common.{Program, with_trail, CValue, Frame, FuncAddress, Machine, State}
use Rattle.c_meaning.specs.Step as step
use Rattle.c_meaning.proofs.StepsKeep.{KeptByObjects, KeptByAsks, StepHas, trail_kept, call_keeps, steps_keep}
pub use Rattle.c_meaning.proofs.StepsKeep.{machine_of}

-- the same calls ended
abbrev pub Same : Machine → Machine → Type 0
Same m after = values_in after.trail.events ≡ values_in m.trail.events

values_kept : (m : Machine) → KeptByObjects (Same m)
values_kept m = trail_kept (λ t. values_in t.events ≡ values_in m.trail.events)

-- an ask is none of them
pub asked_same : (m : Machine) (a : Ask) (reply : Option Reply) (replies : List Reply)
    → Same m (with_trail m (asked m.trail.events a reply replies))
asked_same m a reply replies = values_behind m.trail.events (Asked a reply ∷ []) ∙ append-nil (values_in m.trail.events)

asks_kept : (p : Program) (m : Machine) → KeptByAsks p (Same m)
asks_kept p m now a reply replies is has = asked_same now a reply replies ∙ has

pub call_same : (p : Program) (f : FuncAddress) (m : Machine) (args : List CValue) (below : List Frame)
    → StepHas (Same m) (step.call p f m args below)
call_same p f m args below = call_keeps p (values_kept m) (asks_kept p m) f m args below refl

-- one statement
pub step_same : (p : Program) (s : State) → Same s.machine (machine_of (step.c_step p s))
step_same p s = steps_keep p (values_kept s.machine) (asks_kept p s.machine) s refl
