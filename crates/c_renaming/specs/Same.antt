-- When machines, states, steps and runs of two programs are the same under a renaming.
use Rattle.std.specs.Prelude.{◌≡◌, [], map, option_map}
use Rattle.c_meaning.specs.State.{ObjectAddress, Machine, State}
use Rattle.c_meaning.specs.Machine.{var_in, memory_in, table_in}
use Rattle.c_meaning.specs.Step.{Step, Next, Back, Stops}
use Rattle.c_meaning.specs.Run.{CRun}
use Rattle.c_renaming.specs.Renaming.{Renaming}
use Rattle.c_renaming.specs.Renamed as renamed
use Rattle.c_renaming.specs.Kept.{Holds, KeptValue, KeptTable, KeptRunning, KeptFrames}

-- each object of the first stands, renamed, in the second
pub record SameObjects (ρ : Renaming) (m n : Machine) : Type 0 where
  pub vars : (a : ObjectAddress) → var_in n (ρ.object a) ≡ option_map (renamed.value ρ) (var_in m a)
  pub memories : (a : ObjectAddress) → memory_in n (ρ.object a) ≡ memory_in m a
  pub tables : (a : ObjectAddress) → table_in n (ρ.object a) ≡ option_map (renamed.table ρ) (table_in m a)

pub record SameMachine (ρ : Renaming) (m n : Machine) : Type 0 where
  pub depth : n.depth ≡ m.depth
  pub trail : n.trail ≡ m.trail
  pub objects : SameObjects ρ m n
  pub vars_kept : (a : ObjectAddress) → Holds (KeptValue ρ) (var_in m a)
  pub tables_kept : (a : ObjectAddress) → Holds (KeptTable ρ) (table_in m a)

pub record SameState (ρ : Renaming) (s t : State) : Type 0 where
  pub machine : SameMachine ρ s.machine t.machine
  pub running : t.running ≡ renamed.running ρ s.running
  pub below : t.below ≡ map (renamed.frame ρ) s.below
  pub running_kept : KeptRunning ρ s.running
  pub below_kept : KeptFrames ρ s.below

abbrev pub SameStep : Renaming → Step → Step → Type 0
SameStep ρ (Next s) (Next t) = SameState ρ s t
SameStep ρ (Back m v) (Back n w) = SameMachine ρ m n × (w ≡ option_map (renamed.value ρ) v) × Holds (KeptValue ρ) v
SameStep ρ (Stops m why) (Stops n other) = SameMachine ρ m n × (other ≡ renamed.stop ρ why)
SameStep ρ _ _ = ⊥

-- the objects that a run ends with, as those of a machine
abbrev pub left_by : CRun → Machine
left_by run = record { depth = 0; units = run.units; trail = record { replies = []; events = [] } }

pub record SameRun (ρ : Renaming) (run other : CRun) : Type 0 where
  pub phase : other.phase ≡ run.phase
  pub events : other.events ≡ run.events
  pub outcome : other.outcome ≡ renamed.outcome ρ run.outcome
  pub objects : SameObjects ρ (left_by run) (left_by other)
