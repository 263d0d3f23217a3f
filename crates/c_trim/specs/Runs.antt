-- The runs of units in which one is trimmed: the same ones, but for the item of what is undefined in that unit.
use Rattle.std.specs.Prelude.{◌≡◌, ℕ, ◌-◌, ◌==◌, Bool, not, if◌then◌else◌, List, ◌∷◌, ◌++◌, length, filter, take, slice_get, Some}
use Rattle.w2c_base.specs.Run.{Host, Reply}
use Rattle.c_tree.specs.Tree as tree
use Rattle.c_tree.specs.Scope.{Name}
use Rattle.c_tree.specs.FirstBroken.{KeepsRules}
use Rattle.c_meaning.specs.State.{Place, Stop, Trapped, Undefined, Asks, Stuck}
use Rattle.c_meaning.specs.Linking.{Program, SymbolCall, fits, link_refusal}
use Rattle.c_meaning.specs.Run.{CRun, Outcome, Ended, Stopped, OutOfSteps, c_run}
use Rattle.c_trim.specs.Trim.{IsTrimmed, stays}

-- a unit among others, linked with hosts
abbrev pub among : List (List tree.Item) → List tree.Item → List (List tree.Item) → List Host → Program
among before unit after hosts = record { units = before ++ unit ∷ after; hosts = hosts }

abbrev pub AllKeepRules : List (List tree.Item) → Type 0
AllKeepRules units = (u : ℕ) (items : List tree.Item) → slice_get units u ≡ Some items → KeepsRules items

-- ---- places

abbrev pub left_out : (Name → Bool) → List tree.Item → List tree.Item
left_out needed items = filter (λ item. not (stays needed item)) items

-- an item's new number: the old one, less the items before it that are left out
abbrev pub new_number : (Name → Bool) → List tree.Item → ℕ → ℕ
new_number needed unit i = i - length (left_out needed (take i unit))

-- where the unit is the one with number k
abbrev pub new_place : (Name → Bool) → List tree.Item → ℕ → Place → Place
new_place needed unit k at = record {
  unit = at.unit;
  item = if at.unit == k then new_number needed unit at.item else at.item;
  statement = at.statement;
}

abbrev pub new_stop : (Name → Bool) → List tree.Item → ℕ → Stop → Stop
new_stop needed unit k (Trapped kind) = Trapped kind
new_stop needed unit k (Undefined kind at) = Undefined kind (new_place needed unit k at)
new_stop needed unit k Asks = Asks
new_stop needed unit k Stuck = Stuck

abbrev pub new_outcome : (Name → Bool) → List tree.Item → ℕ → Outcome → Outcome
new_outcome needed unit k Ended = Ended
new_outcome needed unit k (Stopped why) = Stopped (new_stop needed unit k why)
new_outcome needed unit k OutOfSteps = OutOfSteps

-- The second run is the first one of the trimmed unit: the objects are the same too, and so are the functions that
-- elements of tables hold.
pub record RunsAlike (needed : Name → Bool) (unit : List tree.Item) (k : ℕ) (run other : CRun) : Type 0 where
  pub phase : other.phase ≡ run.phase
  pub events : other.events ≡ run.events
  pub objects : other.units ≡ run.units
  pub outcome : other.outcome ≡ new_outcome needed unit k run.outcome

-- The second unit, which is the first one trimmed, may stand in its place, wherever that is among units that keep the rules:
-- they link or are refused as before, the same calls fit, and they run alike.
pub record RunsInPlaceOf (unit t : List tree.Item) : Type 0 where
  pub trimmed : IsTrimmed unit t
  pub link : (before after : List (List tree.Item)) (hosts : List Host) → AllKeepRules (before ++ unit ∷ after)
      → link_refusal (among before t after hosts) ≡ link_refusal (among before unit after hosts)
  pub fit : (before after : List (List tree.Item)) (hosts : List Host) → AllKeepRules (before ++ unit ∷ after)
      → (c : SymbolCall) → fits (among before t after hosts) c ≡ fits (among before unit after hosts) c
  pub run : (before after : List (List tree.Item)) (hosts : List Host) → AllKeepRules (before ++ unit ∷ after)
      → (calls : List SymbolCall) (m : ℕ) (replies : List Reply)
      → RunsAlike trimmed.needed unit (length before)
      (c_run (among before unit after hosts) calls m replies) (c_run (among before t after hosts) calls m replies)
