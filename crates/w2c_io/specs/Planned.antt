-- Which calls of one kind are planned to fail.
use Rattle.std.specs.Prelude.{◌≡◌, ◌+◌, ◌-◌, ◌^◌, ◌==◌, Bool, min}
use Rattle.std.specs.List.{list_any}
use Rattle.w2c_io.specs.declared.plan.FaultPlan.{FaultPlan}

-- the next call is one of them, counted from 1
abbrev pub is_planned : FaultPlan → Bool
is_planned plan = list_any (λ nth. nth == min (plan.calls + 1) (2 ^ 64 - 1)) plan.planned.items

-- one call more was made; a count stands still at the last value of a u64
pub record CountsOne (old new : FaultPlan) : Type 0 where
  pub calls : new.calls ≡ min (old.calls + 1) (2 ^ 64 - 1)
  pub planned : new.planned.items ≡ old.planned.items
