use Rattle.c_thread.proofs.Common.{◌-◌, ◌≤◌, Trail, Program, Reaches, Going, Pending, AreStored, Naming, AreFuncTypes, IsLinked, state_in}
use Rattle.c_thread.proofs.linked.LinkedThread.run.Given as goal

abbrev pub invariant-loop-steps : goal.invariant-loop-steps
invariant-loop-steps l = record {
  fewer : l.steps ≤ l.initial.steps;
  stored : (names : Naming) → AreStored names l.initial.self.store.units.items → AreStored names l.self.store.units.items;
  reaches : (names : Naming) (p : Program) (trail : Trail) (pending : Pending) → IsLinked names p l.units
      → AreFuncTypes names p l.types → AreStored names l.initial.self.store.units.items
      → Reaches p (l.initial.steps - l.steps) (Going pending (state_in names p trail l.initial.self))
      (Going pending (state_in names p trail l.self));
}

abbrev pub decreases-loop-steps : goal.decreases-loop-steps
decreases-loop-steps l = l.steps
