use Rattle.body_emitter.proofs.Common.{◌≡◌, ◌++◌, drop, slots_from}
use Rattle.body_emitter.proofs.slot_variables.put_slots.Given as goal

abbrev pub invariant-loop-mark : goal.invariant-loop-mark
invariant-loop-mark l = record {
  place : l.height ≡ l.mark-index;
  so_far : l.locals ++ slots_from l.ty l.height (drop l.mark-index l.marks) ≡ l.initial.locals ++ slots_from l.ty 0 l.marks;
}
