use Rattle.body_emitter.proofs.Common.{◌≡◌, ◌+◌, drop, moved_cases, made_by}
use Rattle.body_emitter.proofs.emitter.Emitter.move_cases.Given as goal

abbrev pub invariant-loop-index : goal.invariant-loop-index
invariant-loop-index l = record {
  place : l.at ≡ l.index-index + l.own;
  made : moved_cases l.at (drop l.index-index l.indexes) (made_by l.self) ≡ moved_cases l.own l.indexes (made_by l.initial.self);
  kept : l.self.operands ≡ l.initial.self.operands;
}
