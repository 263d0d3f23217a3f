use Rattle.body_emitter.proofs.Common.{◌≡◌, drop, name_blocks, made_by}
use Rattle.body_emitter.proofs.emitter.Emitter.name_blocks.Given as goal

abbrev pub invariant-loop-index : goal.invariant-loop-index
invariant-loop-index l = record {
  made : name_blocks (drop l.index-index l.indexes) (made_by l.self) ≡ name_blocks l.indexes (made_by l.initial.self);
  kept : l.self.operands ≡ l.initial.self.operands;
}
