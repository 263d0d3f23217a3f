use Rattle.c_body.proofs.Common.{◌≡◌, ◌+◌, ◌*◌, drop, code_size, kind_size, otherwise_size, code_tree, kind_tree, otherwise_tree}
use Rattle.c_body.proofs.Common.{setting_of, ran, made_by, CodeIsReady, Keeps}
use Rattle.c_body.proofs.around.Around.+emit.Given as goal

abbrev pub decreases-code : goal.decreases-code
decreases-code l = 8 * code_size l.code.now

abbrev pub decreases-block : goal.decreases-block
decreases-block l = 8 * code_size l.code.now + 1

abbrev pub decreases-looped : goal.decreases-looped
decreases-looped l = 8 * code_size l.code.now + 1

abbrev pub decreases-branches : goal.decreases-branches
decreases-branches l = 8 * (code_size l.code.now + otherwise_size (otherwise_tree l.otherwise.now)) + 1

abbrev pub decreases-instr : goal.decreases-instr
decreases-instr l = 8 * kind_size (kind_tree l.kind.now) + 2

-- what is made, and then what the rest makes, is the whole
abbrev pub invariant-code-loop-instr : goal.invariant-code-loop-instr
invariant-code-loop-instr l = record {
  ready : CodeIsReady (setting_of l.self).context l.emitter (code_tree (drop l.instr-index l.instr-items));
  made : ran (setting_of l.self) (made_by l.emitter) (code_tree (drop l.instr-index l.instr-items))
      ≡ ran (setting_of l.self) (made_by l.initial.emitter) l.fn.code;
  kept : Keeps l.initial.emitter.operands l.emitter.operands;
}
