use Rattle.body_check.proofs.Common.{◌≡◌, ℕ, ◌+◌, ◌*◌, drop, code_size, kind_size, otherwise_size, code_tree, kind_tree, otherwise_tree}
use Rattle.body_check.proofs.Common.{later, run, Stays, labels_of, seen, shown}
use Rattle.body_check.proofs.body.OpenBlocks.+check.Given as goal

abbrev pub decreases-code : goal.decreases-code
decreases-code l = 8 * code_size l.code.now

abbrev pub decreases-block : goal.decreases-block
decreases-block l = 8 * code_size l.code.now + 1

abbrev pub decreases-nested : goal.decreases-nested
decreases-nested l = 8 * code_size l.code.now + 2

abbrev pub decreases-branches : goal.decreases-branches
decreases-branches l = 8 * (code_size l.code.now + otherwise_size (otherwise_tree l.otherwise.now)) + 3

abbrev pub decreases-instr : goal.decreases-instr
decreases-instr l = 8 * kind_size (kind_tree l.instr.now.kind) + 3

-- what was run, and then the rest, is the whole
abbrev pub invariant-code-loop-instr : goal.invariant-code-loop-instr
invariant-code-loop-instr l = record {
  ran : (before : ℕ) × (
      run (seen l.fn.around) (labels_of l.initial.self) (code_tree l.instr-items) (shown l.initial.self.operands)
      ≡ later before (run (seen l.fn.around) (labels_of l.initial.self) (code_tree (drop l.instr-index l.instr-items))
      (shown l.self.operands)));
  stays : Stays l.initial.self l.self;
}
