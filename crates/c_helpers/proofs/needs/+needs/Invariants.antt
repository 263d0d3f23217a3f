use Rattle.c_helpers.proofs.Common.{◌+◌, ◌*◌, drop, code_size, kind_size, otherwise_size, code_tree, kind_tree, otherwise_tree}
use Rattle.c_helpers.proofs.CalledHelpers.{EntersCode}
use Rattle.c_helpers.proofs.needs.+needs.Given as goal

abbrev pub decreases-enter_code : goal.decreases-enter_code
decreases-enter_code l = 4 * code_size l.code.now

abbrev pub decreases-enter_else : goal.decreases-enter_else
decreases-enter_else l = 4 * otherwise_size (otherwise_tree l.otherwise.now) + 1

abbrev pub decreases-enter_branches : goal.decreases-enter_branches
decreases-enter_branches l = 4 * (code_size l.code.now + otherwise_size (otherwise_tree l.otherwise.now)) + 2

abbrev pub decreases-enter_inside : goal.decreases-enter_inside
decreases-enter_inside l = 4 * kind_size (kind_tree l.kind.now) + 2

-- what was entered, and what is left
abbrev pub invariant-enter_code-loop-instr : goal.invariant-enter_code-loop-instr
invariant-enter_code-loop-instr l = EntersCode l.marks l.initial.marks (code_tree (drop l.instr-index l.instr-items)) l.code
