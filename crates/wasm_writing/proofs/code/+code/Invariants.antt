use Rattle.wasm_writing.proofs.Common.{◌+◌, ◌*◌, take, code_tree, code_fields, Puts}
use Rattle.wasm_writing.proofs.code.+code.Given as goal

abbrev pub decreases-instructions : goal.decreases-instructions
decreases-instructions l = 4 * l.room + 3

abbrev pub decreases-instruction : goal.decreases-instruction
decreases-instruction l = 4 * l.room + 2

abbrev pub decreases-other : goal.decreases-other
decreases-other l = 4 * l.room + 1

abbrev pub decreases-block : goal.decreases-block
decreases-block l = 4 * l.room

abbrev pub decreases-branches : goal.decreases-branches
decreases-branches l = 4 * l.room

abbrev pub invariant-instructions-loop-instr : goal.invariant-instructions-loop-instr
invariant-instructions-loop-instr l = Puts (code_fields l.fn.room (code_tree (take l.instr-index l.instr-items))) l.initial.draft l.draft
