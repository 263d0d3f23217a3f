use Rattle.wasm_binary.proofs.Common.{◌+◌, ◌*◌, length, code_at, at}
use Rattle.wasm_binary.proofs.Items.{Ahead}
use Rattle.wasm_binary.proofs.code.+instructions.Given as goal

abbrev pub decreases-opened : goal.decreases-opened
decreases-opened l = 4 * l.room + 3

abbrev pub decreases-instructions : goal.decreases-instructions
decreases-instructions l = 4 * l.room + 1

abbrev pub decreases-next_item : goal.decreases-next_item
decreases-next_item l = 4 * l.room

abbrev pub invariant-instructions-loop-code : goal.invariant-instructions-loop-code
invariant-instructions-loop-code l = Ahead l.room l.may_else l.code (at l.ahead) (code_at l.fn.room l.fn.may_else (at l.fn.rest))

abbrev pub decreases-instructions-loop-code : goal.decreases-instructions-loop-code
decreases-instructions-loop-code l = length l.ahead.left.now
