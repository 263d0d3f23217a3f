use Rattle.wasm_writing.proofs.Common.{false, provided}
use Rattle.wasm_writing.proofs.Pieces.{puts_nothing, puts_none, does_not_hold}
use Rattle.wasm_writing.proofs.draft.Draft.check.Goals as goal

pub returns-then-not-holds : goal.returns-then-not-holds
returns-then-not-holds c = rw c.if-not-holds.true (puts_none (provided false) _ _ does_not_hold c.refuse.ensures)

pub returns-else-not-holds : goal.returns-else-not-holds
returns-else-not-holds c = rw c.if-not-holds.false (puts_nothing c.args.self.now)
