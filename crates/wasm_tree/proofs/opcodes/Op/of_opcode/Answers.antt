use Rattle.wasm_tree.proofs.Common.{arith}
use Rattle.wasm_tree.proofs.AllOps.{found, not_found}
use Rattle.wasm_tree.proofs.opcodes.Op.of_opcode.Goals as goal

pub returns-clause-some : goal.returns-clause-some
returns-clause-some c = found c.args.opcode _ (omega (arith, c.ranges.opcode.fits))

pub returns-clause-none : goal.returns-clause-none
returns-clause-none c = not_found c.args.opcode _
