use Rattle.wasm_spelling.proofs.ByteLists.{slice_bytes}
use Rattle.wasm2c_cli.proofs.accepting.accept_one.Goals as goal

pub returns-clause-bytes : goal.returns-clause-bytes
returns-clause-bytes c = slice_bytes _ c.type_inv.bytes
