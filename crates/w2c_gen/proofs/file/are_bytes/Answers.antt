use Rattle.wasm_spelling.proofs.ByteLists.{slice_bytes}
use Rattle.w2c_gen.proofs.file.are_bytes.Goals as goal

pub returns : goal.returns
returns c = slice_bytes c.args.bytes.now c.type_inv.bytes
