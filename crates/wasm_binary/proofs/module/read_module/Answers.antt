use Rattle.wasm_spelling.proofs.ByteLists.{slice_bytes}
use Rattle.wasm_binary.proofs.Result.{is_found, formed_of, is_only, is_first, is_first_only}
use Rattle.wasm_binary.proofs.module.read_module.Goals as goal

pub returns-clause-found : goal.returns-clause-found
returns-clause-found c = is_found c.args.bytes.now c.read_file.result c.requires c.read_file.ensures

pub returns-clause-only : goal.returns-clause-only
returns-clause-only c = is_only c.args.bytes.now c.read_file.result c.read_file.ensures

pub returns-clause-first : goal.returns-clause-first
returns-clause-first c = is_first c.args.bytes.now c.read_file.result c.read_file.ensures

pub returns-clause-first_only : goal.returns-clause-first_only
returns-clause-first_only c = is_first_only c.args.bytes.now c.read_file.result c.read_file.ensures

pub returns-clause-formed : goal.returns-clause-formed
returns-clause-formed c = formed_of c.args.bytes.now c.read_file.result (slice_bytes c.args.bytes.now c.type_inv.bytes)
    (is_found c.args.bytes.now c.read_file.result c.requires c.read_file.ensures)
