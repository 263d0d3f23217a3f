use Rattle.w2c_base.proofs.Utf8.{tested, failed}
use Rattle.wasm_writing.proofs.vectors.is_utf8.Goals as goal

pub returns-in-Ok : goal.returns-in-Ok
returns-in-Ok c = tested c.args.bytes.now c.in-Ok.ensures.cases.1

pub returns-in-Err : goal.returns-in-Err
returns-in-Err c = failed c.args.bytes.now c.in-Err.ensures.cases.0
