use Rattle.wasm2c_cli.proofs.Common.{◌∙◌, part_written, put_part, put_whole, whole_begun}
use Rattle.wasm2c_cli.proofs.ModuleFiles.{in_err, in_ok}
use Rattle.wasm_spelling.proofs.ByteLists.{slice_bytes}
use Rattle.wasm2c_cli.proofs.Passing.{finished, not_finished}
use Rattle.wasm2c_cli.proofs.writing.unit_to_file.Goals as goal

pub returns-in-Err-clause-begun : goal.returns-in-Err-clause-begun
returns-in-Err-clause-begun g c =
    put_part _ _ _ _ _ _ _ c.in_ok-begin.ensures.begun c.in_ok-begin.ensures.current c.in-Err.ensures.part c.give_up.ensures.told

pub returns-clause-begun : goal.returns-clause-begun
returns-clause-begun g c =
    in_err c.finish.result (whole_begun _ _ _ _ (c.finish.ensures.told
    ∙ put_whole _ _ _ _ _ _ c.in_ok-begin.ensures.begun c.in_ok-begin.ensures.current c.in_default.ensures.written))

pub returns-clause-whole : goal.returns-clause-whole
returns-clause-whole g c =
    in_ok c.finish.result (c.finish.ensures.told
    ∙ put_whole _ _ _ _ _ _ c.in_ok-begin.ensures.begun c.in_ok-begin.ensures.current c.in_default.ensures.written)

pub returns-in_err-begin-clause-bytes : goal.returns-in_err-begin-clause-bytes
returns-in_err-begin-clause-bytes g c = slice_bytes _ c.type_inv.module_name

pub returns-in-Err-clause-bytes : goal.returns-in-Err-clause-bytes
returns-in-Err-clause-bytes g c = slice_bytes _ c.type_inv.module_name

pub returns-clause-bytes : goal.returns-clause-bytes
returns-clause-bytes g c = slice_bytes _ c.type_inv.module_name

pub returns-in-Err-clause-tried : goal.returns-in-Err-clause-tried
returns-in-Err-clause-tried g c =
    part_written _ _ _ _ _ _ c.in-Err.answer c.in_ok-begin.ensures.traced c.in-Err.ensures.tried c.give_up.ensures.passed

pub returns-clause-passed : goal.returns-clause-passed
returns-clause-passed g c =
    finished _ _ _ _ _ _ c.finish.result c.in_ok-begin.ensures.traced c.in_default.ensures.passed c.finish.ensures.traced

pub returns-clause-tried : goal.returns-clause-tried
returns-clause-tried g c =
    not_finished _ _ _ _ _ _ c.finish.result c.in_ok-begin.ensures.traced c.in_default.ensures.passed c.finish.ensures.traced
