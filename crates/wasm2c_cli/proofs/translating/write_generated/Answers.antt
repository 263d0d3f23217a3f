use Rattle.wasm2c_cli.proofs.Common.{seen_generation}
use Rattle.wasm2c_cli.proofs.LineStops.{all_generated, all_kept, all_stopped}
use Rattle.wasm2c_cli.proofs.PassingLines.{generation_passed, generation_tried}
use Rattle.wasm2c_cli.proofs.translating.write_generated.Goals as goal

pub returns-in-Ok-clause-done : goal.returns-in-Ok-clause-done
returns-in-Ok-clause-done g c =
    all_generated _ _ (seen_generation c.args.line) c.args.bytes.now c.in-Ok.module c.write_module-written.result
    (record { file = c.requires.file; are_bytes = c.requires.file.0; accepted = c.in-Ok.ensures.found }) _
    c.in_ok-target.ensures c.write_module-written.ensures.names c.write_module-written.ensures.whole

pub returns-in-Ok-clause-stop : goal.returns-in-Ok-clause-stop
returns-in-Ok-clause-stop g c =
    all_stopped _ _ _ _ _ _ _ (seen_generation c.args.line) c.args.bytes.now c.in-Ok.module c.write_module-written.result
    (record { file = c.requires.file; are_bytes = c.requires.file.0; accepted = c.in-Ok.ensures.found }) _
    c.in_ok-target.ensures c.write_module-written.ensures.stop

pub returns-in-Ok-clause-current : goal.returns-in-Ok-clause-current
returns-in-Ok-clause-current g c = all_kept _ _ _ _ _ _ _ _ c.write_module-written.result c.write_module-written.ensures.stop

pub returns-in-Ok-clause-passed : goal.returns-in-Ok-clause-passed
returns-in-Ok-clause-passed g c =
    generation_passed (seen_generation c.args.line) c.args.bytes.now c.in-Ok.module
    (record { file = c.requires.file; are_bytes = c.requires.file.0; accepted = c.in-Ok.ensures.found }) _ _
    c.write_module-written.result _ c.in_ok-target.ensures c.write_module-written.ensures.names c.write_module-written.ensures.passed

pub returns-in-Ok-clause-tried : goal.returns-in-Ok-clause-tried
returns-in-Ok-clause-tried g c =
    generation_tried (seen_generation c.args.line) c.args.bytes.now c.in-Ok.module
    (record { file = c.requires.file; are_bytes = c.requires.file.0; accepted = c.in-Ok.ensures.found }) _ _
    c.write_module-written.result _ c.in_ok-target.ensures c.write_module-written.ensures.tried
