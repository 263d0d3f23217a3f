use Rattle.wasm2c_cli.proofs.Common.{◌≡◌, length, ap, subst, arith, names_of, StopsAccepting}
use Rattle.wasm2c_cli.proofs.LineStops.{all_kept}
use Rattle.wasm2c_cli.proofs.Taken.{length-taken}
use Rattle.wasm2c_cli.proofs.Translated.{accepting_stops, reading_stopped, translation_finished, writing_stopped}
use Rattle.wasm2c_cli.proofs.PassingLines.{accepting_passed, all_passed, reading_passed, writing_passed}
use Rattle.wasm2c_cli.proofs.translating.translate.Goals as goal

pub returns-in-Err-clause-stop : goal.returns-in-Err-clause-stop
returns-in-Err-clause-stop g c = reading_stopped _ _ _ _ _ _ _ _ _ c.in-Err.stop c.in-Err.ensures.stop c.in-Err.ensures.told

pub returns-in-Err-accept_modules-clause-stop : goal.returns-in-Err-accept_modules-clause-stop
returns-in-Err-accept_modules-clause-stop g c =
    accepting_stops _ _ _ _ c.in-Ok.sources.items c.in-Ok.ensures.told c.in-Ok.ensures.read _ _ _ _ _ c.in-Err-accept_modules.stop
    (rw c.as_slice.ensures.value at c.in-Err-accept_modules.ensures.stop)

pub write_modules-requires-clause-many : goal.write_modules-requires-clause-many
write_modules-requires-clause-many g c =
    let one = length-taken c.as_slice.result.now c.in-Ok-accept_modules.modules.items c.in-Ok-accept_modules.ensures.taken in
    let two : length c.as_slice.result.now ≡ length c.in-Ok.sources.items = ap length c.as_slice.ensures.value in
    let three : length c.as_slice-2.result.now ≡ length c.in-Ok-accept_modules.modules.items = ap length c.as_slice-2.ensures.value in
    omega (arith, one, two, three, c.in-Ok.ensures.many, c.requires.many)

pub returns-clause-done : goal.returns-clause-done
returns-clause-done g c =
    translation_finished _ _ _ _ _ c.in-Ok.ensures.told c.in-Ok.ensures.read _
    (rw c.as_slice.ensures.value at c.in-Ok-accept_modules.ensures.taken) _ c.write_modules.result c.write_modules.ensures.done
    c.write_modules.ensures.names (rw c.as_slice-2.ensures.value at c.write_modules.ensures.whole)

pub returns-clause-current : goal.returns-clause-current
returns-clause-current g c = all_kept _ _ _ _ _ _ _ _ c.write_modules.result c.write_modules.ensures.stop

pub returns-clause-stop : goal.returns-clause-stop
returns-clause-stop g c =
    writing_stopped _ _ _ _ _ c.in-Ok.ensures.told c.in-Ok.ensures.read _
    (rw c.as_slice.ensures.value at c.in-Ok-accept_modules.ensures.taken) _ _ _ _ _ _ _ c.write_modules.result c.in-Ok.ensures.writes
    (rw c.as_slice-2.ensures.value at c.write_modules.ensures.stop)

pub returns-in-Err-clause-tried : goal.returns-in-Err-clause-tried
returns-in-Err-clause-tried g c = reading_passed _ _ _ _ c.in-Err.stop c.in-Err.ensures.tried

pub returns-in-Err-accept_modules-clause-tried : goal.returns-in-Err-accept_modules-clause-tried
returns-in-Err-accept_modules-clause-tried g c =
    accepting_passed _ _ _ _ c.in-Ok.sources.items c.in-Ok.ensures.fit c.in-Ok.ensures.together c.in-Err-accept_modules.stop
    (subst (λ l. StopsAccepting (names_of c.args.inputs.now) l c.in-Err-accept_modules.stop) c.as_slice.ensures.value
    c.in-Err-accept_modules.ensures.stop) c.in-Ok.ensures.passed

pub returns-clause-passed : goal.returns-clause-passed
returns-clause-passed g c =
    all_passed _ _ _ _ _ c.in-Ok.ensures.fit c.in-Ok.ensures.together _
    (rw c.as_slice.ensures.value at c.in-Ok-accept_modules.ensures.taken) _ c.in-Ok.ensures.passed c.write_modules.result
    c.write_modules.ensures.names (rw c.as_slice-2.ensures.value at c.write_modules.ensures.passed)

pub returns-clause-tried : goal.returns-clause-tried
returns-clause-tried g c =
    writing_passed _ _ _ _ _ c.in-Ok.ensures.fit c.in-Ok.ensures.together _
    (rw c.as_slice.ensures.value at c.in-Ok-accept_modules.ensures.taken) _ c.in-Ok.ensures.passed c.write_modules.result
    (rw c.as_slice-2.ensures.value at c.write_modules.ensures.tried)
