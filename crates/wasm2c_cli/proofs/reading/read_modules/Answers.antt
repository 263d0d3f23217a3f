use Rattle.wasm2c_cli.proofs.FileStops.{at_file, reading_stops}
use Rattle.wasm2c_cli.proofs.Passing.{reading_tried}
use Rattle.wasm2c_cli.proofs.reading.read_modules.Goals as goal

pub stop_for-requires : goal.stop_for-requires
stop_for-requires g c = at_file _ _ _ _ _ c.in-Err.why c.in-Err.ensures.stop

pub returns-in-Err-clause-stop : goal.returns-in-Err-clause-stop
returns-in-Err-clause-stop g c = reading_stops _ _ _ _ _ c.in-Err.why c.stop_for.result c.in-Err.ensures.stop c.stop_for.ensures

pub returns-in-Err-clause-tried : goal.returns-in-Err-clause-tried
returns-in-Err-clause-tried g c = reading_tried _ _ _ c.in-Err.why c.stop_for.result c.in-Err.ensures.tried c.stop_for.ensures
