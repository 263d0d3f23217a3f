use Rattle.wasm2c_cli.proofs.HonestTop.{came, honest_answered, honest_done, honest_untouched}
use Rattle.wasm2c_cli.proofs.HonestUnits.{honest_linked, honest_units}
use Rattle.wasm2c_cli.proofs.law.honest_files.Goals as goal

pub returns : goal.returns
returns c = record {
  answered = λ words status said said' faults faults' m new call.
      honest_answered words status _ m new call status (came words status _ m new call);
  untouched = λ words status said said' faults faults' m new. honest_untouched words status _ m new;
  done = λ words said said' faults faults' m new. honest_done words _ m new;
  refused = λ words said said' faults faults' m new call. (came words 1 _ m new call).1;
  units = honest_units;
  linked = honest_linked;
  missing = λ words said said' faults faults' m new call. (came words 3 _ m new call).1;
  write_fault = λ words said said' faults faults' m new. came words 4 _ m new;
  stands = λ words said said' faults faults' m new. came words 5 _ m new;
}
