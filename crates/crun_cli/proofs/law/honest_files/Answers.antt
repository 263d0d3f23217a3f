use Rattle.crun_cli.proofs.Common.{refl}
use Rattle.crun_cli.proofs.HonestFiles.{honest_answered, honest_decided, honest_finished, honest_kept, honest_missing, honest_part}
use Rattle.crun_cli.proofs.HonestFiles.{honest_refused, honest_replayed, honest_untouched, honest_write_fault}
use Rattle.crun_cli.proofs.law.honest_files.Goals as goal

pub returns : goal.returns
returns g c = record {
  answered = λ hosts words m old new status said said' faults faults' call. honest_answered call;
  refused_always = λ hosts words m old new status said said' faults faults' call. honest_decided call;
  replayed = λ hosts words m old new status said said' faults faults' call. honest_replayed call;
  kept = λ hosts words m old new status said said' faults faults' call. honest_kept call;
  untouched = λ hosts words m old new status said said' faults faults' call. honest_untouched call;
  finished = λ hosts words m old new status said said' faults faults' call. honest_finished call;
  refused = λ hosts words m old new status said said' faults faults' call. honest_refused call;
  missing = λ hosts words m old new said said' faults faults' call. honest_missing call refl;
  write_fault = λ hosts words m old new said said' faults faults' call. honest_write_fault call refl;
  part = λ hosts words m old new said said' faults faults' call. honest_part call refl;
}
