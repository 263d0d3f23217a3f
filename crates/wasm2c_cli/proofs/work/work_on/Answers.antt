use Rattle.wasm2c_cli.proofs.Common.{ap, rules, set, translate, seen_line, seen_set, seen_translation}
use Rattle.wasm2c_cli.proofs.LineStops.{files_stopped}
use Rattle.wasm2c_cli.proofs.PassingLines.{files_tried}
use Rattle.wasm2c_cli.proofs.work.work_on.Goals as goal

pub returns-in_ok-target-in-Translate-clause-stop : goal.returns-in_ok-target-in-Translate-clause-stop
returns-in_ok-target-in-Translate-clause-stop g c = rw (ap seen_line c.in-Translate.is)
    (files_stopped _ _ _ _ _ _ _ (translate (seen_translation c.in-Translate.one)) c.translate.result tt (search rules))

pub returns-in_ok-targets-in-Set-clause-stop : goal.returns-in_ok-targets-in-Set-clause-stop
returns-in_ok-targets-in-Set-clause-stop g c = rw (ap seen_line c.in-Set.is)
    (files_stopped _ _ _ _ _ _ _ (set (seen_set c.in-Set.set)) c.translate-in-Set.result tt (search rules))

pub returns-in_ok-target-in-Translate-clause-tried : goal.returns-in_ok-target-in-Translate-clause-tried
returns-in_ok-target-in-Translate-clause-tried g c = rw (ap seen_line c.in-Translate.is)
    (files_tried _ _ c.translate.result (translate (seen_translation c.in-Translate.one)) tt (search rules))

pub returns-in_ok-targets-in-Set-clause-tried : goal.returns-in_ok-targets-in-Set-clause-tried
returns-in_ok-targets-in-Set-clause-tried g c =
    rw (ap seen_line c.in-Set.is) (files_tried _ _ c.translate-in-Set.result (set (seen_set c.in-Set.set)) tt (search rules))
