use Rattle.host_replay.specs.Recording.{recorded}
use Rattle.host_replay.proofs.Known.{at_some}
use Rattle.host_replay.proofs.Steps.{refused_text}
use Rattle.host_replay.proofs.reading.Reading.step.Goals as goal

pub returns-clause-no : goal.returns-clause-no
returns-clause-no c =
    refused_text c.args.text.now c.in-Some.line (recorded c.args.self.now.file) c.add.result
    (at_some _ _ c.in-Some.line c.in-Some.is c.in_ok-line.ensures.some) c.add.ensures.no
