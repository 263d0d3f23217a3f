use Rattle.c_body.specs.Around.{setting_of}
use Rattle.c_body.proofs.Readiness.{body_ready}
use Rattle.c_body.proofs.around.Around.body.Goals as goal

pub code-requires : goal.code-requires
code-requires c =
    let around = c.args.self.now in
    body_ready (setting_of around).context c.begin.new.self around.result c.args.code.now c.in_ok-begin.ensures c.requires.ready
