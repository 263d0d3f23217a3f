use Rattle.crun.proofs.Functions.{begins_somewhere, begins_with}
use Rattle.crun.proofs.engine.Engine.first_frame.Goals as goal

pub unreachable-requires : goal.unreachable-requires
unreachable-requires g c =
    begins_somewhere g.H.HostModule c.args.self.now c.args.unit c.args.item c.args.args.now c.requires.ready c.in_ok-held.field-0.items
    c.in_ok-held.ensures c.as_slice.result.now c.as_slice.ensures.value c.in-Ok.frame c.in-Ok.ensures c.requires.begins c.in_default.is

pub returns : goal.returns
returns g c =
    begins_with g.H.HostModule c.args.self.now c.args.unit c.args.item c.args.args.now c.requires.ready c.in_ok-held.field-0.items
    c.in_ok-held.ensures c.as_slice.result.now c.as_slice.ensures.value c.in-Ok.frame c.in-Ok.ensures c.in-Some.top c.in-Some.is
