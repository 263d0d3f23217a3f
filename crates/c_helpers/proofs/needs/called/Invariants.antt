use Rattle.std.proofs.Common.{drop}
use Rattle.c_helpers.proofs.CalledHelpers.{EntersBodies}
use Rattle.c_helpers.proofs.needs.called.Given as goal

abbrev pub invariant-loop-body : goal.invariant-loop-body
invariant-loop-body l = EntersBodies l.marks (drop l.body-index l.m.bodies) l.m.bodies
