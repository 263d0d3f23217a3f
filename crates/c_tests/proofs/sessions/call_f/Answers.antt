use Rattle.std.proofs.Common.{map, sym, ap}
use Rattle.c_tree.specs.View.{unit_of}
use Rattle.c_tests.proofs.sessions.call_f.Goals as goal

pub call-requires-clause-fits : goal.call-requires-clause-fits
call-requires-clause-fits c = sym (c.if-not-fits.ensures.meaning _ (ap (λ l. map unit_of l.0) (sym c.linked.ensures)))
