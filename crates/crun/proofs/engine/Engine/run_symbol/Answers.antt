use Rattle.crun.proofs.Common.{sym, subst, Call, call_fits, Begins, naming_in, program_in}
use Rattle.crun.proofs.engine.Engine.run_symbol.Goals as goal

pub run_function-requires-clause-begins : goal.run_function-requires-clause-begins
run_function-requires-clause-begins g c =
    subst (λ f. Begins (program_in g.H.HostModule c.args.self.now) (record { phase = Call 0; func = f; args = c.args.args.now }))
    (sym (c.in-Some.ensures.meaning (naming_in c.args.self.now) (program_in g.H.HostModule c.args.self.now) c.args.args.now
    (rw c.deref.ensures c.requires.ready.started.symbols_are)))
    (call_fits (program_in g.H.HostModule c.args.self.now) c.requires.ready.started.program 0
    (record { symbol = c.args.symbol.now; args = c.args.args.now }) c.requires.fits)
