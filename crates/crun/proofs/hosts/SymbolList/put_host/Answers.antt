use Rattle.crun.proofs.Common.{◌++◌, sym, ap, ◌∙◌, append-nil, take_all, function_of, host_of, symbol_in, symbols_of_host}
use Rattle.crun.proofs.HostSymbols.{more_taken, past_all, symbol_there, twice_found}
use Rattle.crun.proofs.hosts.SymbolList.put_host.Goals as goal

pub loop-i-init : goal.loop-i-init
loop-i-init g c = (c.requires, sym (append-nil c.args.self.now.symbols.items))

pub put-requires : goal.put-requires
put-requires g c = c.loop-i.invariant.0

pub loop-i-preserved : goal.loop-i-preserved
loop-i-preserved g c =
    let h = c.args.host.now in
    let f = c.function.result.now in
    let there = symbol_there (g.H.HostModule.name_of h) (g.H.HostModule.functions_of h) c.loop-i.i f c.in-Ok.symbol c.function.ensures
    (c.in-Ok.ensures ∙ ap (λ n. symbol_in n (function_of f)) c.name.ensures) in (
      c.in-Ok-true.ensures.known,
      more_taken _ _ _ _ c.loop-i.i c.in-Ok.symbol there (c.in-Ok-true.ensures.put c.in-Ok-true.field-0-test) c.loop-i.invariant.1,
    )

pub returns-in-Ok-false-clause-twice : goal.returns-in-Ok-false-clause-twice
returns-in-Ok-false-clause-twice g c n is =
    let m = g.H.HostModule in
    let h = c.args.host.now in
    let f = c.function.result.now in
    let there = symbol_there (m.name_of h) (m.functions_of h) c.loop-i.i f c.in-Ok.symbol c.function.ensures
    (c.in-Ok.ensures ∙ ap (λ n. symbol_in n (function_of f)) c.name.ensures) in (
      cc,
      twice_found _ _ _ c.loop-i.i c.in-Ok.symbol _ there c.loop-i.invariant.1 c.loop-i.invariant.0
          (c.in-Ok-false.ensures.there c.in-Ok-false.field-0-test),
    )

pub returns-clause-known : goal.returns-clause-known
returns-clause-known g c = c.loop-i.invariant.0

pub returns-clause-symbols : goal.returns-clause-symbols
returns-clause-symbols g c =
    let m = g.H.HostModule in
    let h = c.args.host.now in
    c.loop-i.invariant.1
    ∙ ap (λ l. c.args.self.now.symbols.items ++ l) (take_all c.loop-i.i (symbols_of_host (host_of m h))
    (past_all (m.name_of h) (m.functions_of h) c.count-i-end.result c.loop-i.i c.count-i-end.ensures c.loop-i-test.false))
