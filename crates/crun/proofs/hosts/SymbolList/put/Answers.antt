use Rattle.crun.proofs.Common.{is_some, Some, sym, ap, ◌∙◌, option_or, named, found_at}
use Rattle.crun.proofs.HostSymbols.{known_push}
use Rattle.crun.proofs.hosts.SymbolList.put.Goals as goal

pub returns-clause-known : goal.returns-clause-known
returns-clause-known c =
    let numbers = c.args.self.now.numbers in
    let k = c.len-number.result in
    known_push numbers c.enter.new.self c.args.self.now.symbols.items c.push.new.self.items c.args.symbol k c.requires
    (sym (c.is_some.ensures ∙ ap is_some (c.find.ensures ∙ ap (λ n. named n numbers) c.as_slice.ensures)) ∙ c.if-is_some.false)
    (λ q. c.in_ok-enter.ensures q ∙ ap (λ n. option_or (named q numbers) (found_at k (Some n) q)) c.as_slice-2.ensures)
    c.in_ok-push.ensures.items
