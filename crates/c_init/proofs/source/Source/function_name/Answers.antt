use Rattle.c_init.proofs.Common.{◌≡◌, IfOk, subst, Name}
use Rattle.c_init.proofs.FuncNames.{named_import, named_own}
use Rattle.c_symbols.proofs.Made.{stands_there}
use Rattle.c_init.proofs.LookUps.{missing}
use Rattle.c_init.proofs.source.Source.function_name.Goals as goal

pub returns-in-None : goal.returns-in-None
returns-in-None c =
    let source = c.args.self.now in
    let names = source.func_symbols.items in
    subst (λ (named : Name). IfOk c.func_name.result (λ name. name ≡ named))
    (named_own source.tree.now names c.args.index source.func_symbols_are
    (missing c.deref.result.now names c.args.index c.deref.ensures.value c.in-None.ensures.lookup.3))
    c.func_name.ensures

pub returns-in-Some : goal.returns-in-Some
returns-in-Some c =
    let source = c.args.self.now in
    let names = source.func_symbols.items in
    subst (λ (named : Name). IfOk c.copy.result (λ name. name ≡ named))
    (named_import source.tree.now names c.args.index c.in-Some.symbol.now source.func_symbols_are
    (stands_there names c.deref.result.now c.args.index c.in-Some.symbol.now c.deref.ensures.value c.in-Some.ensures.lookup.3.0
    c.in-Some.ensures.lookup.1)) c.copy.ensures
