use Rattle.c_print.proofs.Common.{◌∷◌, [], rules, Fixed, each, printed_onto}
use Rattle.std.proofs.lemmas.Result.{err_from_is_err_and}
use Rattle.c_tree.specs.declared.token.Tok.TheVariants as tok
use Rattle.c_tree.specs.Trees.{local_tokens}
use Rattle.c_print.proofs.ToFile.{prints_here, fails_here, last_prints, last_fails}
use Rattle.c_print.proofs.function.put_open_to.Goals as goal

pub returns-in_err-fixed-clause-part : goal.returns-in_err-fixed-clause-part
returns-in_err-fixed-clause-part g c =
    let p = err_from_is_err_and c.from_residual.result c.from_residual.ensures.1 in
    rw (p.1, p.2) (fails_here g.F.Files c.args.files.now
    (printed_onto c.args.page.now (Fixed tok.LeftBrace ∷ each local_tokens c.args.locals.now)).text)

pub returns-clause-whole : goal.returns-clause-whole
returns-clause-whole g c =
    let files = c.args.files.now in
    last_prints g.F.Files files files c.put_each_to.new.files c.args.page.now c.fixed.new.self c.put_each_to.new.page
    (Fixed tok.LeftBrace ∷ []) (each local_tokens c.args.locals.now) c.put_each_to.result
    (prints_here g.F.Files files c.args.page.now c.fixed.new.self (Fixed tok.LeftBrace ∷ []) (search rules)) c.put_each_to.ensures.whole

pub returns-clause-part : goal.returns-clause-part
returns-clause-part g c =
    let files = c.args.files.now in
    last_fails g.F.Files files files c.put_each_to.new.files c.args.page.now c.fixed.new.self
    (Fixed tok.LeftBrace ∷ []) (each local_tokens c.args.locals.now) c.put_each_to.result
    (prints_here g.F.Files files c.args.page.now c.fixed.new.self (Fixed tok.LeftBrace ∷ []) (search rules)) c.put_each_to.ensures.part
