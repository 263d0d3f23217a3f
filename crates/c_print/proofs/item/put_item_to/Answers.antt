use Rattle.c_print.proofs.Common.{rules, item_tokens, item_of, printed_onto}
use Rattle.std.proofs.lemmas.Result.{err_from_is_err_and}
use Rattle.c_print.proofs.ToFile.{prints_here, fails_here}
use Rattle.c_print.proofs.item.put_item_to.Goals as goal

pub returns-in_err-put_item-in-Var-clause-part : goal.returns-in_err-put_item-in-Var-clause-part
returns-in_err-put_item-in-Var-clause-part g c =
    let p = err_from_is_err_and c.from_residual.result c.from_residual.ensures.1 in
    rw (p.1, p.2) (fails_here g.F.Files c.args.files.now (printed_onto c.args.page.now (item_tokens (item_of c.args.item.now))).text)

pub returns-in_ok-put_item-in-Var-clause-whole : goal.returns-in_ok-put_item-in-Var-clause-whole
returns-in_ok-put_item-in-Var-clause-whole g c =
    prints_here g.F.Files c.args.files.now c.args.page.now c.put_item.new.page (item_tokens (item_of c.args.item.now)) (search rules)
