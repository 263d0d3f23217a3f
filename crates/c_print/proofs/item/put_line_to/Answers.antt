use Rattle.c_print.proofs.Common.{sym, refl, subst, IsSome, item_tokens, item_of, ended}
use Rattle.std.proofs.lemmas.Result.{err_from_is_err_and}
use Rattle.c_print.proofs.ToFile.{line_breaks, line_put, line_fails}
use Rattle.c_print.proofs.item.put_line_to.Goals as goal

pub returns-in_err-put_item_to-clause-part : goal.returns-in_err-put_item_to-clause-part
returns-in_err-put_item_to-clause-part g c =
    let p = err_from_is_err_and c.from_residual.result c.from_residual.ensures.1 in
    rw (p.1, p.2) (line_breaks g.F.Files c.args.files.now c.put_item_to.new.files c.args.page.now (item_tokens (item_of c.args.item.now))
    c.in_err-put_item_to.field-0.0 c.in_err-put_item_to.ensures.part)

pub put_end_to-requires : goal.put_end_to-requires
put_end_to-requires g c = record { current = subst IsSome (sym c.in_ok-put_item_to.ensures.whole.put.current) c.requires.current }

pub returns-clause-whole : goal.returns-clause-whole
returns-clause-whole g c =
    line_put g.F.Files c.args.files.now c.put_item_to.new.files c.put_end_to.new.files c.args.page.now c.put_item_to.new.page
    (ended c.put_item_to.new.page) (item_tokens (item_of c.args.item.now)) c.put_end_to.result c.in_ok-put_item_to.ensures.whole refl
    c.put_end_to.ensures.whole

pub returns-clause-part : goal.returns-clause-part
returns-clause-part g c =
    line_fails g.F.Files c.args.files.now c.put_item_to.new.files c.put_end_to.new.files c.args.page.now c.put_item_to.new.page
    (ended c.put_item_to.new.page) (item_tokens (item_of c.args.item.now)) c.put_end_to.result c.in_ok-put_item_to.ensures.whole refl
    c.put_end_to.ensures.part
