use Rattle.c_print.proofs.Common.{◌≡◌, List, ℕ, subst, rules, IfErr, OnOk, ended, Page}
use Rattle.std.proofs.lemmas.Result.{err_from_is_err_and}
use Rattle.c_print.specs.ToFile.{HasPut, HasFailed}
use Rattle.c_print.proofs.ToFile.{fails_here}
use Rattle.c_print.proofs.item.put_end_to.Goals as goal

pub returns-in_err-end-clause-part : goal.returns-in_err-end-clause-part
returns-in_err-end-clause-part g c =
    let p = err_from_is_err_and c.from_residual.result c.from_residual.ensures.1 in
    rw (p.1, p.2) (fails_here g.F.Files c.args.files.now (ended c.args.page.now).text)

pub returns-clause-whole : goal.returns-clause-whole
returns-clause-whole g c =
    let is : c.end.new.self ≡ ended c.args.page.now = search rules in
    subst (λ (page : Page). OnOk c.put_text.result (HasPut g.F.Files c.args.files.now c.put_text.new.files page.text)) is
    (subst (λ (l : List ℕ). OnOk c.put_text.result (HasPut g.F.Files c.args.files.now c.put_text.new.files l))
    c.as_slice.ensures c.put_text.ensures.whole)

pub returns-clause-part : goal.returns-clause-part
returns-clause-part g c =
    let is : c.end.new.self ≡ ended c.args.page.now = search rules in
    subst (λ (page : Page). IfErr c.put_text.result (λ why. HasFailed g.F.Files c.args.files.now c.put_text.new.files page.text why)) is
    (subst (λ (l : List ℕ). IfErr c.put_text.result (λ why. HasFailed g.F.Files c.args.files.now c.put_text.new.files l why))
    c.as_slice.ensures c.put_text.ensures.part)
