use Rattle.c_print.proofs.Common.{[], List, ℕ, refl, subst, rules}
use Rattle.std.proofs.lemmas.Result.{err_from_is_err_and}
use Rattle.c_print.specs.ToFile.{HasPut, HasFailed}
use Rattle.c_print.proofs.ToFile.{prints_here, prints_full, fails_full}
use Rattle.c_print.proofs.to_file.put_full.Goals as goal

pub returns-then-len-lt-LIMIT-clause-whole : goal.returns-then-len-lt-LIMIT-clause-whole
returns-then-len-lt-LIMIT-clause-whole g c = prints_here g.F.Files c.args.files.now c.args.page.now c.args.page.now [] refl

pub returns-in_err-put_text-clause-part : goal.returns-in_err-put_text-clause-part
returns-in_err-put_text-clause-part g c =
    let p = err_from_is_err_and c.from_residual.result c.from_residual.ensures.1 in
    rw (p.1, p.2) (subst (λ (l : List ℕ). HasFailed g.F.Files c.args.files.now c.put_text.new.files l c.in_err-put_text.field-0.0)
    c.as_slice.ensures c.in_err-put_text.ensures.part)

pub returns-in_err-page-clause-part : goal.returns-in_err-page-clause-part
returns-in_err-page-clause-part g c =
    let p = err_from_is_err_and c.from_residual-in_err-page.result c.from_residual-in_err-page.ensures.1 in
    rw (p.1, p.2) (fails_full g.F.Files c.args.files.now c.put_text.new.files c.args.page.now.text
    (subst (HasPut g.F.Files c.args.files.now c.put_text.new.files) c.as_slice.ensures c.in_ok-put_text.ensures.whole))

pub returns-clause-whole : goal.returns-clause-whole
returns-clause-whole g c =
    prints_full g.F.Files c.args.files.now c.put_text.new.files c.args.page.now _ (search rules) refl
    (subst (HasPut g.F.Files c.args.files.now c.put_text.new.files) c.as_slice.ensures c.in_ok-put_text.ensures.whole)
