use Rattle.c_print.proofs.Common.{◌∷◌, [], sym, subst, rules, IsSome, Fixed, each}
use Rattle.std.proofs.lemmas.Result.{err_from_is_err_and}
use Rattle.c_tree.specs.declared.token.Tok.TheVariants as tok
use Rattle.c_tree.specs.Trees.{local_tokens, stmt_tokens}
use Rattle.packed_stmts.specs.Listed.{left}
use Rattle.c_print.proofs.ToFile.{first_breaks, second_breaks, third_wants, all_three}
use Rattle.c_print.proofs.packed.put_packed_body_to.Goals as goal

pub returns-in_err-put_open_to-clause-part : goal.returns-in_err-put_open_to-clause-part
returns-in_err-put_open_to-clause-part g c =
    let p = err_from_is_err_and c.from_residual.result c.from_residual.ensures.1 in
    rw (p.1, p.2) (first_breaks g.F.Files c.args.files.now c.args.page.now (Fixed tok.LeftBrace ∷ each local_tokens c.args.body.now.locals)
    (each stmt_tokens (left c.args.body.now.stmts)) (Fixed tok.RightBrace ∷ []) c.put_open_to.new.files c.in_err-put_open_to.field-0.0
    (rw c.as_slice.ensures at c.in_err-put_open_to.ensures.part))

pub put_parts_to-requires : goal.put_parts_to-requires
put_parts_to-requires g c = record { current = subst IsSome (sym c.in_ok-put_open_to.ensures.whole.put.current) c.requires.current }

pub returns-in_err-put_parts_to-clause-part : goal.returns-in_err-put_parts_to-clause-part
returns-in_err-put_parts_to-clause-part g c =
    let p = err_from_is_err_and c.from_residual-in_err-put_parts_to.result c.from_residual-in_err-put_parts_to.ensures.1 in
    rw (p.1, p.2) (second_breaks g.F.Files c.args.files.now c.args.page.now (Fixed tok.LeftBrace ∷ each local_tokens c.args.body.now.locals)
    (each stmt_tokens (left c.args.body.now.stmts)) (Fixed tok.RightBrace ∷ []) c.put_open_to.new.files c.put_parts_to.new.files
    c.put_open_to.new.page c.in_err-put_parts_to.field-0.0 (rw c.as_slice.ensures at c.in_ok-put_open_to.ensures.whole)
    c.in_err-put_parts_to.ensures.part)

pub returns-in_err-fixed-clause-part : goal.returns-in_err-fixed-clause-part
returns-in_err-fixed-clause-part g c =
    let p = err_from_is_err_and c.from_residual-in_err-fixed.result c.from_residual-in_err-fixed.ensures.1 in
    rw (p.1, p.2) (third_wants g.F.Files c.args.files.now c.args.page.now (Fixed tok.LeftBrace ∷ each local_tokens c.args.body.now.locals)
    (each stmt_tokens (left c.args.body.now.stmts)) (Fixed tok.RightBrace ∷ []) c.put_open_to.new.files c.put_parts_to.new.files
    c.put_open_to.new.page c.put_parts_to.new.page (rw c.as_slice.ensures at c.in_ok-put_open_to.ensures.whole)
    c.in_ok-put_parts_to.ensures.whole)

pub returns-clause-whole : goal.returns-clause-whole
returns-clause-whole g c =
    all_three g.F.Files c.args.files.now c.args.page.now (Fixed tok.LeftBrace ∷ each local_tokens c.args.body.now.locals)
    (each stmt_tokens (left c.args.body.now.stmts)) (Fixed tok.RightBrace ∷ []) c.put_open_to.new.files c.put_parts_to.new.files
    c.put_open_to.new.page c.put_parts_to.new.page c.fixed.new.self (rw c.as_slice.ensures at c.in_ok-put_open_to.ensures.whole)
    c.in_ok-put_parts_to.ensures.whole (search rules)
