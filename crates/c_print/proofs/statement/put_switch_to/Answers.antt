use Rattle.c_print.proofs.Common.{◌++◌, List, sym, subst, rules, Token, each, printed_onto}
use Rattle.std.proofs.lemmas.Result.{err_from_is_err_and}
use Rattle.w2c_io.specs.declared.answers.WriteAnswer.TheVariants as writing
use Rattle.c_tree.specs.Tree.{Switch}
use Rattle.c_tree.specs.Trees.{case_tokens, stmt_tokens}
use Rattle.c_tree.specs.View.{expr_of}
use Rattle.c_print.specs.ToFile.{HasFailed, switch_head, switch_end}
use Rattle.c_print.proofs.ToFile.{prints_here, prints_both, prints_as, fails_here, fails_in, fails_last, fails_between, switch_split}
use Rattle.c_print.proofs.statement.put_switch_to.Goals as goal

pub returns-in_err-put_switch_head-clause-part : goal.returns-in_err-put_switch_head-clause-part
returns-in_err-put_switch_head-clause-part g c =
    let p = err_from_is_err_and c.from_residual.result c.from_residual.ensures.1 in
    rw (p.1, p.2) (fails_here g.F.Files c.args.files.now (printed_onto c.args.page.now
    (stmt_tokens (Switch (expr_of c.args.on.now) c.args.cases.now c.args.label.now))).text)

pub returns-in_err-put_each_to-clause-part : goal.returns-in_err-put_each_to-clause-part
returns-in_err-put_each_to-clause-part g c =
    let files = c.args.files.now in
    let after = c.put_each_to.new.files in
    let on = expr_of c.args.on.now in
    let why = c.in_err-put_each_to.field-0.0 in
    let p = err_from_is_err_and c.from_residual-in_err-put_each_to.result c.from_residual-in_err-put_each_to.ensures.1 in
    rw (p.1, p.2) (subst (λ (ts : List Token). HasFailed g.F.Files files after (printed_onto c.args.page.now ts).text why)
    (sym (switch_split on c.args.cases.now c.args.label.now))
    (fails_in g.F.Files files files after c.args.page.now c.put_switch_head.new.page (switch_head on) (each case_tokens c.args.cases.now)
    (switch_end c.args.label.now) why
    (prints_here g.F.Files files c.args.page.now c.put_switch_head.new.page (switch_head on) (search rules))
    (rw c.as_slice.ensures at c.in_err-put_each_to.ensures.part)))

pub returns-in_err-put_switch_end-clause-part : goal.returns-in_err-put_switch_end-clause-part
returns-in_err-put_switch_end-clause-part g c =
    let files = c.args.files.now in
    let after = c.put_each_to.new.files in
    let on = expr_of c.args.on.now in
    let cases = each case_tokens c.args.cases.now in
    let close = switch_end c.args.label.now in
    let p = err_from_is_err_and c.from_residual-in_err-put_switch_end.result c.from_residual-in_err-put_switch_end.ensures.1 in
    rw (p.1, p.2) (subst (λ (ts : List Token). HasFailed g.F.Files files after (printed_onto c.args.page.now ts).text writing.Memory)
    (sym (switch_split on c.args.cases.now c.args.label.now))
    (fails_last g.F.Files files files after c.args.page.now c.put_switch_head.new.page (switch_head on) (cases ++ close) writing.Memory
    (prints_here g.F.Files files c.args.page.now c.put_switch_head.new.page (switch_head on) (search rules))
    (fails_between g.F.Files files after c.put_switch_head.new.page c.put_each_to.new.page cases close
    (rw c.as_slice.ensures at c.in_ok-put_each_to.ensures.whole))))

pub returns-clause-whole : goal.returns-clause-whole
returns-clause-whole g c =
    let files = c.args.files.now in
    let after = c.put_each_to.new.files in
    let on = expr_of c.args.on.now in
    let cases = each case_tokens c.args.cases.now in
    let close = switch_end c.args.label.now in
    prints_as g.F.Files files after c.args.page.now c.put_switch_end.new.page (switch_head on ++ (cases ++ close))
    (stmt_tokens (Switch on c.args.cases.now c.args.label.now)) (sym (switch_split on c.args.cases.now c.args.label.now))
    (prints_both g.F.Files files files after c.args.page.now c.put_switch_head.new.page c.put_switch_end.new.page (switch_head on)
    (cases ++ close) (prints_here g.F.Files files c.args.page.now c.put_switch_head.new.page (switch_head on) (search rules))
    (prints_both g.F.Files files after after c.put_switch_head.new.page c.put_each_to.new.page c.put_switch_end.new.page cases close
    (rw c.as_slice.ensures at c.in_ok-put_each_to.ensures.whole)
    (prints_here g.F.Files after c.put_each_to.new.page c.put_switch_end.new.page close (search rules))))
