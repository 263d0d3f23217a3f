use Rattle.c_print.proofs.Common.{◌∷◌, [], Fixed, List, sym, ap, subst, rules, IfErr, OnOk, Token, printed_onto}
use Rattle.std.proofs.lemmas.Result.{err_from_is_err_and}
use Rattle.c_tree.specs.declared.token.Tok.TheVariants as tok
use Rattle.c_tree.specs.Trees.{close_tokens, func_tokens}
use Rattle.packed_stmts.specs.PackedItems.{packed_func_of, maybe_packed_body_of}
use Rattle.c_print.specs.ToFile.{func_head, HasFailed, Prints}
use Rattle.c_print.proofs.ToFile.{prints_both, prints_here, fails_here, last_prints, last_fails, func_split}
use Rattle.c_print.proofs.packed.put_packed_function_to.Goals as goal

pub returns-in_err-put_head-clause-part : goal.returns-in_err-put_head-clause-part
returns-in_err-put_head-clause-part g c =
    let p = err_from_is_err_and c.from_residual.result c.from_residual.ensures.1 in
    rw (p.1, p.2) (fails_here g.F.Files c.args.files.now (printed_onto c.args.page.now (func_tokens (packed_func_of c.args.func.now))).text)

pub returns-in_err-fixed-in-None-clause-part : goal.returns-in_err-fixed-in-None-clause-part
returns-in_err-fixed-in-None-clause-part g c =
    let p = err_from_is_err_and c.from_residual-in_err-fixed-in-None.result c.from_residual-in_err-fixed-in-None.ensures.1 in
    rw (p.1, p.2) (fails_here g.F.Files c.args.files.now (printed_onto c.args.page.now (func_tokens (packed_func_of c.args.func.now))).text)

pub returns-in_ok-fixed-in-None-clause-whole : goal.returns-in_ok-fixed-in-None-clause-whole
returns-in_ok-fixed-in-None-clause-whole g c =
    let f = packed_func_of c.args.func.now in
    let files = c.args.files.now in
    let body = sym (ap (λ b. close_tokens (maybe_packed_body_of b)) c.in-None.is) in
    rw (func_split f) (prints_both g.F.Files files files files c.args.page.now c.put_head.new.page c.fixed.new.self
    (func_head f) (close_tokens f.body)
    (prints_here g.F.Files files c.args.page.now c.put_head.new.page (func_head f) (search rules))
    (subst (Prints g.F.Files files files c.put_head.new.page c.fixed.new.self) body
    (prints_here g.F.Files files c.put_head.new.page c.fixed.new.self (Fixed tok.Semicolon ∷ []) (search rules))))

pub returns-in-Some-clause-whole : goal.returns-in-Some-clause-whole
returns-in-Some-clause-whole g c =
    let f = packed_func_of c.args.func.now in
    let files = c.args.files.now in
    let after = c.put_packed_body_to.new.files in
    let body = sym (ap (λ b. close_tokens (maybe_packed_body_of b)) c.in-Some.is) in
    rw (func_split f) (last_prints g.F.Files files files after c.args.page.now c.put_head.new.page
    c.put_packed_body_to.new.page (func_head f) (close_tokens f.body) c.put_packed_body_to.result
    (prints_here g.F.Files files c.args.page.now c.put_head.new.page (func_head f) (search rules))
    (subst (λ (ts : List Token). OnOk c.put_packed_body_to.result (Prints g.F.Files files after c.put_head.new.page
    c.put_packed_body_to.new.page ts)) body c.put_packed_body_to.ensures.whole))

pub returns-in-Some-clause-part : goal.returns-in-Some-clause-part
returns-in-Some-clause-part g c =
    let f = packed_func_of c.args.func.now in
    let files = c.args.files.now in
    let after = c.put_packed_body_to.new.files in
    let body = sym (ap (λ b. close_tokens (maybe_packed_body_of b)) c.in-Some.is) in
    rw (func_split f) (last_fails g.F.Files files files after c.args.page.now c.put_head.new.page
    (func_head f) (close_tokens f.body) c.put_packed_body_to.result
    (prints_here g.F.Files files c.args.page.now c.put_head.new.page (func_head f) (search rules))
    (subst (λ (ts : List Token). IfErr c.put_packed_body_to.result
    (λ why. HasFailed g.F.Files files after (printed_onto c.put_head.new.page ts).text why)) body c.put_packed_body_to.ensures.part))
