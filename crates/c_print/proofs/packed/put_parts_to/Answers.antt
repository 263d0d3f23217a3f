use Rattle.c_print.proofs.Common.{◌≡◌, ◌++◌, List, map, sym, ap, ◌∙◌, subst, IsSome, Token, each, printed_onto}
use Rattle.std.proofs.lemmas.Result.{err_from_is_err_and}
use Rattle.w2c_io.specs.declared.answers.WriteAnswer.TheVariants as writing
use Rattle.c_tree.specs.Trees.{stmt_tokens}
use Rattle.c_tree.specs.View.{stmt_of}
use Rattle.packed_stmts.specs.Listed.{left, IsNext}
use Rattle.c_print.specs.ToFile.{Prints, HasFailed}
use Rattle.c_print.proofs.Onto.{each_append, each_map}
use Rattle.c_print.proofs.ToFile.{front_begins, front_more, front_fails, front_ends, fails_between}
use Rattle.c_print.proofs.packed.put_parts_to.Goals as goal

pub more-init : goal.more-init
more-init g c = front_begins g.F.Files c.args.files.now c.args.page.now (each stmt_tokens (left c.args.parts.now))

pub returns-in_err-part-clause-part : goal.returns-in_err-part-clause-part
returns-in_err-part-clause-part g c =
    let p = err_from_is_err_and c.from_residual.result c.from_residual.ensures.1 in
    let front = c.more.invariant in
    rw (p.1, p.2) (subst (λ (l : List Token). HasFailed g.F.Files c.args.files.now c.more.files (printed_onto c.args.page.now l).text
    writing.Memory) (sym front.split) (fails_between g.F.Files c.args.files.now c.more.files c.args.page.now c.more.page front.given
    (each stmt_tokens (left c.more.parts)) front.prints))

pub put_each_to-put-requires : goal.put_each_to-put-requires
put_each_to-put-requires g c = record { current = subst IsSome (sym c.more.invariant.prints.put.current) c.requires.current }

pub returns-in_err-put-clause-part : goal.returns-in_err-put-clause-part
returns-in_err-put-clause-part g c =
    let part = c.in-Some.part in
    let behind = each stmt_tokens (left c.next.new.self) in
    let next : left c.more.parts ≡ map stmt_of part.items ++ left c.next.new.self =
    subst (λ o. IsNext (left c.more.parts) o (left c.next.new.self)) c.in-Some.is c.in_ok-part.ensures.part in
    let p = err_from_is_err_and c.from_residual-in_err-put.result c.from_residual-in_err-put.ensures.1 in
    rw (p.1, p.2) (front_fails g.F.Files c.args.files.now c.more.files c.put_each_to-put.new.files c.args.page.now c.more.page
    (each stmt_tokens (left c.args.parts.now)) (each stmt_tokens (left c.more.parts)) (each stmt_tokens (map stmt_of part.items)) behind
    c.in_err-put.field-0.0 c.more.invariant
    (ap (each stmt_tokens) next ∙ each_append stmt_tokens (map stmt_of part.items) (left c.next.new.self))
    (subst (λ (l : List Token). HasFailed g.F.Files c.more.files c.put_each_to-put.new.files (printed_onto c.more.page l).text
    c.in_err-put.field-0.0) (sym (each_map stmt_tokens stmt_of part.items)) (rw c.as_slice.ensures.value at c.in_err-put.ensures.part)))

pub more-preserved : goal.more-preserved
more-preserved g c =
    let part = c.in-Some.part in
    let behind = each stmt_tokens (left c.next.new.self) in
    let next : left c.more.parts ≡ map stmt_of part.items ++ left c.next.new.self =
    subst (λ o. IsNext (left c.more.parts) o (left c.next.new.self)) c.in-Some.is c.in_ok-part.ensures.part in
    front_more g.F.Files c.args.files.now c.more.files c.put_each_to-put.new.files c.args.page.now c.more.page c.put_each_to-put.new.page
    (each stmt_tokens (left c.args.parts.now)) (each stmt_tokens (left c.more.parts)) (each stmt_tokens (map stmt_of part.items)) behind
    c.more.invariant (ap (each stmt_tokens) next ∙ each_append stmt_tokens (map stmt_of part.items) (left c.next.new.self))
    (subst (Prints g.F.Files c.more.files c.put_each_to-put.new.files c.more.page c.put_each_to-put.new.page)
    (sym (each_map stmt_tokens stmt_of part.items)) (rw c.as_slice.ensures.value at c.in_ok-put.ensures.whole))

pub returns-clause-whole : goal.returns-clause-whole
returns-clause-whole g c =
    front_ends g.F.Files c.args.files.now c.more.files c.args.page.now c.more.page (each stmt_tokens (left c.args.parts.now))
    (each stmt_tokens (left c.more.parts)) c.more.invariant
    (ap (each stmt_tokens) (subst (λ o. IsNext (left c.more.parts) o (left c.next.new.self)) c.in_default.is c.in_ok-part.ensures.part))
