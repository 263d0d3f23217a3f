use Rattle.w2c_sim.proofs.Common.{◌≡◌, IsSome, Ok, Err, Option, Result, sym, ap, ◌∙◌, subst, inr, arith, err_from_is_err_and, vain_passed}
use Rattle.w2c_sim.proofs.Common.{whole_passed, AppendsPart, appending, all_written, begun, fails_at_include, fails_between}
use Rattle.w2c_sim.proofs.Common.{fails_in, is_contained, one_more, put_all, put_include, put_more, stops_at_include, stops_between}
use Rattle.w2c_sim.proofs.Common.{stops_in, print_item_of, left_of}
use Rattle.w2c_io.specs.Contents.{Name}
use Rattle.w2c_io.specs.declared.answers.WriteAnswer.{WriteAnswer}
use Rattle.w2c_io.proofs.Causes.{cause_behind, memory_cause, done_cause, named_behind}
use Rattle.c_tree.specs.declared.token.Tok.TheVariants as tok
use Rattle.c_tree.specs.Tokens.{fixed_text}
use Rattle.packed_stmts.specs.PackedItems.{packed_item_of}
use Rattle.w2c_sim.proofs.ItemsWritten.{given_item, none_left, shorter}
use Rattle.w2c_sim.proofs.writing.write_items.Goals as goal

pub returns-in_err-put-clause-part : goal.returns-in_err-put-clause-part
returns-in_err-put-clause-part g c =
    let files = g.F.Files in
    let p = err_from_is_err_and c.from_residual.result c.from_residual.ensures.1 in
    rw p.1 (stops_at_include (files.told c.args.files.now) (files.told c.put.new.self) (files.current c.args.files.now)
    (left_of c.args.items.now) (subst (AppendsPart (files.told c.args.files.now) (files.told c.put.new.self)
    (files.current c.args.files.now)) c.text.ensures (inr c.in_err-put.ensures.part)))

pub returns-in_err-put-clause-cause : goal.returns-in_err-put-clause-cause
returns-in_err-put-clause-cause g c =
    let p = err_from_is_err_and c.from_residual.result c.from_residual.ensures.1 in
    rw (p.1, p.2) c.in_err-put.ensures.cause

pub returns-in_err-put-clause-tried : goal.returns-in_err-put-clause-tried
returns-in_err-put-clause-tried g c =
    let p = err_from_is_err_and c.from_residual.result c.from_residual.ensures.1 in
    rw (p.1, p.2) (fails_at_include _ _ (left_of c.args.items.now) c.in_err-put.field-0.0
    (vain_passed _ _ c.text.result.now (fixed_text tok.Include) (Err c.in_err-put.field-0.0) c.text.ensures c.in_err-put.ensures.traced))

pub more-init : goal.more-init
more-init g c =
    let files = g.F.Files in
    record {
      written = begun (files.told c.args.files.now) (files.told c.put.new.self) (files.current c.args.files.now) (left_of c.args.items.now)
          (subst (λ l. files.told c.put.new.self ≡ appending (files.told c.args.files.now) (files.current c.args.files.now) l)
          c.text.ensures c.in_ok-put.ensures.written);
      passed = put_include _ _ (left_of c.args.items.now)
          (whole_passed _ _ c.text.result.now (fixed_text tok.Include) (Ok tt) c.text.ensures c.in_ok-put.ensures.traced);
      current = c.in_ok-put.ensures.current;
      fault = c.in_ok-put.ensures.named;
      reads = c.in_ok-put.ensures.reads;
      kept = c.in_ok-put.ensures.cause.kept;
    }

pub returns-in_err-item-clause-part : goal.returns-in_err-item-clause-part
returns-in_err-item-clause-part g c =
    let p = err_from_is_err_and c.from_residual-in_err-item.result c.from_residual-in_err-item.ensures.1 in
    rw p.1 (stops_between _ _ _ _ _ c.more.invariant.written)

pub returns-in_err-item-clause-tried : goal.returns-in_err-item-clause-tried
returns-in_err-item-clause-tried g c =
    let p = err_from_is_err_and c.from_residual-in_err-item.result c.from_residual-in_err-item.ensures.1 in
    rw (p.1, p.2) (fails_between _ _ _ _ c.more.invariant.passed)

pub returns-in_err-item-clause-cause : goal.returns-in_err-item-clause-cause
returns-in_err-item-clause-cause g c =
    let files = g.F.Files in
    let p = err_from_is_err_and c.from_residual-in_err-item.result c.from_residual-in_err-item.ensures.1 in
    rw (p.1, p.2) (memory_cause (files.write_faults c.args.files.now) (files.write_faults c.more.files)
    (omega (arith, c.more.invariant.kept)))

pub returns-in_err-item-clause-fault : goal.returns-in_err-item-clause-fault
returns-in_err-item-clause-fault g c =
    let p = err_from_is_err_and c.from_residual-in_err-item.result c.from_residual-in_err-item.ensures.1 in
    rw (p.1, p.2) c.more.invariant.fault

pub print_packed_to-requires-clause-formed : goal.print_packed_to-requires-clause-formed
print_packed_to-requires-clause-formed g c =
    let next = given_item c.in-Some.item c.in_ok-item.field-0 _ _ c.in-Some.is c.in_ok-item.ensures.given in
    (left_of c.args.items.now, c.requires.formed, is_contained _ _ _ _ _ _ _ c.more.invariant.written next)

pub returns-in_err-print_packed_to-clause-part : goal.returns-in_err-print_packed_to-clause-part
returns-in_err-print_packed_to-clause-part g c =
    let files = g.F.Files in
    let next = given_item c.in-Some.item c.in_ok-item.field-0 _ _ c.in-Some.is c.in_ok-item.ensures.given in
    let p = err_from_is_err_and c.from_residual-in_err-print_packed_to.result c.from_residual-in_err-print_packed_to.ensures.1 in
    rw p.1 (stops_in _ _ (files.told c.print_packed_to.new.files) _ _ _ _ _ c.more.invariant.written next
    (subst (λ (current : Option Name). AppendsPart (files.told c.more.files) (files.told c.print_packed_to.new.files) current
    (print_item_of (packed_item_of c.in-Some.item))) c.more.invariant.current c.in_err-print_packed_to.ensures.part))

pub returns-in_err-print_packed_to-clause-tried : goal.returns-in_err-print_packed_to-clause-tried
returns-in_err-print_packed_to-clause-tried g c =
    let files = g.F.Files in
    let next = given_item c.in-Some.item c.in_ok-item.field-0 _ _ c.in-Some.is c.in_ok-item.ensures.given in
    let p = err_from_is_err_and c.from_residual-in_err-print_packed_to.result c.from_residual-in_err-print_packed_to.ensures.1 in
    rw (p.1, p.2) (fails_in _ _ (files.trace c.print_packed_to.new.files) _ _ _ _ c.in_err-print_packed_to.field-0.0
    c.more.invariant.passed next c.in_err-print_packed_to.ensures.tried)

pub returns-in_err-print_packed_to-clause-cause : goal.returns-in_err-print_packed_to-clause-cause
returns-in_err-print_packed_to-clause-cause g c =
    let p = err_from_is_err_and c.from_residual-in_err-print_packed_to.result c.from_residual-in_err-print_packed_to.ensures.1 in
    let answer : Result (Unit {0}) WriteAnswer = Err c.in_err-print_packed_to.field-0.0 in
    rw (p.1, p.2) (cause_behind _ _ _ answer c.more.invariant.kept c.in_err-print_packed_to.ensures.cause)

pub returns-in_err-print_packed_to-clause-fault : goal.returns-in_err-print_packed_to-clause-fault
returns-in_err-print_packed_to-clause-fault g c =
    let p = err_from_is_err_and c.from_residual-in_err-print_packed_to.result c.from_residual-in_err-print_packed_to.ensures.1 in
    let answer : Result (Unit {0}) WriteAnswer = Err c.in_err-print_packed_to.field-0.0 in
    rw (p.1, p.2) (named_behind answer _ _ _ _ (g.F.Files.fault_name c.print_packed_to.new.files) c.more.invariant.current
    c.more.invariant.fault c.in_err-print_packed_to.ensures.named)

pub returns-clause-cause : goal.returns-clause-cause
returns-clause-cause g c = done_cause _ _ _ c.more.invariant.kept

pub more-preserved : goal.more-preserved
more-preserved g c =
    let files = g.F.Files in
    let next = given_item c.in-Some.item c.in_ok-item.field-0 _ _ c.in-Some.is c.in_ok-item.ensures.given in
    record {
      written = one_more _ _ (files.told c.print_packed_to.new.files) _ _ _ _ _ c.more.invariant.written next
          (c.in_ok-print_packed_to.ensures.written
          ∙ ap (λ (current : Option Name). appending (files.told c.more.files) current (print_item_of (packed_item_of c.in-Some.item)))
          c.more.invariant.current);
      passed = put_more _ _ (files.trace c.print_packed_to.new.files) _ _ _ _ c.more.invariant.passed next
          c.in_ok-print_packed_to.ensures.passed;
      current = c.in_ok-print_packed_to.ensures.current ∙ c.more.invariant.current;
      fault = ◌∙◌ {b = files.fault_name c.more.files} c.in_ok-print_packed_to.ensures.named c.more.invariant.fault;
      reads = c.in_ok-print_packed_to.ensures.reads ∙ c.more.invariant.reads;
      kept = c.in_ok-print_packed_to.ensures.cause.kept ∙ c.more.invariant.kept;
    }

pub returns-clause-written : goal.returns-clause-written
returns-clause-written g c =
    all_written _ _ _ _ _ c.more.invariant.written (none_left c.in_ok-item.field-0 _ _ c.in_default.not-Some c.in_ok-item.ensures.given)

pub returns-clause-passed : goal.returns-clause-passed
returns-clause-passed g c =
    put_all _ _ _ _ c.more.invariant.passed (none_left c.in_ok-item.field-0 _ _ c.in_default.not-Some c.in_ok-item.ensures.given)

pub more-smaller : goal.more-smaller
more-smaller g c =
    let next = given_item c.in-Some.item c.in_ok-item.field-0 _ _ c.in-Some.is c.in_ok-item.ensures.given in
    shorter _ _ _ next

pub print_packed_to-requires-clause-current : goal.print_packed_to-requires-clause-current
print_packed_to-requires-clause-current g c = subst IsSome (sym c.more.invariant.current) c.requires.current

pub returns-in_err-put-clause-current : goal.returns-in_err-put-clause-current
returns-in_err-put-clause-current g c = c.in_err-put.ensures.current

pub returns-in_err-put-clause-reads : goal.returns-in_err-put-clause-reads
returns-in_err-put-clause-reads g c = c.in_err-put.ensures.reads

pub returns-in_err-item-clause-current : goal.returns-in_err-item-clause-current
returns-in_err-item-clause-current g c = c.more.invariant.current

pub returns-in_err-item-clause-reads : goal.returns-in_err-item-clause-reads
returns-in_err-item-clause-reads g c = c.more.invariant.reads

pub returns-in_err-print_packed_to-clause-current : goal.returns-in_err-print_packed_to-clause-current
returns-in_err-print_packed_to-clause-current g c = c.in_err-print_packed_to.ensures.current ∙ c.more.invariant.current

pub returns-in_err-print_packed_to-clause-reads : goal.returns-in_err-print_packed_to-clause-reads
returns-in_err-print_packed_to-clause-reads g c = c.in_err-print_packed_to.ensures.reads ∙ c.more.invariant.reads

pub returns-clause-current : goal.returns-clause-current
returns-clause-current g c = c.more.invariant.current

pub returns-clause-fault : goal.returns-clause-fault
returns-clause-fault g c = c.more.invariant.fault

pub returns-clause-reads : goal.returns-clause-reads
returns-clause-reads g c = c.more.invariant.reads
