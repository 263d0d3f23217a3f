use Rattle.std.proofs.Common.{◌≡◌, ◌+◌, ◌<◌, ◌≤◌, rules, ◌∙◌, ap, subst, length, drop, Option, Result, Ok, Err, inr}
use Rattle.std.proofs.lemmas.List.{drop_all}
use Rattle.std.proofs.lemmas.Result.{err_from_is_err_and}
use Rattle.w2c_io.specs.Contents.{Name, appending, AppendsPart}
use Rattle.w2c_io.specs.declared.answers.WriteAnswer.{WriteAnswer}
use Rattle.c_tree.specs.View.{item_of, unit_of}
use Rattle.c_tree.proofs.Tested.{at_front}
use Rattle.c_print.specs.Print.{print_item_of}
use Rattle.w2c_io.proofs.Causes.{cause_behind, done_cause, named_behind}
use Rattle.w2c_io.proofs.Passed.{vain_passed, whole_passed}
use Rattle.c_tree.specs.declared.token.Tok.TheVariants as tok
use Rattle.c_tree.specs.Tokens.{fixed_text}
use Rattle.c_print.proofs.ItemsWritten.{begun, is_contained, one_more, all_written, stops_at_include, stops_in, put_include, put_more}
use Rattle.c_print.proofs.ItemsWritten.{put_all, fails_at_include, fails_in}
use Rattle.unit_file.proofs.writing.put_unit.Goals as goal

pub returns-in_err-put-clause-part : goal.returns-in_err-put-clause-part
returns-in_err-put-clause-part g c =
    let files = g.F.Files in
    let p = err_from_is_err_and c.from_residual.result c.from_residual.ensures.1 in
    rw p.1 (stops_at_include (files.told c.args.files.now) (files.told c.put.new.self) (files.current c.args.files.now)
    (unit_of c.args.unit.now) (subst (AppendsPart (files.told c.args.files.now) (files.told c.put.new.self)
    (files.current c.args.files.now)) c.text.ensures (inr c.in_err-put.ensures.part)))

pub returns-in_err-put-clause-cause : goal.returns-in_err-put-clause-cause
returns-in_err-put-clause-cause g c =
    let p = err_from_is_err_and c.from_residual.result c.from_residual.ensures.1 in
    rw (p.1, p.2) c.in_err-put.ensures.cause

pub returns-in_err-put-clause-tried : goal.returns-in_err-put-clause-tried
returns-in_err-put-clause-tried g c =
    let files = g.F.Files in
    let p = err_from_is_err_and c.from_residual.result c.from_residual.ensures.1 in
    rw (p.1, p.2) (fails_at_include (files.trace c.args.files.now) (files.trace c.put.new.self) (unit_of c.args.unit.now)
    c.in_err-put.field-0.0 (vain_passed (files.trace c.args.files.now) (files.trace c.put.new.self) c.text.result.now
    (fixed_text tok.Include)
    (Err c.in_err-put.field-0.0) c.text.ensures c.in_err-put.ensures.traced))

pub loop-item-init : goal.loop-item-init
loop-item-init g c =
    let files = g.F.Files in
    record {
      written = begun (files.told c.args.files.now) (files.told c.put.new.self) (files.current c.args.files.now)
          (unit_of c.args.unit.now) (rw c.text.ensures at c.in_ok-put.ensures.written);
      passed = put_include (files.trace c.args.files.now) (files.trace c.put.new.self) (unit_of c.args.unit.now)
          (whole_passed (files.trace c.args.files.now) (files.trace c.put.new.self) c.text.result.now (fixed_text tok.Include) (Ok tt)
          c.text.ensures c.in_ok-put.ensures.traced);
      current = c.in_ok-put.ensures.current;
      fault = c.in_ok-put.ensures.named;
      reads = c.in_ok-put.ensures.reads;
      kept = c.in_ok-put.ensures.cause.kept;
    }

pub print_item_to-requires-clause-formed : goal.print_item_to-requires-clause-formed
print_item_to-requires-clause-formed g c =
    let xs = c.args.unit.now in
    let same : c.as_slice-item-items.result.now ≡ xs = c.as_slice-item-items.ensures ∙ c.unit-items.ensures.unit in
    let i = c.loop-item.item-index in
    let item = c.item-item.result in
    let next = ap unit_of (at_front xs i item (subst (λ l. i < length l) same c.loop-item-test.true) (rw same at c.item-item.is)) in (
      unit_of c.args.unit.now,
      c.unit-items.ensures.formed,
      is_contained (g.F.Files.told c.args.files.now) (g.F.Files.told c.loop-item.files) (g.F.Files.current c.args.files.now)
          (unit_of c.args.unit.now) (unit_of (drop i xs)) (unit_of (drop (i + 1) xs)) (item_of item) c.loop-item.invariant.written next,
    )

pub returns-in_err-print_item_to-clause-part : goal.returns-in_err-print_item_to-clause-part
returns-in_err-print_item_to-clause-part g c =
    let files = g.F.Files in
    let xs = c.args.unit.now in
    let same : c.as_slice-item-items.result.now ≡ xs = c.as_slice-item-items.ensures ∙ c.unit-items.ensures.unit in
    let i = c.loop-item.item-index in
    let item = c.item-item.result in
    let next = ap unit_of (at_front xs i item (subst (λ l. i < length l) same c.loop-item-test.true) (rw same at c.item-item.is)) in
    let p = err_from_is_err_and c.from_residual-in_err-print_item_to.result c.from_residual-in_err-print_item_to.ensures.1 in
    rw p.1 (stops_in (files.told c.args.files.now) (files.told c.loop-item.files) (files.told c.print_item_to.new.files)
    (files.current c.args.files.now) (unit_of c.args.unit.now) (unit_of (drop i xs)) (unit_of (drop (i + 1) xs)) (item_of item)
    c.loop-item.invariant.written next (rw c.loop-item.invariant.current at c.in_err-print_item_to.ensures.part))

pub returns-in_err-print_item_to-clause-tried : goal.returns-in_err-print_item_to-clause-tried
returns-in_err-print_item_to-clause-tried g c =
    let files = g.F.Files in
    let xs = c.args.unit.now in
    let same : c.as_slice-item-items.result.now ≡ xs = c.as_slice-item-items.ensures ∙ c.unit-items.ensures.unit in
    let i = c.loop-item.item-index in
    let item = c.item-item.result in
    let next = ap unit_of (at_front xs i item (subst (λ l. i < length l) same c.loop-item-test.true) (rw same at c.item-item.is)) in
    let p = err_from_is_err_and c.from_residual-in_err-print_item_to.result c.from_residual-in_err-print_item_to.ensures.1 in
    rw (p.1, p.2) (fails_in (files.trace c.args.files.now) (files.trace c.loop-item.files) (files.trace c.print_item_to.new.files)
    (unit_of c.args.unit.now) (unit_of (drop i xs)) (unit_of (drop (i + 1) xs)) (item_of item) c.in_err-print_item_to.field-0.0
    c.loop-item.invariant.passed next c.in_err-print_item_to.ensures.tried)

pub returns-in_err-print_item_to-clause-cause : goal.returns-in_err-print_item_to-clause-cause
returns-in_err-print_item_to-clause-cause g c =
    let files = g.F.Files in
    let p = err_from_is_err_and c.from_residual-in_err-print_item_to.result c.from_residual-in_err-print_item_to.ensures.1 in
    let answer : Result (Unit {0}) WriteAnswer = Err c.in_err-print_item_to.field-0.0 in
    rw (p.1, p.2) (cause_behind (files.write_faults c.args.files.now) (files.write_faults c.loop-item.files)
    (files.write_faults c.print_item_to.new.files) answer c.loop-item.invariant.kept c.in_err-print_item_to.ensures.cause)

pub returns-in_err-print_item_to-clause-fault : goal.returns-in_err-print_item_to-clause-fault
returns-in_err-print_item_to-clause-fault g c =
    let files = g.F.Files in
    let p = err_from_is_err_and c.from_residual-in_err-print_item_to.result c.from_residual-in_err-print_item_to.ensures.1 in
    let answer : Result (Unit {0}) WriteAnswer = Err c.in_err-print_item_to.field-0.0 in
    rw (p.1, p.2) (named_behind answer (files.current c.loop-item.files) (files.current c.args.files.now)
    (files.fault_name c.loop-item.files) (files.fault_name c.args.files.now) (files.fault_name c.print_item_to.new.files)
    c.loop-item.invariant.current c.loop-item.invariant.fault c.in_err-print_item_to.ensures.named)

pub loop-item-preserved : goal.loop-item-preserved
loop-item-preserved g c =
    let files = g.F.Files in
    let xs = c.args.unit.now in
    let same : c.as_slice-item-items.result.now ≡ xs = c.as_slice-item-items.ensures ∙ c.unit-items.ensures.unit in
    let i = c.loop-item.item-index in
    let item = c.item-item.result in
    let next = ap unit_of (at_front xs i item (subst (λ l. i < length l) same c.loop-item-test.true) (rw same at c.item-item.is)) in
    record {
      written = one_more (files.told c.args.files.now) (files.told c.loop-item.files) (files.told c.print_item_to.new.files)
          (files.current c.args.files.now) (unit_of c.args.unit.now) (unit_of (drop i xs)) (unit_of (drop (i + 1) xs)) (item_of item)
          c.loop-item.invariant.written next (c.in_ok-print_item_to.ensures.written
          ∙ ap (λ (current : Option Name). appending (files.told c.loop-item.files) current (print_item_of (item_of item)))
          c.loop-item.invariant.current);
      passed = put_more (files.trace c.args.files.now) (files.trace c.loop-item.files) (files.trace c.print_item_to.new.files)
          (unit_of c.args.unit.now) (unit_of (drop i xs)) (unit_of (drop (i + 1) xs)) (item_of item)
          c.loop-item.invariant.passed next c.in_ok-print_item_to.ensures.passed;
      current = search rules;
      fault = search rules;
      reads = search rules;
      kept = search rules;
    }

pub returns-clause-written : goal.returns-clause-written
returns-clause-written g c =
    let xs = c.args.unit.now in
    let same : c.as_slice-item-items.result.now ≡ xs = c.as_slice-item-items.ensures ∙ c.unit-items.ensures.unit in
    all_written (g.F.Files.told c.args.files.now) (g.F.Files.told c.loop-item.files) (g.F.Files.current c.args.files.now)
    (unit_of c.args.unit.now) (unit_of (drop c.loop-item.item-index xs)) c.loop-item.invariant.written
    (ap unit_of (drop_all c.loop-item.item-index xs (subst (λ l. length l ≤ c.loop-item.item-index) same c.loop-item-test.false)))

pub returns-clause-cause : goal.returns-clause-cause
returns-clause-cause g c =
    done_cause _ (g.F.Files.write_faults c.args.files.now) (g.F.Files.write_faults c.loop-item.files) c.loop-item.invariant.kept

pub returns-clause-passed : goal.returns-clause-passed
returns-clause-passed g c =
    let xs = c.args.unit.now in
    let same : c.as_slice-item-items.result.now ≡ xs = c.as_slice-item-items.ensures ∙ c.unit-items.ensures.unit in
    put_all (g.F.Files.trace c.args.files.now) (g.F.Files.trace c.loop-item.files)
    (unit_of c.args.unit.now) (unit_of (drop c.loop-item.item-index xs)) c.loop-item.invariant.passed
    (ap unit_of (drop_all c.loop-item.item-index xs (subst (λ l. length l ≤ c.loop-item.item-index) same c.loop-item-test.false)))
