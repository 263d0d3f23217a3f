use Rattle.w2c_files.proofs.Common.{◌≡◌, ℕ, List, [], ◌++◌, sym, refl, ap, ◌∙◌, append_assoc, append-nil, take-append-drop, rules}
use Rattle.w2c_files.proofs.Common.{begun_in_vain}
use Rattle.std.proofs.lemmas.Result.{err_from_is_err_and}
use Rattle.w2c_files.proofs.FilePassed.{began, began_more, all_written, not_finished, given_up, nothing_left}
use Rattle.w2c_files.proofs.Standing.{part_begun, put_more}
use Rattle.w2c_files.proofs.writing.write_file.Goals as goal

pub returns-in-Err-clause-begun : goal.returns-in-Err-clause-begun
returns-in-Err-clause-begun g c =
    let files = g.F.Files in
    let part = c.in-Err.ensures.part in
    let held = c.loop-rest.invariant.held in
    let split : c.loop-rest.rest.now ≡ c.split_at.result.0.now ++ c.split_at.result.1.now =
    sym (take-append-drop c.min.result c.loop-rest.rest.now) ∙ (λ i. sym c.split_at.ensures.front i ++ sym c.split_at.ensures.back i) in
    let whole : c.args.text.now ≡ (held.0 ++ part.0) ++ (part.1.0 ++ c.split_at.result.1.now) =
    held.1 ∙ ap (λ (l : List ℕ). held.0 ++ l) (split ∙ ap (λ (l : List ℕ). l ++ c.split_at.result.1.now) part.1.1
    ∙ append_assoc part.0 part.1.0 c.split_at.result.1.now)
    ∙ sym (append_assoc held.0 part.0 (part.1.0 ++ c.split_at.result.1.now)) in
    part_begun (files.told c.args.files.now) (files.told c.give_up.new.files) c.args.name.now c.args.text.now (held.0 ++ part.0)
    (part.1.0 ++ c.split_at.result.1.now) whole
    (c.give_up.ensures.told ∙ put_more (files.told c.args.files.now) (files.told c.loop-rest.files) (files.told c.put.new.self)
    (files.current c.loop-rest.files) c.args.name.now held.0 part.0 held.2 c.loop-rest.invariant.current part.2)

pub loop-rest-preserved : goal.loop-rest-preserved
loop-rest-preserved g c =
    let files = g.F.Files in
    let name = c.args.name.now in
    let held = c.loop-rest.invariant.held in
    let passed = c.loop-rest.invariant.passed in
    let split : c.loop-rest.rest.now ≡ c.split_at.result.0.now ++ c.split_at.result.1.now =
    sym (take-append-drop c.min.result c.loop-rest.rest.now) ∙ (λ i. sym c.split_at.ensures.front i ++ sym c.split_at.ensures.back i) in
    record {
      held = (
        held.0 ++ c.split_at.result.0.now,
        held.1 ∙ ap (λ (l : List ℕ). held.0 ++ l) split ∙ sym (append_assoc held.0 c.split_at.result.0.now c.split_at.result.1.now),
        put_more (files.told c.args.files.now) (files.told c.loop-rest.files) (files.told c.put.new.self)
            (files.current c.loop-rest.files) name held.0 c.split_at.result.0.now held.2 c.loop-rest.invariant.current
            c.in_default.ensures.written,
      );
      passed = (
        passed.0 ++ c.split_at.result.0.now,
        passed.1 ∙ ap (λ (l : List ℕ). passed.0 ++ l) split ∙ sym (append_assoc passed.0 c.split_at.result.0.now c.split_at.result.1.now),
        began_more (files.trace c.args.files.now) (files.trace c.loop-rest.files) (files.trace c.put.new.self) name passed.0
            c.split_at.result.0.now passed.2 c.in_default.ensures.traced,
      );
      current = search rules;
      reads = search rules;
      kept = search rules;
    }

pub returns-in_err-begin-clause-tried : goal.returns-in_err-begin-clause-tried
returns-in_err-begin-clause-tried g c =
    let files = g.F.Files in
    let p = err_from_is_err_and c.from_residual.result c.from_residual.ensures.1 in
    rw (p.1, p.2) (begun_in_vain (files.trace c.args.files.now) (files.trace c.begin.new.self) c.args.name.now c.args.text.now
    c.in_err-begin.field-0.0 c.in_err-begin.ensures.traced)

pub loop-rest-init : goal.loop-rest-init
loop-rest-init g c =
    let files = g.F.Files in
    record {
      held = ([], refl, c.in_ok-begin.ensures.begun);
      passed = ([], refl, began (files.trace c.args.files.now) (files.trace c.begin.new.self) c.args.name.now c.in_ok-begin.ensures.traced);
      current = search rules;
      reads = search rules;
      kept = search rules;
    }

pub returns-in-Err-clause-tried : goal.returns-in-Err-clause-tried
returns-in-Err-clause-tried g c =
    let files = g.F.Files in
    let passed = c.loop-rest.invariant.passed in
    let split : c.loop-rest.rest.now ≡ c.split_at.result.0.now ++ c.split_at.result.1.now =
    sym (take-append-drop c.min.result c.loop-rest.rest.now) ∙ (λ i. sym c.split_at.ensures.front i ++ sym c.split_at.ensures.back i) in
    given_up (files.trace c.args.files.now) (files.trace c.loop-rest.files) (files.trace c.put.new.self) (files.trace c.give_up.new.files)
    c.args.name.now c.args.text.now passed.0 c.split_at.result.0.now c.split_at.result.1.now c.in-Err.answer
    (passed.1 ∙ ap (λ (l : List ℕ). passed.0 ++ l) split) passed.2 c.in-Err.ensures.traced c.give_up.ensures.passed

pub returns-in_err-finish-clause-tried : goal.returns-in_err-finish-clause-tried
returns-in_err-finish-clause-tried g c =
    let files = g.F.Files in
    let p = err_from_is_err_and c.from_residual-in_err-finish.result c.from_residual-in_err-finish.ensures.1 in
    let (part, split, passed) = c.loop-rest.invariant.passed in
    let none : c.loop-rest.rest.now ≡ [] = nothing_left c.loop-rest.rest.now (sym c.is_empty.ensures ∙ c.loop-rest-test.false) in
    let whole : part ≡ c.args.text.now = sym (split ∙ ap (λ (l : List ℕ). part ++ l) none ∙ append-nil part) in
    rw (p.1, p.2) (not_finished (files.trace c.args.files.now) (files.trace c.loop-rest.files) (files.trace c.finish.new.self)
    c.args.name.now c.args.text.now c.in_err-finish.field-0.0 (rw whole at passed)
    c.in_err-finish.ensures.traced)

pub returns-clause-passed : goal.returns-clause-passed
returns-clause-passed g c =
    let (part, split, passed) = c.loop-rest.invariant.passed in
    let none : c.loop-rest.rest.now ≡ [] = nothing_left c.loop-rest.rest.now (sym c.is_empty.ensures ∙ c.loop-rest-test.false) in
    let whole : part ≡ c.args.text.now = sym (split ∙ ap (λ (l : List ℕ). part ++ l) none ∙ append-nil part) in
    all_written (g.F.Files.trace c.args.files.now) (g.F.Files.trace c.loop-rest.files) (g.F.Files.trace c.finish.new.self)
    c.args.name.now c.args.text.now (rw whole at passed)
    c.in_ok-finish.ensures.traced
