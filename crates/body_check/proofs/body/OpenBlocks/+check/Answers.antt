use Rattle.wasm_tree.proofs.CodeSizes.{instr_smaller}
use Rattle.body_check.proofs.Common.{◌≡◌, ℕ, ◌+◌, ◌≤◌, List, reverse, OnOk, Ok, Err, Option, Result, sym, refl, ap, ◌∙◌, subst, rules}
use Rattle.body_check.proofs.Common.{ValType, Code, If, code_size, kind_size, otherwise_size, code_tree, kind_tree, otherwise_tree}
use Rattle.body_check.proofs.Common.{ElsePart, RustKind, cause_of, nothing, run, run_kind, step, Labels, Does, Plain, RanTo, Stays}
use Rattle.body_check.proofs.Common.{labels_of, run_block, run_nested, seen, shown, ValidRefusal}
use Rattle.std.proofs.lemmas.Result.{err_from_is_err_and}
use Rattle.body_check.specs.declared.body.Block.{Block}
use Rattle.body_check.proofs.CodeSizes.{code_below_block, block_below_nested, first_below_branches, second_below_branches}
use Rattle.body_check.proofs.CodeSizes.{inside_below_instr, branches_below_instr, instr_below_code}
use Rattle.body_check.proofs.RunLists.{later_none, run_more, list_refused, run_all}
use Rattle.body_check.proofs.RunBlocks.{plain_ran, placed_kept, no_else_refused, else_ran}
use Rattle.body_check.proofs.body.OpenBlocks.+check.Goals as goal

pub branches-returns-in-Some-outcome-clause-step : goal.branches-returns-in-Some-outcome-clause-step
branches-returns-in-Some-outcome-clause-step t c =
    no_else_refused (seen c.args.around.now) (labels_of c.args.self.now) c.args.place c.args.outcome c.args.code.now c.args.end_place
    c.pop_type.result tt (shown c.args.self.now.operands) (shown c.pop_type.new.self) c.in_ok-at_place.ensures c.pop_type.ensures.step
    c.args.otherwise.now c.in-Some-outcome.field-0 c.in-None.is c.in-Some-outcome.is
    (subst (λ (b : Block). run_block (seen c.args.around.now) (labels_of c.args.self.now) b.label b.result b.end_place c.args.code.now
    ≡ Ok nothing)
    c.new.ensures c.in_ok-block-in-None.ensures.step)

pub branches-returns-in_ok-block-in-Some-clause-step : goal.branches-returns-in_ok-block-in-Some-clause-step
branches-returns-in_ok-block-in-Some-clause-step t c =
    let around = seen c.args.around.now in
    let labels = labels_of c.args.self.now in
    let kept = c.in_ok-block-in-Some.ensures.kept in
    subst (λ (o : Option ElsePart). RanTo c.nested.result
    (run_kind around labels c.args.place (If c.args.outcome c.args.code.now (otherwise_tree o) c.args.end_place)
    (shown c.args.self.now.operands)) (shown c.nested.new.self.operands))
    (sym c.in-Some.is)
    (else_ran around labels c.args.place c.args.outcome c.args.code.now c.args.end_place
    c.pop_type.result tt (shown c.args.self.now.operands) (shown c.pop_type.new.self) c.in_ok-at_place.ensures c.pop_type.ensures.step
    c.in-Some.other (shown c.block-in-Some.new.self.operands) (shown c.nested.new.self.operands) c.nested.result
    (subst (λ (b : Block). run_block around labels b.label b.result b.end_place c.args.code.now ≡ Ok nothing)
    c.new-in-Some.ensures c.in_ok-block-in-Some.ensures.step)
    (cc)
    (subst (λ (b : Block). RanTo c.nested.result
    (run_nested around labels b.label b.result b.end_place c.in-Some.other.code (shown c.block-in-Some.new.self.operands))
    (shown c.nested.new.self.operands))
    c.new-in-Some-2.ensures
    (subst (λ (ls : Labels). RanTo c.nested.result
    (run_nested around ls c.new-in-Some-2.result.label c.new-in-Some-2.result.result c.new-in-Some-2.result.end_place c.in-Some.other.code
    (shown c.block-in-Some.new.self.operands))
    (shown c.nested.new.self.operands))
    (ap reverse kept.labels) c.nested.ensures.step)))

pub code-loop-instr-init : goal.code-loop-instr-init
code-loop-instr-init t c = record {
  ran = (
    0,
    later_none (run (seen c.args.around.now) (labels_of c.args.self.now) (code_tree c.as_slice-instr-items.result.now)
        (shown c.args.self.now.operands)),
  );
  stays = search rules;
}

pub code-instr-requires : goal.code-instr-requires
code-instr-requires t c =
    let smaller : kind_size (kind_tree c.instr-item.result.kind) + 1 ≤ code_size (code_tree c.as_slice-instr-items.result.now) =
    instr_smaller c.as_slice-instr-items.result.now c.loop-instr.instr-index c.instr-item.result c.loop-instr-test.true c.instr-item.is in
    let same : code_size (code_tree c.as_slice-instr-items.result.now) ≡ code_size c.args.code.now =
    ap code_size c.as_slice-instr-items.ensures in (
      instr_below_code (kind_size (kind_tree c.instr-item.result.kind)) (code_size (code_tree c.as_slice-instr-items.result.now))
          (code_size c.args.code.now) t smaller same c.decreases,
      tt,
    )

pub code-returns-in_err-instr-clause-step : goal.code-returns-in_err-instr-clause-step
code-returns-in_err-instr-clause-step t c =
    let i = c.loop-instr.invariant in
    let p = err_from_is_err_and c.from_residual.result c.from_residual.ensures.1 in
    rw (p.1, p.2)
    (subst (λ (code : Code). RanTo {A = Unit} (Err c.in_err-instr.field-0.0)
    (run (seen c.args.around.now) (labels_of c.args.self.now) code (shown c.args.self.now.operands)) (shown c.instr.new.self.operands))
    c.as_slice-instr-items.ensures
    (list_refused (seen c.args.around.now) (labels_of c.args.self.now) (labels_of c.loop-instr.self) c.as_slice-instr-items.result.now
    c.loop-instr.instr-index c.instr-item.result (shown c.loop-instr.self.operands) (shown c.instr.new.self.operands)
    (shown c.instr.new.self.operands) _ i.ran.0 c.in_err-instr.field-0.0
    c.loop-instr-test.true c.instr-item.is i.ran.1 (ap reverse i.stays.labels) c.in_err-instr.ensures.step))

pub code-loop-instr-preserved : goal.code-loop-instr-preserved
code-loop-instr-preserved t c =
    let i = c.loop-instr.invariant in
    record {
      ran = run_more (seen c.args.around.now) (labels_of c.args.self.now) (labels_of c.loop-instr.self) c.as_slice-instr-items.result.now
          c.loop-instr.instr-index c.instr-item.result (shown c.loop-instr.self.operands) (shown c.instr.new.self.operands) _ i.ran.0
          c.loop-instr-test.true c.instr-item.is i.ran.1 (ap reverse i.stays.labels) c.in_ok-instr.ensures.step;
      stays = search rules;
    }

pub code-returns-clause-step : goal.code-returns-clause-step
code-returns-clause-step t c =
    let i = c.loop-instr.invariant in
    ap (λ (code : Code). run (seen c.args.around.now) (labels_of c.args.self.now) code (shown c.args.self.now.operands))
    (sym c.as_slice-instr-items.ensures)
    ∙ run_all (seen c.args.around.now) (labels_of c.args.self.now) c.as_slice-instr-items.result.now c.loop-instr.instr-index
    (shown c.loop-instr.self.operands) _ i.ran.0 c.loop-instr-test.false i.ran.1

pub instr-returns-in_default : goal.instr-returns-in_default
instr-returns-in_default t c =
    let d = c.in_default in
    let step : Plain c.plain.result (step (seen c.args.around.now) (labels_of c.args.self.now) (kind_tree c.args.instr.now.kind)
    (shown c.args.self.now.operands))
    (cause_of (seen c.args.around.now) (labels_of c.args.self.now) (kind_tree c.args.instr.now.kind)) (shown c.plain.new.operands) =
    subst (λ (labels : List (Option ValType)). Does (seen c.args.around.now) labels
    (kind_tree c.args.instr.now.kind) c.plain.result c.args.self.now.operands c.plain.new.operands)
    c.as_slice.ensures.value c.plain.ensures.step in
    record {
      step = subst (λ (r : Result Unit ValidRefusal). RanTo r
          (run_kind (seen c.args.around.now) (labels_of c.args.self.now) c.args.instr.now.place (kind_tree c.args.instr.now.kind)
          (shown c.args.self.now.operands)) (shown c.plain.new.operands))
          (sym c.at_place.ensures)
          (plain_ran (seen c.args.around.now) (labels_of c.args.self.now) c.args.instr.now.place c.args.instr.now.kind c.plain.result
          (shown c.args.self.now.operands) (shown c.plain.new.operands) d.not-Block d.not-Loop d.not-If step);
      kept = subst (λ (r : Result Unit ValidRefusal). OnOk r
          (Stays c.args.self.now record { operands = c.plain.new.operands; labels = c.args.self.now.labels }))
          (sym c.at_place.ensures)
          (placed_kept c.plain.result c.args.instr.now.place _ _ c.plain.ensures.kept (λ h. record { labels = refl; operands = h }));
    }

pub block-code-requires : goal.block-code-requires
block-code-requires t c = (code_below_block (code_size c.args.code.now) t c.decreases, tt)

pub nested-block-requires : goal.nested-block-requires
nested-block-requires t c = (block_below_nested (code_size c.args.code.now) t c.decreases, tt)

pub branches-block-requires : goal.branches-block-requires
branches-block-requires t c =
    (first_below_branches (code_size c.args.code.now) (otherwise_size (otherwise_tree c.args.otherwise.now)) t c.decreases, tt)

pub branches-block-requires-in-Some : goal.branches-block-requires-in-Some
branches-block-requires-in-Some t c =
    (first_below_branches (code_size c.args.code.now) (otherwise_size (otherwise_tree c.args.otherwise.now)) t c.decreases, tt)

pub branches-nested-requires : goal.branches-nested-requires
branches-nested-requires t c =
    let size : Option ElsePart → ℕ = λ o. otherwise_size (otherwise_tree o) in (
      second_below_branches (code_size c.args.code.now) (size c.args.otherwise.now) (code_size c.in-Some.other.code) t
          (ap size c.in-Some.is) c.decreases,
      tt,
    )

pub instr-nested-requires : goal.instr-nested-requires
instr-nested-requires t c =
    let size : RustKind → ℕ = λ k. kind_size (kind_tree k) in
    (inside_below_instr (size c.args.instr.now.kind) (code_size c.in-Block.code) t (ap size c.in-Block.is) c.decreases, tt)

pub instr-nested-requires-in-Loop : goal.instr-nested-requires-in-Loop
instr-nested-requires-in-Loop t c =
    let size : RustKind → ℕ = λ k. kind_size (kind_tree k) in
    (inside_below_instr (size c.args.instr.now.kind) (code_size c.in-Loop.code) t (ap size c.in-Loop.is) c.decreases, tt)

pub instr-branches-requires : goal.instr-branches-requires
instr-branches-requires t c =
    let size : RustKind → ℕ = λ k. kind_size (kind_tree k) in (
      branches_below_instr (size c.args.instr.now.kind) (code_size c.in-If.code + otherwise_size (otherwise_tree c.in-If.otherwise)) t
          (ap size c.in-If.is) c.decreases,
      tt,
    )
