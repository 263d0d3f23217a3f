use Rattle.body_check.proofs.Common.{ℕ, List, reverse, sym, ap, ◌∙◌, subst, kind_tree, RustKind, Does, seen, shown}
use Rattle.wasm_tree.specs.declared.operators.Kind.TheVariants as kind
use Rattle.body_check.proofs.Needs.{plain_by_row}
use Rattle.body_check.proofs.plain.Surroundings.plain.Goals as goal

pub returns-in-Br-clause-step : goal.returns-in-Br-clause-step
returns-in-Br-clause-step c =
    subst (λ (k : RustKind). Does (seen c.args.self.now) c.args.labels.now (kind_tree k) c.br.result c.args.operands.now c.br.new.operands)
    (sym c.in-Br.is) (c.br.ensures.step (seen c.args.self.now))

pub returns-in-BrIf-clause-step : goal.returns-in-BrIf-clause-step
returns-in-BrIf-clause-step c =
    subst (λ (k : RustKind). Does (seen c.args.self.now) c.args.labels.now
    (kind_tree k) c.br_if.result c.args.operands.now c.br_if.new.operands)
    (sym c.in-BrIf.is) (c.br_if.ensures.step (seen c.args.self.now))

pub returns-in-BrTable-clause-step : goal.returns-in-BrTable-clause-step
returns-in-BrTable-clause-step c =
    subst (λ (k : RustKind). Does (seen c.args.self.now) c.args.labels.now
    (kind_tree k) c.br_table.result c.args.operands.now c.br_table.new.operands)
    (ap (λ (others : List ℕ). kind.BrTable others c.in-BrTable.label) c.as_slice.ensures ∙ sym c.in-BrTable.is)
    (c.br_table.ensures.step (seen c.args.self.now))

pub returns-in-Call-clause-step : goal.returns-in-Call-clause-step
returns-in-Call-clause-step c =
    subst (λ (k : RustKind). Does (seen c.args.self.now) c.args.labels.now
    (kind_tree k) c.call.result c.args.operands.now c.call.new.operands)
    (sym c.in-Call.is) (c.call.ensures.step c.args.labels.now)

pub returns-in-CallIndirect-clause-step : goal.returns-in-CallIndirect-clause-step
returns-in-CallIndirect-clause-step c =
    subst (λ (k : RustKind). Does (seen c.args.self.now) c.args.labels.now
    (kind_tree k) c.call_indirect.result c.args.operands.now c.call_indirect.new.operands)
    (sym c.in-CallIndirect.is) (c.call_indirect.ensures.step c.args.labels.now)

pub returns-in-LocalGet-clause-step : goal.returns-in-LocalGet-clause-step
returns-in-LocalGet-clause-step c =
    subst (λ (k : RustKind). Does (seen c.args.self.now) c.args.labels.now
    (kind_tree k) c.local_get.result c.args.operands.now c.local_get.new.operands)
    (sym c.in-LocalGet.is) (c.local_get.ensures.step c.args.labels.now)

pub returns-in-LocalSet-clause-step : goal.returns-in-LocalSet-clause-step
returns-in-LocalSet-clause-step c =
    subst (λ (k : RustKind). Does (seen c.args.self.now) c.args.labels.now
    (kind_tree k) c.local_set.result c.args.operands.now c.local_set.new.operands)
    (sym c.in-LocalSet.is) (c.local_set.ensures.step c.args.labels.now)

pub returns-in-LocalTee-clause-step : goal.returns-in-LocalTee-clause-step
returns-in-LocalTee-clause-step c =
    subst (λ (k : RustKind). Does (seen c.args.self.now) c.args.labels.now
    (kind_tree k) c.local_tee.result c.args.operands.now c.local_tee.new.operands)
    (sym c.in-LocalTee.is) (c.local_tee.ensures.step c.args.labels.now)

pub returns-in-GlobalGet-clause-step : goal.returns-in-GlobalGet-clause-step
returns-in-GlobalGet-clause-step c =
    subst (λ (k : RustKind). Does (seen c.args.self.now) c.args.labels.now
    (kind_tree k) c.global_get.result c.args.operands.now c.global_get.new.operands)
    (sym c.in-GlobalGet.is) (c.global_get.ensures.step c.args.labels.now)

pub returns-in-GlobalSet-clause-step : goal.returns-in-GlobalSet-clause-step
returns-in-GlobalSet-clause-step c =
    subst (λ (k : RustKind). Does (seen c.args.self.now) c.args.labels.now
    (kind_tree k) c.global_set.result c.args.operands.now c.global_set.new.operands)
    (sym c.in-GlobalSet.is) (c.global_set.ensures.step c.args.labels.now)

pub returns-in_default : goal.returns-in_default
returns-in_default c =
    let d = c.in_default in
    record {
      step = plain_by_row (seen c.args.self.now) (reverse c.args.labels.now) c.args.kind.now c.fixed.result (shown c.args.operands.now)
          (shown c.fixed.new.operands)
          d.not-Unreachable d.not-Br d.not-BrIf d.not-BrTable d.not-Return d.not-Call d.not-CallIndirect d.not-Drop d.not-Select
          d.not-LocalGet d.not-LocalSet d.not-LocalTee d.not-GlobalGet d.not-GlobalSet c.fixed.ensures.step;
      kept = c.fixed.ensures.kept;
    }
