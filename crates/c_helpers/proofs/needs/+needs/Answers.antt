use Rattle.c_helpers.proofs.Common.{◌≡◌, ◌+◌, ◌≤◌, sym, ap, ◌∙◌, subst, arith, code_size, kind_size, otherwise_size}
use Rattle.c_helpers.proofs.Common.{code_tree, kind_tree, otherwise_tree, instr_smaller, HasMore, any_inside, calls_helper}
use Rattle.wasm_tree.specs.declared.operators.Kind.{Kind}
use Rattle.c_helpers.proofs.CalledHelpers.{code_next, code_stops, code_through, more_behind}
use Rattle.c_helpers.proofs.needs.+needs.Goals as goal

pub enter_code-enter_inside-requires : goal.enter_code-enter_inside-requires
enter_code-enter_inside-requires t c =
    let smaller : kind_size (kind_tree c.instr-item.result.kind) + 1 ≤ code_size (code_tree c.as_slice-instr-items.result.now) =
    instr_smaller c.as_slice-instr-items.result.now c.loop-instr.instr-index c.instr-item.result c.loop-instr-test.true c.instr-item.is in
    let same : code_size (code_tree c.as_slice-instr-items.result.now) ≡ code_size c.args.code.now = ap code_size
    c.as_slice-instr-items.ensures in
    omega (arith, smaller, same, c.decreases)

pub enter_inside-returns-in-If : goal.enter_inside-returns-in-If
enter_inside-returns-in-If t c =
    subst (λ (k : Kind). HasMore c.enter_branches.new.marks c.args.marks.now (λ q. any_inside (calls_helper q) (kind_tree k)))
    (sym c.in-If.is) c.enter_branches.ensures

pub enter_branches-returns : goal.enter_branches-returns
enter_branches-returns t c =
    more_behind c.enter_else.new.marks c.enter_code.new.marks c.args.marks.now _ _ c.enter_code.ensures c.enter_else.ensures

pub enter_code-loop-instr-preserved : goal.enter_code-loop-instr-preserved
enter_code-loop-instr-preserved t c =
    code_next c.loop-instr.marks c.enter.new.marks c.enter_inside.new.marks c.args.marks.now c.as_slice-instr-items.result.now
    c.loop-instr.instr-index
    c.instr-item.result c.args.code.now c.loop-instr-test.true c.instr-item.is c.helper_for.result c.helper_for.ensures
    c.enter.ensures c.enter_inside.ensures
    c.loop-instr.invariant (sym c.ends.ensures ∙ c.if-ends.false)

pub enter_code-returns-then-ends : goal.enter_code-returns-then-ends
enter_code-returns-then-ends t c =
    code_stops c.loop-instr.marks c.enter.new.marks c.enter_inside.new.marks c.args.marks.now c.as_slice-instr-items.result.now
    c.loop-instr.instr-index
    c.instr-item.result c.args.code.now c.loop-instr-test.true c.instr-item.is c.helper_for.result c.helper_for.ensures
    c.enter.ensures c.enter_inside.ensures
    c.loop-instr.invariant (sym c.ends.ensures ∙ c.if-ends.true)

pub enter_code-returns : goal.enter_code-returns
enter_code-returns t c =
    code_through c.loop-instr.marks c.args.marks.now c.as_slice-instr-items.result.now c.loop-instr.instr-index c.args.code.now
    c.loop-instr-test.false c.loop-instr.invariant

pub enter_else-enter_code-requires : goal.enter_else-enter_code-requires
enter_else-enter_code-requires t c =
    let size : otherwise_size (otherwise_tree c.args.otherwise.now) ≡ code_size c.in-Some.other.code =
    ap otherwise_size (ap otherwise_tree c.in-Some.is) in
    omega (arith, size, c.decreases)

pub enter_inside-enter_code-requires : goal.enter_inside-enter_code-requires
enter_inside-enter_code-requires t c =
    let size : kind_size (kind_tree c.args.kind.now) ≡ code_size c.in-Block.code + 1 =
    ap (λ (k : Kind). kind_size (kind_tree k)) c.in-Block.is in
    omega (arith, size, c.decreases)

pub enter_inside-enter_code-requires-in-Loop : goal.enter_inside-enter_code-requires-in-Loop
enter_inside-enter_code-requires-in-Loop t c =
    let size : kind_size (kind_tree c.args.kind.now) ≡ code_size c.in-Loop.code + 1 =
    ap (λ (k : Kind). kind_size (kind_tree k)) c.in-Loop.is in
    omega (arith, size, c.decreases)

pub enter_inside-enter_branches-requires : goal.enter_inside-enter_branches-requires
enter_inside-enter_branches-requires t c =
    let size : kind_size (kind_tree c.args.kind.now) ≡ code_size c.in-If.code + otherwise_size (otherwise_tree c.in-If.otherwise) + 1 =
    ap (λ (k : Kind). kind_size (kind_tree k)) c.in-If.is in
    omega (arith, size, c.decreases)

pub enter_branches-enter_code-requires : goal.enter_branches-enter_code-requires
enter_branches-enter_code-requires t c = omega (arith, c.decreases)

pub enter_branches-enter_else-requires : goal.enter_branches-enter_else-requires
enter_branches-enter_else-requires t c = omega (arith, c.decreases)
