use Rattle.c_body.proofs.Common.{◌≡◌, ℕ, ◌+◌, ◌≤◌, refl, ap, ◌∙◌, subst, arith, no_else, code_size, kind_size, otherwise_size, code_tree}
use Rattle.c_body.proofs.Common.{kind_tree, otherwise_tree, instr_smaller, setting_of, Inside, Made, ran, made_by, KindIsReady}
use Rattle.wasm_tree.specs.declared.operators.Kind.{Kind}
use Rattle.body_emitter.proofs.Stacks.{keeps_then}
use Rattle.body_emitter.proofs.Insides.{inside_kept, floor_below}
use Rattle.c_body.proofs.Branched.{on_ok, branched, in_a_block, in_a_loop, one_branch, ran_more}
use Rattle.c_body.proofs.Readiness.{first_of_rest, kind_ready, code_next, opened_ready, second_code_ready, plain_ready, block_ready}
use Rattle.c_body.proofs.Readiness.{loop_ready, if_ready, if_operand}
use Rattle.c_body.proofs.around.Around.+emit.Goals as goal

pub code-instr-requires : goal.code-instr-requires
code-instr-requires t c =
    let items = c.as_slice-instr-items.result.now in
    let smaller : kind_size (kind_tree c.instr-item.result.kind) + 1 ≤ code_size (code_tree items) =
    instr_smaller items c.loop-instr.instr-index c.instr-item.result c.loop-instr-test.true c.instr-item.is in
    let same : code_size (code_tree items) ≡ code_size c.args.code.now = ap code_size c.as_slice-instr-items.ensures in (
      omega (arith, smaller, same, c.decreases),
      kind_ready (setting_of c.args.self.now).context c.loop-instr.emitter c.instr-item.result.place (kind_tree c.instr-item.result.kind) _
          (first_of_rest (setting_of c.args.self.now).context c.loop-instr.emitter items c.loop-instr.instr-index c.instr-item.result
          c.loop-instr-test.true
          c.instr-item.is c.loop-instr.invariant.ready),
    )

-- behind both branches the operands around are whole
inside_second : (t : ℕ) (c : goal.branches-After-end_second-arg-1 t)
    → Inside c.args.emitter.now.operands c.code-in-Some.new.emitter.operands
inside_second t c =
    let e = c.args.emitter.now.operands in
    inside_kept e c.open_second.new.self.operands c.code-in-Some.new.emitter.operands
    (c.in_ok-falls-in-Some.ensures.inside e
    (inside_kept e c.open_first.new.self.operands c.code.new.emitter.operands c.in_ok-open_first.ensures.inside c.in_ok-code.ensures.kept))
    c.in_ok-code-in-Some.ensures.kept

pub branches-end_second-requires : goal.branches-end_second-requires
branches-end_second-requires t c =
    floor_below c.args.emitter.now.operands c.code-in-Some.new.emitter.operands c.opening-at.result.floor
    (inside_second t c) c.opening-at.ensures.floor

pub branches-returns-in_ok-code-in-Some-clause-made : goal.branches-returns-in_ok-code-in-Some-clause-made
branches-returns-in_ok-code-in-Some-clause-made t c =
    let e = c.args.emitter.now in
    let at_second =
    inside_kept e.operands c.open_first.new.self.operands c.code.new.emitter.operands c.in_ok-open_first.ensures.inside
    c.in_ok-code.ensures.kept in
    let behind = inside_kept e.operands c.open_second.new.self.operands c.code-in-Some.new.emitter.operands
    (c.in_ok-falls-in-Some.ensures.inside e.operands at_second) c.in_ok-code-in-Some.ensures.kept in
    on_ok c.end_second.result _ _ (c.end_second.ensures.made e c.opening-at.ensures behind)
    (branched (setting_of c.args.self.now) c.args.value (made_by e)
    (made_by c.open_first.new.self) (made_by c.code.new.emitter) (made_by c.open_second.new.self) (made_by c.code-in-Some.new.emitter)
    (made_by c.end_second.new.self)
    c.args.code.now c.args.otherwise.now c.in-Some.other c.in_ok-falls-in-Some.falls
    c.in-Some.is c.in_ok-open_first.ensures.made c.in_ok-code.ensures.made
    (c.in_ok-falls-in-Some.ensures.made e c.opening-at.ensures at_second)
    c.in_ok-code-in-Some.ensures.made c.in_ok-falls-in-Some.ensures.falls)

pub branches-returns-in_ok-code-in-Some-clause-kept : goal.branches-returns-in_ok-code-in-Some-clause-kept
branches-returns-in_ok-code-in-Some-clause-kept t c =
    let e = c.args.emitter.now in
    let at_second =
    inside_kept e.operands c.open_first.new.self.operands c.code.new.emitter.operands c.in_ok-open_first.ensures.inside
    c.in_ok-code.ensures.kept in
    let behind = inside_kept e.operands c.open_second.new.self.operands c.code-in-Some.new.emitter.operands
    (c.in_ok-falls-in-Some.ensures.inside e.operands at_second) c.in_ok-code-in-Some.ensures.kept in
    c.end_second.ensures.kept e.operands behind c.opening-at.ensures.floor

pub code-loop-instr-preserved : goal.code-loop-instr-preserved
code-loop-instr-preserved t c = record {
  ready = code_next (setting_of c.args.self.now) c.loop-instr.emitter c.instr.new.emitter c.instr-item.result.place
      (kind_tree c.instr-item.result.kind) _
      (first_of_rest (setting_of c.args.self.now).context c.loop-instr.emitter c.as_slice-instr-items.result.now c.loop-instr.instr-index
      c.instr-item.result c.loop-instr-test.true c.instr-item.is c.loop-instr.invariant.ready)
      c.in_ok-instr.ensures.made c.in_ok-instr.ensures.kept;
  made = ran_more (setting_of c.args.self.now) (made_by c.loop-instr.emitter) (made_by c.instr.new.emitter) _
      c.as_slice-instr-items.result.now
      c.loop-instr.instr-index c.instr-item.result c.loop-instr-test.true c.instr-item.is c.loop-instr.invariant.made
      c.in_ok-instr.ensures.made;
  kept = keeps_then c.args.emitter.now.operands c.loop-instr.emitter.operands c.instr.new.emitter.operands c.loop-instr.invariant.kept
      c.in_ok-instr.ensures.kept;
}

pub branches-code-requires-in-Some : goal.branches-code-requires-in-Some
branches-code-requires-in-Some t c =
    let e = c.args.emitter.now in
    let is = ap otherwise_tree c.in-Some.is in
    let size : otherwise_size (otherwise_tree c.args.otherwise.now) ≡ code_size c.in-Some.other.code = ap otherwise_size is in
    let at_second =
    inside_kept e.operands c.open_first.new.self.operands c.code.new.emitter.operands c.in_ok-open_first.ensures.inside
    c.in_ok-code.ensures.kept in (
      omega (arith, size, c.decreases),
      second_code_ready (setting_of c.args.self.now) e c.code.new.emitter c.open_second.new.self c.args.value c.args.code.now
          (otherwise_tree c.args.otherwise.now) c.in-Some.other.place c.in-Some.other.code is c.requires
          (c.in_ok-code.ensures.made ∙ ap (λ (m : Made). ran (setting_of c.args.self.now) m c.args.code.now)
          c.in_ok-open_first.ensures.made)
          (c.in_ok-falls-in-Some.ensures.made e c.opening-at.ensures at_second)
          (c.in_ok-falls-in-Some.ensures.inside e.operands at_second),
    )

pub instr-branches-requires : goal.instr-branches-requires
instr-branches-requires t c =
    let size : kind_size (kind_tree c.args.kind.now) ≡ code_size c.in-If.code + otherwise_size (otherwise_tree c.in-If.otherwise) + 1 =
    ap (λ (k : Kind). kind_size (kind_tree k)) c.in-If.is in
    let context = (setting_of c.args.self.now).context in (
      omega (arith, size, c.decreases),
      if_ready context c.args.emitter.now c.pop.new.self c.in-If.result c.in-If.code
          (otherwise_tree c.in-If.otherwise) c.in-If.end_place c.if-emitter.false
          (subst (λ (k : Kind). KindIsReady context c.args.emitter.now (kind_tree k)) c.in-If.is c.requires)
          c.pop.ensures.made,
    )

pub instr-plain-requires : goal.instr-plain-requires
instr-plain-requires t c =
    plain_ready (setting_of c.args.self.now).context c.args.emitter.now (kind_tree c.args.kind.now) c.if-emitter.false c.requires

pub instr-pop-requires : goal.instr-pop-requires
instr-pop-requires t c =
    let context = (setting_of c.args.self.now).context in
    if_operand context c.args.emitter.now c.in-If.result c.in-If.code (otherwise_tree c.in-If.otherwise) c.in-If.end_place
    c.if-emitter.false
    (subst (λ (k : Kind). KindIsReady context c.args.emitter.now (kind_tree k)) c.in-If.is c.requires)

pub instr-block-requires : goal.instr-block-requires
instr-block-requires t c =
    let size : kind_size (kind_tree c.args.kind.now) ≡ code_size c.in-Block.code + 1 =
    ap (λ (k : Kind). kind_size (kind_tree k)) c.in-Block.is in
    let context = (setting_of c.args.self.now).context in (
      omega (arith, size, c.decreases),
      block_ready context c.args.emitter.now c.in-Block.result c.in-Block.code c.in-Block.end_place c.if-emitter.false
          (subst (λ (k : Kind). KindIsReady context c.args.emitter.now (kind_tree k)) c.in-Block.is c.requires),
    )

pub instr-looped-requires : goal.instr-looped-requires
instr-looped-requires t c =
    let size : kind_size (kind_tree c.args.kind.now) ≡ code_size c.in-Loop.code + 1 =
    ap (λ (k : Kind). kind_size (kind_tree k)) c.in-Loop.is in
    let context = (setting_of c.args.self.now).context in (
      omega (arith, size, c.decreases),
      loop_ready context c.args.emitter.now c.in-Loop.result c.in-Loop.code c.in-Loop.end_place c.if-emitter.false
          (subst (λ (k : Kind). KindIsReady context c.args.emitter.now (kind_tree k)) c.in-Loop.is c.requires),
    )

pub block-code-requires : goal.block-code-requires
block-code-requires t c = (
  omega (arith, c.decreases),
  opened_ready (setting_of c.args.self.now).context c.args.emitter.now c.open_block.new.self 1 c.args.code.now no_else _ c.requires
      c.in_ok-open_block.ensures.inside c.in_ok-open_block.ensures.made refl refl refl,
)

pub looped-code-requires : goal.looped-code-requires
looped-code-requires t c = (
  omega (arith, c.decreases),
  opened_ready (setting_of c.args.self.now).context c.args.emitter.now c.open_loop.new.self 1 c.args.code.now no_else _ c.requires
      c.in_ok-open_loop.ensures.inside c.in_ok-open_loop.ensures.made refl refl refl,
)

pub branches-code-requires : goal.branches-code-requires
branches-code-requires t c = (
  omega (arith, c.decreases),
  opened_ready (setting_of c.args.self.now).context c.args.emitter.now c.open_first.new.self 2 c.args.code.now
      (otherwise_tree c.args.otherwise.now) _ c.requires c.in_ok-open_first.ensures.inside c.in_ok-open_first.ensures.made refl refl refl,
)

pub block-end_block-requires : goal.block-end_block-requires
block-end_block-requires t c =
    let e = c.args.emitter.now.operands in
    floor_below e c.code.new.emitter.operands c.opening-at.result.floor
    (inside_kept e c.open_block.new.self.operands c.code.new.emitter.operands c.in_ok-open_block.ensures.inside c.in_ok-code.ensures.kept)
    c.opening-at.ensures.floor

pub block-returns-clause-made : goal.block-returns-clause-made
block-returns-clause-made t c =
    let e = c.args.emitter.now in
    on_ok c.end_block.result _ _
    (c.end_block.ensures.made e c.opening-at.ensures
    (inside_kept e.operands c.open_block.new.self.operands c.code.new.emitter.operands c.in_ok-open_block.ensures.inside
    c.in_ok-code.ensures.kept))
    (in_a_block (setting_of c.args.self.now) c.args.value (made_by e) (made_by c.open_block.new.self) (made_by c.code.new.emitter)
    (made_by c.end_block.new.self) c.args.code.now c.in_ok-open_block.ensures.made c.in_ok-code.ensures.made)

pub block-returns-clause-kept : goal.block-returns-clause-kept
block-returns-clause-kept t c =
    let e = c.args.emitter.now.operands in
    c.end_block.ensures.kept e
    (inside_kept e c.open_block.new.self.operands c.code.new.emitter.operands c.in_ok-open_block.ensures.inside c.in_ok-code.ensures.kept)
    c.opening-at.ensures.floor

pub looped-end_loop-requires : goal.looped-end_loop-requires
looped-end_loop-requires t c =
    let e = c.args.emitter.now.operands in
    floor_below e c.code.new.emitter.operands c.opening-at.result.floor
    (inside_kept e c.open_loop.new.self.operands c.code.new.emitter.operands c.in_ok-open_loop.ensures.inside c.in_ok-code.ensures.kept)
    c.opening-at.ensures.floor

pub looped-returns-clause-made : goal.looped-returns-clause-made
looped-returns-clause-made t c =
    let e = c.args.emitter.now in
    on_ok c.end_loop.result _ _
    (c.end_loop.ensures.made e c.opening-at.ensures
    (inside_kept e.operands c.open_loop.new.self.operands c.code.new.emitter.operands c.in_ok-open_loop.ensures.inside
    c.in_ok-code.ensures.kept))
    (in_a_loop (setting_of c.args.self.now) c.args.value (made_by e) (made_by c.open_loop.new.self) (made_by c.code.new.emitter)
    (made_by c.end_loop.new.self) c.args.code.now c.in_ok-open_loop.ensures.made c.in_ok-code.ensures.made)

pub looped-returns-clause-kept : goal.looped-returns-clause-kept
looped-returns-clause-kept t c =
    let e = c.args.emitter.now.operands in
    c.end_loop.ensures.kept e
    (inside_kept e c.open_loop.new.self.operands c.code.new.emitter.operands c.in_ok-open_loop.ensures.inside c.in_ok-code.ensures.kept)
    c.opening-at.ensures.floor

pub branches-end_first-requires : goal.branches-end_first-requires
branches-end_first-requires t c =
    let e = c.args.emitter.now.operands in
    floor_below e c.code.new.emitter.operands c.opening-at.result.floor
    (inside_kept e c.open_first.new.self.operands c.code.new.emitter.operands c.in_ok-open_first.ensures.inside c.in_ok-code.ensures.kept)
    c.opening-at.ensures.floor

pub branches-returns-in-None-clause-made : goal.branches-returns-in-None-clause-made
branches-returns-in-None-clause-made t c =
    let e = c.args.emitter.now in
    on_ok c.end_first.result _ _
    (c.end_first.ensures.made e c.opening-at.ensures
    (inside_kept e.operands c.open_first.new.self.operands c.code.new.emitter.operands c.in_ok-open_first.ensures.inside
    c.in_ok-code.ensures.kept))
    (one_branch (setting_of c.args.self.now) c.args.value (made_by e) (made_by c.open_first.new.self) (made_by c.code.new.emitter)
    (made_by c.end_first.new.self) c.args.code.now c.args.otherwise.now c.in-None.is c.in_ok-open_first.ensures.made
    c.in_ok-code.ensures.made)

pub branches-returns-in-None-clause-kept : goal.branches-returns-in-None-clause-kept
branches-returns-in-None-clause-kept t c =
    let e = c.args.emitter.now.operands in
    c.end_first.ensures.kept e
    (inside_kept e c.open_first.new.self.operands c.code.new.emitter.operands c.in_ok-open_first.ensures.inside c.in_ok-code.ensures.kept)
    c.opening-at.ensures.floor

pub block-opening-at-requires : goal.block-opening-at-requires
block-opening-at-requires t c =
    let labels = c.requires.labels in
    omega (arith, labels)

pub block-open_block-requires : goal.block-open_block-requires
block-open_block-requires t c =
    let labels = c.requires.labels in
    omega (arith, labels)

pub looped-opening-at-requires : goal.looped-opening-at-requires
looped-opening-at-requires t c =
    let labels = c.requires.labels in
    omega (arith, labels)

pub looped-open_loop-requires : goal.looped-open_loop-requires
looped-open_loop-requires t c =
    let labels = c.requires.labels in
    omega (arith, labels)

pub branches-opening-at-requires : goal.branches-opening-at-requires
branches-opening-at-requires t c =
    let labels = c.requires.labels in
    omega (arith, labels)

pub branches-open_first-requires : goal.branches-open_first-requires
branches-open_first-requires t c =
    let labels = c.requires.labels in
    omega (arith, labels)
