use Rattle.std.proofs.Common.{take, ◌-◌}
use Rattle.c_init.proofs.Common.{ℕ, ◌+◌, List, ◌++◌, map, length, drop, sym, ap, ◌∙◌, append-nil, stmt_of}
use Rattle.c_init.specs.Init.{Element, write_one}
use Rattle.c_init.specs.Portions.{elements_behind}
use Rattle.c_init.proofs.PieceLists.{made_next, none_behind}
use Rattle.c_init.proofs.source.Source.put_elements_from.Goals as goal

pub loop-segment-preserved : goal.loop-segment-preserved
loop-segment-preserved c =
    let tree = c.args.self.now.tree.now in
    let start = c.loop-segment.start in
    let left = c.loop-segment.left in
    let segments = c.args.segments.now in
    let next = c.loop-segment.segment-index + 1 in
    let many = length c.segment-item.result.funcs in
    let count = c.len-count.ensures in
    let start_is = c.saturating_sub-start.ensures ∙ ap (λ k. start - k) count in
    let left_is = c.saturating_sub-left.ensures ∙ ap (λ k. left - k) (c.saturating_sub.ensures ∙ ap (λ k. k - start) count) in
    let made = map stmt_of c.put_some.new.stmts in
    let behind : ℕ → List Element = λ k. elements_behind k (drop next segments) in
    ap (λ n. made ++ map (write_one tree) (take n (behind c.saturating_sub-start.result))) left_is
    ∙ ap (λ n. made ++ map (write_one tree) (take (left - (many - start)) (behind n))) start_is
    ∙ made_next (write_one tree) segments c.loop-segment.segment-index left start c.segment-item.result (map stmt_of c.loop-segment.stmts)
    (map stmt_of c.put_some.new.stmts) _ c.loop-segment-test.true c.segment-item.is c.in_ok-put_some.ensures c.loop-segment.invariant

-- a hundred are written
pub returns-then-left-eq0 : goal.returns-then-left-eq0
returns-then-left-eq0 c =
    let tree = c.args.self.now.tree.now in
    let rest = elements_behind c.loop-segment.start (drop c.loop-segment.segment-index c.args.segments.now) in
    sym (append-nil (map stmt_of c.loop-segment.stmts))
    ∙ ap (λ n. map stmt_of c.loop-segment.stmts ++ map (write_one tree) (take n rest)) (sym c.if-left-eq0.true)
    ∙ c.loop-segment.invariant

pub returns : goal.returns
returns c =
    let tree = c.args.self.now.tree.now in
    sym (append-nil (map stmt_of c.loop-segment.stmts))
    ∙ ap (λ es. map stmt_of c.loop-segment.stmts ++ map (write_one tree) es)
    (sym (none_behind c.args.segments.now c.loop-segment.segment-index c.loop-segment.start c.loop-segment.left c.loop-segment-test.false))
    ∙ c.loop-segment.invariant
