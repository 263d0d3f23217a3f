use Rattle.c_init.proofs.Common.{◌++◌, map, codes, refl, ap, ◌∙◌, stmt_of, NamedModule, memory_arg, n64, place_expr, test_bounds, test_data}
use Rattle.c_tree.specs.Tree as tree
use Rattle.c_init.proofs.Numberings.{put_at}
use Rattle.c_init.proofs.source.Source.put_data_bounds.Goals as goal

pub loop-segment-preserved : goal.loop-segment-preserved
loop-segment-preserved c =
    let m = c.args.self.now.tree.now in
    let before = map stmt_of c.loop-segment.stmts in
    let place = place_expr m c.segment-item.result.offset in
    put_at c.args.segments.now c.args.segments.now refl c.loop-segment.segment-index
    c.segment-item.result c.loop-segment-test.true c.segment-item.is (test_data m) before (map stmt_of c.put_bounds.new.stmts) _
    (c.in_ok-put_bounds.ensures
    ∙ ap (λ (a : tree.Arg). before ++ test_bounds (codes "w2c_mem_len") a (place (n64 c.len.result)))
    (c.in_ok-memory.ensures ∙ ap (λ (n : NamedModule). memory_arg n.tree) c.args.self.now.spaces_are)
    ∙ ap (λ n. before ++ test_bounds (codes "w2c_mem_len") (memory_arg m) (place (n64 n))) c.len.ensures) c.loop-segment.invariant
