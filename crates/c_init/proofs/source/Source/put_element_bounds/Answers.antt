use Rattle.c_init.proofs.Common.{◌++◌, map, codes, refl, ap, ◌∙◌, stmt_of, NamedModule, table_arg, n64, place_expr, test_bounds}
use Rattle.c_init.proofs.Common.{test_elements}
use Rattle.c_tree.specs.Tree as tree
use Rattle.c_init.proofs.Numberings.{put_at}
use Rattle.c_init.proofs.source.Source.put_element_bounds.Goals as goal

pub loop-element-preserved : goal.loop-element-preserved
loop-element-preserved c =
    let m = c.args.self.now.tree.now in
    let before = map stmt_of c.loop-element.stmts in
    let place = place_expr m c.element-item.result.offset in
    put_at c.args.elements.now c.args.elements.now refl c.loop-element.element-index
    c.element-item.result c.loop-element-test.true c.element-item.is (test_elements m) before (map stmt_of c.put_bounds.new.stmts) _
    (c.in_ok-put_bounds.ensures
    ∙ ap (λ (a : tree.Arg). before ++ test_bounds (codes "w2c_tab_len") a (place (n64 c.len.result)))
    (c.in_ok-table.ensures ∙ ap (λ (n : NamedModule). table_arg n.tree) c.args.self.now.spaces_are)
    ∙ ap (λ n. before ++ test_bounds (codes "w2c_tab_len") (table_arg m) (place (n64 n))) c.len.ensures) c.loop-element.invariant
