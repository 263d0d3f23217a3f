use Rattle.packed_stmts.proofs.Common.{List, map, ap, ◌∙◌, rules, stmt_of, Stmt, is_written}
use Rattle.std.proofs.lemmas.Fn.{filter_same}
use Rattle.packed_stmts.proofs.GapLists.{map_filtered}
use Rattle.packed_stmts.proofs.gaps.without_gaps.Goals as goal

pub returns : goal.returns
returns c =
    let e = filter_same _ (λ (s : Stmt). is_written (stmt_of s)) _ (λ x b f' k. search rules) _ _ c.retain.ensures.filtered in
    ap (λ (stmts : List Stmt). map stmt_of stmts) e ∙ map_filtered c.args.stmts.items
