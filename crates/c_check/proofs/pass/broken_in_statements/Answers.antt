use Rattle.c_check.proofs.Common.{◌≡◌, ◌+◌, ◌-◌, List, map, length, take, bytes_eq, sym, ap, ◌∙◌, arith, length-map, list_any, label_of}
use Rattle.c_check.proofs.Common.{labels_of, stmt_of, stmts_end, stmts_more, stmts_stop, scope_of}
use Rattle.c_tree.specs.declared.tree.Stmt.{Stmt}
use Rattle.c_check.proofs.Sets.{knows_put}
use Rattle.c_check.proofs.pass.broken_in_statements.Goals as goal

pub stmt_rule-requires-clause-labels : goal.stmt_rule-requires-clause-labels
stmt_rule-requires-clause-labels c q =
    c.in_ok-labels.ensures q ∙ ap (λ (ys : List Stmt). list_any (bytes_eq q) (labels_of (map stmt_of ys))) c.as_slice-stmts.ensures

pub stmt_rule-requires-clause-earlier : goal.stmt_rule-requires-clause-earlier
stmt_rule-requires-clause-earlier c q =
    let e : c.loop-i.i ≡ (c.loop-i.i + 1) - 1 = omega arith in
    c.loop-i.invariant.1 q
    ∙ ap (λ n. list_any (bytes_eq q) (labels_of (take n (map stmt_of c.as_slice-stmts.result.now)))) e
    ∙ ap (λ (ys : List Stmt). list_any (bytes_eq q) (labels_of (take ((c.loop-i.i + 1) - 1) (map stmt_of ys)))) c.as_slice-stmts.ensures

pub returns-in-Some : goal.returns-in-Some
returns-in-Some c =
    stmts_stop (scope_of c.args.s.now) c.as_slice-stmts.result.now
    (ap (map stmt_of) (sym c.as_slice-stmts.ensures)) c.args.item c.loop-i.i _ c.index-stmts-i.result c.loop-i-test.true c.index-stmts-i.is
    c.in-Some.rule
    (sym c.in_ok-rule.ensures ∙ c.in-Some.is) c.loop-i.invariant.0

pub loop-i-preserved : goal.loop-i-preserved
loop-i-preserved c =
    let stmts = c.as_slice-stmts.result.now in
    let x = c.index-stmts-i.result in (
      stmts_more (scope_of c.args.s.now) stmts (ap (map stmt_of)
          (sym c.as_slice-stmts.ensures)) c.args.item c.loop-i.i _ x c.loop-i-test.true c.index-stmts-i.is (sym c.in_ok-rule.ensures
          ∙ c.in-None.is) c.loop-i.invariant.0,
      knows_put stmt_of label_of stmts c.loop-i.i x c.loop-i-test.true c.index-stmts-i.is c.loop-i.earlier
          c.put.new.set _ c.label.ensures c.in_ok-put-in-None.ensures c.loop-i.invariant.1,
      c.loop-i.invariant.2,
    )

pub returns : goal.returns
returns c =
    let stmts = c.as_slice-stmts.result.now in
    let k : length (map stmt_of stmts) ≡ length stmts = simp length-map in
    stmts_end (scope_of c.args.s.now) stmts
    (ap (map stmt_of) (sym c.as_slice-stmts.ensures)) c.args.item c.loop-i.i _ (omega arith) c.loop-i.invariant.0
