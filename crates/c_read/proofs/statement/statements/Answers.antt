use Rattle.c_read.proofs.Common.{◌≡◌, true, false, [], ◌∷◌, ◌++◌, map, ap, ◌∙◌, arith, rules, map_push, err_from_is_err_and, stmt_of}
use Rattle.c_read.proofs.Common.{next_kind, not_brace, statement}
use Rattle.c_read.specs.Statements.{statements}
use Rattle.c_read.proofs.Loops.{left_more, left_ends, left_fails, left_whole}
use Rattle.c_read.proofs.statement.statements.Goals as goal

pub more-init : goal.more-init
unfolding statements
more-init c =
    let e : map stmt_of c.new-stmts.result ≡ [] = search rules in
    (omega arith, left_whole not_brace statement c.args.cursor.now (map stmt_of c.new-stmts.result) e)

pub returns-in_err-stmt-clause-reads : goal.returns-in_err-stmt-clause-reads
returns-in_err-stmt-clause-reads c =
    let p = err_from_is_err_and c.from_residual.result c.from_residual.ensures.1 in
    let on : not_brace (next_kind c.more.cursor) ≡ true = search rules in
    rw (p.1, p.2) (λ other. left_fails not_brace statement (map stmt_of c.more.stmts) c.more.cursor c.in_err-stmt.field-0.0
    (statements c.args.cursor.now) on (c.in_err-stmt.ensures.reads other) c.more.invariant.1)

pub more-preserved : goal.more-preserved
more-preserved c =
    let on : not_brace (next_kind c.more.cursor) ≡ true = search rules in
    let e : map stmt_of c.push.new.self ≡ map stmt_of c.more.stmts ++ stmt_of c.in_ok-stmt.stmt ∷ [] =
    ap (map stmt_of) (c.in_ok-push.ensures.ok) ∙ map_push stmt_of c.more.stmts c.in_ok-stmt.stmt in (
      omega arith,
      rw e (left_more not_brace statement (map stmt_of c.more.stmts) c.more.cursor c.statement.new.cursor
          (stmt_of c.in_ok-stmt.stmt) (statements c.args.cursor.now) on c.in_ok-stmt.ensures.reads c.in_ok-stmt.ensures.shorter
          c.more.invariant.1),
    )

pub returns-clause-reads : goal.returns-clause-reads
returns-clause-reads c =
    let off : not_brace (next_kind c.more.cursor) ≡ false = search rules in
    left_ends not_brace statement (map stmt_of c.more.stmts) c.more.cursor (statements c.args.cursor.now) off c.more.invariant.1
