use Rattle.packed_stmts.proofs.Common.{◌≡◌, ℕ, List, [], ◌∷◌, ◌++◌, map, ap, sym, ◌∙◌, stmt_of}
use Rattle.std.proofs.lemmas.List.{map_push}
use Rattle.c_tree.specs.Tree as tree
use Rattle.packed_stmts.specs.Unpacked.{list_at}
use Rattle.packed_stmts.specs.Statement.{stmt_at}
use Rattle.packed_stmts.specs.Chunk.{stmts_of}
use Rattle.packed_stmts.proofs.Turns.{goes_on, is_done}
use Rattle.packed_stmts.proofs.chunk.stmts_of.Goals as goal

pub loop-preserved : goal.loop-preserved
loop-preserved c =
    let e : map stmt_of c.push.new.self.items ≡ map stmt_of c.loop.stmts.items ++ stmt_of c.in_ok-stmt.stmt ∷ [] =
    ap (map stmt_of) c.in_ok-push.ensures.items ∙ map_push stmt_of c.loop.stmts.items c.in_ok-stmt.stmt in
    rw e (goes_on stmt_at (map stmt_of c.loop.stmts.items) c.u64-count.result c.loop.counter c.loop.source c.stmt.new.self
    (stmt_of c.in_ok-stmt.stmt) (list_at stmt_at c.args.chunk.now) c.loop-test.true c.in_ok-stmt.ensures c.loop.invariant)

pub returns : goal.returns
unfolding stmts_of
returns c =
    sym (ap (λ (p : List tree.Stmt × List ℕ). p.0)
    (is_done stmt_at (map stmt_of c.loop.stmts.items) c.u64-count.result c.loop.counter c.loop.source (list_at stmt_at c.args.chunk.now)
    c.loop-test.false c.loop.invariant))
