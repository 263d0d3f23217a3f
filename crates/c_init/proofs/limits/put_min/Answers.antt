use Rattle.c_init.proofs.Common.{◌≡◌, List, ◌++◌, map, OnOk, subst, stmt_of}
use Rattle.c_tree.specs.Tree as tree
use Rattle.c_tree.specs.Primitives.{primitive_name}
use Rattle.c_init.proofs.Takes.{least_there}
use Rattle.c_init.proofs.limits.put_min.Goals as goal

pub returns-then-min-gt0 : goal.returns-then-min-gt0
returns-then-min-gt0 c =
    subst (λ (rest : List tree.Stmt). OnOk c.put_least.result (map stmt_of c.put_least.new.stmts ≡ map stmt_of c.args.stmts.now ++ rest))
    (least_there c.args.object.now (primitive_name c.args.len_of) c.args.unit c.args.min c.if-min-gt0.true)
    c.put_least.ensures
