-- The bytes that stand for a statement, and what is read of bytes: of those that stand for a statement this statement.
use Rattle.std.specs.Prelude.{ℕ, ◌==◌, if◌then◌else◌, List, [], ◌∷◌, ◌++◌}
use Rattle.c_tree.specs.Tree as tree
use Rattle.packed_stmts.specs.declared.statement.StmtKind.{StmtKind}
use Rattle.packed_stmts.specs.declared.statement.StmtKind.TheVariants as stmt
use Rattle.packed_stmts.specs.Packed.{list_code, name_code, target_code, op_code, expr_code, arg_code, callee_code, case_code}
use Rattle.packed_stmts.specs.Unpacked.{Reading, ◌>>=◌, pure, byte_at, name_at, list_at, target_at, op_at, expr_at, arg_at, callee_at}
use Rattle.packed_stmts.specs.Unpacked.{case_at}

abbrev pub stmt_code : tree.Stmt → List ℕ
stmt_code (tree.Label n) = 0 ∷ name_code n
stmt_code tree.Null = 1 ∷ []
stmt_code (tree.Set n a) = 2 ∷ (name_code n ++ arg_code a)
stmt_code (tree.SetStar n e) = 3 ∷ (name_code n ++ expr_code e)
stmt_code (tree.Call n f args) = 4 ∷ (target_code n ++ (callee_code f ++ list_code arg_code args))
stmt_code (tree.Goto n) = 5 ∷ name_code n
stmt_code (tree.If o a b n) = 6 ∷ op_code o ∷ (expr_code a ++ (expr_code b ++ name_code n))
stmt_code (tree.Switch e cases n) = 7 ∷ (expr_code e ++ (list_code case_code cases ++ name_code n))
stmt_code tree.ReturnNone = 8 ∷ []
stmt_code (tree.Return a) = 9 ∷ arg_code a

unfoldable pub stmt_kind : ℕ → StmtKind
stmt_kind n =
    if n == 0 then stmt.Label else (
    if n == 1 then stmt.Null else (
    if n == 2 then stmt.Set else (
    if n == 3 then stmt.SetStar else (
    if n == 4 then stmt.Call else (
    if n == 5 then stmt.Goto else (
    if n == 6 then stmt.If else (
    if n == 7 then stmt.Switch else (
    if n == 8 then stmt.ReturnNone else
    stmt.Return))))))))

abbrev pub stmt_by : StmtKind → Reading tree.Stmt
stmt_by stmt.Label = name_at >>= λ n. pure (tree.Label n)
stmt_by stmt.Null = pure tree.Null
stmt_by stmt.Set = name_at >>= λ n. arg_at >>= λ a. pure (tree.Set n a)
stmt_by stmt.SetStar = name_at >>= λ n. expr_at >>= λ e. pure (tree.SetStar n e)
stmt_by stmt.Call = target_at >>= λ n. callee_at >>= λ f. list_at arg_at >>= λ args. pure (tree.Call n f args)
stmt_by stmt.Goto = name_at >>= λ n. pure (tree.Goto n)
stmt_by stmt.If = op_at >>= λ o. expr_at >>= λ a. expr_at >>= λ b. name_at >>= λ n. pure (tree.If o a b n)
stmt_by stmt.Switch = expr_at >>= λ e. list_at case_at >>= λ cases. name_at >>= λ n. pure (tree.Switch e cases n)
stmt_by stmt.ReturnNone = pure tree.ReturnNone
stmt_by stmt.Return = arg_at >>= λ a. pure (tree.Return a)

unfoldable pub stmt_at : Reading tree.Stmt
stmt_at = byte_at >>= λ b. stmt_by (stmt_kind b)
