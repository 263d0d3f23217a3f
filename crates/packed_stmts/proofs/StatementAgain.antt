-- What stands for a statement is read as this statement again, whatever follows; and so are chunks.
use Rattle.packed_stmts.proofs.Common.{◌≡◌, ℕ, List, [], ◌++◌, sym, refl, ap, ◌∙◌}
use Rattle.std.proofs.Common.{append_assoc}
use Rattle.std.proofs.lemmas.List.{append-nil}
use Rattle.c_tree.specs.Tree as tree
use Rattle.packed_stmts.specs.Packed.{list_code, name_code, target_code, expr_code, arg_code, callee_code, case_code}
use Rattle.packed_stmts.specs.Unpacked.{list_at, arg_at, case_at}
use Rattle.packed_stmts.specs.Statement.{stmt_code, stmt_kind, stmt_at}
use Rattle.packed_stmts.specs.Chunk.{chunk_code, stmts_of}
use Rattle.packed_stmts.proofs.Again.{name_again, list_again, target_again, op_again, expr_again, arg_again, callee_again, case_again}

stmt_again : (s : tree.Stmt) (rest : List ℕ) → stmt_at (stmt_code s ++ rest) ≡ (s, rest)
unfolding stmt_at stmt_kind
stmt_again (tree.Label n) rest = rw (name_again n rest) refl
stmt_again tree.Null rest = refl
stmt_again (tree.Set n a) rest =
    rw (append_assoc (name_code n) (arg_code a) rest, name_again n (arg_code a ++ rest), arg_again a rest) refl
stmt_again (tree.SetStar n e) rest =
    rw (append_assoc (name_code n) (expr_code e) rest, name_again n (expr_code e ++ rest), expr_again e rest) refl
stmt_again (tree.Call n f args) rest =
    rw (
      append_assoc (target_code n) (callee_code f ++ list_code arg_code args) rest,
      append_assoc (callee_code f) (list_code arg_code args) rest,
      target_again n (callee_code f ++ (list_code arg_code args ++ rest)),
      callee_again f (list_code arg_code args ++ rest),
      list_again arg_code arg_at arg_again args rest,
    ) refl
stmt_again (tree.Goto n) rest = rw (name_again n rest) refl
stmt_again (tree.If o a b n) rest =
    rw (
      op_again o ((expr_code a ++ (expr_code b ++ name_code n)) ++ rest),
      append_assoc (expr_code a) (expr_code b ++ name_code n) rest,
      append_assoc (expr_code b) (name_code n) rest,
      expr_again a (expr_code b ++ (name_code n ++ rest)),
      expr_again b (name_code n ++ rest),
      name_again n rest,
    ) refl
stmt_again (tree.Switch e cases n) rest =
    rw (
      append_assoc (expr_code e) (list_code case_code cases ++ name_code n) rest,
      append_assoc (list_code case_code cases) (name_code n) rest,
      expr_again e (list_code case_code cases ++ (name_code n ++ rest)),
      list_again case_code case_at case_again cases (name_code n ++ rest),
      name_again n rest,
    ) refl
stmt_again tree.ReturnNone rest = refl
stmt_again (tree.Return a) rest = rw (arg_again a rest) refl

pub chunk_again : (stmts : List tree.Stmt) → stmts_of (chunk_code stmts) ≡ stmts
unfolding stmts_of chunk_code
chunk_again stmts =
    ap (λ (bytes : List ℕ). (list_at stmt_at bytes).0) (sym (append-nil (list_code stmt_code stmts)))
    ∙ ap (λ (p : List tree.Stmt × List ℕ). p.0) (list_again stmt_code stmt_at stmt_again stmts [])
