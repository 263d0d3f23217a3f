-- The code of a function stands in its body before the exit, and the labels of the body are found.
use Rattle.w2c_base.specs.declared.trap.TrapKind.TheVariants as trap
use Rattle.c_tree.specs.declared.tree.COp.TheVariants as op
use Rattle.c_tree.specs.Tree as tree
use Rattle.c_tree.specs.Makers as makers
use Rattle.body_definition.proofs.RulesOfLabels.{body_labels_differ}
use Rattle.body_meaning.proofs.Common.{◌≡◌, ◌+◌, ◌^◌, ◌<◌, true, List, [], ◌∷◌, ◌++◌, Some, Option, sym, ap, ◌∙◌, append_assoc, ValType}
use Rattle.body_meaning.proofs.Common.{Code, N32, after_label, depth_name, change_depth, code_stmts, give_back, names_exit, stmts_of}
use Rattle.body_meaning.proofs.Common.{entry_label, exit_label, label_if, labels_in, label_name, IsPlaced, Setting}
use Rattle.alike.proofs.Placed.{placed_front, placed_back, placed}
use Rattle.body_meaning.proofs.Placed.{last_label_found}

-- the test of the depth, before the first label
abbrev head_stmts : Option ValType → List tree.Stmt
head_stmts result =
    tree.If op.Lt (tree.Name depth_name) (tree.Number (N32 1024)) (label_name entry_label)
    ∷ makers.trap trap.Exhaustion
    ∷ give_back result
    ∷ []

-- what stands behind the exit's label
abbrev pub exit_stmts : Option ValType → List tree.Stmt
exit_stmts result = change_depth op.Sub ∷ give_back result ∷ []

-- what stands behind the code
abbrev pub end_stmts : Option ValType → Code → List tree.Stmt
end_stmts result code = label_if (names_exit code) exit_label ++ exit_stmts result

-- where the parts of a body stand
pub record BodyIsPlaced (c : Setting) (code : Code) : Type 0 where
  pub entry : after_label (label_name entry_label) (stmts_of c code)
      ≡ Some (change_depth op.Add ∷ (code_stmts c code ++ end_stmts c.context.result code))
  pub code_is : IsPlaced (stmts_of c code) (code_stmts c code) (end_stmts c.context.result code)
  pub exit : names_exit code ≡ true → after_label (label_name exit_label) (stmts_of c code) ≡ Some (exit_stmts c.context.result)

pub body_is_placed : (c : Setting) (code : Code) → labels_in code + 2 < 2 ^ 32 → BodyIsPlaced c code
body_is_placed c code few =
    let body = stmts_of c code in
    let result = c.context.result in
    let end = label_if (names_exit code) exit_label in
    let inner = code_stmts c code ++ end in
    let assoc : inner ++ exit_stmts result ≡ code_stmts c code ++ end_stmts result code =
    append_assoc (code_stmts c code) end (exit_stmts result) in
    let entered = tree.Label (label_name entry_label) ∷ change_depth op.Add ∷ inner in
    let is : body ≡ head_stmts result ++ (entered ++ exit_stmts result) =
    ap (λ xs. head_stmts result ++ (tree.Label (label_name entry_label) ∷ change_depth op.Add ∷ xs)) (sym assoc) in
    let p = placed body (head_stmts result) entered (exit_stmts result) is (body_labels_differ c code few) in
    record {
      entry = p.0 ∙ ap (λ xs. Some (change_depth op.Add ∷ xs)) assoc;
      code_is = placed_front body (code_stmts c code) end (exit_stmts result) p.1;
      exit = last_label_found body (names_exit code) exit_label (exit_stmts result)
          (placed_back body (code_stmts c code) end (exit_stmts result) p.1);
    }
