-- New names hang on no unit's items, so the one unit does not depend on what else a renaming of its units has.
use Rattle.c_merge.proofs.Common.{◌≡◌, ℕ, List, map, length, option_map, zip, flat_map, refl, ap, range_with_len, Program, joined, Renaming}
use Rattle.c_merge.proofs.Common.{merge_names, new_names}
use Rattle.c_tree.specs.Tree as tree
use Rattle.c_renaming.specs.Renamed as renamed

module _ (p : Program) where
  abbrev ρ : Renaming
  ρ = merge_names p

  expr_same : (u : ℕ) (e : tree.Expr) → renamed.expr new_names u e ≡ renamed.expr ρ u e
  expr_same u (tree.At name index) = ap (tree.At (ρ.var u name)) (expr_same u index)
  expr_same u (tree.To32 e) = ap tree.To32 (expr_same u e)
  expr_same u (tree.To64 e) = ap tree.To64 (expr_same u e)
  expr_same u (tree.Op op left right) = λ i. tree.Op op (expr_same u left i) (expr_same u right i)
  expr_same u _ = refl

  arg_same : (u : ℕ) (a : tree.Arg) → renamed.arg new_names u a ≡ renamed.arg ρ u a
  arg_same u (tree.Value e) = ap tree.Value (expr_same u e)
  arg_same u _ = refl

  callee_same : (u : ℕ) (c : tree.Callee) → renamed.callee new_names u c ≡ renamed.callee ρ u c
  callee_same u (tree.Called name) = refl
  callee_same u (tree.Through ty name) = refl

  stmt_same : (u : ℕ) (s : tree.Stmt) → renamed.stmt new_names u s ≡ renamed.stmt ρ u s
  stmt_same u (tree.Set name a) = ap (tree.Set (ρ.var u name)) (arg_same u a)
  stmt_same u (tree.SetStar name e) = ap (tree.SetStar (ρ.var u name)) (expr_same u e)
  stmt_same u (tree.Call target f args) = λ i. tree.Call (option_map (ρ.var u) target) (callee_same u f i) (map (λ a. arg_same u a i) args)
  stmt_same u (tree.If op left right name) = λ i. tree.If op (expr_same u left i) (expr_same u right i) (ρ.label u name)
  stmt_same u (tree.Switch e cases default) = ap (λ f. tree.Switch f (map (renamed.case ρ u) cases) (ρ.label u default)) (expr_same u e)
  stmt_same u (tree.Return a) = ap tree.Return (arg_same u a)
  stmt_same u _ = refl

  body_same : (u : ℕ) (b : tree.Body) → renamed.body new_names u b ≡ renamed.body ρ u b
  body_same u b = λ i. record { locals = map (renamed.local ρ u) b.locals; stmts = map (λ s. stmt_same u s i) b.stmts }

  item_same : (u : ℕ) (item : tree.Item) → renamed.item new_names u item ≡ renamed.item ρ u item
  item_same u (tree.Function f) = λ i. tree.Function (record {
    is_static = f.is_static;
    result = f.result;
    name = ρ.func u f.name;
    params = map (renamed.param ρ u) f.params;
    body = option_map (λ b. body_same u b i) f.body;
  })
  item_same u _ = refl

  pub one_same : joined new_names 0 p.units ≡ joined ρ 0 p.units
  one_same = λ i. flat_map (λ (e : ℕ × List tree.Item). map (λ x. item_same e.0 x i) e.1) (zip (range_with_len 0 (length p.units)) p.units)
