-- The one unit that linked units become keeps the rules.
use Rattle.c_merge.proofs.Common.{◌≡◌, ℕ, ◌+◌, List, map, take, slice_get, Some, sym, ap, ◌∙◌, subst, KeepsRules}
use Rattle.c_merge.proofs.Common.{item_rules, stmt_rules, Program, by_option, Renaming, merge_names, merged, arith}
use Rattle.std.proofs.lemmas.Option.{none-some}
use Rattle.c_tree.specs.Tree as tree
use Rattle.c_renaming.specs.Renamed as renamed
use Rattle.c_merge.proofs.Together.{FitTogether}
use Rattle.c_merge.proofs.NewFunctions.{item_keeps}
use Rattle.c_merge.proofs.NewStatements.{stmt_keeps}
use Rattle.c_merge.proofs.Places.{Placed, from_map, placed_at, upto}
use Rattle.c_merge.proofs.Rules.{Keeps, keeps_all, all_keep}

pub same_func : (g h : tree.Func) → tree.Function g ≡ tree.Function h → g ≡ h
same_func g h e = cc

module _ (p : Program) (are : FitTogether p.units) where
  abbrev ρ : Renaming
  ρ = merge_names p

  abbrev one : List tree.Item
  one = merged p.units

  new_item : (k : ℕ) (y : tree.Item) → slice_get one k ≡ Some y → Keeps item_rules (record { unit = one; number = k; item = y })
  new_item k y at =
      let place : Placed p (take k one) y = placed_at p k y at in
      let from = place.from in
      let u = place.unit in
      let old = (keeps_all from.items (are.kept u from.items from.there)).item from.number from.item from.at in
      subst (λ (z : tree.Item). Keeps item_rules (record { unit = one; number = k; item = z })) (sym from.is)
      (item_keeps p are u from.items from.there place.others place.before k from.number from.item from.at place.front_is old)

  -- a body of the one unit is the renamed body of a unit
  record IsBody (u : ℕ) (x : tree.Item) (g : tree.Func) (c : tree.Body) : Type 0 where
    func : tree.Func
    body : tree.Body
    item_is : x ≡ tree.Function func
    body_is : func.body ≡ Some body
    func_new : g ≡ renamed.func ρ u func
    body_new : c ≡ renamed.body ρ u body

  is_body : (u : ℕ) (x : tree.Item) (g : tree.Func) (c : tree.Body) → tree.Function g ≡ renamed.item ρ u x → g.body ≡ Some c
      → IsBody u x g c
  is_body u (tree.Function f) g c is body = grind (arith, same_func g (renamed.func ρ u f) is, by_option, none-some)
  is_body u _ g c is body = absurd cc

  abbrev StmtKeeps : ℕ → List tree.Item → tree.Func → tree.Body → tree.Stmt → Type 0
  StmtKeeps n declared f body stmt =
      Keeps stmt_rules (record { scope = record { declared = declared; func = f; body = body }; number = n; stmt = stmt })

  new_stmt : (k : ℕ) (g : tree.Func) (c : tree.Body) → slice_get one k ≡ Some (tree.Function g) → g.body ≡ Some c
      → (j : ℕ) (stmt : tree.Stmt) → slice_get c.stmts j ≡ Some stmt
      → StmtKeeps (j + 1) (take (k + 1) one) g c stmt
  new_stmt k g c at body j stmt here =
      let place : Placed p (take k one) (tree.Function g) = placed_at p k (tree.Function g) at in
      let from = place.from in
      let u = place.unit in
      let is = is_body u from.item g c from.is body in
      let f = is.func in
      let b = is.body in
      let at_f : slice_get from.items from.number ≡ Some (tree.Function f) = from.at ∙ ap Some is.item_is in
      let stmts : slice_get (map (renamed.stmt ρ u) b.stmts) j
      ≡ Some stmt = sym (ap (λ (d : tree.Body). slice_get d.stmts j) is.body_new) ∙ here in
      let s = from_map (renamed.stmt ρ u) b.stmts j stmt stmts in
      let old = (keeps_all from.items (are.kept u from.items from.there)).stmt from.number f b at_f is.body_is j s.0 s.1 in
      let now = stmt_keeps p are u from.items from.there (from.number + 1) f b place.others place.before (j + 1) s.0 old in
      subst (λ z. StmtKeeps (j + 1) (take (k + 1) one) g c z) (sym s.2)
      (subst (λ d. StmtKeeps (j + 1) (take (k + 1) one) g d (renamed.stmt ρ u s.0)) (sym is.body_new)
      (subst (λ h. StmtKeeps (j + 1) (take (k + 1) one) h (renamed.body ρ u b) (renamed.stmt ρ u s.0)) (sym is.func_new)
      (subst (λ l. StmtKeeps (j + 1) l (renamed.func ρ u f) (renamed.body ρ u b) (renamed.stmt ρ u s.0))
      (sym (upto p k (tree.Function g) at place)) now)))

  pub one_keeps : KeepsRules (merged p.units)
  one_keeps = all_keep (merged p.units) (record { item = new_item; stmt = new_stmt })
