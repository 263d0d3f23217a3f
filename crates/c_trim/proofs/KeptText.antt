-- The text of a unit that keeps the rules takes no address of w2c_depth, and what of it stays names functions that stay.
use Rattle.c_trim.proofs.Common.{◌≡◌, ℕ, zero, suc, ◌+◌, Bool, true, false, not, ◌||◌, List, [], ◌∷◌, take, if◌then◌else◌, Some, None}
use Rattle.c_trim.proofs.Common.{Option, flat_map, filter_map, bytes_eq, sym, refl, ap, ◌∙◌, bytes_eq-Decides, AllByRecursion, list_all, ⊤}
use Rattle.c_trim.proofs.Common.{both_hold, all_split, by_test, named, Name, Scope, file_variables, name_of, CType, KeptBody, KeptItem}
use Rattle.c_trim.proofs.Common.{Renaming, body_functions, functions_of, stmt_functions, subst}
use Rattle.c_tree.specs.Tree as tree
use Rattle.c_tree.specs.Scope as scope
use Rattle.c_tree.specs.Rules as rule
use Rattle.c_tree.specs.Runtime.{depth_name}
use Rattle.c_renaming.specs.Kept as text
use Rattle.c_renaming.specs.Kept.{KeptStmt}
use Rattle.c_renaming.proofs.KeptStatements.{KeptUse, kept_stmt}
use Rattle.c_trim.proofs.RulesHold.{StmtsHold, BodyHolds, TextHolds, ItemsHold, scope_at}
use Rattle.c_trim.proofs.SameScope.{Each}

-- ---- names of file scope

own_is_free : (x : Name) → rule.is_own_name x ≡ true → bytes_eq x depth_name ≡ false
own_is_free x own =
    by_test (bytes_eq x depth_name) (λ is. no (ap rule.is_own_name (sym ((bytes_eq-Decides x depth_name).0 is)) ∙ own)) (λ is. is)
  where
    no : rule.is_own_name depth_name ≡ true → bytes_eq x depth_name ≡ false
    no e = cc

abbrev pub IsFree : tree.Item → Type 0
IsFree item = bytes_eq (name_of item) depth_name ≡ false

-- the second rule, of each item
abbrev pub AreNamed : List tree.Item → Type 0
AreNamed items = AllByRecursion (λ (item : tree.Item). rule.file_name_is_free item ≡ true) items

pub are_named : (unit : List tree.Item) (k : ℕ) (items : List tree.Item) → ItemsHold unit k items → AreNamed items
are_named unit k [] hold = tt
are_named unit k (x ∷ items) hold = (
  (both_hold (rule.file_name_is_free x) (list_all rule.is_own_name (rule.local_names x)) hold.0.0.1.0).0,
  are_named unit (k + 1) items hold.1,
)

no_variable : (items : List tree.Item) → AreNamed items → (n : ℕ) → named depth_name (filter_map scope.variable_of (take n items)) ≡ None
no_variable items free zero = refl
no_variable [] free (suc n) = refl
no_variable (tree.Array name count bytes ∷ items) free (suc n) = no_variable items free.1 n
no_variable (tree.Var ty name number ∷ items) free (suc n) =
    ap (λ b. if b then Some ty else named depth_name (filter_map scope.variable_of (take n items))) (own_is_free name free.0)
    ∙ no_variable items free.1 n
no_variable (tree.Function f ∷ items) free (suc n) = no_variable items free.1 n

-- ---- statements

module _ (ρ : Renaming) (u : ℕ) (s : Scope) (none : named depth_name (file_variables s) ≡ None) where
  abbrev Used : List Name → Type 0
  Used names = Each (ρ.uses u) names

  free : (x : Name) (t : CType) → named x (file_variables s) ≡ Some t → bytes_eq x depth_name ≡ false
  free x t there = by_test (bytes_eq x depth_name)
      (λ is. no (sym none ∙ subst (λ (y : Name). named y (file_variables s) ≡ Some t) ((bytes_eq-Decides x depth_name).0 is) there))
      (λ is. is)
    where
      no : None ≡ Some t → bytes_eq x depth_name ≡ false
      no e = cc

  kept_uses : (uses : List rule.Use) → Used (functions_of uses) → AllByRecursion (KeptUse ρ u) uses
  kept_uses [] used = tt
  kept_uses (rule.AsVariable x ∷ uses) used = (tt, kept_uses uses used)
  kept_uses (rule.AsArray x ∷ uses) used = (tt, kept_uses uses used)
  kept_uses (rule.AsFunction x ∷ uses) used = (used.0, kept_uses uses used.1)

  kept_stmts : (k : ℕ) (stmts : List tree.Stmt) → Used (flat_map stmt_functions stmts) → StmtsHold s k stmts
      → text.Each (KeptStmt ρ u) stmts
  kept_stmts k [] used hold = tt
  kept_stmts k (stmt ∷ stmts) used hold =
      let two = all_split (λ (x : Name). ρ.uses u x ≡ true) (stmt_functions stmt) (flat_map stmt_functions stmts) used in
      let known : list_all (rule.is_known s) (rule.stmt_uses stmt) ≡ true = hold.0.1.1.1.0 in
      let suits : rule.stmt_suits s stmt ≡ true = sym (ap (λ b. not b || rule.stmt_suits s stmt) known) ∙ hold.0.1.1.1.1.1.0 in
      (kept_stmt ρ u s free stmt (kept_uses (rule.stmt_uses stmt) two.0) known suits, kept_stmts (k + 1) stmts two.1 hold.1)

-- ---- items

module _ (ρ : Renaming) (u : ℕ) (stays : Name → Bool) where
  -- the functions that it names are used, where it stays
  abbrev pub NamesUsed : tree.Item → Type 0
  NamesUsed (tree.Array name count bytes) = ⊤
  NamesUsed (tree.Var ty name number) = ⊤
  NamesUsed (tree.Function f) = stays f.name ≡ true → Each (ρ.uses u) (body_functions f.body)

module _ (ρ : Renaming) (u : ℕ) (stays : Name → Bool) (unit : List tree.Item) (all_named : AreNamed unit) where
  abbrev Used' : tree.Item → Type 0
  Used' item = NamesUsed ρ u stays item

  kept_item : (k : ℕ) (item : tree.Item) → Used' item → rule.file_name_is_free item ≡ true → TextHolds unit k item → KeptItem ρ u stays item
  kept_item k (tree.Array name count bytes) used free hold = own_is_free name free
  kept_item k (tree.Var ty name number) used free hold = own_is_free name free
  kept_item k (tree.Function f) used free hold = by (stays f.name) f.body used hold
    where
      by : (b : Bool) (o : Option tree.Body) → (b ≡ true → Each (ρ.uses u) (body_functions o)) → BodyHolds unit k f o
          → KeptBody ρ u stays b o
      by false o used hold = tt
      by true None used hold = tt
      by true (Some b) used hold = kept_stmts ρ u (scope_at unit k f b) (no_variable unit all_named (k + 1)) 0 b.stmts (used refl) hold

  pub kept_items : (k : ℕ) (items : List tree.Item) → AllByRecursion Used' items → AreNamed items → ItemsHold unit k items
      → text.Each (KeptItem ρ u stays) items
  kept_items k [] used free hold = tt
  kept_items k (x ∷ items) used free hold = (kept_item k x used.0 free.0 hold.0.1, kept_items (k + 1) items used.1 free.1 hold.1)
