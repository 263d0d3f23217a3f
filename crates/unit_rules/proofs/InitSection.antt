-- A function with the init function's variables, which is that function or a part of it, keeps the rules and is well formed, where its
-- statements do.
use Rattle.unit_rules.proofs.Common.{◌≡◌, Bool, true, false, ◌||◌, List, [], ◌∷◌, ◌++◌, map, length, if◌then◌else◌, nat_le, refl, arith}
use Rattle.unit_rules.proofs.Common.{AllByRecursion, list_any, all_weaker, named, NamedModule, Module, are_distinct, is_own_name, is_symbol}
use Rattle.unit_rules.proofs.Common.{labels_of, Name, Scope, FitsNum, IsName, CType, function_named, ends_well, class, byte_name, has_bytes}
use Rattle.unit_rules.proofs.Common.{local_if, size_name, tests_bounds, tests_limits, items, IsAccepted, own_func, own_locals}
use Rattle.c_tree.specs.Tree as tree
use Rattle.unit_rules.proofs.FormedSections.{IsFormed, unit_named}
use Rattle.unit_rules.proofs.InitForms.{IsGood}
use Rattle.unit_rules.proofs.InitNumbers.{zero_fits}
use Rattle.unit_rules.proofs.ItemRules.{IsWhole, Keeps, func_tested, function_keeps, names_of_vars}

abbrev pub own_scope : List tree.Item → Bool → Name → Module → List tree.Stmt → Scope
own_scope declared static name m stmts =
    record { declared = declared; func = own_func static name m stmts; body = record { locals = own_locals m; stmts = stmts } }

-- by the variables that are there
by_locals : (P : List tree.Local → Type 0) → P (local_if true size_name ++ local_if true byte_name) → P (local_if true size_name)
    → P (local_if true byte_name) → P [] → (m : Module) → P (own_locals m)
by_locals P both size byte none m = by (tests_limits m || tests_bounds m) (list_any has_bytes m.segments)
  where
    by : (b c : Bool) → P (local_if b size_name ++ local_if c byte_name)
    by true true = both
    by true false = size
    by false true = byte
    by false false = none

abbrev vars : List tree.Local → List (Name × CType)
vars locals = map (λ (l : tree.Local). (l.1, l.0)) locals

module _ (m : NamedModule) (a : IsAccepted m) (static : Bool) (name : Name) (stmts : List tree.Stmt) where
  abbrev t : Module
  t = m.tree

  abbrev x : tree.Item
  x = tree.Function (own_func static name t stmts)

  pub own_keeps : (if static then is_own_name name else is_symbol name) ≡ true → nat_le 1 (length stmts) ≡ true
      → are_distinct (labels_of stmts) ≡ true → ends_well stmts ≡ true → (before behind : List tree.Item)
      → (IsWhole m (before ++ x ∷ behind) → AllByRecursion (IsGood (own_scope (before ++ x ∷ []) static name t stmts)) stmts)
      → Keeps m before x behind
  own_keeps free some labels ends before behind good =
      function_keeps m (own_func static name t stmts) (record { locals = own_locals t; stmts = stmts }) refl before behind
      (λ whole. record {
        tested = by_locals (λ ls. func_tested (own_func static name t stmts) (record { locals = ls; stmts = stmts }) ≡ true)
            (rw (free, some) refl) (rw (free, some) refl) (rw (free, some) refl) (rw (free, some) refl) t;
        own_class = by_locals (λ ls. AllByRecursion (λ n. class n ≡ 9) (names_of_vars (vars ls))) (refl, (refl, tt)) (refl, tt)
            (refl, tt) tt t;
        passes = all_weaker _ _ stmts (λ stmt h. h.0) (good whole);
        labels = labels;
        ends = ends;
      })

  pub own_formed : IsName name → AllByRecursion IsName (labels_of stmts)
      → AllByRecursion (IsGood (own_scope (items m) static name t stmts)) stmts → IsFormed x
  own_formed named labels good = (
    function_named (items m) (own_func static name t stmts) (record { locals = own_locals t; stmts = stmts }) refl named (unit_named m a)
        (tt, tt) (by_locals (AllByRecursion (λ (l : tree.Local). IsName l.1)) (refl, (refl, tt)) (refl, tt) (refl, tt) tt t) labels
        (all_weaker _ _ stmts (λ stmt h. h.0) good),
    (
      omega arith,
      (
        by_locals (AllByRecursion (λ (l : tree.Local). FitsNum l.2)) (zero_fits, (zero_fits, tt)) (zero_fits, tt) (zero_fits, tt) tt t,
        all_weaker _ _ stmts (λ stmt h. h.1) good,
      ),
    ),
  )
