-- Names that are none of the runtime's.
use Rattle.unit_rules.proofs.Common.{◌≡◌, ℕ, true, false, ◌≢◌, List, [], ◌∷◌, ◌==◌, None, bytes_eq, sym, refl, ap, ◌∙◌, arith, false≢true}
use Rattle.unit_rules.proofs.Common.{bytes_eq-Decides, both_hold, all_weaker, named, export_symbol_of-parts, export_symbol_of, SymbolKind}
use Rattle.unit_rules.proofs.Common.{is_runtime_name, Name, name_of, funcs_in, vars_in, class, by_test, AllClass}
use Rattle.c_tree.specs.Tree as tree
use Rattle.unit_rules.proofs.Clashes.{NoRuntime, other_class}

-- a name of the runtime has the class of symbols
runtime_class : (n : Name) → is_runtime_name n ≡ true → class n ≡ 6
runtime_class [] e = absurd cc
runtime_class (c ∷ []) e = absurd (false≢true (both_hold (119 == c) false e).1)
runtime_class (c ∷ d ∷ rest) e = rw (turned c (both_hold (119 == c) _ e).0) refl
  where
    turned : (c : ℕ) → 119 == c ≡ true → c == 119 ≡ true
    turned c e = grind arith

-- names of another class
pub other_classes : (k : ℕ) (items : List tree.Item) → k == 6 ≡ false → AllClass k items → NoRuntime items
other_classes k items ne h = all_weaker (λ o. class (name_of o) ≢ 6) (λ o. is_runtime_name (name_of o) ≡ false) items
    (λ o no. by_test (is_runtime_name (name_of o)) (λ e. absurd (no (runtime_class (name_of o) e))) (λ e. e)) (other_class k 6 items ne h)

pub symbol_no_runtime : (m : List ℕ) (k : SymbolKind) (n : List ℕ) → is_runtime_name (export_symbol_of m k n) ≡ false
symbol_no_runtime m k n = ap is_runtime_name (export_symbol_of-parts m k n)

runtime_differs : (n q : Name) → is_runtime_name n ≡ false → is_runtime_name q ≡ true → bytes_eq n q ≡ false
runtime_differs n q f g = by_test (bytes_eq n q)
    (λ e. absurd (false≢true (sym f ∙ (ap is_runtime_name ((bytes_eq-Decides n q).0 e) ∙ g)))) (λ e. e)

pub not_named : (q : Name) (items : List tree.Item) → is_runtime_name q ≡ true → NoRuntime items
    → (named q (funcs_in items) ≡ None) × (named q (vars_in items) ≡ None)
not_named q [] r h = (refl, refl)
not_named q (tree.Array name count bytes ∷ items) r h = not_named q items r h.1
not_named q (tree.Var t name number ∷ items) r h = let rest = not_named q items r h.1 in (rest.0, rw (runtime_differs name q h.0 r) rest.1)
not_named q (tree.Function f ∷ items) r h = let rest = not_named q items r h.1 in (rw (runtime_differs f.name q h.0 r) rest.0, rest.1)
