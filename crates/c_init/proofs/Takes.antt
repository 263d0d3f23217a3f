-- What the init function does for imports.
use Rattle.c_init.proofs.Common.{◌≡◌, ℕ, zero, suc, ◌<◌, ◌≤◌, Bool, true, false, not, List, [], ◌∷◌, ◌++◌, length, drop, if◌then◌else◌}
use Rattle.c_init.proofs.Common.{Some, None, filter, sym, refl, ap, ◌∙◌, append-nil, arith, drop_all, is_func_import, is_global_import}
use Rattle.c_init.proofs.Common.{Import, ImportKind, ImportFunc, ImportGlobal, Name, NamedModule, import_symbol, is_usable, label_name}
use Rattle.c_init.proofs.Common.{pointer_name, limits_label, n64, set_pointer, size_name, take_stmts, takes_from, test_min, pointer_set}
use Rattle.c_tree.specs.Tree as tree
use Rattle.c_tree.specs.declared.tree.COp.TheVariants as op
use Rattle.c_symbols.specs.Reached.{usable_symbol}
use Rattle.c_init.specs.Init.{primitive}

pub least_there : (object len_of : Name) (unit min : ℕ) → 0 < min
    → primitive (Some size_name) len_of (tree.Value (tree.Name (pointer_name object)) ∷ []) ∷ tree.If op.Lt
    (tree.Op op.Div (tree.Name size_name) (n64 unit)) (n64 min) (label_name limits_label) ∷ []
    ≡ test_min object len_of unit min
least_there object len_of unit zero h = absurd (omega (arith, h))
least_there object len_of unit (suc min) h = refl

pub least_none : (object len_of : Name) (unit min : ℕ) → min ≤ 0 → [] ≡ test_min object len_of unit min
least_none object len_of unit zero h = refl
least_none object len_of unit (suc min) h = absurd (omega (arith, h))

pub pointer_is_set : (m : NamedModule) (i : Import) (object : Name) → pointer_set (usable_symbol m i) object ≡ set_pointer m i object
pointer_is_set m i object = at (is_usable m i)
  where
    at : (b : Bool) → pointer_set (if b then Some (import_symbol i) else None)
        object ≡ (if b then tree.Call (Some (pointer_name object)) (tree.Called (import_symbol i)) [] else tree.Null)
    at true = refl
    at false = refl

-- imported functions take nothing, and have no number
func_takes_nothing : (m : NamedModule) (number : ℕ) (i : Import) → is_func_import i ≡ true → take_stmts m number i ≡ []
func_takes_nothing m number i is = at i.kind refl is
  where
    at : (k : ImportKind) → i.kind ≡ k → is_func_import i ≡ true → take_stmts m number i ≡ []
    at (ImportFunc t) e h = rw e refl
    at _ e h = let off : is_func_import i ≡ false = rw e refl in cc

func_is_no_global : (i : Import) → is_func_import i ≡ true → is_global_import i ≡ false
func_is_no_global i is = at i.kind refl is
  where
    at : (k : ImportKind) → i.kind ≡ k → is_func_import i ≡ true → is_global_import i ≡ false
    at (ImportGlobal t mutable) e h = let off : is_func_import i ≡ false = rw e refl in cc
    at _ e h = rw e refl

pub takes_all : (m : NamedModule) (number : ℕ) (imports : List Import)
    → takes_from m number (filter (λ i. not (is_func_import i)) imports) ≡ takes_from m number imports
takes_all m number [] = refl
takes_all m number (i ∷ imports) = at (is_func_import i) refl (λ n. takes_all m n imports)
  where
    at : (b : Bool) → is_func_import i ≡ b → ((n : ℕ)
        → takes_from m n (filter (λ j. not (is_func_import j)) imports) ≡ takes_from m n imports)
        → takes_from m number (if not b then i ∷ filter (λ j. not (is_func_import j)) imports else filter
        (λ j. not (is_func_import j)) imports) ≡ takes_from m number (i ∷ imports)
    at true e rest =
        rest number
        ∙ ap (λ g. takes_from m (if g then suc number else number) imports) (sym (func_is_no_global i e))
        ∙ ap (λ ys. ys ++ takes_from m (if is_global_import i then suc number else number) imports) (sym (func_takes_nothing m number i e))
    at false e rest = ap (λ ys. take_stmts m number i ++ ys) (rest (if is_global_import i then suc number else number))

pub takes_end : (m : NamedModule) (before after : List tree.Stmt) (number : ℕ) (xs items : List Import) (i : ℕ) → items ≡ xs
    → length items ≤ i
    → after ++ takes_from m number (drop i xs) ≡ before ++ takes_from m 0 xs
    → after ≡ before ++ takes_from m 0 (filter (λ j. not (is_func_import j)) xs)
takes_end m before after number xs items i same past so_far =
    let end : length xs ≤ i = omega (arith, past, ap length same) in
    sym (append-nil after) ∙ ap (λ ys. after ++ takes_from m number ys) (sym (drop_all i xs end)) ∙ so_far
    ∙ ap (λ ys. before ++ ys) (sym (takes_all m 0 xs))
