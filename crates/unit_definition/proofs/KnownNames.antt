-- What a unit declares for its bodies: every name that they use is found with its type.
use Rattle.unit_definition.proofs.Common.{◌≡◌, ℕ, zero, suc, ◌+◌, ◌-◌, ◌<◌, ◌≤◌, Bool, false, ◌≢◌, List, [], ◌∷◌, ◌++◌, map, length}
use Rattle.unit_definition.proofs.Common.{is_some, slice_get, Some, None, filter, zip, flat_map, bytes_eq, sym, refl, ap, ◌∙◌, subst, arith}
use Rattle.unit_definition.proofs.Common.{filter_map-append, same_Some, slice_get_within, range_with_len, named, ValType, global_of_import}
use Rattle.unit_definition.proofs.Common.{is_global_import, Import, ImportKind, ImportFunc, ImportGlobal, ImportMemory, ImportTable, Name}
use Rattle.unit_definition.proofs.Common.{variable_of, CType, bytes_equal, past_none, vars_in, class, classes_differ, named_in, add-zero}
use Rattle.c_tree.specs.Tree as tree
use Rattle.unit_definition.proofs.Sections.{AllClass}
use Rattle.c_init.proofs.Small.{some_same}

-- ---- looking names up in lists of items

vars-append : (xs ys : List tree.Item) → vars_in (xs ++ ys) ≡ vars_in xs ++ vars_in ys
vars-append xs ys = filter_map-append variable_of xs ys

-- where no name is the one, none is found
pub no_var : (q : Name) (k : ℕ) (items : List tree.Item) → AllClass k items → k ≢ class q → named q (vars_in items) ≡ None
no_var q k [] all ne = refl
no_var q k (tree.Array name count bytes ∷ items) all ne = no_var q k items all.1 ne
no_var q k (tree.Var t name number ∷ items) all ne = rw (classes_differ name q (λ e. ne (sym all.0 ∙ e))) (no_var q k items all.1 ne)
no_var q k (tree.Function f ∷ items) all ne = no_var q k items all.1 ne

pub past_vars : (q : Name) (xs ys : List tree.Item) → named q (vars_in xs) ≡ None → named q (vars_in (xs ++ ys)) ≡ named q (vars_in ys)
past_vars q xs ys e = ap (named q) (vars-append xs ys) ∙ past_none q (vars_in xs) (vars_in ys) e

pub in_vars : (q : Name) (xs ys : List tree.Item) (t : CType) → named q (vars_in xs) ≡ Some t → named q (vars_in (xs ++ ys)) ≡ Some t
in_vars q xs ys t e = ap (named q) (vars-append xs ys) ∙ named_in q (vars_in xs) (vars_in ys) t e

-- ---- numbered variables

abbrev variable : CType → Name → tree.Item
variable t name = tree.Var t name None

-- the variable with a number
pub numbered_var : {A : Type 0} (ty : A → CType) (name : ℕ → Name) (u k i : ℕ) (xs : List A) (x : A)
    → ((p q : ℕ) → p < u → q < u → p ≢ q → bytes_eq (name p) (name q) ≡ false)
    → slice_get xs i ≡ Some x → k + length xs ≤ u
    → named (name (k + i)) (vars_in (map (λ (g : ℕ × A). variable (ty g.1) (name g.0)) (zip (range_with_len k (length xs)) xs)))
    ≡ Some (ty x)
numbered_var ty name u k i [] x gives e few = absurd cc
numbered_var ty name u k zero (y ∷ xs) x gives e few =
    rw (ap (bytes_eq (name k)) (ap name (add-zero k)) ∙ bytes_equal (name k)) (ap (λ z. Some (ty z)) (same_Some y x e))
numbered_var ty name u k (suc i) (y ∷ xs) x gives e few =
    let low = slice_get_within xs i x e in
    rw (gives k (k + suc i) (omega (arith, few)) (omega (arith, few, low)) (λ f. absurd (omega (arith, f))))
    (subst (λ n. named (name n) (vars_in (map (λ g. variable (ty g.1) (name g.0)) (zip (range_with_len (k + 1) (length xs)) xs)))
    ≡ Some (ty x)) (shift k i)
    (numbered_var ty name u (k + 1) i xs x gives e (omega (arith, few))))
  where
    shift : (k i : ℕ) → k + 1 + i ≡ k + suc i
    shift k i = omega arith

-- ---- index spaces: imports first

pub get_past : {A : Type 0} (xs ys : List A) (k : ℕ) → is_some (slice_get xs k) ≡ false
    → (slice_get (xs ++ ys) k ≡ slice_get ys (k - length xs)) × (length xs ≤ k)
get_past [] ys k e = (ap (slice_get ys) (none k), omega arith)
  where
    none : (k : ℕ) → k ≡ k - 0
    none k = omega arith
get_past (x ∷ xs) ys zero e = absurd cc
get_past (x ∷ xs) ys (suc k) e = let h = get_past xs ys k e in (h.0 ∙ ap (slice_get ys) (down k (length xs)), omega (arith, h.1))
  where
    down : (k n : ℕ) → k - n ≡ suc k - suc n
    down k n = omega arith

-- the imported globals by index
pub imported_global : (imports : List Import) (k : ℕ) (i : Import) → slice_get (filter is_global_import imports) k ≡ Some i
    → (mutable : Bool) × (ty : ValType) × (slice_get (flat_map global_of_import imports) k ≡ Some (ty, mutable))
    × (i.kind ≡ ImportGlobal ty mutable)
imported_global [] k i e = absurd cc
imported_global (x ∷ imports) k i e = by x.kind refl k e (imported_global imports)
  where
    by : (kind : ImportKind) → x.kind ≡ kind → (k : ℕ)
        → slice_get (filter is_global_import (record x { kind = kind } ∷ imports)) k ≡ Some i
        → ((k : ℕ) (i : Import) → slice_get (filter is_global_import imports) k ≡ Some i
        → (mutable : Bool) × (ty : ValType) × (slice_get (flat_map global_of_import imports) k ≡ Some (ty, mutable))
        × (i.kind ≡ ImportGlobal ty mutable))
        → (mutable : Bool) × (ty : ValType)
        × (slice_get (flat_map global_of_import (record x { kind = kind } ∷ imports))
        k ≡ Some (ty, mutable)) × (i.kind ≡ ImportGlobal ty mutable)
    by (ImportFunc f) s k e rest = rest k i e
    by (ImportTable l) s k e rest = rest k i e
    by (ImportMemory l) s k e rest = rest k i e
    by (ImportGlobal ty mutable) s zero e rest = (mutable, ty, refl, sym (ap (λ (j : Import). j.kind) (some_same e)))
    by (ImportGlobal ty mutable) s (suc k) e rest = rest k i e

pub get_late : {A : Type 0} (xs ys : List A) (k : ℕ) → length xs ≤ k → slice_get (xs ++ ys) k ≡ slice_get ys (k - length xs)
get_late [] ys k le = ap (slice_get ys) (none k)
  where
    none : (k : ℕ) → k ≡ k - 0
    none k = omega arith
get_late (x ∷ xs) ys zero le = absurd (omega arith)
get_late (x ∷ xs) ys (suc k) le = get_late xs ys k (omega arith) ∙ ap (slice_get ys) (down k (length xs))
  where
    down : (k n : ℕ) → k - n ≡ suc k - suc n
    down k n = omega arith
