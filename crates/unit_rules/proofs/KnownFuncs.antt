-- Types of functions that are declared, and names among others.
use Rattle.unit_rules.proofs.Common.{◌≡◌, ℕ, zero, suc, Bool, true, false, ◌||◌, List, [], ◌∷◌, map, if◌then◌else◌, slice_get, Some, None}
use Rattle.unit_rules.proofs.Common.{Contains, filter, flat_map, bytes_eq, sym, refl, ap, ◌∙◌, subst, or_left, or_right, false≢true, all_at}
use Rattle.unit_rules.proofs.Common.{bytes_eq-Decides, AllByRecursion, list_any, get_mapped, all_from, ValType, func_of_import, Import, at}
use Rattle.unit_rules.proofs.Common.{is_func_import, ImportKind, ImportFunc, Name, func_type_of, is_among, c_params_of, c_type_of, CType}
use Rattle.unit_rules.proofs.Common.{bytes_equal, Typed, firsts, params_of, get_kept, all_pass, some_same, same_or_more, range_with_len}
use Rattle.unit_rules.proofs.Common.{inl, inr, arith, ◌+◌, ◌<◌, ◌≤◌}
use Rattle.std.proofs.lemmas.Map.Views.{Contains-from_any}
use Rattle.c_tree.specs.Tree as tree
use Rattle.body_forms.specs.Variables.{params_from}

-- ---- types of declarations

pub without_names : (params : List tree.Param) → map (λ (p : tree.Param). p.0) (map (λ (p : tree.Param). (p.0, None)) params) ≡ map
    (λ (p : tree.Param). p.0) params
without_names [] = refl
without_names (p ∷ params) = ap (λ ts. p.0 ∷ ts) (without_names params)

types_from : (k : ℕ) (types : List ValType) → map (λ (p : tree.Param). p.0) (params_from k types) ≡ map c_type_of types
types_from k [] = refl
types_from k (t ∷ types) = ap (λ ts. c_type_of t ∷ ts) (types_from (suc k) types)

pub param_types : (types : List ValType) → map (λ (p : tree.Param). p.0) (params_of types) ≡ c_params_of types
param_types [] = refl
param_types (t ∷ types) = types_from 0 (t ∷ types)

params_back : (types : List CType) → map (λ (p : tree.Param). p.0) (map (λ t. (t, None)) types) ≡ types
params_back [] = refl
params_back (t ∷ types) = ap (λ ts. t ∷ ts) (params_back types)

-- what is declared of a symbol
abbrev pub declared_func : Typed → tree.Func
declared_func s = record { is_static = false; result = s.1.result; name = s.0; params = map (λ t. (t, None)) s.1.params; body = None }

pub declared_typed : (s : Typed) → func_type_of (declared_func s) ≡ s.1
declared_typed s = ap (λ ps. record { params = ps; result = s.1.result }) (params_back s.1.params)

-- ---- what a list has

pub any_at : {A : Type 0} (test : A → Bool) (xs : List A) (i : ℕ) (x : A) → slice_get xs i ≡ Some x → test x ≡ true
    → list_any test xs ≡ true
any_at test [] i x at e = absurd cc
any_at test (y ∷ xs) zero x at e = or_left (test y) (list_any test xs) (ap test (some_same at) ∙ e)
any_at test (y ∷ xs) (suc i) x at e = or_right (test y) (list_any test xs) (any_at test xs i x at e)

-- what is made of each number of a range stands at some place
pub get_range : {A : Type 0} (f : ℕ → A) (a n k : ℕ) → a ≤ k → k < a + n
    → (i : ℕ) × (slice_get (map f (range_with_len a n)) i ≡ Some (f k))
get_range f a zero k low high = absurd (omega (arith, low, high))
get_range f a (suc n) k low high = elim (same_or_more a k low) [
  | inl same ↦ (0, ap (λ j. Some (f j)) same)
  | inr more ↦ let rest = get_range f (a + 1) n k more (omega (arith, high)) in (suc rest.0, rest.1)
]

pub self_among : (names : List Name) → AllByRecursion (λ n. is_among n names ≡ true) names
self_among names = all_from _ names (λ i n at. any_at (bytes_eq n) names i n at (bytes_equal n))

pub among_contained : (q : Name) (names : List Name) → is_among q names ≡ true → Contains names q
among_contained q names e = Contains-from_any {eq = bytes_eq} (λ x y f. (bytes_eq-Decides x y).0 f) q names e

-- what is kept was there, and passes the test
pub kept_among : {A : Type 0} (f : A → Name) (test : A → Bool) (xs : List A) (k : ℕ) (x : A) → slice_get (filter test xs) k ≡ Some x
    → (is_among (f x) (map f xs) ≡ true) × (test x ≡ true)
kept_among f test xs k x e =
    let there = get_kept test xs k x e in (
      any_at (bytes_eq (f x)) (map f xs) there.0 (f x) (get_mapped f xs there.0 x there.1) (bytes_equal (f x)),
      all_at (λ y. test y ≡ true) (filter test xs) k x (all_pass test xs) e,
    )

-- the first ones have every name
pub firsts_have : (q : Name) (seen names : List Name) → is_among q names ≡ true → is_among q seen ≡ false
    → is_among q (firsts seen names) ≡ true
firsts_have q seen [] e f = absurd cc
firsts_have q seen (n ∷ names) e f = by (bytes_eq q n) refl (is_among n seen) refl e (λ g. firsts_have q seen names g f)
    (λ g h. firsts_have q (n ∷ seen) names g h)
  where
    by : (same : Bool) → bytes_eq q n ≡ same → (was : Bool) → is_among n seen ≡ was → same || is_among q names ≡ true
        → (is_among q names ≡ true → is_among q (firsts seen names) ≡ true)
        → (is_among q names ≡ true → is_among q (n ∷ seen) ≡ false → is_among q (firsts (n ∷ seen) names) ≡ true)
        → is_among q (if was then firsts seen names else n ∷ firsts (n ∷ seen) names) ≡ true
    by true s true w g rest more = absurd (false≢true (sym (subst (λ z. is_among z seen ≡ false) ((bytes_eq-Decides q n).0 s) f) ∙ w))
    by true s false w g rest more = or_left (bytes_eq q n) (is_among q (firsts (n ∷ seen) names)) s
    by false s true w g rest more = rest g
    by false s false w g rest more = or_right (bytes_eq q n) (is_among q (firsts (n ∷ seen) names)) (more g (rw (s, f) refl))

pub imported_func : (imports : List Import) (k : ℕ) (i : Import) → slice_get (filter is_func_import imports) k ≡ Some i
    → (x : ℕ) × (slice_get (flat_map func_of_import imports) k ≡ Some x) × (i.kind ≡ ImportFunc x)
imported_func [] k i e = absurd cc
imported_func (z ∷ imports) k i e = by z.kind k e (imported_func imports)
  where
    by : (kind : ImportKind) (k : ℕ) → slice_get (filter is_func_import (record z { kind = kind } ∷ imports)) k ≡ Some i
        → ((k : ℕ) (i : Import) → slice_get (filter is_func_import imports) k ≡ Some i
        → (x : ℕ) × (slice_get (flat_map func_of_import imports) k ≡ Some x) × (i.kind ≡ ImportFunc x))
        → (x : ℕ) × (slice_get (flat_map func_of_import (record z { kind = kind } ∷ imports)) k ≡ Some x) × (i.kind ≡ ImportFunc x)
    by (ImportFunc f) zero e rest = (f, refl, sym (ap (λ (j : Import). j.kind) (some_same e)))
    by (ImportFunc f) (suc k) e rest = rest k i e
    by _ k e rest = rest k i e
