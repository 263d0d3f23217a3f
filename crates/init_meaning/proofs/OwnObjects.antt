-- Changes of the objects of the module that is instantiated, and of its unit: the modules before it stay ready.
use Rattle.init_meaning.proofs.Common.{◌≡◌, ℕ, zero, suc, ◌<◌, ◌≢◌, ◌⊎◌, List, [], ◌∷◌, slice_get, slice_set, Some, None, Option, sym, refl}
use Rattle.init_meaning.proofs.Common.{ap, ◌∙◌, subst, inl, inr, arith, same_Some, AllByRecursion, if_found, named, Trail, Module}
use Rattle.init_meaning.proofs.Common.{LinkedSet, ModuleFunc, module_at, Program, still_all, agrees_set, pointers_kept, with_unit}
use Rattle.init_meaning.proofs.Common.{IsCallable, IsCallableIfAny, IsMade, ObjectsAgree, PointersAreSet, Together, pointer_name}
use Rattle.wasm_meaning.specs.LinkedSet.{FuncAddress, HostFunc}
use Rattle.wasm_meaning.specs.Store as store
use Rattle.c_meaning.specs.State as state
use Rattle.c_init.proofs.Small.{same_or_less}

pub set_others : {A : Type 0} (xs : List A) (k j : ℕ) (y : A) → j ≢ k → slice_get (slice_set xs k y) j ≡ slice_get xs j
set_others [] k j y differ = refl
set_others (z ∷ xs) zero zero y differ = absurd (differ refl)
set_others (z ∷ xs) zero (suc j) y differ = refl
set_others (z ∷ xs) (suc k) zero y differ = refl
set_others (z ∷ xs) (suc k) (suc j) y differ = set_others xs k j y (λ e. differ (ap suc e))

-- of the modules before it
pub own_kept : (p : Program) (s : LinkedSet) (u : ℕ) (m : state.Machine) (made : store.Store) (trail : Trail) (o new : store.Objects)
    (other : state.Objects) → slice_get made u ≡ Some o → ObjectsAgree p s u new other
    → ((table : store.Table) → new.table ≡ Some table → AllByRecursion (IsCallableIfAny s u) table.elements)
    → Together p s u 0 m made trail → Together p s u 0 (with_unit m u other) (slice_set made u new) trail
own_kept p s u m made trail o new other at agree callable t = record {
  agrees = agrees_set p s m made trail u new other agree t.agrees;
  ready = record {
    pointers = λ v tree less is. pointers_kept s v tree m (with_unit m u other)
        (λ object. ap (λ (found : Option state.Objects). if_found found (λ o. named (pointer_name object) o.vars))
        (set_others m.units u v other (omega (arith, less)))) (t.ready.pointers v tree less is);
    objects = λ v tree less is. let r = t.ready.objects v tree less is in (r.0, set_others made u v new (omega (arith, less)) ∙ r.1, r.2);
    elements = λ v. still_all (λ (table : store.Table). AllByRecursion (IsCallableIfAny s u) table.elements)
        (λ (o : store.Objects). o.table) made u v new callable (t.ready.elements v);
  };
  depth_is = t.depth_is;
}

-- ---- one module more is ready

callable_more : (s : LinkedSet) (count : ℕ) (f : FuncAddress) → IsCallable s count f → IsCallable s (suc count) f
callable_more s count (ModuleFunc owner index) h = record
    { early = omega (arith, h.early); tree = h.tree; tree_is = h.tree_is; defined = h.defined }
callable_more s count (HostFunc host function) h = h

elements_more : (s : LinkedSet) (count : ℕ) (elements : List (Option FuncAddress)) → AllByRecursion (IsCallableIfAny s count) elements
    → AllByRecursion (IsCallableIfAny s (suc count)) elements
elements_more s count [] all = tt
elements_more s count (None ∷ elements) all = (tt, elements_more s count elements all.1)
elements_more s count (Some f ∷ elements) all = (callable_more s count f all.0, elements_more s count elements all.1)

pub more_ready : (p : Program) (s : LinkedSet) (u : ℕ) (tree : Module) (m : state.Machine) (made : store.Store) (trail : Trail)
    (o : store.Objects) → module_at s u ≡ Some tree → slice_get made u ≡ Some o → IsMade tree o → PointersAreSet s u tree m
    → Together p s u 0 m made trail → Together p s (suc u) 0 m made trail
more_ready p s u tree m made trail o tree_is at is_made set t = record {
  agrees = t.agrees;
  ready = record {
    pointers = λ v other less is. pointers v other is (same_or_less v u less);
    objects = λ v other less is. objects v other is (same_or_less v u less);
    elements = λ v table is. elements_more s u table.elements (t.ready.elements v table is);
  };
  depth_is = t.depth_is;
}
  where
    pointers : (v : ℕ) (other : Module) → module_at s v ≡ Some other → (v ≡ u) ⊎ (v < u) → PointersAreSet s v other m
    pointers v other is (inl same) =
        let tree_same : tree ≡ other = same_Some tree other (sym tree_is ∙ subst (λ k. module_at s k ≡ Some other) same is) in
        subst (λ k. PointersAreSet s k other m) (sym same) (subst (λ x. PointersAreSet s u x m) tree_same set)
    pointers v other is (inr less) = t.ready.pointers v other less is

    objects : (v : ℕ) (other : Module) → module_at s v ≡ Some other → (v ≡ u) ⊎ (v < u)
        → (o : store.Objects) × (slice_get made v ≡ Some o) × IsMade other o
    objects v other is (inl same) =
        let tree_same : tree ≡ other = same_Some tree other (sym tree_is ∙ subst (λ k. module_at s k ≡ Some other) same is) in
        (o, ap (slice_get made) same ∙ at, subst (λ x. IsMade x o) tree_same is_made)
    objects v other is (inr less) = t.ready.objects v other less is
