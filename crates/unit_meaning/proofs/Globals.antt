-- The type of a global by its index is that of what the index stands for.
use Rattle.unit_meaning.proofs.Common.{global_count, ◌≡◌, ℕ, zero, suc, ◌+◌, Bool, true, false, List, [], ◌∷◌, ◌++◌, map, length}
use Rattle.unit_meaning.proofs.Common.{if◌then◌else◌, slice_get, Some, filter, Option, option_map, flat_map, sym, refl, ap, ◌∙◌, subst}
use Rattle.unit_meaning.proofs.Common.{arith, slice_get_within, get_within, at_index, if_found, ValType, global_of_import, global_type_in}
use Rattle.unit_meaning.proofs.Common.{is_global_import, GlobalEntry, Import, ImportKind, ImportFunc, ImportGlobal, ImportMemory}
use Rattle.unit_meaning.proofs.Common.{ImportTable, Module, GlobalAddress, IsGlobal, LinkedSet, NamedModule, global_type, instances}
use Rattle.unit_meaning.proofs.Common.{module_at, get_behind, get_mapped, ResolvesAs, IsAcceptedSet}
use Rattle.w2c_base.proofs.Places.{get_before}
use Rattle.unit_meaning.proofs.Instances.{IsPlaced, spaces_at}
use Rattle.unit_meaning.proofs.Usable.{import_resolves}
use Rattle.unit_meaning.proofs.Pointers.{GlobalCase, ImportedGlobal, OwnGlobal, global_case}
use Rattle.c_init.proofs.Small.{some_same}

abbrev Typed : Type 0
Typed = ValType × Bool

abbrev is_global_kind : ImportKind → Bool
is_global_kind k = elim k [ ImportFunc t ↦ false | ImportTable l ↦ false | ImportMemory l ↦ false | ImportGlobal t mutable ↦ true ]

abbrev globals_of_kind : ImportKind → List Typed
globals_of_kind k = elim k [ ImportFunc t ↦ [] | ImportTable l ↦ [] | ImportMemory l ↦ [] | ImportGlobal t mutable ↦ (t, mutable) ∷ [] ]

abbrev Found : List Import → List Typed → ℕ → Import → Type 0
Found imports space k i = (g : Typed) × (i.kind ≡ ImportGlobal g.0 g.1) × (slice_get space k ≡ Some g)

pub imported_global : (imports : List Import) (k : ℕ) (i : Import) → slice_get (filter is_global_import imports) k ≡ Some i
    → Found imports (flat_map global_of_import imports) k i
imported_global [] k i at = absurd (cc)
imported_global (x ∷ imports) k i at =
    by x.kind refl k at (λ j at. imported_global imports j i at)
  where
    by : (kind : ImportKind) → x.kind ≡ kind → (k : ℕ) → slice_get
        (if is_global_kind kind then x ∷ filter is_global_import imports else filter is_global_import imports) k ≡ Some i
        → ((j : ℕ) → slice_get (filter is_global_import imports) j ≡ Some i → Found imports (flat_map global_of_import imports) j i)
        → Found (x ∷ imports) (globals_of_kind kind ++ flat_map global_of_import imports) k i
    by (ImportGlobal t mutable) e zero at others = let same : x ≡ i = cc in ((t, mutable), ap (λ (y : Import). y.kind) (sym same) ∙ e, refl)
    by (ImportGlobal t mutable) e (suc k) at others = others k at
    by (ImportFunc t) e k at others = others k at
    by _ e k at others = others k at

-- the type that both have
pub record GlobalTyped (s : LinkedSet) (m : NamedModule) (k : ℕ) (g : GlobalAddress) : Type 0 where
  pub ty : Typed
  pub in_module : global_type_in m.tree k ≡ Some ty
  pub in_set : global_type s g ≡ Some ty

pub global_typed : (s : LinkedSet) → IsAcceptedSet s → (v : ℕ) (m : NamedModule) → slice_get s.modules v ≡ Some m
    → (h : IsPlaced s.hosts (instances s) v m) (k : ℕ) (g : GlobalAddress) → at_index (spaces_at s v m h).globals k ≡ Some g
    → GlobalTyped s m k g
global_typed s accepted v m is h k g at = go (global_case s v m h k g at)
  where
    go : GlobalCase s v m k g → GlobalTyped s m k g
    go (ImportedGlobal i at b) =
        let f = imported_global m.tree.imports k i at in
        let r : ResolvesAs s v i (ImportGlobal f.0.0 f.0.1) =
        subst (ResolvesAs s v i) f.1 (import_resolves s accepted v m is b.place i b.is) in
        let globals : IsGlobal r.0 ≡ IsGlobal g = some_same (sym r.1 ∙ b.stands) in
        let global : r.0 ≡ g = cc in
        record {
          ty = f.0;
          in_module = get_before (flat_map global_of_import m.tree.imports) _ k
              (slice_get_within (flat_map global_of_import m.tree.imports) k f.0 f.2) ∙ f.2;
          in_set = ap (global_type s) (sym global) ∙ r.2;
        }
    go (OwnGlobal none owner_is number_is there) =
        let entry = get_within m.tree.globals g.number there in
        let front = flat_map global_of_import m.tree.imports in
        let back : List Typed = map (λ (e : GlobalEntry). (e.ty, e.mutable)) m.tree.globals in
        let e : k ≡ length front + g.number = omega (arith, number_is, global_count m.tree.imports) in
        let module_is : module_at s g.owner ≡ Some m.tree = ap (module_at s) owner_is ∙ ap (option_map (λ (m : NamedModule). m.tree)) is in
        record {
          ty = (entry.0.ty, entry.0.mutable);
          in_module = ap (slice_get (front ++ back)) e ∙ get_behind front back g.number
              ∙ get_mapped (λ (e : GlobalEntry). (e.ty, e.mutable)) m.tree.globals g.number entry.0 entry.1;
          in_set = ap (λ (x : Option Module). if_found x
              (λ (m : Module). option_map (λ (e : GlobalEntry). (e.ty, e.mutable)) (slice_get m.globals g.number))) module_is
              ∙ ap (option_map (λ (e : GlobalEntry). (e.ty, e.mutable))) entry.1;
        }
