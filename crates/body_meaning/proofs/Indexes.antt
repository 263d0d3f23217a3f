-- What a function's index stands for in a linked set: an own function, or what an import stands for; and
-- that it is a function of the modules up to this one, or a host's (WebAssembly Core 1.0, 4.2.5, 4.5.4).
use Rattle.body_meaning.proofs.Common.{◌≡◌, ℕ, zero, suc, ◌+◌, ◌<◌, true, false, cond, List, [], ◌∷◌, ◌++◌, map, length, slice_get, Some}
use Rattle.body_meaning.proofs.Common.{None, filter, Option, flat_map, sym, refl, ap, ◌∙◌, subst, inl, inr, arith, length-map, same_Some}
use Rattle.body_meaning.proofs.Common.{slice_get_within, range_with_len, all_at, at_index, if_found, FuncType, defined_behind_imports}
use Rattle.body_meaning.proofs.Common.{at_defined, func_of_import, func_space, imported_funcs, is_func_import, type_in, FuncEntry, Import}
use Rattle.body_meaning.proofs.Common.{ImportKind, ImportFunc, ImportGlobal, ImportMemory, ImportTable, Module, func_imports, IsCallable}
use Rattle.body_meaning.proofs.Common.{IsDefined}
use Rattle.w2c_base.proofs.Places.{get_front}
use Rattle.w2c_base.proofs.Lists.{get_behind, get_joined, get_mapped, get_unmapped, get_numbered, get_kept, get_none}
use Rattle.wasm_tree.proofs.ImportCounts.{func_count}
use Rattle.wasm_meaning.specs.LinkedSet as link
use Rattle.alike.proofs.LookUps.{module_is}
use Rattle.body_meaning.proofs.Spaces.{ResolvesAs, callable_later, looked_up, func_owner}

-- ---- functions by their indexes

-- what the imports stand for, and the module's own
abbrev meanings : link.LinkedSet → ℕ → link.NamedModule → List (Option link.FuncAddress)
meanings s u m = link.imports_of is_func_import link.as_func (link.import_at s u) m.tree.imports

abbrev own : ℕ → link.NamedModule → List (Option link.FuncAddress)
own u m = map (λ k. Some (link.ModuleFunc u k)) (range_with_len (imported_funcs m.tree) (length m.tree.funcs))

func_at_is : (s : link.LinkedSet) (u : ℕ) {m : link.NamedModule} (index : ℕ) → slice_get s.modules u ≡ Some m
    → link.func_at s u index ≡ at_index (meanings s u m ++ own u m) index
func_at_is s u {m} index e = looked_up (λ spaces. spaces.funcs) s u m index e

-- an own function
pub own_func : (s : link.LinkedSet) (u : ℕ) {m : link.NamedModule} (j : ℕ) → slice_get s.modules u ≡ Some m → j < length m.tree.funcs
    → link.func_at s u (imported_funcs m.tree + j) ≡ Some (link.ModuleFunc u (imported_funcs m.tree + j))
own_func s u {m} j e less =
    let a = imported_funcs m.tree in
    let imported : length (meanings s u m) ≡ a = length-map (func_imports m.tree)
    (λ (x : Import). if_found (link.import_at s u x) link.as_func) in
    let number : slice_get (range_with_len a (length m.tree.funcs)) j ≡ Some (a + j) = get_numbered a (length m.tree.funcs) j less in
    let there : slice_get (meanings s u m ++ own u m) (a + j) ≡ Some (Some (link.ModuleFunc u (a + j))) =
    ap (λ (k : ℕ). slice_get (meanings s u m ++ own u m) (k + j)) (sym imported) ∙ (get_behind (meanings s u m) (own u m) j
    ∙ get_mapped (λ (k : ℕ). Some (link.ModuleFunc u k)) (range_with_len a (length m.tree.funcs)) j (a + j) number) in
    func_at_is s u (a + j) e ∙ ap (λ (o : Option (Option link.FuncAddress)). if_found o (λ entry. entry)) there

-- an imported one
pub imported_func : (s : link.LinkedSet) (u : ℕ) {m : link.NamedModule} (k : ℕ) {x : Import} → slice_get s.modules u ≡ Some m
    → slice_get (func_imports m.tree) k ≡ Some x → link.func_at s u k ≡ if_found (link.import_at s u x) link.as_func
imported_func s u {m} k {x} e at =
    let meaning : Option link.FuncAddress = if_found (link.import_at s u x) link.as_func in
    let there : slice_get (meanings s u m) k ≡ Some meaning = get_mapped _ _ k x at in
    func_at_is s u k e ∙ ap (λ (o : Option (Option link.FuncAddress)). if_found o (λ entry. entry)) (get_front _ (own u m) k meaning there)

-- what a function's index stands for can be called, once the module is ready
pub func_callable : (s : link.LinkedSet) (count u : ℕ) {m : link.NamedModule} (index : ℕ) {f : link.FuncAddress}
    → slice_get s.modules u ≡ Some m → u < count → link.func_at s u index ≡ Some f → IsCallable s count f
func_callable s count u index {f} is less e = callable_later s (suc u) count f (omega (arith, less)) (func_owner s u index is e)

-- ---- the types of functions

-- an import of a function in the index space of types
import_in_space : (imports : List Import) (k : ℕ) {x : Import} → slice_get (filter is_func_import imports) k ≡ Some x
    → (t : ℕ) × (x.kind ≡ ImportFunc t) × (slice_get (flat_map func_of_import imports) k ≡ Some t)
import_in_space [] k e = absurd cc
import_in_space (y ∷ imports) k {x} e = by_kind y.kind refl k e (λ j h. import_in_space imports j h)
  where
    by_kind : (kind : ImportKind) → y.kind ≡ kind → (k : ℕ) → slice_get (cond (elim kind
        [ ImportFunc t ↦ true | ImportTable l ↦ false | ImportMemory l ↦ false | ImportGlobal t mutable ↦ false ])
        (y ∷ filter is_func_import imports) (filter is_func_import imports)) k ≡ Some x
        → ((j : ℕ) → slice_get (filter is_func_import imports) j ≡ Some x
        → (t : ℕ) × (x.kind ≡ ImportFunc t) × (slice_get (flat_map func_of_import imports) j ≡ Some t))
        → (t : ℕ) × (x.kind ≡ ImportFunc t) × (slice_get
        ((elim kind [ ImportFunc t ↦ t ∷ [] | ImportTable l ↦ [] | ImportMemory l ↦ [] | ImportGlobal t mutable ↦ [] ]) ++ flat_map
        func_of_import imports) k ≡ Some t)
    by_kind (ImportFunc t) is zero e more = let same : y ≡ x = cc in (t, ap (λ (z : Import). z.kind) (sym same) ∙ is, refl)
    by_kind (ImportFunc t) is (suc k) e more = more k e
    by_kind (ImportTable l) is k e more = more k e
    by_kind _ is k e more = more k e

type_is : (s : link.LinkedSet) (u : ℕ) {m : link.NamedModule} (t : ℕ) → slice_get s.modules u ≡ Some m
    → link.type_at s u t ≡ type_in m.tree t
type_is s u {m} t is = ap (λ (o : Option Module). if_found o (λ y. type_in y t)) (module_is s u m is)

-- the type of the j-th function that a module defines
pub own_type : (s : link.LinkedSet) (u : ℕ) {m : link.NamedModule} (j : ℕ) {entry : FuncEntry} → slice_get s.modules u ≡ Some m
    → slice_get m.tree.funcs j ≡ Some entry
    → link.func_type s (link.ModuleFunc u (imported_funcs m.tree + j)) ≡ type_in m.tree entry.type_index
own_type s u {m} j {entry} is at =
    let a = imported_funcs m.tree in
    ap (λ (o : Option Module). if_found o (λ y. if_found (at_defined y y.funcs (a + j))
    (λ f. link.type_at s u f.type_index))) (module_is s u m is)
    ∙ (ap (λ (o : Option FuncEntry). if_found o (λ f. link.type_at s u f.type_index))
    (defined_behind_imports m.tree m.tree.funcs (a + j) j refl)
    ∙ (ap (λ (o : Option FuncEntry). if_found o (λ f. link.type_at s u f.type_index)) at ∙ type_is s u entry.type_index is))

-- an index that is no import's is that of an own function, with the type that the context has for it
pub own_of_context : (s : link.LinkedSet) (u : ℕ) {m : link.NamedModule} (index : ℕ) {ty : FuncType} → slice_get s.modules u ≡ Some m
    → slice_get (func_imports m.tree) index ≡ None → slice_get (map (type_in m.tree) (func_space m.tree)) index ≡ Some (Some ty)
    → IsDefined m.tree index × (link.func_at s u index ≡ Some (link.ModuleFunc u index))
    × (link.func_type s (link.ModuleFunc u index) ≡ Some ty)
own_of_context s u {m} index {ty} is none typed =
    let t = get_unmapped (type_in m.tree) (func_space m.tree) index (Some ty) typed in
    let long = get_none (func_imports m.tree) index none in
    let as_long = func_count m.tree.imports in
    elim (get_joined (flat_map func_of_import m.tree.imports) (map (λ f. f.type_index) m.tree.funcs) index t.0 t.1) [
      | inl here ↦ let within = slice_get_within (flat_map func_of_import m.tree.imports) index t.0 here in
          absurd (omega (arith, within, long, as_long))
      | inr behind ↦
          let j = behind.0 in
          let entry = get_unmapped (λ (f : FuncEntry). f.type_index) m.tree.funcs j t.0 behind.2 in
          let less = slice_get_within m.tree.funcs j entry.0 entry.1 in
          let place : imported_funcs m.tree + j ≡ index = omega (arith, behind.1, as_long) in (
            record { behind = omega (arith, place); within = omega (arith, place, less) },
            subst (λ (k : ℕ). link.func_at s u k ≡ Some (link.ModuleFunc u k)) place (own_func s u j is less),
            rw (sym place) (own_type s u j is entry.1 ∙ (ap (type_in m.tree) entry.2 ∙ t.2)),
          )
    ]

-- an import's function has the type that the context has for it
pub import_of_context : {s : link.LinkedSet} (u : ℕ) {m : link.NamedModule} (index : ℕ) {x : Import} {ty : FuncType} {f : link.FuncAddress}
    → link.IsLinked s → slice_get s.modules u ≡ Some m
    → slice_get (func_imports m.tree) index ≡ Some x → slice_get (map (type_in m.tree) (func_space m.tree)) index ≡ Some (Some ty)
    → link.func_at s u index ≡ Some f → link.func_type s f ≡ Some ty
import_of_context {s} u {m} index {x} {ty} {f} linked is at typed reached =
    let placed = import_in_space m.tree.imports index at in
    let t = placed.0 in
    let listed = get_kept is_func_import m.tree.imports index x at in
    let resolves : link.Resolves s u x =
    all_at _ m.tree.imports listed.0 x (linked.imports_resolve u m.tree (module_is s u m is)) listed.1 in
    let r : ResolvesAs s u x (ImportFunc t) = subst (ResolvesAs s u x) placed.1 resolves in
    let same : Some r.0 ≡ Some f = ap (λ (o : Option link.External). if_found o link.as_func) (sym r.2)
    ∙ (sym (imported_func s u index is at) ∙ reached) in
    let space : slice_get (func_space m.tree) index ≡ Some t = get_front _ _ index t placed.2 in
    let context : type_in m.tree t ≡ Some ty = same_Some (type_in m.tree t) (Some ty) (sym (get_mapped _ _ index t space) ∙ typed) in
    let equal : Some r.1 ≡ Some ty = sym r.3 ∙ (type_is s u t is ∙ context) in
    ap (link.func_type s) (same_Some f r.0 (sym same)) ∙ (r.4 ∙ equal)
