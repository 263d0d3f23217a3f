-- What the indices of a linked set's modules stand for: objects of the module itself or of an earlier one, of the types that
-- the module's context has.
use Rattle.wasm_tree.specs.declared.entries.Export.{Export}
use Rattle.wasm_tree.specs.declared.entries.ExportKind.{ExportKind}
use Rattle.wasm_tree.specs.declared.entries.ExportKind.TheVariants.{Func as ExportFunc, Table as ExportTable, Memory as ExportMemory}
use Rattle.wasm_tree.specs.declared.entries.ExportKind.TheVariants.{Global as ExportGlobal}
use Rattle.wasm_meaning.specs.LinkedSet.{FuncAddress, ModuleFunc, HostFunc, IsFunc, IsTable, IsMemory, Instance, as_func, exported, offered}
use Rattle.wasm_meaning.specs.LinkedSet.{export_of, instance_of, instances_behind, func_at, type_at, func_type}
use Rattle.w2c_base.proofs.Places.{get_within}
use Rattle.body_meaning.proofs.Common.{◌≡◌, ℕ, zero, suc, ◌+◌, ◌<◌, ◌≤◌, Bool, ◌⊎◌, List, [], ◌∷◌, ◌++◌, map, length, take, slice_get, Some}
use Rattle.body_meaning.proofs.Common.{None, Option, option_map, find, bytes_eq, sym, refl, ap, ◌∙◌, subst, inl, inr, append_assoc}
use Rattle.body_meaning.proofs.Common.{append-nil, arith, length-append, take-append_seam, none-some, same_Some, slice_get_within}
use Rattle.body_meaning.proofs.Common.{AllByRecursion, position_from, option_or, all_append, all_map, at_index, if_found, named, Host}
use Rattle.body_meaning.proofs.Common.{FuncType, is_func_import, is_global_import, is_memory_import, is_table_import, Import, ImportKind}
use Rattle.body_meaning.proofs.Common.{ImportFunc, ImportGlobal, ImportMemory, ImportTable, Module, External, GlobalAddress, IndexSpaces}
use Rattle.body_meaning.proofs.Common.{IsGlobal, LinkedSet, NamedModule, as_global, as_memory, as_table, global_at, global_type, import_at}
use Rattle.body_meaning.proofs.Common.{imports_of, instances, memory_at, module_at, spaces_of, table_at, IsCallable}
use Rattle.w2c_base.proofs.Lists.{get_behind, all_of, all_replicate, all_range, all_taken, found_has, named_has}

-- ---- lists

-- a property of what is there
abbrev pub IfAny : {A : Type 0} → (A → Type 0) → Option A → Type 0
IfAny P None = Unit {0}
IfAny P (Some x) = P x

if_any : {A : Type 0} (P : A → Type 0) (o : Option A) {x : A} → IfAny P o → o ≡ Some x → P x
if_any P None {x} h e = absurd (none-some x e)
if_any P (Some y) {x} h e = subst P (same_Some y x e) h

index_has : {A : Type 0} (P : A → Type 0) (space : List (Option A)) (index : ℕ) → AllByRecursion (IfAny P) space
    → IfAny P (at_index space index)
index_has P [] index all = tt
index_has P (x ∷ space) zero all = all.0
index_has P (x ∷ space) (suc index) all = index_has P space index all.1

-- ---- modules

pub module_named : (s : LinkedSet) (p : ℕ) {tree : Module} → module_at s p ≡ Some tree
    → (m : NamedModule) × (slice_get s.modules p ≡ Some m) × (m.tree ≡ tree)
module_named s p {tree} e = go (slice_get s.modules p) refl e
  where
    go : (o : Option NamedModule) → slice_get s.modules p ≡ o → option_map (λ (m : NamedModule). m.tree) o ≡ Some tree
        → (m : NamedModule) × (slice_get s.modules p ≡ Some m) × (m.tree ≡ tree)
    go None is e = absurd (none-some tree e)
    go (Some m) is e = (m, is, same_Some m.tree tree e)

-- ---- instances

pub behind_is : (hosts : List Host) (earlier : List Instance) (modules : List NamedModule)
    → (rest : List Instance) × (instances_behind hosts earlier modules ≡ earlier ++ rest)
behind_is hosts earlier [] = ([], sym (append-nil earlier))
behind_is hosts earlier (m ∷ modules) =
    let i = instance_of hosts earlier m in
    let r = behind_is hosts (earlier ++ i ∷ []) modules in
    (i ∷ r.0, r.1 ∙ append_assoc earlier (i ∷ []) r.0)

instance_from : (hosts : List Host) (earlier : List Instance) (modules : List NamedModule) (k n : ℕ) {m : NamedModule}
    → slice_get modules k ≡ Some m → n ≡ length earlier + k
    → (slice_get (instances_behind hosts earlier modules) n ≡ Some (instance_of hosts (take n (instances_behind hosts earlier modules)) m))
    × (length (take n (instances_behind hosts earlier modules)) ≡ n)
instance_from hosts earlier [] k n {m} e at = absurd (none-some m e)
instance_from hosts earlier (x ∷ modules) zero n {m} e at =
    let i = instance_of hosts earlier x in
    let r = behind_is hosts (earlier ++ i ∷ []) modules in
    let whole : instances_behind hosts earlier (x ∷ modules) ≡ earlier ++ (i ∷ r.0) = r.1 ∙ append_assoc earlier (i ∷ []) r.0 in
    let place : n ≡ length earlier = omega (arith, at) in
    let taken : take n (instances_behind hosts earlier (x ∷ modules)) ≡ earlier = rw (whole, place) (take-append_seam earlier (i ∷ r.0)) in
    let there : slice_get (instances_behind hosts earlier (x ∷ modules)) n ≡ Some i = rw (whole, at) (get_behind earlier (i ∷ r.0) 0) in (
      there ∙ ap (λ m. Some (instance_of hosts earlier m)) (same_Some x m e) ∙ ap (λ before. Some (instance_of hosts before m)) (sym taken),
      ap length taken ∙ sym place,
    )
instance_from hosts earlier (x ∷ modules) (suc k) n e at =
    let i = instance_of hosts earlier x in
    instance_from hosts (earlier ++ i ∷ []) modules k n e (omega (arith, at, length-append earlier (i ∷ [])))

-- the instance of a module is made from the earlier instances
pub instance_at : (s : LinkedSet) (p : ℕ) {m : NamedModule} → slice_get s.modules p ≡ Some m
    → slice_get (instances s) p ≡ Some (instance_of s.hosts (take p (instances s)) m)
instance_at s p e = (instance_from s.hosts [] s.modules p p e (omega arith)).0

earlier_count : (s : LinkedSet) (p : ℕ) {m : NamedModule} → slice_get s.modules p ≡ Some m → length (take p (instances s)) ≡ p
earlier_count s p e = (instance_from s.hosts [] s.modules p p e (omega arith)).1

pub spaces_at : (s : LinkedSet) (p : ℕ) {m : NamedModule} → slice_get s.modules p ≡ Some m
    → (i : Instance) × (slice_get (instances s) p ≡ Some i) × (i.spaces ≡ spaces_of (import_at s p) p m.tree)
spaces_at s p {m} e =
    (instance_of s.hosts (take p (instances s)) m, instance_at s p e, ap (λ n. spaces_of (import_at s p) n m.tree) (earlier_count s p e))

-- ---- owners

pub record HasObject (s : LinkedSet) (p owner : ℕ) (count : Module → ℕ) : Type 0 where
  pub early : owner < p
  pub tree : Module
  pub tree_is : module_at s owner ≡ Some tree
  pub some : 0 < count tree

-- an external value of one of the first p modules, or of a host
abbrev pub IsEarlier : LinkedSet → ℕ → External → Type 0
IsEarlier s p (IsFunc f) = IsCallable s p f
IsEarlier s p (IsTable owner) = HasObject s p owner (λ tree. length tree.tables)
IsEarlier s p (IsMemory owner) = HasObject s p owner (λ tree. length tree.memories)
IsEarlier s p (IsGlobal g) = g.owner < p

object_later : {s : LinkedSet} {p : ℕ} (q : ℕ) {owner : ℕ} {count : Module → ℕ}
    → p ≤ q → HasObject s p owner count → HasObject s q owner count
object_later q le h = record { early = omega (arith, le, h.early); tree = h.tree; tree_is = h.tree_is; some = h.some }

pub callable_later : (s : LinkedSet) (p q : ℕ) (f : FuncAddress) → p ≤ q → IsCallable s p f → IsCallable s q f
callable_later s p q (ModuleFunc owner index) le h = record
    { early = omega (arith, le, h.early); tree = h.tree; tree_is = h.tree_is; defined = h.defined }
callable_later s p q (HostFunc host function) le h = tt

earlier_later : (s : LinkedSet) (p q : ℕ) (x : External) → p ≤ q → IsEarlier s p x → IsEarlier s q x
earlier_later s p q (IsFunc f) le h = callable_later s p q f le h
earlier_later s p q (IsTable owner) le h = object_later q le h
earlier_later s p q (IsMemory owner) le h = object_later q le h
earlier_later s p q (IsGlobal g) le h = omega (arith, le, h)

abbrev ExportsFit : LinkedSet → ℕ → List (List ℕ × Option External) → Type 0
ExportsFit s p exports = AllByRecursion (λ e. IfAny (IsEarlier s p) e.1) exports

exports_later : (s : LinkedSet) (p q : ℕ) (exports : List (List ℕ × Option External)) → p ≤ q → ExportsFit s p exports
    → ExportsFit s q exports
exports_later s p q [] le h = tt
exports_later s p q (e ∷ exports) le h = (later e.1 h.0, exports_later s p q exports le h.1)
  where
    later : (x : Option External) → IfAny (IsEarlier s p) x → IfAny (IsEarlier s q) x
    later None h = tt
    later (Some x) h = earlier_later s p q x le h

-- the first p instances export what is earlier than p
abbrev pub FirstFit : LinkedSet → ℕ → Type 0
FirstFit s p = (j : ℕ) (i : Instance) → j < p → slice_get (instances s) j ≡ Some i → ExportsFit s p i.exports

exported_fits : (s : LinkedSet) (p : ℕ) (earlier : List Instance) (module_name name : List ℕ)
    → AllByRecursion (λ i. ExportsFit s p i.exports) earlier → IfAny (IsEarlier s p) (exported earlier module_name name)
exported_fits s p earlier module_name name all = go (find (λ (i : Instance). bytes_eq i.name module_name) earlier) refl
  where
    inner : (exports : List (List ℕ × Option External)) → ExportsFit s p exports → (found : Option (Option External))
        → named name exports ≡ found → IfAny (IsEarlier s p) (if_found found (λ e. e))
    inner exports fit None is = tt
    inner exports fit (Some e) is = named_has _ name exports e fit is

    go : (found : Option Instance) → find (λ (i : Instance). bytes_eq i.name module_name) earlier ≡ found
        → IfAny (IsEarlier s p) (if_found found (λ i. if_found (named name i.exports) (λ e. e)))
    go None is = tt
    go (Some i) is = inner i.exports (found_has _ _ earlier i all is) (named name i.exports) refl

offered_fits : (s : LinkedSet) (p : ℕ) (hosts : List Host) (host_name name : List ℕ) → IfAny (IsEarlier s p) (offered hosts host_name name)
offered_fits s p hosts host_name name = go (position_from (λ (h : Host). bytes_eq h.name host_name) 0 hosts)
  where
    function : (h : ℕ) (found : Option ℕ) → IfAny (IsEarlier s p) (option_map (λ f. IsFunc (HostFunc h f)) found)
    function h None = tt
    function h (Some f) = tt

    host : (h : ℕ) (found : Option Host) → IfAny (IsEarlier s p)
        (if_found found (λ host. option_map (λ f. IsFunc (HostFunc h f)) (position_from (λ f. bytes_eq f.name name) 0 host.functions)))
    host h None = tt
    host h (Some x) = function h (position_from (λ f. bytes_eq f.name name) 0 x.functions)

    go : (found : Option ℕ) → IfAny (IsEarlier s p) (if_found found (λ h. if_found (slice_get hosts h)
        (λ host. option_map (λ f. IsFunc (HostFunc h f)) (position_from (λ f. bytes_eq f.name name) 0 host.functions))))
    go None = tt
    go (Some h) = host h (slice_get hosts h)

pub import_fits : (s : LinkedSet) (p : ℕ) → FirstFit s p → (i : Import) → IfAny (IsEarlier s p) (import_at s p i)
import_fits s p first i =
    go (exported (take p (instances s)) i.«module» i.field) (exported_fits s p _ i.«module» i.field (all_taken _ _ p first))
  where
    go : (found : Option External) → IfAny (IsEarlier s p) found
        → IfAny (IsEarlier s p) (option_or found (offered s.hosts i.«module» i.field))
    go None h = offered_fits s p s.hosts i.«module» i.field
    go (Some x) h = h

-- what each index of a module with number p stands for
record SpacesFit (s : LinkedSet) (p : ℕ) (spaces : IndexSpaces) : Type 0 where
  funcs : AllByRecursion (IfAny (IsCallable s (suc p))) spaces.funcs
  tables : AllByRecursion (IfAny (λ owner. HasObject s (suc p) owner (λ tree. length tree.tables))) spaces.tables
  memories : AllByRecursion (IfAny (λ owner. HasObject s (suc p) owner (λ tree. length tree.memories))) spaces.memories
  globals : AllByRecursion (IfAny (λ g. g.owner < suc p)) spaces.globals

imports_fit : {A : Type 0} (s : LinkedSet) (p : ℕ) (P : A → Type 0) (wanted : Import → Bool) (as_wanted : External → Option A)
    (imports : List Import) → FirstFit s p → ((x : External) → IsEarlier s p x → IfAny P (as_wanted x))
    → AllByRecursion (IfAny P) (imports_of wanted as_wanted (import_at s p) imports)
imports_fit {A} s p P wanted as_wanted imports first fits =
    all_map (IfAny P) _ _ (all_of _ _ (λ i. go (import_at s p i) (import_fits s p first i)))
  where
    go : (found : Option External) → IfAny (IsEarlier s p) found → IfAny P (if_found found as_wanted)
    go None h = tt
    go (Some x) h = fits x h

spaces_fit : (s : LinkedSet) (p : ℕ) {m : NamedModule} → slice_get s.modules p ≡ Some m → FirstFit s p
    → SpacesFit s p (spaces_of (import_at s p) p m.tree)
spaces_fit s p {m} is first = record {
  funcs = all_append
      _ _ _ (imports_fit s p _ is_func_import as_func m.tree.imports first func) (all_map _ _ _ (all_range _ _ _ (λ k le less. record
      { early = omega arith; tree = m.tree; tree_is = tree_is; defined = record { behind = le; within = less } })));
  tables = all_append _ _ _ (imports_fit s p _ is_table_import as_table m.tree.imports first table)
      (all_replicate _ _ (Some p) (λ some. record { early = omega arith; tree = m.tree; tree_is = tree_is; some = some }));
  memories = all_append _ _ _ (imports_fit s p _ is_memory_import as_memory m.tree.imports first memory)
      (all_replicate _ _ (Some p) (λ some. record { early = omega arith; tree = m.tree; tree_is = tree_is; some = some }));
  globals = all_append
      _ _ _ (imports_fit s p _ is_global_import as_global m.tree.imports first global) (all_map _ _ _ (all_of _ _ (λ k. omega arith)));
}
  where
    tree_is : module_at s p ≡ Some m.tree
    tree_is = ap (option_map (λ (m : NamedModule). m.tree)) is

    func : (x : External) → IsEarlier s p x → IfAny (IsCallable s (suc p)) (as_func x)
    func (IsFunc f) h = callable_later s p (suc p) f (omega arith) h
    func _ h = tt

    table : (x : External) → IsEarlier s p x → IfAny (λ owner. HasObject s (suc p) owner (λ tree. length tree.tables)) (as_table x)
    table (IsTable owner) h = object_later (suc p) (omega arith) h
    table _ h = tt

    memory : (x : External) → IsEarlier s p x → IfAny (λ owner. HasObject s (suc p) owner (λ tree. length tree.memories)) (as_memory x)
    memory (IsMemory owner) h = object_later (suc p) (omega arith) h
    memory _ h = tt

    global : (x : External) → IsEarlier s p x → IfAny (λ g. g.owner < suc p) (as_global x)
    global (IsGlobal g) h = omega (arith, h)
    global _ h = tt

export_fits : {s : LinkedSet} {p : ℕ} {spaces : IndexSpaces} (e : Export) → SpacesFit s p spaces
    → IfAny (IsEarlier s (suc p)) (export_of spaces e).1
export_fits {s} {p} {spaces} e fit = go e.kind
  where
    wrapped : {A : Type 0} (P : A → Type 0) (wrap : A → External) → ((x : A) → P x → IsEarlier s (suc p) (wrap x)) → (found : Option A)
        → IfAny P found → IfAny (IsEarlier s (suc p)) (option_map wrap found)
    wrapped P wrap is None h = tt
    wrapped P wrap is (Some x) h = is x h

    go : (kind : ExportKind) → IfAny (IsEarlier s (suc p)) (elim kind [
      | ExportFunc ↦ option_map IsFunc (at_index spaces.funcs e.index)
      | ExportTable ↦ option_map IsTable (at_index spaces.tables e.index)
      | ExportMemory ↦ option_map IsMemory (at_index spaces.memories e.index)
      | ExportGlobal ↦ option_map IsGlobal (at_index spaces.globals e.index)
    ])
    go ExportFunc =
        wrapped (IsCallable s (suc p)) IsFunc (λ x h. h) (at_index spaces.funcs e.index) (index_has _ spaces.funcs e.index fit.funcs)
    go ExportTable = wrapped (λ owner. HasObject s (suc p) owner (λ tree. length tree.tables))
        IsTable (λ x h. h) (at_index spaces.tables e.index) (index_has _ spaces.tables e.index fit.tables)
    go ExportMemory = wrapped (λ owner. HasObject s (suc p) owner (λ tree. length tree.memories))
        IsMemory (λ x h. h) (at_index spaces.memories e.index) (index_has _ spaces.memories e.index fit.memories)
    go ExportGlobal = wrapped
        (λ g. g.owner < suc p) IsGlobal (λ x h. h) (at_index spaces.globals e.index) (index_has _ spaces.globals e.index fit.globals)

pub first_fit : (s : LinkedSet) (p : ℕ) → p ≤ length s.modules → FirstFit s p
first_fit s zero le j i less e = absurd (omega (arith, less))
first_fit s (suc p) le j i less e = elim (before_or_at j p (omega (arith, less))) [
  | inl before ↦ exports_later s p (suc p) i.exports (omega arith) (first_fit s p (omega (arith, le)) j i before e)
  | inr same ↦ at (first_fit s p (omega (arith, le))) (get_within s.modules p (omega (arith, le)))
      (subst (λ j. slice_get (instances s) j ≡ Some i) same e)
]
  where
    before_or_at : (j p : ℕ) → j < suc p → (j < p) ⊎ (j ≡ p)
    before_or_at j p less = grind (arith, less)

    at : FirstFit s p → ((m : NamedModule) × (slice_get s.modules p ≡ Some m)) → slice_get (instances s) p ≡ Some i
        → ExportsFit s (suc p) i.exports
    at first m e =
        let earlier = take p (instances s) in
        let whole = spaces_fit s p m.1 first in
        let spaces = spaces_of (import_at s p) (length earlier) m.0.tree in
        let fit : SpacesFit s p spaces =
        subst (λ n. SpacesFit s p (spaces_of (import_at s p) n m.0.tree)) (sym (earlier_count s p m.1)) whole in
        let exports : ExportsFit s (suc p) (map (export_of spaces) m.0.tree.exports) =
        all_map _ _ m.0.tree.exports (all_of _ m.0.tree.exports (λ e. export_fits e fit)) in
        subst (λ (i : Instance). ExportsFit s (suc p) i.exports)
        (same_Some (instance_of s.hosts earlier m.0) i (sym (instance_at s p m.1) ∙ e)) exports

module_spaces : (s : LinkedSet) (p : ℕ) {m : NamedModule} → slice_get s.modules p ≡ Some m
    → SpacesFit s p (spaces_of (import_at s p) p m.tree)
module_spaces s p {m} e = spaces_fit s p e (first_fit s p (omega (arith, slice_get_within s.modules p m e)))

-- an index looked up in the spaces of a module
pub looked_up : {A : Type 0} (space : IndexSpaces → List (Option A)) (s : LinkedSet) (p : ℕ) (m : NamedModule) (index : ℕ)
    → slice_get s.modules p ≡ Some m → if_found (slice_get (instances s) p) (λ i. at_index (space i.spaces) index)
    ≡ at_index (space (spaces_of (import_at s p) p m.tree)) index
looked_up space s p m index e = let i = spaces_at s p e in rw (i.1, i.2) refl

-- what holds of all that a module's index space has
space_has : {A : Type 0} (P : A → Type 0) (space : IndexSpaces → List (Option A)) (s : LinkedSet) (p : ℕ) {m : NamedModule} (index : ℕ)
    {x : A} → slice_get s.modules p ≡ Some m → AllByRecursion (IfAny P) (space (spaces_of (import_at s p) p m.tree))
    → if_found (slice_get (instances s) p) (λ i. at_index (space i.spaces) index) ≡ Some x → P x
space_has P space s p {m} index e all is =
    if_any P (at_index (space (spaces_of (import_at s p) p m.tree)) index)
    (index_has P (space (spaces_of (import_at s p) p m.tree)) index all) (sym (looked_up space s p m index e) ∙ is)

pub func_owner : (s : LinkedSet) (p : ℕ) {m : NamedModule} (index : ℕ) {f : FuncAddress} → slice_get s.modules p ≡ Some m
    → func_at s p index ≡ Some f → IsCallable s (suc p) f
func_owner s p index e is = space_has (IsCallable s (suc p)) (λ spaces. spaces.funcs) s p index e (module_spaces s p e).funcs is

pub table_owner : (s : LinkedSet) (p : ℕ) (m : NamedModule) (index owner : ℕ) → slice_get s.modules p ≡ Some m
    → table_at s p index ≡ Some owner → HasObject s (suc p) owner (λ tree. length tree.tables)
table_owner s p m index owner e is =
    space_has
    (λ owner. HasObject s (suc p) owner (λ tree. length tree.tables)) (λ spaces. spaces.tables) s p index e (module_spaces s p e).tables is

pub memory_owner : (s : LinkedSet) (p : ℕ) (m : NamedModule) (index owner : ℕ) → slice_get s.modules p ≡ Some m
    → memory_at s p index ≡ Some owner → HasObject s (suc p) owner (λ tree. length tree.memories)
memory_owner s p m index owner e is =
    space_has (λ owner. HasObject s (suc p) owner (λ tree. length tree.memories))
    (λ spaces. spaces.memories) s p index e (module_spaces s p e).memories is

pub global_owner : (s : LinkedSet) (p : ℕ) (m : NamedModule) (index : ℕ) (g : GlobalAddress) → slice_get s.modules p ≡ Some m
    → global_at s p index ≡ Some g → g.owner < suc p
global_owner s p m index g e is =
    space_has (λ (g : GlobalAddress). g.owner < suc p) (λ spaces. spaces.globals) s p index e (module_spaces s p e).globals is

-- ---- imports

-- what an import of a linked set stands for, by its kind
abbrev pub ResolvesAs : LinkedSet → ℕ → Import → ImportKind → Type 0
ResolvesAs s p i kind = elim kind [
  | ImportFunc t ↦ (f : FuncAddress) × (ty : FuncType) × (import_at s p i ≡ Some (IsFunc f)) × (type_at s p t ≡ Some ty)
      × (func_type s f ≡ Some ty)
  | ImportTable l ↦ (owner : ℕ) × (import_at s p i ≡ Some (IsTable owner))
  | ImportMemory l ↦ (owner : ℕ) × (import_at s p i ≡ Some (IsMemory owner))
  | ImportGlobal ty mutable ↦ (g : GlobalAddress) × (import_at s p i ≡ Some (IsGlobal g)) × (global_type s g ≡ Some (ty, mutable))
]
