-- A function's index: an import's, or that of a function which the module defines, with the type of each.
use Rattle.body_definition.proofs.Zipped.{zip_at}
use Rattle.wasm_tree.proofs.ImportCounts.{func_count}
use Rattle.w2c_base.proofs.Places.{get_before}
use Rattle.wasm_meaning.specs.LinkedSet.{FuncAddress, func_type}
use Rattle.unit_definition.proofs.Defined.{in_range}
use Rattle.unit_definition.proofs.AcceptedLimits.{accepted_limits}
use Rattle.wasm_typing.specs.declared.fault.ValidCause.TheVariants.{UnknownType}
use Rattle.c_init.proofs.NoFaults.{rows_of}
use Rattle.unit_meaning.proofs.Common.{◌≡◌, ℕ, zero, suc, ◌+◌, ◌-◌, ◌<◌, ◌≤◌, Bool, true, false, ◌⊎◌, List, [], ◌∷◌, ◌++◌, map, length}
use Rattle.unit_meaning.proofs.Common.{is_none, if◌then◌else◌, slice_get, Some, None, filter, Option, option_map, flat_map, sym, refl, ap}
use Rattle.unit_meaning.proofs.Common.{◌∙◌, subst, inl, inr, arith, length-map, length-range_with_len, slice_get_past, slice_get_within}
use Rattle.unit_meaning.proofs.Common.{range_with_len, append_none, none_at, get_within, at_index, if_found, FuncType}
use Rattle.unit_meaning.proofs.Common.{defined_behind_imports, at_defined, func_of_import, func_space, func_type_in, imported_funcs}
use Rattle.unit_meaning.proofs.Common.{is_func_import, type_in, BodyEntry, FuncEntry, Import, ImportKind, ImportFunc, ImportGlobal}
use Rattle.unit_meaning.proofs.Common.{ImportMemory, ImportTable, Module, fault_if, IsValid, bodies_of, External, Instance, IsFunc}
use Rattle.unit_meaning.proofs.Common.{LinkedSet, ModuleFunc, NamedModule, as_func, func_at, import_at, instances, meaning_of, module_at}
use Rattle.unit_meaning.proofs.Common.{type_at, func_imports, get_behind, get_mapped, get_numbered, get_unmapped, IsDefined, defined_at}
use Rattle.unit_meaning.proofs.Common.{IsAccepted, IsAcceptedSet, less_or_not}
use Rattle.unit_meaning.proofs.Instances.{IsPlaced, placed, instance_at, earlier_is, spaces_at}
use Rattle.unit_meaning.proofs.Linked.{accepted_at}
use Rattle.unit_meaning.proofs.Usable.{type_at_is}
use Rattle.c_init.proofs.Small.{some_same, there_in, no_fault, there_is}

-- ---- imported functions

abbrev is_func_kind : ImportKind → Bool
is_func_kind k = elim k [ ImportFunc t ↦ true | ImportTable l ↦ false | ImportMemory l ↦ false | ImportGlobal t mutable ↦ false ]

abbrev types_of_kind : ImportKind → List ℕ
types_of_kind k = elim k [ ImportFunc t ↦ t ∷ [] | ImportTable l ↦ [] | ImportMemory l ↦ [] | ImportGlobal t mutable ↦ [] ]

pub record ImportedFunc (imports : List Import) (k : ℕ) (i : Import) : Type 0 where
  pub ty_index : ℕ
  pub kind_is : i.kind ≡ ImportFunc ty_index
  pub in_space : slice_get (flat_map func_of_import imports) k ≡ Some ty_index
  pub place : ℕ
  pub is : slice_get imports place ≡ Some i

pub imported_func : (imports : List Import) (k : ℕ) (i : Import) → slice_get (filter is_func_import imports) k ≡ Some i
    → ImportedFunc imports k i
imported_func [] k i at = absurd (cc)
imported_func (x ∷ imports) k i at = go x.kind refl k at (λ j at. imported_func imports j i at)
  where
    later : (kind : ImportKind) → types_of_kind kind ≡ [] → (j : ℕ) → ImportedFunc imports j i
        → (t : ℕ) × (i.kind ≡ ImportFunc t) × (slice_get (types_of_kind kind ++ flat_map func_of_import imports) j ≡ Some t)
        × ((place : ℕ) × (slice_get (x ∷ imports) place ≡ Some i))
    later kind none j h = (
      h.ty_index,
      h.kind_is,
      ap (λ (ts : List ℕ). slice_get (ts ++ flat_map func_of_import imports) j) none ∙ h.in_space,
      (suc h.place, h.is),
    )

    by : (kind : ImportKind) → x.kind ≡ kind → (k : ℕ) → slice_get
        (if is_func_kind kind then x ∷ filter is_func_import imports else filter is_func_import imports) k ≡ Some i
        → ((j : ℕ) → slice_get (filter is_func_import imports) j ≡ Some i → ImportedFunc imports j i)
        → (t : ℕ) × (i.kind ≡ ImportFunc t) × (slice_get (types_of_kind kind ++ flat_map func_of_import imports) k ≡ Some t)
        × ((place : ℕ) × (slice_get (x ∷ imports) place ≡ Some i))
    by (ImportFunc t) e zero at others = let same : x ≡ i = cc in (t, ap (λ (y : Import). y.kind) (sym same) ∙ e, refl, (0, ap Some same))
    by (ImportFunc t) e (suc k) at others = let h = others k at in (h.ty_index, h.kind_is, h.in_space, (suc h.place, h.is))
    by (ImportTable l) e k at others = later (ImportTable l) refl k (others k at)
    by (ImportMemory l) e k at others = later (ImportMemory l) refl k (others k at)
    by (ImportGlobal t mutable) e k at others = later (ImportGlobal t mutable) refl k (others k at)

    go : (kind : ImportKind) → x.kind ≡ kind → (k : ℕ) → slice_get
        (if is_func_kind x.kind then x ∷ filter is_func_import imports else filter is_func_import imports) k ≡ Some i
        → ((j : ℕ) → slice_get (filter is_func_import imports) j ≡ Some i → ImportedFunc imports j i) → ImportedFunc (x ∷ imports) k i
    go kind e k at others =
        let h = by kind e k (subst (λ (q : ImportKind). slice_get
        (if is_func_kind q then x ∷ filter is_func_import imports else filter is_func_import imports) k ≡ Some i) e at) others in
        record {
          ty_index = h.0;
          kind_is = h.1;
          in_space = subst (λ (q : ImportKind). slice_get (types_of_kind q ++ flat_map func_of_import imports) k ≡ Some h.0) (sym e) h.2;
          place = h.3.0;
          is = h.3.1;
        }

-- ---- the function with an index

pub record IsImport (s : LinkedSet) (u : ℕ) (m : NamedModule) (k : ℕ) (f : FuncAddress) : Type 0 where
  pub one : Import
  pub is : slice_get (func_imports m.tree) k ≡ Some one
  pub stands : import_at s u one ≡ Some (IsFunc f)

pub record IsOwn (u : ℕ) (m : NamedModule) (k : ℕ) (f : FuncAddress) : Type 0 where
  pub func_is : f ≡ ModuleFunc u k
  pub defined : IsDefined m.tree k
  pub no_import : slice_get (func_imports m.tree) k ≡ None

pub as_func_is : (o : Option External) (f : FuncAddress) → if_found o as_func ≡ Some f → o ≡ Some (IsFunc f)
as_func_is (Some (IsFunc g)) f e = let same : g ≡ f = cc in ap (λ (x : FuncAddress). Some (IsFunc x)) same
as_func_is _ f e = absurd (cc)

pub func_space_at : (s : LinkedSet) (u : ℕ) (m : NamedModule) (h : IsPlaced s.hosts (instances s) u m) (k : ℕ)
    → func_at s u k ≡ at_index (spaces_at s u m h).funcs k
func_space_at s u m h k = ap (λ (x : Option Instance). if_found x (λ i. at_index i.spaces.funcs k)) (instance_at s u m h)

pub func_case : (s : LinkedSet) (u : ℕ) (m : NamedModule) → slice_get s.modules u ≡ Some m → (k : ℕ) (f : FuncAddress)
    → func_at s u k ≡ Some f → IsImport s u m k f ⊎ IsOwn u m k f
func_case s u m is k f at = elim (less_or_not k (imported_funcs m.tree)) [
  | inl less ↦ inl (of_import less)
  | inr more ↦ inr (of_own more)
]
  where
    count : length (map (λ i. if_found (meaning_of s.hosts (placed s u m is).earlier i) as_func) (func_imports m.tree))
        ≡ imported_funcs m.tree
    count = length-map (func_imports m.tree) (λ i. if_found (meaning_of s.hosts (placed s u m is).earlier i) as_func)

    there : slice_get (map (λ i. if_found (meaning_of s.hosts (placed s u m is).earlier i) as_func) (func_imports m.tree)
        ++ map (λ k. Some (ModuleFunc (length (placed s u m is).earlier) k)) (range_with_len (imported_funcs m.tree) (length m.tree.funcs)))
        k ≡ Some (Some f)
    there = there_in _ f (sym (func_space_at s u m (placed s u m is) k) ∙ at)

    of_import : k < imported_funcs m.tree → IsImport s u m k f
    of_import less =
        let i = get_unmapped (λ i. if_found (meaning_of s.hosts (placed s u m is).earlier i) as_func) (func_imports m.tree) k (Some f)
        (sym (get_before _ _ k (omega (arith, less, count))) ∙ there) in
        record {
          one = i.0;
          is = i.1;
          stands = ap (λ (l : List Instance). meaning_of s.hosts l i.0) (earlier_is s u m (placed s u m is))
              ∙ as_func_is (meaning_of s.hosts (placed s u m is).earlier i.0) f i.2;
        }

    of_own : imported_funcs m.tree ≤ k → IsOwn u m k f
    of_own more =
        let j : ℕ = k - imported_funcs m.tree in
        let e : k ≡ length (map (λ i. if_found (meaning_of s.hosts (placed s u m is).earlier i) as_func) (func_imports m.tree)) + j =
        omega (arith, more, count) in
        let front : List (Option FuncAddress) = map (λ i. if_found (meaning_of s.hosts (placed s u m is).earlier i) as_func)
        (func_imports m.tree) in
        let back : List (Option FuncAddress) = map (λ k. Some (ModuleFunc (length (placed s u m is).earlier) k))
        (range_with_len (imported_funcs m.tree) (length m.tree.funcs)) in
        let right : slice_get back j ≡ Some (Some f) = sym (get_behind front back j) ∙ ap (slice_get (front ++ back)) (sym e) ∙ there in
        let q = get_unmapped (λ k. Some (ModuleFunc (length (placed s u m is).earlier) k))
        (range_with_len (imported_funcs m.tree) (length m.tree.funcs)) j (Some f) right in
        let within : q.0 < imported_funcs m.tree + length m.tree.funcs = in_range (imported_funcs m.tree) (length m.tree.funcs) j q.0 q.1 in
        let less : j < length m.tree.funcs = omega (
          arith,
          slice_get_within (range_with_len (imported_funcs m.tree) (length m.tree.funcs)) j q.0 q.1,
          length-range_with_len (imported_funcs m.tree) (length m.tree.funcs),
        ) in
        let number : q.0 ≡ imported_funcs m.tree + j = some_same
        (sym q.1 ∙ get_numbered (imported_funcs m.tree) (length m.tree.funcs) j less) in
        let func : ModuleFunc (length (placed s u m is).earlier) q.0 ≡ f = some_same (some_same (ap Some q.2)) in
        let index : q.0 ≡ k = omega (arith, number, more) in
        record {
          func_is = sym func ∙ ap (λ (v : ℕ). ModuleFunc v q.0) (placed s u m is).number ∙ ap (ModuleFunc u) index;
          defined = record { behind = more; within = omega (arith, more, less) };
          no_import = slice_get_past (func_imports m.tree) k more;
        }

-- ---- types: those of a valid module are there

pub func_has_type : (m : Module) → IsValid m → (j : ℕ) (f : FuncEntry) → slice_get m.funcs j ≡ Some f
    → (ty : FuncType) × (type_in m f.type_index ≡ Some ty)
func_has_type m valid j f at =
    let none = none_at (λ (f : FuncEntry). fault_if (is_none (type_in m f.type_index)) f.place UnknownType) m.funcs j f
    (append_none _ _ (rows_of m valid.no_faults).known).1 at in
    there_is (type_in m f.type_index) (no_fault (is_none (type_in m f.type_index)) f.place UnknownType none)

-- a function that the module defines: its declaration and body, and its type
pub record OwnFunc (s : LinkedSet) (u : ℕ) (m : NamedModule) (k : ℕ) : Type 0 where
  pub entry : FuncEntry × BodyEntry
  pub ty : FuncType
  pub entry_is : defined_at m.tree k ≡ Some entry
  pub typed : type_in m.tree entry.0.type_index ≡ Some ty
  pub in_module : func_type_in m.tree k ≡ Some ty
  pub in_set : func_type s (ModuleFunc u k) ≡ Some ty

pub own_func : (s : LinkedSet) → IsAcceptedSet s → (u : ℕ) (m : NamedModule) → slice_get s.modules u ≡ Some m → (k : ℕ) → IsDefined m.tree k
    → OwnFunc s u m k
own_func s accepted u m is k there =
    let a : IsAccepted m = accepted_at s accepted u m is in
    let j : ℕ = k - imported_funcs m.tree in
    let place : k ≡ imported_funcs m.tree + j = omega (arith, there.behind) in
    let f = get_within m.tree.funcs j (omega (arith, there.behind, there.within)) in
    let b = get_within m.tree.bodies j (omega (arith, there.behind, there.within, (accepted_limits a).bodies_are_there)) in
    let t = func_has_type m.tree a.valid j f.0 f.1 in
    let e : k ≡ length (flat_map func_of_import m.tree.imports) + j = omega (arith, there.behind, func_count m.tree.imports) in
    let in_space : slice_get (func_space m.tree) k ≡ Some f.0.type_index
    = ap (slice_get (func_space m.tree)) e
    ∙ get_behind (flat_map func_of_import m.tree.imports) (map (λ (f : FuncEntry). f.type_index) m.tree.funcs) j
    ∙ get_mapped (λ (f : FuncEntry). f.type_index) m.tree.funcs j f.0 f.1 in
    let module_is : module_at s u ≡ Some m.tree = ap (option_map (λ (m : NamedModule). m.tree)) is in
    record {
      entry = (f.0, b.0);
      ty = t.0;
      entry_is = defined_behind_imports m.tree (bodies_of m.tree) k j place ∙ zip_at m.tree.funcs m.tree.bodies j f.0 b.0 f.1 b.1;
      typed = t.1;
      in_module = ap (λ (x : Option ℕ). if_found x (type_in m.tree)) in_space ∙ t.1;
      in_set = ap (λ (x : Option Module). if_found x
          (λ (m : Module). if_found (at_defined m m.funcs k) (λ f. type_at s u f.type_index))) module_is
          ∙ ap (λ (x : Option FuncEntry). if_found x (λ f. type_at s u f.type_index))
          (defined_behind_imports m.tree m.tree.funcs k j place ∙ f.1) ∙ type_at_is s u m is f.0.type_index ∙ t.1;
    }
