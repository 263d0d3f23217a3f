-- Each exported and each imported table, memory and global is reached: its function gives the owner's pointer,
-- through as many units as pass it on.
use Rattle.unit_meaning.proofs.Common.{export_of, length, memory_imports, table_imports, ◌≡◌, ℕ, zero, suc, ◌+◌, ◌*◌, ◌<◌, Bool, true, List}
use Rattle.unit_meaning.proofs.Common.{[], ◌∷◌, if◌then◌else◌, slice_get, Some, None, Option, option_map, sym, refl, ap, ◌∙◌, subst, arith}
use Rattle.unit_meaning.proofs.Common.{at_index, ValType, export_symbol_of, SymbolKind, global_type_in, imported_globals, Export, Import}
use Rattle.unit_meaning.proofs.Common.{ExportKind, ExportFunc, ExportGlobal, ExportMemory, ExportTable, ImportKind, ImportFunc, ImportTable}
use Rattle.unit_meaning.proofs.Common.{ImportGlobal, ImportMemory, Module, Name, func_type_of, CType, Plain, External, GlobalAddress}
use Rattle.unit_meaning.proofs.Common.{IndexSpaces, IsFunc, IsGlobal, IsMemory, IsTable, LinkedSet, NamedModule, global_type, import_at}
use Rattle.unit_meaning.proofs.Common.{instances, Program, definition_at, external_func, func_named, func_type, primitive, FuncAddress}
use Rattle.unit_meaning.proofs.Common.{ObjectAddress, UnitFunc, first_global, global_name, memory_name, table_name, accessor_type, accessor}
use Rattle.unit_meaning.proofs.Common.{export_symbol, export_type, global_accessor_type, import_symbol, import_type, is_usable, ResolvesAs}
use Rattle.unit_meaning.proofs.Common.{export_func, external, passes_on, result_name, usable_symbol, IsAcceptedSet, program_of}
use Rattle.w2c_base.specs.declared.value.ValType.TheVariants as val
use Rattle.wasm_meaning.specs.LinkedSet as link
use Rattle.c_tree.specs.declared.tree.CType.TheVariants as c_type
use Rattle.c_tree.specs.Tree as tree
use Rattle.unit_definition.proofs.Defined.{IsExternal, export_external, export_is_no_primitive, kind_of, kind_of_global, symbol_is}
use Rattle.unit_meaning.proofs.Pointers.{ObjectCase, target_of, ByImport, table_case, memory_case, GlobalCase, ImportedGlobal, OwnGlobal}
use Rattle.unit_meaning.proofs.Pointers.{global_case, ImportedObject, OwnObject}
use Rattle.unit_meaning.proofs.Instances.{IsPlaced, spaces_at}
use Rattle.unit_meaning.proofs.Linked.{ExportedBy}
use Rattle.unit_meaning.proofs.External.{SymbolFound, symbol_found, external_found, named_external}
use Rattle.unit_meaning.proofs.Usable.{Origin, FromModule, FromHost, origin, origin_bytes, origin_differs, import_kind, import_symbol_is}
use Rattle.unit_meaning.proofs.Usable.{import_resolves, type_as, type_is, usable}
use Rattle.unit_meaning.proofs.Stands.{type_by, func_by}
use Rattle.unit_definition.proofs.PointerTypes.{IsPointer, of_table, of_memory, of_u32, of_u64}
use Rattle.unit_meaning.proofs.Accessor.{GivesPointer, own_stmts, passed_stmts, own_gives, passed_gives}
use Rattle.unit_meaning.proofs.Globals.{GlobalTyped, global_typed}
use Rattle.c_init.proofs.Small.{some_same}

-- ---- the kind of an export by what it stands for

abbrev stands_by : IndexSpaces → Export → ExportKind → Option External
stands_by spaces e kind = (export_of spaces (record e { kind = kind })).1

-- a table, a memory or a global
pub data Stands (spaces : IndexSpaces) (e : Export) : ExportKind → External → Type 0 where
  StandsForTable : (owner : ℕ) → at_index spaces.tables e.index ≡ Some owner → Stands spaces e ExportTable (IsTable owner)
  StandsForMemory : (owner : ℕ) → at_index spaces.memories e.index ≡ Some owner → Stands spaces e ExportMemory (IsMemory owner)
  StandsForGlobal : (g : GlobalAddress) → at_index spaces.globals e.index ≡ Some g → Stands spaces e ExportGlobal (IsGlobal g)

made_as : {spaces : IndexSpaces} {e : Export} {kind : ExportKind} {o : External} {A : Type 0} (g : A → External) (x : Option A)
    → ((a : A) → x ≡ Some a → Stands spaces e kind (g a)) → option_map g x ≡ Some o → Stands spaces e kind o
made_as g None make same = absurd cc
made_as {spaces} {e} {kind} g (Some a) make same = subst (Stands spaces e kind) (some_same same) (make a refl)

stands_as : (s : LinkedSet) (spaces : IndexSpaces) (e : Export) (kind : ExportKind) (o : External) (t : ObjectAddress)
    → target_of s o ≡ Some t → stands_by spaces e kind ≡ Some o → Stands spaces e kind o
stands_as s spaces e ExportFunc o t target stands = absurd (none o target (at_index spaces.funcs e.index) stands)
  where
    none : (o : External) → target_of s o ≡ Some t → (x : Option link.FuncAddress) → option_map IsFunc x ≡ Some o → ⊥
    none o target None e = cc
    none (IsFunc f) target (Some g) e = cc
    none _ target (Some g) e = cc
stands_as s spaces e ExportTable o t target stands = made_as IsTable (at_index spaces.tables e.index) StandsForTable stands
stands_as s spaces e ExportMemory o t target stands = made_as IsMemory (at_index spaces.memories e.index) StandsForMemory stands
stands_as s spaces e ExportGlobal o t target stands = made_as IsGlobal (at_index spaces.globals e.index) StandsForGlobal stands

-- ---- what the export's function does

pub data ExportDoes (s : LinkedSet) (v : ℕ) (n : NamedModule) (e : Export) (o : External) : Type 0 where
  Passes : (pointer : CType) → IsPointer pointer → (ty : export_type n.tree e ≡ accessor_type pointer) → (i : Import) → ByImport s v n i o
      → (func : export_func n e ≡ passes_on (export_type n.tree e) (export_symbol n e) (usable_symbol n i)) → ExportDoes s v n e o
  GivesOwn : (pointer : CType) → IsPointer pointer → (ty : export_type n.tree e ≡ accessor_type pointer) → (object : Name)
      → target_of s o ≡ Some (record { unit = v; name = object })
      → (func : export_func n e ≡ external (export_type n.tree e) (export_symbol n e) [] (own_stmts object)) → ExportDoes s v n e o

global_pointer : (o : Option (ValType × Bool)) → (pointer : CType) × IsPointer pointer × (global_accessor_type o ≡ accessor_type pointer)
global_pointer None = (c_type.PtrU32, of_u32, refl)
global_pointer (Some (val.I32, mutable)) = (c_type.PtrU32, of_u32, refl)
global_pointer (Some (val.I64, mutable)) = (c_type.PtrU64, of_u64, refl)

export_does : (s : LinkedSet) (v : ℕ) (n : NamedModule) → slice_get s.modules v ≡ Some n → (h : IsPlaced s.hosts (instances s) v n)
    (e : Export) (kind : ExportKind) (o : External) → e.kind ≡ kind → Stands (spaces_at s v n h) e kind o → ExportDoes s v n e o
export_does s v n is h e kind o kind_is stands = go kind_is stands
  where
    -- a table or a memory
    of_object : (pointer : CType) → IsPointer pointer → (name : Name) (imports : List Import) (count owner : ℕ) (o : External)
        → target_of s o ≡ Some (record { unit = owner; name = name }) → export_type n.tree e ≡ accessor_type pointer
        → export_func n e ≡ accessor n (export_type n.tree e) (export_symbol n e) (slice_get imports e.index) name
        → ObjectCase s v n imports count e.index owner o → ExportDoes s v n e o
    of_object pointer is_pointer name imports count owner o target ty func (ImportedObject i there b) = Passes pointer is_pointer ty i b
        (func ∙ ap (λ (x : Option Import). accessor n (export_type n.tree e) (export_symbol n e) x name) there)
    of_object pointer is_pointer name imports count owner o target ty func (OwnObject none same there) =
        GivesOwn pointer is_pointer ty name (target ∙ ap (λ u. Some (record { unit = u; name = name })) same)
        (func ∙ ap (λ (x : Option Import). accessor n (export_type n.tree e) (export_symbol n e) x name) none)

    go : {kind : ExportKind} {o : External} → e.kind ≡ kind → Stands (spaces_at s v n h) e kind o → ExportDoes s v n e o
    go kind_is (StandsForTable owner at) = of_object c_type.PtrTab of_table table_name (table_imports n.tree) (length n.tree.tables) owner
        (IsTable owner) refl (ap (type_by n.tree e) kind_is) (ap (func_by n e) kind_is) (table_case s v n h e.index owner at)
    go kind_is (StandsForMemory owner at) = of_object c_type.PtrMem of_memory memory_name (memory_imports n.tree) (length n.tree.memories)
        owner (IsMemory owner) refl (ap (type_by n.tree e) kind_is) (ap (func_by n e) kind_is) (memory_case s v n h e.index owner at)
    go kind_is (StandsForGlobal g at) = by (global_case s v n h e.index g at)
      where
        by : GlobalCase s v n e.index g → ExportDoes s v n e (IsGlobal g)
        by (ImportedGlobal i there b) =
            let pointer = global_pointer (global_type_in n.tree e.index) in
            Passes pointer.0 pointer.1 (ap (type_by n.tree e) kind_is ∙ pointer.2) i b
            (ap (func_by n e) kind_is ∙ ap (λ (x : Option Import). accessor n (export_type n.tree e) (export_symbol n e) x
            (global_name e.index)) there)
        by (OwnGlobal none owner_is number_is there) =
            let pointer = global_pointer (global_type_in n.tree e.index) in
            let first : first_global s g.owner ≡ imported_globals n.tree
            = ap (first_global s) owner_is ∙ ap (λ (m : Option NamedModule). elim
            (option_map (λ (m : NamedModule). m.tree) m) [ None ↦ 0 | Some m ↦ imported_globals m ]) is in
            let name : first_global s g.owner + g.number ≡ e.index = omega (arith, first, number_is) in
            GivesOwn pointer.0 pointer.1 (ap (type_by n.tree e) kind_is ∙ pointer.2) (global_name e.index)
            (ap (λ u. Some (record { unit = u; name = global_name (first_global s g.owner + g.number) })) owner_is
            ∙ ap (λ k. Some (record { unit = v; name = global_name k })) name)
            (ap (func_by n e) kind_is ∙ ap (λ (x : Option Import). accessor n (export_type n.tree e) (export_symbol n e) x
            (global_name e.index)) none)

-- ---- pointers through units

-- an import's symbol leads to a function that gives the pointer
pub record ImportGives (s : LinkedSet) (u : ℕ) (m : NamedModule) (i : Import) (t : ObjectAddress) : Type 0 where
  pub usable : is_usable m i ≡ true
  pub free : primitive (import_symbol i) ≡ None
  pub address : FuncAddress
  pub address_is : func_named (program_of s) u (import_symbol i) ≡ Some address
  pub outside : external_func (program_of s) (import_symbol i) ≡ Some address
  pub typed : func_type (program_of s) address ≡ Some (import_type m.tree i)
  pub gives : GivesPointer (program_of s) (2 * u) address t

-- the imports of a module
abbrev ImportsGive : LinkedSet → ℕ → NamedModule → Type 0
ImportsGive s u m = (i : Import) (o : External) (t : ObjectAddress) → ByImport s u m i o → target_of s o ≡ Some t → ImportGives s u m i t

-- what passes a pointer on, by its type
passer : {pointer : CType} → IsPointer pointer → (symbol name : Name) → ((passes_on (accessor_type pointer) symbol (Some name)).body
    ≡ Some (record { locals = (pointer, result_name, Plain 0) ∷ []; stmts = passed_stmts name }))
    × ((passes_on (accessor_type pointer) symbol (Some name)).params ≡ (c_type.Void, None) ∷ [])
    × ((passes_on (accessor_type pointer) symbol (Some name)).result ≡ pointer)
passer of_table symbol name = (refl, refl, refl)
passer _ symbol name = (refl, refl, refl)

passer_type : {pointer : CType} → IsPointer pointer → (symbol : Name) (name : Option Name)
    → func_type_of (passes_on (accessor_type pointer) symbol name) ≡ accessor_type pointer
passer_type of_table symbol name = refl
passer_type _ symbol name = refl

-- a definition with its function and its body written out
defined_as : (p : Program) (u item : ℕ) (name : Name) (f g : tree.Func) (body other : tree.Body)
    → definition_at p u name ≡ Some (record { item = item; func = f; body = body }) → f.body ≡ Some body → f ≡ g → g.body ≡ Some other
    → definition_at p u name ≡ Some (record { item = item; func = g; body = other })
defined_as p u item name f g body other definition has_body same has_other =
    let bodies : body ≡ other = some_same (sym has_body ∙ ap (λ (f : tree.Func). f.body) same ∙ has_other) in
    definition ∙ ap (λ (f : tree.Func). Some (record { item = item; func = f; body = body })) same
    ∙ ap (λ (b : tree.Body). Some (record { item = item; func = g; body = b })) bodies

-- an export's function
pub export_gives : (s : LinkedSet) → IsAcceptedSet s → (v : ℕ) (n : NamedModule) → slice_get s.modules v ≡ Some n → (e : Export)
    (o : External) (t : ObjectAddress) → target_of s o ≡ Some t → SymbolFound s v n e → ImportsGive s v n → ExportDoes s v n e o
    → GivesPointer (program_of s) (2 * v + 2) (UnitFunc v (export_symbol n e)) t
export_gives s accepted v n is e o t target found imports (GivesOwn pointer is_pointer ty object own func) =
    let x : IsExternal (export_type n.tree e) (export_symbol n e) (export_func n e) = export_external n e in
    let same : export_func n e ≡ external (accessor_type pointer) (export_symbol n e) [] (own_stmts object)
    = func ∙ ap (λ (ty : tree.FuncType). external ty (export_symbol n e) [] (own_stmts object)) ty in
    let definition = defined_as (program_of s) v found.definition.0 (export_symbol n e) (export_func n e) _ x.body
    (record { locals = []; stmts = own_stmts object }) found.definition.1 x.has_body same refl in
    let gives : GivesPointer (program_of s) 1 (UnitFunc v (export_symbol n e)) (record { unit = v; name = object }) =
    own_gives (program_of s) v found.definition.0 (export_symbol n e) object pointer is_pointer definition in
    let target_is : record { unit = v; name = object } ≡ t = some_same (sym own ∙ target) in
    λ pending m below there.
    let r = subst (GivesPointer (program_of s) 1 (UnitFunc v (export_symbol n e))) target_is gives pending m below there in
    (r.0, omega (arith, r.1), r.2)
export_gives s accepted v n is e o t target found imports (Passes pointer is_pointer ty i b func) =
    let x : IsExternal (export_type n.tree e) (export_symbol n e) (export_func n e) = export_external n e in
    let inner : ImportGives s v n i t = imports i o t b target in
    let same : export_func n e ≡ passes_on (accessor_type pointer) (export_symbol n e) (Some (import_symbol i))
    = func ∙ ap (λ (ty : tree.FuncType). passes_on ty (export_symbol n e) (usable_symbol n i)) ty
    ∙ ap (λ (may : Bool). passes_on (accessor_type pointer) (export_symbol n e) (if may then Some (import_symbol i) else None))
    inner.usable in
    let definition = defined_as (program_of s) v found.definition.0 (export_symbol n e) (export_func n e) _ x.body
    (record { locals = (pointer, result_name, Plain 0) ∷ []; stmts = passed_stmts (import_symbol i) }) found.definition.1 x.has_body same
    (passer is_pointer (export_symbol n e) (import_symbol i)).0 in
    passed_gives (program_of s) (2 * v) v found.definition.0 (export_symbol n e) (import_symbol i)
    (passes_on (accessor_type pointer) (export_symbol n e) (Some (import_symbol i))) pointer inner.address t
    is_pointer (passer is_pointer (export_symbol n e) (import_symbol i)).1
    (passer is_pointer (export_symbol n e) (import_symbol i)).2 definition inner.free inner.address_is inner.gives

-- ---- symbols and types of both ends are one

abbrev kind_by : NamedModule → Export → ExportKind → SymbolKind
kind_by m e kind = kind_of m (record e { kind = kind })

same_both : (s : LinkedSet) → IsAcceptedSet s → (v : ℕ) (n : NamedModule) → slice_get s.modules v ≡ Some n
    → (h : IsPlaced s.hosts (instances s) v n) (e : Export) (kind : ExportKind) (o : External) → e.kind ≡ kind
    → Stands (spaces_at s v n h) e kind o → (u : ℕ) (m : Module) (i : Import) (k : ImportKind) → ResolvesAs s u i k
    → import_at s u i ≡ Some o → (import_kind k ≡ kind_of n e) × (export_type n.tree e ≡ type_as m k)
same_both s accepted v n is h e kind o kind_is stands u m i k r at = go kind_is stands k r at
  where
    go : {kind : ExportKind} {o : External} → e.kind ≡ kind → Stands (spaces_at s v n h) e kind o → (k : ImportKind) → ResolvesAs s u i k
        → import_at s u i ≡ Some o → (import_kind k ≡ kind_of n e) × (export_type n.tree e ≡ type_as m k)
    go kind_is (StandsForTable w there) (ImportTable l) r at = (sym (ap (kind_by n e) kind_is), ap (type_by n.tree e) kind_is)
    go kind_is (StandsForTable w there) (ImportFunc t) r at = let x : IsTable w ≡ IsFunc r.0 = some_same (sym at ∙ r.2) in absurd (cc)
    go kind_is (StandsForTable w there) (ImportMemory l) r at = let x : IsTable w ≡ IsMemory r.0 = some_same (sym at ∙ r.1) in absurd (cc)
    go kind_is (StandsForTable w there) (ImportGlobal ty mutable) r at = let x : IsTable w ≡ IsGlobal r.0 =
        some_same (sym at ∙ r.1) in absurd (cc)
    go kind_is (StandsForMemory w there) (ImportMemory l) r at = (sym (ap (kind_by n e) kind_is), ap (type_by n.tree e) kind_is)
    go kind_is (StandsForMemory w there) (ImportFunc t) r at = let x : IsMemory w ≡ IsFunc r.0 = some_same (sym at ∙ r.2) in absurd (cc)
    go kind_is (StandsForMemory w there) (ImportTable l) r at = let x : IsMemory w ≡ IsTable r.0 = some_same (sym at ∙ r.1) in absurd (cc)
    go kind_is (StandsForMemory w there) (ImportGlobal ty mutable) r at = let x : IsMemory w ≡ IsGlobal r.0 =
        some_same (sym at ∙ r.1) in absurd (cc)
    go kind_is (StandsForGlobal g there) (ImportGlobal ty mutable) r at =
        let x : IsGlobal r.0 ≡ IsGlobal g = some_same (sym r.1 ∙ at) in
        let same : r.0 ≡ g = cc in
        let typed : GlobalTyped s n e.index g = global_typed s accepted v n is h e.index g there in
        let types : global_type_in n.tree e.index ≡ Some (ty, mutable) = typed.in_module ∙ sym typed.in_set
        ∙ ap (global_type s) (sym same) ∙ r.2 in
        (sym (ap (kind_by n e) kind_is ∙ ap kind_of_global types), ap (type_by n.tree e) kind_is ∙ ap global_accessor_type types)
    go kind_is (StandsForGlobal g there) (ImportFunc t) r at = let x : IsGlobal g ≡ IsFunc r.0 = some_same (sym at ∙ r.2) in absurd (cc)
    go kind_is (StandsForGlobal g there) (ImportTable l) r at = let x : IsGlobal g ≡ IsTable r.0 = some_same (sym at ∙ r.1) in absurd (cc)
    go kind_is (StandsForGlobal g there) (ImportMemory l) r at = let x : IsGlobal g ≡ IsMemory r.0 = some_same (sym at ∙ r.1) in absurd (cc)

-- the type of an export is that of its function
does_type : (s : LinkedSet) (v : ℕ) (n : NamedModule) (e : Export) (o : External) → ExportDoes s v n e o
    → func_type_of (export_func n e) ≡ export_type n.tree e
does_type s v n e o (Passes pointer is_pointer ty i b func) =
    ap func_type_of (func ∙ ap (λ (t : tree.FuncType). passes_on t (export_symbol n e) (usable_symbol n i)) ty)
    ∙ passer_type is_pointer (export_symbol n e) (usable_symbol n i) ∙ sym ty
does_type s v n e o (GivesOwn pointer is_pointer ty object own func) =
    ap func_type_of (func ∙ ap (λ (t : tree.FuncType). external t (export_symbol n e) [] (own_stmts object)) ty) ∙ sym ty

no_func : (s : LinkedSet) (o : External) (t : ObjectAddress) (f : link.FuncAddress) → target_of s o ≡ Some t → o ≡ IsFunc f → ⊥
no_func s (IsFunc g) t f target e = cc
no_func s _ t f target e = cc

-- an export that stands for an object, with its symbol
pub record ObjectExported (s : LinkedSet) (v : ℕ) (n : NamedModule) (e : Export) (o : External) : Type 0 where
  pub kind : ExportKind
  pub kind_is : e.kind ≡ kind
  pub placed : IsPlaced s.hosts (instances s) v n
  pub stands : Stands (spaces_at s v n placed) e kind o

pub object_exported : (s : LinkedSet) (many : ℕ) (module_name name : List ℕ) (o : External) (t : ObjectAddress) → target_of s o ≡ Some t
    → (h : ExportedBy s many module_name name o) → ObjectExported s h.owner h.exporter h.one.one o
object_exported s many module_name name o t target h = record {
  kind = h.one.one.kind;
  kind_is = refl;
  placed = h.at;
  stands = stands_as s (spaces_at s h.owner h.exporter h.at) h.one.one h.one.one.kind o t target h.one.stands;
}

import_next : (s : LinkedSet) → IsAcceptedSet s → (u : ℕ) (m : NamedModule) → slice_get s.modules u ≡ Some m
    → ((v : ℕ) (n : NamedModule) → v < u → slice_get s.modules v ≡ Some n → ImportsGive s v n) → ImportsGive s u m
import_next s accepted u m is earlier i o t b target = go (origin s accepted u m is i o b.stands)
  where
    go : Origin s u i o → ImportGives s u m i t
    go (FromHost h) = absurd (no_func s o t _ target h.stands)
    go (FromModule h found) =
        let p : Program = program_of s in
        let n : NamedModule = h.exporter in
        let e : Export = h.one.one in
        let x : ObjectExported s h.owner n e o = object_exported s u i.«module» i.field o t target h in
        let both = same_both s accepted h.owner n h.exporter_is x.placed e x.kind o x.kind_is x.stands u m.tree i i.kind
        (import_resolves s accepted u m is b.place i b.is) b.stands in
        let kinds : import_kind i.kind ≡ kind_of n e = both.0 in
        let names : import_symbol i ≡ export_symbol n e
        = import_symbol_is i ∙ ap (λ k. export_symbol_of i.«module» k i.field) kinds
        ∙ ap (λ a. export_symbol_of a (kind_of n e) i.field) (sym h.its_name)
        ∙ ap (export_symbol_of n.name (kind_of n e)) (sym h.one.name_is) ∙ sym (symbol_is n e) in
        let symbol : SymbolFound s h.owner n e = symbol_found s accepted u i.«module» i.field o h in
        let from : Origin s u i o = FromModule h found in
        let outside : func_named p u (import_symbol i) ≡ external_func p (import_symbol i)
        = ap (func_named p u) (import_symbol_is i)
        ∙ named_external s accepted u m is i.«module» (origin_bytes s accepted u i o from) (origin_differs s accepted u m is i o from)
        (import_kind i.kind) i.field ∙ ap (external_func p) (sym (import_symbol_is i)) in
        let gives = export_gives s accepted h.owner n h.exporter_is e o t target symbol (earlier h.owner n h.early h.exporter_is)
        (export_does s h.owner n h.exporter_is x.placed e x.kind o x.kind_is x.stands) in
        record {
          usable = usable s accepted u m is b.place i b.is;
          free = ap primitive (import_symbol_is i) ∙ export_is_no_primitive i.«module» (import_kind i.kind) i.field;
          address = UnitFunc h.owner (export_symbol n e);
          address_is = outside ∙ ap (external_func p) names ∙ external_found s h.owner n e symbol;
          outside = ap (external_func p) names ∙ external_found s h.owner n e symbol;
          typed = symbol.typed
              ∙ ap Some (does_type s h.owner n e o (export_does s h.owner n h.exporter_is x.placed e x.kind o x.kind_is x.stands) ∙ both.1
              ∙ sym (type_is m.tree i));
          gives = λ pending mach below there. let r = gives pending mach below there in (r.0, omega (arith, r.1, h.early), r.2);
        }

imports_below : (s : LinkedSet) → IsAcceptedSet s → (count : ℕ) (v : ℕ) (n : NamedModule) → v < count → slice_get s.modules v ≡ Some n
    → ImportsGive s v n
imports_below s accepted zero v n less is = absurd (omega (arith, less))
imports_below s accepted (suc count) v n less is = import_next s accepted v n is
    (λ w o less'. imports_below s accepted count w o (omega (arith, less, less')))

-- Each import of a table, a memory or a global is reached, and gives the owner's pointer.
pub imports_give : (s : LinkedSet) → IsAcceptedSet s → (u : ℕ) (m : NamedModule) → slice_get s.modules u ≡ Some m
    → (i : Import) (o : External) (t : ObjectAddress) → ByImport s u m i o → target_of s o ≡ Some t → ImportGives s u m i t
imports_give s accepted u m is = imports_below s accepted (suc u) u m (omega arith) is
