-- In a linked set each import may be used: imports with one symbol stand for one thing, so they have one type.
use Rattle.unit_meaning.proofs.Common.{◌≡◌, ℕ, zero, suc, ◌<◌, Bool, true, false, ◌≢◌, List, [], ◌∷◌, ◌++◌, map, take, if◌then◌else◌, Some}
use Rattle.unit_meaning.proofs.Common.{slice_get, None, All, Option, option_map, bytes_eq, sym, refl, ap, ◌∙◌, subst, arith, option_or}
use Rattle.unit_meaning.proofs.Common.{bytes_eq-Decides, all_at, if_found, named, ValType, export_symbol_of-injective, export_symbol_of}
use Rattle.unit_meaning.proofs.Common.{SymbolKind, type_in, Export, Import, ImportKind, ImportFunc, ImportGlobal, ImportMemory, ImportTable}
use Rattle.unit_meaning.proofs.Common.{Module, same_func_type, Name, External, IsFunc, IsGlobal, IsMemory, IsTable, LinkedSet, NamedModule}
use Rattle.unit_meaning.proofs.Common.{Resolves, exported, global_type, import_at, instances, offered, type_at, bytes_differ, bytes_equal}
use Rattle.unit_meaning.proofs.Common.{accessor_type, c_func_type_if, export_symbol, export_type, global_kind, import_symbol, import_type}
use Rattle.unit_meaning.proofs.Common.{imported_symbols, is_usable, pointer_type, symbol_type, same_c_func_type, ResolvesAs, IsAcceptedSet}
use Rattle.w2c_mangle.specs.declared.symbol.SymbolKind.TheVariants as symbol
use Rattle.wasm_meaning.specs.LinkedSet.{func_type}
use Rattle.c_tree.specs.declared.tree.CType.TheVariants as c_type
use Rattle.c_tree.specs.Tree as tree
use Rattle.unit_definition.proofs.Defined.{kind_of, symbol_is}
use Rattle.unit_meaning.proofs.Linked.{ExportedBy, exported_before, modules_differ, module_is_no_host, accepted_at}
use Rattle.unit_meaning.proofs.HostSymbols.{OfferedBy, offered_by}
use Rattle.c_init.proofs.Small.{some_same}

-- ---- where an import's thing comes from

-- an earlier module exports it, or else a host offers it
pub data Origin (s : LinkedSet) (u : ℕ) (i : Import) (o : External) : Type 0 where
  FromModule : (h : ExportedBy s u i.«module» i.field o) → (found : exported (take u (instances s)) i.«module» i.field ≡ Some o)
      → Origin s u i o
  FromHost : (h : OfferedBy s i.«module» i.field o) → Origin s u i o

pub origin : (s : LinkedSet) → IsAcceptedSet s → (u : ℕ) (m : NamedModule) → slice_get s.modules u ≡ Some m → (i : Import) (o : External)
    → import_at s u i ≡ Some o → Origin s u i o
origin s accepted u m is i o at = go (exported (take u (instances s)) i.«module» i.field) refl at
  where
    go : (x : Option External) → exported (take u (instances s)) i.«module» i.field ≡ x
        → option_or x (offered s.hosts i.«module» i.field) ≡ Some o → Origin s u i o
    go None e found = FromHost (offered_by s accepted i.«module» i.field o found)
    go (Some y) e found = FromModule (exported_before s u m is i.«module» i.field o (e ∙ found)) (e ∙ found)

-- so its module's name is one of bytes, and not this module's
pub origin_bytes : (s : LinkedSet) → IsAcceptedSet s → (u : ℕ) (i : Import) (o : External) → Origin s u i o → All (λ b. b < 256) i.«module»
origin_bytes s accepted u i o (FromModule h found) = subst (All (λ b. b < 256)) h.its_name
    (accepted_at s accepted h.owner h.exporter h.exporter_is).bytes
origin_bytes s accepted u i o (FromHost h) = subst (All (λ b. b < 256)) h.its_name
    (all_at (λ h. All (λ b. b < 256) h.name) s.hosts h.host h.one accepted.host_bytes h.host_is)

pub origin_differs : (s : LinkedSet) → IsAcceptedSet s → (u : ℕ) (m : NamedModule) → slice_get s.modules u ≡ Some m
    → (i : Import) (o : External) → Origin s u i o → m.name ≢ i.«module»
origin_differs s accepted u m is i o (FromModule h found) e =
    modules_differ s accepted.linked u h.owner m h.exporter is h.exporter_is (λ same. absurd (omega (arith, same, h.early)))
    (e ∙ sym h.its_name)
origin_differs s accepted u m is i o (FromHost h) e = module_is_no_host s accepted.linked u h.host m h.one is h.host_is (e ∙ sym h.its_name)

-- ---- kinds

abbrev pub import_kind : ImportKind → SymbolKind
import_kind (ImportFunc t) = symbol.Func
import_kind (ImportTable l) = symbol.Table
import_kind (ImportMemory l) = symbol.Memory
import_kind (ImportGlobal t mutable) = global_kind mutable

pub import_symbol_is : (i : Import) → import_symbol i ≡ export_symbol_of i.«module» (import_kind i.kind) i.field
import_symbol_is i = by i.kind
  where
    by : (k : ImportKind) → import_symbol (record i { kind = k }) ≡ export_symbol_of i.«module» (import_kind k) i.field
    by (ImportFunc t) = refl
    by _ = refl

resolved : (s : LinkedSet) (p : ℕ) (i : Import) (k : ImportKind) → ResolvesAs s p i k → (o : External) × (import_at s p i ≡ Some o)
resolved s p i (ImportFunc t) r = (IsFunc r.0, r.2)
resolved s p i (ImportTable l) r = (IsTable r.0, r.1)
resolved s p i (ImportMemory l) r = (IsMemory r.0, r.1)
resolved s p i (ImportGlobal t mutable) r = (IsGlobal r.0, r.1)

pub import_resolves : (s : LinkedSet) → IsAcceptedSet s → (u : ℕ) (m : NamedModule) → slice_get s.modules u ≡ Some m → (k : ℕ) (i : Import)
    → slice_get m.tree.imports k ≡ Some i → ResolvesAs s u i i.kind
import_resolves s accepted u m is k i at = (all_at (Resolves s u) m.tree.imports k i
    (accepted.linked.imports_resolve u m.tree (ap (option_map (λ (m : NamedModule). m.tree)) is)) at)

pub import_origin : (s : LinkedSet) → IsAcceptedSet s → (u : ℕ) (m : NamedModule) → slice_get s.modules u ≡ Some m → (k : ℕ) (i : Import)
    → slice_get m.tree.imports k ≡ Some i → (o : External) × Origin s u i o
import_origin s accepted u m is k i at =
    let r = resolved s u i i.kind (import_resolves s accepted u m is k i at) in
    (r.0, origin s accepted u m is i r.0 r.1)

-- the type of an import by its kind
abbrev pub type_as : Module → ImportKind → tree.FuncType
type_as m (ImportFunc t) = c_func_type_if (type_in m t)
type_as m (ImportTable l) = accessor_type c_type.PtrTab
type_as m (ImportMemory l) = accessor_type c_type.PtrMem
type_as m (ImportGlobal t mutable) = accessor_type (pointer_type t)

pub type_is : (m : Module) (i : Import) → import_type m i ≡ type_as m i.kind
type_is m i = by i.kind
  where
    by : (k : ImportKind) → import_type m (record i { kind = k }) ≡ type_as m k
    by (ImportFunc t) = refl
    by _ = refl

pub type_at_is : (s : LinkedSet) (u : ℕ) (m : NamedModule) → slice_get s.modules u ≡ Some m → (t : ℕ) → type_at s u t ≡ type_in m.tree t
type_at_is s u m is t = ap (λ (x : Option NamedModule). if_found (option_map (λ (m : NamedModule). m.tree) x)
    (λ m. option_map (λ t. t.ty) (slice_get m.types t))) is

same_kind_types : (s : LinkedSet) (u : ℕ) (m : NamedModule) → slice_get s.modules u ≡ Some m → (i j : Import)
    → import_at s u i ≡ import_at s u j → (k l : ImportKind) → ResolvesAs s u i k → ResolvesAs s u j l → import_kind k ≡ import_kind l
    → type_as m.tree k ≡ type_as m.tree l
same_kind_types s u m is i j same (ImportFunc t) (ImportFunc t') r q e =
    let funcs : IsFunc r.0 ≡ IsFunc q.0 = some_same (sym r.2 ∙ same ∙ q.2) in
    let func : r.0 ≡ q.0 = cc in
    let types : r.1 ≡ q.1 = some_same (sym r.4 ∙ ap (func_type s) func ∙ q.4) in
    ap c_func_type_if (sym (type_at_is s u m is t) ∙ r.3 ∙ ap Some types ∙ sym q.3 ∙ type_at_is s u m is t')
same_kind_types s u m is i j same (ImportTable l) (ImportTable l') r q e = refl
same_kind_types s u m is i j same (ImportMemory l) (ImportMemory l') r q e = refl
same_kind_types s u m is i j same (ImportGlobal t mutable) (ImportGlobal t' mutable') r q e =
    let globals : IsGlobal r.0 ≡ IsGlobal q.0 = some_same (sym r.1 ∙ same ∙ q.1) in
    let global : r.0 ≡ q.0 = cc in
    let types : (t, mutable) ≡ (t', mutable') = some_same (sym r.2 ∙ ap (global_type s) global ∙ q.2) in
    ap (λ (g : ValType × Bool). accessor_type (pointer_type g.0)) types
same_kind_types s u m is i j same (ImportGlobal t true) (ImportFunc t') r q e = absurd (cc)
same_kind_types s u m is i j same (ImportGlobal t false) (ImportFunc t') r q e = absurd (cc)
same_kind_types s u m is i j same (ImportGlobal t true) _ r q e = absurd (cc)
same_kind_types s u m is i j same (ImportGlobal t false) _ r q e = absurd (cc)
same_kind_types s u m is i j same (ImportFunc t') (ImportGlobal t true) r q e = absurd (cc)
same_kind_types s u m is i j same (ImportFunc t') (ImportGlobal t false) r q e = absurd (cc)
same_kind_types s u m is i j same _ (ImportGlobal t true) r q e = absurd (cc)
same_kind_types s u m is i j same _ (ImportGlobal t false) r q e = absurd (cc)
same_kind_types s u m is i j same _ _ r q e = absurd (cc)

-- imports with one symbol have one type
pub same_symbol_types : (s : LinkedSet) → IsAcceptedSet s → (u : ℕ) (m : NamedModule) → slice_get s.modules u ≡ Some m
    → (k l : ℕ) (i j : Import) → slice_get m.tree.imports k ≡ Some i → slice_get m.tree.imports l ≡ Some j
    → import_symbol i ≡ import_symbol j → import_type m.tree i ≡ import_type m.tree j
same_symbol_types s accepted u m is k l i j at at' same =
    let from = import_origin s accepted u m is k i at in
    let from' = import_origin s accepted u m is l j at' in
    let parts = export_symbol_of-injective i.«module» j.«module» (import_kind i.kind) (import_kind j.kind) i.field j.field
    (origin_bytes s accepted u i from.0 from.1) (origin_bytes s accepted u j from'.0 from'.1)
    (sym (import_symbol_is i) ∙ same ∙ import_symbol_is j) in
    let stands : import_at s u i ≡ import_at s u j
    = ap (λ (name : Name). option_or (exported (take u (instances s)) name i.field) (offered s.hosts name i.field)) parts.0
    ∙ ap (λ (field : Name). option_or (exported (take u (instances s)) j.«module» field) (offered s.hosts j.«module» field)) parts.2 in
    type_is m.tree i ∙ same_kind_types s u m is i j stands i.kind j.kind (import_resolves s accepted u m is k i at)
    (import_resolves s accepted u m is l j at') parts.1 ∙ sym (type_is m.tree j)

-- ---- the symbol's type in the unit

named_behind : {A : Type 0} (m : NamedModule) (ty : Export → A) (name : Name) (exports : List Export) (others : List (Name × A))
    → ((e : Export) → export_symbol m e ≢ name) → named name (map (λ e. (export_symbol m e, ty e)) exports ++ others) ≡ named name others
named_behind m ty name [] others h = refl
named_behind m ty name (e ∷ exports) others h = let differ = bytes_differ (export_symbol m e) name (h e) in
    rw differ (named_behind m ty name exports others h)

named_import : {A : Type 0} (ty : Import → A) (imports : List Import) (k : ℕ) (i : Import) → slice_get imports k ≡ Some i
    → (l : ℕ) × (j : Import) × (slice_get imports l ≡ Some j) × (import_symbol j ≡ import_symbol i)
    × (named (import_symbol i) (map (λ i. (import_symbol i, ty i)) imports) ≡ Some (ty j))
named_import ty [] k i at = absurd (cc)
named_import {A} ty (x ∷ imports) k i at = go k (bytes_eq (import_symbol x) (import_symbol i)) refl at
    (λ k at. named_import ty imports k i at)
  where
    go : (k : ℕ) (b : Bool) → bytes_eq (import_symbol x) (import_symbol i) ≡ b → slice_get (x ∷ imports) k ≡ Some i
        → ((k : ℕ) → slice_get imports k ≡ Some i → (l : ℕ) × (j : Import) × (slice_get imports l ≡ Some j) ×
        (import_symbol j ≡ import_symbol i) × (named (import_symbol i) (map (λ i. (import_symbol i, ty i)) imports) ≡ Some (ty j)))
        → (l : ℕ) × (j : Import) × (slice_get (x ∷ imports) l ≡ Some j) × (import_symbol j ≡ import_symbol i)
        × ((if b then Some (ty x) else named (import_symbol i) (map (λ i. (import_symbol i, ty i)) imports)) ≡ Some (ty j))
    go k true e at others = (0, x, refl, (bytes_eq-Decides (import_symbol x) (import_symbol i)).0 e, refl)
    go zero false e at others =
        let same : x ≡ i = cc in
        let wrong : false ≡ true = sym e ∙ ap (λ (y : Import). bytes_eq (import_symbol y) (import_symbol i)) same
        ∙ bytes_equal (import_symbol i) in
        absurd (cc)
    go (suc k) false e at others = let h = others k at in (suc h.0, h.1, h.2, h.3, h.4)

pub symbol_typed : (s : LinkedSet) → IsAcceptedSet s → (u : ℕ) (m : NamedModule) → slice_get s.modules u ≡ Some m → (k : ℕ) (i : Import)
    → slice_get m.tree.imports k ≡ Some i → symbol_type m (import_symbol i) ≡ Some (import_type m.tree i)
symbol_typed s accepted u m is k i at =
    let from = import_origin s accepted u m is k i at in
    let small = origin_bytes s accepted u i from.0 from.1 in
    let differ = origin_differs s accepted u m is i from.0 from.1 in
    let first = named_import (import_type m.tree) m.tree.imports k i at in
    named_behind m (export_type m.tree) (import_symbol i) m.tree.exports (imported_symbols m) (λ e same.
    differ (export_symbol_of-injective m.name i.«module» (kind_of m e) (import_kind i.kind) e.name i.field
    (accepted_at s accepted u m is).bytes small (sym (symbol_is m e) ∙ same ∙ import_symbol_is i)).0) ∙ first.4
    ∙ ap Some (same_symbol_types s accepted u m is first.0 k first.1 i first.2 at first.3)

pub usable : (s : LinkedSet) → IsAcceptedSet s → (u : ℕ) (m : NamedModule) → slice_get s.modules u ≡ Some m → (k : ℕ) (i : Import)
    → slice_get m.tree.imports k ≡ Some i → is_usable m i ≡ true
usable s accepted u m is k i at =
    ap (λ (o : Option tree.FuncType). elim o [ None ↦ false | Some t ↦ same_func_type t (import_type m.tree i) ])
    (symbol_typed s accepted u m is k i at) ∙ same_c_func_type (import_type m.tree i)
