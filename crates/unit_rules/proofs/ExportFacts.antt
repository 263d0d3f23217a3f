-- The exports of an accepted module: their symbols differ, each has its type in the unit, and what they name is there.
use Rattle.unit_rules.proofs.Common.{◌≡◌, ℕ, zero, suc, Bool, false, List, [], ◌∷◌, ◌++◌, map, is_none, slice_get, Some, None, All, Option}
use Rattle.unit_rules.proofs.Common.{flat_map, bytes_eq, sym, refl, ap, ◌∙◌, arith, true≢false, list_any-append, bytes_eq-Decides, list_any}
use Rattle.unit_rules.proofs.Common.{AllByRecursion, all_weaker, get_mapped, all_append, all_at, all_flat, all_from, all_map, at_index}
use Rattle.unit_rules.proofs.Common.{if_found, named, FuncType, ValType, export_symbol_of-injective, export_symbol_of, SymbolKind, type_in}
use Rattle.unit_rules.proofs.Common.{func_of_import, func_space, func_type_in, global_type_in, NamedModule, Export, ExportKind, ExportFunc}
use Rattle.unit_rules.proofs.Common.{ExportGlobal, ExportMemory, ExportTable, FuncEntry, Import, ImportKind, ImportFunc, ImportGlobal, Name}
use Rattle.unit_rules.proofs.Common.{ImportMemory, ImportTable, Module, duplicate_exports, fault_if, unknown_import_type, bytes_equal}
use Rattle.unit_rules.proofs.Common.{Typed, export_symbol, export_type, global_kind, global_symbol, import_symbol, imported_symbols}
use Rattle.unit_rules.proofs.Common.{symbol_type, IsAccepted, module_faults, AllPairs, rows_of, each_none, no_fault, no_left, no_right}
use Rattle.unit_rules.proofs.Common.{there_is, or_parts, by_test}
use Rattle.w2c_mangle.specs.declared.symbol.SymbolKind.TheVariants as symbol
use Rattle.wasm_typing.specs.declared.fault.ValidCause.TheVariants as cause
use Rattle.c_tree.specs.Tree as tree
use Rattle.unit_rules.proofs.Clashes.{pairs_weaker}

-- ---- names differ, and so do symbols

-- no earlier one has this name
none_earlier : (earlier exports : List Export) → duplicate_exports earlier exports ≡ []
    → AllByRecursion (λ (f : Export). list_any (λ (o : Export). bytes_eq o.name f.name) earlier ≡ false) exports
    × AllPairs (λ (e f : Export). bytes_eq e.name f.name ≡ false) exports
none_earlier earlier [] e = (tt, tt)
none_earlier earlier (x ∷ exports) e =
    let here = no_fault (list_any (λ (o : Export). bytes_eq o.name x.name) earlier) x.name_place cause.DuplicateExport
    (no_left (fault_if (list_any (λ (o : Export). bytes_eq o.name x.name) earlier) x.name_place cause.DuplicateExport) _ e) in
    let rest = none_earlier (earlier ++ x ∷ []) exports
    (no_right (fault_if (list_any (λ (o : Export). bytes_eq o.name x.name) earlier) x.name_place cause.DuplicateExport) _ e) in
    ((here, all_weaker _ _ exports (λ f g. (parts f g).0) rest.0), (all_weaker _ _ exports (λ f g. (parts f g).1) rest.0, rest.1))
  where
    parts : (f : Export) → list_any (λ (o : Export). bytes_eq o.name f.name) (earlier ++ x ∷ []) ≡ false
        → (list_any (λ (o : Export). bytes_eq o.name f.name) earlier ≡ false) × (bytes_eq x.name f.name ≡ false)
    parts f g =
        let both = or_parts (list_any (λ (o : Export). bytes_eq o.name f.name) earlier) _
        (sym (list_any-append (λ (o : Export). bytes_eq o.name f.name) earlier (x ∷ [])) ∙ g) in
        (both.0, (or_parts (bytes_eq x.name f.name) false both.1).0)

pub each_of : (P : ℕ → Type 0) (xs : List ℕ) → All P xs → AllByRecursion P xs
each_of P [] h = tt
each_of P (x ∷ xs) h = (h 0 0 (omega arith), each_of P xs (λ k d less. h (suc k) d (omega (arith, less))))

-- each symbol is that of a kind
pub import_kind : (i : Import) → (k : SymbolKind) × (import_symbol i ≡ export_symbol_of i.«module» k i.field)
import_kind i = by i.kind
  where
    by : (kind : ImportKind) → (k : SymbolKind) × (import_symbol (record i { kind = kind }) ≡ export_symbol_of i.«module» k i.field)
    by (ImportFunc x) = (symbol.Func, refl)
    by (ImportTable l) = (symbol.Table, refl)
    by (ImportMemory l) = (symbol.Memory, refl)
    by (ImportGlobal ty mutable) = (global_kind mutable, refl)

pub symbol_kind : (m : NamedModule) (e : Export) → (k : SymbolKind) × (export_symbol m e ≡ export_symbol_of m.name k e.name)
symbol_kind m e = by e.kind
  where
    global : (o : Option (ValType × Bool)) → (k : SymbolKind) × (global_symbol m.name o e.name ≡ export_symbol_of m.name k e.name)
    global None = (symbol.Const, refl)
    global (Some g) = (global_kind g.1, refl)

    by : (kind : ExportKind) → (k : SymbolKind) × (export_symbol m (record e { kind = kind }) ≡ export_symbol_of m.name k e.name)
    by ExportFunc = (symbol.Func, refl)
    by ExportTable = (symbol.Table, refl)
    by ExportMemory = (symbol.Memory, refl)
    by ExportGlobal = global (global_type_in m.tree e.index)

symbols_apart : (m : NamedModule) → IsAccepted m → (e f : Export) → bytes_eq e.name f.name ≡ false
    → bytes_eq (export_symbol m e) (export_symbol m f) ≡ false
symbols_apart m a e f ne = by_test (bytes_eq (export_symbol m e) (export_symbol m f)) (λ g.
    let p = symbol_kind m e in
    let q = symbol_kind m f in
    let same = export_symbol_of-injective m.name m.name p.0 q.0 e.name f.name a.bytes a.bytes
    (sym p.1 ∙ ((bytes_eq-Decides (export_symbol m e) (export_symbol m f)).0 g ∙ q.1)) in
    absurd (true≢false (sym (ap (bytes_eq e.name) (sym same.2) ∙ bytes_equal e.name) ∙ ne))) (λ g. g)

pub symbols_differ : (m : NamedModule) → IsAccepted m → AllPairs
    (λ (e f : Export). bytes_eq (export_symbol m e) (export_symbol m f) ≡ false) m.tree.exports
symbols_differ m a = pairs_weaker _ _ m.tree.exports (symbols_apart m a)
    (none_earlier [] m.tree.exports (rows_of m.tree a.valid.no_faults).duplicates).1

-- an export's symbol has the export's type in the unit
named_at : {A : Type 0} (key : A → Name) (val : A → tree.FuncType) (xs : List A) (more : List Typed) (i : ℕ) (x : A)
    → AllPairs (λ x y. bytes_eq (key x) (key y) ≡ false) xs → slice_get xs i ≡ Some x
    → named (key x) (map (λ y. (key y, val y)) xs ++ more) ≡ Some (val x)
named_at key val [] more i x differ at = absurd cc
named_at key val (y ∷ xs) more zero x differ at =
    let same : y ≡ x = cc in
    rw (ap (λ z. bytes_eq (key z) (key x)) same ∙ bytes_equal (key x)) (ap (λ z. Some (val z)) same)
named_at key val (y ∷ xs) more (suc i) x differ at =
    rw (all_at (λ z. bytes_eq (key y) (key z) ≡ false) xs i x differ.0 at) (named_at key val xs more i x differ.1 at)

pub symbol_types : (m : NamedModule) → IsAccepted m → AllByRecursion
    (λ (e : Export). symbol_type m (export_symbol m e) ≡ Some (export_type m.tree e)) m.tree.exports
symbol_types m a = all_from _ m.tree.exports (λ i e.
    named_at (export_symbol m) (export_type m.tree) m.tree.exports (imported_symbols m) i e (symbols_differ m a))

-- ---- functions have types

import_typed : (m : Module) (i : Import) → unknown_import_type m i ≡ []
    → AllByRecursion (λ x. is_none (type_in m x) ≡ false) (func_of_import i)
import_typed m i e = by i.kind e
  where
    by : (kind : ImportKind) → unknown_import_type m (record i { kind = kind }) ≡ [] → AllByRecursion (λ x. is_none (type_in m x) ≡ false)
        (func_of_import (record i { kind = kind }))
    by (ImportFunc x) e = (no_fault (is_none (type_in m x)) i.place cause.UnknownType e, tt)
    by _ e = tt

space_typed : (m : Module) → module_faults m ≡ [] → AllByRecursion (λ x. is_none (type_in m x) ≡ false) (func_space m)
space_typed m e =
    let known = (rows_of m e).known in
    all_append (λ x. is_none (type_in m x) ≡ false) (flat_map func_of_import m.imports) (map (λ f. f.type_index) m.funcs)
    (all_flat _ func_of_import m.imports (all_weaker _ _ m.imports (import_typed m)
    (each_none (unknown_import_type m) m.imports (no_left (flat_map (unknown_import_type m) m.imports) _ known))))
    (all_map _ (λ (f : FuncEntry). f.type_index) m.funcs (all_weaker _ _ m.funcs
    (λ f. no_fault (is_none (type_in m f.type_index)) f.place cause.UnknownType)
    (each_none (λ (f : FuncEntry). fault_if (is_none (type_in m f.type_index)) f.place cause.UnknownType) m.funcs
    (no_right (flat_map (unknown_import_type m) m.imports) _ known))))

-- a function that is there has a type, by its index too
pub func_typed : (m : Module) → module_faults m ≡ [] → (k : ℕ) → is_none (slice_get (func_space m) k) ≡ false
    → (ty : FuncType) × (func_type_in m k ≡ Some ty) × (at_index (map (type_in m) (func_space m)) k ≡ Some ty)
func_typed m e k out =
    let x = there_is (slice_get (func_space m) k) out in
    let found = there_is (type_in m x.0) (all_at (λ x. is_none (type_in m x) ≡ false) (func_space m) k x.0 (space_typed m e) x.1) in (
      found.0,
      ap (λ o. if_found o (type_in m)) x.1 ∙ found.1,
      ap (λ o. if_found o (λ entry. entry)) (get_mapped (type_in m) (func_space m) k x.0 x.1) ∙ found.1,
    )
