-- The sections of a module's unit: the classes of their names, and that no two of their items clash.
use Rattle.unit_definition.proofs.Common.{◌≡◌, ℕ, ◌+◌, ◌-◌, ◌^◌, ◌<◌, ◌≤◌, Bool, true, false, List, [], ◌∷◌, ◌++◌, map, length, slice_get}
use Rattle.unit_definition.proofs.Common.{Some, None, Option, flat_map, bytes_eq, sym, refl, ap, ◌∙◌, subst, arith, length-append, all_map}
use Rattle.unit_definition.proofs.Common.{map-append, AllByRecursion, all_append, numbered, ValType, export_symbol_of-parts, init_symbol_of}
use Rattle.unit_definition.proofs.Common.{init_symbol_of-parts, export_symbol_of, SymbolKind, global_type_in, imported_funcs, Export, Name}
use Rattle.unit_definition.proofs.Common.{imported_globals, is_func_import, is_global_import, memory_of_import, table_of_import, ExportKind}
use Rattle.unit_definition.proofs.Common.{ExportFunc, ExportGlobal, ExportMemory, ExportTable, Import, ImportKind, ImportFunc, ImportGlobal}
use Rattle.unit_definition.proofs.Common.{ImportMemory, ImportTable, LimitsEntry, SegmentEntry, LoadOp, StoreOp, Module, is_symbol, name_of}
use Rattle.unit_definition.proofs.Common.{CType, NamedModule, func_name, global_name, memory_name, table_name, helper_of, Helper, NumOp}
use Rattle.unit_definition.proofs.Common.{Typed, declared_symbols, export_symbol, export_type, firsts, global_imports, global_kind, class}
use Rattle.unit_definition.proofs.Common.{global_symbol, import_symbol, import_type, memory_imports, table_imports, class_lettered, body_of}
use Rattle.unit_definition.proofs.Common.{class_pointer, filter_few, lettered, memory_count, table_count, pointer_name, helpers_of, callee}
use Rattle.unit_definition.proofs.Common.{accessor, export_func, passes_on, usable_symbol, data_name, bodies, data_of, declaration, items}
use Rattle.unit_definition.proofs.Common.{prototype, IsAccepted, length-map}
use Rattle.w2c_mangle.specs.declared.symbol.SymbolKind.TheVariants as symbol
use Rattle.c_tree.specs.declared.tree.CType.TheVariants as type
use Rattle.c_tree.specs.Tree as tree
use Rattle.wasm_tree.specs.declared.operators.LoadOp.TheVariants as load
use Rattle.wasm_tree.specs.declared.operators.StoreOp.TheVariants as store
use Rattle.unit_definition.proofs.SectionLists.{global_item, global_pointers, globals, memory_pointers, mems, pointer_item, pointers}
use Rattle.unit_definition.proofs.SectionLists.{table_pointers, tabs}
use Rattle.unit_definition.proofs.BodiesAt.{body_at}
use Rattle.unit_definition.proofs.Pairs.{AllPairs, all_zip, pairs_zip, all_flat, pairs_flat, all_range, pairs_joined, firsts_all}
use Rattle.unit_definition.proofs.AcceptedLimits.{accepted_limits}
use Rattle.unit_definition.proofs.Wholes.{map_twice}
use Rattle.c_helpers.specs.declared.operation.Helper.TheVariants as helper
use Rattle.c_helpers.specs.declared.operation.NumOp.TheVariants as num
use Rattle.c_init.proofs.Small.{all_images}
use Rattle.c_init.proofs.Countable.{few_tables, few_memories}
use Rattle.c_init.proofs.FewParts.{few_parts}
use Rattle.c_init.specs.Init.{Part, part_func, parts_of}
use Rattle.c_tree.proofs.NameClasses.{class_part, part_names}

-- ---- classes

abbrev pub AllClass : ℕ → List tree.Item → Type 0
AllClass k items = AllByRecursion (λ o. class (name_of o) ≡ k) items

pub symbol_class : (m : List ℕ) (k : SymbolKind) (n : List ℕ) → class (export_symbol_of m k n) ≡ 6
symbol_class m k n = ap class (export_symbol_of-parts m k n)

pub init_class : (m : List ℕ) → class (init_symbol_of m) ≡ 6
init_class m = ap class (init_symbol_of-parts m)

pub symbol_is : (m : List ℕ) (k : SymbolKind) (n : List ℕ) → is_symbol (export_symbol_of m k n) ≡ true
symbol_is m k n = ap is_symbol (export_symbol_of-parts m k n)

pub init_is : (m : List ℕ) → is_symbol (init_symbol_of m) ≡ true
init_is m = ap is_symbol (init_symbol_of-parts m)

-- what holds of all symbols of exports holds of an import's
pub of_import : (P : Name → Type 0) → ((m : List ℕ) (k : SymbolKind) (n : List ℕ) → P (export_symbol_of m k n)) → (i : Import)
    → P (import_symbol i)
of_import P f i = by i.kind
  where
    by : (kind : ImportKind) → P (import_symbol (record i { kind = kind }))
    by (ImportFunc t) = f i.«module» symbol.Func i.field
    by (ImportTable l) = f i.«module» symbol.Table i.field
    by (ImportMemory l) = f i.«module» symbol.Memory i.field
    by (ImportGlobal t mutable) = f i.«module» (global_kind mutable) i.field

pub of_export : (P : Name → Type 0) (m : NamedModule) → ((k : SymbolKind) (n : List ℕ) → P (export_symbol_of m.name k n)) → (e : Export)
    → P (export_symbol m e)
of_export P m f e = by e.kind
  where
    global : (o : Option (ValType × Bool)) → P (global_symbol m.name o e.name)
    global None = f symbol.Const e.name
    global (Some g) = f (global_kind g.1) e.name

    by : (kind : ExportKind) → P (export_symbol m (record e { kind = kind }))
    by ExportFunc = f symbol.Func e.name
    by ExportTable = f symbol.Table e.name
    by ExportMemory = f symbol.Memory e.name
    by ExportGlobal = global (global_type_in m.tree e.index)

number_class : (o : NumOp) → class (helper_of (helper.Num o)).name ≡ 8
number_class num.I32DivS = refl
number_class _ = refl

load_class : (o : LoadOp) → class (helper_of (helper.Load o)).name ≡ 8
load_class load.I32Load = refl
load_class _ = refl

store_class : (o : StoreOp) → class (helper_of (helper.Store o)).name ≡ 8
store_class store.I32Store = refl
store_class _ = refl

pub helper_class : (which : Helper) → class (helper_of which).name ≡ 8
helper_class (helper.Num o) = number_class o
helper_class (helper.Load o) = load_class o
helper_class (helper.Store o) = store_class o
helper_class _ = refl

abbrev variable : CType → Name → tree.Item
variable t name = tree.Var t name None

abbrev NotSame : tree.Item → tree.Item → Type 0
NotSame o x = bytes_eq (name_of o) (name_of x) ≡ false

-- ---- tables and memories are one at most

one_pairs : {A B : Type 0} (R : B → B → Type 0) (f : A → B) (xs : List A) → length xs ≤ 1 → AllPairs R (map f xs)
one_pairs R f [] le = tt
one_pairs R f (x ∷ []) le = (tt, tt)
one_pairs R f (x ∷ y ∷ xs) le = absurd (omega arith)

-- the function of an export has its symbol
passes_name : (ty : tree.FuncType) (n : Name) (o : Option Name) → (passes_on ty n o).name ≡ n
passes_name ty n o = by ty.result
  where
    by : (r : CType) → (passes_on (record { params = ty.params; result = r }) n o).name ≡ n
    by type.Void = refl
    by _ = refl

accessor_name : (m : NamedModule) (ty : tree.FuncType) (n : Name) (i : Option Import) (object : Name) → (accessor m ty n i object).name ≡ n
accessor_name m ty n None object = refl
accessor_name m ty n (Some i) object = passes_name ty n (usable_symbol m i)

pub export_name : (m : NamedModule) (e : Export) → (export_func m e).name ≡ export_symbol m e
export_name m e = by e.kind
  where
    by : (kind : ExportKind) → (elim kind as (λ k. tree.Func) [
      | ExportFunc ↦ passes_on (export_type m.tree e) (export_symbol m e) (callee m e.index)
      | ExportTable ↦ accessor m (export_type m.tree e) (export_symbol m e) (slice_get (table_imports m.tree) e.index) table_name
      | ExportMemory ↦ accessor m (export_type m.tree e) (export_symbol m e) (slice_get (memory_imports m.tree) e.index) memory_name
      | ExportGlobal ↦ accessor m (export_type m.tree e) (export_symbol m e) (slice_get (global_imports m.tree) e.index)
          (global_name e.index)
    ]).name ≡ export_symbol m e
    by ExportFunc = passes_name (export_type m.tree e) (export_symbol m e) (callee m e.index)
    by ExportTable = accessor_name m (export_type m.tree e) (export_symbol m e) (slice_get (table_imports m.tree) e.index) table_name
    by ExportMemory = accessor_name m (export_type m.tree e) (export_symbol m e) (slice_get (memory_imports m.tree) e.index) memory_name
    by ExportGlobal = accessor_name m (export_type m.tree e) (export_symbol m e) (slice_get (global_imports m.tree) e.index)
        (global_name e.index)

-- ---- the sections of an accepted module's unit

module _ (m : NamedModule) (a : IsAccepted m) where
  abbrev t : Module
  t = m.tree

  pub few_globals : imported_globals t + length t.globals ≤ 2 ^ 64
  few_globals = let i = filter_few is_global_import t.imports in omega (arith, i, (accepted_limits a).imports, (accepted_limits a).globals)

  pub few_funcs : imported_funcs t + length t.funcs ≤ 2 ^ 64
  few_funcs = let i = filter_few is_func_import t.imports in omega (arith, i, (accepted_limits a).imports, (accepted_limits a).funcs)

  -- parts of the init function

  pub parts_class : AllClass 10 (map (λ p. tree.Function (part_func t p)) (numbered (parts_of t)))
  parts_class = all_zip (λ o. class (name_of o) ≡ 10) (λ (p : ℕ × Part). tree.Function (part_func t p)) 0 (length (parts_of t)) (parts_of t)
      (omega arith) (λ j x low high. class_part j)

  pub parts_pairs : AllPairs NotSame (map (λ p. tree.Function (part_func t p)) (numbered (parts_of t)))
  parts_pairs = pairs_zip NotSame (λ (p : ℕ × Part). tree.Function (part_func t p)) 0 (length (parts_of t)) (parts_of t) (omega arith)
      (λ i j x y less high. let few = few_parts t a.within in
      part_names i j (omega (arith, less, high, few)) (omega (arith, high, few)) (λ e. absurd (omega (arith, e, less))))

  -- objects

  pub tabs_class : AllClass 1 (tabs m)
  tabs_class = all_images (λ o. class (name_of o) ≡ 1) (λ (x : LimitsEntry). variable type.Tab table_name) t.tables (λ x. refl)

  pub mems_class : AllClass 2 (mems m)
  mems_class = all_images (λ o. class (name_of o) ≡ 2) (λ (x : LimitsEntry). variable type.Mem memory_name) t.memories (λ x. refl)

  pub globals_class : AllClass 3 (globals m)
  globals_class = all_zip (λ o. class (name_of o) ≡ 3) (global_item m) 0 (length t.globals) t.globals (omega arith)
      (λ j g low high. class_lettered 103 (imported_globals t + j) (omega (arith, high, few_globals)) refl)

  pub tabs_pairs : AllPairs NotSame (tabs m)
  tabs_pairs = one_pairs NotSame (λ (x : LimitsEntry). variable type.Tab table_name) t.tables
      (let l = few_tables t a.valid.no_faults in let n = length-append (flat_map table_of_import t.imports)
      (map (λ (x : LimitsEntry). x.limits) t.tables) in let q = length-map t.tables (λ (x : LimitsEntry). x.limits) in
      omega (arith, l, n, q))

  pub mems_pairs : AllPairs NotSame (mems m)
  mems_pairs = one_pairs NotSame (λ (x : LimitsEntry). variable type.Mem memory_name) t.memories
      (let l = few_memories t a.valid.no_faults in let n = length-append (flat_map memory_of_import t.imports)
      (map (λ (x : LimitsEntry). x.limits) t.memories) in let q = length-map t.memories (λ (x : LimitsEntry). x.limits) in
      omega (arith, l, n, q))

  pub globals_pairs : AllPairs NotSame (globals m)
  globals_pairs = pairs_zip NotSame (global_item m) 0 (length t.globals) t.globals (omega arith)
      (λ i j x y less high. lettered 103 (imported_globals t + i) (imported_globals t + j) (omega (arith, less, high, few_globals))
      (omega (arith, high, few_globals)) (λ e. absurd (omega (arith, e, less))))

  -- pointers

  pub few_imports : length (global_imports t) ≤ 2 ^ 64
  few_imports = let i = filter_few is_global_import t.imports in omega (arith, i, (accepted_limits a).imports)

  pub pointers_are : pointers m ≡ memory_pointers m ++ (table_pointers m ++ global_pointers m)
  pointers_are =
      map-append item (map (λ (i : Import). (type.PtrMem, pointer_name memory_name)) (memory_imports t)) _
      ∙ (ap (λ o. o ++ map item (map (λ (i : Import). (type.PtrTab, pointer_name table_name)) (table_imports t) ++ map global
      (numbered (global_imports t)))) (map_twice item (λ (i : Import). (type.PtrMem, pointer_name memory_name)) (memory_imports t))
      ∙ ap (λ o. memory_pointers m ++ o) (map-append item (map (λ (i : Import). (type.PtrTab, pointer_name table_name)) (table_imports t)) _
      ∙ (ap (λ o. o ++ map item (map global (numbered (global_imports t))))
      (map_twice item (λ (i : Import). (type.PtrTab, pointer_name table_name)) (table_imports t))
      ∙ ap (λ o. table_pointers m ++ o) (map_twice item global (numbered (global_imports t))))))
    where
      item : CType × Name → tree.Item
      item p = variable p.0 p.1

      global : ℕ × Import → CType × Name
      global i = ((import_type t i.1).result, pointer_name (global_name i.0))

  pub pointers_class : AllClass 4 (pointers m)
  pointers_class = subst (AllClass 4) (sym pointers_are)
      (all_append (λ o. class (name_of o) ≡ 4) (memory_pointers m) _
      (all_images (λ o. class (name_of o) ≡ 4) (λ (i : Import). variable type.PtrMem (pointer_name memory_name)) (memory_imports t)
      (λ i. refl))
      (all_append (λ o. class (name_of o) ≡ 4) (table_pointers m) _
      (all_images (λ o. class (name_of o) ≡ 4) (λ (i : Import). variable type.PtrTab (pointer_name table_name)) (table_imports t)
      (λ i. refl))
      (all_zip (λ o. class (name_of o) ≡ 4) (pointer_item m) 0 (length (global_imports t)) (global_imports t) (omega arith)
      (λ j i low high. class_pointer 112 103 j (omega (arith, high, few_imports)) refl))))

  pub pointers_pairs : AllPairs NotSame (pointers m)
  pointers_pairs = subst (AllPairs NotSame) (sym pointers_are)
      (pairs_joined NotSame (memory_pointers m) _
      (all_images (λ o. AllByRecursion (NotSame o) (table_pointers m ++ global_pointers m))
      (λ (i : Import). variable type.PtrMem (pointer_name memory_name)) (memory_imports t)
      (λ i. all_append (NotSame (variable type.PtrMem (pointer_name memory_name))) (table_pointers m) (global_pointers m)
      (all_images _ (λ (i : Import). variable type.PtrTab (pointer_name table_name)) (table_imports t) (λ x. refl))
      (all_zip _ (pointer_item m) 0 (length (global_imports t)) (global_imports t) (omega arith) (λ j x low high. refl))))
      (one_pairs NotSame (λ (i : Import). variable type.PtrMem (pointer_name memory_name)) (memory_imports t)
      (let l = few_memories t a.valid.no_faults in let n = length-append (flat_map memory_of_import t.imports)
      (map (λ (x : LimitsEntry). x.limits) t.memories) in let q = memory_count t.imports in omega (arith, l, n, q)))
      (pairs_joined NotSame (table_pointers m) _
      (all_images (λ o. AllByRecursion (NotSame o) (global_pointers m)) (λ (i : Import). variable type.PtrTab (pointer_name table_name))
      (table_imports t)
      (λ i. all_zip _ (pointer_item m) 0 (length (global_imports t)) (global_imports t) (omega arith) (λ j x low high. refl)))
      (one_pairs NotSame (λ (i : Import). variable type.PtrTab (pointer_name table_name)) (table_imports t)
      (let l = few_tables t a.valid.no_faults in let n = length-append (flat_map table_of_import t.imports)
      (map (λ (x : LimitsEntry). x.limits) t.tables) in let q = table_count t.imports in omega (arith, l, n, q)))
      (pairs_zip NotSame (pointer_item m) 0 (length (global_imports t)) (global_imports t) (omega arith)
      (λ i j x y less high. lettered 103 i j (omega (arith, less, high, few_imports)) (omega (arith, high, few_imports))
      (λ e. absurd (omega (arith, e, less)))))))

  -- data
  abbrev data_item : ℕ × SegmentEntry → List tree.Item
  data_item d = elim d.1.bytes [ [] ↦ [] | b ∷ bytes ↦ tree.Array (data_name d.0) (length d.1.bytes) d.1.bytes ∷ [] ]

  one_data : (P : tree.Item → Type 0) (d : ℕ × SegmentEntry) → P (tree.Array (data_name d.0) (length d.1.bytes) d.1.bytes)
      → AllByRecursion P (data_item d)
  one_data P d p = by d.1.bytes
    where
      by : (bs : List ℕ) → AllByRecursion P (elim bs [ [] ↦ [] | b ∷ bytes ↦ tree.Array (data_name d.0) (length d.1.bytes) d.1.bytes ∷ [] ])
      by [] = tt
      by (b ∷ bytes) = (p, tt)

  pub data_class : AllClass 5 (data_of t)
  data_class = all_flat (λ o. class (name_of o) ≡ 5) data_item 0 (length t.segments) t.segments (omega arith)
      (λ j d low high. one_data (λ o. class (name_of o) ≡ 5) (j, d)
      (class_lettered 100 j (omega (arith, high, (accepted_limits a).segments)) refl))

  pub data_pairs : AllPairs NotSame (data_of t)
  data_pairs = pairs_flat NotSame data_item 0 (length t.segments) t.segments (omega arith)
      (λ i d. single (i, d))
      (λ i j x y less high. one_data (λ o. AllByRecursion (NotSame o) (data_item (j, y))) (i, x)
      (one_data (NotSame (tree.Array (data_name i) (length x.bytes) x.bytes)) (j, y)
      (lettered 100 i j (omega (arith, less, high, (accepted_limits a).segments)) (omega (arith, high, (accepted_limits a).segments))
      (λ e. absurd (omega (arith, e, less))))))
    where
      single : (d : ℕ × SegmentEntry) → AllPairs NotSame (data_item d)
      single d = by d.1.bytes
        where
          by : (bs : List ℕ) → AllPairs NotSame
              (elim bs [ [] ↦ [] | b ∷ bytes ↦ tree.Array (data_name d.0) (length d.1.bytes) d.1.bytes ∷ [] ])
          by [] = tt
          by (b ∷ bytes) = (tt, tt)

  -- declarations of imports' symbols
  pub symbols_class : AllByRecursion (λ (n : Name). class n ≡ 6) (firsts [] (map import_symbol t.imports))
  symbols_class = firsts_all (λ n. class n ≡ 6) [] (map import_symbol t.imports)
      (all_images (λ n. class n ≡ 6) import_symbol t.imports (of_import (λ n. class n ≡ 6) symbol_class))

  pub declared_class : AllClass 6 (map declaration (declared_symbols m))
  declared_class = all_map (λ o. class (name_of o) ≡ 6) declaration (declared_symbols m)
      (all_map (λ (s : Typed). class s.0 ≡ 6) _ (firsts [] (map import_symbol t.imports)) symbols_class)

  -- functions
  pub body_name : (k : ℕ) → k < length t.funcs → (body_of t m.name (imported_funcs t + k)).name ≡ func_name (imported_funcs t + k)
  body_name k less = ap (λ (f : tree.Func). f.name) (body_at m a k less).is

  body_class : (k : ℕ) → imported_funcs t ≤ k → k < imported_funcs t + length t.funcs → class (body_of t m.name k).name ≡ 7
  body_class k low high = subst (λ k. class (body_of t m.name k).name ≡ 7) (omega (arith, low))
      (ap class (body_name (k - imported_funcs t) (omega (arith, low, high)))
      ∙ class_lettered 102 (imported_funcs t + (k - imported_funcs t)) (omega (arith, low, high, few_funcs)) refl)

  pub prototypes_class : AllClass 7 (map prototype (bodies m))
  prototypes_class = all_map (λ o. class (name_of o) ≡ 7) prototype (bodies m)
      (all_range (λ (f : tree.Func). class f.name ≡ 7) (body_of t m.name) (imported_funcs t) (length t.funcs)
      (imported_funcs t + length t.funcs) (omega arith) body_class)

  pub bodies_class : AllClass 7 (map tree.Function (bodies m))
  bodies_class = all_map (λ o. class (name_of o) ≡ 7) tree.Function (bodies m)
      (all_range (λ (f : tree.Func). class f.name ≡ 7) (body_of t m.name) (imported_funcs t) (length t.funcs)
      (imported_funcs t + length t.funcs) (omega arith) body_class)

  pub helpers_class : AllClass 8 (map (λ which. tree.Function (helper_of which)) (helpers_of t))
  helpers_class = all_images (λ o. class (name_of o) ≡ 8) (λ which. tree.Function (helper_of which)) (helpers_of t) helper_class

  pub exports_class : AllClass 6 (map (λ e. tree.Function (export_func m e)) t.exports)
  exports_class = all_images (λ o. class (name_of o) ≡ 6) (λ e. tree.Function (export_func m e)) t.exports
      (λ e. ap class (export_name m e) ∙ of_export (λ n. class n ≡ 6) m (symbol_class m.name) e)
