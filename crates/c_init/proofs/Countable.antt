-- What the unit of a checked module counts has room in its numbers: indexes and parameters.
use Rattle.c_init.proofs.Common.{◌≡◌, ℕ, ◌+◌, ◌^◌, ◌<◌, ◌≤◌, List, ◌++◌, map, length, slice_get, Some, None, Option, flat_map, sym, ap, ◌∙◌}
use Rattle.c_init.proofs.Common.{arith, length-append, slice_get-map, if_found, FuncType, func_space, func_type_in, imported_funcs}
use Rattle.c_init.proofs.Common.{imported_globals, is_func_import, is_global_import, memory_of_import, table_of_import, type_in}
use Rattle.c_init.proofs.Common.{LimitsEntry, TypeEntry, Module, WithinLimits, IsValid, NamedModule, filter_few, length-map, []}
use Rattle.c_init.proofs.Common.{memory_space, table_space}
use Rattle.c_symbols.specs.FewParams.{HaveFewParams}
use Rattle.c_init.specs.Entries.{entries}
use Rattle.wasm_typing.specs.declared.fault.ValidCause.TheVariants as cause
use Rattle.wasm_typing.specs.ModuleFaults.{module_faults}
use Rattle.c_init.proofs.Small.{few}
use Rattle.c_init.proofs.NoFaults.{rows_of}

-- ---- tables and memories are one at most

pub few_tables : (m : Module) → module_faults m ≡ [] → length (table_space m) ≤ 1
few_tables m e = few cause.TooManyTables (table_space m) (rows_of m e).one_table

pub few_memories : (m : Module) → module_faults m ≡ [] → length (memory_space m) ≤ 1
few_memories m e = few cause.TooManyMemories (memory_space m) (rows_of m e).one_memory

-- ---- entries

behind_few : {A B : Type 0} (xs : List A) (f : B → A) (ys : List B) → length (xs ++ map f ys) ≤ 1 → length ys ≤ 1
behind_few xs f ys few =
    let e = length-append xs (map f ys) in
    let n = length-map ys f in
    omega (arith, e, n, few)

pub few_entries : (m : Module) → IsValid m → WithinLimits m → entries m < 2 ^ 32
few_entries m valid within =
    let imports = within.imports in
    let funcs = within.funcs in
    let globals = within.globals in
    let segments = within.segments in
    let exports = within.exports in
    let tables = behind_few (flat_map table_of_import m.imports) (λ (t : LimitsEntry). t.limits) m.tables (few_tables m valid.no_faults) in
    let memories = behind_few (flat_map memory_of_import m.imports) (λ (t : LimitsEntry). t.limits) m.memories
    (few_memories m valid.no_faults) in
    omega (arith, imports, funcs, globals, segments, exports, tables, memories)

pub few_funcs : (m : Module) (number : ℕ) → entries m < 2 ^ 32 → number < length m.funcs → imported_funcs m + number < 2 ^ 32
few_funcs m number few less = omega (arith, few, less, filter_few is_func_import m.imports)

pub few_globals : (m : Module) (number : ℕ) → entries m < 2 ^ 32 → number < length m.globals → imported_globals m + number < 2 ^ 32
few_globals m number few less = omega (arith, few, less, filter_few is_global_import m.imports)

-- ---- parameters

pub few_params_at : (m around indexes : NamedModule) (func : ℕ) (ty : FuncType) → around ≡ m → indexes ≡ m → HaveFewParams around.tree
    → Some ty ≡ func_type_in indexes.tree func → length ty.params ≤ 60
few_params_at m around indexes func ty same also few is =
    at (slice_get (func_space around.tree) func) (is ∙ ap (λ (n : NamedModule). func_type_in n.tree func) (also ∙ sym same))
  where
    at : (o : Option ℕ) → Some ty ≡ if_found o (type_in around.tree) → length ty.params ≤ 60
    at None e = cc
    at (Some t) e = few t ty (e ∙ sym (slice_get-map (λ (t : TypeEntry). t.ty) around.tree.types t))
