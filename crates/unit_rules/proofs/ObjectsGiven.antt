-- What gives a pointer to an exported table, memory or global: its body returns the object's address, or what the import's symbol gives.
use Rattle.unit_rules.proofs.Common.{◌≡◌, Bool, true, false, [], ◌∷◌, if◌then◌else◌, slice_get, Some, None, Option, sym, refl, ap, ◌∙◌}
use Rattle.unit_rules.proofs.Common.{subst, ValType, global_type_in, NamedModule, Export, ExportKind, ExportFunc, ExportGlobal}
use Rattle.unit_rules.proofs.Common.{ExportMemory, ExportTable, Import, same_c_func_type, global_name, memory_name, table_name}
use Rattle.unit_rules.proofs.Common.{same_func_type, Name, CType, Plain, accessor_type, global_accessor_type, global_imports, import_symbol}
use Rattle.unit_rules.proofs.Common.{import_type, is_usable, memory_imports, symbol_type, table_imports, accessor, export_func, passes_on}
use Rattle.unit_rules.proofs.Common.{result_name, usable_symbol, GivesExport, GivesObject}
use Rattle.w2c_base.specs.declared.value.ValType.TheVariants as val
use Rattle.c_tree.specs.declared.tree.CType.TheVariants as type
use Rattle.c_tree.specs.Tree as tree
use Rattle.unit_definition.proofs.PointerTypes.{IsPointer, of_table, of_memory, of_u32, of_u64}

-- what a call of a symbol gives
abbrev PassesOn : Name → tree.Func → Type 0
PassesOn symbol f = (variable : tree.Local) × (f.body ≡ Some (record {
  locals = variable ∷ [];
  stmts = tree.Call (Some variable.1) (tree.Called symbol) [] ∷ tree.Return (tree.Value (tree.Name variable.1)) ∷ [];
}))

passed : {pointer : CType} → IsPointer pointer → (name symbol : Name)
    → PassesOn symbol (passes_on (accessor_type pointer) name (Some symbol))
passed of_table name symbol = ((type.PtrTab, result_name, Plain 0), refl)
passed of_memory name symbol = ((type.PtrMem, result_name, Plain 0), refl)
passed of_u32 name symbol = ((type.PtrU32, result_name, Plain 0), refl)
passed of_u64 name symbol = ((type.PtrU64, result_name, Plain 0), refl)

-- an import whose symbol has its type is used
used : (m : NamedModule) (i : Import) → symbol_type m (import_symbol i) ≡ Some (import_type m.tree i)
    → usable_symbol m i ≡ Some (import_symbol i)
used m i typed =
    let usable : is_usable m i ≡ true =
    ap (λ (o : Option tree.FuncType). elim o [ None ↦ false | Some t ↦ same_func_type t (import_type m.tree i) ]) typed
    ∙ same_c_func_type (import_type m.tree i) in
    ap (λ b. if b then Some (import_symbol i) else None) usable

gives_object : (m : NamedModule) (pointer : CType) → IsPointer pointer → (name : Name) (i : Option Import) (object : Name)
    → GivesObject m i object (accessor m (accessor_type pointer) name i object)
gives_object m pointer is name None object = refl
gives_object m pointer is name (Some i) object = λ typed.
    subst (λ o. PassesOn (import_symbol i) (passes_on (accessor_type pointer) name o)) (sym (used m i typed))
    (passed is name (import_symbol i))

-- the export, were it of this kind
abbrev of_kind : Export → ExportKind → Export
of_kind e kind = record e { kind = kind }

pub gives_export : (m : NamedModule) (e : Export) → GivesExport m e (export_func m e)
gives_export m e = by e.kind
  where
    global : (o : Option (ValType × Bool)) (name : Name) → GivesObject m (slice_get (global_imports m.tree) e.index) (global_name e.index)
        (accessor m (global_accessor_type o) name (slice_get (global_imports m.tree) e.index) (global_name e.index))
    global None name = gives_object m type.PtrU32 of_u32 name (slice_get (global_imports m.tree) e.index) (global_name e.index)
    global (Some (val.I32, mutable)) name =
        gives_object m type.PtrU32 of_u32 name (slice_get (global_imports m.tree) e.index) (global_name e.index)
    global (Some (val.I64, mutable)) name =
        gives_object m type.PtrU64 of_u64 name (slice_get (global_imports m.tree) e.index) (global_name e.index)

    by : (kind : ExportKind) → GivesExport m (of_kind e kind) (export_func m (of_kind e kind))
    by ExportFunc = tt
    by ExportTable = gives_object m type.PtrTab of_table _ (slice_get (table_imports m.tree) e.index) table_name
    by ExportMemory = gives_object m type.PtrMem of_memory _ (slice_get (memory_imports m.tree) e.index) memory_name
    by ExportGlobal = global (global_type_in m.tree e.index) _
