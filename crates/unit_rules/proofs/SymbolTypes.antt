-- What holds of the types of functions and of accessors holds of the types of imports, of exports, and of all symbols that are declared.
use Rattle.unit_rules.proofs.Common.{◌≡◌, Bool, false, ◌++◌, Some, None, Option, refl, all_append, FuncType, ValType, func_type_in, type_in}
use Rattle.unit_rules.proofs.Common.{global_type_in, NamedModule, Export, ExportKind, ExportFunc, ExportGlobal, ExportMemory, ExportTable}
use Rattle.unit_rules.proofs.Common.{Import, ImportKind, ImportFunc, ImportGlobal, ImportMemory, ImportTable, Name, is_object_type, CType}
use Rattle.unit_rules.proofs.Common.{Typed, accessor_type, c_func_type_if, export_symbol, export_type, exported_symbols, import_symbol, I32}
use Rattle.unit_rules.proofs.Common.{global_accessor_type, import_type, imported_symbols, symbol_type, declared_type, named_has, I64}
use Rattle.unit_rules.proofs.Common.{all_images}
use Rattle.c_tree.specs.declared.tree.CType.TheVariants as type
use Rattle.c_tree.specs.Tree as tree

module _ (m : NamedModule) (P : tree.FuncType → Type 0) (funcs : (o : Option FuncType) → P (c_func_type_if o))
    (accessors : (pointer : CType) → is_object_type pointer ≡ false → P (accessor_type pointer)) where
  import_is : (i : Import) → P (import_type m.tree i)
  import_is i = by i.kind
    where
      by : (kind : ImportKind) → P (import_type m.tree (record i { kind = kind }))
      by (ImportFunc x) = funcs (type_in m.tree x)
      by (ImportTable l) = accessors type.PtrTab refl
      by (ImportMemory l) = accessors type.PtrMem refl
      by (ImportGlobal I32 mutable) = accessors type.PtrU32 refl
      by (ImportGlobal I64 mutable) = accessors type.PtrU64 refl

  export_is : (e : Export) → P (export_type m.tree e)
  export_is e = by e.kind
    where
      global : (o : Option (ValType × Bool)) → P (global_accessor_type o)
      global None = accessors type.PtrU32 refl
      global (Some (I32, mutable)) = accessors type.PtrU32 refl
      global (Some (I64, mutable)) = accessors type.PtrU64 refl

      by : (kind : ExportKind) → P (export_type m.tree (record e { kind = kind }))
      by ExportFunc = funcs (func_type_in m.tree e.index)
      by ExportTable = accessors type.PtrTab refl
      by ExportMemory = accessors type.PtrMem refl
      by ExportGlobal = global (global_type_in m.tree e.index)

  pub symbol_has : (name : Name) → P (declared_type (symbol_type m name))
  symbol_has name = by (symbol_type m name) refl
    where
      by : (o : Option tree.FuncType) → symbol_type m name ≡ o → P (declared_type o)
      by None e = accessors type.Void refl
      by (Some ty) e = named_has P name (exported_symbols m ++ imported_symbols m) ty
          (all_append (λ (s : Typed). P s.1) (exported_symbols m) (imported_symbols m)
          (all_images (λ (s : Typed). P s.1) (λ e. (export_symbol m e, export_type m.tree e)) m.tree.exports export_is)
          (all_images (λ (s : Typed). P s.1) (λ i. (import_symbol i, import_type m.tree i)) m.tree.imports import_is)) e
