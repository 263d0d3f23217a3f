-- Functions that give pointers.
use Rattle.c_unit.proofs.Common.{◌≡◌, ℕ, List, map, slice_get, Some, None, Option, option_map, refl, ap, ◌∙◌, slice_get-map, Export}
use Rattle.c_unit.proofs.Common.{ExportFunc, ExportGlobal, ExportMemory, ExportTable, Import, Name, NamedModule, global_name, memory_name}
use Rattle.c_unit.proofs.Common.{table_name, Typed, export_symbol, export_type, global_imports, memory_imports, table_imports, callee}
use Rattle.c_unit.proofs.Common.{accessor_by, accessor, export_func, passes_on}
use Rattle.c_symbols.specs.Reached.{usable_symbol}

-- what stands at an index of a list that was made item by item
reached_at : {A B : Type 0} (f : A → B) (names : List B) (imports : List A) (index : ℕ) → names ≡ map f imports
    → slice_get names index ≡ option_map f (slice_get imports index)
reached_at f names imports index is = ap (λ ns. slice_get ns index) is ∙ slice_get-map f imports index

accessed : (m : NamedModule) (symbol : Typed) (import : Option Import) (object : Name)
    → accessor_by symbol (option_map (usable_symbol m) import) object ≡ accessor m symbol.1 symbol.0 import object
accessed m symbol None object = refl
accessed m symbol (Some i) object = refl

-- the function of an export of a function
pub passed_at : (m : NamedModule) (e : Export) (symbol : Typed) (name : Option Name) → symbol ≡ (export_symbol m e, export_type m.tree e)
    → name ≡ callee m e.index → e.kind ≡ ExportFunc → passes_on symbol.1 symbol.0 name ≡ export_func m e
passed_at m e symbol name is called kind =
    ap (λ (s : Typed). passes_on s.1 s.0 name) is ∙ ap (passes_on (export_type m.tree e) (export_symbol m e)) called ∙ func_export
  where
    func_export : passes_on (export_type m.tree e) (export_symbol m e) (callee m e.index) ≡ export_func m e
    func_export = rw kind refl

-- the function of an export of an object
pub given_at : (m : NamedModule) (e : Export) (symbol : Typed) (names : List (Option Name)) (imports : List Import) (object : Name)
    → symbol ≡ (export_symbol m e, export_type m.tree e) → names ≡ map (usable_symbol m) imports
    → accessor_by symbol (slice_get names e.index) object
    ≡ accessor m (export_type m.tree e) (export_symbol m e) (slice_get imports e.index) object
given_at m e symbol names imports object is made =
    let own : Typed = (export_symbol m e, export_type m.tree e) in
    ap (λ (s : Typed). accessor_by s (slice_get names e.index) object) is
    ∙ ap (λ o. accessor_by own o object) (reached_at (usable_symbol m) names imports e.index made)
    ∙ accessed m own (slice_get imports e.index) object

pub table_export : (m : NamedModule) (e : Export) → e.kind ≡ ExportTable
    → accessor m (export_type m.tree e) (export_symbol m e) (slice_get (table_imports m.tree) e.index) table_name ≡ export_func m e
table_export m e kind = rw kind refl

pub memory_export : (m : NamedModule) (e : Export) → e.kind ≡ ExportMemory
    → accessor m (export_type m.tree e) (export_symbol m e) (slice_get (memory_imports m.tree) e.index) memory_name ≡ export_func m e
memory_export m e kind = rw kind refl

pub global_export : (m : NamedModule) (e : Export) → e.kind ≡ ExportGlobal
    → accessor m (export_type m.tree e) (export_symbol m e) (slice_get (global_imports m.tree) e.index) (global_name e.index)
    ≡ export_func m e
global_export m e kind = rw kind refl
