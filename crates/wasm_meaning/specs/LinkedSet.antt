-- Linked sets, and what each index of a module stands for (WebAssembly Core 1.0, 4.2.5 module
-- instances, 4.2.11 external values, 4.5.4 imports): made from the trees, module by module.
use Rattle.std.specs.Prelude.{◌≡◌, ℕ, ◌≤◌, Bool, List, [], ◌∷◌, ◌++◌, length, map, filter, find, take, replicate, bytes_eq, slice_get}
use Rattle.std.specs.Prelude.{Option, Some, None, option_map}
use Rattle.std.specs.List.{range_with_len, position_from, AllByRecursion}
use Rattle.std.specs.Option.{option_or}
use Rattle.w2c_base.specs.declared.value.ValType.{ValType}
use Rattle.w2c_base.specs.declared.signature.FuncType.{FuncType}
use Rattle.w2c_base.specs.Lookup.{if_found, at_index, named, AreDistinct}
use Rattle.w2c_base.specs.Run.{Host}
use Rattle.wasm_tree.specs.declared.tree.Module.{Module}
use Rattle.wasm_tree.specs.IndexSpaces.{is_func_import, is_table_import, is_memory_import, is_global_import, imported_funcs, type_in}
use Rattle.wasm_tree.specs.IndexSpaces.{at_defined}
pub use Rattle.wasm_tree.specs.NamedModule.{NamedModule}
use Rattle.wasm_tree.specs.declared.entries.Import.{Import}
use Rattle.wasm_tree.specs.declared.entries.Export.{Export}
use Rattle.wasm_tree.specs.declared.entries.BodyEntry.{BodyEntry}
use Rattle.wasm_tree.specs.declared.entries.ImportKind.TheVariants.{Func as ImportFunc, Table as ImportTable, Memory as ImportMemory}
use Rattle.wasm_tree.specs.declared.entries.ImportKind.TheVariants.{Global as ImportGlobal}
use Rattle.wasm_tree.specs.declared.entries.ExportKind.TheVariants.{Func as ExportFunc, Table as ExportTable, Memory as ExportMemory}
use Rattle.wasm_tree.specs.declared.entries.ExportKind.TheVariants.{Global as ExportGlobal}

-- modules in order, and host modules
pub record LinkedSet : Type 0 where
  pub modules : List NamedModule
  pub hosts : List Host

-- a function: one that a module defines, by the module's number in the set and the function's index
-- in that module, or a host's, by the numbers of both
pub data FuncAddress : Type 0 where
  ModuleFunc : (owner index : ℕ) → FuncAddress
  HostFunc : (host function : ℕ) → FuncAddress

-- a global: the number of the module that defines it, and its number among those that it defines
pub record GlobalAddress : Type 0 where
  pub owner : ℕ
  pub number : ℕ

-- an external value. A table and a memory are given by the number of the module that defines them,
-- since a valid module has at most one of each
pub data External : Type 0 where
  IsFunc : FuncAddress → External
  IsTable IsMemory : (owner : ℕ) → External
  IsGlobal : GlobalAddress → External

-- what each index stands for, imports first; nothing, where an import has no meaning
pub record IndexSpaces : Type 0 where
  pub funcs : List (Option FuncAddress)
  pub tables : List (Option ℕ)
  pub memories : List (Option ℕ)
  pub globals : List (Option GlobalAddress)

-- a module instance: its index spaces, and what it exports
pub record Instance : Type 0 where
  pub name : List ℕ
  pub spaces : IndexSpaces
  pub exports : List (List ℕ × Option External)

-- an external value of the wanted kind
abbrev pub as_func : External → Option FuncAddress
as_func external = elim external [ IsFunc f ↦ Some f | _ ↦ None ]

abbrev pub as_table : External → Option ℕ
as_table external = elim external [ IsTable owner ↦ Some owner | _ ↦ None ]

abbrev pub as_memory : External → Option ℕ
as_memory external = elim external [ IsMemory owner ↦ Some owner | _ ↦ None ]

abbrev pub as_global : External → Option GlobalAddress
as_global external = elim external [ IsGlobal g ↦ Some g | _ ↦ None ]

-- the export of this name of the instance of this name
abbrev pub exported : List Instance → List ℕ → List ℕ → Option External
exported instances module_name name =
    if_found (find (λ i. bytes_eq i.name module_name) instances) (λ i. if_found (named name i.exports) (λ e. e))

-- the function of this name of the host of this name
abbrev pub offered : List Host → List ℕ → List ℕ → Option External
offered hosts host_name name =
    if_found (position_from (λ h. bytes_eq h.name host_name) 0 hosts) (λ h. if_found (slice_get hosts h) (λ host.
    option_map (λ f. IsFunc (HostFunc h f)) (position_from (λ f. bytes_eq f.name name) 0 host.functions)))

-- what an import stands for: an export of an earlier module, or a host's function
abbrev pub meaning_of : List Host → List Instance → Import → Option External
meaning_of hosts earlier i = option_or (exported earlier i.«module» i.field) (offered hosts i.«module» i.field)

-- what the imports of a kind stand for, in their order
abbrev pub imports_of : {A : Type 0} → (Import → Bool) → (External → Option A) → (Import → Option External) → List Import → List (Option A)
imports_of is_wanted as_wanted meaning imports = map (λ i. if_found (meaning i) as_wanted) (filter is_wanted imports)

-- imports first, then what the module with this number defines
abbrev pub spaces_of : (Import → Option External) → ℕ → Module → IndexSpaces
spaces_of meaning number m = record {
  funcs = imports_of is_func_import as_func meaning m.imports
      ++ map (λ k. Some (ModuleFunc number k)) (range_with_len (imported_funcs m) (length m.funcs));
  tables = imports_of is_table_import as_table meaning m.imports ++ replicate (length m.tables) (Some number);
  memories = imports_of is_memory_import as_memory meaning m.imports ++ replicate (length m.memories) (Some number);
  globals = imports_of is_global_import as_global meaning m.imports
      ++ map (λ k. Some (record { owner = number; number = k })) (range_with_len 0 (length m.globals));
}

abbrev pub export_of : IndexSpaces → Export → List ℕ × Option External
export_of spaces e = (
  e.name,
  elim e.kind [
    | ExportFunc ↦ option_map IsFunc (at_index spaces.funcs e.index)
    | ExportTable ↦ option_map IsTable (at_index spaces.tables e.index)
    | ExportMemory ↦ option_map IsMemory (at_index spaces.memories e.index)
    | ExportGlobal ↦ option_map IsGlobal (at_index spaces.globals e.index)
  ],
)

-- the instance of a module behind earlier ones
abbrev pub instance_of : List Host → List Instance → NamedModule → Instance
instance_of hosts earlier m =
    let spaces : IndexSpaces = spaces_of (meaning_of hosts earlier) (length earlier) m.tree in
    record { name = m.name; spaces = spaces; exports = map (export_of spaces) m.tree.exports }

abbrev pub instances_behind : List Host → List Instance → List NamedModule → List Instance
instances_behind hosts earlier [] = earlier
instances_behind hosts earlier (m ∷ modules) = instances_behind hosts (earlier ++ instance_of hosts earlier m ∷ []) modules

-- the instances of a set's modules, in order
abbrev pub instances : LinkedSet → List Instance
instances s = instances_behind s.hosts [] s.modules

-- what the module with this number, and an index of it, stands for
abbrev pub module_at : LinkedSet → ℕ → Option Module
module_at s p = option_map (λ m. m.tree) (slice_get s.modules p)

abbrev pub import_at : LinkedSet → ℕ → Import → Option External
import_at s p i = meaning_of s.hosts (take p (instances s)) i

abbrev in_space : {A : Type 0} → (IndexSpaces → List (Option A)) → LinkedSet → ℕ → ℕ → Option A
in_space space s p index = if_found (slice_get (instances s) p) (λ i. at_index (space i.spaces) index)

abbrev pub func_at : LinkedSet → ℕ → ℕ → Option FuncAddress
func_at s p index = in_space (λ spaces. spaces.funcs) s p index

abbrev pub table_at : LinkedSet → ℕ → ℕ → Option ℕ
table_at s p index = in_space (λ spaces. spaces.tables) s p index

abbrev pub memory_at : LinkedSet → ℕ → ℕ → Option ℕ
memory_at s p index = in_space (λ spaces. spaces.memories) s p index

abbrev pub global_at : LinkedSet → ℕ → ℕ → Option GlobalAddress
global_at s p index = in_space (λ spaces. spaces.globals) s p index

abbrev pub type_at : LinkedSet → ℕ → ℕ → Option FuncType
type_at s p index = if_found (module_at s p) (λ m. type_in m index)

-- the type and the body of a function, which an index of an import has not; the type of a global and
-- whether it is mutable
abbrev pub func_type : LinkedSet → FuncAddress → Option FuncType
func_type s (ModuleFunc p index) = if_found (module_at s p) (λ m. if_found (at_defined m m.funcs index) (λ f. type_at s p f.type_index))
func_type s (HostFunc h f) = if_found (slice_get s.hosts h) (λ host. option_map (λ f. f.ty) (slice_get host.functions f))

abbrev pub body_of : LinkedSet → ℕ → ℕ → Option BodyEntry
body_of s p index = if_found (module_at s p) (λ m. at_defined m m.bodies index)

abbrev pub global_type : LinkedSet → GlobalAddress → Option (ValType × Bool)
global_type s g = if_found (module_at s g.owner) (λ m. option_map (λ e. (e.ty, e.mutable)) (slice_get m.globals g.number))

-- the import stands for something of its kind and of equal type; limits are left out
abbrev pub Resolves : LinkedSet → ℕ → Import → Type 0
Resolves s p i = elim i.kind [
  | ImportFunc t ↦ (f : FuncAddress) × (ty : FuncType) × (import_at s p i ≡ Some (IsFunc f))
      × (type_at s p t ≡ Some ty) × (func_type s f ≡ Some ty)
  | ImportTable l ↦ (owner : ℕ) × (import_at s p i ≡ Some (IsTable owner))
  | ImportMemory l ↦ (owner : ℕ) × (import_at s p i ≡ Some (IsMemory owner))
  | ImportGlobal ty mutable ↦ (g : GlobalAddress) × (import_at s p i ≡ Some (IsGlobal g)) × (global_type s g ≡ Some (ty, mutable))
]

-- what makes modules and hosts a linked set, besides that each module is valid
pub record IsLinked (s : LinkedSet) : Type 0 where
  pub at_most_16 : length s.modules ≤ 16
  pub names_differ : AreDistinct (map (λ m. m.name) s.modules ++ map (λ h. h.name) s.hosts)
  pub functions_differ : AllByRecursion (λ h. AreDistinct (map (λ f. f.name) h.functions)) s.hosts
  pub imports_resolve : (p : ℕ) (m : Module) → module_at s p ≡ Some m → AllByRecursion (Resolves s p) m.imports
