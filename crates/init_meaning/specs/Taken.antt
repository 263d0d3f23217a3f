-- What is known of the imports that an init function takes: whose the object is, and that the symbol's
-- function gives a pointer to it.
use Rattle.std.specs.Prelude.{◌≡◌, ℕ, suc, ◌<◌, ◌≤◌, Bool, true, List, [], ◌∷◌, length, if◌then◌else◌, Some, None, ⊤, not}
use Rattle.w2c_base.specs.declared.value.ValType.{ValType}
use Rattle.wasm_tree.specs.IndexSpaces.{imported_globals, is_global_import, is_func_import, memory_imports, table_imports}
use Rattle.wasm_tree.specs.declared.entries.Import.{Import}
use Rattle.wasm_tree.specs.declared.entries.ImportKind.{ImportKind}
use Rattle.wasm_tree.specs.declared.entries.ImportKind.TheVariants.{Func as ImportFunc, Global as ImportGlobal, Memory as ImportMemory}
use Rattle.wasm_tree.specs.declared.entries.ImportKind.TheVariants.{Table as ImportTable}
use Rattle.wasm_tree.specs.declared.entries.Limits.{Limits}
use Rattle.wasm_tree.specs.NamedModule.{NamedModule}
use Rattle.wasm_meaning.specs.LinkedSet.{IsMemory, IsTable, LinkedSet, import_at}
use Rattle.c_meaning.specs.Linking.{Program, func_named}
use Rattle.c_meaning.specs.Primitives.{primitive}
use Rattle.c_meaning.specs.Reaches.{Reaches}
use Rattle.c_meaning.specs.Run.{Pending, go_on}
use Rattle.c_meaning.specs.Step.{call, give}
use Rattle.c_meaning.specs.State as state
use Rattle.c_meaning.specs.Machine as machine
use Rattle.alike.specs.Objects.{global_object, memory_object, table_object}
use Rattle.c_symbols.specs.Symbols.{import_symbol, is_usable}
use Rattle.init_meaning.specs.Owners.{TableOwner, MemoryOwner, GlobalOwner}

-- the function of an import's symbol gives a pointer to what the import stands for
pub record GivesPointer (p : Program) (s : LinkedSet) (u : ℕ) (m : NamedModule) (i : Import) (object : state.ObjectAddress) : Type 0 where
  pub usable : is_usable m i ≡ true
  pub is_no_primitive : primitive (import_symbol i) ≡ None
  pub address : state.FuncAddress
  pub address_is : func_named p u (import_symbol i) ≡ Some address
  pub gives : (pending : Pending) (mach : state.Machine) (below : List state.Frame) → machine.is_object mach object ≡ true
      → (n : ℕ) × (n ≤ 300)
      × Reaches p n (go_on p pending (call p address mach [] below))
      (go_on p pending (give mach (Some (state.Pointer (Some object))) below))

-- what is known of an import, with its number among the imported globals
pub record TableIsTaken (p : Program) (s : LinkedSet) (u : ℕ) (m : NamedModule) (i : Import) (l : Limits) : Type 0 where
  pub owner : TableOwner s u m.tree
  pub early : owner.owner < u
  pub import_is : import_at s u i ≡ Some (IsTable owner.owner)
  pub pointer : GivesPointer p s u m i (table_object owner.owner)
  pub among : 0 < length (table_imports m.tree)

pub record MemoryIsTaken (p : Program) (s : LinkedSet) (u : ℕ) (m : NamedModule) (i : Import) (l : Limits) : Type 0 where
  pub owner : MemoryOwner s u m.tree
  pub early : owner.owner < u
  pub import_is : import_at s u i ≡ Some (IsMemory owner.owner)
  pub pointer : GivesPointer p s u m i (memory_object owner.owner)
  pub among : 0 < length (memory_imports m.tree)

pub record GlobalIsTaken (p : Program) (s : LinkedSet) (u : ℕ) (m : NamedModule) (number : ℕ) (i : Import) : Type 0 where
  pub ty : ValType
  pub owner : GlobalOwner s u m.tree number ty
  pub early : owner.global.owner < u
  pub pointer : GivesPointer p s u m i (global_object s owner.global)
  pub among : number < imported_globals m.tree

abbrev pub IsTakenAs : Program → LinkedSet → ℕ → NamedModule → ℕ → Import → ImportKind → Type 0
IsTakenAs p s u m number i (ImportFunc t) = ⊥
IsTakenAs p s u m number i (ImportTable l) = TableIsTaken p s u m i l
IsTakenAs p s u m number i (ImportMemory l) = MemoryIsTaken p s u m i l
IsTakenAs p s u m number i (ImportGlobal t mutable) = GlobalIsTaken p s u m number i

abbrev pub next_number : ℕ → Import → ℕ
next_number number i = if is_global_import i then suc number else number

abbrev pub AreTaken : Program → LinkedSet → ℕ → NamedModule → ℕ → List Import → Type 0
AreTaken p s u m number [] = ⊤
AreTaken p s u m number (i ∷ imports) = IsTakenAs p s u m number i i.kind × AreTaken p s u m (next_number number i) imports

abbrev pub is_taken : Import → Bool
is_taken i = not (is_func_import i)
