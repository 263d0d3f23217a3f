-- When a machine of C agrees with a store (WebAssembly Core 1.0, 4.2.3), and which modules are ready.
use Rattle.std.specs.Prelude.{◌≡◌, ℕ, suc, ◌+◌, ◌*◌, ◌<◌, ◌≤◌, true, IsSome, List, [], ◌∷◌, length, map, slice_get, Option, Some, None}
use Rattle.std.specs.Prelude.{unwrap_or, ⊤}
use Rattle.std.specs.List.{AllByRecursion}
use Rattle.w2c_base.specs.Values.{types_of, IsNumber}
use Rattle.w2c_base.specs.Lookup.{named}
use Rattle.w2c_base.specs.Run.{Trail}
use Rattle.wasm_tree.specs.declared.tree.Module.{Module}
use Rattle.wasm_tree.specs.declared.entries.Import.{Import}
pub use Rattle.wasm_tree.specs.IndexSpaces.{IsDefined}
use Rattle.wasm_tree.specs.IndexSpaces.{table_imports, memory_imports, global_imports}
use Rattle.c_tree.specs.DefinedNames.{memory_name, table_name, global_name, pointer_name}
use Rattle.wasm_meaning.specs.LinkedSet as link
use Rattle.wasm_meaning.specs.Store as store
use Rattle.c_meaning.specs.State as state
use Rattle.c_meaning.specs.Linking.{Program}
use Rattle.c_meaning.specs.Machine.{no_memory, no_table, var_in}
use Rattle.alike.specs.Alike.{GlobalsAlike, SameElement, first_global}
use Rattle.alike.specs.Passing.{StandsFor}

-- ---- objects

abbrev pub max_number : Option ℕ → ℕ
max_number max = unwrap_or max 4294967296

pub record MemoryAgrees (memory : store.Memory) (other : state.Memory) : Type 0 where
  pub made : other.is_made ≡ true
  pub bytes : other.bytes ≡ memory.bytes
  pub max : other.max ≡ max_number memory.max
  -- whole pages, not too many of them, of bytes
  pub pages : ℕ
  pub whole : length memory.bytes ≡ pages * 65536
  pub few : pages ≤ 16384
  pub are_bytes : AllByRecursion (λ b. b < 256) memory.bytes

-- one that is not made is not made in C, or not there
abbrev pub MemoriesAgree : Option store.Memory → Option state.Memory → Type 0
MemoriesAgree None None = ⊤
MemoriesAgree None (Some other) = other ≡ no_memory
MemoriesAgree (Some memory) None = ⊥
MemoriesAgree (Some memory) (Some other) = MemoryAgrees memory other

-- an element's function may be called through any name that reaches it
pub record ElementAgrees (p : Program) (s : link.LinkedSet) (f : link.FuncAddress) (e : state.Element) : Type 0 where
  pub same : SameElement s f e
  pub stands : StandsFor p s f e.func

abbrev pub ElementsAgree : Program → link.LinkedSet → List (Option link.FuncAddress) → List (Option state.Element) → Type 0
ElementsAgree p s [] [] = ⊤
ElementsAgree p s (None ∷ elements) (None ∷ others) = ElementsAgree p s elements others
ElementsAgree p s (Some f ∷ elements) (Some e ∷ others) = ElementAgrees p s f e × ElementsAgree p s elements others
ElementsAgree p s _ _ = ⊥

pub record TableAgrees (p : Program) (s : link.LinkedSet) (table : store.Table) (other : state.Table) : Type 0 where
  pub made : other.is_made ≡ true
  pub elements : ElementsAgree p s table.elements other.elements
  pub max : other.max ≡ max_number table.max

abbrev pub TablesAgree : Program → link.LinkedSet → Option store.Table → Option state.Table → Type 0
TablesAgree p s None None = ⊤
TablesAgree p s None (Some other) = other ≡ no_table
TablesAgree p s (Some table) None = ⊥
TablesAgree p s (Some table) (Some other) = TableAgrees p s table other

-- what the module with number q has made so far, and the objects of its unit
pub record ObjectsAgree (p : Program) (s : link.LinkedSet) (q : ℕ) (o : store.Objects) (u : state.Objects) : Type 0 where
  pub memory : MemoriesAgree o.memory (named memory_name u.memories)
  pub table : TablesAgree p s o.table (named table_name u.tables)
  pub globals : GlobalsAlike (first_global s q) o.globals u.vars
  pub are_numbers : AllByRecursion IsNumber o.globals

abbrev pub StoresAgree : Program → link.LinkedSet → ℕ → store.Store → List state.Objects → Type 0
StoresAgree p s q [] [] = ⊤
StoresAgree p s q (o ∷ made) (u ∷ units) = ObjectsAgree p s q o u × StoresAgree p s (suc q) made units
StoresAgree p s q _ _ = ⊥

-- a machine and a store, whatever is made of it
pub record Agrees (p : Program) (s : link.LinkedSet) (m : state.Machine) (made : store.Store) (trail : Trail) : Type 0 where
  pub objects : StoresAgree p s 0 made m.units
  pub same_trail : m.trail ≡ trail

-- ---- modules that are ready: all that they define is made, and their pointers are set

abbrev pub PointsTo : state.Machine → ℕ → state.Name → state.ObjectAddress → Type 0
PointsTo m u object a = var_in m (record { unit = u; name = pointer_name object }) ≡ Some (state.Pointer (Some a))

pub record PointersAreSet (s : link.LinkedSet) (u : ℕ) (tree : Module) (m : state.Machine) : Type 0 where
  pub memory : (i : Import) → slice_get (memory_imports tree) 0 ≡ Some i
      → (owner : ℕ) × (link.memory_at s u 0 ≡ Some owner) × PointsTo m u memory_name (record { unit = owner; name = memory_name })
  pub table : (i : Import) → slice_get (table_imports tree) 0 ≡ Some i
      → (owner : ℕ) × (link.table_at s u 0 ≡ Some owner) × PointsTo m u table_name (record { unit = owner; name = table_name })
  pub globals : (k : ℕ) (i : Import) → slice_get (global_imports tree) k ≡ Some i
      → (g : link.GlobalAddress) × (link.global_at s u k ≡ Some g)
      × PointsTo m u (global_name k) (record { unit = g.owner; name = global_name (first_global s g.owner + g.number) })

pub record IsMade (tree : Module) (o : store.Objects) : Type 0 where
  pub memory : (i : ℕ) → i < length tree.memories → IsSome o.memory
  pub table : (i : ℕ) → i < length tree.tables → IsSome o.table
  pub globals : types_of o.globals ≡ map (λ g. g.ty) tree.globals

-- a function of one of the first modules, or of a host
pub record IsFuncOf (s : link.LinkedSet) (count owner index : ℕ) : Type 0 where
  pub early : owner < count
  pub tree : Module
  pub tree_is : link.module_at s owner ≡ Some tree
  pub defined : IsDefined tree index

abbrev pub IsCallable : link.LinkedSet → ℕ → link.FuncAddress → Type 0
IsCallable s count (link.ModuleFunc owner index) = IsFuncOf s count owner index
IsCallable s count (link.HostFunc host function) = ⊤

abbrev pub IsCallableIfAny : link.LinkedSet → ℕ → Option link.FuncAddress → Type 0
IsCallableIfAny s count None = ⊤
IsCallableIfAny s count (Some f) = IsCallable s count f

-- the first modules of the set are ready, and no table holds a function of another
pub record AreReady (s : link.LinkedSet) (count : ℕ) (m : state.Machine) (made : store.Store) : Type 0 where
  pub pointers : (u : ℕ) (tree : Module) → u < count → link.module_at s u ≡ Some tree → PointersAreSet s u tree m
  pub objects : (u : ℕ) (tree : Module) → u < count → link.module_at s u ≡ Some tree
      → (o : store.Objects) × (slice_get made u ≡ Some o) × IsMade tree o
  pub elements : (u : ℕ) (table : store.Table) → store.table_in made u ≡ Some table
      → AllByRecursion (IsCallableIfAny s count) table.elements
