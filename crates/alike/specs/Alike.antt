-- When the run of a linked set and the run of its modules' units, in the same order, end alike
-- (WebAssembly Core 1.0, 4.2; C11, 5.1.2.3): equal to everybody who calls exports, answers for
-- hosts, and looks at memories, tables and globals.
use Rattle.std.specs.Prelude.{◌≡◌, ℕ, suc, ◌⊎◌, ◌==◌, ◌&&◌, ◌||◌, not, nat_lt, Bool, true, false, IsTrue, List, [], ◌∷◌, slice_get, Option}
use Rattle.std.specs.Prelude.{Some, None, ⊤}
use Rattle.w2c_base.specs.declared.value.Value.{Value}
use Rattle.w2c_base.specs.declared.signature.FuncType.{FuncType}
use Rattle.w2c_base.specs.declared.trap.TrapKind.TheVariants as trap
use Rattle.w2c_base.specs.Lookup.{named}
use Rattle.w2c_base.specs.Run.{Init, Call, asks_in, values_in}
use Rattle.w2c_base.specs.Signature.{sig_number_of}
use Rattle.w2c_mangle.specs.declared.symbol.SymbolKind.TheVariants as symbol
use Rattle.w2c_mangle.specs.Symbols.{export_symbol_of}
use Rattle.wasm_tree.specs.IndexSpaces.{imported_globals}
use Rattle.c_tree.specs.DefinedNames.{memory_name, table_name, func_name, global_name}
use Rattle.wasm_meaning.specs.LinkedSet as link
use Rattle.wasm_meaning.specs.Store as store
use Rattle.wasm_meaning.specs.Execution as exec
use Rattle.wasm_meaning.specs.Run as wasm
use Rattle.c_meaning.specs.State as state
use Rattle.c_meaning.specs.Run as c

abbrev pub OutcomesAlike : wasm.Outcome → c.Outcome → Type 0
OutcomesAlike wasm.Ended c.Ended = ⊤
OutcomesAlike (wasm.Stopped (exec.Trapped kind)) (c.Stopped (state.Trapped other)) = kind ≡ other
OutcomesAlike (wasm.Stopped exec.Asks) (c.Stopped state.Asks) = ⊤
OutcomesAlike _ _ = ⊥

-- the bytes are equal; a memory that is not made has none
abbrev pub MemoriesAlike : Option store.Memory → Option state.Memory → Type 0
MemoriesAlike None None = ⊤
MemoriesAlike None (Some other) = other.bytes ≡ []
MemoriesAlike (Some memory) None = ⊥
MemoriesAlike (Some memory) (Some other) = memory.bytes ≡ other.bytes

-- the C function is the static `f<k>` of module function k
pub record IsStaticOf (u : ℕ) (name : List ℕ) (f : link.FuncAddress) : Type 0 where
  pub index : ℕ
  pub name_is : name ≡ func_name index
  pub func_is : f ≡ link.ModuleFunc u index

-- the C function is that of an export which resolves to the module's or the host's function
pub record IsExportOf (s : link.LinkedSet) (u : ℕ) (name : List ℕ) (f : link.FuncAddress) : Type 0 where
  pub exporter : link.NamedModule
  pub export_name : List ℕ
  pub exporter_is : slice_get s.modules u ≡ Some exporter
  pub name_is : name ≡ export_symbol_of exporter.name symbol.Func export_name
  pub func_is : link.exported (link.instances s) exporter.name export_name ≡ Some (link.IsFunc f)

abbrev pub FunctionsAlike : link.LinkedSet → link.FuncAddress → state.FuncAddress → Type 0
FunctionsAlike s f (state.UnitFunc u name) = IsStaticOf u name f ⊎ IsExportOf s u name f
FunctionsAlike s f (state.HostFunc h function) = f ≡ link.HostFunc h function

-- the same function and the signature number of its type
pub record SameElement (s : link.LinkedSet) (f : link.FuncAddress) (e : state.Element) : Type 0 where
  pub function : FunctionsAlike s f e.func
  pub ty : FuncType
  pub ty_is : link.func_type s f ≡ Some ty
  pub signature : e.signature ≡ sig_number_of ty.params ty.result

-- an element is empty in both, or the same
abbrev pub ElementsAlike : link.LinkedSet → Option link.FuncAddress → Option state.Element → Type 0
ElementsAlike s None None = ⊤
ElementsAlike s (Some f) (Some e) = SameElement s f e
ElementsAlike s _ _ = ⊥

abbrev pub AllElementsAlike : link.LinkedSet → List (Option link.FuncAddress) → List (Option state.Element) → Type 0
AllElementsAlike s [] [] = ⊤
AllElementsAlike s (f ∷ elements) (e ∷ others) = ElementsAlike s f e × AllElementsAlike s elements others
AllElementsAlike s _ _ = ⊥

-- a table that is not made has length 0
abbrev pub TablesAlike : link.LinkedSet → Option store.Table → Option state.Table → Type 0
TablesAlike s None None = ⊤
TablesAlike s None (Some other) = other.elements ≡ []
TablesAlike s (Some table) None = ⊥
TablesAlike s (Some table) (Some other) = AllElementsAlike s table.elements other.elements

-- defined globals from number k on have the values of their variables
abbrev pub GlobalsAlike : ℕ → List Value → state.Vars → Type 0
GlobalsAlike k [] vars = ⊤
GlobalsAlike k (v ∷ globals) vars = (named (global_name k) vars ≡ Some (state.Number v)) × GlobalsAlike (suc k) globals vars

abbrev pub is_limits_trap : wasm.Outcome → Bool
is_limits_trap (wasm.Stopped (exec.Trapped trap.ImportLimits)) = true
is_limits_trap _ = false

-- the module with number p got past its import limits: the run came behind it, or to it and was not
-- ended by them
abbrev pub got_past_limits : wasm.WasmRun → ℕ → Bool
got_past_limits w p = elim w.phase [
  | Init k ↦ nat_lt p k || (p == k && not (is_limits_trap w.outcome))
  | Call k ↦ true
]

abbrev pub first_global : link.LinkedSet → ℕ → ℕ
first_global s p = elim (link.module_at s p) [ None ↦ 0 | Some m ↦ imported_globals m ]

-- what the module with number p defines, and the objects of its unit
pub record ObjectsAlike (s : link.LinkedSet) (w : wasm.WasmRun) (p : ℕ) (o : store.Objects) (u : state.Objects) : Type 0 where
  pub memory : MemoriesAlike o.memory (named memory_name u.memories)
  pub table : TablesAlike s o.table (named table_name u.tables)
  pub globals : IsTrue (got_past_limits w p) → GlobalsAlike (first_global s p) o.globals u.vars

-- of each module from number p on
abbrev pub StoresAlike : link.LinkedSet → wasm.WasmRun → ℕ → store.Store → List state.Objects → Type 0
StoresAlike s w p [] [] = ⊤
StoresAlike s w p (o ∷ made) (u ∷ units) = ObjectsAlike s w p o u × StoresAlike s w (suc p) made units
StoresAlike s w p _ _ = ⊥

pub record Alike (s : link.LinkedSet) (w : wasm.WasmRun) (run : c.CRun) : Type 0 where
  pub phase : w.phase ≡ run.phase
  pub outcome : OutcomesAlike w.outcome run.outcome
  pub values : values_in w.events ≡ values_in run.events
  pub asks : asks_in w.events ≡ asks_in run.events
  pub objects : StoresAlike s w 0 w.store run.units
