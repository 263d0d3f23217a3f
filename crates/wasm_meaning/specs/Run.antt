-- The run of a linked set: its modules are instantiated in order, then calls of exports run
-- (WebAssembly Core 1.0, 4.5.3 to 4.5.5). A run is a list of tasks of one step each.
use Rattle.std.specs.Prelude.{◌≡◌, ℕ, zero, suc, ◌+◌, ◌&&◌, not, List, [], ◌∷◌, ◌++◌, Bool, true, false, if◌then◌else◌, nat_le, length, map}
use Rattle.std.specs.Prelude.{filter, flat_map, slice_set, replicate, Option, Some, None}
use Rattle.std.specs.List.{AllByRecursion}
use Rattle.w2c_base.specs.declared.value.ValType.{ValType}
use Rattle.w2c_base.specs.declared.value.Value.{Value}
use Rattle.w2c_base.specs.declared.value.Value.TheVariants.{I32, I64}
use Rattle.w2c_base.specs.declared.signature.FuncType.{FuncType}
use Rattle.w2c_base.specs.declared.trap.TrapKind.{TrapKind}
use Rattle.w2c_base.specs.declared.trap.TrapKind.TheVariants as trap
use Rattle.w2c_base.specs.Values.{IsNumber, types_of, pattern_of}
use Rattle.w2c_base.specs.Lookup.{if_found, numbered}
use Rattle.w2c_base.specs.Run.{Reply, Event, Trail, Phase, Init, Call, call_ended}
use Rattle.wasm_tree.specs.Instructions.{Code, end_code, then_code, I32Const, I64Const, GlobalGet}
use Rattle.wasm_tree.specs.IndexSpaces.{is_func_import}
use Rattle.wasm_tree.specs.declared.tree.Module.{Module}
use Rattle.wasm_tree.specs.declared.entries.Limits.{Limits}
use Rattle.wasm_tree.specs.declared.entries.Import.{Import}
use Rattle.wasm_tree.specs.declared.entries.Start.{Start}
use Rattle.wasm_tree.specs.declared.entries.ElementEntry.{ElementEntry}
use Rattle.wasm_tree.specs.declared.entries.SegmentEntry.{SegmentEntry}
use Rattle.wasm_tree.specs.declared.entries.ImportKind.TheVariants.{Table as ImportTable, Memory as ImportMemory}
use Rattle.wasm_meaning.specs.LinkedSet.{LinkedSet, FuncAddress, as_func, as_table, as_memory, exported, instances, import_at, func_at}
use Rattle.wasm_meaning.specs.LinkedSet.{table_at, memory_at, global_at, func_type}
use Rattle.wasm_meaning.specs.Store as store
use Rattle.wasm_meaning.specs.Execution.{Stop, Trapped, OutOfSteps, Stuck, Called, Back, CallStops, of_type, call_within}

-- a call of an export, by names
pub record ListedCall : Type 0 where
  pub module_name : List ℕ
  pub export_name : List ℕ
  pub args : List Value

-- the function that a call names
abbrev pub called_func : LinkedSet → ListedCall → Option FuncAddress
called_func s c = if_found (exported (instances s) c.module_name c.export_name) as_func

-- it is one whose parameters have the types of the arguments, which are numbers of their types
abbrev pub Fits : LinkedSet → ListedCall → Type 0
Fits s c = (f : FuncAddress) × (ty : FuncType) × (called_func s c ≡ Some f)
    × (func_type s f ≡ Some ty) × (ty.params ≡ types_of c.args) × AllByRecursion IsNumber c.args

-- what is done in one step; a start call costs nothing by itself
pub data Task : Type 0 where
  Begin : Task
  Take : (taken : Import) → Task
  MakeTable MakeMemory : (limits : Limits) → Task
  MakeGlobal : (ty : ValType) → (initial : Code) → Task
  TestElements : (segment : ElementEntry) → Task
  TestData : (segment : SegmentEntry) → Task
  WriteElement : (segment : ElementEntry) → (number func : ℕ) → Task
  WriteByte : (segment : SegmentEntry) → (number byte : ℕ) → Task
  CallStart : (func : ℕ) → Task
  CallExport : (listed : ListedCall) → Task

abbrev pub start_tasks : Option Start → List Task
start_tasks None = []
start_tasks (Some s) = CallStart s.index ∷ []

-- a module's instantiation, in its order
abbrev pub tasks_of : Module → List Task
tasks_of m =
    (Begin ∷ [])
    ++ (map Take (filter (λ i. not (is_func_import i)) m.imports)
    ++ (map (λ t. MakeTable t.limits) m.tables
    ++ (map (λ t. MakeMemory t.limits) m.memories
    ++ (map (λ g. MakeGlobal g.ty g.code) m.globals
    ++ (map TestElements m.elements
    ++ (map TestData m.segments
    ++ (flat_map (λ e. map (λ f. WriteElement e f.0 f.1.index) (numbered e.funcs)) m.elements
    ++ (flat_map (λ d. map (λ b. WriteByte d b.0 b.1) (numbered d.bytes)) m.segments
    ++ start_tasks m.start))))))))

-- a task, the phase that it belongs to, and the number of the module whose task it is
pub record Planned : Type 0 where
  pub phase : Phase
  pub place : ℕ
  pub task : Task

-- the modules in order, then the calls
abbrev pub plan_of : LinkedSet → List ListedCall → List Planned
plan_of s calls =
    flat_map (λ m. map (λ t. record { phase = Init m.0; place = m.0; task = t }) (tasks_of m.1.tree)) (numbered s.modules)
    ++ map (λ c. record { phase = Call c.0; place = 0; task = CallExport c.1 }) (numbered calls)

-- the value of an initial or offset expression (valid ones are constants and gets of globals)
abbrev pub constant_of : LinkedSet → ℕ → store.Store → Code → Option Value
constant_of s p made (then_code place (I32Const z) end_code) = Some (I32 (pattern_of 32 z))
constant_of s p made (then_code place (I64Const z) end_code) = Some (I64 (pattern_of 64 z))
constant_of s p made (then_code place (GlobalGet index) end_code) = if_found (global_at s p index) (store.global_in made)
constant_of s p made _ = None

-- a given maximum fits a wanted one
abbrev pub max_fits : Option ℕ → Option ℕ → Bool
max_fits given None = true
max_fits None (Some want) = false
max_fits (Some given) (Some want) = nat_le given want

-- a given table or memory fits an import's limits (4.5.2)
abbrev pub limits_fit : ℕ → Option ℕ → Limits → Bool
limits_fit size max want = nat_le want.min size && max_fits max want.max

abbrev pub done : ℕ → store.Store → Trail → Called
done n made trail = Back n None made trail

abbrev pub tested : Bool → TrapKind → ℕ → store.Store → Trail → Called
tested passes kind n made trail = if passes then done n made trail else CallStops (Trapped kind) made trail

-- what is done with something, where it is there
abbrev pub with_found : {A : Type 0} → Option A → store.Store → Trail → (A → Called) → Called
with_found None made trail go = CallStops Stuck made trail
with_found (Some a) made trail go = go a

abbrev pub as_offset : Value → Option ℕ
as_offset (I32 n) = Some n
as_offset (I64 n) = None

-- an import is taken: a table's or a memory's limits are tested
abbrev pub taken_import : LinkedSet → ℕ → Import → ℕ → store.Store → Trail → Called
taken_import s p i n made trail = elim i.kind [
  | ImportTable want ↦ with_found (if_found (if_found (import_at s p i) as_table) (store.table_in made)) made trail (λ t.
      tested (limits_fit (length t.elements) t.max want) trap.ImportLimits n made trail)
  | ImportMemory want ↦ with_found (if_found (if_found (import_at s p i) as_memory) (store.memory_in made)) made trail (λ m.
      tested (limits_fit (store.pages m) m.max want) trap.ImportLimits n made trail)
  | _ ↦ done n made trail
]

-- the table of an element segment and its offset; the memory of a data segment and its offset
abbrev pub with_table_at : LinkedSet → ℕ → ElementEntry → store.Store → Trail → (ℕ → store.Table → ℕ → Called) → Called
with_table_at s p e made trail go =
    with_found (table_at s p e.table) made trail (λ owner.
    with_found (store.table_in made owner) made trail (λ t.
    with_found (if_found (constant_of s p made e.offset) as_offset) made trail (λ offset. go owner t offset)))

abbrev pub with_memory_at : LinkedSet → ℕ → SegmentEntry → store.Store → Trail → (ℕ → store.Memory → ℕ → Called) → Called
with_memory_at s p d made trail go =
    with_found (memory_at s p d.memory) made trail (λ owner.
    with_found (store.memory_in made owner) made trail (λ m.
    with_found (if_found (constant_of s p made d.offset) as_offset) made trail (λ offset. go owner m offset)))

-- the value of an initial expression, which has the global's type
abbrev pub first_value : LinkedSet → ℕ → store.Store → ValType → Code → Option Value
first_value s p made ty initial = if_found (constant_of s p made initial) (λ v. of_type ty v v)

-- a task of the module with number p, when its step is paid
abbrev pub do_task : LinkedSet → ℕ → Task → ℕ → store.Store → Trail → Called
do_task s p Begin n made trail = done n made trail
do_task s p (Take i) n made trail = taken_import s p i n made trail
do_task s p (MakeTable l) n made trail = done n (store.with_table made p (store.new_table l.min l.max)) trail
do_task s p (MakeMemory l) n made trail = done n (store.with_memory made p (store.new_memory l.min l.max)) trail
do_task s p (MakeGlobal ty initial) n made trail = with_found (first_value s p made ty initial) made trail (λ v.
    done n (store.with_objects made p (λ o. record o { globals = o.globals ++ v ∷ [] })) trail)
do_task s p (TestElements e) n made trail = with_table_at s p e made trail (λ owner t offset.
    tested (nat_le (offset + length e.funcs) (length t.elements)) trap.SegmentOut n made trail)
do_task s p (TestData d) n made trail = with_memory_at s p d made trail (λ owner m offset.
    tested (nat_le (offset + length d.bytes) (length m.bytes)) trap.SegmentOut n made trail)
do_task s p (WriteElement e number func) n made trail = with_table_at s p e made trail (λ owner t offset.
    with_found (func_at s p func) made trail (λ f.
    done n (store.with_table made owner (record t { elements = slice_set t.elements (offset + number) (Some f) })) trail))
do_task s p (WriteByte d number byte) n made trail = with_memory_at s p d made trail (λ owner m offset.
    done n (store.with_memory made owner (record m { bytes = slice_set m.bytes (offset + number) byte })) trail)
do_task s p (CallStart func) n made trail = with_found (func_at s p func) made trail (λ f. call_within s 1024 f [] n made trail)
do_task s p (CallExport c) n made trail = with_found (called_func s c) made trail (λ f. call_within s 1024 f c.args n made trail)

abbrev pub is_free : Task → Bool
is_free (CallStart func) = true
is_free _ = false

-- one step is paid, where the task has a cost and the budget has a step
abbrev pub paid : Bool → ℕ → store.Store → Trail → (ℕ → Called) → Called
paid true n made trail go = go n
paid false zero made trail go = CallStops OutOfSteps made trail
paid false (suc n) made trail go = go n

pub data Outcome : Type 0 where
  Ended : Outcome
  Stopped : (why : Stop) → Outcome

-- how far a run came, what happened in it, in order, and the store
pub record WasmRun : Type 0 where
  pub phase : Phase
  pub events : List Event
  pub store : store.Store
  pub outcome : Outcome

-- a listed call's end is told
abbrev pub trail_after : Task → Option Value → Trail → Trail
trail_after (CallExport c) value trail = call_ended trail value
trail_after _ value trail = trail

abbrev pub then_run : Called → Planned → (ℕ → store.Store → Trail → WasmRun) → WasmRun
then_run (Back left value made trail) t go = go left made (trail_after t.task value trail)
then_run (CallStops why made trail) t go = record { phase = t.phase; events = trail.events; store = made; outcome = Stopped why }

-- tasks in order, with a budget of n, behind a task of the phase `last`
abbrev pub run_tasks : LinkedSet → List Planned → Phase → ℕ → store.Store → Trail → WasmRun
run_tasks s [] last n made trail = record { phase = last; events = trail.events; store = made; outcome = Ended }
run_tasks s (t ∷ plan) last n made trail =
    then_run (paid (is_free t.task) n made trail (λ left. do_task s t.place t.task left made trail)) t (run_tasks s plan t.phase)

-- the run of a linked set with calls, at most n steps, and these replies of the hosts
abbrev pub wasm_run : LinkedSet → List ListedCall → ℕ → List Reply → WasmRun
wasm_run s calls n replies =
    let nothing : store.Store = replicate (length s.modules) store.no_objects in
    run_tasks s (plan_of s calls) (Init 0) n nothing (record { replies = replies; events = [] })
