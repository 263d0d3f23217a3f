-- Small modules, written by hand, that closed cases run. Every place is 0.
use Rattle.std.specs.Prelude.{ℕ, ℤ, pos, Bool, true, false, List, [], ◌∷◌, map, codes, Option, Some, None}
use Rattle.std.specs.List.{range_with_len}
use Rattle.w2c_base.specs.declared.value.ValType.{ValType}
use Rattle.w2c_base.specs.declared.value.ValType.TheVariants as type
use Rattle.w2c_base.specs.declared.value.Value.{Value}
use Rattle.w2c_base.specs.Run.{Host, HostFunction, Reply, Ask}
use Rattle.wasm_tree.specs.Instructions.{Kind, Call, CallIndirect, MemoryGrow, LocalGet, GlobalGet, GlobalSet, I32Const, I64Const, Binary}
use Rattle.wasm_tree.specs.declared.operators.BinaryOp.TheVariants.{Add}
use Rattle.wasm_tree.specs.declared.tree.Module.{Module}
use Rattle.wasm_tree.specs.declared.entries.TypeEntry.{TypeEntry}
use Rattle.wasm_tree.specs.declared.entries.Export.{Export}
use Rattle.wasm_tree.specs.declared.entries.GlobalEntry.{GlobalEntry}
use Rattle.wasm_tree.specs.declared.entries.ElementEntry.{ElementEntry}
use Rattle.wasm_tree.specs.declared.entries.LimitsEntry.{LimitsEntry}
use Rattle.wasm_tree.specs.declared.entries.SegmentEntry.{SegmentEntry}
use Rattle.wasm_tree.specs.declared.entries.Start.{Start}
use Rattle.wasm_tree.specs.declared.entries.Import.{Import}
use Rattle.wasm_tree.specs.declared.entries.ImportKind.{ImportKind}
use Rattle.wasm_tree.specs.declared.entries.ImportKind.TheVariants.{Func as ImportFunc, Table as ImportTable, Memory as ImportMemory}
use Rattle.wasm_tree.specs.declared.entries.ImportKind.TheVariants.{Global as ImportGlobal}
use Rattle.wasm_tree.specs.declared.entries.ExportKind.TheVariants.{Table as ExportTable, Memory as ExportMemory, Global as ExportGlobal}
pub use Rattle.wasm_tree.specs.Samples.{code_of, three_blocks, func_type, export_func, body, no_module, with_funcs}
use Rattle.wasm_meaning.specs.LinkedSet.{LinkedSet}
use Rattle.wasm_meaning.specs.Store.{State, no_objects}
use Rattle.wasm_meaning.specs.Execution.{Result, exec, call_within}
use Rattle.wasm_meaning.specs.Run.{ListedCall, WasmRun, wasm_run}

-- a state with one local and nothing else
abbrev pub state_of : Value → State
state_of local = record { locals = local ∷ []; store = []; trail = record { replies = []; events = [] } }

-- code outside any module, with one local and a budget
abbrev pub run_code : List Kind → Value → ℕ → Result
run_code kinds local budget =
    let empty : LinkedSet = record { modules = []; hosts = [] } in
    exec empty (call_within empty 1024) 0 (code_of kinds) budget [] (state_of local)

-- globals and nothing else
abbrev pub with_globals : List GlobalEntry → Module
with_globals globals = record {
  types = [];
  imports = [];
  funcs = [];
  tables = [];
  memories = [];
  globals = globals;
  exports = [];
  start = None;
  elements = [];
  data_count = None;
  segments = [];
  bodies = [];
}

-- a function `f` without parameters, of this result and with this code
abbrev pub gives : Option ValType → List Kind → Module → Module
gives result kinds m = with_funcs (func_type [] result ∷ []) (0 ∷ []) (body kinds ∷ []) (export_func (codes "f") 0 ∷ []) m

-- `f` sets a global, which may be immutable
abbrev pub sets_global : Bool → Module
sets_global mutable = gives None (I32Const (pos 7) ∷ GlobalSet 0 ∷ [])
    (with_globals (record { ty = type.I32; mutable = mutable; code = code_of (I32Const (pos 5) ∷ []); place = 0 } ∷ []))

-- a global whose initial value is of another type
abbrev pub wide_for_narrow : Module
wide_for_narrow = with_globals (record { ty = type.I32; mutable = false; code = code_of (I64Const (pos 5) ∷ []); place = 0 } ∷ [])

-- a function that adds 40 and 2
abbrev pub two_constants : Module
two_constants = with_funcs
    (func_type [] (Some type.I32) ∷ [])
    (0 ∷ [])
    (body (I32Const (pos 40) ∷ I32Const (pos 2) ∷ Binary type.I32 Add ∷ []) ∷ [])
    (export_func (codes "f") 0 ∷ [])
    no_module

-- a function that calls itself without an end
abbrev pub calls_itself : Module
calls_itself = with_funcs
    (func_type [] None ∷ [])
    (0 ∷ [])
    (body (Call 0 ∷ []) ∷ [])
    (export_func (codes "f") 0 ∷ [])
    no_module

abbrev element : ℤ → ℕ → ElementEntry
element offset func = record {
  table = 0;
  offset = code_of (I32Const offset ∷ []);
  funcs = record { index = func; place = 0 } ∷ [];
  place = 0;
  offset_place = 0;
}

-- a table of three elements: a function that gives 4, nothing, and a function of another type. Its
-- export calls the element at its argument
abbrev pub indirect_calls : Module
indirect_calls = with_funcs
    (func_type [] (Some type.I32) ∷ func_type (type.I32 ∷ []) (Some type.I32) ∷ [])
    (0 ∷ 1 ∷ 1 ∷ [])
    (body (I32Const (pos 4) ∷ []) ∷ body (LocalGet 0 ∷ []) ∷ body (LocalGet 0 ∷ CallIndirect 0 ∷ []) ∷ [])
    (export_func (codes "c") 2 ∷ [])
    (record {
      types = [];
      imports = [];
      funcs = [];
      tables = record { limits = record { min = 3; max = None; place = 0 }; place = 0 } ∷ [];
      memories = [];
      globals = [];
      exports = [];
      start = None;
      elements = element (pos 0) 0 ∷ element (pos 2) 1 ∷ [];
      data_count = None;
      segments = [];
      bodies = [];
    })

-- a function that adds what the host `env` gives for two calls of `tick`
abbrev pub host_ticks : Module
host_ticks = with_funcs
    (func_type [] (Some type.I64) ∷ [])
    (0 ∷ [])
    (body (Call 0 ∷ Call 0 ∷ Binary type.I64 Add ∷ []) ∷ [])
    (export_func (codes "r") 1 ∷ [])
    (record {
      types = [];
      imports = record { «module» = codes "env"; field = codes "tick"; kind = ImportFunc 0; place = 0 } ∷ [];
      funcs = [];
      tables = [];
      memories = [];
      globals = [];
      exports = [];
      start = None;
      elements = [];
      data_count = None;
      segments = [];
      bodies = [];
    })

abbrev pub env : Host
env = record {
  name = codes "env";
  functions = record { name = codes "tick"; ty = record { params = []; result = Some type.I64 } } ∷ [];
}

abbrev pub tick : Ask
tick = record { host = 0; function = 0; args = [] }

-- types, one import by the names of a module and of its export, exports, and nothing else
abbrev pub importing : List TypeEntry → List ℕ → List ℕ → ImportKind → List Export → Module
importing types module_name name kind exports = record {
  types = types;
  imports = record { «module» = module_name; field = name; kind = kind; place = 0 } ∷ [];
  funcs = [];
  tables = [];
  memories = [];
  globals = [];
  exports = exports;
  start = None;
  elements = [];
  data_count = None;
  segments = [];
  bodies = [];
}

-- a function of this type is imported
abbrev pub imports_func : List ℕ → List ℕ → TypeEntry → Module
imports_func module_name name ty = importing (ty ∷ []) module_name name (ImportFunc 0) []

-- the module `m` imports the function that it defines and exports itself
abbrev pub imports_its_own : Module
imports_its_own = with_funcs
    (func_type [] (Some type.I32) ∷ [])
    (0 ∷ [])
    (body (I32Const (pos 4) ∷ []) ∷ [])
    (export_func (codes "f") 1 ∷ [])
    (imports_func (codes "m") (codes "f") (func_type [] (Some type.I32)))

-- of `a` a memory of at least so many pages, and a global
abbrev pub imports_memory : List ℕ → ℕ → Module
imports_memory name min = importing [] (codes "a") name (ImportMemory (record { min = min; max = None; place = 0 })) []

abbrev pub imports_one_global : List ℕ → ValType → Bool → Module
imports_one_global name ty mutable = importing [] (codes "a") name (ImportGlobal ty mutable) []

-- the host's `tick` is imported, and exported again as `t`
abbrev pub hands_on_tick : Module
hands_on_tick =
    importing (func_type [] (Some type.I64) ∷ []) (codes "env") (codes "tick") (ImportFunc 0) (export_func (codes "t") 0 ∷ [])

abbrev only_tables : List LimitsEntry → List Import → List ElementEntry → Option Start → Module
only_tables tables imports elements start = record {
  types = [];
  imports = imports;
  funcs = [];
  tables = tables;
  memories = [];
  globals = [];
  exports = record { name = codes "t"; kind = ExportTable; index = 0; name_place = 0; index_place = 0 } ∷ [];
  start = start;
  elements = elements;
  data_count = None;
  segments = [];
  bodies = [];
}

abbrev table_of : ℕ → Option ℕ → LimitsEntry
table_of min max = record { limits = record { min = min; max = max; place = 0 }; place = 0 }

-- a table of two elements, with one maximum or none
abbrev pub exports_table : Option ℕ → Module
exports_table max = only_tables (table_of 2 max ∷ []) [] [] None

-- an import of that table, with limits of its own
abbrev pub imports_table : ℕ → Option ℕ → Module
imports_table min max = only_tables []
    (record {
      «module» = codes "a";
      field = codes "t";
      kind = ImportTable (table_of min max).limits;
      place = 0;
    } ∷ [])
    [] None

-- an element segment without entries, past the end of a table of two
abbrev pub segment_past_the_end : Module
segment_past_the_end = only_tables (table_of 2 None ∷ []) [] (record {
  table = 0;
  offset = code_of (I32Const (pos 3) ∷ []);
  funcs = [];
  place = 0;
  offset_place = 0;
} ∷ []) None

-- a table of two: a segment that fits, and one that does not
abbrev pub second_segment_past_the_end : Module
second_segment_past_the_end = with_funcs
    (func_type [] None ∷ []) (0 ∷ []) (body [] ∷ []) []
    (only_tables (table_of 2 None ∷ []) [] (element (pos 0) 0 ∷ element (pos 2) 0 ∷ []) None)

-- a memory of no pages, exported as `m`
abbrev pub exports_memory : Module
exports_memory = record {
  types = [];
  imports = [];
  funcs = [];
  tables = [];
  memories = table_of 0 None ∷ [];
  globals = [];
  exports = record { name = codes "m"; kind = ExportMemory; index = 0; name_place = 0; index_place = 0 } ∷ [];
  start = None;
  elements = [];
  data_count = None;
  segments = [];
  bodies = [];
}

-- two modules, of which the first exports this memory and the second imports it
abbrev pub shared_memory : LinkedSet
shared_memory = record {
  modules = record { name = codes "a"; tree = exports_memory }
      ∷ record { name = codes "b"; tree = imports_memory (codes "m") 0 } ∷ [];
  hosts = [];
}

-- a state of these two whose memory has these bytes, with one local
abbrev pub memory_state : List ℕ → Value → State
memory_state bytes local = record {
  locals = local ∷ [];
  store = record { memory = Some (record { bytes = bytes; max = None }); table = None; globals = [] } ∷ no_objects ∷ [];
  trail = record { replies = []; events = [] };
}

-- code of the module with number p, on a memory of five bytes, with one local
abbrev pub run_on_memory : ℕ → List Kind → Value → Result
run_on_memory p kinds local =
    exec shared_memory (call_within shared_memory 1024) p (code_of kinds) 9 [] (memory_state (1 ∷ 2 ∷ 3 ∷ 4 ∷ 5 ∷ []) local)

-- a memory of no pages and at most one, and `grow`, which asks for as many pages as its argument;
-- with data segments
abbrev pub small_memory : List SegmentEntry → Module
small_memory segments = with_funcs
    (func_type (type.I32 ∷ []) (Some type.I32) ∷ [])
    (0 ∷ [])
    (body (LocalGet 0 ∷ MemoryGrow ∷ []) ∷ [])
    (export_func (codes "grow") 0 ∷ [])
    (record {
      types = [];
      imports = [];
      funcs = [];
      tables = [];
      memories = table_of 0 (Some 1) ∷ [];
      globals = [];
      exports = [];
      start = None;
      elements = [];
      data_count = None;
      segments = segments;
      bodies = [];
    })

-- bytes of a data segment at a place
abbrev pub data_at : ℤ → List ℕ → SegmentEntry
data_at place bytes = record {
  memory = 0;
  offset = code_of (I32Const place ∷ []);
  bytes = bytes;
  place = 0;
  offset_place = 0;
}

-- the first module has a global `g` of 5; `inc` adds 1 to it and gives it, `bump` adds 1 and gives nothing
abbrev pub exports_global : Module
exports_global = with_funcs
    (func_type [] (Some type.I32) ∷ func_type [] None ∷ [])
    (0 ∷ 1 ∷ [])
    (body (GlobalGet 0 ∷ I32Const (pos 1) ∷ Binary type.I32 Add ∷ GlobalSet 0 ∷ GlobalGet 0 ∷ [])
    ∷ body (GlobalGet 0 ∷ I32Const (pos 1) ∷ Binary type.I32 Add ∷ GlobalSet 0 ∷ []) ∷ [])
    (export_func (codes "inc") 0
    ∷ export_func (codes "bump") 1
    ∷ record { name = codes "g"; kind = ExportGlobal; index = 0; name_place = 0; index_place = 0 } ∷ [])
    (with_globals (record { ty = type.I32; mutable = true; code = code_of (I32Const (pos 5) ∷ []); place = 0 } ∷ []))

-- the second imports all three, gives `inc` plus `g`, exports `inc` again as `again`, and has `bump`
-- for its start function where that is wanted
abbrev pub imports_global : Option Start → Module
imports_global start = with_funcs
    (func_type [] (Some type.I32) ∷ func_type [] None ∷ [])
    (0 ∷ [])
    (body (Call 0 ∷ GlobalGet 0 ∷ Binary type.I32 Add ∷ []) ∷ [])
    (export_func (codes "run") 2 ∷ export_func (codes "again") 0 ∷ [])
    (record {
      types = [];
      imports = record { «module» = codes "a"; field = codes "g"; kind = ImportGlobal type.I32 true; place = 0 }
          ∷ record { «module» = codes "a"; field = codes "inc"; kind = ImportFunc 0; place = 0 }
          ∷ record { «module» = codes "a"; field = codes "bump"; kind = ImportFunc 1; place = 0 } ∷ [];
      funcs = [];
      tables = [];
      memories = [];
      globals = [];
      exports = [];
      start = start;
      elements = [];
      data_count = None;
      segments = [];
      bodies = [];
    })

abbrev pub start_at : ℕ → Option Start
start_at index = Some (record { index = index; place = 0 })

-- two modules, `a` and `b`
abbrev pub both : Module → Module → LinkedSet
both a b = record {
  modules = record { name = codes "a"; tree = a } ∷ record { name = codes "b"; tree = b } ∷ [];
  hosts = env ∷ [];
}

-- their run with calls of `b`
abbrev pub run_both : Module → Module → List (List ℕ) → ℕ → WasmRun
run_both a b names budget =
    wasm_run
    (both a b)
    (map (λ name. record { module_name = codes "b"; export_name = name; args = [] }) names)
    budget
    []

-- empty modules of these names, and hosts
abbrev pub empty_modules : List (List ℕ) → List Host → LinkedSet
empty_modules names hosts = record { modules = map (λ name. record { name = name; tree = no_module }) names; hosts = hosts }

-- so many names, each of one byte
abbrev pub names_up_to : ℕ → List (List ℕ)
names_up_to count = map (λ k. k ∷ []) (range_with_len 0 count)

-- a host that offers two functions of one name
abbrev ticks : Option ValType → HostFunction
ticks result = record { name = codes "tick"; ty = record { params = []; result = result } }

abbrev pub ticks_twice : Host
ticks_twice = record { name = codes "env"; functions = ticks None ∷ ticks (Some type.I64) ∷ [] }

-- the module alone behind a host that offers nothing
abbrev pub behind_another_host : Module → LinkedSet
behind_another_host m = record {
  modules = record { name = codes "m"; tree = m } ∷ [];
  hosts = record { name = codes "quiet"; functions = [] } ∷ env ∷ [];
}

-- the module alone, named `m`, and one call of it
abbrev pub alone : Module → LinkedSet
alone m = record { modules = record { name = codes "m"; tree = m } ∷ []; hosts = env ∷ [] }

abbrev pub call_of : List ℕ → List Value → ListedCall
call_of name args = record { module_name = codes "m"; export_name = name; args = args }

abbrev pub run_alone : Module → List ℕ → List Value → ℕ → List Reply → WasmRun
run_alone m name args budget replies = wasm_run (alone m) (call_of name args ∷ []) budget replies
