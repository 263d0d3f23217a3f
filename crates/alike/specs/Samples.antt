-- A unit, written by hand, that does what a small module does, and ends of runs of both, that are alike
-- or differ in one thing.
use Rattle.std.specs.Prelude.{ℕ, true, false, List, [], ◌∷◌, codes, Option, Some, None}
use Rattle.w2c_base.specs.declared.value.Value.{Value}
use Rattle.w2c_base.specs.Run.{Call}
use Rattle.c_tree.specs.declared.tree.CType.{CType}
use Rattle.c_tree.specs.declared.tree.CType.TheVariants.{Void, U32}
use Rattle.c_tree.specs.declared.tree.Num.TheVariants.{N32}
use Rattle.c_tree.specs.declared.tree.COp.TheVariants.{Add}
use Rattle.c_tree.specs.Tree as tree
use Rattle.c_meaning.specs.Run.{CRun, c_run}
use Rattle.c_meaning.specs.Run as c
use Rattle.c_meaning.specs.State as state
use Rattle.wasm_meaning.specs.Samples as wasm
use Rattle.wasm_meaning.specs.Run as wasm_outcome
use Rattle.wasm_meaning.specs.LinkedSet as link
use Rattle.wasm_meaning.specs.Store as store
use Rattle.wasm_meaning.specs.LinkedSet.{LinkedSet}

-- a module that adds 40 and 2, under the name `m`, with one host
abbrev pub linked : LinkedSet
linked = record { modules = record { name = codes "m"; tree = wasm.two_constants } ∷ []; hosts = wasm.env ∷ [] }

abbrev function : List ℕ → CType → List tree.Stmt → tree.Item
function name result stmts = tree.Function (record {
  is_static = false;
  result = result;
  name = name;
  params = (Void, None) ∷ [];
  body = Some (record { locals = []; stmts = stmts });
})

-- void w2cZ_mZ_i(void) { ; return; } u32 w2cZ_mZ_fZ_f(void) { return (40u + 2u); }
abbrev pub unit : List tree.Item
unit =
    function (codes "w2cZ_mZ_i") Void (tree.Null ∷ tree.ReturnNone ∷ [])
    ∷ function (codes "w2cZ_mZ_fZ_f") U32
    (tree.Return (tree.Value (tree.Op Add (tree.Number (N32 40)) (tree.Number (N32 2)))) ∷ [])
    ∷ []

abbrev pub run_unit : CRun
run_unit = c_run
    (record { units = unit ∷ []; hosts = wasm.env ∷ [] })
    (record { symbol = codes "w2cZ_mZ_fZ_f"; args = [] } ∷ [])
    10
    []

-- ---- ends of runs of the module and of the unit

abbrev pub module_memory : List ℕ → Option store.Memory
module_memory bytes = Some (record { bytes = bytes; max = None })

abbrev pub unit_memory : List ℕ → Option state.Memory
unit_memory bytes = Some (record { is_made = true; bytes = bytes; max = 4294967296 })

-- what stands in the table's first place; the second is empty
abbrev pub module_run : Option store.Memory → link.FuncAddress → Value → wasm_outcome.Outcome → wasm_outcome.WasmRun
module_run memory func global outcome = record {
  phase = Call 0;
  events = [];
  store = record {
    memory = memory;
    table = Some (record { elements = Some func ∷ None ∷ []; max = None });
    globals = global ∷ [];
  } ∷ [];
  outcome = outcome;
}

abbrev memories : Option state.Memory → List (state.Name × state.Memory)
memories None = []
memories (Some memory) = (codes "m0", memory) ∷ []

abbrev pub unit_run : Option state.Memory → state.FuncAddress → ℕ → Value → c.Outcome → CRun
unit_run memory func signature global outcome = record {
  phase = Call 0;
  events = [];
  units = record {
    vars = (codes "g0", state.Number global) ∷ [];
    memories = memories memory;
    tables = (
      codes "t0",
      record {
        is_made = true;
        elements = Some (record { func = func; signature = signature }) ∷ None ∷ [];
        max = 4294967296;
      },
    ) ∷ [];
  } ∷ [];
  outcome = outcome;
}

-- the module's function, and the names of it in the unit
abbrev pub own : link.FuncAddress
own = link.ModuleFunc 0 0

abbrev pub static_func : state.Name → state.FuncAddress
static_func name = state.UnitFunc 0 name

abbrev pub exported_func : state.FuncAddress
exported_func = state.UnitFunc 0 (codes "w2cZ_mZ_fZ_f")
