-- What is entered of bodies: the faults that they have.
use Rattle.std.specs.Prelude.{◌≡◌, List, Option, option_map}
use Rattle.wasm_tree.specs.declared.tree.Module.{Module}
use Rattle.wasm_tree.specs.declared.entries.FuncEntry.{FuncEntry}
use Rattle.wasm_tree.specs.declared.entries.BodyEntry.{BodyEntry}
use Rattle.wasm_typing.specs.declared.fault.Fault.{Fault}
use Rattle.wasm_typing.specs.Context.{Context}
use Rattle.wasm_typing.specs.Verdict.{Bodies, FaultOfBody, FaultsOfBodies}
use Rattle.body_check.specs.declared.context.Spaces.{Spaces}
use Rattle.wasm_valid.specs.Entered.{entered}
use Rattle.body_check.specs.Seen.{type_seen, typed_context_seen}

-- the context of a function's body. None where the function has no type
abbrev pub body_context_seen : Spaces → FuncEntry → BodyEntry → Option Context
body_context_seen s func body = option_map (typed_context_seen s body) (type_seen s func.type_index)

-- from the fault that was found before to the one behind: that of a body, where it has one
abbrev pub EntersBody : Option Context → BodyEntry → Option Fault → Option Fault → Type 0
EntersBody context body old new = (faults : List Fault) × FaultOfBody context body faults × (new ≡ entered old faults)

-- those of bodies
abbrev pub EntersBodies : Module → Bodies → Option Fault → Option Fault → Type 0
EntersBodies m bodies old new = (faults : List Fault) × FaultsOfBodies m bodies faults × (new ≡ entered old faults)
