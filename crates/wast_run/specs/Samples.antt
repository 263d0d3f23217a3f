-- A setting with one module, and a call of it, written by hand, that closed cases speak of.
use Rattle.std.specs.Prelude.{[], ◌∷◌, codes}
use Rattle.wasm_meaning.specs.Samples.{two_constants}
use Rattle.wast_script.specs.Commands as script
use Rattle.wast_run.specs.Report.{Setting}

-- a module whose function `f` adds 40 and 2 has joined under the name `m`
abbrev pub with_constants : Setting
with_constants = record { modules = record { name = codes "m"; tree = two_constants } ∷ []; kept = [] }

-- a call of that function
abbrev pub sum_call : script.Call
sum_call = record { module_name = codes "m"; field_name = codes "f"; args = [] }
