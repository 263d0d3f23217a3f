-- What bodies ask of the program that they run in (C11, 6.9 external definitions): that the static
-- functions and the helpers of a unit are there, and that imports' symbols reach what the imports stand for.
use Rattle.std.specs.Prelude.{◌≡◌, ℕ, true, slice_get, Some, None}
use Rattle.std.specs.List.{Contains}
use Rattle.wasm_tree.specs.declared.entries.Import.{Import}
use Rattle.wasm_tree.specs.Within.{WithinLimits}
use Rattle.wasm_tree.specs.IndexSpaces.{IsDefined, func_imports}
use Rattle.wasm_typing.specs.Verdict.{IsValid}
use Rattle.wasm_meaning.specs.LinkedSet as link
use Rattle.c_meaning.specs.State.{FuncAddress}
use Rattle.c_meaning.specs.Linking.{Program, func_named}
use Rattle.c_meaning.specs.Primitives.{primitive}
use Rattle.alike.specs.Passing.{StandsFor}
use Rattle.c_helpers.specs.declared.operation.Helper.{Helper}
use Rattle.c_helpers.specs.Helpers.{helper_of}
use Rattle.c_helpers.specs.Needed.{helpers_of}
use Rattle.c_symbols.specs.Symbols.{import_symbol, is_usable}
use Rattle.body_definition.specs.Body.{body_of}
use Rattle.alike.specs.Defines.{Defines}

-- the symbol of the function import with number k reaches the function that the import stands for
pub record Reached (p : Program) (s : link.LinkedSet) (u : ℕ) (m : link.NamedModule) (k : ℕ) (i : Import) : Type 0 where
  pub is_usable : is_usable m i ≡ true
  pub function : link.FuncAddress
  pub function_is : link.func_at s u k ≡ Some function
  pub address : FuncAddress
  pub address_is : func_named p u (import_symbol i) ≡ Some address
  pub is_no_primitive : primitive (import_symbol i) ≡ None
  pub stands : StandsFor p s function address

-- the unit with number u serves the module with that number
pub record Serves (p : Program) (s : link.LinkedSet) (u : ℕ) (m : link.NamedModule) : Type 0 where
  pub bodies : (index : ℕ) → IsDefined m.tree index → Defines p u (body_of m.tree m.name index)
  pub helpers : (which : Helper) → Contains (helpers_of m.tree) which → Defines p u (helper_of which)
  pub imports : (k : ℕ) (i : Import) → slice_get (func_imports m.tree) k ≡ Some i → Reached p s u m k i

-- valid modules within the limits that are linked, with a unit for each that serves it
pub record AreServed (p : Program) (s : link.LinkedSet) : Type 0 where
  pub linked : link.IsLinked s
  pub hosts : p.hosts ≡ s.hosts
  pub valid : (u : ℕ) (m : link.NamedModule) → slice_get s.modules u ≡ Some m → IsValid m.tree
  pub within : (u : ℕ) (m : link.NamedModule) → slice_get s.modules u ≡ Some m → WithinLimits m.tree
  pub serve : (u : ℕ) (m : link.NamedModule) → slice_get s.modules u ≡ Some m → Serves p s u m
