-- The units of the modules that joined.
use Rattle.std.specs.Prelude.{◌≡◌, List, [], map, Option, Some, None, ⊤}
use Rattle.c_tree.specs.Tree as tree
use Rattle.c_tree.specs.View.{unit_of}
use Rattle.unit_meaning.specs.Sets.{IsAcceptedSet, program_of}
use Rattle.crun.specs.Sessions.{State}
use Rattle.wasm_set.specs.Sets.{set_of}
use Rattle.wast_run.specs.declared.linked_modules.LinkedModules.{LinkedModules}

abbrev pub units_in : {H : Type 0} → Option (State H) → List (List tree.Item)
units_in None = []
units_in (Some session) = map unit_of session.linked.0

abbrev pub HasNoHosts : {H : Type 0} → Option (State H) → Type 0
HasNoHosts None = ⊤
HasNoHosts (Some session) = session.hosts ≡ []

-- the units are those of the modules, which are accepted, and are linked without hosts
pub record HaveUnits (joined : LinkedModules) : Type 0 where
  pub units : units_in joined.session ≡ (program_of (set_of joined.set)).units
  pub no_hosts : HasNoHosts joined.session
  pub accepted : IsAcceptedSet (set_of joined.set)
