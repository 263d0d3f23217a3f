-- The helpers that the bodies of a module call.
use Rattle.std.specs.Prelude.{Bool, false, List, filter, bytes_eq, Option, Some, None}
use Rattle.std.specs.List.{list_any}
use Rattle.wasm_tree.specs.declared.tree.Module.{Module}
use Rattle.wasm_tree.specs.Instructions.{Kind}
use Rattle.c_tree.specs.Scope.{Name}
use Rattle.c_helpers.specs.declared.operation.Helper.{Helper}
use Rattle.c_helpers.specs.declared.operation.TheConstants.{HELPERS}
use Rattle.c_helpers.specs.Helpers.{helper_of}
use Rattle.c_helpers.specs.Translated.{any_in}
use Rattle.c_helpers.specs.Ways.{helper_for}

-- the helper that an instruction calls has this name; helpers that differ have names that differ
abbrev pub named_by : Name → Option Helper → Bool
named_by name None = false
named_by name (Some which) = bytes_eq name (helper_of which).name

abbrev pub calls : Name → Kind → Bool
calls name kind = named_by name (helper_for kind)

abbrev pub calls_helper : Helper → Kind → Bool
calls_helper which kind = calls (helper_of which).name kind

-- the helpers that the bodies call, in the order of the list of all
abbrev pub helpers_of : Module → List Helper
helpers_of m = filter (λ which. list_any (λ b. any_in (calls_helper which) b.code) m.bodies) HELPERS
