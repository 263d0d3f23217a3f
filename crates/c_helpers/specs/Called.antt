-- Marks of the helpers that bodies call.
use Rattle.std.specs.Prelude.{◌≡◌, ◌||◌, Bool, false, List, get_or}
use Rattle.std.specs.List.{list_any}
use Rattle.wasm_tree.specs.declared.tree.Module.{Module}
use Rattle.c_helpers.specs.declared.operation.Helper.{Helper}
use Rattle.c_helpers.specs.Numbers.{number_of}
use Rattle.c_helpers.specs.Translated.{any_in}
use Rattle.c_helpers.specs.Needed.{calls_helper}

-- a helper is marked at its place in the list of all
abbrev pub marked : List Bool → Helper → Bool
marked marks which = get_or marks (number_of which) false

-- the helpers that were marked and those that pass a test
abbrev pub HasMore : List Bool → List Bool → (Helper → Bool) → Type 0
HasMore after before more = (which : Helper) → marked after which ≡ (marked before which || more which)

-- the helpers that are marked are called
abbrev pub KnowsCalls : List Bool → Module → Type 0
KnowsCalls marks m = (which : Helper) → marked marks which ≡ list_any (λ b. any_in (calls_helper which) b.code) m.bodies
