-- The place of each helper in the list of all.
use Rattle.std.specs.Prelude.{ℕ, List, length, bytes_eq, None, Some}
use Rattle.std.specs.List.{position_from}
use Rattle.c_helpers.specs.Helpers.{helper_of}
use Rattle.c_helpers.specs.declared.operation.Helper.{Helper}
use Rattle.c_helpers.specs.declared.operation.TheConstants.{HELPERS}

-- where a name stands among those of all helpers; past the end, if nowhere
abbrev pub place : List ℕ → ℕ
place name = elim (position_from (λ w. bytes_eq (helper_of w).name name) 0 HELPERS) [ None ↦ length HELPERS | Some i ↦ i ]

abbrev pub number_of : Helper → ℕ
number_of which = place (helper_of which).name
