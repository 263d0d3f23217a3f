-- The types of functions, parameter by parameter.
use Rattle.c_link.proofs.Common.{◌≡◌, ℕ, ◌+◌, ◌<◌, ◌≤◌, false, ◌&&◌, ◌≢◌, List, [], ◌∷◌, map, length, drop, sym, ◌∙◌, length-map}
use Rattle.c_link.proofs.Common.{same_types, CType}
use Rattle.c_tree.specs.Tree as tree
use Rattle.c_rules.proofs.SameTypes.{same_many}

abbrev pub types_in : List tree.Param → List CType
types_in params = map (λ p. p.0) params

pub never : (types : List CType) (params : List tree.Param) → length types ≢ length params → false ≡ same_types types (types_in params)
never types params n =
    let same : length (types_in params) ≡ length params = simp length-map in
    sym (same_many types (types_in params) (λ e. n (e ∙ same)))

-- the types from the i-th on agree as all do
abbrev pub Agrees : ℕ → List CType → List tree.Param → Type 0
Agrees i types params = same_types (drop i types) (types_in (drop i params)) ≡ same_types types (types_in params)
