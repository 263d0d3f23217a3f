-- The runtime's functions by their names.
use Rattle.c_tree.proofs.Common.{◌≡◌, ℕ, Bool, true, false, List, [], ◌∷◌, map, if◌then◌else◌, Some, option_map, bytes_eq, refl, named}
use Rattle.c_tree.proofs.Common.{all_primitives, by_name, primitive_name, primitive_type}
use Rattle.c_tree.specs.Runtime.{primitives}
use Rattle.c_tree.specs.declared.primitive.Primitive.{Primitive}

-- what is told of the first of a name
pub named_each : {A : Type 0} (f : Primitive → A) (name : List ℕ) (all : List Primitive)
    → option_map f (named name (map by_name all)) ≡ named name (map (λ p. (primitive_name p, f p)) all)
named_each f name [] = refl
named_each f name (p ∷ all) = by (bytes_eq (primitive_name p) name) (named_each f name all)
  where
    by : (b : Bool) → option_map f (named name (map by_name all)) ≡ named name (map (λ p. (primitive_name p, f p)) all)
        → option_map f (if b then Some p else named name (map by_name all))
        ≡ (if b then Some (f p) else named name (map (λ p. (primitive_name p, f p)) all))
    by true e = refl
    by false e = e

pub typed : (name : List ℕ) → option_map primitive_type (named name (map by_name all_primitives)) ≡ named name primitives
typed name = named_each primitive_type name all_primitives
