-- The order in which the objects of a unit are told: by the length of the name, then by its bytes.
use Rattle.std.specs.Prelude.{ℕ, ◌+◌, List, [], ◌∷◌, length}
use Rattle.std.specs.Ordering.{nat_cmp, ordering_then}
use Rattle.std.specs.declared.cmp.Ordering.{Ordering}
use Rattle.std.specs.Cmp.Lexicographic.{slice_cmp}
use Rattle.std.specs.BTreeMap.{insert_entry}
use Rattle.c_meaning.specs.State.{Name}

abbrev pub name_order : Name → Name → Ordering
name_order x y = ordering_then (nat_cmp (length x) (length y)) (slice_cmp nat_cmp x y)

-- what stands beside names, each put to its place among those in front of it
abbrev pub put_in_order : {A : Type 0} → List (Name × A) → List (Name × A) → List (Name × A)
put_in_order placed [] = placed
put_in_order placed (e ∷ entries) = put_in_order (insert_entry name_order placed e.0 e.1) entries

abbrev pub in_order : {A : Type 0} → List (Name × A) → List (Name × A)
in_order entries = put_in_order [] entries

-- names with their numbers, from a number on
abbrev pub numbered_from : ℕ → List Name → List (Name × ℕ)
numbered_from k [] = []
numbered_from k (name ∷ names) = (name, k) ∷ numbered_from (k + 1) names
