-- Lists of which each item is to give something.
use Rattle.std.specs.Prelude.{List, [], ◌∷◌, Bool, not, is_some, Option, Some, option_map, option_and_then}

-- what the items give, in order; nothing where one of them gives nothing
abbrev pub all_given : {A B : Type 0} → (A → Option B) → List A → Option (List B)
all_given f [] = Some []
all_given f (x ∷ xs) = option_and_then (λ y. option_map (λ ys. y ∷ ys) (all_given f xs)) (f x)

-- an item gives nothing
abbrev pub gives_nothing : {A B : Type 0} → (A → Option B) → A → Bool
gives_nothing f x = not (is_some (f x))
