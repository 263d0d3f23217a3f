-- The names of a unit's items, and of its functions' own variables, by classes.
use Rattle.std.specs.Prelude.{ℕ, Bool, ◌≢◌, List, [], ◌∷◌, if◌then◌else◌, ◌==◌}
use Rattle.std.specs.List.{AllByRecursion, list_any}
use Rattle.c_tree.specs.Scope.{Name}

abbrev pub has_underscore : Name → Bool
has_underscore name = list_any (λ c. c == 95) name

-- the table, the memory, globals, pointers, data, functions; 9 is what no item has
abbrev pub by_letter : ℕ → ℕ
by_letter c =
    if c == 116 then 1
    else (if c == 109 then 2
    else (if c == 103 then 3
    else (if c == 112 then 4
    else (if c == 100 then 5
    else (if c == 102 then 7 else 9)))))

-- 6 are symbols, 8 helpers, and 10 parts of an init function, whose second letter is `n`
abbrev pub class : Name → ℕ
class [] = 0
class (c ∷ []) = 9
class (c ∷ d ∷ rest) = if c == 119 then 6 else (if has_underscore rest then (if d == 110 then 10 else 8) else by_letter c)

abbrev pub NoneOf : ℕ → List Name → Type 0
NoneOf k names = AllByRecursion (λ name. class name ≢ k) names
