-- Names of modules and of files.
use Rattle.std.specs.Prelude.{ℕ, ◌-◌, ◌==◌, ◌&&◌, Bool, true, not, List, [], ◌∷◌, ◌++◌, length, take, codes}
use Rattle.std.specs.Str.{bytes_eq}
use Rattle.std.specs.List.{after_last, before_last, list_any}
use Rattle.w2c_io.specs.Contents.{Name}

abbrev pub is_slash : ℕ → Bool
is_slash b = b == 47

abbrev pub is_dot : ℕ → Bool
is_dot b = b == 46

-- a text, or another one in place of the empty one
abbrev pub or_else : List ℕ → List ℕ → List ℕ
or_else [] other = other
or_else (b ∷ bs) other = b ∷ bs

-- a name cut before its last `.`, where that is not its first character
abbrev pub without_ending : List ℕ → List ℕ
without_ending name = or_else (before_last is_dot name) name

-- a module's name by its file's: the part of that name after its last `/`, without its ending
abbrev pub module_name_of : Name → List ℕ
module_name_of file = without_ending (after_last is_slash file)

-- the header's name, beside a C file: .h in place of .c
abbrev pub header_name_of : Name → Name
header_name_of out = take (length out - 2) out ++ codes ".h"

-- no two of the names are equal
abbrev pub are_distinct : List (List ℕ) → Bool
are_distinct [] = true
are_distinct (name ∷ names) = not (list_any (λ other. bytes_eq other name) names) && are_distinct names
