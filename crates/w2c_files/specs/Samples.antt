-- Two files, written by hand, of which closed cases say what stands.
use Rattle.std.specs.Prelude.{ℕ, List, [], ◌∷◌, codes}
use Rattle.w2c_io.specs.Contents.{Name}

abbrev pub two_files : List (Name × List ℕ)
two_files = (codes "a", 1 ∷ 2 ∷ []) ∷ (codes "b", 3 ∷ 4 ∷ []) ∷ []
