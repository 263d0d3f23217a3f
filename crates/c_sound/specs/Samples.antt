-- A program that closed cases run.
use Rattle.std.specs.Prelude.{List, [], ◌∷◌}
use Rattle.c_tree.specs.Tree as tree
use Rattle.c_meaning.specs.Linking.{Program}

abbrev pub alone_without_hosts : List tree.Item → Program
alone_without_hosts unit = record { units = unit ∷ []; hosts = [] }
