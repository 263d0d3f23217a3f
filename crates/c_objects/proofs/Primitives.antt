-- What the primitive of a name does.
use Rattle.c_objects.proofs.Common.{◌≡◌, map, option_map, Name, named}
use Rattle.c_tree.specs.Primitives.{all_primitives, by_name}
use Rattle.c_tree.proofs.Primitives.{named_each}
use Rattle.c_meaning.specs.Primitives.{primitive}
use Rattle.c_objects.specs.Calls.{meaning_of}

pub meant : (name : Name) → option_map meaning_of (named name (map by_name all_primitives)) ≡ primitive name
meant name = named_each meaning_of name all_primitives
