-- What a file scope declares.
use Rattle.std.specs.Prelude.{List, map, take}
use Rattle.c_scope.specs.declared.file_scope.FileScope.{FileScope}
use Rattle.c_tree.specs.Tree as tree
use Rattle.c_tree.specs.View.{item_of}

abbrev pub declared : FileScope → List tree.Item
declared f = take f.count (map item_of f.items.now)
