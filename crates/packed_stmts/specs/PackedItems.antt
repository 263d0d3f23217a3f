-- The functions and items that values with packed statements stand for.
use Rattle.std.specs.Prelude.{Option, Some, None}
use Rattle.c_tree.specs.Tree as tree
use Rattle.c_tree.specs.View.{func_of, item_of}
use Rattle.packed_stmts.specs.declared.items.PackedBody.{PackedBody}
use Rattle.packed_stmts.specs.declared.items.PackedFunc.{PackedFunc}
use Rattle.packed_stmts.specs.declared.items.PackedItem.{PackedItem}
use Rattle.packed_stmts.specs.declared.items.PackedItem.TheVariants as packed
use Rattle.packed_stmts.specs.Listed.{left}

abbrev pub packed_body_of : PackedBody → tree.Body
packed_body_of b = record { locals = b.locals; stmts = left b.stmts }

abbrev pub maybe_packed_body_of : Option PackedBody → Option tree.Body
maybe_packed_body_of None = None
maybe_packed_body_of (Some b) = Some (packed_body_of b)

-- what stands in front of the body, and the body
abbrev pub packed_func_of : PackedFunc → tree.Func
packed_func_of f = record (func_of f.head) { body = maybe_packed_body_of f.body }

abbrev pub packed_item_of : PackedItem → tree.Item
packed_item_of (packed.Whole item) = item_of item
packed_item_of (packed.Func f) = tree.Function (packed_func_of f)
