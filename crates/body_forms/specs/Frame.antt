-- What stands around the code of a body (WebAssembly Core 1.0, 4.4.7.1): a test of the depth of calls in front, and one exit behind,
-- which counts the depth down.
use Rattle.std.specs.Prelude.{Option, Some, None, List, [], ◌∷◌}
use Rattle.w2c_base.specs.declared.value.ValType.{ValType}
use Rattle.w2c_base.specs.declared.trap.TrapKind.TheVariants as trap
use Rattle.c_tree.specs.declared.tree.Num.TheVariants.{N32}
use Rattle.c_tree.specs.declared.tree.COp.{COp}
use Rattle.c_tree.specs.declared.tree.COp.TheVariants as op
use Rattle.c_tree.specs.Tree as tree
use Rattle.c_tree.specs.Runtime.{depth_name}
use Rattle.c_tree.specs.Makers as makers
use Rattle.c_tree.specs.DefinedNames.{label_name}
use Rattle.body_forms.specs.Slots.{operand}
use Rattle.body_forms.specs.Branches.{entry_label}

-- the value of a function stands in the lowest slot
abbrev pub give_back : Option ValType → tree.Stmt
give_back None = tree.ReturnNone
give_back (Some t) = tree.Return (tree.Value (operand t 0))

abbrev pub change_depth : COp → tree.Stmt
change_depth o = tree.Set depth_name (tree.Value (tree.Op o (tree.Name depth_name) (tree.Number (N32 1))))

abbrev pub depth_test : tree.Stmt
depth_test = tree.If op.Lt (tree.Name depth_name) (tree.Number (N32 1024)) (label_name entry_label)

abbrev pub head : Option ValType → List tree.Stmt
head result =
    depth_test
    ∷ makers.trap trap.Exhaustion
    ∷ give_back result
    ∷ tree.Label (label_name entry_label)
    ∷ change_depth op.Add
    ∷ []
