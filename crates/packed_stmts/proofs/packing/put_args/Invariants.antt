use Rattle.packed_stmts.proofs.Common.{◌≡◌, ◌++◌, map, length, take}
use Rattle.std.specs.Prelude.{flat_map}
use Rattle.c_tree.specs.View.{arg_of}
use Rattle.packed_stmts.specs.Packed.{size_code, arg_code}
use Rattle.packed_stmts.proofs.packing.put_args.Given as goal

abbrev pub invariant-loop-arg : goal.invariant-loop-arg
invariant-loop-arg l =
    l.bytes ≡ l.fn.bytes ++ (size_code (length l.args) ++ flat_map arg_code (map arg_of (take l.arg-index l.args)))
