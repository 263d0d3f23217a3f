use Rattle.c_tree.proofs.Common.{◌≡◌, ◌++◌, map, drop, c_type_of}
use Rattle.c_tree.proofs.types_in_c.c_types.Given as goal

abbrev pub invariant-loop-ty : goal.invariant-loop-ty
invariant-loop-ty l = l.out ++ map c_type_of (drop l.ty-index l.types) ≡ map c_type_of l.types
