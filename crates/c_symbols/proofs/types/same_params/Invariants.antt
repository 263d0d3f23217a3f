use Rattle.c_symbols.proofs.Common.{◌≡◌, map, drop, same_types, c_type_of}
use Rattle.c_symbols.proofs.types.same_params.Given as goal

-- what is left decides
abbrev pub invariant-loop-i : goal.invariant-loop-i
invariant-loop-i l = same_types (map c_type_of (drop l.i l.ones)) (map c_type_of (drop l.i l.others)) ≡ same_types
    (map c_type_of l.ones) (map c_type_of l.others)
