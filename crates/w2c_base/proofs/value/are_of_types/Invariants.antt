use Rattle.std.proofs.Common.{◌≡◌, drop, length}
use Rattle.std.specs.List.{list_all}
use Rattle.w2c_base.specs.Values.{equal_types, is_number, types_of}
use Rattle.w2c_base.proofs.value.are_of_types.Given as goal

abbrev pub invariant-loop-i : goal.invariant-loop-i
invariant-loop-i l = record {
  length : length l.types ≡ length l.values;
  types : equal_types (drop l.i l.types) (types_of (drop l.i l.values)) ≡ equal_types l.types (types_of l.values);
  numbers : list_all is_number (drop l.i l.values) ≡ list_all is_number l.values;
}
