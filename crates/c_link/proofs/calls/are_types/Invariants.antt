use Rattle.c_link.proofs.Common.{◌≡◌, length, drop, list_all, is_number}
use Rattle.c_link.proofs.Arguments.{Agree}
use Rattle.c_link.proofs.calls.are_types.Given as goal

abbrev pub invariant-loop-i : goal.invariant-loop-i
invariant-loop-i l = record {
  length : length l.params ≡ length l.args;
  types : Agree l.i l.params l.args;
  numbers : list_all is_number (drop l.i l.args) ≡ list_all is_number l.args;
}
