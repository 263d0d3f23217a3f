use Rattle.crun_lines.proofs.Common.{◌≡◌, ◌++◌, map, drop, All, keys_of, in_order, numbered_from, put_in_order, entry_of, texts}
use Rattle.crun_lines.proofs.Placing.{TellsLength, shown}
use Rattle.crun_lines.proofs.names.names_in_order.Given as goal

abbrev pub invariant-loop-number : goal.invariant-loop-number
invariant-loop-number l = record {
  lengths : All TellsLength (keys_of l.places.entries);
  placed : put_in_order (map shown l.places.entries) (numbered_from l.number (texts (drop l.number l.names)))
      ≡ in_order (numbered_from 0 (texts l.names));
}

abbrev pub invariant-loop-key : goal.invariant-loop-key
invariant-loop-key l = map entry_of l.order.items ++ map shown l.key-iterator ≡ in_order (numbered_from 0 (texts l.names))
