use Rattle.c_machine.proofs.Common.{◌≡◌, map, drop, named, entry_of}
use Rattle.c_machine.proofs.numbered_names.number_among.Given as goal

abbrev pub invariant-loop-one : goal.invariant-loop-one
invariant-loop-one l = named l.name (map entry_of (drop l.one-index l.names)) ≡ named l.name (map entry_of l.names)
