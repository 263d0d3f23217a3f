use Rattle.crun_startup.proofs.Common.{◌≡◌, map, take, Some, Enters, func_in, name_in}
use Rattle.crun_startup.proofs.symbols.numbered.Given as goal

abbrev pub invariant-loop-i : goal.invariant-loop-i
invariant-loop-i l = Enters l.numbers l.i (map Some (map name_in l.seen)) × (l.funcs.items ≡ take l.i (map func_in l.seen))
