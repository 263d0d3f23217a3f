use Rattle.c_symbols.proofs.Common.{map, drop, pair_of}
use Rattle.c_symbols.proofs.Founds.{Enters}
use Rattle.c_symbols.proofs.symbols.enter_all.Given as goal

-- what was entered, and behind it the symbols to come, is the whole
abbrev pub invariant-loop-symbol : goal.invariant-loop-symbol
invariant-loop-symbol l = Enters l.table l.fn.table (map pair_of (drop l.symbol-index l.symbols)) (map pair_of l.symbols)
