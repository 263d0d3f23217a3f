use Rattle.c_symbols.proofs.Common.{refl, pair_of}
use Rattle.c_symbols.proofs.Founds.{enters_next, enters_end}
use Rattle.c_symbols.proofs.symbols.enter_all.Goals as goal

pub loop-symbol-preserved : goal.loop-symbol-preserved
loop-symbol-preserved c =
    enters_next pair_of c.enter.new.table c.loop-symbol.table c.args.table.now _ c.args.symbols.now c.args.symbols.now
    c.loop-symbol.symbol-index c.symbol-item.result _ refl c.loop-symbol-test.true c.symbol-item.is refl c.in_ok-enter.ensures
    c.loop-symbol.invariant

pub returns : goal.returns
returns c =
    enters_end pair_of c.loop-symbol.table c.args.table.now _ c.args.symbols.now c.args.symbols.now c.loop-symbol.symbol-index refl
    c.loop-symbol-test.false c.loop-symbol.invariant
