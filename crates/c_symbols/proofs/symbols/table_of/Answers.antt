use Rattle.c_symbols.proofs.Founds.{both}
use Rattle.c_symbols.proofs.symbols.table_of.Goals as goal

pub returns : goal.returns
returns c =
    both c.new-table.result c.enter_all.new.table c.enter_all-2.new.table _ _ c.new-table.ensures c.in_ok-enter_all.ensures
    c.in_ok-enter_all-2.ensures
