use Rattle.crun_startup.proofs.Common.{option_map, ap, ◌∙◌, address_in}
use Rattle.crun_startup.proofs.CalledFound.{called_is, fits_some, some_seen}
use Rattle.crun_startup.proofs.called.called_function.Goals as goal

pub returns-clause-meaning : goal.returns-clause-meaning
returns-clause-meaning c names p args are =
    ap (option_map (address_in names)) c.seen_item.ensures ∙ called_is names p c.args.symbols.now are c.args.symbol.now args

pub returns-clause-defined : goal.returns-clause-defined
returns-clause-defined c = some_seen c.args.symbols.now c.args.symbol.now c.seen_item.result c.seen_item.ensures

pub returns-clause-fits : goal.returns-clause-fits
returns-clause-fits c names p args are fit =
    fits_some names p c.args.symbols.now are c.args.symbol.now args c.seen_item.result c.seen_item.ensures fit
