use Rattle.c_symbols.proofs.Common.{arith, named_of}
use Rattle.c_symbols.specs.Named.{typed_export}
use Rattle.c_symbols.proofs.Made.{as_many, symbol_at}
use Rattle.c_symbols.proofs.symbols.Symbols.exported.Goals as goal

pub index-requires : goal.index-requires
index-requires c =
    let self = c.args.self.now in
    let exports = self.indexes.tree.now.exports in
    omega (arith, as_many (typed_export (named_of self.indexes)) self.exported.items exports self.exported_are, c.requires)

pub returns : goal.returns
returns c x at =
    let self = c.args.self.now in
    let exports = self.indexes.tree.now.exports in
    symbol_at (typed_export (named_of self.indexes)) self.exported.items exports c.args.place c.index.result.now x self.exported_are
    c.requires c.index.ensures at
