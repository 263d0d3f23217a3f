use Rattle.c_symbols.proofs.Common.{arith}
use Rattle.c_symbols.specs.Named.{typed_import}
use Rattle.c_symbols.proofs.Made.{as_many, symbol_at}
use Rattle.c_symbols.proofs.symbols.Symbols.imported.Goals as goal

pub index-requires : goal.index-requires
index-requires c =
    let self = c.args.self.now in
    let tree = self.indexes.tree.now in
    omega (arith, as_many (typed_import tree) self.imported.items tree.imports self.imported_are, c.requires)

pub returns : goal.returns
returns c x at =
    let self = c.args.self.now in
    let tree = self.indexes.tree.now in
    symbol_at (typed_import tree) self.imported.items tree.imports c.args.place c.index.result.now x self.imported_are c.requires
    c.index.ensures at
