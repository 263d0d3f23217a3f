use Rattle.c_symbols.proofs.Common.{length, ap, ◌∙◌, arith, is_func_import, is_global_import, is_memory_import, is_table_import, named_of}
use Rattle.c_symbols.proofs.Common.{pair_of}
use Rattle.c_symbols.proofs.Made.{stands_there, usable_here}
use Rattle.c_symbols.proofs.Reaches.{reaches_next, reaches_all}
use Rattle.c_symbols.proofs.reached.Reached.new.Goals as goal

pub imported-requires : goal.imported-requires
imported-requires c = omega (arith, c.loop-place-test.true, ap length c.as_slice-imports.ensures)

pub loop-place-preserved : goal.loop-place-preserved
loop-place-preserved c =
    let m = named_of c.args.symbols.now.indexes in
    let items = c.as_slice-imports.result.now in
    let i = c.loop-place.place in
    let x = c.index-imports-place.result in
    let same = c.as_slice-imports.ensures in
    let there = stands_there m.tree.imports items i x same c.loop-place-test.true c.index-imports-place.is in
    let name = c.in_ok-name.name in
    let named = c.in_ok-name.ensures ∙ usable_here m (pair_of c.imported.result.now) x (c.imported.ensures x there) in
    record {
      funcs = reaches_next m is_func_import c.loop-place.reached.funcs.items c.enter.new.self.funcs.items name items i x same
          c.loop-place-test.true c.index-imports-place.is named c.in_ok-enter.ensures.funcs c.loop-place.invariant.funcs;
      tables = reaches_next m is_table_import c.loop-place.reached.tables.items c.enter.new.self.tables.items name items i x same
          c.loop-place-test.true c.index-imports-place.is named c.in_ok-enter.ensures.tables c.loop-place.invariant.tables;
      memories = reaches_next m is_memory_import c.loop-place.reached.memories.items c.enter.new.self.memories.items name items i x same
          c.loop-place-test.true c.index-imports-place.is named c.in_ok-enter.ensures.memories c.loop-place.invariant.memories;
      globals = reaches_next m is_global_import c.loop-place.reached.globals.items c.enter.new.self.globals.items name items i x same
          c.loop-place-test.true c.index-imports-place.is named c.in_ok-enter.ensures.globals c.loop-place.invariant.globals;
    }

pub returns : goal.returns
returns c = record {
  funcs = reaches_all (named_of c.args.symbols.now.indexes) is_func_import c.loop-place.reached.funcs.items
      c.as_slice-imports.result.now c.loop-place.place c.as_slice-imports.ensures c.loop-place-test.false
      c.loop-place.invariant.funcs;
  tables = reaches_all (named_of c.args.symbols.now.indexes) is_table_import c.loop-place.reached.tables.items
      c.as_slice-imports.result.now c.loop-place.place c.as_slice-imports.ensures c.loop-place-test.false
      c.loop-place.invariant.tables;
  memories = reaches_all (named_of c.args.symbols.now.indexes) is_memory_import c.loop-place.reached.memories.items
      c.as_slice-imports.result.now c.loop-place.place c.as_slice-imports.ensures c.loop-place-test.false
      c.loop-place.invariant.memories;
  globals = reaches_all (named_of c.args.symbols.now.indexes) is_global_import c.loop-place.reached.globals.items
      c.as_slice-imports.result.now c.loop-place.place c.as_slice-imports.ensures c.loop-place-test.false
      c.loop-place.invariant.globals;
}
