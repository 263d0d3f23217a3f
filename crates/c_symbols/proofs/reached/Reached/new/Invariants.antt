use Rattle.c_symbols.proofs.Common.{is_func_import, is_global_import, is_memory_import, is_table_import, named_of}
use Rattle.c_symbols.proofs.Reaches.{ReachesSoFar}
use Rattle.c_symbols.proofs.reached.Reached.new.Given as goal

abbrev pub invariant-loop-place : goal.invariant-loop-place
invariant-loop-place l = record {
  funcs : ReachesSoFar (named_of l.symbols.indexes) is_func_import l.reached.funcs.items l.place;
  tables : ReachesSoFar (named_of l.symbols.indexes) is_table_import l.reached.tables.items l.place;
  memories : ReachesSoFar (named_of l.symbols.indexes) is_memory_import l.reached.memories.items l.place;
  globals : ReachesSoFar (named_of l.symbols.indexes) is_global_import l.reached.globals.items l.place;
}
