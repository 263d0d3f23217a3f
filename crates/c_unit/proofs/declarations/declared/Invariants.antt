use Rattle.c_unit.proofs.Common.{map, drop, named_of, pair_of}
use Rattle.c_unit.proofs.SeenNames.{DeclaresSoFar}
use Rattle.c_unit.proofs.declarations.declared.Given as goal

abbrev pub invariant-loop-place : goal.invariant-loop-place
invariant-loop-place l =
    DeclaresSoFar (named_of l.symbols.indexes) l.seen (map pair_of l.list.items) (drop l.place l.symbols.indexes.tree.now.imports)
