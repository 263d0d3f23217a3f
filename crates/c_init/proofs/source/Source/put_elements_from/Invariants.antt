use Rattle.c_init.proofs.Common.{◌≡◌, ◌++◌, drop, map, stmt_of}
use Rattle.std.proofs.Common.{take}
use Rattle.c_init.specs.Init.{most, write_one}
use Rattle.c_init.specs.Portions.{elements_behind}
use Rattle.c_init.proofs.source.Source.put_elements_from.Given as goal

-- what is put, and what will be
abbrev pub invariant-loop-segment : goal.invariant-loop-segment
invariant-loop-segment l =
    map stmt_of l.stmts ++ map (write_one l.self.tree.now) (take l.left (elements_behind l.start (drop l.segment-index l.segments)))
    ≡ map stmt_of l.fn.stmts ++ map (write_one l.self.tree.now) (take most (elements_behind l.number l.segments))
