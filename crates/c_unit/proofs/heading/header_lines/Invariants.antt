use Rattle.c_unit.proofs.Common.{◌≡◌, ◌++◌, map, drop, named_of, header_of}
use Rattle.c_unit.specs.Lines.{line_of}
use Rattle.c_unit.proofs.heading.header_lines.Given as goal

abbrev pub invariant-loop-export : goal.invariant-loop-export
invariant-loop-export l = l.lines ++ map (line_of (named_of l.indexes))
    (drop l.export-index l.indexes.tree.now.exports) ≡ (header_of l.indexes.tree.now l.indexes.name.now).lines
