-- The first broken rule in a body and in a unit.
use Rattle.c_tree.specs.FirstBroken.{BrokenAt}
use Rattle.c_check.specs.declared.pass.Broken.{Broken}

abbrev pub broken_at : Broken → BrokenAt
broken_at b = record { item = b.item; statement = b.statement; rule = b.rule }
