-- What a translation in the program has made.
use Rattle.std.specs.Prelude.{reverse}
use Rattle.body_emitter.specs.declared.emitter.Emitter.{Emitter}
use Rattle.body_emitter.specs.Made.{Made}
use Rattle.packed_stmts.specs.Listed.{listed}
use Rattle.body_emitter.specs.Shown.{types_of}

abbrev pub made_by : Emitter → Made
made_by e = record {
  stmts = listed e.stmts;
  types = types_of e.operands;
  marks = e.operands.marks.items;
  blocks = reverse e.blocks.items;
  labels = e.labels;
  is_dead = e.is_dead;
  returns = e.returns;
  is_indirect = e.is_indirect;
}
