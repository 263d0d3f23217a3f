use Rattle.c_read.proofs.Whole.{is_read, read_spelled, read_fault, read_complete, not_too_long}
use Rattle.c_read.proofs.unit.read_unit.Goals as goal

pub returns-clause-only_long : goal.returns-clause-only_long
returns-clause-only_long c e =
    absurd (not_too_long c.args.bytes.now c.unit.result
    (is_read c.unit.result c.unit.new.cursor c.new-cursor.ensures c.unit.ensures.reads) e)

pub returns-clause-spelled : goal.returns-clause-spelled
returns-clause-spelled c =
    read_spelled c.args.bytes.now c.unit.result (is_read c.unit.result c.unit.new.cursor c.new-cursor.ensures c.unit.ensures.reads)

pub returns-clause-complete : goal.returns-clause-complete
returns-clause-complete c u spells short =
    read_complete c.args.bytes.now c.unit.result
    (is_read c.unit.result c.unit.new.cursor c.new-cursor.ensures c.unit.ensures.reads) u spells

pub returns-clause-fault : goal.returns-clause-fault
returns-clause-fault c short =
    read_fault c.args.bytes.now c.unit.result (is_read c.unit.result c.unit.new.cursor c.new-cursor.ensures c.unit.ensures.reads)
