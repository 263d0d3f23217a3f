use Rattle.wast_run.proofs.Common.{map, unit_of}
use Rattle.wast_run.proofs.JoinedUnits.{not_twice, not_unlike, not_unresolved}
use Rattle.wast_run.proofs.module_units.linked_alone.Goals as goal

pub unreachable-requires : goal.unreachable-requires
unreachable-requires c =
    not_unresolved (map unit_of c.args.units.items) c.requires c.in-Err-Undefined.field-0 c.in-Err-Undefined.ensures.refused
    c.in-Err-Undefined.field-0-0 c.in-Err-Undefined.field-0-1 c.in-Err-Undefined.field-0-is

pub unreachable-requires-in-Err-Twice : goal.unreachable-requires-in-Err-Twice
unreachable-requires-in-Err-Twice c =
    not_twice (map unit_of c.args.units.items) c.requires c.in-Err-Twice.field-0 c.in-Err-Twice.ensures.refused
    c.in-Err-Twice.field-0-0 c.in-Err-Twice.field-0-1 c.in-Err-Twice.field-0-is

pub unreachable-requires-in-Err-TypeDiffers : goal.unreachable-requires-in-Err-TypeDiffers
unreachable-requires-in-Err-TypeDiffers c =
    not_unlike (map unit_of c.args.units.items) c.requires c.in-Err-TypeDiffers.field-0 c.in-Err-TypeDiffers.ensures.refused
    c.in-Err-TypeDiffers.field-0-0 c.in-Err-TypeDiffers.field-0-1 c.in-Err-TypeDiffers.field-0-is
