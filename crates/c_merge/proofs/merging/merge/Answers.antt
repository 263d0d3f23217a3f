use Rattle.c_merge.proofs.Common.{map, ap, ◌∙◌, unit_of}
use Rattle.c_merge.proofs.AsUnits.{runs_as_units}
use Rattle.c_merge.proofs.Result.{is_formed, is_kept, is_merged}
use Rattle.c_merge.proofs.merging.merge.Goals as goal

pub known-requires-clause-formed : goal.known-requires-clause-formed
known-requires-clause-formed c =
    is_formed (map unit_of c.args.linked.now.0) (unit_of c.in_ok-one.one) c.in_ok-one.ensures c.units.ensures.checked

pub known-requires-clause-kept : goal.known-requires-clause-kept
known-requires-clause-kept c =
    is_kept (map unit_of c.args.linked.now.0) (unit_of c.in_ok-one.one) c.in_ok-one.ensures c.units.ensures.checked
    c.args.linked.now.1 c.units.ensures.resolved

pub returns-clause-merged : goal.returns-clause-merged
returns-clause-merged c =
    ap unit_of c.in_ok-checked.ensures ∙ is_merged (map unit_of c.args.linked.now.0) (unit_of c.in_ok-one.one) c.in_ok-one.ensures

pub returns-clause-runs : goal.returns-clause-runs
returns-clause-runs c =
    runs_as_units (map unit_of c.args.linked.now.0) c.units.ensures.checked c.args.linked.now.1 c.units.ensures.resolved
    (unit_of c.in_ok-checked.checked)
    (ap unit_of c.in_ok-checked.ensures ∙ is_merged (map unit_of c.args.linked.now.0) (unit_of c.in_ok-one.one) c.in_ok-one.ensures)
