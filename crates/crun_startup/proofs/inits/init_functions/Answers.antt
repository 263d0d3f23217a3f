use Rattle.crun_startup.proofs.Common.{[], ◌++◌, map, flat_map, sym, ap, ◌∙◌, append-nil, numbered_at, seen_at, numbered, unit_of}
use Rattle.crun_startup.proofs.Common.{unit_inits}
use Rattle.crun_startup.proofs.Collected.{flats, gathered_next}
use Rattle.crun_startup.proofs.InitsFound.{found_all, found_defined, found_mean}
use Rattle.crun_startup.proofs.inits.init_functions.Goals as goal

pub loop-unit-preserved : goal.loop-unit-preserved
loop-unit-preserved c =
    let units = map unit_of c.args.linked.now.0 in
    let items = unit_of c.unit.result.now in
    let u = c.loop-unit.unit in
    gathered_next (flat_map unit_inits) (flats unit_inits) (numbered units) [] _ _ u (u, items)
    (numbered_at units u items (seen_at unit_of c.args.linked.now.0 u _ c.unit.ensures))
    (c.in_ok-put_unit.ensures ∙ ap (λ l. c.loop-unit.found.items ++ l)
    (ap (λ xs. unit_inits (u, unit_of xs)) (c.as_slice.ensures ∙ c.unit-in-loop-unit.ensures.unit) ∙ sym (append-nil _)))
    c.loop-unit.invariant

pub returns-clause-items : goal.returns-clause-items
returns-clause-items c =
    found_all c.args.linked.now.0 c.loop-unit.found.items c.unit_count-unit-end.result c.loop-unit.unit c.unit_count-unit-end.ensures.count
    c.loop-unit-test.false c.loop-unit.invariant

pub returns-clause-meaning : goal.returns-clause-meaning
returns-clause-meaning c p are =
    found_mean c.args.linked.now.0 c.loop-unit.found.items c.unit_count-unit-end.result c.loop-unit.unit c.unit_count-unit-end.ensures.count
    c.loop-unit-test.false c.loop-unit.invariant p are

pub returns-clause-defined : goal.returns-clause-defined
returns-clause-defined c p are k f at =
    found_defined c.args.linked.now.0 c.loop-unit.found.items c.unit_count-unit-end.result c.loop-unit.unit
    c.unit_count-unit-end.ensures.count c.loop-unit-test.false c.loop-unit.invariant p are k f at
