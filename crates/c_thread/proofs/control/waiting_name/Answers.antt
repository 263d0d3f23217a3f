use Rattle.c_thread.proofs.Common.{◌-◌, [], slice_get, Some, None, Option, sym, ap, ◌∙◌, number_in, names_at, stmts_at, stmts_of, target_of}
use Rattle.c_thread.proofs.Units.{items_so, no_items}
use Rattle.c_thread.proofs.control.waiting_name.Goals as goal

pub function-requires : goal.function-requires
function-requires c = c.requires c.args.frame.now.unit c.in-Some.unit.now c.in-Some.ensures

pub returns-in_default : goal.returns-in_default
returns-in_default c names p are =
    let f = c.args.frame.now in
    ap (λ items. target_of (slice_get (stmts_at items f.item) (f.at - 1)))
    (no_items names p c.args.units.now f.unit are c.in_default.ensures)

pub returns-in_default-function : goal.returns-in_default-function
returns-in_default-function c names p are =
    let f = c.args.frame.now in
    ap (λ items. target_of (slice_get (stmts_at items f.item) (f.at - 1)))
    (items_so names p c.args.units.now f.unit c.in-Some.unit.now are c.in-Some.ensures)
    ∙ ap (λ (o : Option _). target_of (slice_get (elim o [ None ↦ [] | Some item ↦ stmts_of item ])
    (f.at - 1))) c.in_default-function.ensures

pub returns-in_default-target_in : goal.returns-in_default-target_in
returns-in_default-target_in c names p are =
    let f = c.args.frame.now in
    ap (λ items. target_of (slice_get (stmts_at items f.item) (f.at - 1)))
    (items_so names p c.args.units.now f.unit c.in-Some.unit.now are c.in-Some.ensures)
    ∙ ap (λ stmts. target_of (slice_get stmts (f.at - 1))) c.in-Some-function.ensures.stmts_are
    ∙ c.in_default-target_in.ensures

pub returns : goal.returns
returns c names p are =
    let f = c.args.frame.now in
    let items = items_so names p c.args.units.now f.unit c.in-Some.unit.now are c.in-Some.ensures in (
      ap (λ items. target_of (slice_get (stmts_at items f.item) (f.at - 1))) items
          ∙ ap (λ stmts. target_of (slice_get stmts (f.at - 1))) c.in-Some-function.ensures.stmts_are
          ∙ c.in-Some-target_in.ensures,
      λ q. c.in-Some-function.ensures.locals q ∙ ap (λ items. number_in q (names_at items f.item)) (sym items),
      are.objects f.unit c.in-Some.unit.now c.in-Some.ensures,
    )
