use Rattle.c_link.proofs.Common.{◌≡◌, ◌<◌, map, length, slice_get, Some, flat_map, sym, ap, ◌∙◌, subst, take_all, length-map, option_or}
use Rattle.c_link.proofs.Common.{numbered_at, mapped_at, named, numbered, unit_of, external_functions, first, twice, c_symbols, told}
use Rattle.c_link.proofs.Common.{unit_offers, IsRefusal, types_in}
use Rattle.c_link.proofs.FirstRefusal.{twice_in, twice_units}
use Rattle.c_link.proofs.Walks.{left_first, left_more, refused, units_end}
use Rattle.c_link.proofs.Tables.{all_taken, holds_as, holds_more, unit_added}
use Rattle.c_link.proofs.Rules.{keep_next}
use Rattle.c_link.proofs.Finders.{twice_found}
use Rattle.c_link.proofs.passes.define_all.Goals as goal

pub returns-in-Err-clause-first : goal.returns-in-Err-clause-first
returns-in-Err-clause-first c =
    let units = map unit_of c.args.units.now in
    let symbols = c_symbols c.args.hosts.now in
    let u = c.loop-u.u in
    let unit = c.index-units-u.result in
    let at : slice_get units u ≡ Some (unit_of unit) = mapped_at unit_of c.args.units.now u unit c.loop-u-test.true c.index-units-u.is in
    subst (IsRefusal c.in-Err.refusal) (sym (twice_units units symbols))
    (refused c.in-Err.refusal _ _ _ (left_first (twice_in units symbols) (numbered units) u (u, unit_of unit) (numbered_at units u
    (unit_of unit) at) c.loop-u.invariant.1)
    (subst (IsRefusal c.in-Err.refusal) (twice_found c.loop-u.table units symbols u (unit_of unit) c.loop-u.invariant.0)
    (rw (c.as_slice-items.ensures ∙ c.unit.ensures.unit) at c.in-Err.ensures.first)))

pub loop-u-preserved : goal.loop-u-preserved
loop-u-preserved c =
    let units = map unit_of c.args.units.now in
    let symbols = c_symbols c.args.hosts.now in
    let u = c.loop-u.u in
    let unit = c.index-units-u.result in
    let same = c.as_slice-items.ensures ∙ c.unit.ensures.unit in
    let at : slice_get units u ≡ Some (unit_of unit) = mapped_at unit_of c.args.units.now u unit c.loop-u-test.true c.index-units-u.is in
    let less : u < length units = rw length-map c.loop-u-test.true in (
      holds_as c.in_ok-table-in-Ok.table _ _ (unit_added units symbols u (unit_of unit) less at)
          (holds_more c.loop-u.table c.in_ok-table-in-Ok.table _ (unit_offers (u, unit_of unit)) c.loop-u.invariant.0
          (λ q. c.in_ok-table-in-Ok.ensures q ∙ ap (λ items. option_or (told (named q c.loop-u.table)) (named q (unit_offers
          (u, unit_of items)))) same)),
      left_more (twice_in units symbols) (numbered units) u (u, unit_of unit) (numbered_at units u (unit_of unit) at)
          (sym (twice_found c.loop-u.table units symbols u (unit_of unit) c.loop-u.invariant.0)
          ∙ ap (λ items. first (flat_map (twice (types_in c.loop-u.table) u) (external_functions (unit_of items)))) (sym same)
          ∙ c.in-Ok.ensures.once) c.loop-u.invariant.1,
      keep_next units u (unit_of unit) at c.loop-u.invariant.2 (c.unit.ensures.formed, c.unit.ensures.kept),
    )

pub returns-clause-table : goal.returns-clause-table
returns-clause-table c =
    holds_as c.loop-u.table _ _ (sym (all_taken (map unit_of c.args.units.now) (c_symbols c.args.hosts.now) c.loop-u.u
    (rw length-map c.loop-u-test.false))) c.loop-u.invariant.0

pub returns-clause-once : goal.returns-clause-once
returns-clause-once c =
    twice_units (map unit_of c.args.units.now) (c_symbols c.args.hosts.now)
    ∙ units_end unit_of (twice_in (map unit_of c.args.units.now) (c_symbols c.args.hosts.now)) c.args.units.now c.loop-u.u
    c.loop-u-test.false c.loop-u.invariant.1

pub returns-clause-kept : goal.returns-clause-kept
returns-clause-kept c = rw (take_all c.loop-u.u (map unit_of c.args.units.now) (rw length-map c.loop-u-test.false)) at c.loop-u.invariant.2
