use Rattle.c_unit.proofs.Common.{◌≡◌, ◌-◌, ◌<◌, ◌≤◌, length, IfOk, slice_get, option_map, ap, ◌∙◌, subst, arith, Function}
use Rattle.c_unit.proofs.Common.{module_of, from_exports, Some}
use Rattle.c_unit.proofs.Standing.{func_there, func_past}
use Rattle.packed_stmts.specs.PackedItems.{packed_item_of}
use Rattle.c_unit.proofs.unit_items.UnitItems.at_bodies.Goals as goal

pub returns-in_ok-body : goal.returns-in_ok-body
returns-in_ok-body c =
    let less : c.args.n < length c.args.self.now.source.tree.now.funcs = omega (arith, c.len-count.ensures, c.if-n-count.true) in
    ap (λ f. Some (Function f)) c.in_ok-body.ensures
    ∙ func_there (module_of c.args.self.now.source) Function (from_exports (module_of c.args.self.now.source)) c.args.n less

pub returns-else-n-count : goal.returns-else-n-count
returns-else-n-count c =
    let past : length c.args.self.now.source.tree.now.funcs ≤ c.args.n = omega (arith, c.len-count.ensures, c.if-n-count.false) in
    subst (λ there. IfOk c.at_exports.result (λ item. option_map packed_item_of item ≡ there))
    (ap (λ k. slice_get (from_exports (module_of c.args.self.now.source)) k)
    (c.saturating_sub.ensures ∙ ap (λ k. c.args.n - k) c.len-count.ensures)
    ∙ func_past (module_of c.args.self.now.source) Function (from_exports (module_of c.args.self.now.source)) c.args.n past)
    c.at_exports.ensures
