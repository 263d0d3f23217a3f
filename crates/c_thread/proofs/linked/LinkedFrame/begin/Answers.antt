use Rattle.c_thread.proofs.Common.{◌≡◌, true, false, map, sym, ap, ◌∙◌, unit_of, are_of_types, param_types, value_of, behind_params}
use Rattle.c_thread.proofs.Begins.{begins, begins_without, begins_otherwise}
use Rattle.c_thread.proofs.Units.{items_so}
use Rattle.c_thread.proofs.linked.LinkedFrame.begin.Goals as goal

pub returns-then-not-fit_params : goal.returns-then-not-fit_params
returns-then-not-fit_params c names p m below are =
    let own = items_so names p c.args.units.now c.args.unit c.in-Some.own.now are c.in-Some.ensures in
    let params = ap (λ ps. are_of_types (param_types ps) (map (value_of names) c.args.values.items)) c.as_slice.ensures in
    let values = ap (λ vs. are_of_types (param_types c.as_slice.result.now) (map (value_of names) vs)) c.as_slice-2.ensures.value in
    begins_otherwise names p (unit_of c.in-Some.own.now.items.value) c.args.unit c.args.item own c.args.values.items m below _
    (sym c.in-Some-definition.ensures) (sym params ∙ sym values ∙ c.fit_params.ensures names ∙ c.if-not-fit_params.true)

pub returns-in-Some-2 : goal.returns-in-Some-2
returns-in-Some-2 c names p m below are =
    let own = items_so names p c.args.units.now c.args.unit c.in-Some.own.now are c.in-Some.ensures in
    let params = ap (λ ps. are_of_types (param_types ps) (map (value_of names) c.args.values.items)) c.as_slice.ensures in
    let values = ap (λ vs. are_of_types (param_types c.as_slice.result.now) (map (value_of names) vs)) c.as_slice-2.ensures.value in
    let fits = sym params ∙ sym values ∙ c.fit_params.ensures names ∙ c.if-not-fit_params.false in
    let all =
    behind_params (value_of names) (λ vs. vs.items) c.in-Some-definition.f.now.params c.args.values.items _ _ _ _
    c.as_slice-3.ensures c.in-Some-2.is fits (c.in_ok-values.ensures names) in
    begins names p (unit_of c.in-Some.own.now.items.value) c.args.unit c.args.item own c.args.values.items m below _
    (sym c.in-Some-definition.ensures) c.in-Some-2.values.items fits all

pub returns-in-None : goal.returns-in-None
returns-in-None c names p m below are =
    let own = items_so names p c.args.units.now c.args.unit c.in-Some.own.now are c.in-Some.ensures in
    let params = ap (λ ps. are_of_types (param_types ps) (map (value_of names) c.args.values.items)) c.as_slice.ensures in
    let values = ap (λ vs. are_of_types (param_types c.as_slice.result.now) (map (value_of names) vs)) c.as_slice-2.ensures.value in
    let fits = sym params ∙ sym values ∙ c.fit_params.ensures names ∙ c.if-not-fit_params.false in
    let all =
    behind_params (value_of names) (λ vs. vs.items) c.in-Some-definition.f.now.params c.args.values.items _ _ _ _
    c.as_slice-3.ensures c.in-None.is fits (c.in_ok-values.ensures names) in
    begins_without names p (unit_of c.in-Some.own.now.items.value) c.args.unit c.args.item own c.args.values.items m below _
    (sym c.in-Some-definition.ensures) fits all
