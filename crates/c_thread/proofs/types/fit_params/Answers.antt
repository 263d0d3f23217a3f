use Rattle.c_thread.proofs.Common.{◌≡◌, ◌+◌, [], Some, sym, ap, ◌∙◌, arith, slice_get-get_or, value_of, nil_from_length}
use Rattle.c_thread.proofs.Params.{left, at_end, differs, none_left, passed_over, taken, wanting}
use Rattle.c_thread.proofs.types.fit_params.Goals as goal
use Rattle.c_thread.proofs.types.fit_params.Goals.{then-is_some+in-Some+else-not-is_of_type, else-is_some}

pub returns-in_default : goal.returns-in_default
returns-in_default c names =
    let at = slice_get-get_or c.args.params.now c.loop-param.param-index c.param-item.result c.loop-param-test.true
    ∙ ap Some (sym c.param-item.is) in
    let nothing : c.loop-param.rest.now ≡ [] = nil_from_length c.loop-param.rest.now c.in_default.ensures.cases in
    sym (c.loop-param.invariant names)
    ∙ ap (left (value_of names) c.args.params.now c.loop-param.param-index) nothing
    ∙ wanting (value_of names) c.args.params.now c.loop-param.param-index c.param-item.result at (sym c.if-is_some.ensures)

pub returns-then-not-is_of_type : goal.returns-then-not-is_of_type
returns-then-not-is_of_type c names =
    let at = slice_get-get_or c.args.params.now c.loop-param.param-index c.param-item.result c.loop-param-test.true
    ∙ ap Some (sym c.param-item.is) in
    sym (c.loop-param.invariant names)
    ∙ ap (left (value_of names) c.args.params.now c.loop-param.param-index) c.in-Some.ensures.cases.0
    ∙ differs (value_of names) c.args.params.now c.loop-param.param-index c.param-item.result at c.in-Some.value.now c.in-Some.behind.now
    (sym c.if-is_some.ensures) (c.if-not-is_of_type.ensures names)

pub loop-param-preserved : goal.loop-param-preserved
loop-param-preserved c names =
    let at = slice_get-get_or c.args.params.now c.loop-param.param-index c.param-item.result c.loop-param-test.true
    ∙ ap Some (sym c.param-item.is) in
    elim c.if-is_some.branch [
      | then-is_some+in-Some+else-not-is_of_type w ↦
          ap (λ b. left (value_of names) c.args.params.now (c.loop-param.param-index + 1) b.now) w.rest-is
          ∙ sym (taken (value_of names) c.args.params.now c.loop-param.param-index c.param-item.result at w.in-Some.value.now
          w.in-Some.behind.now
          (sym w.if-is_some.ensures) (w.if-not-is_of_type.ensures names))
          ∙ ap (left (value_of names) c.args.params.now c.loop-param.param-index) (sym w.in-Some.ensures.cases.0)
          ∙ c.loop-param.invariant names
      | else-is_some w ↦
          ap (λ b. left (value_of names) c.args.params.now (c.loop-param.param-index + 1) b.now) w.rest-is
          ∙ sym (passed_over (value_of names) c.args.params.now c.loop-param.param-index c.param-item.result at c.loop-param.rest.now
          (sym w.if-is_some.ensures))
          ∙ c.loop-param.invariant names
    ]

pub returns : goal.returns
returns c names =
    sym (c.loop-param.invariant names)
    ∙ at_end (value_of names) c.args.params.now c.loop-param.param-index c.loop-param.rest.now (omega (arith, c.loop-param-test.false))
    ∙ none_left (value_of names) c.loop-param.rest.now
    ∙ sym c.is_empty.ensures
