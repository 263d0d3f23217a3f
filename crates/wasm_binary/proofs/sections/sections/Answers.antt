use Rattle.wasm_binary.proofs.Common.{sym, ◌∙◌, err_from_is_err_and, all_sections_at, id_of_heading, at}
use Rattle.wasm_binary.proofs.SectionLoop.{goes_on, smaller, is_done, id_stops, section_stops}
use Rattle.wasm_binary.proofs.sections.sections.Goals as goal

pub returns-in_err-heading : goal.returns-in_err-heading
returns-in_err-heading c =
    let l = c.loop-heading in
    let p = err_from_is_err_and c.from_residual.result c.from_residual.ensures.1 in
    rw (p.1, p.2) (id_stops l.«module» (at l.ahead) c.in_err-heading.field-0.0
    (all_sections_at c.args.«module».now (at c.args.rest)) c.in_err-heading.ensures l.invariant)

pub returns-then-is_end : goal.returns-then-is_end
returns-then-is_end c =
    let l = c.loop-heading in
    is_done l.«module» (at l.ahead) (id_of_heading c.in_ok-heading.heading) (at c.in_ok-heading.after)
    (all_sections_at c.args.«module».now (at c.args.rest)) c.in_ok-heading.ensures (sym c.is_end.ensures ∙ c.if-is_end.true) l.invariant

pub returns-in_err-ahead : goal.returns-in_err-ahead
returns-in_err-ahead c =
    let l = c.loop-heading in
    let p = err_from_is_err_and c.from_residual-in_err-ahead.result c.from_residual-in_err-ahead.ensures.1 in
    rw (p.1, p.2) (section_stops l.«module» (at l.ahead) (id_of_heading c.in_ok-heading.heading)
    (at c.in_ok-heading.after) c.in_err-ahead.field-0.0 (all_sections_at c.args.«module».now (at c.args.rest)) c.in_ok-heading.ensures
    (sym c.is_end.ensures ∙ c.if-is_end.false) c.in_err-ahead.ensures l.invariant)

pub loop-heading-smaller : goal.loop-heading-smaller
loop-heading-smaller c =
    let l = c.loop-heading in
    smaller l.«module» (at l.ahead) (id_of_heading c.in_ok-heading.heading) (at c.in_ok-heading.after) c.section.new.«module»
    (at c.in_ok-ahead.ahead) c.in_ok-heading.ensures (sym c.is_end.ensures ∙ c.if-is_end.false) c.in_ok-ahead.ensures

pub loop-heading-preserved : goal.loop-heading-preserved
loop-heading-preserved c =
    let l = c.loop-heading in
    goes_on l.«module» (at l.ahead) (id_of_heading c.in_ok-heading.heading) (at c.in_ok-heading.after) c.section.new.«module»
    (at c.in_ok-ahead.ahead) (all_sections_at c.args.«module».now (at c.args.rest)) c.in_ok-heading.ensures
    (sym c.is_end.ensures ∙ c.if-is_end.false) c.in_ok-ahead.ensures l.invariant
