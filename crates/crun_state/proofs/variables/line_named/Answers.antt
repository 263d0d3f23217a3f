use Rattle.crun_state.proofs.Common.{option_copied, sym, ap, ◌∙◌, line_as, held_lines}
use Rattle.crun_state.proofs.Numbers.{found_named}
use Rattle.crun_state.proofs.variables.line_named.Goals as goal

pub returns-in-Some : goal.returns-in-Some
returns-in-Some c =
    line_as c.held_line.result _ _
    (found_named (held_lines c.args.unit) c.args.own.now.vars.items _ c.args.names.now c.args.k _ _ c.requires.there
    (sym (ap option_copied c.in-Some.is) ∙ c.at.ensures) c.as_slice.ensures.value)
    c.held_line.ensures

pub returns-in-None : goal.returns-in-None
returns-in-None c =
    c.new.ensures
    ∙ found_named (held_lines c.args.unit) c.args.own.now.vars.items _ c.args.names.now c.args.k _ _ c.requires.there
    (sym (ap option_copied c.in-None.is) ∙ c.at.ensures) c.as_slice.ensures.value
