use Rattle.w2c_sim.proofs.Common.{◌≡◌, IfOk, Ok, Err, Result, sym, ap, ◌∙◌, subst, Formed, unit_of, print_of, AreTextsOf}
use Rattle.c_print.specs.Header.{header_text}
use Rattle.w2c_sim.specs.declared.translation.Texts.{Texts}
use Rattle.w2c_sim.proofs.Spelling.{unit_is_formed}
use Rattle.w2c_sim.proofs.translation.print_texts.Goals as goal

pub print_both-requires : goal.print_both-requires
print_both-requires c =
    subst Formed (sym c.in_ok-unit.ensures.unit)
    (unit_is_formed c.units_are_proper.ensures (record { name = c.args.name.now; tree = c.args.m.now }) c.requires)

pub returns : goal.returns
returns c = both c.print_both.result c.print_both.ensures.unit c.print_both.ensures.header
  where
    both : {A : Type 0} (result : Result Texts A) → IfOk result (λ texts. texts.unit ≡ print_of (unit_of c.in_ok-unit.unit))
        → IfOk result (λ texts. texts.header ≡ header_text c.in_ok-unit.header) → IfOk result (AreTextsOf c.args.m.now c.args.name.now)
    both (Ok texts) unit header = (unit ∙ ap print_of c.in_ok-unit.ensures.unit, header ∙ ap header_text c.in_ok-unit.ensures.header)
    both (Err e) unit header = tt
