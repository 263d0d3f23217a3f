use Rattle.c_print.proofs.Common.{◌≡◌, [], sym, refl, ap, ◌∙◌, subst, rules, CSpells, Fixed, fixed_text, unit_of, items_onto, printed}
use Rattle.c_print.proofs.Common.{print_of, Page}
use Rattle.c_tree.specs.declared.token.Kind.TheVariants as kind
use Rattle.c_tree.specs.declared.token.Tok.TheVariants as tok
use Rattle.c_print.proofs.PageText.{include_put, items_text}
use Rattle.c_print.proofs.Spells.{spells}
use Rattle.c_print.proofs.unit.print_unit.Goals as goal

pub returns-clause-printed : goal.returns-clause-printed
returns-clause-printed c =
    let begun : Page = record { text = fixed_text tok.Include; last = kind.Fixed tok.Include } in
    let empty : Page = record { text = []; last = kind.Fixed tok.Include } in
    let put : c.put_items.new.page ≡ items_onto (printed empty (Fixed tok.Include)) (unit_of c.args.u.now) = search rules in
    ap (λ (page : Page). page.text) (put ∙ ap (λ (page : Page). items_onto page (unit_of c.args.u.now)) include_put)
    ∙ items_text begun (unit_of c.args.u.now) refl

pub returns-clause-spells : goal.returns-clause-spells
returns-clause-spells c =
    let printed : c.put_items.new.page.text ≡ print_of (unit_of c.args.u.now) = returns-clause-printed c in
    subst (CSpells (unit_of c.args.u.now)) (sym printed) (spells (unit_of c.args.u.now) c.requires)
