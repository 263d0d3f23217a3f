use Rattle.c_check.proofs.Common.{not, ◌||◌, map, is_some, sym, ap, ◌∙◌, list_any, named, defines, is_defined_if_static, item_of}
use Rattle.c_check.specs.Places.{item_place}
use Rattle.c_rules.proofs.Defined.{defines_among}
use Rattle.c_check.proofs.declarations.is_defined_if_static.Goals as goal

pub returns-else-not-f : goal.returns-else-not-f
returns-else-not-f c =
    let f = c.in-Func.f in
    let unit = map item_of c.args.file.now.items.now in
    c.has.ensures ∙ ap (λ n. is_some (named n c.args.defined.now)) c.as_slice.ensures ∙ c.requires f.name ∙ defines_among f.name unit
    ∙ sym (ap (λ b. not b || list_any (defines f.name) unit) c.if-not-f.false)
    ∙ ap (λ i. is_defined_if_static (item_place c.args.file.now i)) (sym c.in-Func.is)
