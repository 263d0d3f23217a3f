use Rattle.c_link.proofs.Common.{Some, None, option_map, option_copied, sym, ap, ◌∙◌, func_type_of, takes_if_any}
use Rattle.c_link.proofs.Readers.{signature_is, fits_is}
use Rattle.c_link.proofs.linked.Linked.fits.Goals as goal

pub returns-in-None-clause-taken : goal.returns-in-None-clause-taken
returns-in-None-clause-taken c =
    ap (λ o. takes_if_any o c.args.args.now) (signature_is c.self.inside.units.items c.self.inside.hosts.items c.self.inside.table
    (c.self.invariant.0, c.self.invariant.1, c.self.invariant.2) c.args.self.now c.self.view_is c.args.symbol.now
    None (sym (ap (λ r. option_map func_type_of (option_copied r)) c.in-None.is) ∙ c.unit_type.ensures))

pub returns-in-None-clause-meaning : goal.returns-in-None-clause-meaning
returns-in-None-clause-meaning c =
    fits_is c.self.inside.units.items c.self.inside.hosts.items c.self.inside.table
    (c.self.invariant.0, c.self.invariant.1, c.self.invariant.2) c.args.self.now c.self.view_is c.args.symbol.now c.args.args.now _
    (ap (λ o. takes_if_any o c.args.args.now) (signature_is c.self.inside.units.items c.self.inside.hosts.items c.self.inside.table
    (c.self.invariant.0, c.self.invariant.1, c.self.invariant.2) c.args.self.now c.self.view_is c.args.symbol.now
    None (sym (ap (λ r. option_map func_type_of (option_copied r)) c.in-None.is) ∙ c.unit_type.ensures)))

pub returns-in-Some-clause-taken : goal.returns-in-Some-clause-taken
returns-in-Some-clause-taken c =
    c.takes.ensures
    ∙ ap (λ o. takes_if_any o c.args.args.now) (signature_is c.self.inside.units.items c.self.inside.hosts.items c.self.inside.table
    (c.self.invariant.0, c.self.invariant.1, c.self.invariant.2) c.args.self.now c.self.view_is c.args.symbol.now
    (Some (func_type_of c.in-Some.ty.now)) (sym (ap (λ r. option_map func_type_of (option_copied r)) c.in-Some.is) ∙ c.unit_type.ensures))

pub returns-in-Some-clause-meaning : goal.returns-in-Some-clause-meaning
returns-in-Some-clause-meaning c =
    fits_is c.self.inside.units.items c.self.inside.hosts.items c.self.inside.table
    (c.self.invariant.0, c.self.invariant.1, c.self.invariant.2) c.args.self.now c.self.view_is c.args.symbol.now c.args.args.now _
    (c.takes.ensures
    ∙ ap (λ o. takes_if_any o c.args.args.now) (signature_is c.self.inside.units.items c.self.inside.hosts.items c.self.inside.table
    (c.self.invariant.0, c.self.invariant.1, c.self.invariant.2) c.args.self.now c.self.view_is c.args.symbol.now
    (Some (func_type_of c.in-Some.ty.now)) (sym (ap (λ r. option_map func_type_of (option_copied r)) c.in-Some.is) ∙
    c.unit_type.ensures)))
