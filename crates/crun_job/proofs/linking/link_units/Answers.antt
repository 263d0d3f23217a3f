use Rattle.crun_job.proofs.Common.{◌≡◌, map, None, sym, subst, unit_of, first_refusal, c_symbols, RefusesUnits, AreUnitTexts}
use Rattle.crun_job.proofs.Links.{refused_within, text_refused, unlinked}
use Rattle.crun_job.proofs.linking.link_units.Goals as goal

pub returns-in-Err-clause-first : goal.returns-in-Err-clause-first
returns-in-Err-clause-first c = text_refused c.args.texts.now (c_symbols c.args.hosts.now) c.in-Err.refusal c.in-Err.ensures.first

pub returns-in-Err-link-clause-first : goal.returns-in-Err-link-clause-first
returns-in-Err-link-clause-first c =
    let texts = c.args.texts.now in
    let symbols = c_symbols c.args.hosts.now in
    subst (RefusesUnits texts symbols) (sym c.refusal_of.ensures)
    (unlinked texts symbols (map unit_of c.in-Ok.units.items) c.in-Err-link.refusal c.in-Ok.ensures.units c.in-Err-link.ensures.first)

pub returns-in-Ok-link-clause-units : goal.returns-in-Ok-link-clause-units
returns-in-Ok-link-clause-units c =
    let units = sym c.in-Ok-link.ensures.units in (
      subst (λ us. AreUnitTexts c.args.texts.now (map unit_of us)) units c.in-Ok.ensures.units,
      subst (λ us. first_refusal (map unit_of us) (c_symbols c.args.hosts.now) ≡ None) units c.in-Ok-link.ensures.resolved,
    )

pub returns-in-Ok-link-clause-hosts : goal.returns-in-Ok-link-clause-hosts
returns-in-Ok-link-clause-hosts c = c.in-Ok-link.ensures.hosts

pub returns-in-Err-clause-within : goal.returns-in-Err-clause-within
returns-in-Err-clause-within c =
    let symbols = c_symbols c.args.hosts.now in
    refused_within c.args.texts.now symbols c.in-Err.refusal (text_refused c.args.texts.now symbols c.in-Err.refusal c.in-Err.ensures.first)

pub returns-in-Err-link-clause-within : goal.returns-in-Err-link-clause-within
returns-in-Err-link-clause-within c =
    let texts = c.args.texts.now in
    let symbols = c_symbols c.args.hosts.now in
    refused_within texts symbols c.refusal_of.result
    (subst (RefusesUnits texts symbols) (sym c.refusal_of.ensures)
    (unlinked texts symbols (map unit_of c.in-Ok.units.items) c.in-Err-link.refusal c.in-Ok.ensures.units c.in-Err-link.ensures.first))
