use Rattle.c_link.proofs.Common.{◌≡◌, map, None, sym, subst, unit_of, first_refusal, Holds, c_symbols, offers, HaveOwn}
use Rattle.c_link.proofs.Linking.{early_first, early_refused, late_first, late_refused, resolved, links, holds_there, keep_there}
use Rattle.c_link.proofs.Apart.{both_none}
use Rattle.c_link.proofs.Once.{all_resolved, defined_once}
use Rattle.c_link.proofs.linked.link.Goals as goal

pub returns-in-Err-clause-first : goal.returns-in-Err-clause-first
returns-in-Err-clause-first c =
    early_first c.as_slice.result.now c.args.units.items c.as_slice.ensures.value c.args.hosts.now c.in-Err.refusal
    c.in-Err.ensures.first

pub returns-in-Err-clause-refused : goal.returns-in-Err-clause-refused
returns-in-Err-clause-refused c =
    early_refused c.as_slice.result.now c.args.units.items c.as_slice.ensures.value c.args.hosts.now c.in-Err.refusal
    c.in-Err.ensures.first

pub returns-in-Err-resolve_all-clause-first : goal.returns-in-Err-resolve_all-clause-first
returns-in-Err-resolve_all-clause-first c =
    late_first c.as_slice.result.now c.as_slice-2.result.now c.args.units.items c.as_slice.ensures.value c.as_slice-2.ensures.value
    c.args.hosts.now c.in-Ok.table
    c.in-Ok.ensures.table c.in-Ok.ensures.once c.in-Ok.ensures.kept c.in-Err-resolve_all.refusal c.in-Err-resolve_all.ensures.first

pub returns-in-Err-resolve_all-clause-refused : goal.returns-in-Err-resolve_all-clause-refused
returns-in-Err-resolve_all-clause-refused c =
    late_refused c.as_slice.result.now c.as_slice-2.result.now c.args.units.items c.as_slice.ensures.value c.as_slice-2.ensures.value
    c.args.hosts.now c.in-Ok.table
    c.in-Ok.ensures.table c.in-Ok.ensures.once c.in-Ok.ensures.kept c.in-Err-resolve_all.refusal c.in-Err-resolve_all.ensures.first

pub returns-clause-resolved : goal.returns-clause-resolved
returns-clause-resolved c =
    resolved c.as_slice.result.now c.as_slice-2.result.now c.args.units.items c.as_slice.ensures.value c.as_slice-2.ensures.value
    c.args.hosts.now c.in-Ok.table
    c.in-Ok.ensures.table c.in-Ok.ensures.once c.in-Ok.ensures.kept c.in-Ok-resolve_all.ensures.resolved

pub returns-clause-links : goal.returns-clause-links
returns-clause-links c =
    links c.as_slice.result.now c.as_slice-2.result.now c.args.units.items c.as_slice.ensures.value c.as_slice-2.ensures.value
    c.args.hosts.now c.in-Ok.table
    c.in-Ok.ensures.table c.in-Ok.ensures.once c.in-Ok.ensures.kept c.in-Ok-resolve_all.ensures.resolved

pub invariant_of-result : goal.invariant_of-result
invariant_of-result c =
    let units = map unit_of c.args.units.items in
    let none = resolved c.as_slice.result.now c.as_slice-2.result.now c.args.units.items c.as_slice.ensures.value
    c.as_slice-2.ensures.value c.args.hosts.now c.in-Ok.table
    c.in-Ok.ensures.table c.in-Ok.ensures.once c.in-Ok.ensures.kept c.in-Ok-resolve_all.ensures.resolved in
    let holds = holds_there c.as_slice.result.now c.as_slice-2.result.now c.args.units.items c.as_slice.ensures.value
    c.as_slice-2.ensures.value c.args.hosts.now c.in-Ok.table
    c.in-Ok.ensures.table c.in-Ok.ensures.once c.in-Ok.ensures.kept in (
      subst (λ hs. Holds c.in-Ok.table (offers units (c_symbols hs))) (sym c.in_ok-hosts.ensures) holds,
      subst (λ hs. first_refusal units (c_symbols hs) ≡ None) (sym c.in_ok-hosts.ensures) none,
      keep_there c.as_slice.result.now c.as_slice-2.result.now c.args.units.items c.as_slice.ensures.value c.as_slice-2.ensures.value
          c.args.hosts.now c.in-Ok.table
          c.in-Ok.ensures.table c.in-Ok.ensures.once c.in-Ok.ensures.kept,
      subst (λ us. HaveOwn c.in_ok-own.own.items (map unit_of us)) c.as_slice-3.ensures.value c.in_ok-own.ensures,
    )

pub returns-clause-typed : goal.returns-clause-typed
returns-clause-typed c =
    let none = resolved c.as_slice.result.now c.as_slice-2.result.now c.args.units.items c.as_slice.ensures.value
    c.as_slice-2.ensures.value c.args.hosts.now c.in-Ok.table
    c.in-Ok.ensures.table c.in-Ok.ensures.once c.in-Ok.ensures.kept c.in-Ok-resolve_all.ensures.resolved in
    all_resolved (map unit_of c.args.units.items) c.args.hosts.now none

pub returns-clause-once : goal.returns-clause-once
returns-clause-once c distinct =
    let none = resolved c.as_slice.result.now c.as_slice-2.result.now c.args.units.items c.as_slice.ensures.value
    c.as_slice-2.ensures.value c.args.hosts.now c.in-Ok.table
    c.in-Ok.ensures.table c.in-Ok.ensures.once c.in-Ok.ensures.kept c.in-Ok-resolve_all.ensures.resolved in
    let keep = keep_there c.as_slice.result.now c.as_slice-2.result.now c.args.units.items c.as_slice.ensures.value
    c.as_slice-2.ensures.value c.args.hosts.now c.in-Ok.table
    c.in-Ok.ensures.table c.in-Ok.ensures.once c.in-Ok.ensures.kept in
    defined_once (map unit_of c.args.units.items) c.args.hosts.now ((both_none _ _ none).0) keep distinct
