use Rattle.wast_run.proofs.Common.{ℕ, List, sym, ap, ◌∙◌, subst, unit_of, set_of, SetModule, items, IsAcceptedSet}
use Rattle.wast_run.proofs.Common.{program_of, units_in, HasNoHosts}
use Rattle.wast_run.proofs.JoinedUnits.{links_more, set_more, units_more}
use Rattle.wast_run.proofs.linked_modules.LinkedModules.join.Goals as goal

pub session_with-requires : goal.session_with-requires
session_with-requires c =
    let set = c.args.self.now.set in
    let m : SetModule = record { name = c.args.name; «module» = c.args.«module» } in
    let accepted = rw c.as_slice.ensures at c.checked_unit.ensures.accepted in
    let is = c.in-Ok.ensures.unit ∙ ap (λ (n : List ℕ). items (record { name = n; tree = c.args.«module» })) c.as_slice.ensures in
    links_more set m c.units_of_a_linked_set_link.ensures.link (units_in c.take.result) (unit_of c.in-Ok.unit)
    (ap units_in c.take.ensures.value ∙ c.requires.units.units) is
    (set_more set m c.requires.units.accepted accepted (c.in-Ok-true.ensures.linked c.in-Ok-true.field-0-test))

pub returns-in-Ok-session_with-clause-linked : goal.returns-in-Ok-session_with-clause-linked
returns-in-Ok-session_with-clause-linked c = λ t. c.in-Ok-true.ensures.linked c.in-Ok-true.field-0-test

pub returns-in-Ok-session_with-clause-units : goal.returns-in-Ok-session_with-clause-units
returns-in-Ok-session_with-clause-units c =
    let set = c.args.self.now.set in
    let m : SetModule = record { name = c.args.name; «module» = c.args.«module» } in
    let accepted = rw c.as_slice.ensures at c.checked_unit.ensures.accepted in
    let is = c.in-Ok.ensures.unit ∙ ap (λ (n : List ℕ). items (record { name = n; tree = c.args.«module» })) c.as_slice.ensures in
    let new = c.in-Ok-true.ensures.joined c.in-Ok-true.field-0-test in
    record {
      units = ap units_in c.replace.ensures.after ∙ c.in-Ok-session_with.ensures.units
          ∙ units_more set m (units_in c.take.result) (unit_of c.in-Ok.unit) (ap units_in c.take.ensures.value ∙ c.requires.units.units) is
          ∙ ap (λ ms. (program_of (set_of ms)).units) (sym new);
      no_hosts = subst HasNoHosts (sym c.replace.ensures.after) c.in-Ok-session_with.ensures.no_hosts;
      accepted = rw new (set_more set m c.requires.units.accepted accepted (c.in-Ok-true.ensures.linked c.in-Ok-true.field-0-test));
    }

pub returns-in-Ok-false-clause-units : goal.returns-in-Ok-false-clause-units
returns-in-Ok-false-clause-units c =
    let same = c.in-Ok-false.ensures.unchanged c.in-Ok-false.field-0-test in
    record {
      units = c.requires.units.units ∙ ap (λ ms. (program_of (set_of ms)).units) (sym same);
      no_hosts = c.requires.units.no_hosts;
      accepted = subst (λ ms. IsAcceptedSet (set_of ms)) (sym same) c.requires.units.accepted;
    }
