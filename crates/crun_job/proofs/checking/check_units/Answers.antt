use Rattle.crun_job.proofs.Common.{◌+◌, ◌≤◌, [], ◌∷◌, ◌++◌, map, length, take, sym, subst, take_all, unit_of, AreUnitTexts, IsUnitText}
use Rattle.crun_job.proofs.Common.{most_unit_bytes}
use Rattle.crun_job.proofs.Each.{each_pushed}
use Rattle.crun_job.proofs.Taken.{take_next}
use Rattle.crun_job.proofs.Texts.{first_text, short_at}
use Rattle.crun_job.proofs.checking.check_units.Goals as goal

pub check_text-requires : goal.check_text-requires
check_text-requires c =
    subst (λ t. length t ≤ most_unit_bytes) (sym c.as_slice.ensures)
    (short_at c.args.texts.now c.loop-number.number c.index-texts-number.result c.requires c.loop-number-test.true c.index-texts-number.is)

pub returns-in-Err-clause-first : goal.returns-in-Err-clause-first
returns-in-Err-clause-first c =
    first_text c.args.texts.now c.loop-number.number c.index-texts-number.result (map unit_of c.loop-number.units.items) c.in-Err.refusal
    c.loop-number-test.true c.index-texts-number.is c.loop-number.invariant (rw c.as_slice.ensures at c.in-Err.ensures.refused)

pub loop-number-preserved : goal.loop-number-preserved
loop-number-preserved c =
    let i = c.loop-number.number in
    let text = c.index-texts-number.result in
    let units = c.loop-number.units.items in
    let is = subst (λ t. IsUnitText t (unit_of c.in-Ok.unit)) c.as_slice.ensures c.in-Ok.ensures.unit in
    subst (λ us. AreUnitTexts (take (i + 1) c.args.texts.now) (map unit_of us)) (sym c.in_ok-push.ensures.items)
    (subst (λ ts. AreUnitTexts ts (map unit_of (units ++ c.in-Ok.unit ∷ [])))
    (sym (take_next c.args.texts.now i text c.loop-number-test.true c.index-texts-number.is))
    (each_pushed IsUnitText unit_of (take i c.args.texts.now) units text c.in-Ok.unit c.loop-number.invariant is))

pub returns-clause-units : goal.returns-clause-units
returns-clause-units c = rw (take_all c.loop-number.number c.args.texts.now c.loop-number-test.false) at c.loop-number.invariant
