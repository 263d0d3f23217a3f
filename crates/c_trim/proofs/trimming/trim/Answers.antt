use Rattle.c_trim.proofs.Common.{sym, subst, unit_of, IsTrimmed}
use Rattle.c_trim.proofs.InPlace.{in_place}
use Rattle.c_trim.proofs.Needed.{trimmed_formed, trimmed_keeps}
use Rattle.c_trim.proofs.trimming.trim.Goals as goal

pub known-requires-clause-formed : goal.known-requires-clause-formed
known-requires-clause-formed c =
    trimmed_formed (unit_of c.args.u.now) (unit_of c.in_ok-kept.kept)
    (rw c.unit-unit.ensures.unit at c.in_ok-kept.ensures) c.unit-unit.ensures.formed

pub known-requires-clause-kept : goal.known-requires-clause-kept
known-requires-clause-kept c =
    trimmed_keeps (unit_of c.args.u.now) (unit_of c.in_ok-kept.kept)
    (subst (λ l. IsTrimmed (unit_of l) (unit_of c.in_ok-kept.kept)) c.unit-unit.ensures.unit c.in_ok-kept.ensures) c.unit-unit.ensures.kept

pub returns-clause-in_place : goal.returns-clause-in_place
returns-clause-in_place c =
    in_place (unit_of c.args.u.now) (unit_of c.in_ok-trimmed.trimmed)
    (subst (λ l. IsTrimmed (unit_of c.args.u.now) (unit_of l)) (sym c.in_ok-trimmed.ensures)
    (subst (λ l. IsTrimmed (unit_of l) (unit_of c.in_ok-kept.kept)) c.unit-unit.ensures.unit c.in_ok-kept.ensures))
