-- A unit that is refused, by its file.
use Rattle.crun_job.proofs.Common.{ℕ, List, sym, subst, inl, inr, RunLine, Reason, Symbols, RefusesUnits, StopsTexts, StopsUnit}
use Rattle.crun_job.proofs.Common.{UnitsRefusal}
use Rattle.crun_job.specs.declared.refusal.UnitsRefusal.TheVariants as refusal

module _ (line : RunLine) (symbols : Symbols) (texts : List (List ℕ)) (text : List ℕ) where
  pub unit_stops : (r : UnitsRefusal) (reason : Reason) → RefusesUnits texts symbols r → StopsUnit line.units r reason
      → StopsTexts line symbols texts text reason
  unit_stops (refusal.Unit k why) reason refused (inl memory) = subst (StopsTexts line symbols texts text) (sym memory) tt
  unit_stops (refusal.Unit k why) reason refused (inr (file, at, is)) =
      subst (StopsTexts line symbols texts text) (sym is) (k, at, refused)
  unit_stops refusal.Memory reason refused memory = subst (StopsTexts line symbols texts text) (sym memory) tt
