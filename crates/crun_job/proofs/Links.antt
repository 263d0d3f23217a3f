-- Refusals of texts and of the linker, as refusals of units.
use Rattle.crun_job.proofs.Common.{ℕ, List, length, refl, inl, inr, arith, first_refusal, Symbols, IsWithin, RefusesTexts, RefusesUnits}
use Rattle.crun_job.proofs.Common.{refusal_for, AreUnitTexts, IsRefusedText, IsUnitText, UnitsRefusal}
use Rattle.c_tree.specs.Tree as tree
use Rattle.c_meaning.specs.Linking as linking
use Rattle.c_link.specs.declared.refusal.LinkRefusal.{LinkRefusal}
use Rattle.c_link.specs.declared.refusal.LinkRefusal.TheVariants as link
use Rattle.c_link.specs.Refusals.{IsRefusal}
use Rattle.crun_job.specs.declared.refusal.UnitsRefusal.TheVariants as refusal
use Rattle.crun_job.proofs.Each.{first_within, many_each}
use Rattle.crun_job.proofs.Within.{concern_within}

pub text_refused : (texts : List (List ℕ)) (symbols : Symbols) (r : UnitsRefusal) → RefusesTexts texts r → RefusesUnits texts symbols r
text_refused texts symbols (refusal.Unit number why) refuses = inl refuses
text_refused texts symbols refusal.Memory refuses = tt

pub unlinked : (texts : List (List ℕ)) (symbols : Symbols) (units : List (List tree.Item)) (r : LinkRefusal)
    → AreUnitTexts texts units → IsRefusal r (first_refusal units symbols) → RefusesUnits texts symbols (refusal_for r)
unlinked texts symbols units (link.Undefined unit name) are first = inr (record {
  units = units;
  refusal = linking.NotDefined unit name;
  texts_are = are;
  first = first;
  concerns = (refl, refl);
})
unlinked texts symbols units (link.Twice unit name) are first = inr (record {
  units = units;
  refusal = linking.Twice unit name;
  texts_are = are;
  first = first;
  concerns = (refl, refl);
})
unlinked texts symbols units (link.TypeDiffers unit name) are first = inr (record {
  units = units;
  refusal = linking.TypeDiffers unit name;
  texts_are = are;
  first = first;
  concerns = (refl, refl);
})
unlinked texts symbols units link.Memory are first = tt

-- a unit that is refused is one of those of the texts
pub refused_within : (texts : List (List ℕ)) (symbols : Symbols) (r : UnitsRefusal) → RefusesUnits texts symbols r
    → IsWithin (length texts) r
refused_within texts symbols (refusal.Unit k why) (inl first) = first_within IsUnitText IsRefusedText texts k why first
refused_within texts symbols (refusal.Unit k why) (inr unlinked) =
    let each = many_each IsUnitText texts unlinked.units unlinked.texts_are in
    omega (arith, concern_within unlinked.units symbols unlinked.refusal k why unlinked.first unlinked.concerns, each)
refused_within texts symbols refusal.Memory refuses = tt
