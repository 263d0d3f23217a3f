-- Texts are those of one list of units, or one unit is refused.
use Rattle.crun_job.proofs.Common.{◌≡◌, ℕ, List, Some, None, Option, sym, ap, ◌∙◌, subst, inl, inr, same_Some, first_refusal, AreLinked}
use Rattle.crun_job.proofs.Common.{Concerns, IsRefusedUnit, Symbols, AreUnitTexts, IsFirstRefusedText, IsRefusedText, IsUnitText, Cause}
use Rattle.c_tree.specs.Tree as tree
use Rattle.c_meaning.specs.Linking as linking
use Rattle.crun_job.proofs.Each.{first_apart, one_each, one_first}
use Rattle.crun_job.proofs.Texts.{one_cause, one_items, text_apart}

pub one_units : (texts : List (List ℕ)) (a b : List (List tree.Item)) → AreUnitTexts texts a → AreUnitTexts texts b → a ≡ b
one_units texts a b first second = one_each IsUnitText one_items texts a b first second

-- the linker's refusal is of one unit and has one cause
one_concern : (r : linking.LinkRefusal) (k n : ℕ) (why other : Cause) → Concerns r k why → Concerns r n other → (k ≡ n) × (why ≡ other)
one_concern (linking.NotDefined unit symbol) k n why other a b = (a.0 ∙ sym b.0, a.1 ∙ sym b.1)
one_concern _ k n why other a b = (a.0 ∙ sym b.0, a.1 ∙ sym b.1)

-- a text that is refused is none of a unit
pub texts_apart : (texts : List (List ℕ)) (k : ℕ) (why : Cause) (units : List (List tree.Item)) → IsFirstRefusedText texts k why
    → AreUnitTexts texts units → ⊥
texts_apart texts k why units first are = first_apart IsUnitText IsRefusedText text_apart texts k why units first are

-- linked units are not refused
pub linked_apart : (texts : List (List ℕ)) (symbols : Symbols) (k : ℕ) (why : Cause) (units : List (List tree.Item))
    → IsRefusedUnit texts symbols k why → AreLinked texts symbols units → ⊥
linked_apart texts symbols k why units (inl first) linked = texts_apart texts k why units first linked.0
linked_apart texts symbols k why units (inr unlinked) linked =
    let same = one_units texts units unlinked.units linked.0 unlinked.texts_are in
    (let both : ◌≡◌ {A = Option linking.LinkRefusal} None (Some unlinked.refusal) =
    sym linked.1 ∙ ap (λ us. first_refusal us symbols) same ∙ unlinked.first in cc)

pub one_refused_unit : (texts : List (List ℕ)) (symbols : Symbols) (k n : ℕ) (why other : Cause) → IsRefusedUnit texts symbols k why
    → IsRefusedUnit texts symbols n other → (k ≡ n) × (why ≡ other)
one_refused_unit texts symbols k n why other (inl a) (inl b) =
    one_first IsUnitText IsRefusedText text_apart one_cause texts k n why other a b
one_refused_unit texts symbols k n why other (inl a) (inr b) = absurd (texts_apart texts k why b.units a b.texts_are)
one_refused_unit texts symbols k n why other (inr a) (inl b) = absurd (texts_apart texts n other a.units b a.texts_are)
one_refused_unit texts symbols k n why other (inr a) (inr b) =
    let same = one_units texts a.units b.units a.texts_are b.texts_are in
    let refusals : a.refusal ≡ b.refusal =
    same_Some a.refusal b.refusal (sym a.first ∙ ap (λ us. first_refusal us symbols) same ∙ b.first) in
    one_concern b.refusal k n why other (subst (λ r. Concerns r k why) refusals a.concerns) b.concerns
