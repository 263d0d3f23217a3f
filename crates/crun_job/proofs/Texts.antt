-- Texts of units: a text comes to one thing, and the first that is refused.
use Rattle.crun_job.proofs.Common.{◌≡◌, ℕ, zero, suc, ◌<◌, ◌≤◌, List, [], ◌∷◌, length, get_or, take, Some, None, Option, sym, refl, ap, ◌∙◌}
use Rattle.crun_job.proofs.Common.{subst, arith, RefusesText, RefusesTexts, AreShort, AreUnitTexts, IsFirstRefusedText, IsRefusedText}
use Rattle.crun_job.proofs.Common.{IsUnitText, most_unit_bytes, UnitsRefusal, Cause}
use Rattle.c_tree.specs.declared.token.CReadFault.{CReadFault}
use Rattle.c_tree.specs.declared.token.CReadFault.TheVariants as fault
use Rattle.c_tree.specs.Tree as tree
use Rattle.c_tree.specs.Spelled.{CSpells, CUpto}
use Rattle.c_tree.specs.FirstBroken.{first_broken, BrokenAt}
use Rattle.c_tree.proofs.OneUnit.{one_unit}
use Rattle.c_tree.proofs.NoFault.{no_fault}
use Rattle.c_read.proofs.Once.{stops_once}
use Rattle.crun_job.specs.declared.refusal.UnitsRefusal.TheVariants as refusal
use Rattle.crun_job.specs.declared.stop.Cause.TheVariants as cause
use Rattle.crun_job.proofs.Each.{first_at}

-- each text is short
pub short_at : (texts : List (List ℕ)) (i : ℕ) (text : List ℕ) → AreShort texts → i < length texts
    → text ≡ get_or texts i text → length text ≤ most_unit_bytes
short_at [] i text short less is = absurd (omega (arith, less))
short_at (t ∷ texts) zero text short less is = (let e = ap length is in omega (arith, e, short.0))
short_at (t ∷ texts) (suc i) text short less is = short_at texts i text short.1 (omega (arith, less)) is

-- a refused text behind texts of units
pub first_text : (texts : List (List ℕ)) (i : ℕ) (text : List ℕ) (units : List (List tree.Item)) (r : UnitsRefusal) → i < length texts
    → text ≡ get_or texts i text → AreUnitTexts (take i texts) units → RefusesText i text r → RefusesTexts texts r
first_text texts i text units (refusal.Unit k why) less is before (same, refused) =
    subst (λ n. IsFirstRefusedText texts n why) (sym same) (first_at IsUnitText IsRefusedText texts i text units why less is before refused)
first_text texts i text units refusal.Memory less is before refuses = tt

-- ---- a text comes to one thing

pub one_items : (text : List ℕ) (a b : List tree.Item) → IsUnitText text a → IsUnitText text b → a ≡ b
one_items text a b first second = one_unit a b text first.0 second.0

pub text_apart : (text : List ℕ) (items : List tree.Item) (why : Cause) → IsUnitText text items → IsRefusedText text why → ⊥
text_apart text items (cause.Unexpected place wanted) is refused = no_fault items text (fault.Unexpected place wanted) is.0 refused
text_apart text items (cause.NumberTooLarge place) is refused = no_fault items text (fault.NumberTooLarge place) is.0 refused
text_apart text items (cause.TooDeep place) is refused = no_fault items text (fault.TooDeep place) is.0 refused
text_apart text items (cause.Rule item statement rule) is (others, spelled, broken) =
    let same = one_unit items others text is.0 spelled in
    (let both : ◌≡◌ {A = Option BrokenAt} None (Some (record { item = item; statement = statement; rule = rule })) =
    sym is.1 ∙ ap first_broken same ∙ broken in cc)
text_apart text items _ is refused = refused

-- the cause that a fault is refused by, and a broken rule
abbrev cause_of : CReadFault → Cause
cause_of (fault.Unexpected place wanted) = cause.Unexpected place wanted
cause_of (fault.NumberTooLarge place) = cause.NumberTooLarge place
cause_of (fault.TooDeep place) = cause.TooDeep place
cause_of fault.UnitTooLong = cause.TooLong
cause_of fault.Memory = cause.TooLong

abbrev cause_of_rule : Option BrokenAt → Cause
cause_of_rule None = cause.TooLong
cause_of_rule (Some at) = cause.Rule at.item at.statement at.rule

-- a refused text spells a unit that breaks a rule, or has a fault
data IsSeen (text : List ℕ) (why : Cause) : Type 0 where
  Broken : (items : List tree.Item) → CSpells items text → why ≡ cause_of_rule (first_broken items) → IsSeen text why
  Faulty : (f : CReadFault) → CUpto text f → why ≡ cause_of f → IsSeen text why

seen : (text : List ℕ) (why : Cause) → IsRefusedText text why → IsSeen text why
seen text (cause.Unexpected place wanted) refused = Faulty (fault.Unexpected place wanted) refused refl
seen text (cause.NumberTooLarge place) refused = Faulty (fault.NumberTooLarge place) refused refl
seen text (cause.TooDeep place) refused = Faulty (fault.TooDeep place) refused refl
seen text (cause.Rule item statement rule) (items, spells, broken) = Broken items spells (sym (ap cause_of_rule broken))
seen text _ refused = absurd refused

pub one_cause : (text : List ℕ) (a b : Cause) → IsRefusedText text a → IsRefusedText text b → a ≡ b
one_cause text a b refused refused' = by_seen (seen text a refused) (seen text b refused')
  where
    by_seen : IsSeen text a → IsSeen text b → a ≡ b
    by_seen (Broken items spells is) (Broken others spells' is') =
        is ∙ ap (λ us. cause_of_rule (first_broken us)) (one_unit items others text spells spells') ∙ sym is'
    by_seen (Broken items spells is) (Faulty f upto is') = absurd (no_fault items text f spells upto)
    by_seen (Faulty f upto is) (Broken items spells is') = absurd (no_fault items text f spells upto)
    by_seen (Faulty f upto is) (Faulty g upto' is') = is ∙ ap cause_of (stops_once upto upto') ∙ sym is'
