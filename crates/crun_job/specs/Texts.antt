-- The texts of units: each spells a unit that keeps the rules, or the first that does not is refused.
use Rattle.std.specs.Prelude.{◌≡◌, ◌≤◌, ℕ, List, length, Some}
use Rattle.std.specs.List.{AllByRecursion}
use Rattle.c_tree.specs.declared.token.CReadFault.TheVariants as fault
use Rattle.c_tree.specs.Tree as tree
use Rattle.c_tree.specs.Spelled.{CSpells, CUpto}
use Rattle.c_tree.specs.FirstBroken.{first_broken, KeepsRules}
use Rattle.crun_job.specs.declared.stop.Cause.{Cause}
use Rattle.crun_job.specs.declared.stop.Cause.TheVariants as cause
use Rattle.crun_job.specs.Each.{AreEach, IsFirst}

-- the most bytes of a unit's text
abbrev pub most_unit_bytes : ℕ
most_unit_bytes = 67108864

-- so many bytes at most does each text have
abbrev pub AreShort : List (List ℕ) → Type 0
AreShort texts = AllByRecursion (λ text. length text ≤ most_unit_bytes) texts

-- the text spells this unit, which keeps the rules
abbrev pub IsUnitText : List ℕ → List tree.Item → Type 0
IsUnitText text items = CSpells items text × KeepsRules items

-- the texts, in order, are those of these units
abbrev pub AreUnitTexts : List (List ℕ) → List (List tree.Item) → Type 0
AreUnitTexts texts units = AreEach IsUnitText texts units

-- the text is refused: its first faulty token, or the first rule that the unit that it spells breaks
abbrev pub IsRefusedText : List ℕ → Cause → Type 0
IsRefusedText text (cause.Unexpected place wanted) = CUpto text (fault.Unexpected place wanted)
IsRefusedText text (cause.NumberTooLarge place) = CUpto text (fault.NumberTooLarge place)
IsRefusedText text (cause.TooDeep place) = CUpto text (fault.TooDeep place)
IsRefusedText text (cause.Rule item statement rule) =
    (items : List tree.Item) × CSpells items text × (first_broken items ≡ Some (record { item = item; statement = statement; rule = rule }))
IsRefusedText text cause.TooLong = ⊥
IsRefusedText text (cause.Undefined symbol) = ⊥
IsRefusedText text (cause.Twice symbol) = ⊥
IsRefusedText text (cause.TypeDiffers symbol) = ⊥

-- the first text that is refused, by its number from 0: those in front of it are texts of units
abbrev pub IsFirstRefusedText : List (List ℕ) → ℕ → Cause → Type 0
IsFirstRefusedText texts number why = IsFirst IsUnitText IsRefusedText texts number why
