-- The units of texts, linked with the symbols of hosts, or the first refusal: of the texts in order, then that of the
-- linker.
use Rattle.std.specs.Prelude.{◌≡◌, ◌⊎◌, ℕ, List, Some, None}
use Rattle.c_tree.specs.Tree as tree
use Rattle.c_tree.specs.Scope.{Name}
use Rattle.c_meaning.specs.Linking as linking
use Rattle.c_meaning.specs.Linking.{first_refusal}
use Rattle.crun_job.specs.declared.stop.Cause.{Cause}
use Rattle.crun_job.specs.declared.stop.Cause.TheVariants as cause
use Rattle.crun_job.specs.Texts.{AreUnitTexts, IsFirstRefusedText}

-- hosts' symbols with their types
abbrev pub Symbols : Type 0
Symbols = List (Name × tree.FuncType)

-- the texts are those of these units, which link with the symbols
abbrev pub AreLinked : List (List ℕ) → Symbols → List (List tree.Item) → Type 0
AreLinked texts symbols units = AreUnitTexts texts units × (first_refusal units symbols ≡ None)

-- the linker's refusal is of this unit, by its number from 0, and has this cause
abbrev pub Concerns : linking.LinkRefusal → ℕ → Cause → Type 0
Concerns (linking.NotDefined unit symbol) number why = (number ≡ unit) × (why ≡ cause.Undefined symbol)
Concerns (linking.Twice unit symbol) number why = (number ≡ unit) × (why ≡ cause.Twice symbol)
Concerns (linking.TypeDiffers unit symbol) number why = (number ≡ unit) × (why ≡ cause.TypeDiffers symbol)

-- the texts are those of units, which do not link: the first refusal
pub record IsUnlinked (texts : List (List ℕ)) (symbols : Symbols) (number : ℕ) (why : Cause) : Type 0 where
  pub units : List (List tree.Item)
  pub refusal : linking.LinkRefusal
  pub texts_are : AreUnitTexts texts units
  pub first : first_refusal units symbols ≡ Some refusal
  pub concerns : Concerns refusal number why

-- why texts are not those of linked units, with the number of the unit that is refused
abbrev pub IsRefusedUnit : List (List ℕ) → Symbols → ℕ → Cause → Type 0
IsRefusedUnit texts symbols number why = IsFirstRefusedText texts number why ⊎ IsUnlinked texts symbols number why
