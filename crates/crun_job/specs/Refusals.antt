-- What a refusal of units says of their texts, and one of calls of their lines. Want of memory says nothing.
use Rattle.std.specs.Prelude.{◌≡◌, ◌<◌, ℕ, List}
use Rattle.c_link.specs.declared.refusal.LinkRefusal.{LinkRefusal}
use Rattle.c_link.specs.declared.refusal.LinkRefusal.TheVariants as link
use Rattle.crun_job.specs.declared.stop.Cause.TheVariants as cause
use Rattle.c_tree.specs.Tree as tree
use Rattle.crun_words.specs.CallsFile.{NumberedLine}
use Rattle.crun_job.specs.declared.refusal.CallsRefusal.{CallsRefusal}
use Rattle.crun_job.specs.declared.refusal.CallsRefusal.TheVariants as calls
use Rattle.crun_job.specs.declared.refusal.UnitsRefusal.{UnitsRefusal}
use Rattle.crun_job.specs.declared.refusal.UnitsRefusal.TheVariants as refusal
use Rattle.crun_job.specs.Texts.{IsFirstRefusedText, IsRefusedText}
use Rattle.crun_job.specs.Calls.{IsFirstRefusedLine}
use Rattle.crun_job.specs.Links.{IsRefusedUnit, Symbols}

-- the text with a number is refused
abbrev pub RefusesText : ℕ → List ℕ → UnitsRefusal → Type 0
RefusesText number text (refusal.Unit k why) = (k ≡ number) × IsRefusedText text why
RefusesText number text refusal.Memory = Unit {0}

-- the first text that is refused
abbrev pub RefusesTexts : List (List ℕ) → UnitsRefusal → Type 0
RefusesTexts texts (refusal.Unit number why) = IsFirstRefusedText texts number why
RefusesTexts texts refusal.Memory = Unit {0}

-- the linker's refusal, of the unit that it names
abbrev pub refusal_for : LinkRefusal → UnitsRefusal
refusal_for (link.Undefined unit symbol) = refusal.Unit unit (cause.Undefined symbol)
refusal_for (link.Twice unit symbol) = refusal.Unit unit (cause.Twice symbol)
refusal_for (link.TypeDiffers unit symbol) = refusal.Unit unit (cause.TypeDiffers symbol)
refusal_for link.Memory = refusal.Memory

-- the first of the texts, else of the linker
abbrev pub RefusesUnits : List (List ℕ) → Symbols → UnitsRefusal → Type 0
RefusesUnits texts symbols (refusal.Unit number why) = IsRefusedUnit texts symbols number why
RefusesUnits texts symbols refusal.Memory = Unit {0}

-- the first line that names no call
abbrev pub RefusesCalls : List (List tree.Item) → List NumberedLine → CallsRefusal → Type 0
RefusesCalls units lines (calls.Line number) = IsFirstRefusedLine units lines number
RefusesCalls units lines calls.Memory = Unit {0}

-- the number of a refused unit is that of one of so many
abbrev pub IsWithin : ℕ → UnitsRefusal → Type 0
IsWithin many (refusal.Unit number why) = number < many
IsWithin many refusal.Memory = Unit {0}
