-- The units that are written, and that what is linked of them does what the modules do.
use Rattle.std.specs.Prelude.{◌≡◌, ℕ, List, [], ◌∷◌, ◌++◌, Some}
use Rattle.std.specs.List.{AllByRecursion}
use Rattle.w2c_io.specs.Contents.{Name, Contents, Told, HasFile}
use Rattle.w2c_io.specs.Telling.{Tells}
use Rattle.wasm_tree.specs.declared.tree.Module.{Module}
use Rattle.w2c_sim.specs.Translation.{IsModuleOf, SpellsUnit, text_of, header_text_of}
use Rattle.w2c_sim.specs.Selections.{File, IsTranslated, SelectionsDoTheSame}
use Rattle.wasm2c_words.specs.CommandLine.{Line, line_of}
use Rattle.wasm2c_cli.specs.Job.{AreSources}
use Rattle.wasm2c_cli.specs.Plan.{Target, targets_of}

-- what stands of one module of a line, whose file has these bytes
abbrev pub Stand : Type 1
Stand = Target → List ℕ → Module → Type 0

-- the C file holds the text of the unit of the module that the bytes spell
pub record HoldsText (new : Told) (t : Target) (bytes : List ℕ) (m : Module) : Type 0 where
  pub is_module : IsModuleOf bytes t.module_name m
  pub stands : HasFile new t.c_file (text_of m t.module_name)

-- The header stands beside it, and the text spells one unit, which keeps the rules of the subset of C and has the module's shape.
pub record HoldsUnit (new : Told) (t : Target) (bytes : List ℕ) (m : Module) : Type 0 where
  pub text : HoldsText new t bytes m
  pub header_stands : HasFile new t.header (header_text_of m t.module_name)
  pub unit : SpellsUnit (record { name = t.module_name; tree = m }) (text_of m t.module_name)

-- one after the other
abbrev pub HoldAll : Stand → List Target → List (List ℕ) → List Module → Type 0
HoldAll Holds [] [] [] = Unit {0}
HoldAll Holds (t ∷ targets) (bytes ∷ sources) (m ∷ modules) = Holds t bytes m × HoldAll Holds targets sources modules
HoldAll Holds _ _ _ = ⊥

-- it stands of all modules of a line, of whose bytes Sources is so
pub record StandAllBy (Holds : Stand) (line : Line) (Sources : List (List ℕ) → Type 0) : Type 0 where
  pub sources : List (List ℕ)
  pub modules : List Module
  pub read : Sources sources
  pub all : HoldAll Holds (targets_of line) sources modules

-- it stands of all modules that a line asks for
abbrev pub StandAll : Stand → Line → Contents → Type 0
StandAll Holds line contents = StandAllBy Holds line (AreSources line contents)

abbrev pub WritesUnits : List Name → Told → Told → Type 0
WritesUnits words old new = Tells old (λ contents. (line : Line) × (line_of words ≡ Some line) × StandAll (HoldsUnit new) line contents)

-- the texts that were made of bytes
abbrev pub texts_made : List Target → List (List ℕ) → List Module → List File
texts_made (t ∷ targets) (bytes ∷ sources) (m ∷ modules) =
    record { bytes = bytes; name = t.module_name; text = text_of m t.module_name } ∷ texts_made targets sources modules
texts_made _ _ _ = []

-- what is linked of these units, and of any that other calls have made, does what the modules do
abbrev pub DoTheSameWithOthers : List File → Type 0
DoTheSameWithOthers files = (others : List File) → AllByRecursion IsTranslated others → SelectionsDoTheSame (files ++ others)

abbrev pub WritesLinkedUnits : List Name → Told → Told → Type 0
WritesLinkedUnits words old new = Tells old (λ contents. (line : Line) × (line_of words ≡ Some line)
    × (stand : StandAll (HoldsText new) line contents)
    × DoTheSameWithOthers (texts_made (targets_of line) stand.sources stand.modules))
