-- The theorem of linked sets over files and texts: units that texts of files spell, in any selection and
-- order that links with any hosts, do what the files' modules do (WebAssembly Core 1.0, 4.5.4 and 4.5.5;
-- C11, 5.1.2.3).
use Rattle.std.specs.Prelude.{◌≡◌, ℕ, List, map, None, IsTrue}
use Rattle.std.specs.List.{AllByRecursion, Contains}
use Rattle.w2c_base.specs.Run.{Host}
use Rattle.wasm_tree.specs.declared.tree.Module.{Module}
use Rattle.wasm_spelling.specs.ModuleFields.{Spells}
use Rattle.wasm_meaning.specs.LinkedSet.{LinkedSet, IsLinked}
use Rattle.wasm_meaning.specs.Run.{ListedCall, Fits}
use Rattle.c_tree.specs.Tree as tree
use Rattle.c_tree.specs.Spelled.{CSpells}
use Rattle.c_meaning.specs.Linking.{Program, fits, link_refusal}
use Rattle.wasm_tree.specs.Bytes.{AreBytes}
use Rattle.wasm_tree.specs.NamedModule.{NamedModule}
use Rattle.unit_meaning.specs.Sets.{DoTheSame, symbol_call}
use Rattle.w2c_sim.specs.Translation.{IsModuleOf, text_of}

-- ---- files, and what is linked of them

-- a file with its module's name, and the text of a unit
pub record File : Type 0 where
  pub bytes : List ℕ
  pub name : List ℕ
  pub text : List ℕ

-- the text is that of the file's module
abbrev pub IsTranslated : File → Type 0
IsTranslated f = (module_tree : Module) × IsModuleOf f.bytes f.name module_tree × (f.text ≡ text_of module_tree f.name)

-- one of a selection: a module under its name, and its unit
pub record Chosen : Type 0 where
  pub «module» : NamedModule
  pub unit : List tree.Item

-- the file's bytes spell the module, and its text spells the unit
pub record ComesFrom (c : Chosen) (f : File) : Type 0 where
  pub named : c.«module».name ≡ f.name
  pub bytes_spell : Spells c.«module».tree f.bytes
  pub text_spells : CSpells c.unit f.text

abbrev pub ComesFromOne : List File → Chosen → Type 0
ComesFromOne files c = (f : File) × Contains files f × ComesFrom c f

-- the modules of a selection in its order, and its units, with hosts
abbrev pub set_of : List Chosen → List Host → LinkedSet
set_of chosen hosts = record { modules = map (λ c. c.«module») chosen; hosts = hosts }

abbrev pub program_of : List Chosen → List Host → Program
program_of chosen hosts = record { units = map (λ c. c.unit) chosen; hosts = hosts }

-- the units link, and a listed call that fits the modules fits them under its symbol
pub record AreWired (p : Program) (s : LinkedSet) : Type 0 where
  pub link : link_refusal p ≡ None
  pub calls : (call : ListedCall) → Fits s call → IsTrue (fits p (symbol_call call))

pub record LinkAndDoTheSame (p : Program) (s : LinkedSet) : Type 0 where
  pub wired : AreWired p s
  pub same : DoTheSame p s

-- ---- the theorem

abbrev pub SelectionsDoTheSame : List File → Type 0
SelectionsDoTheSame files =
    (chosen : List Chosen) (hosts : List Host) → AllByRecursion (ComesFromOne files) chosen
    -- hosts' names are bytes, too
    → AllByRecursion (λ (h : Host). AreBytes h.name) hosts
    → IsLinked (set_of chosen hosts) → LinkAndDoTheSame (program_of chosen hosts) (set_of chosen hosts)

abbrev pub TranslationTheorem : Type 0
TranslationTheorem = (files : List File) → AllByRecursion IsTranslated files → SelectionsDoTheSame files
