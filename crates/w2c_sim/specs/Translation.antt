-- What is made of a file: where its bytes spell a valid module within the limits (WebAssembly Core 1.0,
-- chapter 5 and 3.4.10), the text of the module's unit and that of its header.
use Rattle.std.specs.Prelude.{◌≡◌, ℕ, ◌≤◌, List, length}
use Rattle.wasm_tree.specs.declared.tree.Module.{Module}
use Rattle.wasm_spelling.specs.ModuleFields.{Spells}
use Rattle.wasm_typing.specs.Verdict.{IsValid}
use Rattle.c_tree.specs.Tree as tree
use Rattle.c_tree.specs.Spelled.{CSpells}
use Rattle.c_tree.specs.FirstBroken.{KeepsRules}
use Rattle.c_print.specs.Print.{print_of}
use Rattle.c_print.specs.Header.{header_text}
use Rattle.wasm_tree.specs.Bytes.{AreBytes}
use Rattle.wasm_tree.specs.NamedModule.{NamedModule}
use Rattle.unit_definition.specs.Items.{items_of, header_of}
use Rattle.unit_rules.specs.Shape.{HasShape}
use Rattle.w2c_sim.specs.declared.translation.Texts.{Texts}

-- the file's bytes spell this module, and it is valid; the module gets this name, of 1 to 1,024 bytes
pub record IsModuleOf (bytes name : List ℕ) (module_tree : Module) : Type 0 where
  pub spelled : Spells module_tree bytes
  pub valid : IsValid module_tree
  pub are_bytes : AreBytes bytes
  pub named : 1 ≤ length name
  pub short : length name ≤ 1024
  pub name_bytes : AreBytes name

-- the text of a module's unit under a name, and that of its header
abbrev pub text_of : Module → List ℕ → List ℕ
text_of module_tree name = print_of (items_of module_tree name)

abbrev pub header_text_of : Module → List ℕ → List ℕ
header_text_of module_tree name = header_text (header_of module_tree name)

abbrev pub AreTextsOf : Module → List ℕ → Texts → Type 0
AreTextsOf module_tree name texts = (texts.unit ≡ text_of module_tree name) × (texts.header ≡ header_text_of module_tree name)

-- the texts are those of the file's module under the name
abbrev pub IsTranslation : List ℕ → List ℕ → Texts → Type 0
IsTranslation bytes name texts = (module_tree : Module) × IsModuleOf bytes name module_tree × AreTextsOf module_tree name texts

-- the text spells a unit and no other, which keeps the rules of the subset of C and has the module's shape
pub record SpellsUnit (m : NamedModule) (text : List ℕ) : Type 0 where
  pub unit : List tree.Item
  pub spells : CSpells unit text
  pub only : (other : List tree.Item) → CSpells other text → other ≡ unit
  pub keeps_rules : KeepsRules unit
  pub shape : HasShape m unit
