-- A selection of translated files: its modules are accepted, and its units are those of c_unit.
use Rattle.w2c_sim.proofs.Common.{◌≡◌, ◌<◌, List, [], ◌∷◌, map, All, sym, refl, subst, All-from_recursion, AllByRecursion, Module, one_tree}
use Rattle.w2c_sim.proofs.Common.{AreBytes, CSpells, print_of, LinkedSet, NamedModule, Program, items, UnitsDoTheSame, IsAccepted}
use Rattle.w2c_base.specs.Run.{Host}
use Rattle.unit_rules.specs.Shape.{UnitsAreProper}
use Rattle.unit_meaning.specs.Sets as sets
use Rattle.w2c_sim.specs.Selections.{File, IsTranslated, Chosen, ComesFrom, ComesFromOne, LinkAndDoTheSame, TranslationTheorem, set_of}
use Rattle.w2c_sim.specs.Selections.{program_of}
use Rattle.w2c_base.proofs.OfEach.{of_contained}
use Rattle.w2c_sim.proofs.Accepting.{module_is_accepted}
use Rattle.w2c_sim.proofs.Spelling.{spells_no_other}
use Rattle.w2c_sim.proofs.Wiring.{calls_fit}

-- ---- one of a selection

abbrev IsOfItself : Chosen → Type 0
IsOfItself c = IsAccepted c.«module» × (c.unit ≡ items c.«module»)

abbrev file_module : File → Module → NamedModule
file_module f module_tree = record { name = f.name; tree = module_tree }

from_file : UnitsAreProper → (c : Chosen) (f : File) → IsTranslated f → ComesFrom c f → IsOfItself c
from_file proper c f (module_tree, is, is_text) from =
    let tree_is = one_tree f.bytes c.«module».tree module_tree from.bytes_spell is.spelled in
    let same : file_module f module_tree ≡ c.«module» = λ i. record { name = sym from.named i; tree = sym tree_is i } in
    let accepted : IsAccepted (file_module f module_tree) = module_is_accepted f.bytes f.name module_tree is in
    let spelled : CSpells c.unit (print_of (items (file_module f module_tree))) = subst (CSpells c.unit) is_text from.text_spells in
    subst (λ (m : NamedModule). IsAccepted m × (c.unit ≡ items m)) same
    (accepted, spells_no_other proper (file_module f module_tree) accepted c.unit spelled)

-- ---- all of it

all_from_files : UnitsAreProper → (files : List File) → AllByRecursion IsTranslated files → (chosen : List Chosen)
    → AllByRecursion (ComesFromOne files) chosen → AllByRecursion IsOfItself chosen
all_from_files proper files translated [] from = tt
all_from_files proper files translated (c ∷ chosen) ((f, there, one), from) =
    (from_file proper c f (of_contained IsTranslated files f translated there) one, all_from_files proper files translated chosen from)

modules_accepted : (chosen : List Chosen) → AllByRecursion IsOfItself chosen
    → AllByRecursion IsAccepted (map (λ (c : Chosen). c.«module») chosen)
modules_accepted [] of_all = tt
modules_accepted (c ∷ chosen) (of_one, of_all) = (of_one.0, modules_accepted chosen of_all)

units_are_items : (chosen : List Chosen) → AllByRecursion IsOfItself chosen
    → map items (map (λ (c : Chosen). c.«module») chosen) ≡ map (λ (c : Chosen). c.unit) chosen
units_are_items [] of_all = refl
units_are_items (c ∷ chosen) (of_one, of_all) = λ i. sym of_one.1 i ∷ units_are_items chosen of_all i

named_hosts : (hosts : List Host) → AllByRecursion (λ (h : Host). AreBytes h.name) hosts
    → AllByRecursion (λ (h : Host). All (λ b. b < 256) h.name) hosts
named_hosts [] of_all = tt
named_hosts (h ∷ hosts) (of_one, of_all) = (All-from_recursion (λ b. b < 256) h.name of_one, named_hosts hosts of_all)

-- ---- the theorem, of the units of c_unit and of others that are equal to them

of_set : UnitsDoTheSame → sets.UnitsLink → (s : LinkedSet) → sets.IsAcceptedSet s → LinkAndDoTheSame (sets.program_of s) s
of_set same link s accepted = record { wired = record { link = link s accepted; calls = calls_fit s accepted }; same = same s accepted }

pub translation_theorem : UnitsDoTheSame → sets.UnitsLink → UnitsAreProper → TranslationTheorem
translation_theorem same link proper files translated chosen hosts from named linked =
    let of_all : AllByRecursion IsOfItself chosen = all_from_files proper files translated chosen from in
    let s : LinkedSet = set_of chosen hosts in
    let accepted : sets.IsAcceptedSet s = record {
      linked = linked;
      accepted = modules_accepted chosen of_all;
      host_bytes = named_hosts hosts named;
    } in
    let program : sets.program_of s ≡ program_of chosen hosts = λ i. record { units = units_are_items chosen of_all i; hosts = hosts } in
    subst (λ (p : Program). LinkAndDoTheSame p s) program (of_set same link s accepted)
