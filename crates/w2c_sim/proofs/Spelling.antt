-- The text of a module's unit spells this unit and no other.
use Rattle.w2c_sim.proofs.Common.{◌≡◌, ℕ, List, Module, CSpells, Formed, print_of, NamedModule, items, IsAccepted, IsModuleOf, SpellsUnit}
use Rattle.w2c_sim.proofs.Common.{text_of}
use Rattle.c_tree.specs.Tree as tree
use Rattle.c_tree.proofs.WellFormedUnits.{formed}
use Rattle.c_tree.proofs.OneUnit.{one_unit}
use Rattle.c_print.proofs.Spells as print
use Rattle.unit_rules.specs.Shape.{UnitsAreProper}
use Rattle.w2c_sim.proofs.Accepting.{module_is_accepted}

pub unit_is_formed : UnitsAreProper → (m : NamedModule) → IsAccepted m → Formed (items m)
unit_is_formed proper m is = formed (items m) (proper m is).well_formed

pub spells_items : UnitsAreProper → (m : NamedModule) → IsAccepted m → CSpells (items m) (print_of (items m))
spells_items proper m is = print.spells (items m) (unit_is_formed proper m is)

pub spells_no_other : UnitsAreProper → (m : NamedModule) → IsAccepted m → (other : List tree.Item)
    → CSpells other (print_of (items m)) → other ≡ items m
spells_no_other proper m is other spelled = one_unit other (items m) (print_of (items m)) spelled (spells_items proper m is)

pub spells_unit : UnitsAreProper → (bytes name : List ℕ) (module_tree : Module) → IsModuleOf bytes name module_tree
    → SpellsUnit (record { name = name; tree = module_tree }) (text_of module_tree name)
spells_unit proper bytes name module_tree is =
    let m : NamedModule = record { name = name; tree = module_tree } in
    let accepted : IsAccepted m = module_is_accepted bytes name module_tree is in
    record {
      unit = items m;
      spells = spells_items proper m accepted;
      only = spells_no_other proper m accepted;
      keeps_rules = (proper m accepted).keeps_rules;
      shape = (proper m accepted).shape;
    }
