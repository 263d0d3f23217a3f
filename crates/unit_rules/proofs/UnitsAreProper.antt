-- The unit of an accepted module is well formed, keeps the rules, and has its shape.
use Rattle.unit_rules.proofs.Common.{NamedModule, items, IsAccepted, HasShape, UnitsAreProper, BodiesKeepTheRules, BodiesAreFormed}
use Rattle.unit_rules.proofs.UnitRules.{unit_keeps_rules, unit_well_formed}
use Rattle.unit_rules.proofs.ShapeFuncs.{accessors_stand, functions_stand, exports_stand, init_stands}
use Rattle.unit_rules.proofs.ShapeLists.{defines_own, declares_all, types_declared, objects_same}

unit_shape : (m : NamedModule) → IsAccepted m → HasShape m (items m)
unit_shape m a = record {
  defines = defines_own m a;
  declares = declares_all m a;
  declared_types = types_declared m a;
  functions = functions_stand m a;
  objects = objects_same m a;
  exports = exports_stand m a;
  accessors = accessors_stand m a;
  init = init_stands m a;
}

pub units_are_proper : BodiesKeepTheRules → BodiesAreFormed → UnitsAreProper
units_are_proper keep formed m a = record {
  well_formed = unit_well_formed m a formed;
  keeps_rules = unit_keeps_rules m a keep;
  shape = unit_shape m a;
}
