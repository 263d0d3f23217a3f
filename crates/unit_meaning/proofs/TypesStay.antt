-- No statement makes or loses an object of file scope, or changes its type: the names of each unit's objects stay, and
-- the types of what they hold.
use Rattle.unit_meaning.proofs.Common.{◌≡◌, List, map, Some, option_map, refl, ap, ◌∙◌, Event, Phase, Program, Entry, begin_entry, Machine}
use Rattle.unit_meaning.proofs.Common.{Objects, object_types, zero_like, zeroed}
use Rattle.c_meaning.specs.State.{Memory, Table, Name}
use Rattle.c_meaning.proofs.StepsKeep.{KeptByObjects, OfMachine, ShownAlike, names_of_entries, units_kept, entry_keeps, after_keeps}
use Rattle.init_meaning.proofs.Held.{one_zero_of_one_type, zeroed_kept}
use Rattle.unit_meaning.proofs.Untouched.{units_of, TypesStay}

-- a variable that holds a value of the type gets another one
alike : ShownAlike object_types
alike = record {
  var = λ o name old v there same. ap (λ vars. (
    vars,
    map (λ (e : Name × Memory). e.0) o.memories,
    map (λ (e : Name × Table). e.0) o.tables,
  )) (zeroed_kept name v o.vars (ap (option_map zero_like) there ∙ ap Some (one_zero_of_one_type old v same)));
  memory = λ o name new. ap (λ names. (zeroed o.vars, names, map (λ (e : Name × Table). e.0) o.tables))
      (names_of_entries name new o.memories);
  table = λ o name new. ap (λ names. (zeroed o.vars, map (λ (e : Name × Memory). e.0) o.memories, names))
      (names_of_entries name new o.tables);
}

-- these are the types
abbrev AreTypes : List Objects → List Event → List Objects → Type 0
AreTypes units events now = map object_types now ≡ map object_types units

types_kept : (units : List Objects) → KeptByObjects (OfMachine (AreTypes units))
types_kept units = units_kept object_types alike (map object_types units)

pub entry_units : (p : Program) (m : Machine) (last : Phase) (entries : List Entry)
    → map object_types (units_of (begin_entry p m last entries)) ≡ map object_types m.units
entry_units p m last entries =
    entry_keeps p (AreTypes m.units) (types_kept m.units) (λ m a reply replies is has. has) (λ m value has. has) m last entries refl

pub types_stay : TypesStay
types_stay p k from =
    after_keeps p (AreTypes (units_of from)) (types_kept (units_of from)) (λ m a reply replies is has. has) (λ m value has. has) k from refl
