-- What an instantiation leaves alone: other modules' objects in the store, and the names of all units' objects with their types.
use Rattle.unit_meaning.proofs.Common.{◌≡◌, ℕ, ◌≢◌, List, map, slice_get, Some, Trail, Back, CallStops, Called, LinkedSet, Task, Program}
use Rattle.unit_meaning.proofs.Common.{Progress, after, run_of, Objects, do_tasks, object_types}
use Rattle.wasm_meaning.specs.Store as store

-- the store behind tasks
abbrev pub store_of : Called → store.Store
store_of (Back left value made trail) = made
store_of (CallStops why made trail) = made

-- Of other modules nothing is made by a module's tasks, and a unit's objects keep their names and their types.
abbrev pub TasksMakeOwn : Type 0
TasksMakeOwn =
    (s : LinkedSet) (u v : ℕ) (tasks : List Task) (n : ℕ) (made : store.Store) (trail : Trail) → v ≢ u
    → slice_get made v ≡ Some store.no_objects → slice_get (store_of (do_tasks s u tasks n made trail)) v ≡ Some store.no_objects

abbrev pub units_of : Progress → List Objects
units_of x = (run_of x).units

abbrev pub TypesStay : Type 0
TypesStay = (p : Program) (k : ℕ) (from : Progress) → map object_types (units_of (after p k from)) ≡ map object_types (units_of from)
