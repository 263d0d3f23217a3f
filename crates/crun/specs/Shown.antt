-- The objects of units by their names, as a session shows them (C11, 6.2.2 linkages of identifiers).
use Rattle.std.specs.Prelude.{◌≡◌, ℕ, List, length, slice_get, Option, Some, None}
use Rattle.w2c_base.specs.declared.value.Value.{Value}
use Rattle.w2c_base.specs.Lookup.{if_found, named}
use Rattle.lin_mem.specs.Linear.{Linear}
use Rattle.c_meaning.specs.State.{Name, CValue, Number, Pointer, FuncPointer, FuncAddress, UnitFunc, HostFunc, Objects, Vars}
use Rattle.c_meaning.specs.State as state
use Rattle.c_machine.specs.Names.{number_in, Finds}
use Rattle.c_objects.specs.declared.store.UnitObjects.{UnitObjects}
use Rattle.c_objects.specs.Objects.{maximum_of}
use Rattle.c_objects.specs.Stores.{objects_of}
use Rattle.c_objects.specs.Views.{Naming, UnitNames, item_name}
use Rattle.c_thread.specs.declared.scope.ObjectTables.{ObjectTables}
use Rattle.crun.specs.declared.shown.Element.{Element}
use Rattle.crun.specs.declared.shown.Owner.{Owner}
use Rattle.crun.specs.declared.shown.Owner.TheVariants as owner

abbrev pub vars_of : Objects → Vars
vars_of o = o.vars

abbrev pub memories_of : Objects → List (Name × state.Memory)
memories_of o = o.memories

abbrev pub tables_of : Objects → List (Name × state.Table)
tables_of o = o.tables

-- the object of one kind with this name that the unit with this number has
abbrev pub object_in : {A : Type 0} → List Objects → ℕ → (Objects → List (Name × A)) → Name → Option A
object_in units unit kind name = if_found (slice_get units unit) (λ o. named name (kind o))

abbrev pub number_held : CValue → Option Value
number_held (Number v) = Some v
number_held (Pointer to) = None
number_held (FuncPointer to) = None

abbrev pub bytes_of : state.Memory → List ℕ
bytes_of m = m.bytes

abbrev pub bytes_in : Linear → List ℕ
bytes_in m = m.bytes

-- a memory's maximum in pages; 4294967296 means none
abbrev pub max_of : state.Memory → ℕ
max_of m = m.max

abbrev pub max_in : Linear → ℕ
max_in m = maximum_of m.most

abbrev pub elements_count : state.Table → ℕ
elements_count t = length t.elements

-- the function that an element names, and the element
abbrev pub function_seen : Naming → Owner → ℕ → FuncAddress
function_seen names (owner.Unit unit) item = UnitFunc unit (item_name names unit item)
function_seen names (owner.Host host) item = HostFunc host item

abbrev pub element_seen : Naming → Element → state.Element
element_seen names e = record { func = function_seen names e.owner e.item; signature = e.sig }

-- the objects of a unit are found by these tables and are these
pub record AreFound (names : Naming) (units : List Objects) (u : ℕ) (t : ObjectTables) (o : UnitObjects) : Type 0 where
  pub unit : UnitNames
  pub unit_is : slice_get units u ≡ Some (objects_of names unit o)
  pub vars : Finds t.vars (λ q. number_in q unit.vars)
  pub memories : Finds t.memories (λ q. number_in q unit.memories)
  pub tables : Finds t.tables (λ q. number_in q unit.tables)
