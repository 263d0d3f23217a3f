-- What an expression sees of linked units that run (C11, 6.2.1 scopes of identifiers).
use Rattle.std.specs.Prelude.{◌≡◌, ℕ, if◌then◌else◌, List, map, bytes_eq, slice_get, Option, Some, None, option_map, Result, Ok, Err}
use Rattle.std.specs.Option.{option_or}
use Rattle.w2c_base.specs.declared.value.Value.TheVariants.{I32}
use Rattle.w2c_base.specs.Lookup.{if_found, named}
use Rattle.c_tree.specs.Tree as tree
use Rattle.c_tree.specs.View.{unit_of}
use Rattle.c_meaning.specs.State.{Name, Machine, Running, CValue, Evaluated, Is, Bad, NoRule}
use Rattle.c_meaning.specs.Linking.{Program, array_named, func_named}
use Rattle.c_meaning.specs.Machine.{is_object, var_in}
use Rattle.c_meaning.specs.Step.{depth_name, in_unit, value_of}
use Rattle.c_objects.specs.declared.held.Held.{Held}
use Rattle.c_objects.specs.declared.held.Held.TheVariants as held
use Rattle.c_objects.specs.declared.held.Object.TheVariants as object
use Rattle.c_objects.specs.declared.held.FuncId.{FuncId}
use Rattle.c_objects.specs.declared.held.FuncId.TheVariants as func
use Rattle.c_objects.specs.declared.held.ObjectId.{ObjectId}
use Rattle.c_objects.specs.Stores.{var_at}
use Rattle.c_objects.specs.Views.{Naming, address_of, func_of, value_of as held_of}
use Rattle.c_thread.specs.declared.scope.ObjectTables.{ObjectTables}
use Rattle.c_thread.specs.declared.scope.Symbols.{Symbols}
use Rattle.c_thread.specs.declared.scope.UnitScope.{UnitScope}
use Rattle.c_machine.specs.declared.evaluation.Fault.{Fault}
use Rattle.c_machine.specs.declared.evaluation.Fault.TheVariants as fault

-- what names hold, the bytes of arrays, what stands at addresses, and what addresses and functions
-- names stand for
pub record Sight : Type 0 where
  pub held : Name → Option Held
  pub bytes : Name → Option (List ℕ)
  pub var : ObjectId → Option Held
  pub object : Name → Option ObjectId
  pub func : Name → Option FuncId

-- it is what the meaning of C says
pub record Sees (names : Naming) (s : Sight) (p : Program) (m : Machine) (r : Running) : Type 0 where
  pub values_are : (name : Name) → value_of m r name ≡ option_map (held_of names) (s.held name)
  pub arrays_are : (name : Name) → array_named p r.unit name ≡ s.bytes name
  pub vars_are : (at : ObjectId) → var_in m (address_of names at) ≡ option_map (held_of names) (s.var at)
  pub objects_are : (name : Name) → (if is_object m (in_unit r name) then Some (in_unit r name) else None) ≡ option_map
      (address_of names) (s.object name)
  pub funcs_are : (name : Name) → func_named p r.unit name ≡ option_map (func_of names) (s.func name)

-- what an evaluation to a number or a pointer came to
abbrev pub held_evaluated : Naming → Result Held Fault → Evaluated CValue
held_evaluated names (Ok v) = Is (held_of names v)
held_evaluated names (Err (fault.Undefined kind)) = Bad kind
held_evaluated names (Err fault.NoRule) = NoRule

-- what the evaluation of arguments came to
abbrev pub all_evaluated : {V : Type 0} → Naming → (V → List Held) → Result V Fault → Evaluated (List CValue)
all_evaluated names items (Ok values) = Is (map (held_of names) (items values))
all_evaluated names items (Err (fault.Undefined kind)) = Bad kind
all_evaluated names items (Err fault.NoRule) = NoRule

-- the bytes of the array that an item is
abbrev pub item_bytes : tree.Item → Option (List ℕ)
item_bytes (tree.Array name count bytes) = Some bytes
item_bytes (tree.Var ty name number) = None
item_bytes (tree.Function f) = None

-- what a scope sees
abbrev pub held_in : UnitScope → Name → Option Held
held_in s name =
    if bytes_eq name depth_name then Some (held.Number (I32 s.depth))
    else option_or
    (if_found (named name s.locals.now) (λ i. slice_get s.values.now i))
    (if_found (named name s.objects.now.vars) (λ i. var_at s.store.now.units.items (record { unit = s.unit; object = object.Variable i })))

abbrev pub bytes_in : UnitScope → Name → Option (List ℕ)
bytes_in s name = if_found (named name s.objects.now.arrays) (λ i. if_found (slice_get (unit_of s.items.now) i) item_bytes)

abbrev pub object_in : UnitScope → Name → Option ObjectId
object_in s name =
    option_map
    (λ o. record { unit = s.unit; object = o })
    (option_or
    (option_map object.Variable (named name s.objects.now.vars))
    (option_or
    (option_map object.Memory (named name s.objects.now.memories))
    (option_map object.Table (named name s.objects.now.tables))))

-- the function of a symbol, and of a name of a unit: one of its own, else that of the symbol
abbrev pub symbol_in : Symbols → Name → Option FuncId
symbol_in s name = if_found (named name s.numbers) (λ i. slice_get s.funcs.items i)

abbrev pub func_at : ObjectTables → Name → Option FuncId
func_at t name = option_or (option_map (func.Unit t.unit) (named name t.functions)) (symbol_in t.symbols.value name)

abbrev pub func_in : UnitScope → Name → Option FuncId
func_in s name = func_at s.objects.now name

abbrev pub sight_of : UnitScope → Sight
sight_of s = record {
  held = held_in s;
  bytes = bytes_in s;
  var = var_at s.store.now.units.items;
  object = object_in s;
  func = func_in s;
}
