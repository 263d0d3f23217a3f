-- The functions that run first, by the numbers of their units and of their items there (C11, 5.1.2 program
-- startup).
use Rattle.std.specs.Prelude.{
  ◌≡◌,
  ℕ,
  ◌&&◌,
  Bool,
  true,
  false,
  if◌then◌else◌,
  List,
  [],
  ◌∷◌,
  ◌++◌,
  codes,
  filter_map,
  flat_map,
  Option,
  Some,
  None,
}
use Rattle.w2c_base.specs.Lookup.{numbered}
use Rattle.c_tree.specs.declared.tree.CType.TheVariants.{Void}
use Rattle.c_tree.specs.Tree as tree
use Rattle.c_tree.specs.Runtime.{same_func_type}
use Rattle.c_tree.specs.Scope.{func_type_of}
use Rattle.c_meaning.specs.State.{FuncAddress, UnitFunc}
use Rattle.c_meaning.specs.Linking.{Definition, Program, definition_of, is_init, is_init_symbol}
use Rattle.c_machine.specs.Threads.{definition_in}
use Rattle.c_objects.specs.Views.{Naming, item_name}
use Rattle.c_thread.specs.Linked.{items_at}

-- the numbers of a unit and of an item in it
abbrev pub UnitItem : Type 0
UnitItem = ℕ × ℕ

-- the function that an item of a unit defines
abbrev pub address_in : Naming → UnitItem → FuncAddress
address_in names f = UnitFunc f.0 (item_name names f.0 f.1)

-- an init function's symbol, with the escape of its module's name in it
abbrev pub init_symbol_around : List ℕ → List ℕ
init_symbol_around text = codes "w2cZ_" ++ text ++ codes "Z_i"

-- void without parameters
abbrev pub void_type : tree.FuncType
void_type = record { params = Void ∷ []; result = Void }

-- a function of external linkage runs first: it has an init symbol, and its type is void without parameters
abbrev pub is_init_func : tree.Func → Bool
is_init_func f = is_init_symbol f.name && same_func_type (func_type_of f) void_type

-- an item defines one
abbrev pub is_init_item : tree.Item → Bool
is_init_item item = elim (definition_of (0, item)) [ None ↦ false | Some d ↦ is_init d ]

abbrev pub init_entry : ℕ → ℕ × tree.Item → Option UnitItem
init_entry u entry = if is_init_item entry.1 then Some (u, entry.0) else None

-- those of a unit in the order of its items, and those of all units in their order
abbrev pub unit_inits : ℕ × List tree.Item → List UnitItem
unit_inits u = filter_map (init_entry u.0) (numbered u.1)

abbrev pub init_items : List (List tree.Item) → List UnitItem
init_items units = flat_map unit_inits (numbered units)

-- a function that runs first is defined there
pub record IsInitAt (p : Program) (f : UnitItem) : Type 0 where
  pub definition : Definition
  pub here : definition_in (items_at p f.0) f.1 ≡ Some definition
  pub first : is_init definition ≡ true
