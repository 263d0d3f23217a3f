-- The functions that units and hosts define for all units, by number, and their types (C11, 6.2.2 linkages
-- of identifiers, 6.9 external definitions).
use Rattle.std.specs.Prelude.{
  ◌≡◌,
  ℕ,
  if◌then◌else◌,
  is_some,
  List,
  [],
  ◌∷◌,
  ◌++◌,
  length,
  map,
  zip,
  take,
  drop,
  filter_map,
  flat_map,
  Option,
  Some,
  None,
  option_map,
}
use Rattle.std.specs.List.{range_with_len}
use Rattle.w2c_base.specs.Lookup.{numbered}
use Rattle.w2c_base.specs.Run.{Host}
use Rattle.c_tree.specs.Tree as tree
use Rattle.c_tree.specs.Scope.{Name, func_type_of}
use Rattle.c_tree.specs.View.{func_type_of as type_of_c}
use Rattle.c_tree.specs.TypesInC.{c_func_type_of}
use Rattle.c_link.specs.declared.host_symbol.HostSymbol.{HostSymbol}
use Rattle.c_link.specs.Offers.{defined_func}
use Rattle.c_objects.specs.declared.held.FuncId.{FuncId}
use Rattle.c_objects.specs.declared.held.FuncId.TheVariants as func
use Rattle.c_thread.specs.declared.signatures.TypeList.{TypeList}
use Rattle.crun_startup.specs.declared.symbols.Seen.{Seen}

-- a symbol, and the function that it names
abbrev pub Entry : Type 0
Entry = Name × FuncId

abbrev pub entry_of : Seen → Entry
entry_of s = (s.symbol.now, s.func)

abbrev pub name_in : Seen → Name
name_in s = s.symbol.now

abbrev pub func_in : Seen → FuncId
func_in s = s.func

-- the function that an item of a unit defines for all units
abbrev pub item_entry : ℕ → ℕ × tree.Item → Option Entry
item_entry u entry = option_map (λ (f : tree.Func). (f.name, func.Unit u entry.0)) (defined_func entry.1)

abbrev pub unit_entries : ℕ × List tree.Item → List Entry
unit_entries u = filter_map (item_entry u.0) (numbered u.1)

-- the functions of a host that has so many, and of all hosts
abbrev pub ids_of : ℕ × ℕ → List FuncId
ids_of h = map (func.Host h.0) (range_with_len 0 h.1)

abbrev pub host_ids : List ℕ → List FuncId
host_ids counts = flat_map ids_of (numbered counts)

abbrev pub symbol_of : HostSymbol → Name
symbol_of h = h.symbol

abbrev pub host_entries : List HostSymbol → List ℕ → List Entry
host_entries hosts counts = zip (map symbol_of hosts) (host_ids counts)

abbrev pub entries : List (List tree.Item) → List HostSymbol → List ℕ → List Entry
entries units hosts counts = flat_map unit_entries (numbered units) ++ host_entries hosts counts

-- the type of the function that an item defines
abbrev pub item_type : tree.Item → Option tree.FuncType
item_type (tree.Array name count bytes) = None
item_type (tree.Var ty name number) = None
item_type (tree.Function f) = if is_some f.body then Some (func_type_of f) else None

-- a list in parts of so many
abbrev pub parts : {A : Type 0} → List ℕ → List A → List (List A)
parts [] xs = []
parts (n ∷ counts) xs = take n xs ∷ parts counts (drop n xs)

-- the hosts have so many functions each
abbrev pub HaveCounts : List Host → List ℕ → Type 0
HaveCounts hosts counts = map (λ (h : Host). length h.functions) hosts ≡ counts

-- the C type of a host's function
abbrev pub host_type : HostSymbol → tree.FuncType
host_type h = c_func_type_of h.ty

-- the types of a list, none where no function is
abbrev pub types_in : TypeList → List (Option tree.FuncType)
types_in l = map (option_map type_of_c) l.types.items
