-- The functions that hosts and units define for all units, by their symbols (C11, 6.2.2 linkages of
-- identifiers, 6.9 external definitions).
use Rattle.std.specs.Prelude.{◌≡◌, ℕ, if◌then◌else◌, is_some, List, ◌++◌, map, filter_map, flat_map, Option, Some, None, option_map}
use Rattle.w2c_base.specs.Lookup.{if_found, named, numbered}
use Rattle.c_tree.specs.Tree as tree
use Rattle.c_tree.specs.View.{func_type_of}
use Rattle.c_tree.specs.Scope.{Name, func_type_of as type_of_func}
use Rattle.c_tree.specs.TypesInC.{c_func_type_of}
use Rattle.c_link.specs.declared.host_symbol.HostSymbol.{HostSymbol}
use Rattle.c_link.specs.declared.offers.Owner.{Owner}
use Rattle.c_link.specs.declared.offers.Owner.TheVariants as owner
use Rattle.c_link.specs.declared.offers.Offer.{Offer}

-- who defines a function, and its type
abbrev pub Offered : Type 0
Offered = Owner × tree.FuncType

abbrev pub offered_by : Offer → Offered
offered_by offer = (offer.owner, func_type_of offer.ty)

-- the type, where a unit defines it
abbrev pub unit_type_of : Offered → Option tree.FuncType
unit_type_of (owner.Host k, ty) = None
unit_type_of (owner.Unit u, ty) = Some ty

-- what a table holds of a name
abbrev pub told : Option Offer → Option Offered
told o = option_map offered_by o

-- a host's symbol with its C type
abbrev pub c_symbol : HostSymbol → Name × tree.FuncType
c_symbol h = (h.symbol, c_func_type_of h.ty)

abbrev pub c_symbols : List HostSymbol → List (Name × tree.FuncType)
c_symbols hosts = map c_symbol hosts

abbrev pub host_offer : ℕ × (Name × tree.FuncType) → Name × Offered
host_offer h = (h.1.0, (owner.Host h.0, h.1.1))

abbrev pub host_offers : List (Name × tree.FuncType) → List (Name × Offered)
host_offers symbols = map host_offer (numbered symbols)

-- the function of external linkage that an item declares, and the one that it defines
abbrev pub external_func : tree.Item → Option tree.Func
external_func (tree.Array name count bytes) = None
external_func (tree.Var ty name number) = None
external_func (tree.Function f) = if f.is_static then None else Some f

abbrev pub defined_func : tree.Item → Option tree.Func
defined_func item = if_found (external_func item) (λ f. if is_some f.body then Some f else None)

abbrev pub func_offer : ℕ → tree.Func → Name × Offered
func_offer u f = (f.name, (owner.Unit u, type_of_func f))

abbrev pub item_offer : ℕ → tree.Item → Option (Name × Offered)
item_offer u item = option_map (func_offer u) (defined_func item)

abbrev pub unit_offers : ℕ × List tree.Item → List (Name × Offered)
unit_offers u = filter_map (item_offer u.0) u.1

-- those of the hosts, then those of the units in their order
abbrev pub offers : List (List tree.Item) → List (Name × tree.FuncType) → List (Name × Offered)
offers units symbols = host_offers symbols ++ flat_map unit_offers (numbered units)

-- who defines a symbol
abbrev pub owner_of : List (List tree.Item) → List (Name × tree.FuncType) → Name → Option Owner
owner_of units symbols symbol = option_map (λ (o : Offered). o.0) (named symbol (offers units symbols))

-- a table tells of each name what stands first beside it
abbrev pub Holds : List (Name × Offer) → List (Name × Offered) → Type 0
Holds table entries = (q : Name) → told (named q table) ≡ named q entries
