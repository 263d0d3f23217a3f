-- Units and symbols as a program of the meaning of C.
use Rattle.std.specs.Prelude.{◌≡◌, ℕ, List, slice_get, Option, Some, option_map}
use Rattle.c_tree.specs.Tree as tree
use Rattle.c_tree.specs.Scope.{Name}
use Rattle.c_tree.specs.FirstBroken.{KeepsRules}
use Rattle.c_tree.specs.Spelled.{Formed}
use Rattle.c_meaning.specs.State.{FuncAddress, UnitFunc}
use Rattle.c_meaning.specs.Linking as linking
use Rattle.c_link.specs.declared.host_symbol.HostSymbol.{HostSymbol}
use Rattle.c_link.specs.declared.offers.Owner.{Owner}
use Rattle.c_link.specs.declared.offers.Owner.TheVariants as owner
use Rattle.c_link.specs.Offers.{c_symbols}

-- a program of these units whose hosts have these symbols
pub record IsProgramOf (p : linking.Program) (units : List (List tree.Item)) (hosts : List HostSymbol) : Type 0 where
  pub units_are : p.units ≡ units
  pub symbols_are : linking.symbols_of p.hosts ≡ c_symbols hosts

-- some text spells the unit, and it keeps the rules
abbrev pub IsChecked : List tree.Item → Type 0
IsChecked items = Formed items × KeepsRules items

-- so does each unit
abbrev pub AllChecked : List (List tree.Item) → Type 0
AllChecked units = (k : ℕ) (items : List tree.Item) → slice_get units k ≡ Some items → IsChecked items

-- what defines a symbol, as a function of the program
abbrev pub address_in : linking.Program → Name → Owner → Option FuncAddress
address_in p symbol (owner.Unit u) = Some (UnitFunc u symbol)
address_in p symbol (owner.Host k) = option_map (λ (s : linking.HostSymbol). s.address) (slice_get (linking.host_symbols p.hosts) k)
