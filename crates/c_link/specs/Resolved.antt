-- Each symbol that a unit declares is defined once, with the declared type.
use Rattle.std.specs.Prelude.{◌≡◌, ℕ, true, List, map, slice_get, Some}
use Rattle.w2c_base.specs.Lookup.{named}
use Rattle.c_tree.specs.Tree as tree
use Rattle.c_tree.specs.Runtime.{same_func_type}
use Rattle.c_tree.specs.Rules.{are_distinct}
use Rattle.c_tree.specs.Scope.{Name, func_type_of as type_of_func}
use Rattle.c_link.specs.declared.host_symbol.HostSymbol.{HostSymbol}
use Rattle.c_link.specs.Offers.{Offered, c_symbols, external_func, offers}

abbrev pub symbol_names : List HostSymbol → List Name
symbol_names hosts = map (λ (h : HostSymbol). h.symbol) hosts

-- no symbol is defined twice, by two hosts, two units, or a host and a unit
abbrev pub AreDefinedOnce : List (List tree.Item) → List HostSymbol → Type 0
AreDefinedOnce units hosts = are_distinct (map (λ (e : Name × Offered). e.0) (offers units (c_symbols hosts))) ≡ true

-- the symbol of a function is defined, with its type
pub record IsResolved (units : List (List tree.Item)) (hosts : List HostSymbol) (f : tree.Func) : Type 0 where
  pub by : Offered
  pub found : named f.name (offers units (c_symbols hosts)) ≡ Some by
  pub typed : same_func_type by.1 (type_of_func f) ≡ true

-- so is each function of external linkage that a unit declares
abbrev pub AreResolved : List (List tree.Item) → List HostSymbol → Type 0
AreResolved units hosts =
    (u : ℕ) (items : List tree.Item) (i : ℕ) (item : tree.Item) (f : tree.Func) → slice_get units u ≡ Some items
    → slice_get items i ≡ Some item → external_func item ≡ Some f
    → IsResolved units hosts f
