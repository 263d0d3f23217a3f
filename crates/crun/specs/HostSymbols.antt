-- The symbols of hosts' functions (C11, 6.2.2 linkages of identifiers), and the first that comes twice.
use Rattle.std.specs.Prelude.{◌≡◌, ℕ, true, List, ◌∷◌, ◌++◌, map, take, flat_map, is_some, slice_get, Some}
use Rattle.w2c_base.specs.Lookup.{named}
use Rattle.w2c_base.specs.Run.{Host}
use Rattle.w2c_base.specs.Run as run
use Rattle.w2c_mangle.specs.declared.symbol.SymbolKind.TheVariants as symbol
use Rattle.w2c_mangle.specs.Symbols.{export_symbol_of}
use Rattle.c_tree.specs.Rules.{are_distinct}
use Rattle.c_tree.specs.Scope.{Name, is_among}
use Rattle.c_link.specs.declared.host_symbol.HostSymbol.{HostSymbol}
use Rattle.c_link.specs.Resolved.{symbol_names}

-- the symbol of a function of the host with this name, and its type
abbrev pub symbol_in : Name → run.HostFunction → HostSymbol
symbol_in host f = record { symbol = export_symbol_of host symbol.Func f.name; ty = f.ty }

-- those of a host in the order of its functions, and those of all hosts in their order
abbrev pub symbols_of_host : Host → List HostSymbol
symbols_of_host h = map (symbol_in h.name) h.functions

abbrev pub symbols_of_hosts : List Host → List HostSymbol
symbols_of_hosts hosts = flat_map symbols_of_host hosts

-- of symbols that come behind others, one is there already, and it is the first
pub record IsFirstTwice (before more : List HostSymbol) : Type 0 where
  pub front : List HostSymbol
  pub again : HostSymbol
  pub behind : List HostSymbol
  pub is : more ≡ front ++ again ∷ behind
  pub distinct : are_distinct (symbol_names (before ++ front)) ≡ true
  pub there : is_among again.symbol (symbol_names (before ++ front)) ≡ true

-- the host with this number has the first symbol that comes twice
pub record IsTwiceAt (hosts : List Host) (k : ℕ) : Type 0 where
  pub host : Host
  pub at : slice_get hosts k ≡ Some host
  pub first : IsFirstTwice (symbols_of_hosts (take k hosts)) (symbols_of_host host)

-- a table has the names of distinct symbols
pub record AreKnown (numbers : List (Name × ℕ)) (symbols : List HostSymbol) : Type 0 where
  pub known : (q : Name) → is_some (named q numbers) ≡ is_among q (symbol_names symbols)
  pub distinct : are_distinct (symbol_names symbols) ≡ true
