-- What a journal can say: distinct symbols, names of bytes, and calls that fit, with numbers as arguments.
use Rattle.std.specs.Prelude.{◌≡◌, ℕ, List, flat_map, map, true, Some}
use Rattle.std.specs.List.{list_all, AllByRecursion}
use Rattle.w2c_base.specs.Run.{Host, HostFunction}
use Rattle.w2c_base.specs.Values.{IsNumber}
use Rattle.journal_lines.specs.Lines.{IsBytes}
use Rattle.c_hosts.specs.declared.journal.Asked.{Asked}
use Rattle.host_replay.specs.Fitting.{fits}
use Rattle.host_replay.specs.Reading.{symbol_at, symbol_of}
use Rattle.host_replay.specs.Texts.{Recorded}

-- the symbols of all functions, in order
abbrev pub symbols_of : List Host → List (List ℕ)
symbols_of hosts = flat_map (λ m. map (symbol_of m) m.functions) hosts

-- no two functions have one symbol
abbrev pub AreDistinct : List Host → Type 0
AreDistinct hosts = (h f k g : ℕ) (s : List ℕ) → symbol_at hosts h f ≡ Some s → symbol_at hosts k g ≡ Some s → (h ≡ k) × (f ≡ g)

abbrev pub HasName : HostFunction → Type 0
HasName f = IsBytes f.name

abbrev pub HasNames : Host → Type 0
HasNames m = IsBytes m.name × AllByRecursion HasName m.functions

abbrev pub HasNumbers : Asked → Type 0
HasNumbers a = AllByRecursion IsNumber a.args

pub record IsWritable (j : Recorded) : Type 0 where
  pub names : AllByRecursion HasNames j.hosts
  pub distinct : AreDistinct j.hosts
  pub fitting : list_all (fits j.hosts) j.entries ≡ true
  pub numbers : AllByRecursion HasNumbers j.entries
