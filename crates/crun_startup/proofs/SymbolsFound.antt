-- What symbols stand for by number is what they stand for in the meaning of C.
use Rattle.crun_startup.proofs.Common.{◌≡◌, ℕ, suc, ◌+◌, Bool, true, false, cond, List, [], ◌∷◌, ◌++◌, map, length, get_or, is_some}
use Rattle.crun_startup.proofs.Common.{if◌then◌else◌, slice_get, Some, None, filter, Option, option_map, zip, flat_map, filter_map}
use Rattle.crun_startup.proofs.Common.{bytes_eq, sym, refl, ap, ◌∙◌, arith, map-append, slice_get-map, bytes_eq-Decides, position_from}
use Rattle.crun_startup.proofs.Common.{range_with_len, option_or, named, numbered, Host, HostFunction, named-append, Name, CType}
use Rattle.crun_startup.proofs.Common.{symbol_pair, Definition, Program, c_func_type_of, defined_for_all, external_func, FuncAddress}
use Rattle.crun_startup.proofs.Common.{HostFunc, UnitFunc, definitions_from, first_under, seen_under, c_symbols, IsProgramOf, HostSymbol}
use Rattle.crun_startup.proofs.Common.{Naming, func_of, item_name, FuncId, Entry, HaveCounts, entries, entry_of, func_in, host_entries}
use Rattle.crun_startup.proofs.Common.{host_ids, item_entry, name_in, unit_entries, function_name, naming_of, unit_names}
use Rattle.w2c_mangle.specs.declared.symbol.SymbolKind.TheVariants as symbol
use Rattle.w2c_mangle.specs.Symbols.{export_symbol_of}
use Rattle.c_tree.specs.Tree as tree
use Rattle.c_meaning.specs.Linking as linking
use Rattle.c_objects.specs.declared.held.FuncId.TheVariants as func
use Rattle.crun_startup.specs.declared.symbols.Seen.{Seen}

-- ---- one unit

abbrev pub entries_from : ℕ → ℕ → List tree.Item → List Entry
entries_from u k items = filter_map (item_entry u) (zip (range_with_len k (length items)) items)

abbrev pub number_in_unit : ℕ → Option Definition → Option FuncId
number_in_unit u d = option_map (λ (d : Definition). func.Unit u d.item) d

function_says : (u k : ℕ) (q : Name) (items : List tree.Item) (is_static : Bool) (result : CType) (name : Name)
    (params : List tree.Param) (o : Option tree.Body)
    → named q (entries_from u (k + 1) items) ≡ number_in_unit u (first_under (k + 1) q items)
    → named q (entries_from u k (tree.Function (record
    { is_static = is_static; result = result; name = name; params = params; body = o }) ∷ items))
    ≡ number_in_unit u (first_under k q (tree.Function (record
    { is_static = is_static; result = result; name = name; params = params; body = o }) ∷ items))
function_says u k q items true result name params None e = e
function_says u k q items false result name params None e = e
function_says u k q items true result name params (Some body) e = e
function_says u k q items false result name params (Some body) e = by_test (bytes_eq name q)
  where
    f : tree.Func
    f = record { is_static = false; result = result; name = name; params = params; body = Some body }

    others : List Definition
    others = filter (seen_under q) (definitions_from (k + 1) items)

    by_test : (b : Bool) → (if b then Some (func.Unit u k) else named q (entries_from u (k + 1) items))
        ≡ number_in_unit u (slice_get (if b then record { item = k; func = f; body = body } ∷ others else others) 0)
    by_test true = refl
    by_test false = e

pub says_from : (u k : ℕ) (q : Name) (items : List tree.Item) → named q (entries_from u k items) ≡ number_in_unit u (first_under k q items)
says_from u k q [] = refl
says_from u k q (tree.Array name count bytes ∷ items) = says_from u (k + 1) q items
says_from u k q (tree.Var ty name number ∷ items) = says_from u (k + 1) q items
says_from u k q (tree.Function f ∷ items) =
    function_says u k q items f.is_static f.result f.name f.params f.body (says_from u (k + 1) q items)

-- the item of a definition has its name
abbrev Placed : ℕ → Name → List tree.Item → Definition → Type 0
Placed k q items d = (j : ℕ) × (d.item ≡ k + j) × (get_or (map function_name items) j [] ≡ q)

placed_later : (k : ℕ) (q : Name) (x : tree.Item) (items : List tree.Item) (d : Definition) → Placed (k + 1) q items d
    → Placed k q (x ∷ items) d
placed_later k q x items d rest =
    let number : (k + 1) + rest.0 ≡ k + suc rest.0 = omega arith in
    (suc rest.0, rest.1 ∙ number, rest.2)

function_placed : (k : ℕ) (q : Name) (items : List tree.Item) (d : Definition) (is_static : Bool) (result : CType) (name : Name)
    (params : List tree.Param) (o : Option tree.Body) → (first_under (k + 1) q items ≡ Some d → Placed (k + 1) q items d)
    → first_under k q (tree.Function (record
    { is_static = is_static; result = result; name = name; params = params; body = o }) ∷ items) ≡ Some d
    → Placed k q (tree.Function (record
    { is_static = is_static; result = result; name = name; params = params; body = o }) ∷ items) d
function_placed k q items d true result name params None rest e =
    placed_later k q (tree.Function (record { is_static = true; result = result; name = name; params = params; body = None })) items d
    (rest e)
function_placed k q items d false result name params None rest e =
    placed_later k q (tree.Function (record { is_static = false; result = result; name = name; params = params; body = None })) items d
    (rest e)
function_placed k q items d true result name params (Some body) rest e =
    placed_later k q (tree.Function (record
    { is_static = true; result = result; name = name; params = params; body = Some body })) items d (rest e)
function_placed k q items d false result name params (Some body) rest e = by_test (bytes_eq name q) refl e
  where
    f : tree.Func
    f = record { is_static = false; result = result; name = name; params = params; body = Some body }

    here : Definition
    here = record { item = k; func = f; body = body }

    others : List Definition
    others = filter (seen_under q) (definitions_from (k + 1) items)

    by_test : (b : Bool) → bytes_eq name q ≡ b → slice_get (if b then here ∷ others else others) 0 ≡ Some d
        → Placed k q (tree.Function f ∷ items) d
    by_test true same e =
        let is : here ≡ d = cc in
        let number : k ≡ k + 0 = omega arith in
        (0, ap (λ (d : Definition). d.item) (sym is) ∙ number, (bytes_eq-Decides name q).0 same)
    by_test false same e = placed_later k q (tree.Function f) items d (rest e)

placed : (k : ℕ) (q : Name) (items : List tree.Item) (d : Definition) → first_under k q items ≡ Some d → Placed k q items d
placed k q [] d e = absurd cc
placed k q (tree.Array name count bytes ∷ items) d e = placed_later k q (tree.Array name count bytes) items d (placed (k + 1) q items d e)
placed k q (tree.Var ty name number ∷ items) d e = placed_later k q (tree.Var ty name number) items d (placed (k + 1) q items d e)
placed k q (tree.Function f ∷ items) d e =
    function_placed k q items d f.is_static f.result f.name f.params f.body (placed (k + 1) q items d) e

-- ---- all units

abbrev defines_it : Name → List tree.Item → Bool
defines_it q items = is_some (defined_for_all items q)

-- the symbol of a host's function
abbrev pub symbol_at : ℕ × Host → ℕ × HostFunction → linking.HostSymbol
symbol_at h f = record {
  symbol = export_symbol_of h.1.name symbol.Func f.1.name;
  address = HostFunc h.0 f.0;
  ty = c_func_type_of f.1.ty;
}

module _ (names : Naming) where
  units_found : (k : ℕ) (q : Name) (us : List (List tree.Item))
      → ((i : ℕ) → slice_get names (k + i) ≡ option_map unit_names (slice_get us i))
      → option_map (func_of names) (named q (flat_map unit_entries (zip (range_with_len k (length us)) us)))
      ≡ option_map (λ u. UnitFunc u q) (position_from (defines_it q) k us)
  units_found k q [] are = refl
  units_found k q (items ∷ us) are =
      let behind : (i : ℕ) → k + suc i ≡ (k + 1) + i = λ i. omega arith in
      ap (option_map (func_of names))
      (named-append q (unit_entries (k, items)) rest ∙ ap (λ o. option_or o (named q rest)) (says_from k 0 q items))
      ∙ go (defined_for_all items q) refl
      (units_found (k + 1) q us (λ i. ap (slice_get names) (sym (behind i)) ∙ are (suc i)))
    where
      rest : List Entry
      rest = flat_map unit_entries (zip (range_with_len (k + 1) (length us)) us)

      later : Option ℕ
      later = position_from (defines_it q) (k + 1) us

      go : (d : Option Definition) → defined_for_all items q ≡ d
          → option_map (func_of names) (named q rest) ≡ option_map (λ u. UnitFunc u q) later
          → option_map (func_of names) (option_or (number_in_unit k d) (named q rest))
          ≡ option_map (λ u. UnitFunc u q) (cond (is_some d) (Some k) later)
      go None is e = e
      go (Some d) is e =
          let at = placed 0 q items d is in
          let here : k ≡ k + 0 = omega arith in
          let number : 0 + at.0 ≡ at.0 = omega arith in
          let name : item_name names k d.item ≡ q =
          ap (λ o. elim o [ None ↦ [] | Some n ↦ get_or n.items d.item [] ]) (ap (slice_get names) here ∙ are 0)
          ∙ ap (λ i. get_or (map function_name items) i []) (at.1 ∙ number) ∙ at.2 in
          ap (λ n. Some (UnitFunc k n)) name

  -- ---- hosts

  abbrev under : Name → linking.HostSymbol → Bool
  under q s = bytes_eq s.symbol q

  abbrev address_in : linking.HostSymbol → FuncAddress
  address_in s = s.address

  hosts_found : (q : Name) (hs : List linking.HostSymbol) (xs : List Name) (ids : List FuncId)
      → map (λ (s : linking.HostSymbol). s.symbol) hs ≡ xs → map address_in hs ≡ map (func_of names) ids
      → option_map (func_of names) (named q (zip xs ids)) ≡ option_map address_in (slice_get (filter (under q) hs) 0)
  hosts_found q [] [] ids e f = refl
  hosts_found q (s ∷ hs) (x ∷ xs) (id ∷ ids) e f =
      let symbol : s.symbol ≡ x = cc in
      let symbols : map (λ (s : linking.HostSymbol). s.symbol) hs ≡ xs = cc in
      let address : s.address ≡ func_of names id = cc in
      let addresses : map address_in hs ≡ map (func_of names) ids = cc in
      ap (λ x. option_map (func_of names) (if bytes_eq x q then Some id else named q (zip xs ids))) (sym symbol)
      ∙ go (bytes_eq s.symbol q) address (hosts_found q hs xs ids symbols addresses)
    where
      go : (b : Bool) → s.address ≡ func_of names id
          → option_map (func_of names) (named q (zip xs ids)) ≡ option_map address_in (slice_get (filter (under q) hs) 0)
          → option_map (func_of names) (if b then Some id else named q (zip xs ids))
          ≡ option_map address_in (slice_get (if b then s ∷ filter (under q) hs else filter (under q) hs) 0)
      go true here rest = ap Some (sym here)
      go false here rest = rest
  hosts_found q _ _ _ e f = absurd cc

  -- the functions of one host, and of all
  functions_numbered : (h : ℕ × Host) (k : ℕ) (fs : List HostFunction)
      → map address_in (map (symbol_at h) (zip (range_with_len k (length fs)) fs))
      ≡ map (func_of names) (map (func.Host h.0) (range_with_len k (length fs)))
  functions_numbered h k [] = refl
  functions_numbered h k (f ∷ fs) = ap (λ l. HostFunc h.0 k ∷ l) (functions_numbered h (k + 1) fs)

  abbrev count : Host → ℕ
  count h = length h.functions

  hosts_numbered : (k : ℕ) (hosts : List Host)
      → map address_in (flat_map (λ h. map (symbol_at h) (numbered h.1.functions)) (zip (range_with_len k (length hosts)) hosts))
      ≡ map (func_of names) (flat_map (λ h. map (func.Host h.0) (range_with_len 0 h.1))
      (zip (range_with_len k (length (map count hosts))) (map count hosts)))
  hosts_numbered k [] = refl
  hosts_numbered k (host ∷ hosts) =
      map-append address_in (map (symbol_at (k, host)) (numbered host.functions)) _
      ∙ ap (λ l. l ++ map address_in (flat_map (λ h. map (symbol_at h) (numbered h.1.functions)) (zip (range_with_len (k + 1)
      (length hosts)) hosts)))
      (functions_numbered (k, host) 0 host.functions)
      ∙ ap (λ l. map (func_of names) (map (func.Host k) (range_with_len 0 (length host.functions))) ++ l) (hosts_numbered (k + 1) hosts)
      ∙ sym (map-append (func_of names) (map (func.Host k) (range_with_len 0 (length host.functions))) _)

firsts : (hs : List linking.HostSymbol) → map (λ (e : Name × tree.FuncType). e.0) (map symbol_pair hs) ≡ map
    (λ (s : linking.HostSymbol). s.symbol) hs
firsts [] = refl
firsts (s ∷ hs) = ap (λ l. s.symbol ∷ l) (firsts hs)

own_firsts : (hosts : List HostSymbol) → map (λ (e : Name × tree.FuncType). e.0) (c_symbols hosts) ≡ map
    (λ (h : HostSymbol). h.symbol) hosts
own_firsts [] = refl
own_firsts (h ∷ hosts) = ap (λ l. h.symbol ∷ l) (own_firsts hosts)

either : {A B : Type 0} (f : A → B) (a b : Option A) → option_map f (option_or a b) ≡ option_or (option_map f a) (option_map f b)
either f None b = refl
either f (Some x) b = refl

-- ---- the whole

module _ (p : Program) (units : List (List tree.Item)) (hosts : List HostSymbol) (counts : List ℕ) (is : IsProgramOf p units hosts)
    (have : HaveCounts p.hosts counts) (q : Name) where
  pub symbol_found : option_map (func_of (naming_of p.units)) (named q (entries units hosts counts)) ≡ external_func p q
  symbol_found =
      let names = naming_of p.units in
      let first : (i : ℕ) → 0 + i ≡ i = λ i. omega arith in
      let in_units = units_found names 0 q p.units (λ i. ap (slice_get names) (first i) ∙ slice_get-map unit_names p.units i) in
      let symbols : map (λ (s : linking.HostSymbol). s.symbol) (linking.host_symbols p.hosts) ≡ map (λ (h : HostSymbol). h.symbol) hosts =
      sym (firsts (linking.host_symbols p.hosts)) ∙ ap (map (λ (e : Name × tree.FuncType). e.0)) is.symbols_are ∙ own_firsts hosts in
      let addresses : map (address_in names) (linking.host_symbols p.hosts) ≡ map (func_of names) (host_ids counts) =
      hosts_numbered names 0 p.hosts ∙ ap (λ cs. map (func_of names) (host_ids cs)) have in
      let in_hosts = hosts_found names q (linking.host_symbols p.hosts) (map (λ (h : HostSymbol). h.symbol) hosts)
      (host_ids counts) symbols addresses in
      ap (λ us. option_map (func_of names) (named q (entries us hosts counts))) (sym is.units_are)
      ∙ ap (option_map (func_of names)) (named-append q (flat_map unit_entries (numbered p.units)) (host_entries hosts counts))
      ∙ either (func_of names) (named q (flat_map unit_entries (numbered p.units))) (named q (host_entries hosts counts))
      ∙ ap (λ o. option_or o (option_map (func_of names) (named q (host_entries hosts counts)))) in_units
      ∙ ap (option_or (option_map (λ u. UnitFunc u q) (position_from (defines_it q) 0 p.units))) in_hosts

-- symbols and functions side by side
pub zipped : (seen : List Seen) → map entry_of seen ≡ zip (map name_in seen) (map func_in seen)
zipped [] = refl
zipped (s ∷ seen) = ap (λ l. entry_of s ∷ l) (zipped seen)
