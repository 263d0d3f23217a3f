-- What stands for a symbol by number is the first definition that units have of it.
use Rattle.crun_startup.proofs.Common.{◌≡◌, ℕ, zero, suc, ◌+◌, Bool, true, false, ◌&&◌, List, [], ◌∷◌, map, length, is_some, IfSome}
use Rattle.crun_startup.proofs.Common.{if◌then◌else◌, IsSome, slice_get, Some, None, filter, Option, option_map, zip, flat_map, bytes_eq}
use Rattle.crun_startup.proofs.Common.{sym, refl, ap, ◌∙◌, subst, arith, bytes_eq-Decides, list_all, list_any, position_from}
use Rattle.crun_startup.proofs.Common.{range_with_len, option_or, if_found, named, named-append, same_type, same_types, Name, CType, U32}
use Rattle.crun_startup.proofs.Common.{U64, Void, Definition, Program, SymbolCall, c_params_of, called_func, defined, defined_for_all}
use Rattle.crun_startup.proofs.Common.{definition_of, fits, func_type, host_symbol, is_external, typed, FuncAddress, UnitFunc}
use Rattle.crun_startup.proofs.Common.{definitions_from, first_under, seen_under, IsProgramOf, HostSymbol, Naming, func_of, FuncId}
use Rattle.crun_startup.proofs.Common.{definition_in, items_at, symbol_in, Symbols, AreSymbols, IsSeenAt, unit_item, HaveCounts, entries}
use Rattle.crun_startup.proofs.Common.{host_entries, host_ids, ids_of, symbol_of, unit_entries, UnitItem, address_in, naming_of, true≢false}
use Rattle.std.proofs.lemmas.List.Folds.{list_all-append}
use Rattle.std.proofs.lemmas.Bool.{and_from}
use Rattle.w2c_base.specs.declared.value.Value.{Value}
use Rattle.w2c_base.specs.Values.{is_number, types_of}
use Rattle.c_tree.specs.Tree as tree
use Rattle.c_tree.specs.Scope.{func_type_of}
use Rattle.c_objects.specs.declared.held.FuncId.TheVariants as func
use Rattle.crun_startup.proofs.SymbolsFound.{number_in_unit, says_from, symbol_found}

-- ---- the first definition of a symbol stands at its item

pub record StandsIn (k : ℕ) (q : Name) (items : List tree.Item) (d : Definition) : Type 0 where
  pub i : ℕ
  pub item : tree.Item
  pub at : slice_get items i ≡ Some item
  pub number : d.item ≡ k + i
  pub is : definition_of (d.item, item) ≡ Some d
  pub external : is_external d ≡ true
  pub named : d.func.name ≡ q

stands_later : (k : ℕ) (q : Name) (x : tree.Item) (items : List tree.Item) (d : Definition) → StandsIn (k + 1) q items d
    → StandsIn k q (x ∷ items) d
stands_later k q x items d rest = record {
  i = suc rest.i;
  item = rest.item;
  at = rest.at;
  number = (let number = rest.number in omega (arith, number));
  is = rest.is;
  external = rest.external;
  named = rest.named;
}

function_stands : (k : ℕ) (q : Name) (items : List tree.Item) (d : Definition) (is_static : Bool) (result : CType) (name : Name)
    (params : List tree.Param) (o : Option tree.Body) → (first_under (k + 1) q items ≡ Some d → StandsIn (k + 1) q items d)
    → first_under k q (tree.Function (record
    { is_static = is_static; result = result; name = name; params = params; body = o }) ∷ items) ≡ Some d
    → StandsIn k q (tree.Function (record
    { is_static = is_static; result = result; name = name; params = params; body = o }) ∷ items) d
function_stands k q items d true result name params None rest e = stands_later k q _ items d (rest e)
function_stands k q items d false result name params None rest e = stands_later k q _ items d (rest e)
function_stands k q items d true result name params (Some body) rest e = stands_later k q _ items d (rest e)
function_stands k q items d false result name params (Some body) rest e = by_test (bytes_eq name q) refl e
  where
    f : tree.Func
    f = record { is_static = false; result = result; name = name; params = params; body = Some body }

    here : Definition
    here = record { item = k; func = f; body = body }

    others : List Definition
    others = filter (seen_under q) (definitions_from (k + 1) items)

    by_test : (b : Bool) → bytes_eq name q ≡ b → slice_get (if b then here ∷ others else others) 0 ≡ Some d
        → StandsIn k q (tree.Function f ∷ items) d
    by_test true same e =
        let is : here ≡ d = cc in
        let number : k ≡ k + 0 = omega arith in
        subst (StandsIn k q (tree.Function f ∷ items)) is (record {
          i = 0;
          item = tree.Function f;
          at = refl;
          number = number;
          is = refl;
          external = refl;
          named = (bytes_eq-Decides name q).0 same;
        })
    by_test false same e = stands_later k q (tree.Function f) items d (rest e)

stands_from : (k : ℕ) (q : Name) (items : List tree.Item) (d : Definition) → first_under k q items ≡ Some d → StandsIn k q items d
stands_from k q [] d e = absurd cc
stands_from k q (tree.Array name count bytes ∷ items) d e =
    stands_later k q (tree.Array name count bytes) items d (stands_from (k + 1) q items d e)
stands_from k q (tree.Var ty name number ∷ items) d e =
    stands_later k q (tree.Var ty name number) items d (stands_from (k + 1) q items d e)
stands_from k q (tree.Function f ∷ items) d e =
    function_stands k q items d f.is_static f.result f.name f.params f.body (stands_from (k + 1) q items d) e

-- ---- what stands first for a symbol in units

pub record SeenIn (k : ℕ) (us : List (List tree.Item)) (q : Name) (f : FuncId) : Type 0 where
  pub u : ℕ
  pub items : List tree.Item
  pub at : slice_get us u ≡ Some items
  pub definition : Definition
  pub seen : defined_for_all items q ≡ Some definition
  pub is : f ≡ func.Unit (k + u) definition.item

seen_in_units : (k : ℕ) (us : List (List tree.Item)) (q : Name) (f : FuncId)
    → named q (flat_map unit_entries (zip (range_with_len k (length us)) us)) ≡ Some f → SeenIn k us q f
seen_in_units k [] q f e = absurd cc
seen_in_units k (items ∷ us) q f e =
    go (defined_for_all items q) refl
    (sym (named-append q (unit_entries (k, items)) rest ∙ ap (λ o. option_or o (named q rest)) (says_from k 0 q items)) ∙ e)
    (seen_in_units (k + 1) us q f)
  where
    rest : List (Name × FuncId)
    rest = flat_map unit_entries (zip (range_with_len (k + 1) (length us)) us)

    go : (d : Option Definition) → defined_for_all items q ≡ d → option_or (number_in_unit k d) (named q rest) ≡ Some f
        → (named q rest ≡ Some f → SeenIn (k + 1) us q f) → SeenIn k (items ∷ us) q f
    go None none e later =
        let there = later e in
        let move : (k + 1) + there.u ≡ k + suc there.u = omega arith in
        record {
          u = suc there.u;
          items = there.items;
          at = there.at;
          definition = there.definition;
          seen = there.seen;
          is = there.is ∙ ap (λ n. func.Unit n there.definition.item) move;
        }
    go (Some d) seen e later =
        let same : f ≡ func.Unit k d.item = cc in
        let here : k ≡ k + 0 = omega arith in
        record { u = 0; items = items; at = refl; definition = d; seen = seen; is = same ∙ ap (λ n. func.Unit n d.item) here }

-- ---- a host's symbol stands for no function of a unit

is_host : FuncId → Bool
is_host (func.Unit u i) = false
is_host (func.Host h f) = true

functions_hosts : (h : ℕ) (fs : List ℕ) → list_all is_host (map (func.Host h) fs) ≡ true
unfolding is_host
functions_hosts h [] = refl
functions_hosts h (f ∷ fs) = functions_hosts h fs

ids_hosts : (k : ℕ) (counts : List ℕ) → list_all is_host (flat_map ids_of (zip (range_with_len k (length counts)) counts)) ≡ true
ids_hosts k [] = refl
ids_hosts k (n ∷ counts) =
    list_all-append is_host (ids_of (k, n)) _
    ∙ and_from (list_all is_host (ids_of (k, n))) _ (functions_hosts k (range_with_len 0 n)) (ids_hosts (k + 1) counts)

host_found : (q : Name) (xs : List Name) (ids : List FuncId) (u i : ℕ) → list_all is_host ids ≡ true
    → named q (zip xs ids) ≡ Some (func.Unit u i) → ⊥
unfolding is_host
host_found q (x ∷ xs) (func.Host h f ∷ ids) u i all e = by_test (bytes_eq x q) (host_found q xs ids u i all) e
  where
    by_test : (b : Bool) → (named q (zip xs ids) ≡ Some (func.Unit u i) → ⊥)
        → (if b then Some (func.Host h f) else named q (zip xs ids)) ≡ Some (func.Unit u i) → ⊥
    by_test true later e = cc
    by_test false later e = later e
host_found q _ _ u i all e = cc

-- ---- the definition of a symbol

either_is : {A : Type 0} (a b : Option A) (x : A) → option_or a b ≡ Some x → (b ≡ Some x → ⊥) → a ≡ Some x
either_is None b x e none = absurd (none e)
either_is (Some y) b x e none = e

module _ (p : Program) (q : Name) (u i : ℕ) where
  seen_at : SeenIn 0 p.units q (func.Unit u i) → IsSeenAt p q (u, i)
  seen_at there =
      let d = there.definition in
      let stands = stands_from 0 q there.items d there.seen in
      let same : func.Unit u i ≡ func.Unit (0 + there.u) d.item = there.is in
      let front : 0 + there.u ≡ there.u = omega arith in
      let unit_is : u ≡ 0 + there.u = cc in
      let unit : u ≡ there.u = unit_is ∙ front in
      let number : i ≡ d.item = cc in
      let start : 0 + stands.i ≡ stands.i = omega arith in
      let place : i ≡ stands.i = number ∙ stands.number ∙ start in
      let here : slice_get p.units u ≡ Some there.items = ap (slice_get p.units) unit ∙ there.at in
      let items : items_at p u ≡ there.items = ap (λ (o : Option (List tree.Item)). elim o [ None ↦ [] | Some items ↦ items ]) here in
      record {
        definition = d;
        here = ap (λ is. definition_in is i) items ∙ ap (λ o. if_found o (λ item. definition_of (i, item)))
            (ap (slice_get there.items) place ∙ stands.at)
            ∙ ap (λ n. definition_of (n, stands.item)) number ∙ stands.is;
        seen = ap (λ is. defined_for_all is q) items ∙ there.seen;
        external = stands.external;
        named = stands.named;
        typed = ap (λ o. option_map (λ (d : Definition). func_type_of d.func) (if_found o (λ is. typed is q))) here
            ∙ ap (λ o. option_map (λ (d : Definition). func_type_of d.func) (option_or o (defined there.items q))) there.seen;
      }

  pub symbol_seen : (units : List (List tree.Item)) (hosts : List HostSymbol) (counts : List ℕ) → p.units ≡ units
      → named q (entries units hosts counts) ≡ Some (func.Unit u i) → IsSeenAt p q (u, i)
  symbol_seen units hosts counts are e =
      let in_units = either_is _ _ _ (sym (named-append q _ (host_entries hosts counts)) ∙ e)
      (host_found q (map symbol_of hosts) (host_ids counts) u i (ids_hosts 0 counts)) in
      seen_at (subst (λ us. SeenIn 0 us q (func.Unit u i)) (sym are) (seen_in_units 0 units q (func.Unit u i) in_units))

-- ---- what is called

some_none : (d : Definition) → Some d ≡ None → ⊥
some_none d e = cc

-- whether a call fits, by the type of what it calls
abbrev fits_by : SymbolCall → Option tree.FuncType → Bool
fits_by c o = elim o [
  | None ↦ false
  | Some ty ↦ same_types ty.params (c_params_of (types_of c.args))
      && list_any (same_type ty.result) (Void ∷ U32 ∷ U64 ∷ [])
      && list_all is_number c.args
]

abbrev defines_it : Name → List tree.Item → Bool
defines_it q items = is_some (defined_for_all items q)

not_first : (q : Name) (k : ℕ) (us : List (List tree.Item)) (u : ℕ) (items : List tree.Item) → position_from (defines_it q) k us ≡ None
    → slice_get us u ≡ Some items → defines_it q items ≡ false
not_first q k [] u items none at = absurd cc
not_first q k (x ∷ us) u items none at = by_test (defines_it q x) refl u none at (not_first q (k + 1) us)
  where
    by_test : (b : Bool) → defines_it q x ≡ b → (u : ℕ)
        → (if b then Some k else position_from (defines_it q) (k + 1) us) ≡ None → slice_get (x ∷ us) u ≡ Some items
        → ((v : ℕ) (others : List tree.Item) → position_from (defines_it q) (k + 1) us ≡ None → slice_get us v ≡ Some others
        → defines_it q others ≡ false) → defines_it q items ≡ false
    by_test true is u none at later = absurd cc
    by_test false is zero none at later = let same : x ≡ items = cc in ap (defines_it q) (sym same) ∙ is
    by_test false is (suc u) none at later = later u items none at

module _ (names : Naming) (p : Program) (s : Symbols) (are : AreSymbols names p s) (q : Name) where
  abbrev first_unit : Option ℕ
  first_unit = position_from (defines_it q) 0 p.units

  not_seen : (u i : ℕ) → symbol_in s q ≡ Some (func.Unit u i) → first_unit ≡ None → ⊥
  not_seen u i is none = at (slice_get p.units u) refl
    where
      there : IsSeenAt p q (u, i)
      there = are.defined q u i is

      at : (o : Option (List tree.Item)) → slice_get p.units u ≡ o → ⊥
      at None e =
          let nothing : defined_for_all (items_at p u) q ≡ None =
          ap (λ (o : Option (List tree.Item)). defined_for_all (elim o [ None ↦ [] | Some items ↦ items ]) q) e in
          absurd (some_none there.definition (sym there.seen ∙ nothing))
      at (Some items) e =
          let whole : defined_for_all items q ≡ Some there.definition =
          sym (ap (λ (o : Option (List tree.Item)). defined_for_all (elim o [ None ↦ [] | Some items ↦ items ]) q) e) ∙ there.seen in
          absurd (true≢false (sym (ap is_some whole) ∙ not_first q 0 p.units u items none e))

  abbrev called_by : Option FuncId → Option FuncAddress
  called_by o = option_map (address_in names) (if_found o unit_item)

  pub called_is : (args : List Value) → called_by (symbol_in s q) ≡ called_func p (record { symbol = q; args = args })
  called_is args = go (symbol_in s q) refl first_unit refl (are.found q)
    where
      go : (o : Option FuncId) → symbol_in s q ≡ o → (at : Option ℕ) → first_unit ≡ at
          → option_map (func_of names) o
          ≡ option_or (option_map (λ u. UnitFunc u q) at) (option_map (λ s. s.address) (host_symbol p q))
          → called_by o ≡ option_map (λ u. UnitFunc u q) at
      go None is None none e = refl
      go None is (Some v) first e = absurd cc
      go (Some (func.Unit u i)) is None none e = absurd (not_seen u i is none)
      go (Some (func.Unit u i)) is (Some v) first e = e
      go (Some (func.Host h f)) is None none e = refl
      go (Some (func.Host h f)) is (Some v) first e = absurd cc

  pub called_seen : (f : UnitItem) → if_found (symbol_in s q) unit_item ≡ Some f → IsSeenAt p q f
  called_seen f = go (symbol_in s q) refl
    where
      go : (o : Option FuncId) → symbol_in s q ≡ o → if_found o unit_item ≡ Some f → IsSeenAt p q f
      go None is e = absurd cc
      go (Some (func.Unit u i)) is e = let same : f ≡ (u, i) = cc in subst (IsSeenAt p q) (sym same) (are.defined q u i is)
      go (Some (func.Host h g)) is e = absurd cc

  pub fits_some : (args : List Value) (r : Option UnitItem) → r ≡ if_found (symbol_in s q) unit_item
      → fits p (record { symbol = q; args = args }) ≡ true → IsSome r
  fits_some args (Some f) is fit = refl
  fits_some args None is fit =
      let call : SymbolCall = record { symbol = q; args = args } in
      let none : called_func p call ≡ None = sym (called_is args) ∙ ap (option_map (address_in names)) (sym is) in
      absurd (true≢false (sym fit ∙ ap (λ o. fits_by call (if_found o (func_type p))) none))

pub some_seen : (s : Symbols) (q : Name) (r : Option UnitItem) → r ≡ if_found (symbol_in s q) unit_item
    → IfSome r (λ f. (names : Naming) (p : Program) → AreSymbols names p s → IsSeenAt p q f)
some_seen s q None is = tt
some_seen s q (Some f) is = λ names p are. called_seen names p s are q f (sym is)

-- ---- the table of linked units

pub symbols_are : (p : Program) (units : List (List tree.Item)) (hosts : List HostSymbol) (counts : List ℕ)
    → IsProgramOf p units hosts → HaveCounts p.hosts counts → (s : Symbols)
    → ((q : Name) → symbol_in s q ≡ named q (entries units hosts counts)) → AreSymbols (naming_of p.units) p s
symbols_are p units hosts counts is have s found = record {
  found = λ q. ap (option_map (func_of (naming_of p.units))) (found q) ∙ symbol_found p units hosts counts is have q;
  defined = λ q u i e. symbol_seen p q u i units hosts counts is.units_are (sym (found q) ∙ e);
}
