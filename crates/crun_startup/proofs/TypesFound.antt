-- The types of functions by number are those of the meaning of C.
use Rattle.crun_startup.proofs.Common.{◌≡◌, ℕ, ◌+◌, Bool, true, List, [], ◌∷◌, ◌++◌, map, length, take, drop, slice_get, Some, None, Option}
use Rattle.crun_startup.proofs.Common.{option_map, zip, flat_map, sym, refl, ap, ◌∙◌, map-append, slice_get-map, range_with_len, option_or}
use Rattle.crun_startup.proofs.Common.{if_found, numbered, Host, HostFunction, Name, CType, none_clash, symbol_pair, Definition, Program}
use Rattle.crun_startup.proofs.Common.{c_func_type_of, defined, defined_for_all, definition_of, func_type, typed, c_symbols, AllChecked}
use Rattle.crun_startup.proofs.Common.{IsProgramOf, HostSymbol, func_of, item_name, definition_in, HaveCounts, host_type, item_type, parts}
use Rattle.crun_startup.proofs.Common.{types_in, naming_of}
use Rattle.c_tree.specs.Tree as tree
use Rattle.c_tree.specs.Scope.{func_type_of}
use Rattle.c_tree.specs.View.{func_type_of as type_of_c}
use Rattle.c_meaning.specs.Linking as linking
use Rattle.c_objects.specs.declared.held.FuncId.TheVariants as func
use Rattle.c_thread.specs.declared.signatures.FuncTypes.{FuncTypes}
use Rattle.c_thread.specs.declared.signatures.TypeList.{TypeList}
use Rattle.c_thread.specs.FuncTypes.{AreFuncTypes}
use Rattle.crun_startup.proofs.Checked.{own_definition}
use Rattle.crun_startup.proofs.Externals.{defined_first}
use Rattle.crun_startup.proofs.SymbolsFound.{symbol_at}
use Rattle.crun_startup.proofs.TablesFound.{checked_at, item_named}

-- ---- what stands at two numbers

abbrev look : {A : Type 0} → List (List (Option A)) → ℕ → ℕ → Option A
look lists u i = if_found (slice_get lists u) (λ l. if_found (slice_get l i) (λ o. o))

inner : {A B : Type 0} (f : A → B) (xs : List (Option A)) (i : ℕ)
    → option_map f (if_found (slice_get xs i) (λ o. o)) ≡ if_found (slice_get (map (option_map f) xs) i) (λ o. o)
inner f xs i = go f (slice_get xs i) ∙ sym (ap (λ o. if_found o (λ o. o)) (slice_get-map (option_map f) xs i))
  where
    go : {A B : Type 0} (f : A → B) (o : Option (Option A))
        → option_map f (if_found o (λ o. o)) ≡ if_found (option_map (option_map f) o) (λ o. o)
    go f None = refl
    go f (Some x) = refl

type_said : (ls : List TypeList) (u i : ℕ)
    → option_map type_of_c (if_found (slice_get ls u) (λ l. if_found (slice_get l.types.items i) (λ ty. ty))) ≡ look (map types_in ls) u i
type_said ls u i = go (slice_get ls u) ∙ sym (ap (λ o. if_found o (λ l. if_found (slice_get l i) (λ o. o))) (slice_get-map types_in ls u))
  where
    go : (o : Option TypeList) → option_map type_of_c (if_found o (λ l. if_found (slice_get l.types.items i) (λ ty. ty)))
        ≡ if_found (option_map types_in o) (λ l. if_found (slice_get l i) (λ o. o))
    go None = refl
    go (Some l) = inner type_of_c l.types.items i

-- ---- functions of units

abbrev its_type : Option Definition → Option tree.FuncType
its_type o = option_map (λ (d : Definition). func_type_of d.func) o

function_type : (i : ℕ) (is_static : Bool) (result : CType) (name : Name) (params : List tree.Param) (o : Option tree.Body)
    → its_type (definition_of (
      i,
      tree.Function (record
          { is_static = is_static; result = result; name = name; params = params; body = o }),
    ))
    ≡ item_type (tree.Function (record { is_static = is_static; result = result; name = name; params = params; body = o }))
function_type i is_static result name params None = refl
function_type i is_static result name params (Some body) = refl

item_said : (i : ℕ) (item : tree.Item) → its_type (definition_of (i, item)) ≡ item_type item
item_said i (tree.Function f) = function_type i f.is_static f.result f.name f.params f.body
item_said i _ = refl

items_said : (items : List tree.Item) (i : ℕ) → its_type (definition_in items i) ≡ if_found (slice_get (map item_type items) i) (λ o. o)
items_said items i = go (slice_get items i) ∙ sym (ap (λ o. if_found o (λ o. o)) (slice_get-map item_type items i))
  where
    go : (o : Option tree.Item) → its_type (if_found o (λ item. definition_of (i, item))) ≡ if_found (option_map item_type o) (λ o. o)
    go None = refl
    go (Some item) = item_said i item

-- a name's type is that of its first definition
typed_first : (items : List tree.Item) (q : Name) → none_clash items ≡ true → typed items q ≡ defined items q
typed_first items q kept = go (defined_for_all items q) refl
  where
    go : (o : Option Definition) → defined_for_all items q ≡ o → option_or (defined_for_all items q) (defined items q) ≡ defined items q
    go None e = ap (λ o. option_or o (defined items q)) e
    go (Some d) e = ap (λ o. option_or o (defined items q)) e ∙ sym (defined_first items q d kept e)

-- ---- functions of hosts

abbrev types_of : Host → List tree.FuncType
types_of h = map (λ (f : HostFunction). c_func_type_of f.ty) h.functions

functions_typed : (h : ℕ × Host) (k : ℕ) (fs : List HostFunction)
    → map (λ (s : linking.HostSymbol). s.ty) (map (symbol_at h) (zip (range_with_len k (length fs)) fs))
    ≡ map (λ (f : HostFunction). c_func_type_of f.ty) fs
functions_typed h k [] = refl
functions_typed h k (f ∷ fs) = ap (λ l. c_func_type_of f.ty ∷ l) (functions_typed h (k + 1) fs)

hosts_typed : (k : ℕ) (hosts : List Host)
    → map (λ (s : linking.HostSymbol). s.ty)
    (flat_map (λ h. map (symbol_at h) (numbered h.1.functions)) (zip (range_with_len k (length hosts)) hosts)) ≡ flat_map types_of hosts
hosts_typed k [] = refl
hosts_typed k (host ∷ hosts) =
    map-append (λ (s : linking.HostSymbol). s.ty) (map (symbol_at (k, host)) (numbered host.functions)) _
    ∙ ap (λ l. l ++ map (λ (s : linking.HostSymbol). s.ty)
    (flat_map (λ h. map (symbol_at h) (numbered h.1.functions)) (zip (range_with_len (k + 1) (length hosts)) hosts)))
    (functions_typed (k, host) 0 host.functions)
    ∙ ap (λ l. types_of host ++ l) (hosts_typed (k + 1) hosts)

seconds : (hs : List linking.HostSymbol) → map (λ (e : Name × tree.FuncType). e.1) (map symbol_pair hs) ≡ map
    (λ (s : linking.HostSymbol). s.ty) hs
seconds [] = refl
seconds (s ∷ hs) = ap (λ l. s.ty ∷ l) (seconds hs)

own_seconds : (hosts : List HostSymbol) → map (λ (e : Name × tree.FuncType). e.1) (c_symbols hosts) ≡ map host_type hosts
own_seconds [] = refl
own_seconds (h ∷ hosts) = ap (λ l. host_type h ∷ l) (own_seconds hosts)

-- the part of one host
take_front : {A B : Type 0} (f : A → B) (xs : List A) (ys : List B) → take (length xs) (map f xs ++ ys) ≡ map f xs
take_front f [] ys = refl
take_front f (x ∷ xs) ys = ap (λ l. f x ∷ l) (take_front f xs ys)

drop_front : {A B : Type 0} (f : A → B) (xs : List A) (ys : List B) → drop (length xs) (map f xs ++ ys) ≡ ys
drop_front f [] ys = refl
drop_front f (x ∷ xs) ys = drop_front f xs ys

parts_are : (hosts : List Host) → parts (map (λ (h : Host). length h.functions) hosts) (flat_map types_of hosts) ≡ map types_of hosts
parts_are [] = refl
parts_are (h ∷ hosts) =
    let its : HostFunction → tree.FuncType = λ f. c_func_type_of f.ty in
    ap (λ l. l ∷ parts (map (λ (h : Host). length h.functions) hosts) (drop (length h.functions) (types_of h ++ flat_map types_of hosts)))
    (take_front its h.functions (flat_map types_of hosts))
    ∙ ap (λ l. types_of h ∷ parts (map (λ (h : Host). length h.functions) hosts) l) (drop_front its h.functions (flat_map types_of hosts))
    ∙ ap (λ l. types_of h ∷ l) (parts_are hosts)

host_look : (hosts : List Host) (h f : ℕ)
    → option_map c_func_type_of (if_found (slice_get hosts h) (λ host. option_map (λ (f : HostFunction). f.ty)
    (slice_get host.functions f)))
    ≡ look (map (map Some) (map types_of hosts)) h f
host_look hosts h f =
    at_host (slice_get hosts h)
    ∙ sym (ap (λ o. if_found o (λ l. if_found (slice_get l f) (λ o. o)))
    (slice_get-map (map Some) (map types_of hosts) h ∙ ap (option_map (map Some)) (slice_get-map types_of hosts h)))
  where
    in_host : (o : Option HostFunction) → option_map c_func_type_of (option_map (λ (f : HostFunction). f.ty) o)
        ≡ if_found (option_map Some (option_map (λ (f : HostFunction). c_func_type_of f.ty) o)) (λ o. o)
    in_host None = refl
    in_host (Some f) = refl

    at_host : (o : Option Host)
        → option_map c_func_type_of (if_found o (λ host. option_map (λ (f : HostFunction). f.ty) (slice_get host.functions f)))
        ≡ if_found (option_map (map Some) (option_map types_of o)) (λ l. if_found (slice_get l f) (λ o. o))
    at_host None = refl
    at_host (Some host) =
        in_host (slice_get host.functions f)
        ∙ sym (ap (λ o. if_found o (λ o. o)) (slice_get-map Some (types_of host) f
        ∙ ap (option_map Some) (slice_get-map (λ (f : HostFunction). c_func_type_of f.ty) host.functions f)))

-- ---- all functions

module _ (p : Program) (units : List (List tree.Item)) (hosts : List HostSymbol) (counts : List ℕ) (is : IsProgramOf p units hosts)
    (have : HaveCounts p.hosts counts) (checked : AllChecked units) (t : FuncTypes)
    (in_units : map types_in t.units.items ≡ map (map item_type) units)
    (in_hosts : map types_in t.hosts.items ≡ map (map Some) (parts counts (map host_type hosts))) where
  unit_type : (u i : ℕ) → func_type p (func_of (naming_of p.units) (func.Unit u i)) ≡ look (map (map item_type) p.units) u i
  unit_type u i = at (slice_get p.units u) refl
      ∙ sym (ap (λ o. if_found o (λ l. if_found (slice_get l i) (λ o. o))) (slice_get-map (map item_type) p.units u))
    where
      at : (o : Option (List tree.Item)) → slice_get p.units u ≡ o
          → its_type (if_found (slice_get p.units u) (λ items. typed items (item_name (naming_of p.units) u i)))
          ≡ if_found (option_map (map item_type) (slice_get p.units u)) (λ l. if_found (slice_get l i) (λ o. o))
      at None e =
          ap (λ o. its_type (if_found o (λ items. typed items (item_name (naming_of p.units) u i)))) e
          ∙ sym (ap (λ o. if_found (option_map (map item_type) o) (λ l. if_found (slice_get l i) (λ o. o))) e)
      at (Some items) e =
          let one = checked_at p units hosts is checked u items e in
          ap (λ o. its_type (if_found o (λ items. typed items (item_name (naming_of p.units) u i)))) e
          ∙ ap (λ q. its_type (typed items q)) (item_named p u i items e)
          ∙ ap its_type (typed_first items _ one.0 ∙ own_definition items one.0 one.1 i)
          ∙ items_said items i
          ∙ sym (ap (λ o. if_found (option_map (map item_type) o) (λ l. if_found (slice_get l i) (λ o. o))) e)

  host_parts : map (map Some) (map types_of p.hosts) ≡ map types_in t.hosts.items
  host_parts =
      let symbols = linking.host_symbols p.hosts in
      let flat : flat_map types_of p.hosts ≡ map host_type hosts =
      sym (hosts_typed 0 p.hosts) ∙ sym (seconds symbols) ∙ ap (map (λ (e : Name × tree.FuncType). e.1)) is.symbols_are
      ∙ own_seconds hosts in
      ap (map (map Some)) (sym (parts_are p.hosts) ∙ ap (λ cs. parts cs (flat_map types_of p.hosts)) have ∙ ap (parts counts) flat)
      ∙ sym in_hosts

  pub types_are : AreFuncTypes (naming_of p.units) p t
  types_are (func.Unit u i) =
      unit_type u i ∙ ap (λ ls. look ls u i) (ap (map (map item_type)) is.units_are ∙ sym in_units) ∙ sym (type_said t.units.items u i)
  types_are (func.Host h f) = host_look p.hosts h f ∙ ap (λ ls. look ls h f) host_parts ∙ sym (type_said t.hosts.items h f)
