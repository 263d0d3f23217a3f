-- The items that define functions which run first are those of the meaning of C.
use Rattle.crun_startup.proofs.Common.{◌≡◌, ℕ, zero, suc, ◌+◌, ◌≤◌, Bool, true, false, ◌&&◌, ◌⊎◌, List, [], ◌∷◌, ◌++◌, map, length, get_or}
use Rattle.crun_startup.proofs.Common.{if◌then◌else◌, slice_get, Some, None, filter, Option, zip, flat_map, filter_map, sym, refl, ap, ◌∙◌}
use Rattle.crun_startup.proofs.Common.{subst, inl, inr, arith, map-append, cons_option, range_with_len, if_found, numbered, same_type}
use Rattle.crun_startup.proofs.Common.{same_types, unit_of, CType, Void, Definition, Program, definition_of, definitions, init_functions}
use Rattle.crun_startup.proofs.Common.{is_init, FuncAddress, UnitFunc, definitions_from, defined_func, item_name, definition_in, items_at}
use Rattle.crun_startup.proofs.Common.{IsInitAt, UnitItem, address_in, init_entry, init_items, is_init_func, is_init_item, unit_inits}
use Rattle.crun_startup.proofs.Common.{function_name, naming_of}
use Rattle.c_tree.specs.declared.tree.Item.{Item}
use Rattle.c_tree.specs.Tree as tree
use Rattle.c_meaning.specs.State.{Name}
use Rattle.crun_startup.proofs.Collected.{Gathered, flats, numbered_end}
use Rattle.crun_startup.proofs.TablesFound.{item_named}

abbrev inits_from : ℕ → ℕ → List tree.Item → List UnitItem
inits_from u j items = filter_map (init_entry u) (zip (range_with_len j (length items)) items)

-- ---- the addresses, where functions have these names

module _ (name : ℕ → ℕ → Name) where
  abbrev address : UnitItem → FuncAddress
  address f = UnitFunc f.0 (name f.0 f.1)

  abbrev address_of : ℕ → Definition → FuncAddress
  address_of u d = UnitFunc u d.func.name

  abbrev Alike : ℕ → ℕ → List tree.Item → Type 0
  Alike u j items = map address (inits_from u j items) ≡ map (address_of u) (filter is_init (definitions_from j items))

  function_alike : (u j : ℕ) (items : List tree.Item) (is_static : Bool) (result : CType) (own : Name) (params : List tree.Param)
      (o : Option tree.Body) → name u j ≡ function_name (tree.Function (record
      { is_static = is_static; result = result; name = own; params = params; body = o })) → Alike u (j + 1) items
      → Alike u j (tree.Function (record { is_static = is_static; result = result; name = own; params = params; body = o }) ∷ items)
  function_alike u j items is_static result own params None named rest = rest
  function_alike u j items is_static result own params (Some body) named rest = by_test (is_init d)
    where
      d : Definition
      d = record
          { item = j; func = record { is_static = is_static; result = result; name = own; params = params; body = Some body }; body = body }

      by_test : (b : Bool) → map address (cons_option (if b then Some (u, j) else None) (inits_from u (j + 1) items))
          ≡ map (address_of u) (if b then d ∷ filter is_init (definitions_from (j + 1) items) else filter is_init
          (definitions_from (j + 1) items))
      by_test true = ap (λ n. UnitFunc u n ∷ map address (inits_from u (j + 1) items)) named ∙ ap (λ l. UnitFunc u own ∷ l) rest
      by_test false = rest

  unit_alike : (u j : ℕ) (items : List tree.Item) → ((i : ℕ) → name u (j + i) ≡ get_or (map function_name items) i [])
      → Alike u j items
  unit_alike u j [] named = refl
  unit_alike u j (item ∷ items) named = by_item item refl (unit_alike u (j + 1) items (λ i.
      let move : (j + 1) + i ≡ j + suc i = omega arith in ap (name u) move ∙ named (suc i)))
    where
      first : name u j ≡ function_name item
      first = let here : j + 0 ≡ j = omega arith in ap (name u) (sym here) ∙ named 0

      by_item : (x : tree.Item) → item ≡ x → Alike u (j + 1) items → Alike u j (x ∷ items)
      by_item (tree.Function f) e rest = function_alike u j items f.is_static f.result f.name f.params f.body (first ∙ ap function_name e)
          rest
      by_item _ e rest = rest

  pub units_alike : (k : ℕ) (us : List (List tree.Item))
      → ((u i : ℕ) (items : List tree.Item) → slice_get us u ≡ Some items → name (k + u) i ≡ get_or (map function_name items) i [])
      → map address (flat_map unit_inits (zip (range_with_len k (length us)) us))
      ≡ flat_map (λ u. map (address_of u.0) (filter is_init (definitions u.1))) (zip (range_with_len k (length us)) us)
  units_alike k [] named = refl
  units_alike k (items ∷ us) named =
      let here : k + 0 ≡ k = omega arith in
      let move : (u : ℕ) → (k + 1) + u ≡ k + suc u = λ u. omega arith in
      let zeros : (i : ℕ) → 0 + i ≡ i = λ i. omega arith in
      map-append address (unit_inits (k, items)) (flat_map unit_inits (zip (range_with_len (k + 1) (length us)) us))
      ∙ ap (λ l. l ++ map address (flat_map unit_inits (zip (range_with_len (k + 1) (length us)) us)))
      (unit_alike k 0 items (λ i. ap (name k) (zeros i) ∙ ap (λ n. name n i) (sym here) ∙ named 0 i items refl))
      ∙ ap (λ l. map (address_of k) (filter is_init (definitions items)) ++ l)
      (units_alike (k + 1) us (λ u i xs at. ap (λ n. name n i) (move u) ∙ named (suc u) i xs at))

-- ---- each is there

append_at : {A : Type 0} (xs ys : List A) (n : ℕ) (x : A) → slice_get (xs ++ ys) n ≡ Some x
    → ((i : ℕ) × (slice_get xs i ≡ Some x)) ⊎ ((i : ℕ) × (slice_get ys i ≡ Some x))
append_at [] ys n x at = inr (n, at)
append_at (y ∷ xs) ys zero x at = inl (0, at)
append_at (y ∷ xs) ys (suc n) x at =
    elim (append_at xs ys n x at) [ inl found ↦ inl (suc found.0, found.1) | inr found ↦ inr found ]

-- an item of a unit that defines one
pub record IsFound (u j : ℕ) (items : List tree.Item) (f : UnitItem) : Type 0 where
  pub i : ℕ
  pub item : tree.Item
  pub at : slice_get items i ≡ Some item
  pub unit : f.0 ≡ u
  pub number : f.1 ≡ j + i
  pub is : is_init_item item ≡ true

found_later : (u j : ℕ) (x : tree.Item) (items : List tree.Item) (f : UnitItem) → IsFound u (j + 1) items f → IsFound u j (x ∷ items) f
found_later u j x items f found = record {
  i = suc found.i;
  item = found.item;
  at = found.at;
  unit = found.unit;
  number = (let number = found.number in omega (arith, number));
  is = found.is;
}

found_in : (u j : ℕ) (items : List tree.Item) (n : ℕ) (f : UnitItem) → slice_get (inits_from u j items) n ≡ Some f → IsFound u j items f
found_in u j [] n f at = absurd cc
found_in u j (item ∷ items) n f at = by_test (is_init_item item) refl n at (λ m e. found_in u (j + 1) items m f e)
  where
    by_test : (b : Bool) → is_init_item item ≡ b → (n : ℕ)
        → slice_get (cons_option (if b then Some (u, j) else None) (inits_from u (j + 1) items)) n ≡ Some f
        → ((m : ℕ) → slice_get (inits_from u (j + 1) items) m ≡ Some f → IsFound u (j + 1) items f) → IsFound u j (item ∷ items) f
    by_test true is zero at later =
        let same : f ≡ (u, j) = cc in
        let zero_more : j ≡ j + 0 = omega arith in
        record { i = 0; item = item; at = refl; unit = ap (λ x. x.0) same; number = ap (λ x. x.1) same ∙ zero_more; is = is }
    by_test true is (suc n) at later = found_later u j item items f (later n at)
    by_test false is n at later = found_later u j item items f (later n at)

pub record IsFoundIn (k : ℕ) (us : List (List tree.Item)) (f : UnitItem) : Type 0 where
  pub u : ℕ
  pub items : List tree.Item
  pub at : slice_get us u ≡ Some items
  pub found : IsFound (k + u) 0 items f

pub found_in_units : (k : ℕ) (us : List (List tree.Item)) (n : ℕ) (f : UnitItem)
    → slice_get (flat_map unit_inits (zip (range_with_len k (length us)) us)) n ≡ Some f → IsFoundIn k us f
found_in_units k [] n f at = absurd cc
found_in_units k (items ∷ us) n f at =
    elim (append_at (unit_inits (k, items)) (flat_map unit_inits (zip (range_with_len (k + 1) (length us)) us)) n f at) [
      | inl found ↦ record {
        u = 0;
        items = items;
        at = refl;
        found = rw here at (found_in k 0 items found.0 f found.1);
      }
      | inr found ↦ later (found_in_units (k + 1) us found.0 f found.1)
    ]
  where
    here : k ≡ k + 0
    here = omega arith

    later : IsFoundIn (k + 1) us f → IsFoundIn k (items ∷ us) f
    later is =
        let move : (k + 1) + is.u ≡ k + suc is.u = omega arith in
        record { u = suc is.u; items = is.items; at = is.at; found = subst (λ m. IsFound m 0 is.items f) move is.found }

-- an item that is found defines a function that runs first
abbrev Defines : ℕ → tree.Item → Type 0
Defines i item = (d : Definition) × (definition_of (i, item) ≡ Some d) × (is_init d ≡ true)

function_defines : (i : ℕ) (is_static : Bool) (result : CType) (own : Name) (params : List tree.Param) (o : Option tree.Body)
    → is_init_item (tree.Function (record { is_static = is_static; result = result; name = own; params = params; body = o })) ≡ true
    → Defines i (tree.Function (record { is_static = is_static; result = result; name = own; params = params; body = o }))
function_defines i is_static result own params None is = absurd cc
function_defines i is_static result own params (Some body) is = (_, refl, is)

item_defines : (i : ℕ) (item : tree.Item) → is_init_item item ≡ true → Defines i item
item_defines i (tree.Function f) is = function_defines i f.is_static f.result f.name f.params f.body is
item_defines i _ is = absurd cc

pub init_at : (p : Program) (n : ℕ) (f : UnitItem) → slice_get (init_items p.units) n ≡ Some f → IsInitAt p f
init_at p n f at =
    let there = found_in_units 0 p.units n f at in
    let found = there.found in
    let zero_less : 0 + there.u ≡ there.u = omega arith in
    let zero_in : 0 + found.i ≡ found.i = omega arith in
    let unit : f.0 ≡ there.u = found.unit ∙ zero_less in
    let number : f.1 ≡ found.i = found.number ∙ zero_in in
    let defines = item_defines found.i found.item found.is in
    let items : items_at p f.0 ≡ there.items =
    ap (λ u. items_at p u) unit ∙ ap (λ (o : Option (List tree.Item)). elim o [ None ↦ [] | Some items ↦ items ]) there.at in
    record {
      definition = defines.0;
      here = ap (λ is. definition_in is f.1) items ∙ ap (definition_in there.items) number
          ∙ ap (λ o. if_found o (λ item. definition_of (found.i, item))) found.at ∙ defines.1;
      first = defines.2;
    }

-- ---- the whole

pub inits_are : (p : Program) → map (address_in (naming_of p.units)) (init_items p.units) ≡ init_functions p
inits_are p =
    units_alike (item_name (naming_of p.units)) 0 p.units (λ u i items at.
    let here : 0 + u ≡ u = omega arith in
    ap (λ n. item_name (naming_of p.units) n i) here ∙ item_named p u i items at)

-- ---- an item is tested by its function

abbrev Tested : tree.Item → Type 0
Tested item = elim (defined_func item) [ None ↦ false | Some f ↦ is_init_func f ] ≡ is_init_item item

function_tested : (is_static : Bool) (result : CType) (own : Name) (params : List tree.Param) (o : Option tree.Body)
    → Tested (tree.Function (record { is_static = is_static; result = result; name = own; params = params; body = o }))
function_tested true result own params None = refl
function_tested false result own params None = refl
function_tested true result own params (Some body) = refl
function_tested false result own params (Some body) = refl

pub item_tested : (item : tree.Item) → Tested item
item_tested (tree.Function f) = function_tested f.is_static f.result f.name f.params f.body
item_tested _ = refl

pub tested : (item : tree.Item) (f : tree.Func) → Some f ≡ defined_func item → is_init_func f ≡ is_init_item item
tested item f is = ap (λ (o : Option tree.Func). elim o [ None ↦ false | Some f ↦ is_init_func f ]) is ∙ item_tested item

-- ---- the loops

module _ (us : List (List Item)) (found : List UnitItem) (n u : ℕ) (same : n ≡ length us) (past : n ≤ u)
    (so_far : Gathered (flat_map unit_inits) (flats unit_inits) (numbered (map unit_of us)) [] found u) where
  pub found_all : found ≡ init_items (map unit_of us)
  found_all = numbered_end (flat_map unit_inits) (flats unit_inits) unit_of us [] found u (omega (arith, same, past)) so_far

  module _ (p : Program) (are : p.units ≡ map unit_of us) where
    found_in_program : found ≡ init_items p.units
    found_in_program = found_all ∙ ap init_items (sym are)

    pub found_mean : map (address_in (naming_of p.units)) found ≡ init_functions p
    found_mean = ap (map (address_in (naming_of p.units))) found_in_program ∙ inits_are p

    pub found_defined : (k : ℕ) (f : UnitItem) → slice_get found k ≡ Some f → IsInitAt p f
    found_defined k f at = init_at p k f (ap (λ fs. slice_get fs k) (sym found_in_program) ∙ at)

-- ---- void without parameters

pub and_no : (a b : Bool) → b ≡ false → false ≡ (a && b)
and_no true b is_false = sym is_false
and_no false b is_false = refl

pub no_single : (ps : List tree.Param) → (length ps ≡ 1 → ⊥) → false ≡ same_types (map (λ (p : tree.Param). p.0) ps) (Void ∷ [])
no_single [] more = refl
no_single (x ∷ []) more = absurd (more refl)
no_single (x ∷ y ∷ ps) more = go (same_type x.0 Void)
  where
    go : (b : Bool) → false ≡ (b && false)
    go true = refl
    go false = refl
