-- The names of the functions that a unit defines.
use Rattle.c_link.proofs.Common.{◌≡◌, ℕ, zero, suc, ◌+◌, ◌<◌, ◌≤◌, Bool, true, false, ◌&&◌, ◌||◌, List, [], ◌∷◌, ◌++◌, map, length, get_or}
use Rattle.c_link.proofs.Common.{take, is_some, if◌then◌else◌, slice_get, Some, None, filter, Option, option_map, bytes_eq, sym, refl, ap}
use Rattle.c_link.proofs.Common.{◌∙◌, subst, arith, take_all, length-map, slice_get-get_or, list_any, option_or, take_next, if_found, named}
use Rattle.c_link.proofs.Common.{defines, Name, unit_of, CType, Item, Definition, Program, defined, external_func, func_named, UnitFunc}
use Rattle.c_link.proofs.Common.{HaveOwn, Knows, IsProgramOf, address_in, HostSymbol, Owner, beside}
use Rattle.std.proofs.Math.Bool.{or-false}
use Rattle.c_tree.specs.Tree as tree
use Rattle.c_link.specs.declared.offers.Owner.TheVariants as owner
use Rattle.c_link.proofs.Apart.{definitions_from}
use Rattle.c_link.proofs.Rules.{first_defined}

any_push : {A : Type 0} (p : A → Bool) (xs : List A) (x : A) → list_any p (xs ++ x ∷ []) ≡ (list_any p xs || p x)
any_push p [] x = or-false (p x)
any_push p (y ∷ xs) x = go (p y) (any_push p xs x)
  where
    go : (b : Bool) → list_any p (xs ++ x ∷ []) ≡ (list_any p xs || p x) → (b || list_any p (xs ++ x ∷ [])) ≡
        ((b || list_any p xs) || p x)
    go true e = refl
    go false e = e

pub knows_next : (q : Name) (items : List tree.Item) (i : ℕ) (item : tree.Item) (before after : Bool) → slice_get items i ≡ Some item
    → after ≡ (before || defines q item) → before ≡ list_any (defines q) (take i items) → after ≡ list_any (defines q)
    (take (i + 1) items)
knows_next q items i item before after at grown so_far =
    grown ∙ ap (λ b. b || defines q item) so_far
    ∙ sym (ap (list_any (defines q)) (take_next items i item at) ∙ any_push (defines q) (take i items) item)

-- an item defines the name, or one behind it does
function_defines : (k : ℕ) (q : Name) (items : List tree.Item) (is_static : Bool) (result : CType) (name : Name)
    (params : List tree.Param) (o : Option tree.Body)
    → is_some (first_defined (k + 1) q items) ≡ list_any (defines q) items
    → is_some (first_defined k q (tree.Function (record
    { is_static = is_static; result = result; name = name; params = params; body = o }) ∷ items))
    ≡ ((bytes_eq name q && is_some o) || list_any (defines q) items)
function_defines k q items is_static result name params None e = e ∙ go (bytes_eq name q)
  where
    go : (b : Bool) → list_any (defines q) items ≡ ((b && false) || list_any (defines q) items)
    go true = refl
    go false = refl
function_defines k q items is_static result name params (Some body) e = go (bytes_eq name q)
  where
    f : tree.Func
    f = record { is_static = is_static; result = result; name = name; params = params; body = Some body }

    others : List Definition
    others = filter (λ (d : Definition). bytes_eq d.func.name q) (definitions_from (k + 1) items)

    go : (b : Bool) → is_some (slice_get (if b then record { item = k; func = f; body = body } ∷ others else others) 0)
        ≡ ((b && true) || list_any (defines q) items)
    go true = refl
    go false = e

item_defines : (name q : Name) (b : Bool) → b ≡ ((bytes_eq name q && false) || b)
item_defines name q b = go (bytes_eq name q)
  where
    go : (t : Bool) → b ≡ ((t && false) || b)
    go true = refl
    go false = refl

defined_from : (k : ℕ) (q : Name) (items : List tree.Item) → is_some (first_defined k q items) ≡ list_any (defines q) items
defined_from k q [] = refl
defined_from k q (tree.Array name count bytes ∷ items) = defined_from (k + 1) q items ∙ item_defines name q (list_any (defines q) items)
defined_from k q (tree.Var ty name number ∷ items) = defined_from (k + 1) q items ∙ item_defines name q (list_any (defines q) items)
defined_from k q (tree.Function f ∷ items) =
    function_defines k q items f.is_static f.result f.name f.params f.body (defined_from (k + 1) q items)

pub knows_all : (q : Name) (items : List tree.Item) (i : ℕ) (known : Bool) → length items ≤ i
    → known ≡ list_any (defines q) (take i items) → known ≡ is_some (defined items q)
knows_all q items i known past so_far = so_far ∙ ap (list_any (defines q)) (take_all i items past) ∙ sym (defined_from 0 q items)

-- ---- a table for each unit

push_many : {B : Type 0} (xs : List B) (x : B) → length (xs ++ x ∷ []) ≡ suc (length xs)
push_many [] x = refl
push_many (y ∷ xs) x = ap suc (push_many xs x)

module _ {A : Type 0} where
  pub none_own : (tables : List (List (Name × A))) → tables ≡ [] → HaveOwn tables []
  none_own tables none = record { many = ap length none; each = λ u table items at at_unit. absurd (nothing u items at_unit) }
    where
      nothing : (u : ℕ) (items : List tree.Item) → slice_get [] u ≡ Some items → ⊥
      nothing u items e = cc

  each_push : (tables : List (List (Name × A))) (units : List (List tree.Item)) (new : List (Name × A)) (unit : List tree.Item)
      → length tables ≡ length units
      → ((u : ℕ) (table : List (Name × A)) (items : List tree.Item) → slice_get tables u ≡ Some table → slice_get units u ≡ Some items
      → Knows table items) → Knows new unit
      → (u : ℕ) (table : List (Name × A)) (items : List tree.Item) → slice_get (tables ++ new ∷ []) u ≡ Some table
      → slice_get (units ++ unit ∷ []) u ≡ Some items → Knows table items
  each_push [] [] new unit many each knows zero table items at at_unit =
      let same : new ≡ table = cc in
      let same_unit : unit ≡ items = cc in
      subst (λ t. Knows t items) same (subst (Knows new) same_unit knows)
  each_push [] [] new unit many each knows (suc u) table items at at_unit = absurd cc
  each_push (t ∷ tables) (y ∷ units) new unit many each knows zero table items at at_unit = each zero table items at at_unit
  each_push (t ∷ tables) (y ∷ units) new unit many each knows (suc u) table items at at_unit =
      each_push tables units new unit (omega arith) (λ v. each (suc v)) knows u table items at at_unit
  each_push _ _ new unit many each knows u table items at at_unit = absurd (omega arith)

  pub own_push : (tables : List (List (Name × A))) (units : List (List tree.Item)) (i : ℕ) (new : List (Name × A))
      (unit : List tree.Item) → slice_get units i ≡ Some unit
      → HaveOwn tables (take i units) → Knows new unit → HaveOwn (tables ++ new ∷ []) (take (i + 1) units)
  own_push tables units i new unit at own knows =
      subst (HaveOwn (tables ++ new ∷ [])) (sym (take_next units i unit at)) (record {
        many = push_many tables new ∙ ap suc own.many ∙ sym (push_many (take i units) unit);
        each = each_push tables (take i units) new unit own.many own.each knows;
      })

-- ---- what a name stands for in a unit

pub own_named : (p : Program) (u : ℕ) (items : List tree.Item) (q : Name) → slice_get p.units u ≡ Some items
    → is_some (defined items q) ≡ true → Some (UnitFunc u q) ≡ func_named p u q
own_named p u items q at own =
    go (defined items q) own ∙ sym (ap (λ o. if_found o (λ items. option_or (option_map (λ (d : Definition). UnitFunc u q)
    (defined items q)) (external_func p q))) at)
  where
    go : (d : Option Definition) → is_some d ≡ true
        → Some (UnitFunc u q) ≡ option_or (option_map (λ (d : Definition). UnitFunc u q) d) (external_func p q)
    go None e = cc
    go (Some d) e = refl

pub other_named : (p : Program) (u : ℕ) (items : List tree.Item) (q : Name) → slice_get p.units u ≡ Some items
    → is_some (defined items q) ≡ false → external_func p q ≡ func_named p u q
other_named p u items q at own =
    go (defined items q) own ∙ sym (ap (λ o. if_found o (λ items. option_or (option_map (λ (d : Definition). UnitFunc u q)
    (defined items q)) (external_func p q))) at)
  where
    go : (d : Option Definition) → is_some d ≡ false
        → external_func p q ≡ option_or (option_map (λ (d : Definition). UnitFunc u q) d) (external_func p q)
    go None e = refl
    go (Some d) e = cc

module _ {A : Type 0} (units : List (List Item)) (hosts : List HostSymbol) (own : List (List (Name × A)))
    (known : HaveOwn own (map unit_of units)) (now : List (List Item) × List HostSymbol) (is : (units, hosts) ≡ now)
    (u : ℕ) (table : List (Name × A)) (at : slice_get own u ≡ Some table) (q : Name) (p : Program)
    (there : IsProgramOf p (map unit_of now.0) now.1) where
  unit_there : (items : List tree.Item) × (slice_get p.units u ≡ Some items) × (is_some (named q table) ≡ is_some (defined items q))
  unit_there =
      let unit = beside own (map unit_of units) u table known.many at in
      let same : p.units ≡ map unit_of units =
      there.units_are ∙ ap (λ (seen : List (List Item) × List HostSymbol). map unit_of seen.0) (sym is) in
      (unit.0, ap (λ us. slice_get us u) same ∙ unit.1, known.each u table unit.0 at unit.1 q)

  pub named_here : is_some (named q table) ≡ true → if_found (Some (owner.Unit u)) (address_in p q) ≡ func_named p u q
  named_here own_one = own_named p u unit_there.0 q unit_there.1 (sym unit_there.2 ∙ own_one)

  pub named_elsewhere : (o : Option Owner) → is_some (named q table) ≡ false → if_found o (address_in p q) ≡ external_func p q
      → if_found o (address_in p q) ≡ func_named p u q
  named_elsewhere o none e = e ∙ other_named p u unit_there.0 q unit_there.1 (sym unit_there.2 ∙ none)

pub table_at : {A : Type 0} (units : List (List Item)) (hosts : List HostSymbol) (own : List (List (Name × A)))
    → HaveOwn own (map unit_of units) → (now : List (List Item) × List HostSymbol) → (units, hosts) ≡ now
    → (u : ℕ) → u < length now.0 → (table : List (Name × A)) → table ≡ get_or own u table → slice_get own u ≡ Some table
table_at units hosts own known now is u within table at =
    let many : length own ≡ length now.0 =
    known.many ∙ length-map units unit_of ∙ ap (λ (seen : List (List Item) × List HostSymbol). length seen.0) is in
    slice_get-get_or own u table (subst (λ n. u < n) (sym many) within) ∙ ap Some (sym at)
