-- What linked units and hosts define is defined once.
use Rattle.c_link.proofs.Common.{◌≡◌, ℕ, ◌+◌, Bool, true, false, ◌&&◌, List, [], ◌∷◌, ◌++◌, map, length, take, is_some, if◌then◌else◌}
use Rattle.c_link.proofs.Common.{slice_get, Some, None, filter, Option, option_map, zip, flat_map, filter_map, bytes_eq, sym, refl, ap, ◌∙◌}
use Rattle.c_link.proofs.Common.{bytes_eq-Decides, cons_option, range_with_len, option_or, if_found, named, numbered, named-append, or_none}
use Rattle.c_link.proofs.Common.{Name, type_of_func, CType, Definition, LinkRefusal, defined_for_all, definition_of, external_functions}
use Rattle.c_link.proofs.Common.{first, is_external, twice, type_found, signature_of, Offered, host_offer, host_offers, offers, unit_offers}
use Rattle.c_link.proofs.Common.{unit_type_of, first_twice}
use Rattle.std.proofs.lemmas.Bool.{both_ways}
use Rattle.c_tree.specs.Tree as tree
use Rattle.c_meaning.specs.Linking as linking
use Rattle.c_link.specs.declared.offers.Owner.TheVariants as owner

-- ---- what a unit defines, as the meaning of C finds it

abbrev pub seen_under : Name → Definition → Bool
seen_under q d = is_external d && bytes_eq d.func.name q

abbrev pub definitions_from : ℕ → List tree.Item → List Definition
definitions_from k items = filter_map definition_of (zip (range_with_len k (length items)) items)

abbrev pub first_under : ℕ → Name → List tree.Item → Option Definition
first_under k q items = slice_get (filter (seen_under q) (definitions_from k items)) 0

abbrev pub offer_of : ℕ → Option Definition → Option Offered
offer_of u d = option_map (λ (d : Definition). (owner.Unit u, type_of_func d.func)) d

function_says : (u k : ℕ) (q : Name) (items : List tree.Item) (is_static : Bool) (result : CType) (name : Name)
    (params : List tree.Param) (o : Option tree.Body)
    → named q (unit_offers (u, items)) ≡ offer_of u (first_under (k + 1) q items)
    → named q (unit_offers (
      u,
      tree.Function (record
          { is_static = is_static; result = result; name = name; params = params; body = o }) ∷ items,
    ))
    ≡ offer_of u (first_under k q (tree.Function (record
    { is_static = is_static; result = result; name = name; params = params; body = o }) ∷ items))
function_says u k q items true result name params None e = e
function_says u k q items false result name params None e = e
function_says u k q items true result name params (Some body) e = e
function_says u k q items false result name params (Some body) e = by_test (bytes_eq name q)
  where
    f : tree.Func
    f = record { is_static = false; result = result; name = name; params = params; body = Some body }

    by_test : (b : Bool) → (if b then Some (owner.Unit u, type_of_func f) else named q (unit_offers (u, items)))
        ≡ offer_of u (slice_get (if b then record { item = k; func = f; body = body } ∷ filter (seen_under q) (definitions_from
        (k + 1) items) else filter (seen_under q) (definitions_from (k + 1) items)) 0)
    by_test true = refl
    by_test false = e

pub says_from : (u k : ℕ) (q : Name) (items : List tree.Item) → named q (unit_offers (u, items)) ≡ offer_of u (first_under k q items)
says_from u k q [] = refl
says_from u k q (tree.Array name count bytes ∷ items) = says_from u (k + 1) q items
says_from u k q (tree.Var ty name number ∷ items) = says_from u (k + 1) q items
says_from u k q (tree.Function f ∷ items) =
    function_says u k q items f.is_static f.result f.name f.params f.body (says_from u (k + 1) q items)

pub unit_says : (u : ℕ) (q : Name) (items : List tree.Item) → named q (unit_offers (u, items)) ≡ offer_of u (defined_for_all items q)
unit_says u q items = says_from u 0 q items

-- the type that the units give a symbol
units_say : (k : ℕ) (q : Name) (units : List (List tree.Item))
    → if_found (named q (flat_map unit_offers (zip (range_with_len k (length units)) units))) unit_type_of ≡ signature_of units q
units_say k q [] = refl
units_say k q (items ∷ units) =
    ap (λ o. if_found o unit_type_of) (named-append q (unit_offers (k, items)) rest ∙ ap (λ o. option_or o (named q rest))
    (unit_says k q items))
    ∙ go (defined_for_all items q) (units_say (k + 1) q units)
  where
    rest : List (Name × Offered)
    rest = flat_map unit_offers (zip (range_with_len (k + 1) (length units)) units)

    go : (d : Option Definition) → if_found (named q rest) unit_type_of ≡ signature_of units q
        → if_found (option_or (offer_of k d) (named q rest)) unit_type_of
        ≡ option_map (λ (d : Definition). type_of_func d.func) (first (cons_option d (filter_map (λ items. defined_for_all items q) units)))
    go None e = e
    go (Some d) e = refl

-- ---- types that are found

abbrev pub typed : Option Offered → Option tree.FuncType
typed o = option_map (λ (o : Offered). o.1) o

typed-or : (a b : Option Offered) → typed (option_or a b) ≡ option_or (typed a) (typed b)
typed-or None b = refl
typed-or (Some x) b = refl

pub some_typed : (o : Option Offered) → is_some (typed o) ≡ is_some o
some_typed None = refl
some_typed (Some x) = refl

hosts_typed : (k : ℕ) (q : Name) (symbols : List (Name × tree.FuncType))
    → typed (named q (map host_offer (zip (range_with_len k (length symbols)) symbols))) ≡ named q symbols
hosts_typed k q [] = refl
hosts_typed k q (s ∷ symbols) = go (bytes_eq s.0 q) (hosts_typed (k + 1) q symbols)
  where
    behind : List (Name × Offered)
    behind = map host_offer (zip (range_with_len (k + 1) (length symbols)) symbols)

    go : (b : Bool) → typed (named q behind) ≡ named q symbols
        → typed (if b then Some (owner.Host k, s.1) else named q behind) ≡ (if b then Some s.1 else named q symbols)
    go true e = refl
    go false e = e

units_typed : (k : ℕ) (q : Name) (us : List (List tree.Item))
    → typed (named q (flat_map unit_offers (zip (range_with_len k (length us)) us))) ≡ signature_of us q
units_typed k q [] = refl
units_typed k q (items ∷ us) =
    ap typed (named-append q (unit_offers (k, items)) rest ∙ ap (λ o. option_or o (named q rest)) (unit_says k q items))
    ∙ go (defined_for_all items q) (units_typed (k + 1) q us)
  where
    rest : List (Name × Offered)
    rest = flat_map unit_offers (zip (range_with_len (k + 1) (length us)) us)

    go : (d : Option Definition) → typed (named q rest) ≡ signature_of us q
        → typed (option_or (offer_of k d) (named q rest))
        ≡ option_map (λ (d : Definition). type_of_func d.func) (first (cons_option d (filter_map (λ items. defined_for_all items q) us)))
    go None e = e
    go (Some d) e = refl

module _ (us : List (List tree.Item)) (symbols : List (Name × tree.FuncType)) (q : Name) where
  -- hosts stand in front of units, while the meaning of C looks into units first
  offers_typed : typed (named q (offers us symbols)) ≡ option_or (named q symbols) (signature_of us q)
  offers_typed =
      ap typed (named-append q (host_offers symbols) (flat_map unit_offers (numbered us)))
      ∙ typed-or (named q (host_offers symbols)) (named q (flat_map unit_offers (numbered us)))
      ∙ ap (λ o. option_or o (typed (named q (flat_map unit_offers (numbered us))))) (hosts_typed 0 q symbols)
      ∙ ap (option_or (named q symbols)) (units_typed 0 q us)

  -- something is found in both orders, or in none
  pub found_some : is_some (named q (offers us symbols)) ≡ is_some (type_found us symbols q)
  found_some = sym (some_typed (named q (offers us symbols))) ∙ ap is_some offers_typed ∙ go (named q symbols) (signature_of us q)
    where
      go : (a b : Option tree.FuncType) → is_some (option_or a b) ≡ is_some (option_or b a)
      go None None = refl
      go None (Some y) = refl
      go (Some x) None = refl
      go (Some x) (Some y) = refl

-- ---- what a host defines, no unit does

pub both_none : {A : Type 0} (a b : Option A) → option_or a b ≡ None → (a ≡ None) × (b ≡ None)
both_none None b e = (refl, e)
both_none (Some x) b e = cc

pub none_joined : {A : Type 0} (xs ys : List A) → first (xs ++ ys) ≡ None → (first xs ≡ None) × (first ys ≡ None)
none_joined [] ys e = (refl, e)
none_joined (x ∷ xs) ys e = cc

module _ (found : Name → Option tree.FuncType) (q : Name) (there : is_some (found q) ≡ true) (u : ℕ) where
  abbrev NoneTwice : List tree.Item → Type 0
  NoneTwice items = first (flat_map (twice found u) (external_functions items)) ≡ None

  not_this : (name : Name) (b : Bool) → first (if b then linking.Twice u name ∷ [] else []) ≡ None → b ≡ false
  not_this name true e = cc
  not_this name false e = refl

  function_apart : (items : List tree.Item) (is_static : Bool) (result : CType) (name : Name) (params : List tree.Param)
      (o : Option tree.Body)
      → (NoneTwice items → named q (unit_offers (u, items)) ≡ None)
      → NoneTwice (tree.Function (record { is_static = is_static; result = result; name = name; params = params; body = o }) ∷ items)
      → named q (unit_offers (
        u,
        tree.Function (record
            { is_static = is_static; result = result; name = name; params = params; body = o }) ∷ items,
      )) ≡ None
  function_apart items true result name params None behind e = behind e
  function_apart items false result name params None behind e = behind e
  function_apart items true result name params (Some body) behind e = behind e
  function_apart items false result name params (Some body) behind e =
      let rest : List LinkRefusal = flat_map (twice found u) (external_functions items) in
      let both = none_joined (if is_some (found name) then linking.Twice u name ∷ [] else []) rest e in
      by_test (bytes_eq name q) refl (not_this name (is_some (found name)) both.0) (behind both.1)
    where
      by_test : (b : Bool) → bytes_eq name q ≡ b → is_some (found name) ≡ false → named q (unit_offers (u, items)) ≡ None
          → (if b then Some (
            owner.Unit u,
            type_of_func
                (record { is_static = false; result = result; name = name; params = params; body = Some body }),
          ) else named q (unit_offers
          (u, items))) ≡ None
      by_test true same none rest =
          absurd (both_ways (is_some (found q)) (ap (λ n. is_some (found n)) (sym ((bytes_eq-Decides name q).0 same)) ∙ none) there)
      by_test false same none rest = rest

  pub unit_apart : (items : List tree.Item) → NoneTwice items → named q (unit_offers (u, items)) ≡ None
  unit_apart [] e = refl
  unit_apart (tree.Array name count bytes ∷ items) e = unit_apart items e
  unit_apart (tree.Var ty name number ∷ items) e = unit_apart items e
  unit_apart (tree.Function f ∷ items) e = function_apart items f.is_static f.result f.name f.params f.body (unit_apart items) e

module _ (units : List (List tree.Item)) (symbols : List (Name × tree.FuncType)) (q : Name) where
  found_there : is_some (named q symbols) ≡ true → (us : List (List tree.Item)) → is_some (type_found us symbols q) ≡ true
  found_there there us = go (signature_of us q) (named q symbols) there
    where
      go : (a b : Option tree.FuncType) → is_some b ≡ true → is_some (option_or a b) ≡ true
      go None b e = e
      go (Some x) b e = refl

  abbrev twice_of : ℕ × List tree.Item → List LinkRefusal
  twice_of u = flat_map (twice (type_found (take u.0 units) symbols) u.0) (external_functions u.1)

  units_apart : is_some (named q symbols) ≡ true → (us : List (ℕ × List tree.Item)) → first (flat_map twice_of us) ≡ None
      → named q (flat_map unit_offers us) ≡ None
  units_apart there [] e = refl
  units_apart there (u ∷ us) e =
      let both = none_joined (twice_of u) (flat_map twice_of us) e in
      named-append q (unit_offers u) (flat_map unit_offers us)
      ∙ ap (λ o. option_or o (named q (flat_map unit_offers us)))
      (unit_apart (type_found (take u.0 units) symbols) q (found_there there (take u.0 units)) u.0 u.1 both.0)
      ∙ units_apart there us both.1

  module _ (none : first_twice units symbols ≡ None) where
    pub no_unit : is_some (named q (host_offers symbols)) ≡ true → named q (flat_map unit_offers (numbered units)) ≡ None
    no_unit there =
        units_apart (ap is_some (sym (hosts_typed 0 q symbols)) ∙ some_typed (named q (host_offers symbols)) ∙ there) (numbered units) none

    -- so both orders find the same
    pub found_same : typed (named q (offers units symbols)) ≡ type_found units symbols q
    found_same = offers_typed units symbols q ∙ go (named q symbols) (signature_of units q)
        (λ there. sym (units_typed 0 q units) ∙ ap typed (units_apart there (numbered units) none))
      where
        go : (a b : Option tree.FuncType) → (is_some a ≡ true → b ≡ None) → option_or a b ≡ option_or b a
        go None b apart = sym (or_none b)
        go (Some x) b apart = ap (λ o. option_or o (Some x)) (sym (apart refl))

hosts_only : (q : Name) (hs : List (ℕ × (Name × tree.FuncType))) → if_found (named q (map host_offer hs)) unit_type_of ≡ None
hosts_only q [] = refl
hosts_only q (h ∷ hs) = go (bytes_eq h.1.0 q) (hosts_only q hs)
  where
    go : (b : Bool) → if_found (named q (map host_offer hs)) unit_type_of ≡ None
        → if_found (if b then Some (owner.Host h.0, h.1.1) else named q (map host_offer hs)) unit_type_of ≡ None
    go true e = refl
    go false e = e

-- the type of a symbol that units define is what is found under it, where no host defines it
pub signed : (units : List (List tree.Item)) (symbols : List (Name × tree.FuncType)) (q : Name) → first_twice units symbols ≡ None
    → if_found (named q (offers units symbols)) unit_type_of ≡ signature_of units q
signed units symbols q none =
    ap (λ o. if_found o unit_type_of) (named-append q (host_offers symbols) behind) ∙ go (named q (host_offers symbols)) refl
  where
    behind : List (Name × Offered)
    behind = flat_map unit_offers (numbered units)

    go : (o : Option Offered) → named q (host_offers symbols) ≡ o
        → if_found (option_or o (named q behind)) unit_type_of ≡ signature_of units q
    go None e = units_say 0 q units
    go (Some x) e =
        sym (ap (λ o. if_found o unit_type_of) e) ∙ hosts_only q (numbered symbols)
        ∙ ap (λ o. if_found o unit_type_of) (sym (no_unit units symbols q none (ap is_some e))) ∙ units_say 0 q units
