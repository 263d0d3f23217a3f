-- What is needed in a unit: what stays of the unit names that alone, and it is needed in what stays too.
use Rattle.c_trim.proofs.Common.{◌≡◌, Bool, true, false, not, ◌&&◌, ◌||◌, List, [], ◌∷◌, filter, bytes_eq, sym, refl, ap, ◌∙◌, subst, Name}
use Rattle.c_trim.proofs.Common.{bytes_eq-Decides, AllByRecursion, list_any, both_hold, of_each, KeepsRules, is_among, name_of, IsNeeded}
use Rattle.c_trim.proofs.Common.{IsTrimmed, TellsNeeded, is_external, item_functions, kept, leads, names, stays, all_filtered, arith}
use Rattle.std.proofs.lemmas.Bool.{and_from, or_right}
use Rattle.c_tree.specs.Tree as tree
use Rattle.c_tree.specs.Spelled.{Formed, FitsItem, depth_limit}
use Rattle.c_tree.specs.WellFormed.{IsWellFormed, NamedItem}
use Rattle.c_tree.proofs.WellFormedUnits as whole
use Rattle.c_meaning.proofs.Lookups.{bytes_equal}
use Rattle.c_trim.proofs.Lists.{any_left, any_of_each}
use Rattle.c_trim.proofs.SameScope.{Each}
use Rattle.c_trim.proofs.KeptRules.{IsClosed, kept_keeps_rules}

-- each name of a list is among them
each_among : (xs : List Name) → AllByRecursion (λ (x : Name). is_among x xs ≡ true) xs
each_among xs = of_each (λ (x : Name). (test : Name → Bool) → test x ≡ true → list_any test xs ≡ true)
    (λ (x : Name). is_among x xs ≡ true) (λ x there. there (bytes_eq x) (bytes_equal x)) xs (any_of_each xs)

module _ (unit : List tree.Item) (needed : Name → Bool) (tells : TellsNeeded unit needed) where
  abbrev IsThere : tree.Item → Type 0
  IsThere item = (test : tree.Item → Bool) → test item ≡ true → list_any test unit ≡ true

  -- what an item names is needed, where it stays
  named_needed : (item : tree.Item) → IsThere item → stays needed item ≡ true → (x : Name) → is_among x (item_functions item) ≡ true
      → needed x ≡ true
  named_needed (tree.Function f) there stay x among = by f.is_static refl stay
    where
      by : (b : Bool) → f.is_static ≡ b → (not b || needed f.name) ≡ true → needed x ≡ true
      by false is stay = (tells x).1 (record {
        chain = [];
        leads_there = there (λ item. is_external item && is_among x (item_functions item)) (and_from (not f.is_static) _ (ap not is) among);
      })
      by true is stay =
          let need : IsNeeded unit f.name = (tells f.name).0 stay in
          (tells x).1 (record {
            chain = f.name ∷ need.chain;
            leads_there = and_from (names unit f.name x) _
                (there (λ item. bytes_eq (name_of item) f.name
                && is_among x (item_functions item)) (and_from (bytes_eq f.name f.name) _ (bytes_equal f.name) among))
                need.leads_there;
          })
  named_needed _ there stay x among = cc

  pub closed : IsClosed needed unit
  closed = of_each IsThere (λ (item : tree.Item). stays needed item ≡ true → Each needed (item_functions item))
      (λ item there stay. of_each (λ (x : Name). is_among x (item_functions item) ≡ true) (λ (x : Name). needed x ≡ true)
      (named_needed item there stay) (item_functions item) (each_among (item_functions item))) unit (any_of_each unit)

  -- ---- in what stays

  external_stays : (x : Name) (item : tree.Item) → (is_external item && is_among x (item_functions item)) ≡ true → stays needed item ≡ true
  external_stays x (tree.Function f) e = ap (λ b. b || needed f.name) (both_hold (not f.is_static) _ e).0
  external_stays x _ e = refl

  named_stays : (y x : Name) → needed y ≡ true → (item : tree.Item) → (bytes_eq (name_of item) y && is_among x (item_functions item)) ≡ true
      → stays needed item ≡ true
  named_stays y x is (tree.Function f) e =
      or_right (not f.is_static) (needed f.name) (ap needed ((bytes_eq-Decides f.name y).0 (both_hold (bytes_eq f.name y) _ e).0) ∙ is)
  named_stays y x is _ e = refl

  leads_still : (chain : List Name) (x : Name) → leads unit chain x ≡ true → leads (kept needed unit) chain x ≡ true
  leads_still [] x e = any_left _ (stays needed) (external_stays x) unit e
  leads_still (y ∷ chain) x e =
      let two = both_hold (names unit y x) (leads unit chain y) e in
      let need : needed y ≡ true = (tells y).1 (record { chain = chain; leads_there = two.1 }) in
      and_from (names (kept needed unit) y x) (leads (kept needed unit) chain y)
      (any_left _ (stays needed) (named_stays y x need) unit two.0) (leads_still chain y two.1)

  needed_still : (x : Name) → IsNeeded unit x → IsNeeded (kept needed unit) x
  needed_still x need = record { chain = need.chain; leads_there = leads_still need.chain x need.leads_there }

-- what passes a test passes a weaker one
filter_again : {A : Type 0} (p q : A → Bool) → ((a : A) → p a ≡ true → q a ≡ true) → (xs : List A) → filter q (filter p xs) ≡ filter p xs
filter_again p q go [] = refl
filter_again {A} p q go (x ∷ xs) = grind (arith, filter_again p q go xs)

-- what stays when it is trimmed again
pub trimmed_again : (unit once twice : List tree.Item) → IsTrimmed unit once → IsTrimmed once twice → twice ≡ once
trimmed_again unit once twice first second =
    let again : kept second.needed (kept first.needed unit) ≡ kept first.needed unit =
    filter_again (stays first.needed) (stays second.needed) more unit in
    second.is ∙ ap (kept second.needed) first.is ∙ again ∙ sym first.is
  where
    need : (x : Name) → first.needed x ≡ true → second.needed x ≡ true
    need x is = (second.tells x).1 (rw first.is (needed_still unit first.needed first.tells x ((first.tells x).0 is)))

    more : (item : tree.Item) → stays first.needed item ≡ true → stays second.needed item ≡ true
    more (tree.Function f) e = by f.is_static e
      where
        by : (b : Bool) → (not b || first.needed f.name) ≡ true → (not b || second.needed f.name) ≡ true
        by false e = refl
        by true e = need f.name e
    more _ e = refl

-- a unit is trimmed in one way
pub one_trimmed : (unit one other : List tree.Item) → IsTrimmed unit one → IsTrimmed unit other → one ≡ other
one_trimmed unit one other left right = grind arith

pub trimmed_formed : (unit trimmed : List tree.Item) → IsTrimmed unit trimmed → Formed unit → Formed trimmed
trimmed_formed unit trimmed is formed =
    let well : IsWellFormed unit = whole.well_formed unit formed in
    subst Formed (sym is.is) (whole.formed (kept is.needed unit) (record {
      named = all_filtered NamedItem (stays is.needed) unit well.named;
      fits = all_filtered (FitsItem depth_limit) (stays is.needed) unit well.fits;
    }))

pub trimmed_keeps : (unit trimmed : List tree.Item) → IsTrimmed unit trimmed → KeepsRules unit → KeepsRules trimmed
trimmed_keeps unit trimmed is keeps = rw is.is (kept_keeps_rules is.needed unit (closed unit is.needed is.tells) keeps)
