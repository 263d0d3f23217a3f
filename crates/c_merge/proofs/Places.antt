-- Where the items of the one unit come from.
use Rattle.c_merge.proofs.Common.{◌≡◌, ℕ, zero, suc, ◌+◌, ◌<◌, List, [], ◌∷◌, ◌++◌, map, take, slice_get, Some, sym, refl, ap, ◌∙◌, subst}
use Rattle.c_merge.proofs.Common.{append_assoc, arith, Program, each-append, each_by, Each, joined, Renaming, merge_names, merged}
use Rattle.c_tree.specs.Tree as tree
use Rattle.c_renaming.specs.Renamed as renamed
use Rattle.c_merge.proofs.Units.{each_from}
use Rattle.std.proofs.lemmas.List.{take-map}

-- ---- lists

pub take_next : {A : Type 0} (xs : List A) (k : ℕ) (x : A) → slice_get xs k ≡ Some x → take (suc k) xs ≡ take k xs ++ x ∷ []
take_next [] k x at = absurd cc
take_next (y ∷ xs) zero x at = let same : y ≡ x = cc in ap (λ z. z ∷ []) same
take_next (y ∷ xs) (suc k) x at = ap (λ l. y ∷ l) (take_next xs k x at)

pub from_map : {A B : Type 0} (f : A → B) (xs : List A) (k : ℕ) (y : B) → slice_get (map f xs) k ≡ Some y
    → (x : A) × (slice_get xs k ≡ Some x) × (y ≡ f x)
from_map f [] k y at = absurd cc
from_map f (x ∷ xs) zero y at = let same : f x ≡ y = cc in (x, refl, sym same)
from_map f (x ∷ xs) (suc k) y at = from_map f xs k y at

-- a place in two lists that are joined, with what is in front of it
data InAppend {A : Type 0} (xs ys : List A) (k : ℕ) (y : A) : Type 0 where
  InFirst : slice_get xs k ≡ Some y → take k (xs ++ ys) ≡ take k xs → InAppend xs ys k y
  InSecond : (j : ℕ) → slice_get ys j ≡ Some y → take k (xs ++ ys) ≡ xs ++ take j ys → InAppend xs ys k y

in_append : {A : Type 0} (xs ys : List A) (k : ℕ) (y : A) → slice_get (xs ++ ys) k ≡ Some y → InAppend xs ys k y
in_append [] ys k y at = InSecond k at refl
in_append (x ∷ xs) ys zero y at = InFirst at refl
in_append (x ∷ xs) ys (suc k) y at = go (in_append xs ys k y at)
  where
    go : InAppend xs ys k y → InAppend (x ∷ xs) ys (suc k) y
    go (InFirst here front) = InFirst here (ap (λ l. x ∷ l) front)
    go (InSecond j there front) = InSecond j there (ap (λ l. x ∷ l) front)

module _ (p : Program) where
  abbrev ρ : Renaming
  ρ = merge_names p

  -- an item of a unit, with its new names
  pub record From (w : ℕ) (other : tree.Item) : Type 0 where
    pub items : List tree.Item
    pub there : slice_get p.units w ≡ Some items
    pub number : ℕ
    pub item : tree.Item
    pub at : slice_get items number ≡ Some item
    pub is : other ≡ renamed.item ρ w item

  -- an item of a unit before one
  pub record Before (u : ℕ) (other : tree.Item) : Type 0 where
    pub unit : ℕ
    pub less : unit < u
    pub from : From unit other

  -- an item of the one unit at a place, and those in front of it: of other units, then of its own
  pub record Placed (front : List tree.Item) (y : tree.Item) : Type 0 where
    pub unit : ℕ
    pub from : From unit y
    pub others : List tree.Item
    pub before : Each (Before unit) others
    pub front_is : front ≡ others ++ map (renamed.item ρ unit) (take from.number from.items)

  before_more : (v : ℕ) (other : tree.Item) → Before v other → Before (v + 1) other
  before_more v other b = record { unit = b.unit; less = (let l : b.unit < v = b.less in omega (arith, l)); from = b.from }

  before_own : (v : ℕ) (items : List tree.Item) → slice_get p.units v ≡ Some items → Each (Before (v + 1)) (map (renamed.item ρ v) items)
  before_own v items there = each_from (Before (v + 1)) (map (renamed.item ρ v) items) (λ i other at.
      let from = from_map (renamed.item ρ v) items i other at in
      record {
        unit = v;
        less = omega arith;
        from = record { items = items; there = there; number = i; item = from.0; at = from.1; is = from.2 };
      })

  find : (v : ℕ) (units : List (List tree.Item)) (done : List tree.Item)
      → ((j : ℕ) (items : List tree.Item) → slice_get units j ≡ Some items → slice_get p.units (v + j) ≡ Some items)
      → Each (Before v) done
      → (k : ℕ) (y : tree.Item) → slice_get (joined ρ v units) k ≡ Some y → Placed (done ++ take k (joined ρ v units)) y
  find v [] done there before k y at = absurd cc
  find v (items ∷ units) done there before k y at =
      go (in_append (map (renamed.item ρ v) items) (joined ρ (v + 1) units) k y at)
      (find (v + 1) units (done ++ map (renamed.item ρ v) items)
      (λ j items at. let e : v + suc j
      ≡ v + 1 + j = omega arith in subst (λ n. slice_get p.units n ≡ Some items) e (there (suc j) items at))
      (each-append (Before (v + 1)) done (map (renamed.item ρ v) items) (each_by (before_more v) done before) (before_own v items own)))
    where
      own : slice_get p.units v ≡ Some items
      own = let e : v + 0 ≡ v = omega arith in subst (λ n. slice_get p.units n ≡ Some items) e (there 0 items refl)

      go : InAppend (map (renamed.item ρ v) items) (joined ρ (v + 1) units) k y
          → ((k : ℕ) (y : tree.Item) → slice_get (joined ρ (v + 1) units) k ≡ Some y
          → Placed ((done ++ map (renamed.item ρ v) items) ++ take k (joined ρ (v + 1) units)) y)
          → Placed (done ++ take k (map (renamed.item ρ v) items ++ joined ρ (v + 1) units)) y
      go (InFirst here front) behind =
          let from = from_map (renamed.item ρ v) items k y here in
          record {
            unit = v;
            from = record { items = items; there = own; number = k; item = from.0; at = from.1; is = from.2 };
            others = done;
            before = before;
            front_is = ap (λ l. done ++ l) (front ∙ take-map (renamed.item ρ v) k items);
          }
      go (InSecond j here front) behind =
          subst (λ l. Placed l y) (append_assoc done (map (renamed.item ρ v) items) (take j (joined ρ (v + 1) units))
          ∙ ap (λ l. done ++ l) (sym front)) (behind j y here)

  pub placed_at : (k : ℕ) (y : tree.Item) → slice_get (merged p.units) k ≡ Some y → Placed (take k (merged p.units)) y
  placed_at k y at = find 0 p.units []
      (λ j items there. let e : j ≡ 0 + j = omega arith in subst (λ n. slice_get p.units n ≡ Some items) e there) tt k y at

  -- the items up to it
  pub upto : (k : ℕ) (y : tree.Item) → slice_get (merged p.units) k ≡ Some y → (place : Placed (take k (merged p.units)) y)
      → take (k + 1) (merged p.units) ≡ place.others ++ map (renamed.item ρ place.unit) (take (place.from.number + 1) place.from.items)
  upto k y at place =
      let one : k + 1 ≡ suc k = omega arith in
      let next : place.from.number + 1 ≡ suc place.from.number = omega arith in
      ap (λ n. take n (merged p.units)) one
      ∙ take_next (merged p.units) k y at
      ∙ (λ i. place.front_is i ++ place.from.is i ∷ [])
      ∙ append_assoc place.others (map (renamed.item ρ place.unit) (take place.from.number place.from.items))
      (renamed.item ρ place.unit place.from.item ∷ [])
      ∙ ap (λ l. place.others ++ l) (joins (take place.from.number place.from.items) place.from.item)
      ∙ ap (λ l. place.others ++ map (renamed.item ρ place.unit) l)
      (sym (take_next place.from.items place.from.number place.from.item place.from.at))
      ∙ ap (λ n. place.others ++ map (renamed.item ρ place.unit) (take n place.from.items)) (sym next)
    where
      joins : (xs : List tree.Item) (x : tree.Item)
          → map (renamed.item ρ place.unit) xs ++ renamed.item ρ place.unit x ∷ [] ≡ map (renamed.item ρ place.unit) (xs ++ x ∷ [])
      joins [] x = refl
      joins (y ∷ xs) x = ap (λ l. renamed.item ρ place.unit y ∷ l) (joins xs x)
