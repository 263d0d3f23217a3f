-- Reaching functions keeps what the marks say, and goes on for as long as there are items.
use Rattle.c_trim.proofs.Common.{◌≡◌, ℕ, zero, suc, ◌+◌, ◌-◌, ◌<◌, ◌≤◌, Bool, true, false, ◌&&◌, ◌||◌, ◌⊎◌, List, [], ◌∷◌, ◌++◌, length}
use Rattle.c_trim.proofs.Common.{take, if◌then◌else◌, ◌==◌, slice_get, slice_index_or, slice_set, Some, None, Option, bytes_eq, sym, refl}
use Rattle.c_trim.proofs.Common.{ap, ◌∙◌, subst, inl, inr, append_assoc, append-nil, arith, length-append, eq-eqb, eqb-true}
use Rattle.c_trim.proofs.Common.{bytes_eq-Decides, both_hold, named, defines, has_body, Name, is_among, name_of, Found, position_found}
use Rattle.c_trim.proofs.Common.{AreReached, BegunTo, FollowedTo, IsWanted, KnowsDefiners, Reached, begins, definer, functions_at, is_in}
use Rattle.c_trim.proofs.Common.{unreached, with_item, with_names, IsNeeded, is_external, item_functions, names, list_any-append}
use Rattle.std.proofs.lemmas.Bool.{and_from, or_right, or_left, false≢true}
use Rattle.std.proofs.lemmas.Option.{same_Some, slice_get_within}
use Rattle.w2c_base.proofs.Places.{get_within}
use Rattle.c_tree.specs.Tree as tree
use Rattle.std.proofs.lemmas.Map.Keys.{any_passes_from_place}

abbrev flag : List Bool → ℕ → Bool
flag flags j = slice_index_or flags j false

-- ---- one flag more

set_long : (flags : List Bool) (j : ℕ) → length (slice_set flags j true) ≡ length flags
set_long (b ∷ flags) (suc j) = ap suc (set_long flags j)
set_long _ _ = refl

set_grows : (flags : List Bool) (j m : ℕ) → flag flags m ≡ true → flag (slice_set flags j true) m ≡ true
set_grows [] j m e = cc
set_grows (b ∷ flags) zero zero e = refl
set_grows (b ∷ flags) (suc j) (suc m) e = set_grows flags j m e
set_grows _ _ _ e = e

set_here : (flags : List Bool) (j : ℕ) → j < length flags → flag (slice_set flags j true) j ≡ true
set_here [] j less = absurd (omega arith)
set_here (b ∷ flags) zero less = refl
set_here (b ∷ flags) (suc j) less = set_here flags j (omega arith)

set_only : (flags : List Bool) (j m : ℕ) → flag (slice_set flags j true) m ≡ true → (flag flags m ≡ true) ⊎ (j ≡ m)
set_only [] j m e = cc
set_only (b ∷ flags) zero zero e = inr refl
set_only (b ∷ flags) (suc j) (suc m) e = grind (arith, set_only flags j m e)
set_only _ _ _ e = inl e

-- what is told false is there
there_if_false : (flags : List Bool) (j : ℕ) → slice_index_or flags j true ≡ false → j < length flags
there_if_false [] j e = cc
there_if_false (b ∷ flags) zero e = omega arith
there_if_false (b ∷ flags) (suc j) e = let less = there_if_false flags j e in omega arith

true_both : (flags : List Bool) (j : ℕ) → j < length flags → slice_index_or flags j true ≡ true → flag flags j ≡ true
true_both [] j less e = absurd (omega arith)
true_both (b ∷ flags) zero less e = e
true_both (b ∷ flags) (suc j) less e = true_both flags j (omega arith) e

true_there : (flags : List Bool) (j : ℕ) → flag flags j ≡ true → j < length flags
true_there [] j e = cc
true_there (b ∷ flags) zero e = omega arith
true_there (b ∷ flags) (suc j) e = let less = true_there flags j e in omega arith

fewer : (flags : List Bool) (j : ℕ) → slice_index_or flags j true ≡ false → suc (unreached (slice_set flags j true)) ≡ unreached flags
fewer (false ∷ flags) zero e = refl
fewer (true ∷ flags) (suc j) e = fewer flags j e
fewer (false ∷ flags) (suc j) e = ap suc (fewer flags j e)
fewer _ _ e = cc

-- ---- numbers in a list

in_front : (j : ℕ) (xs ys : List ℕ) → is_in j xs ≡ true → is_in j (xs ++ ys) ≡ true
in_front j xs ys e = list_any-append (λ m. m == j) xs ys ∙ or_left (is_in j xs) (is_in j ys) e

at_end : (j : ℕ) (xs : List ℕ) → is_in j (xs ++ j ∷ []) ≡ true
at_end j xs = list_any-append (λ m. m == j) xs (j ∷ []) ∙
    or_right (is_in j xs) (is_in j (j ∷ [])) (or_left (j == j) false (eq-eqb j j refl))

in_either : (j m : ℕ) (xs : List ℕ) → is_in j (xs ++ m ∷ []) ≡ true → (is_in j xs ≡ true) ⊎ (m ≡ j)
in_either j m xs e = by (is_in j xs) (m == j) refl (sym (list_any-append (λ n. n == j) xs (m ∷ [])) ∙ e)
  where
    by : (b c : Bool) → (m == j) ≡ c → (b || (c || false)) ≡ true → (b ≡ true) ⊎ (m ≡ j)
    by true c is e = inl refl
    by false true is e = inr (eqb-true m j is)
    by false false is e = cc

-- ---- marks that grow

pub record Grows (r r' : Reached) : Type 0 where
  pub long : length r'.0 ≡ length r.0
  pub flags : (j : ℕ) → flag r.0 j ≡ true → flag r'.0 j ≡ true
  pub more : List ℕ
  pub order : r'.1 ≡ r.1 ++ more

grows_item : (o : Option ℕ) (r : Reached) → Grows r (with_item o r)
grows_item None r = record { long = refl; flags = λ j e. e; more = []; order = sym (append-nil r.1) }
grows_item (Some j) r = grind (arith, append-nil r.1, set_long r.0 j, set_grows)

grows_both : (r s t : Reached) → Grows r s → Grows s t → Grows r t
grows_both r s t one two = record {
  long = two.long ∙ one.long;
  flags = λ j e. two.flags j (one.flags j e);
  more = one.more ++ two.more;
  order = two.order ∙ ap (λ l. l ++ two.more) one.order ∙ append_assoc r.1 one.more two.more;
}

pub grows : (table : List (Name × ℕ)) (names : List Name) (r : Reached) → Grows r (with_names table names r)
grows table [] r = grows_item None r
grows table (x ∷ names) r = grows_both r (with_item (named x table) r) (with_names table names (with_item (named x table) r))
    (grows_item (named x table) r) (grows table names (with_item (named x table) r))

-- ---- what the marks cost

abbrev pub cost : Reached → ℕ
cost r = unreached r.0 + length r.1

one_more : (xs : List ℕ) (x : ℕ) → length (xs ++ x ∷ []) ≡ suc (length xs)
one_more [] x = refl
one_more (y ∷ xs) x = ap suc (one_more xs x)

cost_item : (o : Option ℕ) (r : Reached) → cost (with_item o r) ≡ cost r
cost_item None r = refl
cost_item (Some j) r = grind (arith, one_more r.1 j, fewer)

pub cost_names : (table : List (Name × ℕ)) (names : List Name) (r : Reached) → cost (with_names table names r) ≡ cost r
cost_names table [] r = refl
cost_names table (x ∷ names) r = cost_names table names (with_item (named x table) r) ∙ cost_item (named x table) r

-- ---- what was reached had a reason

module _ (unit : List tree.Item) where
  reached_item : (j : ℕ) (r : Reached) → AreReached unit r → ((item : tree.Item) → slice_get unit j ≡ Some item → IsWanted unit item)
      → AreReached unit (with_item (Some j) r)
  reached_item j r old want =
      search (arith, at_end j r.1, set_long r.0 j, in_front, set_grows, set_here, set_only, there_if_false, in_either)

  item_flag : (m : ℕ) (r : Reached) → m < length r.0 → flag (with_item (Some m) r).0 m ≡ true
  item_flag m r less = grind (arith, set_here r.0 m less, true_both)

  -- the item that defines a function
  pub record Defined (x : Name) (m : ℕ) : Type 0 where
    pub item : tree.Item
    pub there : slice_get unit m ≡ Some item
    pub defines_it : defines x item ≡ true

  pub defined_at : (x : Name) (m : ℕ) → definer unit x ≡ Some m → Defined x m
  defined_at x m e =
      let f : Found (defines x) 0 m unit = position_found (defines x) 0 m unit e in
      let is : m ≡ 0 + f.at = f.is in
      let same : f.at ≡ m = omega (arith, is) in
      record { item = f.item; there = subst (λ k. slice_get unit k ≡ Some f.item) same f.there; defines_it = f.passes }

  module _ (table : List (Name × ℕ)) (knows : KnowsDefiners table unit) where
    reached_names : (names : List Name) (r : Reached) → AreReached unit r → ((x : Name) → is_among x names ≡ true → IsNeeded unit x)
        → AreReached unit (with_names table names r)
    reached_names [] r old need = old
    reached_names (x ∷ names) r old need =
        reached_names names (with_item (named x table) r) (by (named x table) (sym (knows x)))
        (λ y e. need y (or_right (bytes_eq y x) (is_among y names) e))
      where
        by : (o : Option ℕ) → definer unit x ≡ o → AreReached unit (with_item o r)
        by None is = old
        by (Some j) is =
            let d = defined_at x j is in
            let name : name_of d.item
            ≡ x = (bytes_eq-Decides (name_of d.item) x).0 (both_hold (bytes_eq (name_of d.item) x) (has_body d.item) d.defines_it).0 in
            reached_item j r old (λ item there.
            let same : d.item ≡ item = cc in
            inr (subst (IsNeeded unit) (sym name ∙ ap name_of same)
            (need x (or_left (bytes_eq x x) (is_among x names) ((bytes_eq-Decides x x).1 refl)))))

    names_flagged : (names : List Name) (r : Reached) (x : Name) (m : ℕ) → is_among x names ≡ true → named x table ≡ Some m → m < length r.0
        → flag (with_names table names r).0 m ≡ true
    names_flagged [] r x m among is less = cc
    names_flagged (y ∷ names) r x m among is less =
        let new = with_item (named y table) r in
        let longer = grows_item (named y table) r in
        grind (arith, names_flagged names new x m, bytes_eq-Decides x y, grows table names new, item_flag m r less, longer)

    -- ---- an item is followed

    pub names_needed : (i : ℕ) (item : tree.Item) → slice_get unit i ≡ Some item → IsWanted unit item → (x : Name)
        → is_among x (item_functions item) ≡ true → IsNeeded unit x
    names_needed i item there (inl external) x among = record {
      chain = [];
      leads_there =
          any_passes_from_place (λ y. is_external y && is_among x (item_functions y)) unit i item there
          (and_from (is_external item) _ external among);
    }
    names_needed i item there (inr need) x among = record {
      chain = name_of item ∷ need.chain;
      leads_there = and_from (names unit (name_of item) x) _
          (any_passes_from_place (λ y. bytes_eq (name_of y) (name_of item) && is_among x (item_functions y)) unit i item there
          (and_from (bytes_eq (name_of item) (name_of item)) _ ((bytes_eq-Decides (name_of item) (name_of item)).1 refl) among))
          need.leads_there;
    }

    in_at : (xs : List ℕ) (k i : ℕ) → slice_get xs k ≡ Some i → is_in i xs ≡ true
    in_at [] k i e = cc
    in_at (x ∷ xs) zero i e = let same : x ≡ i = cc in or_left (x == i) (is_in i xs) (eq-eqb x i same)
    in_at (x ∷ xs) (suc k) i e = or_right (x == i) (is_in i xs) (in_at xs k i e)

    take_at_place : (xs more : List ℕ) (k i : ℕ) → slice_get xs k ≡ Some i → take (k + 1) (xs ++ more) ≡ take k xs ++ i ∷ []
    take_at_place [] more k i e = cc
    take_at_place (x ∷ xs) more zero i e = let same : x ≡ i = cc in ap (λ n. n ∷ []) same
    take_at_place (x ∷ xs) more (suc k) i e =
        let n : suc k + 1 ≡ suc (k + 1) = omega arith in
        ap (λ m. take m (x ∷ (xs ++ more))) n ∙ ap (λ l. x ∷ l) (take_at_place xs more k i e)

    pub follow : (k : ℕ) (r r' : Reached) → k < length r.1 → r' ≡ with_names table (functions_at unit (slice_get r.1 k)) r
        → AreReached unit r → FollowedTo unit k r → AreReached unit r' × FollowedTo unit (k + 1) r'
    follow k r r' less is old followed =
        let at = get_within r.1 k less in
        let i : ℕ = at.0 in
        let inside : is_in i r.1 ≡ true = in_at r.1 k i at.1 in
        let short : i < length unit = subst (λ n. i < n) old.long (true_there r.0 i (old.flagged i inside)) in
        let found = get_within unit i short in
        let item : tree.Item = found.0 in
        let named_here : functions_at unit (slice_get r.1 k) ≡ item_functions item =
        ap (functions_at unit) at.1
        ∙ ap (λ (o : Option tree.Item). elim o as (λ _. List Name) [ None ↦ [] | Some y ↦ item_functions y ]) found.1 in
        let new : r' ≡ with_names table (item_functions item) r = is ∙ ap (λ l. with_names table l r) named_here in
        let g : Grows r r' = subst (Grows r) (sym new) (grows table (item_functions item) r) in (
          rw new (reached_names (item_functions item) r old (names_needed i item found.1 (old.wanted i item inside found.1))),
          λ j other within there x among m defines_it. by i item at.1 found.1 new g j other there x among m defines_it
              (in_either j i (take k r.1) (sym (ap (λ l. is_in j (take (k + 1) l)) g.order
              ∙ ap (is_in j) (take_at_place r.1 g.more k i at.1)) ∙ within)),
        )
      where
        by : (i : ℕ) (item : tree.Item) → slice_get r.1 k ≡ Some i → slice_get unit i ≡ Some item
            → r' ≡ with_names table (item_functions item) r → Grows r r'
            → (j : ℕ) (other : tree.Item) → slice_get unit j ≡ Some other → (x : Name) → is_among x (item_functions other) ≡ true
            → (m : ℕ) → definer unit x ≡ Some m → (is_in j (take k r.1) ≡ true) ⊎ (i ≡ j) → flag r'.0 m ≡ true
        by i item at found new g j other there x among m defines_it (inl before) =
            g.flags m (followed j other before there x among m defines_it)
        by i item at found new g j other there x among m defines_it (inr same) =
            let other_is : item ≡ other =
            same_Some item other (sym found ∙ ap (slice_get unit) same ∙ there) in
            let d = defined_at x m defines_it in
            let short : m < length r.0 = subst (λ n. m < n) (sym old.long) (slice_get_within unit m d.item d.there) in
            ap (λ (s : Reached). flag s.0 m) new
            ∙ names_flagged (item_functions item) r x m (ap (λ y. is_among x (item_functions y)) other_is ∙ among) (knows x
            ∙ defines_it) short

-- ---- the begin

pub begin_next : (unit : List tree.Item) (i : ℕ) (item : tree.Item) (r r' : Reached) → slice_get unit i ≡ Some item
    → r' ≡ (if begins item then with_item (Some i) r else r) → AreReached unit r → BegunTo unit i r
    → AreReached unit r' × BegunTo unit (i + 1) r'
begin_next unit i item r r' there is old begun =
    let within = slice_get_within unit i item there in
    search (arith, grows_item (Some i) r, within, grows_item None r, same_Some, both_hold, reached_item, item_flag, false≢true)

-- ---- the loop over the order

pub longer : (table : List (Name × ℕ)) (names : List Name) (r r' : Reached) → r' ≡ with_names table names r → length r.1 ≤ length r'.1
longer table names r r' is =
    let g = grows table names r in
    let e : length r'.1 ≡ length r.1 + length g.more = ap (λ (s : Reached). length s.1) is ∙ ap length g.order ∙ length-append r.1 g.more in
    omega arith

pub smaller : (table : List (Name × ℕ)) (names : List Name) (r r' : Reached) (k : ℕ) → k < length r.1 → r' ≡ with_names table names r
    → cost r' - (k + 1) < cost r - k
smaller table names r r' k less is =
    let same : unreached r'.0 + length r'.1 ≡ unreached r.0 + length r.1 = ap cost is ∙ cost_names table names r in
    let e : unreached r'.0 + length r'.1 - (k + 1) < unreached r.0 + length r.1 - k = omega arith in
    e

pub still_begun : (unit : List tree.Item) (table : List (Name × ℕ)) (names : List Name) (n : ℕ) (r r' : Reached) → r'
    ≡ with_names table names r
    → BegunTo unit n r → BegunTo unit n r'
still_begun unit table names n r r' is begun j item less there starts =
    ap (λ (s : Reached). flag s.0 j) is ∙ (grows table names r).flags j (begun j item less there starts)
