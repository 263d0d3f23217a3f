-- Names in their order: each stands before those behind it, and none is lost where all differ.
use Rattle.crun_lines.proofs.Common.{◌≡◌, ◌≢◌, List, [], ◌∷◌, ◌++◌, length, IsPermutation, nat_cmp, sym, refl, ap, ◌∙◌, subst, append-nil}
use Rattle.crun_lines.proofs.Common.{insert_entry, nat_list_cmp_total, slice_cmp, AllByRecursion, keys_of, match_ordering, ordering_reverse}
use Rattle.crun_lines.proofs.Common.{ordering_then, Ordering, Equal, Greater, Less, Name, in_order, name_order, put_in_order}
use Rattle.std.specs.List.Sorted.{IsStrictlySortedBy}
use Rattle.std.specs.Cmp.{IsTotalOrder, nat_cmp_total, on_total, then_total}
use Rattle.std.proofs.lemmas.List.Sorted.{IsPermutation-append_right, IsPermutation-cons, IsPermutation-middle, IsPermutation-refl}
use Rattle.std.proofs.lemmas.List.Sorted.{IsPermutation-sym, IsPermutation-trans}
use Rattle.std.proofs.lemmas.Map.Lookups.{exact_bytes}
use Rattle.w2c_base.specs.Lookup.{AreDistinct}
use Rattle.w2c_base.proofs.OfEach.{of_each}

names_total : IsTotalOrder name_order
names_total = then_total (on_total length nat_cmp_total) nat_list_cmp_total

second_equal : (o p : Ordering) → ordering_then o p ≡ Equal → p ≡ Equal
second_equal Equal p e = e
second_equal _ p e = absurd cc

-- a name that is put in front of the first entry, in its place, or behind it
abbrev put : {A : Type 0} → Ordering → Name → A → Name × A → List (Name × A) → List (Name × A)
put o k v e entries = match_ordering o ((k, v) ∷ e ∷ entries) ((e.0, v) ∷ entries) (e ∷ insert_entry name_order entries k v)

-- what holds of a name and of all names holds of all when it is put to its place
all_insert : {A : Type 0} (P : Name → Type 0) (entries : List (Name × A)) (k : Name) (v : A) → P k
    → AllByRecursion P (keys_of entries) → AllByRecursion P (keys_of (insert_entry name_order entries k v))
all_insert P [] k v p h = (p, tt)
all_insert {A} P (e ∷ entries) k v p h = by (all_insert P entries k v p h.1) (name_order k e.0) where
  by : AllByRecursion P (keys_of (insert_entry name_order entries k v)) → (o : Ordering) → AllByRecursion P (keys_of (put o k v e entries))
  by rest Less = (p, h)
  by rest Equal = h
  by rest Greater = (h.0, rest)

insert_sorted : {A : Type 0} (entries : List (Name × A)) (k : Name) (v : A) → IsStrictlySortedBy name_order (keys_of entries)
    → IsStrictlySortedBy name_order (keys_of (insert_entry name_order entries k v))
unfolding IsStrictlySortedBy
insert_sorted [] k v s = (tt, tt)
insert_sorted (e ∷ entries) k v s = by (insert_sorted entries k v s.1) (name_order k e.0) refl where
  by : IsStrictlySortedBy name_order (keys_of (insert_entry name_order entries k v)) → (o : Ordering) → name_order k e.0 ≡ o
      → IsStrictlySortedBy name_order (keys_of (put o k v e entries))
  by rest Less q =
      let below : AllByRecursion (λ y. name_order k y ≡ Less) (keys_of entries) =
      of_each (λ y. name_order e.0 y ≡ Less) (λ y. name_order k y ≡ Less)
      (λ y h. names_total.trans k e.0 y q h) (keys_of entries) s.0 in
      ((q, below), s)
  by rest Equal q = s
  by rest Greater q =
      (all_insert (λ y. name_order e.0 y ≡ Less) entries k v (names_total.antisymm e.0 k ∙ ap ordering_reverse q) s.0, rest)

put_sorted : {A : Type 0} (placed entries : List (Name × A)) → IsStrictlySortedBy name_order (keys_of placed)
    → IsStrictlySortedBy name_order (keys_of (put_in_order placed entries))
put_sorted placed [] s = s
put_sorted placed (e ∷ entries) s = put_sorted (insert_entry name_order placed e.0 e.1) entries (insert_sorted placed e.0 e.1 s)

pub names_ascend : {A : Type 0} (entries : List (Name × A)) → IsStrictlySortedBy name_order (keys_of (in_order entries))
unfolding IsStrictlySortedBy
names_ascend entries = put_sorted [] entries tt

insert_permutes : {A : Type 0} (entries : List (Name × A)) (k : Name) (v : A) → AllByRecursion (λ y. k ≢ y) (keys_of entries)
    → IsPermutation ((k, v) ∷ entries) (insert_entry name_order entries k v)
insert_permutes [] k v h = IsPermutation-refl ((k, v) ∷ [])
insert_permutes {A} (e ∷ entries) k v h = by (insert_permutes entries k v h.1) (name_order k e.0) refl where
  by : IsPermutation ((k, v) ∷ entries) (insert_entry name_order entries k v) → (o : Ordering) → name_order k e.0 ≡ o
      → IsPermutation ((k, v) ∷ e ∷ entries) (put o k v e entries)
  by rest Less q = IsPermutation-refl ((k, v) ∷ e ∷ entries)
  by rest Equal q = absurd (h.0 (exact_bytes k e.0 (second_equal (nat_cmp (length k) (length e.0)) (slice_cmp nat_cmp k e.0) q)))
  by rest Greater q =
      IsPermutation-trans ((k, v) ∷ e ∷ entries) (e ∷ (k, v) ∷ entries) (e ∷ insert_entry name_order entries k v)
      (IsPermutation-sym (e ∷ (k, v) ∷ entries) ((k, v) ∷ e ∷ entries) (IsPermutation-middle (e ∷ []) (k, v) entries))
      (IsPermutation-cons e ((k, v) ∷ entries) (insert_entry name_order entries k v) rest)

-- names that differ from those that are placed
abbrev AreApart : List Name → List Name → Type 0
AreApart names placed = AllByRecursion (λ x. AllByRecursion (λ y. x ≢ y) placed) names

still_apart : {A : Type 0} (names : List Name) (placed : List (Name × A)) (k : Name) (v : A) → AllByRecursion (λ x. k ≢ x) names
    → AreApart names (keys_of placed) → AreApart names (keys_of (insert_entry name_order placed k v))
still_apart [] placed k v d h = tt
still_apart (x ∷ names) placed k v d h =
    (all_insert (λ y. x ≢ y) placed k v (λ e. d.0 (sym e)) h.0, still_apart names placed k v d.1 h.1)

put_permutes : {A : Type 0} (placed entries : List (Name × A)) → AreDistinct (keys_of entries)
    → AreApart (keys_of entries) (keys_of placed)
    → IsPermutation (entries ++ placed) (put_in_order placed entries)
put_permutes placed [] d h = IsPermutation-refl placed
put_permutes placed (e ∷ entries) d h =
    let next : List (Name × _) = insert_entry name_order placed e.0 e.1 in
    IsPermutation-trans (e ∷ (entries ++ placed)) (entries ++ e ∷ placed) (put_in_order next entries)
    (IsPermutation-sym (entries ++ e ∷ placed) (e ∷ (entries ++ placed)) (IsPermutation-middle entries e placed))
    (IsPermutation-trans (entries ++ e ∷ placed) (entries ++ next) (put_in_order next entries)
    (IsPermutation-append_right entries (e ∷ placed) next (insert_permutes placed e.0 e.1 h.0))
    (put_permutes next entries d.1 (still_apart (keys_of entries) placed e.0 e.1 d.0 h.1)))

none_placed : (names : List Name) → AreApart names []
none_placed [] = tt
none_placed (x ∷ names) = (tt, none_placed names)

pub none_is_lost : {A : Type 0} (entries : List (Name × A)) → AreDistinct (keys_of entries) → IsPermutation entries (in_order entries)
none_is_lost entries d =
    subst (λ es. IsPermutation es (in_order entries)) (append-nil entries) (put_permutes [] entries d (none_placed (keys_of entries)))
