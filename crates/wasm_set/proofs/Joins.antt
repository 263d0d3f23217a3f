-- A module joins exactly where the list with it is a linked set.
use Rattle.wasm_set.proofs.Common.{◌≡◌, ℕ, zero, suc, ◌<◌, ◌≤◌, Bool, true, false, ◌&&◌, ◌≢◌, List, [], ◌∷◌, ◌++◌, map, length, take}
use Rattle.wasm_set.proofs.Common.{is_none, if◌then◌else◌, nat_lt, slice_get, Some, option_map, bytes_eq, sym, refl, ap, ◌∙◌, subst}
use Rattle.wasm_set.proofs.Common.{append-nil, arith, length-append, nat_tests, length-map, map-append, slice_get_within, AllByRecursion}
use Rattle.wasm_set.proofs.Common.{list_all, both_hold, AreDistinct, Host, Module, Instance, IsLinked, LinkedSet, NamedModule, Resolves}
use Rattle.wasm_set.proofs.Common.{instances, module_at, is_given, may_join, module_named, named_of, set_of, SetModule, and_from}
use Rattle.std.proofs.lemmas.Slice.Eq.{bytes_eq-Decides}
use Rattle.wasm_set.proofs.Pairs.{Together}
use Rattle.wasm_set.proofs.Instances.{IsInstanceOf, IsSound, first_stand}
use Rattle.wasm_set.proofs.Extending.{alone, module_extends, all_extend}
use Rattle.wasm_set.proofs.Resolving.{IsBehind, given_resolve, resolved_are_given}

-- ---- names

abbrev names : List NamedModule → List (List ℕ)
names modules = map (λ m. m.name) modules

distinct_with : (xs : List (List ℕ)) (y : List ℕ) → AreDistinct xs → AllByRecursion (λ x. x ≢ y) xs → AreDistinct (xs ++ y ∷ [])
distinct_with [] y h k = (tt, tt)
distinct_with (x ∷ xs) y h k = (others xs h.0, distinct_with xs y h.1 k.1)
  where
    others : (xs : List (List ℕ)) → AllByRecursion (λ other. x ≢ other) xs → AllByRecursion (λ other. x ≢ other) (xs ++ y ∷ [])
    others [] h = (k.0, tt)
    others (z ∷ xs) h = (h.0, others xs h.1)

distinct_without : (xs : List (List ℕ)) (y : List ℕ) → AreDistinct (xs ++ y ∷ []) → AllByRecursion (λ x. x ≢ y) xs
distinct_without [] y h = tt
distinct_without (x ∷ xs) y h = (last xs h.0, distinct_without xs y h.1)
  where
    last : (xs : List (List ℕ)) → AllByRecursion (λ other. x ≢ other) (xs ++ y ∷ []) → x ≢ y
    last [] h = h.0
    last (z ∷ xs) h = last xs h.1

-- no module has the name
abbrev NoneHas : List SetModule → List ℕ → Type 0
NoneHas modules name = AllByRecursion (λ x. x ≢ name) (names (map named_of modules))

none_has : (modules : List SetModule) (name : List ℕ) → is_none (module_named modules name) ≡ true → NoneHas modules name
none_has [] name e = tt
none_has (m ∷ modules) name e = by (bytes_eq m.name name) refl (none_has modules name) e
  where
    by : (b : Bool) → bytes_eq m.name name ≡ b → (is_none (module_named modules name) ≡ true → NoneHas modules name)
        → is_none (if b then Some m else module_named modules name) ≡ true → (m.name ≢ name) × NoneHas modules name
    by true is others e = absurd (cc)
    by false is others e = (
      λ same. let wrong : true ≡ false = sym ((bytes_eq-Decides m.name name).1 same) ∙ is in absurd (cc),
      others e,
    )

none_named : (modules : List SetModule) (name : List ℕ) → NoneHas modules name → is_none (module_named modules name) ≡ true
none_named [] name h = refl
none_named (m ∷ modules) name h = by (bytes_eq m.name name) refl (none_named modules name h.1)
  where
    by : (b : Bool) → bytes_eq m.name name ≡ b → is_none (module_named modules name) ≡ true
        → is_none (if b then Some m else module_named modules name) ≡ true
    by true is others = absurd (h.0 ((bytes_eq-Decides m.name name).0 is))
    by false is others = others

-- the names of modules with one behind them
names_with : (modules : List NamedModule) (m : NamedModule) → names (modules ++ m ∷ []) ++ [] ≡ names modules ++ m.name ∷ []
names_with modules m = append-nil (names (modules ++ m ∷ [])) ∙ map-append (λ (m : NamedModule). m.name) modules (m ∷ [])

-- ---- the last module

pub data LastCase {A B : Type 0} (f : A → B) (xs : List A) (y : A) (p : ℕ) (b : B) : Type 0 where
  Earlier : (less : p < length xs) → (is : option_map f (slice_get xs p) ≡ Some b) → LastCase f xs y p b
  Last : (number : length xs ≡ p) → (is : f y ≡ b) → LastCase f xs y p b

pub last_case : {A B : Type 0} (f : A → B) (xs : List A) (y : A) (p : ℕ) (b : B) → option_map f (slice_get (xs ++ y ∷ []) p) ≡ Some b
    → LastCase f xs y p b
last_case f [] y zero b e = let same : f y ≡ b = cc in Last refl same
last_case f [] y (suc p) b e = absurd (cc)
last_case f (x ∷ xs) y zero b e = Earlier (omega arith) e
last_case f (x ∷ xs) y (suc p) b e = elim (last_case f xs y p b e) [
  | Earlier less is ↦ Earlier (omega (arith, less)) is
  | Last number is ↦ Last (ap (λ n. suc n) number) is
]

last_at : {A B : Type 0} (f : A → B) (xs : List A) (y : A) → option_map f (slice_get (xs ++ y ∷ []) (length xs)) ≡ Some (f y)
last_at f [] y = refl
last_at f (x ∷ xs) y = last_at f xs y

-- ---- the set with a module behind it

module _ (modules : List SetModule) (x : SetModule) where
  -- the modules, and the set with the new one
  abbrev front : List NamedModule
  front = map named_of modules

  abbrev whole : LinkedSet
  whole = alone (front ++ named_of x ∷ [])

  whole_is : set_of (modules ++ x ∷ []) ≡ whole
  whole_is = ap alone (map-append named_of modules (x ∷ []))

  last_is : module_at whole (length modules) ≡ Some x.«module»
  last_is =
      ap (module_at whole) (sym (length-map modules named_of))
      ∙ last_at (λ (m : NamedModule). m.tree) front (named_of x)

  -- where the modules in front are sound in the whole, the new one stands behind them
  behind : ((i : ℕ) (m : NamedModule) → slice_get front i ≡ Some m → IsSound whole i m)
      → IsBehind modules whole (length modules) x.«module»
  behind sound =
      let h = first_stand whole front (named_of x ∷ []) refl sound in
      record {
        alone = refl;
        is = last_is;
        stand = subst (λ (all : List Instance). Together (IsInstanceOf whole) all front)
            (sym (ap (λ n. take n (instances whole)) (sym (length-map modules named_of)) ∙ h.1)) h.2;
      }

  pub joined_is_linked : IsLinked (set_of modules) → may_join modules x.name x.«module» ≡ true → IsLinked (set_of (modules ++ x ∷ []))
  joined_is_linked linked e = subst IsLinked (sym whole_is) (record {
    at_most_16 = few;
    names_differ = differ;
    functions_differ = tt;
    imports_resolve = resolve;
  })
    where
      tests : (nat_lt (length modules) 16 ≡ true) × ((is_none (module_named modules x.name) && list_all
          (is_given modules x.«module») x.«module».imports) ≡ true)
      tests = both_hold (nat_lt (length modules) 16)
          (is_none (module_named modules x.name) && list_all (is_given modules x.«module») x.«module».imports) e

      others : (is_none (module_named modules x.name) ≡ true) × (list_all (is_given modules x.«module») x.«module».imports ≡ true)
      others = both_hold (is_none (module_named modules x.name)) (list_all (is_given modules x.«module») x.«module».imports) tests.1

      few : length (front ++ named_of x ∷ []) ≤ 16
      few =
          let less : length modules < 16 = grind (arith, nat_tests, tests.0) in
          omega (arith, less, length-append front (named_of x ∷ []), length-map modules named_of)

      differ : AreDistinct (names (front ++ named_of x ∷ []) ++ map (λ (h : Host). h.name) [])
      differ =
          let before : AreDistinct (names front) = subst AreDistinct (append-nil (names front)) linked.names_differ in
          subst AreDistinct (sym (names_with front (named_of x)))
          (distinct_with (names front) x.name before (none_has modules x.name others.0))

      extended : (p : ℕ) (m : Module) → p < length front → module_at (alone front) p ≡ Some m → AllByRecursion (Resolves whole p) m.imports
      extended p m less is =
          all_extend front (named_of x ∷ []) p (omega (arith, less)) m.imports (linked.imports_resolve p m is)

      sound : (i : ℕ) (m : NamedModule) → slice_get front i ≡ Some m → IsSound whole i m
      sound i m at =
          let is : module_at (alone front) i ≡ Some m.tree = ap (option_map (λ (m : NamedModule). m.tree)) at in
          record {
            is = module_extends front (named_of x ∷ []) i m.tree is;
            resolves = extended i m.tree (slice_get_within front i m at) is;
          }

      new : AllByRecursion (Resolves whole (length modules)) x.«module».imports
      new = given_resolve modules whole (length modules) x.«module» (behind sound) x.«module».imports others.1

      resolve : (p : ℕ) (m : Module) → module_at whole p ≡ Some m → AllByRecursion (Resolves whole p) m.imports
      resolve p m at = by (last_case (λ (m : NamedModule). m.tree) front (named_of x) p m at)
        where
          by : LastCase (λ (m : NamedModule). m.tree) front (named_of x) p m → AllByRecursion (Resolves whole p) m.imports
          by (Earlier less is) = extended p m less is
          by (Last number is) =
              let count : length modules ≡ p = sym (length-map modules named_of) ∙ number in
              subst (λ n. AllByRecursion (Resolves whole n) m.imports) count
              (subst (λ (m : Module). AllByRecursion (Resolves whole (length modules)) m.imports) is new)

  pub linked_is_joined : IsLinked (set_of (modules ++ x ∷ [])) → may_join modules x.name x.«module» ≡ true
  linked_is_joined linked_whole = and_from _ _ few (and_from _ _ unnamed
      (resolved_are_given modules whole (length modules) x.«module» (behind sound) x.«module».imports
      (linked.imports_resolve (length modules) x.«module» last_is)))
    where
      linked : IsLinked whole
      linked = subst IsLinked whole_is linked_whole

      few : nat_lt (length modules) 16 ≡ true
      few =
          let less : length modules < 16 = omega
          (arith, linked.at_most_16, length-append front (named_of x ∷ []), length-map modules named_of) in
          grind (arith, nat_tests, less)

      unnamed : is_none (module_named modules x.name) ≡ true
      unnamed = none_named modules x.name
          (distinct_without (names front) x.name (subst AreDistinct (names_with front (named_of x)) linked.names_differ))

      sound : (i : ℕ) (m : NamedModule) → slice_get front i ≡ Some m → IsSound whole i m
      sound i m at =
          let is : module_at whole i ≡ Some m.tree =
          module_extends front (named_of x ∷ []) i m.tree (ap (option_map (λ (m : NamedModule). m.tree)) at) in
          record { is = is; resolves = linked.imports_resolve i m.tree is }

-- whether it may join, by what was looked at
pub place_told : (modules : List SetModule) (name n : List ℕ) (m t : Module) (told : Bool) → told ≡ may_join modules n t → n ≡ name → t ≡ m
    → may_join modules name m ≡ told
place_told modules name n m t told is same_name same_tree =
    sym (is ∙ ap (λ (n : List ℕ). may_join modules n t) same_name ∙ ap (may_join modules name) same_tree)
