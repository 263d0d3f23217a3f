-- What names of functions stand for in the one unit that units become.
use Rattle.c_renaming.proofs.Common.{◌≡◌, ℕ, suc, ◌+◌, Bool, true, false, not, ◌&&◌, List, [], ◌∷◌, ◌++◌, map, length, is_some}
use Rattle.c_renaming.proofs.Common.{if◌then◌else◌, slice_get, Some, None, filter, Option, zip, flat_map, bytes_eq, sym, refl, ap, ◌∙◌}
use Rattle.c_renaming.proofs.Common.{subst, append_assoc, arith, bytes_eq-Decides, range_with_len, ⊤, both_hold, if_found, Definition}
use Rattle.c_renaming.proofs.Common.{Program, defined, defined_for_all, definition_at, is_external, is_init, primitive, FuncAddress, Name}
use Rattle.c_renaming.proofs.Common.{UnitFunc, Elsewhere, Here, KeepsExternals, StandsFor, definer, Each, KeptFunc, Foreign, KeepsSeen}
use Rattle.c_renaming.proofs.Common.{MayMerge, MayUse, Own, WhereDefined, joined, merged, merging, Renames, Renaming}
use Rattle.c_tree.specs.Tree as tree
use Rattle.c_renaming.specs.Renamed as renamed
use Rattle.c_renaming.proofs.Definitions.{definitions_from}
use Rattle.c_renaming.proofs.Made.{made_renames}
use Rattle.c_renaming.proofs.Merged.{each_joined, merged_made}
use Rattle.c_renaming.proofs.MergedNames.{definer_merged, inits_merged}
use Rattle.c_renaming.proofs.Merging.{merging_names}
use Rattle.c_renaming.proofs.Trimmed.{Found, position_found}
use Rattle.c_renaming.proofs.Each.{each-append}

abbrev first : {A : Type 0} → List A → Option A
first items = slice_get items 0

-- ---- lists of definitions

-- what is known of functions that have bodies is known of definitions
definitions_each : (P : tree.Func → Type 0) (k : ℕ) (items : List tree.Item) → Each (WhereDefined P) items
    → Each (λ d. P d.func) (definitions_from k items)
definitions_each P k [] each = tt
definitions_each P k (tree.Array name count bytes ∷ items) each = definitions_each P (k + 1) items each.1
definitions_each P k (tree.Var ty name number ∷ items) each = definitions_each P (k + 1) items each.1
definitions_each P k (tree.Function f ∷ items) each = grind (arith, definitions_each P (k + 1) items each.1)

-- the first that passes one test passes another
first_passes : {A : Type 0} (t t' : A → Bool) (P : A → Type 0) → ((a : A) → P a → t a ≡ true → t' a ≡ true) → (xs : List A) → Each P xs
    → is_some (first (filter t xs)) ≡ true → is_some (first (filter t' xs)) ≡ true
first_passes t t' P passes [] each is = cc
first_passes {A = A} t t' P passes (x ∷ xs) each is = grind (arith, first_passes t t' P passes xs each.1)

-- what is known of one that passes
one_passes : {A : Type 0} (t : A → Bool) (P : A → Type 0) (Q : Type 0) → ((a : A) → P a → t a ≡ true → Q) → (xs : List A) → Each P xs
    → is_some (first (filter t xs)) ≡ true → Q
one_passes t P Q gives [] each is = cc
one_passes t P Q gives (x ∷ xs) each is = grind (arith, one_passes t P Q gives xs each.1)

each_unit : {A : Type 0} (P : A → Type 0) (xs : List A) → ((j : ℕ) (x : A) → slice_get xs j ≡ Some x → P x) → Each P xs
each_unit P [] holds = tt
each_unit P (x ∷ xs) holds = (holds 0 x refl, each_unit P xs (λ j y there. holds (suc j) y there))

always : {A : Type 0} (xs : List A) → Each (λ (x : A). ⊤) xs
always [] = tt
always (x ∷ xs) = (tt, always xs)

module _ (p : Program) (rename : ℕ → Name → Name) (is_seen : Name → Bool) (uses : ℕ → Name → Bool)
    (may : MayMerge p rename is_seen uses) where
  abbrev ρ : Renaming
  ρ = merging p rename is_seen uses

  abbrev q : Program
  q = merged ρ p

  abbrev is_this : Name → Definition → Bool
  is_this x d = is_external d && bytes_eq d.func.name x

  abbrev IsSeen : Definition → Type 0
  IsSeen d = is_seen d.func.name ≡ not d.func.is_static

  clash : (b : Bool) → b ≡ true → b ≡ false → ⊥
  clash b e f = cc

  all_seen : Each (Each (KeepsSeen is_seen)) p.units
  all_seen = each_unit (Each (KeepsSeen is_seen)) p.units may.seen

  seen_in : (u : ℕ) (items : List tree.Item) → slice_get p.units u ≡ Some items → Each IsSeen (definitions_from 0 items)
  seen_in u items there = definitions_each (λ f. is_seen f.name ≡ not f.is_static) 0 items (may.seen u items there)

  -- ---- a function of external linkage in the unit that defines it

  pub external_seen : (x : Name) (items : List tree.Item) → Each IsSeen (definitions_from 0 items)
      → is_some (defined_for_all items x) ≡ true → is_seen x ≡ true
  external_seen x items seen is = one_passes (is_this x) IsSeen (is_seen x ≡ true) gives (definitions_from 0 items) seen is
    where
      gives : (d : Definition) → IsSeen d → is_this x d ≡ true → is_seen x ≡ true
      gives d seen e =
          let both = both_hold (is_external d) (bytes_eq d.func.name x) e in
          subst (λ (n : Name). is_seen n ≡ true) ((bytes_eq-Decides d.func.name x).0 both.1) (seen ∙ both.0)

  external_defined : (x : Name) (items : List tree.Item) → is_some (defined_for_all items x) ≡ true → is_some (defined items x) ≡ true
  external_defined x items is =
      first_passes (is_this x) (λ d. bytes_eq d.func.name x) (λ d. ⊤)
      (λ d tt e. (both_hold (is_external d) (bytes_eq d.func.name x) e).1) (definitions_from 0 items)
      (always (definitions_from 0 items)) is

  -- the unit that defines a function of external linkage
  record Definer (x : Name) (u : ℕ) : Type 0 where
    items : List tree.Item
    there : slice_get p.units u ≡ Some items
    is : is_some (defined_for_all items x) ≡ true

  definer_is : (x : Name) (u : ℕ) → definer p x ≡ Some u → Definer x u
  definer_is x u e =
      let f : Found (λ items. is_some (defined_for_all items x)) 0 u p.units = position_found
      (λ items. is_some (defined_for_all items x)) 0 u p.units e in
      let is : u ≡ 0 + f.at = f.is in
      let same : f.at ≡ u = omega (arith, is) in
      record { items = f.item; there = subst (λ k. slice_get p.units k ≡ Some f.item) same f.there; is = f.passes }

  seen_stays : (u : ℕ) (x : Name) → is_seen x ≡ true → ρ.func u x ≡ x
  seen_stays u x is = ap (λ b. if b then x else rename u x) is

  names_stay : (x : Name) (u : ℕ) → definer p x ≡ Some u → ρ.func u x ≡ x
  names_stay x u e = let d : Definer x u = definer_is x u e in seen_stays u x (external_seen x d.items (seen_in u d.items d.there) d.is)

  definer_defines : (x : Name) (u : ℕ) → definer p x ≡ Some u → ρ.defines u x ≡ true
  definer_defines x u e =
      let d : Definer x u = definer_is x u e in
      ap (λ o. is_some (if_found o (λ items. defined items x))) d.there ∙ external_defined x d.items d.is

  -- ---- a definition of the one unit that is seen is of external linkage

  abbrev SeenIsExternal : tree.Func → Type 0
  SeenIsExternal f = is_seen f.name ≡ true → f.is_static ≡ false

  item_external : (u : ℕ) (i : tree.Item) → KeepsSeen is_seen i → WhereDefined SeenIsExternal (renamed.item ρ u i)
  item_external u (tree.Function f) seen = grind (arith, may.not_seen u f.name, clash)
  item_external u _ seen = tt

  items_external : (u : ℕ) (items : List tree.Item) → Each (KeepsSeen is_seen) items
      → Each (WhereDefined SeenIsExternal) (map (renamed.item ρ u) items)
  items_external u [] seen = tt
  items_external u (i ∷ items) seen = (item_external u i seen.0, items_external u items seen.1)

  joined_external : Each (λ d. SeenIsExternal d.func) (definitions_from 0 (joined ρ 0 p.units))
  joined_external = definitions_each SeenIsExternal 0 (joined ρ 0 p.units)
      (each_joined ρ (WhereDefined SeenIsExternal) 0 p.units (λ j items there. items_external (0 + j) items (may.seen j items there)))

  seen_definer : (x : Name) → is_seen x ≡ true → is_some (definition_at q 0 x) ≡ true → definer q x ≡ Some 0
  seen_definer x seen is = ap (λ b. if b then Some 0 else None)
      (first_passes (λ d. bytes_eq d.func.name x) (is_this x) (λ d. SeenIsExternal d.func) passes
      (definitions_from 0 (joined ρ 0 p.units)) joined_external is)
    where
      passes : (d : Definition) → SeenIsExternal d.func → bytes_eq d.func.name x ≡ true → is_this x d ≡ true
      passes d external e =
          let same : d.func.name ≡ x = (bytes_eq-Decides d.func.name x).0 e in
          let static : d.func.is_static ≡ false = external (ap is_seen same ∙ seen) in
          ap (λ b. not b && bytes_eq d.func.name x) static ∙ e

  -- ---- names in text

  stands : (u : ℕ) (x : Name) → MayUse p is_seen u x → StandsFor ρ p q u x
  stands u x (Own there) = Here there there
  stands u x (Foreign there none seen) = Elsewhere there (seen_stays u x seen) none (seen_definer x seen)

  primitives_stay : (u : ℕ) (x : Name) → primitive (ρ.func u x) ≡ primitive x
  primitives_stay u x = grind (arith, may.primitives (rename u x) (may.not_seen u x), may.not_seen u x)

  -- ---- init functions

  abbrev functions_of : ℕ → List Definition → List FuncAddress
  functions_of u ds = map (λ d. UnitFunc u d.func.name) ds

  found_among : (x : Name) (before ds : List Definition) (d : Definition) → d.func.name ≡ x
      → is_some (first (filter (λ d. bytes_eq d.func.name x) (before ++ d ∷ ds))) ≡ true
  found_among x [] ds d same =
      let e : bytes_eq d.func.name x ≡ true = (bytes_eq-Decides d.func.name x).1 same in
      ap (λ b. is_some (first (if b then d ∷ filter (λ d. bytes_eq d.func.name x) ds else filter (λ d. bytes_eq d.func.name x) ds))) e
  found_among x (y ∷ before) ds d same = grind (arith, found_among x before ds d same)

  kept_from : (u : ℕ) (items : List tree.Item) → slice_get p.units u ≡ Some items → (before ds : List Definition)
      → definitions_from 0 items ≡ before ++ ds
      → Each (KeptFunc ρ) (functions_of u (filter is_init ds))
  kept_from u items there before [] is = tt
  kept_from u items there before (d ∷ ds) is = go (is_init d)
      (kept_from u items there (before ++ d ∷ []) ds (is ∙ sym (append_assoc before (d ∷ []) ds)))
    where
      defines : ρ.defines u d.func.name ≡ true
      defines =
          ap (λ o. is_some (if_found o (λ items. defined items d.func.name))) there
          ∙ ap (λ l. is_some (first (filter (λ e. bytes_eq e.func.name d.func.name) l))) is
          ∙ found_among d.func.name before ds d refl

      go : (b : Bool) → Each (KeptFunc ρ) (functions_of u (filter is_init ds))
          → Each (KeptFunc ρ) (functions_of u (if b then d ∷ filter is_init ds else filter is_init ds))
      go true behind = (defines, behind)
      go false behind = behind

  inits_kept : (k : ℕ) (units : List (List tree.Item))
      → ((j : ℕ) (items : List tree.Item) → slice_get units j ≡ Some items → slice_get p.units (k + j) ≡ Some items)
      → Each (KeptFunc ρ) (flat_map (λ e. functions_of e.0 (filter is_init (definitions_from 0 e.1)))
      (zip (range_with_len k (length units)) units))
  inits_kept k [] there = tt
  inits_kept k (items ∷ units) there =
      let e : k + 0 ≡ k = omega arith in
      each-append (KeptFunc ρ) (functions_of k (filter is_init (definitions_from 0 items))) _
      (kept_from k items (subst (λ n. slice_get p.units n ≡ Some items) e (there 0 items refl)) [] (definitions_from 0 items) refl)
      (inits_kept (k + 1) units
      (λ j items at. let g : k + suc j
      ≡ k + 1 + j = omega arith in subst (λ n. slice_get p.units n ≡ Some items) g (there (suc j) items at)))

  at_itself : (j : ℕ) (items : List tree.Item) → slice_get p.units j ≡ Some items → slice_get p.units (0 + j) ≡ Some items
  at_itself j items there = let e : j ≡ 0 + j = omega arith in subst (λ n. slice_get p.units n ≡ Some items) e there

  pub merged_externals : KeepsExternals ρ p q
  merged_externals = record {
    hosts = refl;
    primitives = λ u x is. primitives_stay u x;
    definers = definer_merged p rename is_seen uses all_seen;
    names = names_stay;
    defined = definer_defines;
    uses = λ u x is. stands u x (may.used u x is);
    inits = inits_merged p rename is_seen uses all_seen;
    inits_kept = inits_kept 0 p.units at_itself;
  }

pub merged_renames : (p : Program) (rename : ℕ → Name → Name) (is_seen : Name → Bool) (uses : ℕ → Name → Bool)
    → MayMerge p rename is_seen uses
    → Renames (merging p rename is_seen uses) p (merged (merging p rename is_seen uses) p)
merged_renames p rename is_seen uses may = made_renames (merging p rename is_seen uses) p (merged (merging p rename is_seen uses) p)
    (merging_names rename may.tells p is_seen uses) (merged_made p rename is_seen uses may) (merged_externals p rename is_seen uses may)
