-- A unit among others, trimmed, makes a program from which functions are left out that no text uses.
use Rattle.c_trim.proofs.Common.{◌≡◌, ℕ, ◌+◌, ◌<◌, Bool, true, false, not, ◌&&◌, ◌||◌, ◌≢◌, List, [], ◌∷◌, ◌++◌, map, length, is_some}
use Rattle.c_trim.proofs.Common.{if◌then◌else◌, ◌==◌, slice_get, Some, zip, filter_map, sym, refl, ap, ◌∙◌, subst, arith, eq-eqb, eqb-true}
use Rattle.c_trim.proofs.Common.{AllByRecursion, range_with_len, both_hold, of_each, by_test, Host, Name, Program, trimmed_renames}
use Rattle.c_trim.proofs.Common.{KeptItem, item_stays, Renaming, AllKeepRules, among, TellsNeeded, body_functions, kept, stays}
use Rattle.std.proofs.lemmas.Bool.{and_from, or_right, or_left}
use Rattle.c_tree.specs.Tree as tree
use Rattle.c_tree.specs.Rules as rule
use Rattle.c_meaning.specs.Linking.{Definition, definition_of, definition_at, is_external}
use Rattle.c_renaming.specs.Renames.{Renames}
use Rattle.c_renaming.specs.Kept as text
use Rattle.c_renaming.specs.Trimming as whole
use Rattle.c_trim.proofs.RulesHold.{rules_hold}
use Rattle.c_trim.proofs.SameScope.{Each}
use Rattle.c_trim.proofs.KeptRules.{IsClosed}
use Rattle.c_trim.proofs.KeptText.{AreNamed, are_named, NamesUsed, kept_items}
use Rattle.c_trim.proofs.Needed.{closed}

not_same : (j k : ℕ) → j ≢ k → (j == k) ≡ false
not_same j k apart = by_test (j == k) (λ is. absurd (apart (eqb-true j k is))) (λ is. is)

-- external names stay, and so do those that are needed
abbrev pub name_stays : (Name → Bool) → Name → Bool
name_stays needed x = rule.is_symbol x || needed x

-- by names and by items the same is kept
pub same_stays : (needed : Name → Bool) (item : tree.Item) → rule.file_name_is_free item ≡ true
    → item_stays (name_stays needed) item ≡ stays needed item
same_stays needed (tree.Function f) free = grind (arith, rule.is_runtime_name f.name, rule.is_symbol f.name)
same_stays needed _ free = refl

same_left : (needed : Name → Bool) (items : List tree.Item) → AreNamed items → whole.left (name_stays needed) items ≡ kept needed items
same_left needed [] free = refl
same_left needed (x ∷ items) free = λ i.
    if same_stays needed x free.0 i then x ∷ same_left needed items free.1 i else same_left needed items free.1 i

all_left : (stay : Name → Bool) → ((x : Name) → stay x ≡ true) → (items : List tree.Item) → whole.left stay items ≡ items
all_left stay all [] = refl
all_left stay all (tree.Array name count bytes ∷ items) = ap (λ l. tree.Array name count bytes ∷ l) (all_left stay all items)
all_left stay all (tree.Var ty name number ∷ items) = ap (λ l. tree.Var ty name number ∷ l) (all_left stay all items)
all_left stay all (tree.Function f ∷ items) = λ i.
    if all f.name i then tree.Function f ∷ all_left stay all items i else all_left stay all items i

module _ (before after : List (List tree.Item)) (hosts : List Host) (unit : List tree.Item) (needed : Name → Bool)
    (tells : TellsNeeded unit needed) (keeps : AllKeepRules (before ++ unit ∷ after)) where
  abbrev p : Program
  p = among before unit after hosts

  abbrev k : ℕ
  k = length before

  abbrev pub stay : whole.Stays
  stay u x = if u == k then name_stays needed x else true

  abbrev pub used : whole.Stays
  used u x = is_some (slice_get p.units u) && (stay u x || not (is_some (definition_at p u x)))

  abbrev ρ : Renaming
  ρ = whole.trimming p used stay

  symbol_stays : (u : ℕ) (x : Name) → rule.is_symbol x ≡ true → stay u x ≡ true
  symbol_stays u x is = grind arith

  -- ---- the other units, and this one

  pub at_place : (xs ys : List (List tree.Item)) → slice_get (xs ++ unit ∷ ys) (length xs) ≡ Some unit
  at_place [] ys = refl
  at_place (x ∷ xs) ys = at_place xs ys

  pub this_unit : (items : List tree.Item) → slice_get p.units k ≡ Some items → items ≡ unit
  this_unit items there = let e : Some items ≡ Some unit = sym there ∙ at_place before after in cc

  -- what a function that stays names stays
  names_stay : (u : ℕ) (items : List tree.Item) → slice_get p.units u ≡ Some items → AllByRecursion (NamesUsed ρ u (stay u)) items
  names_stay u items there = by_test (u == k) mine others
    where
      is_used : (x : Name) → stay u x ≡ true → used u x ≡ true
      is_used x is = and_from (is_some (slice_get p.units u)) (stay u x || not (is_some (definition_at p u x))) (ap is_some there)
          (or_left (stay u x) (not (is_some (definition_at p u x))) is)

      others : (u == k) ≡ false → AllByRecursion (NamesUsed ρ u (stay u)) items
      others apart = go items
        where
          stays_too : (x : Name) → used u x ≡ true
          stays_too x = is_used x (ap (λ b. if b then name_stays needed x else true) apart)

          all : (names : List Name) → Each (used u) names
          all [] = tt
          all (x ∷ names) = (stays_too x, all names)

          go : (items : List tree.Item) → AllByRecursion (NamesUsed ρ u (stay u)) items
          go [] = tt
          go (tree.Array name count bytes ∷ items) = (tt, go items)
          go (tree.Var ty name number ∷ items) = (tt, go items)
          go (tree.Function f ∷ items) = (λ is. all (body_functions f.body), go items)

      mine : (u == k) ≡ true → AllByRecursion (NamesUsed ρ u (stay u)) items
      mine same = subst (λ (l : List tree.Item). AllByRecursion (NamesUsed ρ u (stay u)) l) (sym is_unit)
          (go unit (subst AreNamed is_unit (are_named items 0 items (rules_hold items (keeps u items there)))) (closed unit needed tells))
        where
          is_unit : items ≡ unit
          is_unit = this_unit items (subst (λ (n : ℕ). slice_get p.units n ≡ Some items) (eqb-true u k same) there)

          here : (x : Name) → stay u x ≡ name_stays needed x
          here x = ap (λ b. if b then name_stays needed x else true) same

          go : (l : List tree.Item) → AreNamed l → IsClosed needed l → AllByRecursion (NamesUsed ρ u (stay u)) l
          go [] free all = tt
          go (tree.Array name count bytes ∷ l) free all = (tt, go l free.1 all.1)
          go (tree.Var ty name number ∷ l) free all = (tt, go l free.1 all.1)
          go (tree.Function f ∷ l) free all = (
            λ is. of_each (λ (x : Name). needed x ≡ true) (λ (x : Name). used u x ≡ true)
                (λ x is. is_used x (here x ∙ or_right (rule.is_symbol x) (needed x) is)) (body_functions f.body)
                (all.0 (sym (same_stays needed (tree.Function f) free.0) ∙ sym (here f.name) ∙ is)),
            go l free.1 all.1,
          )

  text_kept : (u : ℕ) (items : List tree.Item) → slice_get p.units u ≡ Some items → text.Each (KeptItem ρ u (stay u)) items
  text_kept u items there =
      let hold = rules_hold items (keeps u items there) in
      let free : AreNamed items = are_named items 0 items hold in
      kept_items ρ u (stay u) items free 0 items (names_stay u items there) free hold

  abbrev definitions_from : ℕ → List tree.Item → List Definition
  definitions_from j items = filter_map definition_of (zip (range_with_len j (length items)) items)

  externals : (u j : ℕ) (items : List tree.Item) → AreNamed items
      → text.Each (λ (d : Definition). is_external d ≡ true → stay u d.func.name ≡ true) (definitions_from j items)
  externals u j [] free = tt
  externals u j (tree.Array name count bytes ∷ items) free = externals u (j + 1) items free.1
  externals u j (tree.Var ty name number ∷ items) free = externals u (j + 1) items free.1
  externals u j (tree.Function f ∷ items) free = grind (arith, externals u (j + 1) items free.1, symbol_stays)

  is_used : (u : ℕ) (x : Name) → used u x ≡ true → whole.IsUsed p stay u x
  is_used u x e = search (arith, both_hold)

  pub may : whole.MayTrim p used stay
  may = record {
    text = text_kept;
    externals = λ u items there. externals u 0 items (are_named items 0 items (rules_hold items (keeps u items there)));
    used = is_used;
  }

  -- ---- the program

  abbrev changed : ℕ → List (List tree.Item) → List (List tree.Item)
  changed j units = map (λ e. whole.left (stay e.0) e.1) (zip (range_with_len j (length units)) units)

  other_left : (j : ℕ) (items : List tree.Item) → j ≢ k → whole.left (stay j) items ≡ items
  other_left j items apart = all_left (stay j) (λ x. ap (λ b. if b then name_stays needed x else true) (not_same j k apart)) items

  behind_left : (j : ℕ) (units : List (List tree.Item)) → k < j → changed j units ≡ units
  behind_left j [] less = refl
  behind_left j (items ∷ units) less = λ i. other_left j items (λ e. omega arith) i ∷ behind_left (j + 1) units (omega arith) i

  pub unit_named : AreNamed unit
  unit_named = are_named unit 0 unit (rules_hold unit (keeps k unit (at_place before after)))

  pub this_left : (j : ℕ) → j ≡ k → whole.left (stay j) unit ≡ kept needed unit
  this_left j at =
      ap (λ (b : Bool). whole.left (λ x. if b then name_stays needed x else true) unit) (eq-eqb j k at)
      ∙ same_left needed unit unit_named

  front_left : (j : ℕ) (units : List (List tree.Item)) → j + length units ≡ k
      → changed j (units ++ unit ∷ after) ≡ units ++ kept needed unit ∷ after
  front_left j [] e =
      let at : j ≡ k = omega arith in
      let less : k < j + 1 = omega arith in
      λ i. this_left j at i ∷ behind_left (j + 1) after less i
  front_left j (items ∷ units) e = λ i. other_left j items (λ same. omega arith) i ∷ front_left (j + 1) units (omega arith) i

  pub trimmed_is : whole.trimmed p stay ≡ among before (kept needed unit) after hosts
  trimmed_is = ap (λ (units : List (List tree.Item)). record {
    units = units;
    hosts = hosts;
  }) (front_left 0 before (let e : 0 + length before ≡ length before = omega arith in e))

  pub renames : Renames ρ p (whole.trimmed p stay)
  renames = trimmed_renames p used stay may
