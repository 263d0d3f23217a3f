-- Units in which one is trimmed link as before, and the same calls fit.
use Rattle.c_trim.proofs.Common.{◌≡◌, ℕ, zero, suc, ◌+◌, Bool, true, false, not, ◌&&◌, ◌||◌, List, [], ◌∷◌, ◌++◌, length, take, is_some, ap}
use Rattle.c_trim.proofs.Common.{if◌then◌else◌, slice_get, Some, None, Option, zip, flat_map, sym, refl, ◌∙◌, list_any, range_with_len}
use Rattle.c_trim.proofs.Common.{if_found, Host, same_func_type, Name, func_type_of, LinkRefusal, NotDefined, Program, SymbolCall, Twice}
use Rattle.c_trim.proofs.Common.{TypeDiffers, defined_for_all, external_func, external_functions, fits, func_type, host_symbol, externals}
use Rattle.c_trim.proofs.Common.{link_refusal, made, names_kept, test_same, Renaming, AllKeepRules, among, TellsNeeded, kept, stays}
use Rattle.c_tree.specs.Tree as tree
use Rattle.c_meaning.proofs.Links.{program_twice, program_unresolved, refusal_stands}
use Rattle.c_renaming.specs.Trimming as whole
use Rattle.c_renaming.proofs.Made.{external_same, external_kept}
use Rattle.c_renaming.proofs.Types.{calls_fit, type_found}
use Rattle.c_trim.proofs.Lists.{map_left}
use Rattle.c_trim.proofs.Programs as program

-- ---- lists in which one element is another

each_flat : {A B : Type 0} (f g : A → List B) → ((a : A) → f a ≡ g a) → (xs : List A) → flat_map f xs ≡ flat_map g xs
each_flat f g same [] = refl
each_flat f g same (x ∷ xs) = λ i. same x i ++ each_flat f g same xs i

abbrev from : {A B : Type 0} → (ℕ → A → List B) → ℕ → List A → List B
from g j xs = flat_map (λ e. g e.0 e.1) (zip (range_with_len j (length xs)) xs)

module _ {A B : Type 0} (x y : A) (ys : List A) where
  behind_same : (f g : ℕ → A → List B) → ((j : ℕ) (a : A) → f j a ≡ g j a) → (j : ℕ) (xs : List A) → from f j xs ≡ from g j xs
  behind_same f g same j [] = refl
  behind_same f g same j (a ∷ xs) = λ i. same j a i ++ behind_same f g same (j + 1) xs i

  from_same : (f g : ℕ → A → List B) → ((j : ℕ) (a : A) → f j a ≡ g j a) → ((j : ℕ) → g j x ≡ g j y) → (j : ℕ) (xs : List A)
      → from f j (xs ++ x ∷ ys) ≡ from g j (xs ++ y ∷ ys)
  from_same f g same here j [] = λ i. (same j x ∙ here j) i ++ behind_same f g same (j + 1) ys i
  from_same f g same here j (a ∷ xs) = λ i. same j a i ++ from_same f g same here (j + 1) xs i

any_same : {A : Type 0} (x y : A) (ys : List A) (test : A → Bool) → test x ≡ test y → (n : ℕ) (xs : List A)
    → list_any test (take n (xs ++ x ∷ ys)) ≡ list_any test (take n (xs ++ y ∷ ys))
any_same x y ys test e zero xs = refl
any_same x y ys test e (suc n) [] = ap (λ b. b || list_any test (take n ys)) e
any_same x y ys test e (suc n) (a ∷ xs) = ap (λ b. test a || b) (any_same x y ys test e n xs)

-- ---- the functions of external linkage that a unit declares

abbrev external_of : tree.Item → Option tree.Func
external_of item = elim item as (λ _. Option tree.Func) [
  | tree.Array name count bytes ↦ None
  | tree.Var ty name number ↦ None
  | tree.Function f ↦ if f.is_static then None else Some f
]

not_external : (needed : Name → Bool) (item : tree.Item) → stays needed item ≡ false → external_of item ≡ None
not_external needed (tree.Function f) e = by f.is_static e
  where
    by : (b : Bool) → (not b || needed f.name) ≡ false → (if b then None else Some f) ≡ None
    by true e = refl
    by false e = cc
not_external needed _ e = cc

same_externals : (needed : Name → Bool) (items : List tree.Item) → external_functions (kept needed items) ≡ external_functions items
same_externals needed items = map_left external_of (stays needed) (not_external needed) items

module _ (before after : List (List tree.Item)) (hosts : List Host) (unit : List tree.Item) (needed : Name → Bool)
    (tells : TellsNeeded unit needed) (keeps : AllKeepRules (before ++ unit ∷ after)) where
  abbrev p : Program
  p = among before unit after hosts

  abbrev q : Program
  q = among before (kept needed unit) after hosts

  abbrev stay : whole.Stays
  stay = program.stay before after hosts unit needed tells keeps

  abbrev used : whole.Stays
  used = program.used before after hosts unit needed tells keeps

  abbrev may : whole.MayTrim p used stay
  may = program.may before after hosts unit needed tells keeps

  abbrev ρ : Renaming
  ρ = whole.trimming p used stay

  trimmed_is : whole.trimmed p stay ≡ q
  trimmed_is = program.trimmed_is before after hosts unit needed tells keeps

  -- a definition for all units is found in both
  test : (x : Name) → is_some (defined_for_all (kept needed unit) x) ≡ is_some (defined_for_all unit x)
  test x =
      ap (λ items. is_some (defined_for_all items x))
      (sym (program.this_left before after hosts unit needed tells keeps (length before) refl))
      ∙ test_same p used stay may x (length before) unit (program.at_place before after hosts unit needed tells keeps before after)

  abbrev found_type : Program → Name → Option tree.FuncType
  found_type r x = if_found (external_func r x) (func_type r)

  same_type : (x : Name) → found_type q x ≡ found_type p x
  same_type x = ap (λ r. found_type r x) (sym trimmed_is)
      ∙ ap (λ o. if_found o (func_type (whole.trimmed p stay)))
      (external_same ρ p (whole.trimmed p stay) (names_kept p used stay) (made p used stay may) (externals p used stay may) x)
      ∙ type_found ρ p (whole.trimmed p stay) (program.renames before after hosts unit needed tells keeps).meanings (external_func p x)
      (external_kept ρ p (whole.trimmed p stay) (names_kept p used stay) (made p used stay may) (externals p used stay may) x)

  same_twice : (u : ℕ) (f : tree.Func) → program_twice q u f ≡ program_twice p u f
  same_twice u f = ap (λ b. if is_some f.body && (is_some (host_symbol p f.name) || b) then Twice u f.name ∷ [] else [])
      (any_same (kept needed unit) unit after (λ items. is_some (defined_for_all items f.name)) (test f.name) u before)

  same_unresolved : (u : ℕ) (f : tree.Func) → program_unresolved q u f ≡ program_unresolved p u f
  same_unresolved u f = ap (λ o. elim o as (λ _. List LinkRefusal) [
    | None ↦ NotDefined u f.name ∷ []
    | Some ty ↦ if same_func_type ty (func_type_of f) then [] else TypeDiffers u f.name ∷ []
  ]) (same_type f.name)

  pub same_link : link_refusal q ≡ link_refusal p
  same_link = refusal_stands q ∙ (λ i. slice_get (twices i ++ others i) 0) ∙ sym (refusal_stands p)
    where
      twices : from (λ u items. flat_map (program_twice q u) (external_functions items)) 0 q.units
          ≡ from (λ u items. flat_map (program_twice p u) (external_functions items)) 0 p.units
      twices = from_same (kept needed unit) unit after (λ u items. flat_map (program_twice q u) (external_functions items))
          (λ u items. flat_map (program_twice p u) (external_functions items))
          (λ u items. each_flat (program_twice q u) (program_twice p u) (same_twice u) (external_functions items))
          (λ u. ap (flat_map (program_twice p u)) (same_externals needed unit)) 0 before

      others : from (λ u items. flat_map (program_unresolved q u) (external_functions items)) 0 q.units
          ≡ from (λ u items. flat_map (program_unresolved p u) (external_functions items)) 0 p.units
      others = from_same (kept needed unit) unit after (λ u items. flat_map (program_unresolved q u) (external_functions items))
          (λ u items. flat_map (program_unresolved p u) (external_functions items))
          (λ u items. each_flat (program_unresolved q u) (program_unresolved p u) (same_unresolved u) (external_functions items))
          (λ u. ap (flat_map (program_unresolved p u)) (same_externals needed unit)) 0 before

  pub same_fits : (c : SymbolCall) → fits q c ≡ fits p c
  same_fits c = ap (λ r. fits r c) (sym trimmed_is)
      ∙ calls_fit ρ p (whole.trimmed p stay) (program.renames before after hosts unit needed tells keeps) c
