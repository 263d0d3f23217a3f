-- The one unit that linked units become links with the same hosts, and defines the same functions for others.
use Rattle.c_merge.proofs.Common.{◌≡◌, ℕ, Bool, true, false, not, ◌&&◌, List, [], ◌∷◌, take, is_some, if◌then◌else◌, slice_get, Some}
use Rattle.c_merge.proofs.Common.{None, Option, option_map, sym, refl, ap, ◌∙◌, option_or, flat_empty, is_some_map, if_found}
use Rattle.c_merge.proofs.Common.{named, same_func_type, func_type_of, LinkRefusal, NotDefined, Program, Twice, TypeDiffers, external_func}
use Rattle.c_merge.proofs.Common.{external_functions, func_type, link_refusal, symbols_of, twice, type_found, unresolved, Name, kept_from}
use Rattle.c_merge.proofs.Common.{cons_not_none, func_type_of-func, merged_made, merging_names, kept_type_found, MayMerge, is_outside}
use Rattle.c_merge.proofs.Common.{name_in, Renaming, address, signature_of, AreLinked, as_one, may_name, merge_names, merged, arith}
use Rattle.c_tree.specs.Tree as tree
use Rattle.c_meaning.proofs.Links.{type_stands}
use Rattle.c_renaming.specs.Renamed as renamed
use Rattle.c_renaming.specs.Renames.{Renames}
use Rattle.c_renaming.proofs.Made.{external_kept, external_same}
use Rattle.c_renaming.proofs.MergedExternals.{merged_externals, merged_renames}
use Rattle.c_merge.proofs.Linked.{external_of, linked_fit, not_twice, not_unresolved}
use Rattle.c_merge.proofs.NewNames.{outside_stays}
use Rattle.c_merge.proofs.Places.{placed_at}
use Rattle.c_merge.proofs.Units.{func_seen, units_may_merge}
use Rattle.c_merge.proofs.OneUnit.{same_func}

-- ---- lists and refusals

-- what hosts do not define is defined once by one unit
not_by_hosts : (has : Bool) (unit host : Option tree.FuncType) (x y : LinkRefusal)
    → (if has && is_some (option_or unit host) then x ∷ [] else []) ≡ [] → (if has && is_some host then y ∷ [] else []) ≡ []
not_by_hosts true None (Some ty) x y e = absurd (cons_not_none x [] e)
not_by_hosts true (Some other) (Some ty) x y e = absurd (cons_not_none x [] e)
not_by_hosts _ unit _ x y e = refl

abbrev refusals : ℕ → Name → tree.FuncType → Option tree.FuncType → List LinkRefusal
refusals u x ty o = elim o [
  | None ↦ NotDefined u x ∷ []
  | Some found ↦ if same_func_type found ty then [] else TypeDiffers u x ∷ []
]

still_found : (u v : ℕ) (x : Name) (ty : tree.FuncType) (o : Option tree.FuncType) → refusals u x ty o ≡ [] → refusals v x ty o ≡ []
still_found u v x ty None e = absurd (cons_not_none (NotDefined u x) [] e)
still_found u v x ty (Some found) e = search (arith, cons_not_none)

-- an item that shows a function to others
shown_item : (item : tree.Item) (g : tree.Func) → external_of item ≡ Some g → (item ≡ tree.Function g) × (g.is_static ≡ false)
shown_item (tree.Function f) g e = grind arith
shown_item _ g e = absurd cc

module _ (p : Program) (are : AreLinked p) where
  abbrev ρ : Renaming
  ρ = merge_names p

  abbrev q : Program
  q = as_one p

  abbrev one : List tree.Item
  one = merged p.units

  abbrev symbols : List (Name × tree.FuncType)
  symbols = symbols_of p.hosts

  may : MayMerge p name_in is_outside (may_name p)
  may = units_may_merge p (linked_fit p are)

  pub one_renames : Renames ρ p q
  one_renames = merged_renames p name_in is_outside (may_name p) may

  -- ---- what names of functions stand for

  pub found_same : (x : Name) → external_func q x ≡ option_map (address ρ) (external_func p x)
  found_same x =
      external_same ρ p q (merging_names name_in may.tells p is_outside (may_name p)) (merged_made p name_in is_outside (may_name p) may)
      (merged_externals p name_in is_outside (may_name p) may) x

  pub type_same : (x : Name) → if_found (external_func q x) (func_type q) ≡ if_found (external_func p x) (func_type p)
  type_same x =
      ap (λ o. if_found o (func_type q)) (found_same x)
      ∙ kept_type_found ρ p q one_renames.meanings (external_func p x)
      (external_kept ρ p q (merging_names name_in may.tells p is_outside (may_name p)) (merged_made p name_in is_outside (may_name p) may)
      (merged_externals p name_in is_outside (may_name p) may) x)

  found_as_before : (x : Name) → type_found (one ∷ []) symbols x ≡ type_found p.units symbols x
  found_as_before x = type_stands q x ∙ type_same x ∙ sym (type_stands p x)

  -- ---- functions that the one unit shows

  record Shown (g : tree.Func) : Type 0 where
    unit : ℕ
    items : List tree.Item
    there : slice_get p.units unit ≡ Some items
    number : ℕ
    func : tree.Func
    at : slice_get items number ≡ Some (tree.Function func)
    is : g ≡ renamed.func ρ unit func
    shown : func.is_static ≡ false
    name_is : g.name ≡ func.name

  func_from : (u : ℕ) (x : tree.Item) (g : tree.Func) → tree.Function g ≡ renamed.item ρ u x
      → (f : tree.Func) × (x ≡ tree.Function f) × (g ≡ renamed.func ρ u f)
  func_from u (tree.Function f) g is = (f, refl, same_func g (renamed.func ρ u f) is)
  func_from u _ g is = absurd cc

  shown_at : (k : ℕ) (g : tree.Func) → slice_get one k ≡ Some (tree.Function g) → g.is_static ≡ false → Shown g
  shown_at k g at shown =
      let place = placed_at p k (tree.Function g) at in
      let from = place.from in
      let is = func_from place.unit from.item g from.is in
      let at_f : slice_get from.items from.number ≡ Some (tree.Function is.0) = from.at ∙ ap Some is.1 in
      let shown_f : is.0.is_static ≡ false = sym (ap (λ (h : tree.Func). h.is_static) is.2) ∙ shown in
      record {
        unit = place.unit;
        items = from.items;
        there = from.there;
        number = from.number;
        func = is.0;
        at = at_f;
        is = is.2;
        shown = shown_f;
        name_is = ap (λ (h : tree.Func). h.name) is.2
            ∙ outside_stays place.unit is.0.name
            (func_seen from.items (are.kept place.unit from.items from.there) from.number is.0 at_f ∙ ap not shown_f);
      }

  shown_from : (i : ℕ) (g : tree.Func) → slice_get (external_functions one) i ≡ Some g → Shown g
  shown_from i g at =
      let from = kept_from external_of one i g at in
      let is = shown_item from.1 g from.3 in
      shown_at from.0 g (from.2 ∙ ap Some is.0) is.1

  none_twice : (g : tree.Func) → Shown g → twice (type_found [] symbols) 0 g ≡ []
  none_twice g s =
      let has : is_some g.body ≡ is_some s.func.body =
      ap (λ (h : tree.Func). is_some h.body) s.is ∙ is_some_map (renamed.body ρ s.unit) s.func.body in
      (λ i. if has i && is_some (named (s.name_is i) symbols) then Twice 0 (s.name_is i) ∷ [] else [])
      ∙ not_by_hosts (is_some s.func.body) (signature_of (take s.unit p.units) s.func.name) (named s.func.name symbols)
      (Twice s.unit s.func.name) (Twice 0 s.func.name)
      (not_twice p.units symbols are.kept are.linked s.unit s.items s.number s.func s.there s.at s.shown)

  none_unresolved : (g : tree.Func) → Shown g → unresolved (type_found (one ∷ []) symbols) 0 g ≡ []
  none_unresolved g s =
      let types : func_type_of g ≡ func_type_of s.func = ap func_type_of s.is ∙ func_type_of-func ρ s.unit s.func in
      (λ i. refusals 0 (s.name_is i) (types i) (type_found (one ∷ []) symbols (s.name_is i)))
      ∙ ap (refusals 0 s.func.name (func_type_of s.func)) (found_as_before s.func.name)
      ∙ still_found s.unit 0 s.func.name (func_type_of s.func) (type_found p.units symbols s.func.name)
      (not_unresolved p.units symbols are.kept are.linked s.unit s.items s.number s.func s.there s.at s.shown)

  pub one_links : link_refusal q ≡ None
  one_links = search (arith, flat_empty, none_twice, shown_from, none_unresolved)
