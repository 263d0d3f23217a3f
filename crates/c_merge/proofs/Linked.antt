-- Units that link fit together, whatever symbols the hosts have.
use Rattle.c_merge.proofs.Common.{◌≡◌, ℕ, zero, suc, ◌<◌, Bool, true, false, not, ◌&&◌, List, [], ◌∷◌, take, is_some, if◌then◌else◌}
use Rattle.c_merge.proofs.Common.{slice_get, Some, None, Option, option_map, flat_map, sym, refl, ap, ◌∙◌, false≢true}
use Rattle.c_merge.proofs.Common.{same_Some, cons_option, option_or, numbered_at, by_test, named, numbered, KeepsRules, same_func_type}
use Rattle.c_merge.proofs.Common.{func_type_of, Definition, LinkRefusal, NotDefined, Program, Twice, TypeDiffers, defined_for_all}
use Rattle.c_merge.proofs.Common.{external_functions, first, first_refusal, symbols_of, twice, type_found, unresolved, Name, by_option}
use Rattle.c_merge.proofs.Common.{cons_not_none, flat_none, kept_at, none_first, take_has, signature_of, AreLinked, arith}
use Rattle.c_tree.specs.Tree as tree
use Rattle.c_tree.proofs.SameTypes.{func_types_same}
use Rattle.c_link.specs.Refusals.{first_twice, first_unresolved}
use Rattle.c_link.proofs.Apart.{both_none}
use Rattle.c_merge.proofs.Together.{FitTogether, Shows}
use Rattle.c_merge.proofs.Units.{external_there, func_seen}

abbrev pub external_of : tree.Item → Option tree.Func
external_of item = elim item [
  | tree.Array name count bytes ↦ None
  | tree.Var ty name number ↦ None
  | tree.Function f ↦ if f.is_static then None else Some f
]

-- a function that a unit defines for all
pub defined_shown : (units : List (List tree.Item)) → (u : ℕ) (f : tree.Func) (a : Shows units u f) → KeepsRules a.items
    → is_some f.body ≡ true → is_some (defined_for_all a.items f.name) ≡ true
defined_shown units u f a keeps has = by_option f.body
    (λ none. absurd (false≢true (rw none at has)))
    (λ body is. external_there a.items keeps a.item f body a.at is (func_seen a.items keeps a.item f a.at ∙ ap not a.shown))

-- the type of the first definition, where one more stands in front
abbrev first_type : Option Definition → List Definition → Option tree.FuncType
first_type o others = option_map (λ (d : Definition). func_type_of d.func) (first (cons_option o others))

-- what a unit defines has a type
signature_there : (name : Name) (units : List (List tree.Item)) (u : ℕ) (items : List tree.Item) → slice_get units u ≡ Some items
    → is_some (defined_for_all items name) ≡ true → is_some (signature_of units name) ≡ true
signature_there name [] u items at there = absurd cc
signature_there name (x ∷ units) zero items at there = grind arith
signature_there name (x ∷ units) (suc u) items at there = grind (arith, signature_there name units u items at there)

module _ (units : List (List tree.Item)) (symbols : List (Name × tree.FuncType))
    (kept : (u : ℕ) (items : List tree.Item) → slice_get units u ≡ Some items → KeepsRules items)
    (none : first_refusal units symbols ≡ None) where
  abbrev before : ℕ → Name → Option tree.FuncType
  before u = type_found (take u units) symbols

  abbrev found : Name → Option tree.FuncType
  found = type_found units symbols

  neither : (first_twice units symbols ≡ None) × (first_unresolved found units ≡ None)
  neither = both_none (first_twice units symbols) (first_unresolved found units) none

  pub not_twice : (u : ℕ) (items : List tree.Item) (i : ℕ) (g : tree.Func) → slice_get units u ≡ Some items
      → slice_get items i ≡ Some (tree.Function g) → g.is_static ≡ false → twice (before u) u g ≡ []
  not_twice u items i g at_u at_i shown =
      let of_unit : flat_map (twice (before u) u) (external_functions items) ≡ [] =
      flat_none (λ (u : ℕ × List tree.Item). flat_map (twice (before u.0) u.0) (external_functions u.1)) (numbered units)
      (none_first _ neither.0) u (u, items)
      (numbered_at units u items at_u) in
      let listed = kept_at external_of items i (tree.Function g) g at_i (ap (λ (b : Bool). if b then None else Some g) shown) in
      flat_none (twice (before u) u) (external_functions items) of_unit listed.0 g listed.1

  not_two : (u v : ℕ) → u < v → (f g : tree.Func) → Shows units u f → Shows units v g → is_some f.body ≡ true → is_some g.body ≡ true
      → f.name ≡ g.name
      → ⊥
  not_two u v less f g a b has_f has_g same =
      let there : is_some (defined_for_all a.items g.name) ≡ true = rw same at (defined_shown units u f a (kept u a.items a.there) has_f) in
      let earlier : is_some (signature_of (take v units) g.name) ≡ true =
      signature_there g.name (take v units) u a.items (take_has v units u a.items less a.there) there in
      cons_not_none (Twice v g.name) []
      (sym (refused (is_some g.body) (is_some (before v g.name)) has_g (either (signature_of (take v units) g.name) earlier))
      ∙ not_twice v b.items b.item g b.there b.at b.shown)
    where
      either : (o : Option tree.FuncType) → is_some o ≡ true → is_some (option_or o (named g.name symbols)) ≡ true
      either None e = absurd (false≢true e)
      either (Some ty) e = refl

      refused : (h d : Bool) → h ≡ true → d ≡ true → (if h && d then Twice v g.name ∷ [] else []) ≡ Twice v g.name ∷ []
      refused true true e f = refl
      refused true false e f = absurd (false≢true f)
      refused false d e f = absurd (false≢true e)

  type_is : (u : ℕ) (g : tree.Func) → unresolved found u g ≡ [] → found g.name ≡ Some (func_type_of g)
  type_is u g e = by_option (found g.name)
      (λ none. absurd (cons_not_none (NotDefined u g.name) [] (sym (ap refusals none) ∙ e)))
      (λ ty is. by_test (same_func_type ty (func_type_of g))
      (λ same. is ∙ ap Some (func_types_same ty (func_type_of g) same))
      (λ differ. absurd (cons_not_none (TypeDiffers u g.name) []
      (sym (ap refusals is ∙ ap (λ (b : Bool). if b then [] else TypeDiffers u g.name ∷ []) differ) ∙ e))))
    where
      refusals : Option tree.FuncType → List LinkRefusal
      refusals o = elim o [
        | None ↦ NotDefined u g.name ∷ []
        | Some ty ↦ if same_func_type ty (func_type_of g) then [] else TypeDiffers u g.name ∷ []
      ]

  pub not_unresolved : (u : ℕ) (items : List tree.Item) (i : ℕ) (g : tree.Func) → slice_get units u ≡ Some items
      → slice_get items i ≡ Some (tree.Function g) → g.is_static ≡ false → unresolved found u g ≡ []
  not_unresolved u items i g at_u at_i shown =
      let of_unit : flat_map (unresolved found u) (external_functions items) ≡ [] =
      flat_none (λ (u : ℕ × List tree.Item). flat_map (unresolved found u.0) (external_functions u.1)) (numbered units)
      (none_first _ neither.1) u (u, items)
      (numbered_at units u items at_u) in
      let listed = kept_at external_of items i (tree.Function g) g at_i (ap (λ (b : Bool). if b then None else Some g) shown) in
      flat_none (unresolved found u) (external_functions items) of_unit listed.0 g listed.1

  linked_type : (u : ℕ) (f : tree.Func) → Shows units u f → found f.name ≡ Some (func_type_of f)
  linked_type u f a = type_is u f (not_unresolved u a.items a.item f a.there a.at a.shown)

  one_type : (u v : ℕ) (f g : tree.Func) → Shows units u f → Shows units v g → f.name ≡ g.name → func_type_of f ≡ func_type_of g
  one_type u v f g a b same = same_Some (func_type_of f) (func_type_of g) (sym (linked_type u f a) ∙ ap found same ∙ linked_type v g b)

  pub units_fit : FitTogether units
  units_fit = record { kept = kept; once = not_two; typed = one_type }

pub linked_fit : (p : Program) → AreLinked p → FitTogether p.units
linked_fit p are = units_fit p.units (symbols_of p.hosts) are.kept are.linked
