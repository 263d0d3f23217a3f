-- The definitions of a unit that keeps the rules: those of one name are one, and its declarations have its type.
use Rattle.c_sound.proofs.Common.{◌≡◌, ℕ, zero, suc, ◌<◌, Bool, true, false, not, ◌&&◌, ◌||◌, List, [], ◌∷◌, take, is_some, slice_get, Some}
use Rattle.c_sound.proofs.Common.{option_map, bytes_eq, sym, refl, ap, ◌∙◌, inl, inr, and_parts, cases_order, false≢true, or_cases}
use Rattle.c_sound.proofs.Common.{bytes_eq-Decides, list_all, list_any, option_or, numbered_at, numbered, KeepsRules, are_alike, defines}
use Rattle.c_sound.proofs.Common.{has_body, may_both_stand, same_func_type, func_type_of, name_of, Definition, defined, defined_for_all}
use Rattle.c_sound.proofs.Common.{definition_of, definitions, is_external, typed, Name, arith}
use Rattle.c_tree.specs.Tree as tree
use Rattle.c_sound.proofs.Choices.{by_option}
use Rattle.c_tree.proofs.SameTypes.{func_types_same}
use Rattle.c_sound.proofs.Lists.{at_numbered, kept_from, kept_at, first_from, first_there, take_has}
use Rattle.c_sound.proofs.Kept.{item_kept}

pub passes_at : {A : Type 0} (test : A → Bool) (xs : List A) → list_all test xs ≡ true → (i : ℕ) (x : A) → slice_get xs i ≡ Some x
    → test x ≡ true
passes_at test [] e i x at = absurd cc
passes_at test (y ∷ xs) e zero x at = ap test (sym (let f : y ≡ x = cc in f)) ∙ (and_parts (test y) (list_all test xs) e).0
passes_at test (y ∷ xs) e (suc i) x at = passes_at test xs (and_parts (test y) (list_all test xs) e).1 i x at

pub any_from : {A : Type 0} (test : A → Bool) (xs : List A) → list_any test xs ≡ true → (i : ℕ) × (x : A)
    × (slice_get xs i ≡ Some x) × (test x ≡ true)
any_from test [] e = absurd (false≢true e)
any_from test (y ∷ xs) e = elim (or_cases (test y) (list_any test xs) e) [
  | inl here ↦ (0, y, refl, here)
  | inr behind ↦ let f = any_from test xs behind in (suc f.0, f.1, f.2, f.3)
]

module _ (items : List tree.Item) where
  -- The definition is that of an item.
  pub record IsDefinition (d : Definition) : Type 0 where
    pub at : slice_get items d.item ≡ Some (tree.Function d.func)
    pub body : d.func.body ≡ Some d.body

  definition_is : (i : ℕ) (item : tree.Item) (d : Definition) → slice_get items i ≡ Some item → definition_of (i, item) ≡ Some d
      → IsDefinition d
  definition_is i (tree.Function f) d at e = grind (arith, by_option)
  definition_is i _ d at e = absurd cc

  pub listed_is : (j : ℕ) (d : Definition) → slice_get (definitions items) j ≡ Some d → IsDefinition d
  listed_is j d at =
      let from = kept_from definition_of (numbered items) j d at in
      let entry = at_numbered items from.0 from.1 from.2 in
      definition_is from.0 entry.0 d entry.1 (ap definition_of (sym entry.2) ∙ from.3)

  pub is_listed : (k : ℕ) (f : tree.Func) (b : tree.Body) → slice_get items k ≡ Some (tree.Function f) → f.body ≡ Some b
      → (j : ℕ) × (slice_get (definitions items) j ≡ Some (record { item = k; func = f; body = b }))
  is_listed k f b at is = kept_at definition_of (numbered items) k (k, tree.Function f) (record { item = k; func = f; body = b })
      (numbered_at items k (tree.Function f) at) (ap (option_map (λ body. record { item = k; func = f; body = body })) is)

  abbrev has_name : Name → Definition → Bool
  has_name name d = bytes_eq d.func.name name

  -- a definition of this name
  pub record Names (name : Name) (d : Definition) : Type 0 where
    pub is : IsDefinition d
    pub name_is : d.func.name ≡ name

  pub defined_names : (name : Name) (d : Definition) → defined items name ≡ Some d → Names name d
  defined_names name d e =
      let from = first_from (has_name name) (definitions items) d e in
      record { is = listed_is from.0 d from.1; name_is = (bytes_eq-Decides d.func.name name).0 from.2 }

  pub names_defined : (name : Name) (j : ℕ) (d : Definition) → slice_get (definitions items) j ≡ Some d → d.func.name ≡ name
      → (d' : Definition) × (defined items name ≡ Some d')
  names_defined name j d at is = first_there (has_name name) (definitions items) j d at ((bytes_eq-Decides d.func.name name).1 is)

  pub for_all_names : (name : Name) (d : Definition) → defined_for_all items name ≡ Some d → Names name d
  for_all_names name d e =
      let from = first_from (λ d. is_external d && bytes_eq d.func.name name) (definitions items) d e in
      record {
        is = listed_is from.0 d from.1;
        name_is = (bytes_eq-Decides d.func.name name).0 (and_parts (is_external d) (bytes_eq d.func.name name) from.2).1;
      }

  pub typed_names : (name : Name) (d : Definition) → typed items name ≡ Some d → Names name d
  typed_names name d e = by_option (defined_for_all items name)
      (λ none. defined_names name d (sym (ap (λ o. option_or o (defined items name)) none) ∙ e))
      (λ d' there.
      let same : Some d' ≡ Some d = sym (ap (λ o. option_or o (defined items name)) there) ∙ e in
      for_all_names name d (there ∙ same))

  pub names_typed : (name : Name) (j : ℕ) (d : Definition) → slice_get (definitions items) j ≡ Some d → d.func.name ≡ name
      → (d' : Definition) × (typed items name ≡ Some d')
  names_typed name j d at is = by_option (defined_for_all items name)
      (λ none.
      let there = names_defined name j d at is in
      (there.0, ap (λ o. option_or o (defined items name)) none ∙ there.1))
      (λ d' there. (d', ap (λ o. option_or o (defined items name)) there))

  module _ (keeps : KeepsRules items) where
    stand : (k l : ℕ) (a b : tree.Item) → k < l → slice_get items k ≡ Some a → slice_get items l ≡ Some b → name_of a ≡ name_of b
        → may_both_stand a b ≡ true
    stand k l a b less at_k at_l same =
        let once : list_all (λ other. not (bytes_eq (name_of other) (name_of b)) || may_both_stand other b) (take l items) ≡ true =
        (item_kept items keeps l b at_l).once in
        let test = passes_at (λ other. not (bytes_eq (name_of other) (name_of b)) || may_both_stand other b) (take l items) once k a
        (take_has l items k a less at_k) in
        sym (ap (λ t. not t || may_both_stand a b) ((bytes_eq-Decides (name_of a) (name_of b)).1 same)) ∙ test

    stand_types : (f g : tree.Func) → may_both_stand (tree.Function f) (tree.Function g) ≡ true → func_type_of f ≡ func_type_of g
    stand_types f g e =
        let alike : are_alike (tree.Function f) (tree.Function g) ≡ true = (and_parts (are_alike (tree.Function f) (tree.Function g))
        (not (has_body (tree.Function f) && has_body (tree.Function g))) e).0 in
        func_types_same (func_type_of f) (func_type_of g) (and_parts _ (same_func_type (func_type_of f) (func_type_of g)) alike).1

    same_func : (f g : tree.Func) → Some (tree.Function f) ≡ Some (tree.Function g) → f ≡ g
    same_func f g e = cc

    -- declarations of one name have one type
    pub one_type : (k l : ℕ) (f g : tree.Func) → slice_get items k ≡ Some (tree.Function f) → slice_get items l ≡ Some (tree.Function g)
        → f.name ≡ g.name → func_type_of f ≡ func_type_of g
    one_type k l f g at_k at_l same = elim (cases_order k l) [
      | inl equal ↦ ap func_type_of (same_func f g (sym at_k ∙ ap (slice_get items) equal ∙ at_l))
      | inr (inl less) ↦ stand_types f g (stand k l (tree.Function f) (tree.Function g) less at_k at_l same)
      | inr (inr more) ↦ sym (stand_types g f (stand l k (tree.Function g) (tree.Function f) more at_l at_k (sym same)))
    ]

    pub names_type : (name : Name) (d : Definition) (k : ℕ) (g : tree.Func) → Names name d → slice_get items k ≡ Some (tree.Function g)
        → g.name ≡ name → func_type_of d.func ≡ func_type_of g
    names_type name d k g is at same = one_type d.item k d.func g is.is.at at (is.name_is ∙ sym same)

    -- a static function that is declared is defined
    pub static_defined : (k : ℕ) (g : tree.Func) → slice_get items k ≡ Some (tree.Function g) → g.is_static ≡ true
        → (d : Definition) × (defined items g.name ≡ Some d)
    static_defined k g at static =
        let rule : (not g.is_static || list_any (defines g.name) items) ≡ true =
        (item_kept items keeps k (tree.Function g) at).static in
        let any : list_any (defines g.name) items ≡ true = sym (ap (λ b. not b || list_any (defines g.name) items) static) ∙ rule in
        let from = any_from (defines g.name) items any in
        go from.0 from.1 from.2 from.3
      where
        go : (i : ℕ) (item : tree.Item) → slice_get items i ≡ Some item → defines g.name item ≡ true
            → (d : Definition) × (defined items g.name ≡ Some d)
        go i (tree.Array name count bytes) at e = absurd (false≢true (and_parts (bytes_eq name g.name) false e).1)
        go i (tree.Var t name number) at e = absurd (false≢true (and_parts (bytes_eq name g.name) false e).1)
        go i (tree.Function f) at e =
            let parts = and_parts (bytes_eq f.name g.name) (is_some f.body) e in
            by_option f.body
            (λ none. absurd (let h = rw none at parts.1 in false≢true h))
            (λ b there.
            let listed = is_listed i f b at there in
            names_defined g.name listed.0 (record { item = i; func = f; body = b }) listed.1 ((bytes_eq-Decides f.name g.name).0 parts.0))
