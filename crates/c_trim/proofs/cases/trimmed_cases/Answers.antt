use Rattle.c_trim.proofs.Common.{◌≡◌, Bool, true, false, not, ◌&&◌, ◌||◌, List, [], ◌∷◌, codes, bytes_eq, refl, ap, ◌∙◌, list_all, by_test}
use Rattle.c_trim.proofs.Common.{both_hold, Name, is_among, name_of, IsNeeded, TellsNeeded, external_names, item_functions, leads, names}
use Rattle.std.proofs.lemmas.Bool.{not-true, and_right}
use Rattle.c_tree.specs.Tree as tree
use Rattle.c_trim.specs.Samples as sample
use Rattle.c_trim.proofs.cases.trimmed_cases.Goals as goal

module _ (unit : List tree.Item) (needed : Name → Bool) (tells : TellsNeeded unit needed) where
  is_needed : (x : Name) (chain : List Name) → leads unit chain x ≡ true → needed x ≡ true
  is_needed x chain e = (tells x).1 (record { chain = chain; leads_there = e })

  -- what no chain leads to
  not_needed : (x : Name) → ((chain : List Name) → leads unit chain x ≡ false) → needed x ≡ false
  not_needed x none = by_test (needed x) (λ is. let need : IsNeeded unit x = (tells x).0 is in no need (none need.chain)) (λ is. is)
    where
      no : (need : IsNeeded unit x) → leads unit need.chain x ≡ false → needed x ≡ false
      no need e = let f : leads unit need.chain x ≡ true = need.leads_there in cc

  nothing : ((x : Name) → external_names unit x ≡ false) → (chain : List Name) (x : Name) → leads unit chain x ≡ false
  nothing none [] x = none x
  nothing none (y ∷ chain) x = and_right (names unit y x) (leads unit chain y) (nothing none chain y)

  -- what no item names
  abbrev is_unnamed : Name → List tree.Item → Bool
  is_unnamed x items = list_all (λ item. not (is_among x (item_functions item))) items

  none_names : (y x : Name) (items : List tree.Item) → is_unnamed x items ≡ true → names items y x ≡ false
  none_names y x [] e = refl
  none_names y x (item ∷ items) e =
      let two = both_hold (not (is_among x (item_functions item))) (is_unnamed x items) e in
      λ i. and_right (bytes_eq (name_of item) y) (is_among x (item_functions item)) (not-true (is_among x (item_functions item)) two.0) i
      || none_names y x items two.1 i

  unnamed : (x : Name) → is_unnamed x unit ≡ true → external_names unit x ≡ false → (chain : List Name) → leads unit chain x ≡ false
  unnamed x e outside [] = outside
  unnamed x e outside (y ∷ chain) = ap (λ b. b && leads unit chain y) (none_names y x unit e)

pub returns-clause-not_named : goal.returns-clause-not_named
returns-clause-not_named c t is =
    let h : is.needed (codes "h") ≡ false = not_needed sample.not_named is.needed is.tells (codes "h")
    (unnamed sample.not_named is.needed is.tells (codes "h") refl refl) in
    is.is ∙ rw h refl

pub returns-clause-each_other : goal.returns-clause-each_other
returns-clause-each_other c t is =
    let none : (x : Name) → is.needed x ≡ false = λ x. not_needed sample.each_other is.needed is.tells x
    (λ chain. nothing sample.each_other is.needed is.tells (λ y. refl) chain x) in
    let f : is.needed (codes "f") ≡ false = none (codes "f") in
    let g : is.needed (codes "g") ≡ false = none (codes "g") in
    is.is ∙ rw (f, g) refl

pub returns-clause-by_element : goal.returns-clause-by_element
returns-clause-by_element c t is =
    let f : is.needed (codes "f0") ≡ true = is_needed (sample.by_element true) is.needed is.tells (codes "f0") [] refl in
    let h : is.needed (codes "h") ≡ true = is_needed (sample.by_element true) is.needed is.tells (codes "h") (codes "f0" ∷ []) refl in
    let g : is.needed (codes "g") ≡ false = not_needed (sample.by_element true) is.needed is.tells (codes "g")
    (unnamed (sample.by_element true) is.needed is.tells (codes "g") refl refl) in
    is.is ∙ rw (h, f, g) refl
