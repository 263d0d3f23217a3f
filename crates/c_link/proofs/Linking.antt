-- What the two passes say of the units, where they come to their end and where they stop.
use Rattle.c_link.proofs.Common.{◌≡◌, List, map, None, sym, refl, ap, ◌∙◌, subst, Name, unit_of, Item, Program, first_refusal, link_refusal}
use Rattle.c_link.proofs.Common.{symbols_of, Holds, c_symbols, offers, AllChecked, IsProgramOf, IsRefusal, first_twice, first_unresolved}
use Rattle.c_link.proofs.Common.{types_in, HostSymbol, Offer}
use Rattle.c_tree.specs.Tree as tree
use Rattle.c_link.specs.declared.refusal.LinkRefusal.{LinkRefusal}
use Rattle.c_link.proofs.Walks.{refused}
use Rattle.c_link.proofs.Finders.{refused_late}

-- a statement on the units and symbols of a program
pub there : (P : List (List tree.Item) → List (Name × tree.FuncType) → Type 0) (units : List (List tree.Item)) (hosts : List HostSymbol)
    (p : Program) → IsProgramOf p units hosts
    → P units (c_symbols hosts) → P p.units (symbols_of p.hosts)
there P units hosts p is e = subst (λ us. P us (symbols_of p.hosts)) (sym is.units_are) (subst (P units) (sym is.symbols_are) e)

-- units without a refusal link
pub link_of : (units : List (List tree.Item)) (hosts : List HostSymbol) → first_refusal units (c_symbols hosts) ≡ None
    → (p : Program) → IsProgramOf p units hosts → link_refusal p ≡ None
link_of units hosts none p is = there (λ us ss. first_refusal us ss ≡ None) units hosts p is none

-- ---- the first pass stops

module _ (read units : List (List Item)) (same : read ≡ units) (hosts : List HostSymbol) (r : LinkRefusal)
    (first : IsRefusal r (first_twice (map unit_of read) (c_symbols hosts))) where
  pub early_first : IsRefusal r (first_refusal (map unit_of units) (c_symbols hosts))
  early_first =
      refused r (first_twice (map unit_of units) (c_symbols hosts)) _ _ refl (rw same at first)

  pub early_refused : (p : Program) → IsProgramOf p (map unit_of units) hosts → IsRefusal r (link_refusal p)
  early_refused p is = there (λ us ss. IsRefusal r (first_refusal us ss)) (map unit_of units) hosts p is early_first

-- ---- the second pass

module _ (read again units : List (List Item)) (same : read ≡ units) (same_again : again ≡ units) (hosts : List HostSymbol)
    (table : List (Name × Offer))
    (holds : Holds table (offers (map unit_of read) (c_symbols hosts))) (once : first_twice (map unit_of read) (c_symbols hosts) ≡ None)
    (keep : AllChecked (map unit_of read)) where
  abbrev symbols : List (Name × tree.FuncType)
  symbols = c_symbols hosts

  pub holds_there : Holds table (offers (map unit_of units) symbols)
  holds_there = subst (λ us. Holds table (offers (map unit_of us) symbols)) same holds

  once_there : first_twice (map unit_of units) symbols ≡ None
  once_there = subst (λ us. first_twice (map unit_of us) symbols ≡ None) same once

  pub keep_there : AllChecked (map unit_of units)
  keep_there = subst (λ us. AllChecked (map unit_of us)) same keep

  late : first_refusal (map unit_of units) symbols ≡ first_unresolved (types_in table) (map unit_of again)
  late =
      refused_late table (map unit_of units) symbols holds_there once_there
      ∙ ap (λ us. first_unresolved (types_in table) (map unit_of us)) (sym same_again)

  module _ (r : LinkRefusal) (first : IsRefusal r (first_unresolved (types_in table) (map unit_of again))) where
    pub late_first : IsRefusal r (first_refusal (map unit_of units) symbols)
    late_first = subst (IsRefusal r) (sym late) first

    pub late_refused : (p : Program) → IsProgramOf p (map unit_of units) hosts → IsRefusal r (link_refusal p)
    late_refused p is = there (λ us ss. IsRefusal r (first_refusal us ss)) (map unit_of units) hosts p is late_first

  module _ (none : first_unresolved (types_in table) (map unit_of again) ≡ None) where
    pub resolved : first_refusal (map unit_of units) symbols ≡ None
    resolved = late ∙ none

    pub links : (p : Program) → IsProgramOf p (map unit_of units) hosts → link_refusal p ≡ None
    links p is = link_of (map unit_of units) hosts resolved p is
