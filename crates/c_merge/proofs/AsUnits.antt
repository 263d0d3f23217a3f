-- The one unit that linked units become runs as they do.
use Rattle.c_merge.proofs.Common.{◌≡◌, List, [], ◌∷◌, None, sym, ap, ◌∙◌, subst, Program, first_refusal, runs_same, calls_fit, c_symbols}
use Rattle.c_merge.proofs.Common.{AllChecked, IsProgramOf, HostSymbol, AreLinked, RunsAsUnits, as_one, merge_names, merged, arith}
use Rattle.c_tree.specs.Tree as tree
use Rattle.c_link.proofs.Linking.{link_of}
use Rattle.c_merge.proofs.OneLinks.{found_same, one_links, one_renames, type_same}

runs_as : (p : Program) → AreLinked p → RunsAsUnits p (as_one p)
runs_as p are = record {
  links = one_links p are;
  found = found_same p are;
  typed = type_same p are;
  calls = calls_fit (merge_names p) p (as_one p) (one_renames p are);
  runs = runs_same (merge_names p) p (as_one p) (one_renames p are);
}

module _ (units : List (List tree.Item)) (checked : AllChecked units) (hosts : List HostSymbol)
    (none : first_refusal units (c_symbols hosts) ≡ None) where
  are_linked : (p : Program) → IsProgramOf p units hosts → AreLinked p
  are_linked p is = grind (arith, link_of units hosts none p is)

  -- in the place of the units
  pub runs_as_units : (one : List tree.Item) → one ≡ merged units → (p : Program) → IsProgramOf p units hosts
      → RunsAsUnits p (record { units = one ∷ []; hosts = p.hosts })
  runs_as_units one same p is =
      subst (λ (items : List tree.Item). RunsAsUnits p (record { units = items ∷ []; hosts = p.hosts }))
      (ap merged is.units_are ∙ sym same) (runs_as p (are_linked p is))
