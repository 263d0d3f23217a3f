-- What holds of the items that linked units become.
use Rattle.c_merge.proofs.Common.{◌≡◌, List, [], None, sym, ◌∙◌, subst, KeepsRules, Formed, Program, first_refusal, joined, c_symbols}
use Rattle.c_merge.proofs.Common.{AllChecked, HostSymbol, merged, new_names}
use Rattle.c_tree.specs.Tree as tree
use Rattle.c_merge.proofs.Formed.{one_formed}
use Rattle.c_merge.proofs.Linked.{units_fit}
use Rattle.c_merge.proofs.OneUnit.{one_keeps}
use Rattle.c_merge.proofs.SameNames.{one_same}

module _ (units : List (List tree.Item)) (one : List tree.Item) (is : one ≡ joined new_names 0 units) where
  abbrev p : Program
  p = record { units = units; hosts = [] }

  pub is_merged : one ≡ merged units
  is_merged = is ∙ one_same p

  module _ (checked : AllChecked units) where
    pub is_formed : Formed one
    is_formed = subst Formed (sym is_merged) (one_formed p (λ u items at. (checked u items at).0))

    module _ (hosts : List HostSymbol) (none : first_refusal units (c_symbols hosts) ≡ None) where
      pub is_kept : KeepsRules one
      is_kept = rw is_merged (one_keeps p (units_fit units (c_symbols hosts) (λ u items at. (checked u items at).1) none))
