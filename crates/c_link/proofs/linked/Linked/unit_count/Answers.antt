use Rattle.c_link.proofs.Common.{◌≡◌, List, map, None, subst, unit_of, Item, Program, link_refusal, AllChecked, IsProgramOf, HostSymbol}
use Rattle.c_link.proofs.Linking.{link_of}
use Rattle.c_link.proofs.linked.Linked.unit_count.Goals as goal

pub returns-clause-checked : goal.returns-clause-checked
returns-clause-checked c =
    subst (λ (seen : List (List Item) × List HostSymbol). AllChecked (map unit_of seen.0)) c.self.view_is c.self.invariant.2

pub returns-clause-links : goal.returns-clause-links
returns-clause-links c =
    subst (λ (seen : List (List Item) × List HostSymbol). (p : Program) → IsProgramOf p (map unit_of seen.0) seen.1 → link_refusal p ≡ None)
    c.self.view_is (link_of (map unit_of _) _ c.self.invariant.1)
