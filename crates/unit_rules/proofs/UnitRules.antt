-- The unit of an accepted module keeps the rules, and is well formed.
use Rattle.unit_rules.proofs.Common.{◌≢◌, ◌∷◌, ◌++◌, sym, subst, AllByRecursion, all_weaker, all_append, all_map, NamedModule, KeepsRules}
use Rattle.unit_rules.proofs.Common.{name_of, FitsItem, depth_limit, IsWellFormed, NamedItem, func_of, class, bodies, items, IsAccepted}
use Rattle.unit_rules.proofs.Common.{BodiesAreFormed, BodiesKeepTheRules, functions_of, exports, init, parts}
use Rattle.c_tree.specs.Tree as tree
use Rattle.unit_rules.proofs.ExportSection.{exports_keep}
use Rattle.unit_rules.proofs.FormedSections.{IsFormed, bodies_formed, data_formed, declarations_formed, exports_formed, helpers_formed}
use Rattle.unit_rules.proofs.FormedSections.{objects_formed, prototypes_formed}
use Rattle.unit_rules.proofs.HelperSection.{helpers_keep}
use Rattle.unit_rules.proofs.ItemRules.{IsWhole, KeepsBehind, once, unit_keeps}
use Rattle.unit_rules.proofs.NeedsDeclared.{file_knows}
use Rattle.unit_rules.proofs.PartSection.{init_formed, init_keeps, parts_formed, parts_keep}
use Rattle.unit_rules.proofs.PlainItems.{data_keep, declared_keep, objects_keep, prototypes_keep}
use Rattle.unit_rules.proofs.WholeUnit.{all_bodies, all_items, all_known, body_here, declared_at, items_are, known, later, typed_body}
use Rattle.unit_rules.proofs.WholeUnit.{unit_whole}

module _ (m : NamedModule) (a : IsAccepted m) where
  bodies_keep : BodiesKeepTheRules → AllByRecursion (KeepsBehind m (known m)) (functions_of m)
  bodies_keep law = all_map _ tree.Function (bodies m) (all_bodies m a (λ f. KeepsBehind m (known m) (tree.Function f)) (λ k low high.
      let b = body_here m a k low high in
      subst (λ f. KeepsBehind m (known m) (tree.Function f)) (sym b.is) (λ before behind whole.
      let x = tree.Function (func_of m k b.ty b.entry) in
      law m k b.ty b.entry (known m ++ before) behind (typed_body m a k b) (file_knows m a _ (declared_at m before x behind whole))
      (once x (known m ++ before) behind whole.apart)
      (all_map (λ n. class n ≢ 9) name_of ((known m ++ before) ++ x ∷ behind) whole.no_own))))

  pub unit_keeps_rules : BodiesKeepTheRules → KeepsRules (items m)
  unit_keeps_rules law = subst KeepsRules (items_are m)
      (unit_keeps m (known m) (later m) (init m) (subst (IsWhole m) (sym (items_are m)) (unit_whole m a))
      (all_known _ m (objects_keep m a) (data_keep m a) (declared_keep m a) (prototypes_keep m a) (helpers_keep m))
      (all_append _ (functions_of m) _ (bodies_keep law) (all_append _ (exports m) (parts m) (exports_keep m a) (parts_keep m a)))
      (init_keeps m a, tt))

  formed : BodiesAreFormed → AllByRecursion IsFormed (items m)
  formed law = all_items IsFormed m
      (all_known IsFormed m (objects_formed m a) (data_formed m a) (declarations_formed m a) (prototypes_formed m a) (helpers_formed m a))
      (bodies_formed m a law) (exports_formed m a) (parts_formed m a) (init_formed m a, tt)

  pub unit_well_formed : BodiesAreFormed → IsWellFormed (items m)
  unit_well_formed law = record {
    named = all_weaker IsFormed NamedItem (items m) (λ o h. h.0) (formed law);
    fits = all_weaker IsFormed (FitsItem depth_limit) (items m) (λ o h. h.1) (formed law);
  }
