use Rattle.wasm_set.proofs.Common.{◌≡◌, List, [], ◌∷◌, ◌++◌, sym, ap, ◌∙◌, subst, false≢true, named, Module, IsLinked, offers, set_of}
use Rattle.wasm_set.proofs.Common.{AreTables, OfferTable, SetModule}
use Rattle.wasm_set.proofs.Joins.{place_told, joined_is_linked, linked_is_joined}
use Rattle.wasm_set.proofs.Found.{table_more}
use Rattle.wasm_set.proofs.module_set.ModuleSet.join.Goals as goal

pub returns-then-not-has_place_for-clause-unlinked : goal.returns-then-not-has_place_for-clause-unlinked
returns-then-not-has_place_for-clause-unlinked c = λ _ linked.
    let told = place_told c.args.self.now c.args.name c.as_slice.result.now c.args.module c.module-2.result.now c.has_place_for.result
    c.has_place_for.ensures c.as_slice.ensures c.module-2.ensures.same in
    false≢true (sym c.if-not-has_place_for.true ∙ sym told
    ∙ linked_is_joined c.args.self.now (record { name = c.args.name; «module» = c.args.module }) linked)

pub invariant_of-self-2 : goal.invariant_of-self-2
invariant_of-self-2 c =
    let x : SetModule = record { name = c.args.name; «module» = c.args.module } in
    let told = place_told c.args.self.now c.args.name c.as_slice.result.now c.args.module c.module-2.result.now c.has_place_for.result
    c.has_place_for.ensures c.as_slice.ensures c.module-2.ensures.same in
    let linked : IsLinked (set_of c.args.self.now) =
    subst (λ (ms : List SetModule). IsLinked (set_of ms)) c.self.view_is c.self.invariant.0 in
    let tables : AreTables c.self.inside.tables.items c.args.self.now =
    subst (AreTables c.self.inside.tables.items) c.self.view_is c.self.invariant.1 in
    let grown : c.push_both.new.modules.items ≡ c.args.self.now ++ x ∷ [] =
    c.in_ok-push_both.ensures.modules ∙ ap (λ (ms : List SetModule). ms ++ x ∷ []) c.self.view_is in (
      subst (λ (ms : List SetModule). IsLinked (set_of ms)) (sym grown)
          (joined_is_linked c.args.self.now x linked (told ∙ c.if-not-has_place_for.false)),
      subst (λ (ts : List OfferTable). AreTables ts c.push_both.new.modules.items) (sym c.in_ok-push_both.ensures.tables)
          (subst (AreTables (c.self.inside.tables.items ++ c.in_ok-offers.offers ∷ [])) (sym grown)
          (table_more c.self.inside.tables.items c.args.self.now c.in_ok-offers.offers x tables
          (λ name. c.in_ok-offers.ensures name ∙ ap (λ (m : Module). named name (offers m)) c.module-3.ensures.same))),
    )

pub returns-clause-linked : goal.returns-clause-linked
returns-clause-linked c = λ _.
    let told = place_told c.args.self.now c.args.name c.as_slice.result.now c.args.module c.module-2.result.now c.has_place_for.result
    c.has_place_for.ensures c.as_slice.ensures c.module-2.ensures.same in
    joined_is_linked c.args.self.now (record { name = c.args.name; «module» = c.args.module })
    (subst (λ (ms : List SetModule). IsLinked (set_of ms)) c.self.view_is c.self.invariant.0) (told ∙ c.if-not-has_place_for.false)
