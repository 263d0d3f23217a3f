-- The function of a typed body keeps the rules, and is formed.
use Rattle.body_rules.proofs.Common.{◌+◌, ◌^◌, ◌<◌, ◌≤◌, ◌≡◌, Bool, true, [], ◌∷◌, ◌++◌, length, sym, refl, subst, arith, length-append}
use Rattle.body_rules.proofs.Common.{list_any, FuncType, declared_locals, Code, BodyEntry, context_of, values, NamedModule, func_of, peak}
use Rattle.body_rules.proofs.Common.{most_operands, stmts_of, after_typed}
use Rattle.std.proofs.lemmas.Map.Keys.{any_passes_from_place}
use Rattle.c_tree.specs.Tree as tree
use Rattle.body_definition.proofs.Peaks.{one_value}
use Rattle.body_rules.specs.BodiesAreProper.{IsTypedBody, BodiesKeepTheRules, BodiesAreFormed}
use Rattle.body_rules.proofs.RulesOfBodies.{body_passes}
use Rattle.body_rules.proofs.OwnNames.{body_locals}
use Rattle.body_rules.proofs.BodyRules.{depth_known, scope_knows, body_keeps_rules}
use Rattle.body_rules.proofs.FormedItems.{body_named, body_item_fits}

module _ (m : NamedModule) (ty : FuncType) (body : BodyEntry) (b : IsTypedBody m ty body) where
  -- ---- the limits that the body's names rest on

  few_locals : length ty.params + length (declared_locals body.runs) ≤ 2 ^ 64
  few_locals = omega (arith, b.few_params, b.within.locals)

  few_in_context : length (context_of m.tree ty body).locals ≤ 2 ^ 64
  few_in_context = subst (λ n. n ≤ 2 ^ 64) (sym (length-append ty.params (declared_locals body.runs))) few_locals

  few_operands : most_operands (context_of m.tree ty body) body.code ≤ 2 ^ 64
  few_operands =
      let low : peak (context_of m.tree ty body) [] body.code < 2 ^ 32 = b.within.operands (context_of m.tree ty body) in
      let one : length (values ty.result) ≤ 1 = one_value ty.result in
      omega (arith, low, one)

  -- what its code passes, some body's code passes
  is_body : (test : Code → Bool) → test body.code ≡ true → list_any (λ (x : BodyEntry). test x.code) m.tree.bodies ≡ true
  is_body test e = any_passes_from_place (λ (x : BodyEntry). test x.code) m.tree.bodies b.place body b.listed e

pub bodies_keep_the_rules : BodiesKeepTheRules
bodies_keep_the_rules m index ty body front back b knows once none_of =
    body_keeps_rules m index ty body (front ++ tree.Function (func_of m index ty body) ∷ []) front back refl knows after_typed
    (few_in_context m ty body b) (few_operands m ty body b) b.within.labels b.typed (is_body m ty body b) once none_of

pub bodies_are_formed : BodiesAreFormed
bodies_are_formed m index ty body declared b few knows named name = (
  body_named m index ty body declared name named (few_locals m ty body b) (few_operands m ty body b) b.within.labels
      (body_passes (record {
        declared = declared;
        func = func_of m index ty body;
        body =
            record {
              locals = body_locals ty body (context_of m.tree ty body);
              stmts = stmts_of (record { named = m; context = context_of m.tree ty body }) body.code;
            };
      })
      (record { named = m; context = context_of m.tree ty body }) body.code
      (scope_knows m index ty body declared knows (few_in_context m ty body b) (is_body m ty body b)) after_typed b.typed refl refl
      (depth_known m index ty body declared knows)),
  body_item_fits m index ty body b.within.numbers (λ x u e. few x u (sym e)),
)
