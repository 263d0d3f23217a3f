use Rattle.std.proofs.Common.{ℕ, ◌≡◌, ◌-◌, List, [], ◌∷◌, ◌++◌, length, take, refl, ap, ◌∙◌, arith, take_at, length-append}
use Rattle.wasm_set.proofs.module_set.push_both.Goals as goal
use Rattle.wasm_set.proofs.module_set.push_both.Goals.{in-Ok, in-Err}

-- without what came last
front_is : {A : Type 0} (xs : List A) (y : A) (all : List A) (n : ℕ) → all ≡ xs ++ y ∷ [] → n ≡ length all → take (n - 1) all ≡ xs
front_is xs y all n is long =
    let count : n - 1 ≡ length xs = omega (arith, long, ap length is, length-append xs (y ∷ [])) in
    ap (λ n. take n all) count ∙ ap (take (length xs)) is ∙ take_at xs (y ∷ []) (length xs) refl

pub returns-clause-tables_stay : goal.returns-clause-tables_stay
returns-clause-tables_stay c = elim c.match-push.branch [
  | in-Ok w ↦ rw w.result-is tt
  | in-Err w ↦ rw w.result-is (ap (λ t. t.items) w.tables-is ∙ w.pop.ensures.rest
      ∙ front_is c.args.tables.now.items c.args.table c.push.new.self.items _ c.in_ok-push.ensures.items
      (omega (arith, c.push.new.self.ok.0)))
]
