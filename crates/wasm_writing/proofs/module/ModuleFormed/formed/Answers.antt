use Rattle.wasm_writing.proofs.Common.{refl, subst, Puts, short_fields, Draft, Counted}
use Rattle.wasm_writing.proofs.Whole.{counted_is_formed, formed_is_counted}
use Rattle.wasm_writing.proofs.module.ModuleFormed.formed.Goals as goal

pub returns-in-Counted : goal.returns-in-Counted
returns-in-Counted c = (
  (λ _. counted_is_formed c.args.self.now c.in-Counted.field-0
      (subst (λ (d : Draft). Puts (short_fields c.args.self.now) (Counted 0) d) c.in-Counted.is c.put.ensures)),
  (λ _. refl),
)

pub returns : goal.returns
returns c = ((λ e. absurd cc), (λ f. absurd (formed_is_counted c.args.self.now c.put.new.draft c.put.ensures c.in_default.not-Counted f)))
