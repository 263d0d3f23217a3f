use Rattle.wasm_set.proofs.Common.{◌≡◌, ℕ, true, List, slice_get, bytes_eq, sym, ap, ◌∙◌, subst, module_named, SetModule}
use Rattle.wasm_set.proofs.Found.{named_here}
use Rattle.wasm_set.proofs.joining.place_of.Goals as goal

pub returns-then-eq-clause-found : goal.returns-then-eq-clause-found
returns-then-eq-clause-found c = λ k e.
    let item = c.index-modules-i.result in
    let name = c.args.name.now in
    let same : c.loop-i.i ≡ k = cc in
    let its_name : item.name ≡ c.as_slice.result.now = ap (λ (m : SetModule). m.name) c.index-modules-i.is ∙ sym c.as_slice.ensures in
    let equal : bytes_eq item.name name ≡ true =
    ap (λ (n : List ℕ). bytes_eq n name) its_name ∙ sym c.eq.ensures ∙ c.if-eq.true in
    subst (λ n. module_named c.args.modules.now name ≡ slice_get c.args.modules.now n) same
    (named_here c.args.modules.now c.loop-i.i item name c.loop-i-test.true c.index-modules-i.is equal c.loop-i.invariant)
