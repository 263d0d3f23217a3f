use Rattle.lin_mem.proofs.Common.{◌≡◌, ℕ, ◌<◌, ◌++◌, length, drop, replicate, Some, None, All, Option, sym, ap, ◌∙◌, subst, arith, IsFull}
use Rattle.lin_mem.proofs.Common.{somes}
use Rattle.lin_mem.proofs.Full.{All-zeros, begun-all, begun-more, full-same, length-same}
use Rattle.lin_mem.proofs.page.zeroed_block.Goals as goal

pub loop-i-preserved : goal.loop-i-preserved
loop-i-preserved c =
    let none : Option ℕ = None in
    let cs = c.in_ok-base.cells.slots in let i = c.loop-i.i in
    let lt : i < length cs = omega (arith, ap length c.in_ok-base.ensures.1, length-same c.args.count none) in
    record {
      at = c.write.ensures.0 ∙ c.loop-i.invariant.at;
      filled = begun-more (Some 0) cs c.loop-i.cells.slots c.write.new.self.slots i lt c.loop-i.invariant.filled c.write.ensures.1;
    }

pub returns-clause-cells : goal.returns-clause-cells
returns-clause-cells c =
    let none : Option ℕ = None in let n = c.args.count in
    let cs = c.in_ok-base.cells.slots in
    let long : length cs ≡ n = ap length c.in_ok-base.ensures.1 ∙ length-same n none in
    let end : c.loop-i.i ≡ n = omega arith in
    let is : c.loop-i.cells.slots ≡ replicate n (Some 0) =
    c.loop-i.invariant.filled ∙ ap (λ i. replicate i (Some 0) ++ drop i cs) end ∙ begun-all (Some 0) cs n long in
    (c.loop-i.invariant.at ∙ c.in_ok-base.ensures.0, subst (λ l. IsFull l n) (sym is) (full-same n 0).0)

pub returns-clause-zero : goal.returns-clause-zero
returns-clause-zero c =
    let none : Option ℕ = None in let n = c.args.count in
    let cs = c.in_ok-base.cells.slots in
    let long : length cs ≡ n = ap length c.in_ok-base.ensures.1 ∙ length-same n none in
    let end : c.loop-i.i ≡ n = omega arith in
    let is : c.loop-i.cells.slots ≡ replicate n (Some 0) =
    c.loop-i.invariant.filled ∙ ap (λ i. replicate i (Some 0) ++ drop i cs) end ∙ begun-all (Some 0) cs n long in
    subst (All (λ (b : ℕ). b ≡ 0)) (sym (ap somes is ∙ (full-same n 0).1)) (All-zeros n)
