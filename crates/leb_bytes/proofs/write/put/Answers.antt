use Rattle.leb_bytes.proofs.Common.{◌≡◌, suc, ◌+◌, ◌-◌, ◌*◌, ◌/◌, ◌^◌, ◌<◌, take, set, ◌∙◌, subst, arith, length-set, drop-set-lt}
use Rattle.leb_bytes.proofs.Common.{shr_below, IsRunOf}
use Rattle.leb_bytes.proofs.Written.{Holds, Holds-last, Holds-more}
use Rattle.leb_bytes.proofs.write.put.Goals as goal

pub loop-i-preserved : goal.loop-i-preserved
loop-i-preserved c =
    let l = c.loop-i in
    record {
      holds = Holds-more c.args.pattern l.i l.out (omega (arith, l.invariant.length, c.requires.most)) l.invariant.holds;
      rest = drop-set-lt c.args.count l.out l.i _ (omega arith) ∙ l.invariant.rest;
      length = length-set l.out l.i _ ∙ l.invariant.length;
    }

pub overflow_cast-out-3 : goal.overflow_cast-out-3
overflow_cast-out-3 c =
    let e : 7 * c.args.count ≡ 7 + 7 * (c.args.count - 1) = omega (arith, c.requires.some) in
    let fits : c.args.pattern < 2 ^ (7 + 7 * (c.args.count - 1)) = subst (λ n. c.args.pattern < 2 ^ n) e c.requires.fits in
    let small = shr_below c.args.pattern 7 (7 * (c.args.count - 1)) fits in
    omega (arith, small)

pub returns-clause-run : goal.returns-clause-run
returns-clause-run c =
    let p = c.args.pattern in
    let l = c.loop-i in
    let j = c.args.count - 1 in
    let e : 7 * c.args.count ≡ 7 + 7 * j = omega (arith, c.requires.some) in
    let fits : p < 2 ^ (7 + 7 * j) = subst (λ n. p < 2 ^ n) e c.requires.fits in
    let at : l.i ≡ j = omega arith in
    let holds : Holds p j l.out = subst (λ i. Holds p i l.out) at l.invariant.holds in
    let n : suc j ≡ c.args.count = omega (arith, c.requires.some) in
    let r : IsRunOf (suc j) (take (suc j) (set l.out j (p / 2 ^ (7 * j)))) p =
    Holds-last p j l.out (omega (arith, l.invariant.length, c.requires.most)) (shr_below p 7 (7 * j) fits) holds in
    subst (λ k. IsRunOf k (take k (set l.out j (p / 2 ^ (7 * j)))) p) n r
