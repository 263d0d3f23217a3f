use Rattle.leb_bytes.proofs.Common.{subst, arith, IsRunOf}
use Rattle.leb_bytes.proofs.ShortestLemmas.{unsigned_shortest}
use Rattle.leb_bytes.proofs.write.write_u32.Goals as goal

pub returns-clause-length : goal.returns-clause-length
returns-clause-length c = c.groups-count.ensures.least 5 (omega arith) (omega arith)

pub returns-clause-shortest : goal.returns-clause-shortest
returns-clause-shortest c =
    let e = c.groups-count.ensures in
    unsigned_shortest 32 c.args.n c.groups-count.result _
    (subst (IsRunOf c.groups-count.result _) c.from-2.ensures c.put.ensures.run)
    (omega arith)
    (e.least 5 (omega arith) (omega arith))
    (λ k some lt. e.least k some (omega (arith, c.from.ensures, lt)))
