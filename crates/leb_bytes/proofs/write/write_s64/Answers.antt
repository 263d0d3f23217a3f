use Rattle.leb_bytes.proofs.Common.{◌*◌, sym, ◌∙◌, subst, arith, w64, ints, to_z-of_z, InRange}
use Rattle.leb_bytes.proofs.ShortestLemmas.{signed_shortest}
use Rattle.leb_bytes.proofs.write.write_s64.Goals as goal

pub returns-clause-length : goal.returns-clause-length
returns-clause-length c =
    let same = to_z-of_z w64 c.args.n c.ranges.n in
    c.write_signed.ensures.least 10 (omega arith) (record { low = omega (arith, ints, same); high = omega (arith, ints, same) })

pub returns-clause-shortest : goal.returns-clause-shortest
returns-clause-shortest c =
    let e = c.write_signed.ensures in
    let same = to_z-of_z w64 c.args.n c.ranges.n in
    signed_shortest 64 c.write_signed.result c.args.n _ e.run e.length (sym same ∙ e.value)
    (record { low = omega (arith, ints); high = omega (arith, ints) })
    (e.least 10 (omega arith) (record { low = omega (arith, ints, same); high = omega (arith, ints, same) }))
    (λ k some range. e.least k some (subst (InRange (7 * k)) (sym same) range))
