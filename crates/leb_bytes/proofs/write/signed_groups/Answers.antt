use Rattle.leb_bytes.proofs.Common.{◌*◌, ◌%◌, ◌^◌, ◌<◌, arith, ints}
use Rattle.leb_bytes.proofs.Fits.{half}
use Rattle.leb_bytes.proofs.write.signed_groups.Goals as goal
use Rattle.leb_bytes.proofs.write.signed_groups.Goals.{then-n-lt0, else-n-lt0}

pub returns-clause-least : goal.returns-clause-least
returns-clause-least c = λ k some range.
    let h = half k some in
    let fits : c.from.result * 2 % 2 ^ 128 < 2 ^ (7 * k) =
    elim c.if-n-lt0.branch [ then-n-lt0 w ↦ omega (arith, ints) | else-n-lt0 w ↦ omega (arith, ints) ] in
    c.groups.ensures.least k some fits
