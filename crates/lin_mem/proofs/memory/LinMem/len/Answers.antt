use Rattle.lin_mem.proofs.Common.{◌≡◌, length, ap, arith, concat}
use Rattle.lin_mem.proofs.Pages.{length-concat}
use Rattle.lin_mem.proofs.memory.LinMem.len.Goals as goal

pub returns : goal.returns
returns c =
    let ps = c.self.inside.pages.items in
    let e : length (concat ps) ≡ length c.args.self.now.bytes = ap (λ m. length m.bytes) c.self.view_is in
    omega (arith, length-concat 65536 ps c.self.invariant.0, e, c.len.ensures, c.self.inside.pages.ok)
