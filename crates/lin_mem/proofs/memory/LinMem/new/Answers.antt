use Rattle.lin_mem.proofs.Common.{◌≡◌, ◌*◌, replicate, ap, ◌∙◌, concat}
use Rattle.lin_mem.proofs.Pages.{concat-zeros}
use Rattle.lin_mem.proofs.memory.LinMem.new.Goals as goal

pub returns : goal.returns
returns c =
    let ps = c.in_ok-zeroed_pages.field-0.items in
    let e = c.in_ok-zeroed_pages.ensures in
    let whole : concat ps ≡ replicate (65536 * c.args.pages) 0 = concat-zeros 65536 ps e.each ∙ ap (λ n. replicate (65536 * n) 0) e.size in
    λ t. record { bytes = whole t; most = c.args.max }
