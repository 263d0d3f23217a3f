use Rattle.lin_mem.proofs.Common.{◌≡◌, ◌+◌, ◌≤◌, length, sym, ap, ◌∙◌, subst, with_bytes, somes}
use Rattle.lin_mem.proofs.Full.{full-from_held, length-full, put-full}
use Rattle.lin_mem.proofs.Pages.{length-with_bytes}
use Rattle.lin_mem.proofs.page.Page.put.Goals as goal

pub invariant_of-self : goal.invariant_of-self
invariant_of-self c =
    let cs = c.self.inside.cells.slots in let v = c.self.invariant in
    let long : length (somes cs) ≡ 65536 = length-full cs 65536 v.1 in
    let within : c.args.at + length c.args.bytes.now ≤ length (somes cs) =
    subst (λ bs. c.args.at + length c.args.bytes.now ≤ length bs) (sym c.self.view_is) c.requires in
    let bs = with_bytes (somes cs) c.args.at c.args.bytes.now in
    let full =
    full-from_held c.put_bytes.new.cells.slots bs 65536
    (put-full cs c.put_bytes.new.cells.slots 65536 c.args.at c.args.bytes.now v.1 c.put_bytes.ensures.slots)
    (length-with_bytes (somes cs) c.args.at c.args.bytes.now within ∙ long) in
    (c.put_bytes.ensures.at ∙ v.0, full.0, v.2, v.3, v.4)

pub returns : goal.returns
returns c =
    let cs = c.self.inside.cells.slots in let v = c.self.invariant in
    let long : length (somes cs) ≡ 65536 = length-full cs 65536 v.1 in
    let within : c.args.at + length c.args.bytes.now ≤ length (somes cs) =
    subst (λ bs. c.args.at + length c.args.bytes.now ≤ length bs) (sym c.self.view_is) c.requires in
    let bs = with_bytes (somes cs) c.args.at c.args.bytes.now in
    let full =
    full-from_held c.put_bytes.new.cells.slots bs 65536
    (put-full cs c.put_bytes.new.cells.slots 65536 c.args.at c.args.bytes.now v.1 c.put_bytes.ensures.slots)
    (length-with_bytes (somes cs) c.args.at c.args.bytes.now within ∙ long) in
    full.1 ∙ ap (λ xs. with_bytes xs c.args.at c.args.bytes.now) c.self.view_is
