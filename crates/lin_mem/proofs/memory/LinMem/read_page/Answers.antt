use Rattle.lin_mem.proofs.Common.{◌≡◌, ◌+◌, ◌-◌, ◌*◌, ◌<◌, [], length, get_or, take, drop, sym, ap, ◌∙◌, arith, concat}
use Rattle.w2c_base.proofs.Places.{same_at}
use Rattle.lin_mem.proofs.Pages.{length-concat, slice-concat}
use Rattle.lin_mem.proofs.memory.LinMem.read_page.Goals as goal

pub index-requires : goal.index-requires
index-requires c =
    let ps = c.self.inside.pages.items in
    let e : length (concat ps) ≡ length c.args.self.now.bytes = ap (λ m. length m.bytes) c.self.view_is in
    omega (arith, length-concat 65536 ps c.self.invariant.0, e, c.self.inside.pages.ok)

pub slice_bounds-copy_from_slice-end : goal.slice_bounds-copy_from_slice-end
slice_bounds-copy_from_slice-end c =
    let ps = c.self.inside.pages.items in
    let e : length (concat ps) ≡ length c.args.self.now.bytes = ap (λ m. length m.bytes) c.self.view_is in
    let lt : c.args.page < length ps = omega (arith, length-concat 65536 ps c.self.invariant.0, e) in
    let is : c.bytes.result.now ≡ get_or ps c.args.page c.index.result.now = c.bytes.ensures ∙ c.index.ensures in
    let size : length c.bytes.result.now ≡ 65536 = ap length is ∙ c.self.invariant.0 c.args.page c.index.result.now lt in
    omega (arith, size)

pub returns : goal.returns
returns c =
    let ps = c.self.inside.pages.items in let i = c.args.page in let j = c.args.offset in let n = length c.args.out.now in
    let e : length (concat ps) ≡ length c.args.self.now.bytes = ap (λ m. length m.bytes) c.self.view_is in
    let lt : i < length ps = omega (arith, length-concat 65536 ps c.self.invariant.0, e) in
    let is : c.bytes.result.now ≡ get_or ps i [] = c.bytes.ensures ∙ c.index.ensures ∙ same_at ps i c.index.result.now [] lt in
    let count : j + n - j ≡ n = omega arith in
    let back : n ≡ 65536 * i + j + n - (65536 * i + j) = omega arith in
    c.copy_from_slice.ensures.after
    ∙ ap (λ k. take k (drop j c.bytes.result.now)) count
    ∙ ap (λ bs. take n (drop j bs)) is
    ∙ sym (slice-concat 65536 ps i j n c.self.invariant.0 lt c.requires.one)
    ∙ ap (λ m. take n (drop (65536 * i + j) m.bytes)) c.self.view_is
    ∙ ap (λ k. take k (drop (65536 * i + j) c.args.self.now.bytes)) back
