use Rattle.lin_mem.proofs.Common.{◌≡◌, ◌+◌, ◌*◌, ◌<◌, [], length, get_or, set, ap, ◌∙◌, arith, concat, with_bytes}
use Rattle.w2c_base.proofs.Places.{same_at}
use Rattle.lin_mem.proofs.Pages.{length-concat, with_bytes-concat}
use Rattle.lin_mem.proofs.memory.LinMem.write_page.Goals as goal

pub index_mut-requires : goal.index_mut-requires
index_mut-requires c =
    let ps = c.self.inside.pages.items in
    let e : length (concat ps) ≡ length c.args.self.now.bytes = ap (λ m. length m.bytes) c.self.view_is in
    omega (arith, length-concat 65536 ps c.self.invariant.0, e, c.self.inside.pages.ok)

pub put-requires : goal.put-requires
put-requires c =
    let ps = c.self.inside.pages.items in
    let e : length (concat ps) ≡ length c.args.self.now.bytes = ap (λ m. length m.bytes) c.self.view_is in
    let lt : c.args.page < length ps = omega (arith, length-concat 65536 ps c.self.invariant.0, e) in
    let size : length c.index_mut.result.now ≡ 65536 =
    ap length c.index_mut.ensures.value ∙ c.self.invariant.0 c.args.page c.index_mut.result.now lt in
    omega (arith, size)

pub returns : goal.returns
returns c =
    let ps = c.self.inside.pages.items in let i = c.args.page in let j = c.args.offset in let bs = c.args.bytes.now in
    let e : length (concat ps) ≡ length c.args.self.now.bytes = ap (λ m. length m.bytes) c.self.view_is in
    let lt : i < length ps = omega (arith, length-concat 65536 ps c.self.invariant.0, e) in
    let is : c.index_mut.result.now ≡ get_or ps i [] = c.index_mut.ensures.value ∙ same_at ps i c.index_mut.result.now [] lt in
    let put : c.put.new.self ≡ with_bytes (get_or ps i []) j bs = c.put.ensures ∙ ap (λ p. with_bytes p j bs) is in
    let whole : concat (set ps i c.put.new.self) ≡ with_bytes c.args.self.now.bytes (65536 * i + j) bs =
    ap (λ p. concat (set ps i p)) put
    ∙ with_bytes-concat 65536 ps i j bs c.self.invariant.0 lt c.requires.one
    ∙ ap (λ m. with_bytes m.bytes (65536 * i + j) bs) c.self.view_is in
    let kept = ap (λ m. m.most) c.self.view_is in λ t. record { bytes = whole t; most = kept t }
