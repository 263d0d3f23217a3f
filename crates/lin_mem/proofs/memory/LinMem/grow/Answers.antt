use Rattle.lin_mem.proofs.Common.{◌≡◌, ℕ, ◌*◌, List, ◌++◌, length, replicate, All, ap, ◌∙◌, arith, length-append, All-append, All-same}
use Rattle.lin_mem.proofs.Common.{All-weaker, concat}
use Rattle.lin_mem.proofs.Pages.{concat-append, concat-zeros, length-concat}
use Rattle.lin_mem.proofs.memory.LinMem.grow.Goals as goal

pub invariant_of-self-2 : goal.invariant_of-self-2
invariant_of-self-2 c =
    let ps = c.self.inside.pages.items in let fresh = c.in_ok-fresh.fresh.items in
    let Whole : List ℕ → Type 0 = λ page. length page ≡ 65536 in
    let is = c.in_ok-append.ensures.items in
    let each : All Whole fresh =
    All-weaker (λ page. (length page ≡ 65536) × All (λ b. b ≡ 0) page) Whole (λ page z. z.0) fresh c.in_ok-fresh.ensures.each in
    let e : length (concat ps) ≡ length c.args.self.now.bytes = ap (λ m. length m.bytes) c.self.view_is in (
      All-same Whole _ _ is (All-append Whole ps fresh c.self.invariant.0 each),
      omega (arith, ap length is, length-append ps fresh, c.in_ok-fresh.ensures.size, length-concat 65536 ps c.self.invariant.0, e),
    )

pub returns-clause-some : goal.returns-clause-some
returns-clause-some c =
    let ps = c.self.inside.pages.items in let fresh = c.in_ok-fresh.fresh.items in
    let zeros : concat fresh ≡ replicate (65536 * c.args.pages) 0 =
    concat-zeros 65536 fresh c.in_ok-fresh.ensures.each ∙ ap (λ n. replicate (65536 * n) 0) c.in_ok-fresh.ensures.size in
    let whole : concat c.append.new.self.items ≡ c.args.self.now.bytes ++ replicate (65536 * c.args.pages) 0 =
    ap concat c.in_ok-append.ensures.items
    ∙ concat-append ps fresh
    ∙ ap (λ bs. bs ++ concat fresh) (ap (λ m. m.bytes) c.self.view_is)
    ∙ ap (λ bs. c.args.self.now.bytes ++ bs) zeros in
    let most = ap (λ m. m.most) c.self.view_is in
    λ t. record { bytes = whole t; most = most t }
