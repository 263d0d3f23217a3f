use Rattle.leb_bytes.proofs.Common.{◌≡◌, ℕ, ◌-◌, ◌*◌, ◌^◌, ◌<◌, ◌≤◌, pos, ◌-ℤ◌, sym, ◌∙◌, inl, inr, arith, pow_mono, to_z, of_z, cases_lt}
use Rattle.leb_bytes.proofs.Common.{ints, one_shl, w128}
use Rattle.leb_bytes.proofs.Fits.{below-div_zero, signed_sum-high}
use Rattle.leb_bytes.proofs.window.signed.Goals as goal

negated : (p s m : ℕ) → m ≡ p → p ≤ 2 ^ 70 → s < p → to_z w128 (of_z w128 (pos 0 -ℤ to_z w128 (m - s))) ≡ pos s -ℤ pos p
negated p s m e small lt = omega (arith, ints)

pub returns-else-sum-bits-eq0 : goal.returns-else-sum-bits-eq0
returns-else-sum-bits-eq0 c =
    let k = c.args.count in let s = c.args.sum in
    let high : 2 ^ (7 * k - 1) ≤ s =
    elim (cases_lt s (2 ^ (7 * k - 1)))
    [ inl less ↦ absurd (c.if-sum-bits-eq0.false (below-div_zero s (2 ^ (7 * k - 1)) less)) | inr more ↦ more ] in
    negated (2 ^ (7 * k)) s _ (one_shl (7 * k) 128 (omega arith)) (pow_mono {i = 7 * k} {j = 70} (omega arith)) (omega arith)
    ∙ sym (signed_sum-high k s high)
