use Rattle.leb_bytes.proofs.Common.{◌≡◌, ℕ, ◌-◌, ◌*◌, ◌%◌, ◌^◌, ◌<◌, ◌≤◌, Bool, true, false, ℤ, pos, ◌-ℤ◌, ◌≤ℤ◌, ◌<ℤ◌, int_lt, int_le}
use Rattle.leb_bytes.proofs.Common.{FitsSigned, sym, subst, arith, pow_mono, w64, to_z, of_z, ints, one_shl, w128, SpellsSigned, InRange}
use Rattle.leb_bytes.proofs.Common.{true≢false}
use Rattle.leb_bytes.proofs.Windows.{signed-fits, signed-wrong, sum-below}
use Rattle.leb_bytes.proofs.window.front_signed.Goals as goal
use Rattle.leb_bytes.proofs.window.front_signed.Goals.{then-number-half-via-then-number-half}
use Rattle.leb_bytes.proofs.window.front_signed.Goals.{then-number-half-via-else-number-half+then-number-half-2}

-- the two tests, at half the width's power
below_half : (n : ℤ) (h m : ℕ) (t : Bool) → m ≡ h → h ≤ 2 ^ 63 → (pos 0 -ℤ pos h) ≤ℤ n → n <ℤ pos h
    → int_lt (to_z w128 (of_z w128 n)) (to_z w128 (of_z w128 (pos 0 -ℤ to_z w128 m))) ≡ t → t ≡ false
below_half n h m t e small low high is = grind (arith, ints)

from_half : (n : ℤ) (h m : ℕ) (t : Bool) → m ≡ h → h ≤ 2 ^ 63 → (pos 0 -ℤ pos h) ≤ℤ n → n <ℤ pos h
    → int_le (to_z w128 m) (to_z w128 (of_z w128 n)) ≡ t → t ≡ false
from_half n h m t e small low high is = grind (arith, ints)

half : (width : ℕ) → width ≤ 64 → 1 * 2 ^ (width - 1) % 2 ^ 128 ≡ 2 ^ (width - 1)
half width most = one_shl (width - 1) 128 (omega arith)

small : (width : ℕ) → width ≤ 64 → 2 ^ (width - 1) ≤ 2 ^ 63
small width most = pow_mono {i = width - 1} {j = 63} (omega arith)

pub signed-number-requires-clause-fits : goal.signed-number-requires-clause-fits
signed-number-requires-clause-fits c =
    let a = c.in_ok-sum.ensures in
    subst (λ s. s < 2 ^ (7 * c.in_ok-sum.count)) (sym a.1.value) (sum-below c.in_ok-sum.count c.args.window.now a.0)

pub returns-then-number-half : goal.returns-then-number-half
returns-then-number-half c =
    let a = c.in_ok-sum.ensures in
    let n = c.signed-number.result in
    let w = c.args.width in
    let out : InRange w n → ⊥ = λ fits. elim c.then-number-half.branch [
      | then-number-half-via-then-number-half v ↦ true≢false (below_half n (2 ^ (w - 1)) _ true (half w c.requires.most)
          (small w c.requires.most) fits.low fits.high v.if-number-half.true)
      | then-number-half-via-else-number-half+then-number-half-2 v ↦ true≢false (from_half n (2 ^ (w - 1)) _ true (half w c.requires.most)
          (small w c.requires.most) fits.low fits.high v.if-number-half-2.true)
    ] in
    record {
      exact = signed-wrong w c.in_ok-sum.count c.in_ok-sum.sum c.args.window.now c.requires.some a.0 a.1
          (subst (λ m. InRange w m → ⊥) c.signed-number.ensures out);
    }

in_range : (n : ℤ) (h m : ℕ) → m ≡ h → h ≤ 2 ^ 63 → FitsSigned w128 n
    → int_lt (to_z w128 (of_z w128 n)) (to_z w128 (of_z w128 (pos 0 -ℤ to_z w128 m))) ≡ false
    → int_le (to_z w128 m) (to_z w128 (of_z w128 n)) ≡ false → ((pos 0 -ℤ pos h) ≤ℤ n) × (n <ℤ pos h)
in_range n h m e small fits low high = (grind (arith, ints), grind (arith, ints))

kept : (n : ℤ) (h : ℕ) → h ≤ 2 ^ 63 → (pos 0 -ℤ pos h) ≤ℤ n → n <ℤ pos h → to_z w64 (of_z w64 (to_z w128 (of_z w128 n))) ≡ n
kept n h small low high = omega (arith, ints)

pub returns : goal.returns
returns c =
    let a = c.in_ok-sum.ensures in
    let n = c.signed-number.result in
    let w = c.args.width in
    let k = c.in_ok-sum.count in
    let range =
    in_range n (2 ^ (w - 1)) _ (half w c.requires.most) (small w c.requires.most)
    (record { sfits = c.signed-number.type_inv }) c.if-number-half.false c.if-number-half-2.false in
    let fits : InRange w n = record { low = range.0; high = range.1 } in
    let s : SpellsSigned w _ n =
    subst (SpellsSigned w _) (sym c.signed-number.ensures)
    (signed-fits w k c.in_ok-sum.sum c.args.window.now a.0 a.1 (subst (InRange w) c.signed-number.ensures fits)) in
    record { exact = (a.0, subst (SpellsSigned w _) (sym (kept n (2 ^ (w - 1)) (small w c.requires.most) range.0 range.1)) s) }
