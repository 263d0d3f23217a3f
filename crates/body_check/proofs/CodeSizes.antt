-- Code inside code is smaller in the measures of the checker: eight times its size, and the more above it the farther out it is read.
use Rattle.body_check.proofs.Common.{◌≡◌, ℕ, ◌+◌, ◌*◌, ◌<◌, ◌≤◌, arith}

pub code_below_block : (code t : ℕ) → 8 * code + 1 ≡ t → 8 * code < t
code_below_block code t e = omega (arith, e)

pub block_below_nested : (code t : ℕ) → 8 * code + 2 ≡ t → 8 * code + 1 < t
block_below_nested code t e = omega (arith, e)

pub first_below_branches : (code otherwise t : ℕ) → 8 * (code + otherwise) + 3 ≡ t → 8 * code + 1 < t
first_below_branches code otherwise t e = omega (arith, e)

pub second_below_branches : (code otherwise other t : ℕ) → otherwise ≡ other → 8 * (code + otherwise) + 3 ≡ t → 8 * other + 2 < t
second_below_branches code otherwise other t same e = omega (arith, same, e)

pub inside_below_instr : (kind inside t : ℕ) → kind ≡ inside + 1 → 8 * kind + 3 ≡ t → 8 * inside + 2 < t
inside_below_instr kind inside t same e = omega (arith, same, e)

pub branches_below_instr : (kind inside t : ℕ) → kind ≡ inside + 1 → 8 * kind + 3 ≡ t → 8 * inside + 3 < t
branches_below_instr kind inside t same e = omega (arith, same, e)

pub instr_below_code : (kind items code t : ℕ) → kind + 1 ≤ items → items ≡ code → 8 * code ≡ t → 8 * kind + 3 < t
instr_below_code kind items code t smaller same e = omega (arith, smaller, same, e)
