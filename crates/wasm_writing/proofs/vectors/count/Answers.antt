use Rattle.wasm_writing.proofs.Common.{ℕ, ◌<◌, ◌≤◌, inl, inr, cases_lt}
use Rattle.wasm_writing.proofs.Pieces.{puts_none, too_large}
use Rattle.wasm_writing.proofs.vectors.count.Goals as goal

not_below : (n m : ℕ) → (n < m → ⊥) → m ≤ n
not_below n m none = elim (cases_lt n m) [ inl less ↦ absurd (none less) | inr past ↦ past ]

pub returns-in-Err : goal.returns-in-Err
returns-in-Err c =
    puts_none _ _ _ (too_large c.args.length (not_below c.args.length _ (λ less. c.in-Err.ensures {u = tt} less))) c.refuse.ensures
