-- The shortest spelling of a number.
use Rattle.std.specs.Prelude.{ℕ, ◌≤◌, List, length}

-- these bytes spell the number, and no fewer do
pub record IsShortest {A : Type 0} (Spells : List ℕ → A → Type 0) (bytes : List ℕ) (n : A) : Type 0 where
  pub spells : Spells bytes n
  pub least : (other : List ℕ) → Spells other n → length bytes ≤ length other
