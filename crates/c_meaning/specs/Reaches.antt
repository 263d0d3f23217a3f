-- How a C run comes from one place to another in so many statements, without an end between (C11,
-- 5.1.2.3 program execution).
use Rattle.std.specs.Prelude.{◌≡◌, ℕ, ◌<◌}
use Rattle.c_meaning.specs.Linking.{Program}
use Rattle.c_meaning.specs.Run.{Progress, IsGoing, after}

-- After n statements the run stands at `to`, and it was on its way until then.
pub record Reaches (p : Program) (n : ℕ) (from to : Progress) : Type 0 where
  pub there : after p n from ≡ to
  pub on_the_way : (m : ℕ) → m < n → IsGoing (after p m from)
