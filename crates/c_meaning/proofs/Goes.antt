-- A way of a C run as a computation: so many statements one behind another, each of which computes.
use Rattle.c_meaning.proofs.Common.{◌≡◌, ℕ, zero, suc, Some, None, Option, subst, Program, Reaches, Going, Over, Progress, go_on, c_step}
use Rattle.c_meaning.proofs.Ways.{stays, step, join_one}

-- where a run stands after one statement, or nothing where it was over before
abbrev pub step_on : Program → Option Progress → Option Progress
step_on p None = None
step_on p (Some (Over run)) = None
step_on p (Some (Going pending s)) = Some (go_on p pending (c_step p s))

-- after n statements
abbrev pub walk : Program → ℕ → Option Progress → Option Progress
walk p zero from = from
walk p (suc n) from = walk p n (step_on p from)

here : {x y : Progress} → Some x ≡ Some y → x ≡ y
here e = cc

nowhere : (p : Program) (n : ℕ) (to : Progress) → walk p n None ≡ Some to → ⊥
nowhere p zero to e = absurd cc
nowhere p (suc n) to e = nowhere p n to e

pub walk_reaches : (p : Program) (n : ℕ) (from to : Progress) → walk p n (Some from) ≡ Some to → Reaches p n from to
walk_reaches p zero from to e = subst (Reaches p 0 from) (here e) (stays p from)
walk_reaches p (suc n) (Over run) to e = absurd (nowhere p n to e)
walk_reaches p (suc n) (Going pending s) to e = join_one p n (Going pending s) (go_on p pending (c_step p s)) to (step p pending s)
    (walk_reaches p n (go_on p pending (c_step p s)) to e)
