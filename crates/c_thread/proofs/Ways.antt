-- One statement more on the way of a run.
use Rattle.c_thread.proofs.Common.{◌≡◌, ℕ, ◌+◌, ◌-◌, ◌<◌, ◌≤◌, subst, arith, Program, Reaches, Going, Pending, Progress, go_on, State, Step}
use Rattle.c_thread.proofs.Common.{c_step}
use Rattle.c_meaning.proofs.Ways.{join, step}

pub on_its_way : (p : Program) (pending : Pending) (start : Progress) (s : State) (o : Step) (first left : ℕ) → 0 < left
    → left ≤ first → c_step p s ≡ o
    → Reaches p (first - left) start (Going pending s) → Reaches p (first - (left - 1)) start (go_on p pending o)
on_its_way p pending start s o first left some within is so_far =
    let one = subst (λ o. Reaches p 1 (Going pending s) (go_on p pending o)) is (step p pending s) in
    let count : (first - left) + 1 ≡ first - (left - 1) = omega (arith, some, within) in
    rw count at (join p (first - left) 1 start (Going pending s) (go_on p pending o) so_far one)
