-- Ways of a C run: one statement, one way behind another, and a way to the end.
use Rattle.c_meaning.proofs.Common.{◌≡◌, ℕ, zero, suc, ◌+◌, ◌-◌, ◌<◌, ◌≤◌, ◌⊎◌, List, sym, refl, ap, ◌∙◌, subst, inl, inr, arith, Reply}
use Rattle.c_meaning.proofs.Common.{Program, SymbolCall, Reaches, CRun, Going, IsGoing, OutOfSteps, Over, Pending, Progress, after, c_run}
use Rattle.c_meaning.proofs.Common.{c_start, go_on, run_of, State, c_step}
use Rattle.c_meaning.proofs.Longer.{after_sum, after_over}
use Rattle.c_meaning.proofs.OnTheWay.{going_is_out}

pub less_or_not : (m n : ℕ) → (m < n) ⊎ (n ≤ m)
less_or_not m n = grind arith

pub stays : (p : Program) (progress : Progress) → Reaches p 0 progress progress
stays p progress = record { there = refl; on_the_way = λ m less. absurd (omega arith) }

-- one statement
pub step : (p : Program) (pending : Pending) (s : State) → Reaches p 1 (Going pending s) (go_on p pending (c_step p s))
step p pending s = record { there = refl; on_the_way = first }
  where
    first : (m : ℕ) → m < 1 → IsGoing (after p m (Going pending s))
    first zero less = tt
    first (suc m) less = absurd (omega arith)

-- one way behind another
pub join : (p : Program) (n k : ℕ) (x y z : Progress) → Reaches p n x y → Reaches p k y z → Reaches p (n + k) x z
join p n k x y z first second = record {
  there = after_sum p n k x ∙ ap (after p k) first.there ∙ second.there;
  on_the_way = λ m less. elim (less_or_not m n) [
    | inl before ↦ first.on_the_way m before
    | inr behind ↦
        let e : m ≡ n + (m - n) = omega arith in
        let at : after p m x ≡ after p (m - n) y = ap (λ i. after p i x) e ∙ after_sum p n (m - n) x ∙ ap (after p (m - n)) first.there in
        subst IsGoing (sym at) (second.on_the_way (m - n) (omega arith))
  ];
}

-- a way behind one statement
pub join_one : (p : Program) (k : ℕ) (x y z : Progress) → Reaches p 1 x y → Reaches p k y z → Reaches p (suc k) x z
join_one p k x y z first second =
    let e : 1 + k ≡ suc k = omega arith in
    subst (λ (n : ℕ). Reaches p n x z) e (join p 1 k x y z first second)

-- a way that ends: with so many statements and more the run is this one, with fewer it is out of steps
pub enough : (p : Program) (calls : List SymbolCall) (replies : List Reply) (n m : ℕ) (run : CRun)
    → Reaches p n (c_start p calls replies) (Over run) → n ≤ m → c_run p calls m replies ≡ run
enough p calls replies n m run way le =
    let e : m ≡ n + (m - n) = omega arith in
    ap run_of (ap (λ i. after p i (c_start p calls replies)) e ∙ after_sum p n (m - n) (c_start p calls replies)
    ∙ ap (after p (m - n)) way.there ∙ after_over p (m - n) run)

pub short : (p : Program) (calls : List SymbolCall) (replies : List Reply) (n m : ℕ) (run : CRun)
    → Reaches p n (c_start p calls replies) (Over run) → m < n → (c_run p calls m replies).outcome ≡ OutOfSteps
short p calls replies n m run way less = going_is_out p calls replies m (way.on_the_way m less)
