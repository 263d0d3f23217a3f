-- Runs split, and one that is over stays the same with more statements.
use Rattle.c_meaning.proofs.Common.{◌≡◌, ℕ, zero, suc, ◌+◌, ◌-◌, ◌≤◌, ◌≢◌, List, sym, refl, ap, ◌∙◌, arith, Reply, Program, SymbolCall}
use Rattle.c_meaning.proofs.Common.{CRun, Going, OutOfSteps, Over, Progress, after, c_run, c_start, go_on, run_of, c_step}

pub after_over : (p : Program) (k : ℕ) (run : CRun) → after p k (Over run) ≡ Over run
after_over p zero run = refl
after_over p (suc k) run = refl

pub after_sum : (p : Program) (m k : ℕ) (progress : Progress) → after p (m + k) progress ≡ after p k (after p m progress)
after_sum p zero k progress = ap (λ i. after p i progress) (omega arith)
after_sum p (suc m) k (Over run) = after_over p (suc m + k) run ∙ sym (after_over p k run)
after_sum p (suc m) k (Going pending s) =
    let e : suc m + k ≡ suc (m + k) = omega arith in
    ap (λ i. after p i (Going pending s)) e ∙ after_sum p m k (go_on p pending (c_step p s))

-- after k more statements
over_stays : (p : Program) (k : ℕ) (progress : Progress) → (run_of progress).outcome ≢ OutOfSteps
    → run_of (after p k progress) ≡ run_of progress
over_stays p k (Over run) over = ap run_of (after_over p k run)
over_stays p k (Going pending s) over = absurd (over refl)

out_before : (p : Program) (k : ℕ) (progress : Progress) → (run_of (after p k progress)).outcome ≡ OutOfSteps
    → (run_of progress).outcome ≡ OutOfSteps
out_before p k (Over run) out = sym (ap (λ x. (run_of x).outcome) (after_over p k run)) ∙ out
out_before p k (Going pending s) out = refl

-- so many statements are those of the smaller budget, and the others
split : (p : Program) (n m : ℕ) (progress : Progress) → n ≤ m → after p m progress ≡ after p (m - n) (after p n progress)
split p n m progress le =
    let e : m ≡ n + (m - n) = omega arith in
    ap (λ i. after p i progress) e ∙ after_sum p n (m - n) progress

pub run_longer : (p : Program) (calls : List SymbolCall) (replies : List Reply) (n m : ℕ) → n ≤ m
    → (c_run p calls n replies).outcome ≢ OutOfSteps → c_run p calls m replies ≡ c_run p calls n replies
run_longer p calls replies n m le over =
    ap run_of (split p n m (c_start p calls replies) le)
    ∙ over_stays p (m - n) (after p n (c_start p calls replies)) over

pub run_shorter : (p : Program) (calls : List SymbolCall) (replies : List Reply) (n m : ℕ) → n ≤ m
    → (c_run p calls m replies).outcome ≡ OutOfSteps → (c_run p calls n replies).outcome ≡ OutOfSteps
run_shorter p calls replies n m le out =
    out_before p (m - n) (after p n (c_start p calls replies))
    (sym (ap (λ x. (run_of x).outcome) (split p n m (c_start p calls replies) le)) ∙ out)
