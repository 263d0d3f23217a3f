-- A run that took k tokens takes their completion, and one that was refused before refuses it.
use Rattle.body_check.proofs.Common.{◌≡◌, ℕ, zero, suc, ◌+◌, ◌-◌, ◌<◌, ◌≤◌, [], ◌∷◌, Some, None, Ok, Err, Option, sym, refl, ap, ◌∙◌, subst}
use Rattle.body_check.proofs.Common.{⊎_elim, arith, cases_lt, ValType, I32, Block, Code, If, Kind, Loop, Otherwise, else_code, end_code}
use Rattle.body_check.proofs.Common.{no_else, then_code, plain_token, Operands, Ran, Refusal, and_then, anything, at_end, check, closes}
use Rattle.body_check.proofs.Common.{first_end, give, later, no_result, nothing, or_refuse, pop_type, refusal, run, run_else, run_kind}
use Rattle.body_check.proofs.Common.{step, closing, completed, completed_else, completed_kind, else_token_count, kind_token_count}
use Rattle.body_check.proofs.Common.{token_count, Context, Labels}
use Rattle.body_check.proofs.Exact.{here}

abbrev pub Goes : Ran → Type 0
Goes (Ok s) = Unit {0}
Goes (Err f) = ⊥

abbrev pub Stops : Ran → Type 0
Stops (Ok s) = ⊥
Stops (Err f) = Unit {0}

-- a refusal comes within the first n tokens
abbrev pub Below : ℕ → Ran → Type 0
Below n (Ok s) = Unit {0}
Below n (Err f) = f.token < n

-- none comes within them
abbrev Beyond : ℕ → Ran → Type 0
Beyond n (Ok s) = Unit {0}
Beyond n (Err f) = n ≤ f.token

-- r' is well where r took the first k tokens, and is refused where it did not
abbrev pub Follows : (Ran → Type 0) → ℕ → Ran → Ran → Type 0
Follows Well k (Ok s) r' = Well r'
Follows Well k (Err f) r' = (k ≤ f.token → Well r') × (f.token < k → Stops r')

abbrev IsOpen : Ran → Type 0
IsOpen r = r ≡ Ok anything

below_more : (m n : ℕ) (r : Ran) → m ≤ n → Below m r → Below n r
below_more m n (Ok s) le h = tt
below_more m n (Err f) le h = omega (arith, h)

below_later : (m n : ℕ) (r : Ran) → Below m r → Below (m + n) (later n r)
below_later m n (Ok s) h = tt
below_later m n (Err f) h = omega (arith, h)

below_then : (n : ℕ) (r : Ran) (f : Operands → Ran) → Below n r → ((s : Operands) → Below n (f s)) → Below n (and_then r f)
below_then n (Ok s) f h k = k s
below_then n (Err e) f h k = h

below_refuse : (n : ℕ) (f : Refusal) (o : Option Operands) → f.token < n → Below n (or_refuse f o)
below_refuse n f None h = h
below_refuse n f (Some s) h = tt

below_end : (m e : ℕ) (r : Option ValType) (ran : Ran) → Below m ran → Below (m + 1) (at_end m e r ran)
below_end m e r ran h =
    below_then (m + 1) ran _ (below_more m (m + 1) ran (omega arith) h) (λ s. below_refuse (m + 1) _ (closes r s) (omega arith))

below_inside : (m n l e : ℕ) (r : Option ValType) (ran : Ran) → m + 1 + l ≤ n → Below m ran → Below n (later l (at_end m e r ran))
below_inside m n l e r ran le h =
    below_more (m + 1 + l) n (later l (at_end m e r ran)) le (below_later (m + 1) l (at_end m e r ran) (below_end m e r ran h))

below_block : (m e : ℕ) (r : Option ValType) (ran : Ran) (s : Operands) → Below m ran
    → Below (m + 2) (and_then (later 1 (at_end m e r ran)) (λ _. Ok (give r s)))
below_block m e r ran s h =
    below_then (m + 2) (later 1 (at_end m e r ran)) (λ _. Ok (give r s)) (below_inside m (m + 2) 1 e r ran (omega arith) h) (λ _. tt)

below_if : (m n p e : ℕ) (r : Option ValType) (ran ran' : Ran) (s : Operands) → Below m ran → Below (n + 1) ran'
    → Below (m + n + 2) (and_then (or_refuse (refusal 0 (plain_token p)) (pop_type I32 s))
    (λ s'. and_then (later 1 (at_end m e r ran)) (λ _. and_then (later (m + 1) ran') (λ _. Ok (give r s')))))
below_if m n p e r ran ran' s h h' =
    below_then (m + n + 2) (or_refuse (refusal 0 (plain_token p)) (pop_type I32 s))
    (λ s'. and_then (later 1 (at_end m e r ran)) (λ _. and_then (later (m + 1) ran') (λ _. Ok (give r s'))))
    (below_refuse (m + n + 2) _ (pop_type I32 s) (omega arith))
    (λ s'. below_then (m + n + 2) (later 1 (at_end m e r ran)) (λ _. and_then (later (m + 1) ran') (λ _. Ok (give r s')))
    (below_inside m (m + n + 2) 1 e r ran (omega arith) h)
    (λ _. below_then (m + n + 2) (later (m + 1) ran') (λ _. Ok (give r s'))
    (below_more (n + 1 + (m + 1)) (m + n + 2) (later (m + 1) ran') (omega arith) (below_later (n + 1) (m + 1) ran' h'))
    (λ _. tt)))

below_plain : (c : Context) (labels : Labels) (p : ℕ) (kind : Kind) (s : Operands)
    → Below 1 (or_refuse (here c labels p kind) (step c labels kind s))
below_plain c labels p kind s = below_refuse 1 (here c labels p kind) (step c labels kind s) (omega arith)

mutual
  run_below : (c : Context) (labels : Labels) (code : Code) (s : Operands) → Below (token_count code) (run c labels code s)
  run_below c labels end_code s = tt
  run_below c labels (then_code p kind code) s =
      below_then (kind_token_count kind + token_count code) (run_kind c labels p kind s)
      (λ s'. later (kind_token_count kind) (run c labels code s'))
      (below_more (kind_token_count kind) (kind_token_count kind + token_count code) (run_kind c labels p kind s) (omega arith)
      (kind_below c labels p kind s))
      (λ s'. below_more (token_count code + kind_token_count kind) (kind_token_count kind + token_count code)
      (later (kind_token_count kind) (run c labels code s')) (omega arith)
      (below_later (token_count code) (kind_token_count kind) (run c labels code s') (run_below c labels code s')))

  kind_below : (c : Context) (labels : Labels) (p : ℕ) (kind : Kind) (s : Operands)
      → Below (kind_token_count kind) (run_kind c labels p kind s)
  kind_below c labels p (Block t code e) s =
      below_block (token_count code) e t (run c (t ∷ labels) code nothing) s (run_below c (t ∷ labels) code nothing)
  kind_below c labels p (Loop t code e) s =
      below_block (token_count code) e t (run c (None ∷ labels) code nothing) s (run_below c (None ∷ labels) code nothing)
  kind_below c labels p (If t code otherwise e) s =
      below_if (token_count code) (else_token_count otherwise) p (first_end otherwise e) t (run c (t ∷ labels) code nothing)
      (run_else c (t ∷ labels) otherwise t e) s
      (run_below c (t ∷ labels) code nothing) (else_below c (t ∷ labels) otherwise t e)
  kind_below c labels p kind s = below_plain c labels p kind s

  else_below : (c : Context) (labels : Labels) (otherwise : Otherwise) (t : Option ValType) (e : ℕ)
      → Below (else_token_count otherwise + 1) (run_else c labels otherwise t e)
  else_below c labels no_else t e = below_refuse 1 (refusal 0 (plain_token e)) (no_result t) (omega arith)
  else_below c labels (else_code q code) t e =
      below_inside (token_count code) (token_count code + 1 + 1) 1 e t (run c labels code nothing) (omega arith)
      (run_below c labels code nothing)

-- where no token is left out nothing is cut
mutual
  pub completed_whole : (k : ℕ) (code : Code) → token_count code < k → completed k code ≡ code
  completed_whole zero code h = absurd (omega (arith, h))
  completed_whole (suc k) end_code h = refl
  completed_whole (suc k) (then_code p kind code) h =
      ap (λ i. then_code p i (completed (suc k - kind_token_count kind) code)) (kind_whole k kind (omega (arith, h)))
      ∙ ap (then_code p kind) (completed_whole (suc k - kind_token_count kind) code (omega (arith, h)))

  kind_whole : (k : ℕ) (kind : Kind) → kind_token_count kind ≤ suc k → completed_kind k kind ≡ kind
  kind_whole k (Block t code e) h = ap (λ is. Block t is e) (completed_whole k code (omega (arith, h)))
  kind_whole k (Loop t code e) h = ap (λ is. Loop t is e) (completed_whole k code (omega (arith, h)))
  kind_whole k (If t code otherwise e) h =
      ap (λ is. If t is (completed_else (k - token_count code) otherwise) e) (completed_whole k code (omega (arith, h)))
      ∙ ap (λ o. If t code o e) (else_whole (k - token_count code) otherwise (omega (arith, h)))
  kind_whole k kind h = refl

  else_whole : (k : ℕ) (otherwise : Otherwise) → else_token_count otherwise < k → completed_else k otherwise ≡ otherwise
  else_whole zero no_else h = absurd (omega (arith, h))
  else_whole (suc k) no_else h = refl
  else_whole zero (else_code q code) h = absurd (omega (arith, h))
  else_whole (suc k) (else_code q code) h = ap (else_code q) (completed_whole (suc k - 1) code (omega (arith, h)))

stops_then : (r : Ran) (f : Operands → Ran) → Stops r → Stops (and_then r f)
stops_then (Ok s) f h = absurd h
stops_then (Err e) f h = h

goes_then : (r : Ran) (f : Operands → Ran) → Goes r → ((s : Operands) → Goes (f s)) → Goes (and_then r f)
goes_then (Ok s) f h k = k s
goes_then (Err e) f h k = absurd h

goes_later : (n : ℕ) (r : Ran) → Goes r → Goes (later n r)
goes_later n (Ok s) h = tt
goes_later n (Err f) h = h

stops_later : (n : ℕ) (r : Ran) → Stops r → Stops (later n r)
stops_later n (Ok s) h = h
stops_later n (Err f) h = tt

-- from here on no refusal comes within k tokens
goes_on : (k : ℕ) (r r' : Ran) → Beyond k r → Goes r' → Follows Goes k r r'
goes_on k (Ok s) r' h g = g
goes_on k (Err f) r' h g = (λ _. g, λ lt. absurd (omega (arith, h, lt)))

follow_then : (k : ℕ) (r r' : Ran) (f f' : Operands → Ran) → Follows Goes k r r' → ((s : Operands) → Beyond k (f s))
    → ((s : Operands) → Goes (f' s)) → Follows Goes k (and_then r f) (and_then r' f')
follow_then k (Ok s) r' f f' h b g = goes_on k (f s) (and_then r' f') (b s) (goes_then r' f' h g)
follow_then k (Err e) r' f f' h b g = (λ le. goes_then r' f' (h.0 le) g, λ lt. stops_then r' f' (h.1 lt))

-- a part that is not cut
same_then : (Well : Ran → Type 0) (k : ℕ) (r : Ran) (f f' : Operands → Ran) → Below k r → ((s : Operands) → Follows Well k (f s) (f' s))
    → Follows Well k (and_then r f) (and_then r f')
same_then Well k (Ok s) f f' b h = h s
same_then Well k (Err e) f f' b h = (λ le. absurd (omega (arith, b, le)), λ _. tt)

follow_later : (k n j : ℕ) (r r' : Ran) → k + n ≡ j → Follows Goes k r r' → Follows Goes j (later n r) (later n r')
follow_later k n j (Ok s) r' e h = goes_later n r' h
follow_later k n j (Err f) r' e h =
    (λ le. goes_later n r' (h.0 (omega (arith, e, le))), λ lt. stops_later n r' (h.1 (omega (arith, e, lt))))

open_later : (k n j : ℕ) (r r' : Ran) → k + n ≡ j → Follows IsOpen k r r' → Follows IsOpen j (later n r) (later n r')
open_later k n j (Ok s) r' e h = ap (later n) h
open_later k n j (Err f) r' e h = (λ le. ap (later n) (h.0 (omega (arith, e, le))), λ lt. stops_later n r' (h.1 (omega (arith, e, lt))))

beyond_later : (k n : ℕ) (r : Ran) → k ≤ n → Beyond k (later n r)
beyond_later k n (Ok s) le = tt
beyond_later k n (Err f) le = omega (arith, le)

beyond_then : (k : ℕ) (r : Ran) (f : Operands → Ran) → Beyond k r → ((s : Operands) → Beyond k (f s)) → Beyond k (and_then r f)
beyond_then k (Ok s) f h g = g s
beyond_then k (Err e) f h g = h

beyond_refuse : (k : ℕ) (f : Refusal) (o : Option Operands) → k ≤ f.token → Beyond k (or_refuse f o)
beyond_refuse k f None h = h
beyond_refuse k f (Some s) h = tt

-- dead code has every result
open_end : (m e : ℕ) (r : Option ValType) → Goes (at_end m e r (Ok anything))
open_end m e None = tt
open_end m e (Some t) = tt

goes_end : (m e : ℕ) (r : Option ValType) (ran : Ran) → IsOpen ran → Goes (at_end m e r ran)
goes_end m e r ran h = subst (λ x. Goes (at_end m e r x)) (sym h) (open_end m e r)

follow_end : (k m m' e e' : ℕ) (r : Option ValType) (ran ran' : Ran) → k ≤ m → Follows IsOpen k ran ran'
    → Follows Goes k (at_end m e r ran) (at_end m' e' r ran')
follow_end k m m' e e' r (Ok s) ran' le h = goes_on k _ (at_end m' e' r ran') (beyond_refuse k _ (closes r s) le) (goes_end m' e' r ran' h)
follow_end k m m' e e' r (Err f) ran' le h = (λ l. goes_end m' e' r ran' (h.0 l), λ l. stops_then ran' _ (h.1 l))

follow_inside : (k m m' e e' : ℕ) (r : Option ValType) (ran ran' : Ran) → k ≤ m → Follows IsOpen k ran ran'
    → Follows Goes (suc k) (later 1 (at_end m e r ran)) (later 1 (at_end m' e' r ran'))
follow_inside k m m' e e' r ran ran' le h =
    follow_later k 1 (suc k) (at_end m e r ran) (at_end m' e' r ran') (omega arith) (follow_end k m m' e e' r ran ran' le h)

follow_block : (k m m' e : ℕ) (r : Option ValType) (s : Operands) (ran ran' : Ran) → k ≤ m → Follows IsOpen k ran ran'
    → Follows Goes (suc k) (and_then (later 1 (at_end m e r ran)) (λ _. Ok (give r s)))
    (and_then (later 1 (at_end m' e r ran')) (λ _. Ok (give r s)))
follow_block k m m' e r s ran ran' le h =
    follow_then (suc k) (later 1 (at_end m e r ran)) (later 1 (at_end m' e r ran')) (λ _. Ok (give r s)) (λ _. Ok (give r s))
    (follow_inside k m m' e e r ran ran' le h) (λ _. tt) (λ _. tt)

-- the rest of a list, of which no token was taken
open_rest : (k n n' : ℕ) (r r' : Ran) (f f' : Operands → Ran) → k ≤ n → Follows Goes k r r' → ((s : Operands) → f' s ≡ Ok anything)
    → Follows IsOpen k (and_then r (λ s. later n (f s))) (and_then r' (λ s. later n' (f' s)))
open_rest k n n' r r' f f' le h o = go r h
  where
    opens : (x : Ran) → Goes x → IsOpen (and_then x (λ s. later n' (f' s)))
    opens (Ok s) g = ap (later n') (o s)
    opens (Err e) g = absurd g

    behind : (x : Ran) → Goes r' → Follows IsOpen k (later n x) (and_then r' (λ s. later n' (f' s)))
    behind (Ok s) g = opens r' g
    behind (Err e) g = (λ _. opens r' g, λ lt. absurd (omega (arith, le, lt)))

    go : (x : Ran) → Follows Goes k x r' → Follows IsOpen k (and_then x (λ s. later n (f s))) (and_then r' (λ s. later n' (f' s)))
    go (Ok s) g = behind (f s) g
    go (Err e) g = (λ l. opens r' (g.0 l), λ l. stops_then r' _ (g.1 l))

start : (r : Ran) → Follows IsOpen 0 r (Ok anything)
start (Ok s) = refl
start (Err f) = (λ _. refl, λ lt. absurd (omega (arith, lt)))

-- an instruction that is not whole, and one that is, with the list behind it
list_follows : (k : ℕ) (c : Context) (labels : Labels) (p : ℕ) (kind : Kind) (code : Code) (s : Operands)
    → (suc k < kind_token_count kind → Follows Goes (suc k) (run_kind c labels p kind s) (run_kind c labels p (completed_kind k kind) s))
    → (kind_token_count kind ≤ suc k → (s' : Operands)
    → Follows IsOpen (suc k - kind_token_count kind) (run c labels code s')
    (run c labels (completed (suc k - kind_token_count kind) code) s'))
    → Follows IsOpen (suc k) (run c labels (then_code p kind code) s) (run c labels (completed (suc k) (then_code p kind code)) s)
list_follows k c labels p kind code s one rest = ⊎_elim partly wholly (cases_lt (suc k) (kind_token_count kind))
  where
    partly : suc k < kind_token_count kind
        → Follows IsOpen (suc k) (run c labels (then_code p kind code) s) (run c labels (completed (suc k) (then_code p kind code)) s)
    partly lt =
        let none : 0 ≡ suc k - kind_token_count kind = omega (arith, lt) in
        subst (λ n. Follows IsOpen (suc k) (run c labels (then_code p kind code) s)
        (run c labels (then_code p (completed_kind k kind) (completed n code)) s)) none
        (open_rest (suc k) (kind_token_count kind) (kind_token_count (completed_kind k kind)) (run_kind c labels p kind s)
        (run_kind c labels p (completed_kind k kind) s) (run c labels code) (run c labels closing) (omega (arith, lt)) (one lt)
        (λ s'. refl))

    wholly : kind_token_count kind ≤ suc k
        → Follows IsOpen (suc k) (run c labels (then_code p kind code) s) (run c labels (completed (suc k) (then_code p kind code)) s)
    wholly ge =
        subst (λ i. Follows IsOpen (suc k) (run c labels (then_code p kind code) s)
        (run c labels (then_code p i (completed (suc k - kind_token_count kind) code)) s)) (sym (kind_whole k kind ge))
        (same_then IsOpen (suc k) (run_kind c labels p kind s) (λ s'. later (kind_token_count kind) (run c labels code s'))
        (λ s'. later (kind_token_count kind) (run c labels (completed (suc k - kind_token_count kind) code) s'))
        (below_more (kind_token_count kind) (suc k) (run_kind c labels p kind s) ge (kind_below c labels p kind s))
        (λ s'. open_later (suc k - kind_token_count kind) (kind_token_count kind) (suc k) (run c labels code s')
        (run c labels (completed (suc k - kind_token_count kind) code) s') (omega (arith, ge)) (rest ge s')))

-- code inside an instruction, of which k tokens were taken
abbrev InsideFollows : ℕ → Context → Labels → Code → Type 0
InsideFollows k c labels code = Follows IsOpen k (run c labels code nothing) (run c labels (completed k code) nothing)

-- what closes an `if` behind its first branch
closed_else_goes : (c : Context) (labels : Labels) (otherwise : Otherwise) (t : Option ValType) (e : ℕ)
    → Goes (run_else c labels (completed_else 0 otherwise) t e)
closed_else_goes c labels no_else None e = tt
closed_else_goes c labels no_else (Some t) e = tt
closed_else_goes c labels (else_code q code) None e = tt
closed_else_goes c labels (else_code q code) (Some t) e = tt

first_follows : (k p : ℕ) (c : Context) (labels : Labels) (t : Option ValType) (code : Code) (otherwise : Otherwise) (e : ℕ) (s : Operands)
    → k ≤ token_count code → InsideFollows k c (t ∷ labels) code
    → Follows Goes (suc k) (run_kind c labels p (If t code otherwise e) s)
    (run_kind c labels p (completed_kind k (If t code otherwise e)) s)
first_follows k p c labels t code otherwise e s le h =
    let none : 0 ≡ k - token_count code = omega (arith, le) in
    let n = token_count code in
    let n' = token_count (completed k code) in
    subst (λ j. Follows Goes (suc k) (run_kind c labels p (If t code otherwise e) s)
    (run_kind c labels p (If t (completed k code) (completed_else j otherwise) e) s)) none
    (same_then Goes (suc k) (or_refuse (refusal 0 (plain_token p)) (pop_type I32 s)) _ _ (below_refuse (suc k) _ (pop_type I32 s)
    (omega arith))
    (λ s'. follow_then (suc k) (later 1 (at_end n (first_end otherwise e) t (run c (t ∷ labels) code nothing)))
    (later 1 (at_end n' (first_end (completed_else 0 otherwise) e) t (run c (t ∷ labels) (completed k code) nothing)))
    (λ _. and_then (later (n + 1) (run_else c (t ∷ labels) otherwise t e)) (λ _. Ok (give t s')))
    (λ _. and_then (later (n' + 1) (run_else c (t ∷ labels) (completed_else 0 otherwise) t e)) (λ _. Ok (give t s')))
    (follow_inside k n n' (first_end otherwise e) (first_end (completed_else 0 otherwise) e) t (run c (t ∷ labels) code nothing)
    (run c (t ∷ labels) (completed k code) nothing) le h)
    (λ _. beyond_then (suc k) (later (n + 1) (run_else c (t ∷ labels) otherwise t e)) (λ _. Ok (give t s'))
    (beyond_later (suc k) (n + 1) (run_else c (t ∷ labels) otherwise t e) (omega (arith, le))) (λ _. tt))
    (λ _. goes_then (later (n' + 1) (run_else c (t ∷ labels) (completed_else 0 otherwise) t e)) (λ _. Ok (give t s'))
    (goes_later (n' + 1) (run_else c (t ∷ labels) (completed_else 0 otherwise) t e) (closed_else_goes c (t ∷ labels) otherwise t e))
    (λ _. tt))))

second_follows : (k j p : ℕ) (c : Context) (labels : Labels) (t : Option ValType) (code : Code) (q : ℕ) (other : Code) (e : ℕ)
    (s : Operands) → k ≡ token_count code + 1 + j → j ≤ token_count other → InsideFollows j c (t ∷ labels) other
    → Follows Goes (suc k) (run_kind c labels p (If t code (else_code q other) e) s)
    (run_kind c labels p (completed_kind k (If t code (else_code q other) e)) s)
second_follows k j p c labels t code q other e s same le h =
    let n = token_count code in
    let behind : j ≡ k - n - 1 = omega (arith, same) in
    subst (λ is. Follows Goes (suc k) (run_kind c labels p (If t code (else_code q other) e) s)
    (run_kind c labels p (If t is (else_code q (completed (k - n - 1) other)) e) s))
    (sym (completed_whole k code (omega (arith, same))))
    (subst (λ i. Follows Goes (suc k) (run_kind c labels p (If t code (else_code q other) e) s)
    (run_kind c labels p (If t code (else_code q (completed i other)) e) s)) behind
    (same_then Goes (suc k) (or_refuse (refusal 0 (plain_token p)) (pop_type I32 s)) _ _ (below_refuse (suc k) _ (pop_type I32 s)
    (omega arith))
    (λ s'. same_then Goes (suc k) (later 1 (at_end n q t (run c (t ∷ labels) code nothing)))
    (λ _. and_then (later (n + 1) (run_else c (t ∷ labels) (else_code q other) t e)) (λ _. Ok (give t s')))
    (λ _. and_then (later (n + 1) (run_else c (t ∷ labels) (else_code q (completed j other)) t e)) (λ _. Ok (give t s')))
    (below_inside n (suc k) 1 q t (run c (t ∷ labels) code nothing) (omega (arith, same)) (run_below c (t ∷ labels) code nothing))
    (λ _. follow_then (suc k) (later (n + 1) (run_else c (t ∷ labels) (else_code q other) t e))
    (later (n + 1) (run_else c (t ∷ labels) (else_code q (completed j other)) t e)) (λ _. Ok (give t s')) (λ _. Ok (give t s'))
    (follow_later (suc j) (n + 1) (suc k) (run_else c (t ∷ labels) (else_code q other) t e)
    (run_else c (t ∷ labels) (else_code q (completed j other)) t e) (omega (arith, same))
    (follow_inside j (token_count other) (token_count (completed j other)) e e t (run c (t ∷ labels) other nothing)
    (run c (t ∷ labels) (completed j other) nothing) le h))
    (λ _. tt) (λ _. tt)))))

either : {A : Type 0} (k n : ℕ) → (n < k → A) → (k ≤ n → A) → A
either k n f g = ⊎_elim f g (cases_lt n k)

plain_whole : (k : ℕ) (A : Type 0) → suc k < 1 → A
plain_whole k A lt = absurd (omega (arith, lt))

mutual
  run_follows : (k : ℕ) (c : Context) (labels : Labels) (code : Code) (s : Operands) → k ≤ token_count code
      → Follows IsOpen k (run c labels code s) (run c labels (completed k code) s)
  run_follows zero c labels code s le = start (run c labels code s)
  run_follows (suc k) c labels end_code s le = absurd (omega (arith, le))
  run_follows (suc k) c labels (then_code p kind code) s le =
      list_follows k c labels p kind code s (λ lt. kind_follows k c labels p kind s lt)
      (λ ge s'. run_follows (suc k - kind_token_count kind) c labels code s' (omega (arith, ge, le)))

  kind_follows : (k : ℕ) (c : Context) (labels : Labels) (p : ℕ) (kind : Kind) (s : Operands) → suc k < kind_token_count kind
      → Follows Goes (suc k) (run_kind c labels p kind s) (run_kind c labels p (completed_kind k kind) s)
  kind_follows k c labels p (Block t code e) s lt =
      follow_block k (token_count code) (token_count (completed k code)) e t s (run c (t ∷ labels) code nothing)
      (run c (t ∷ labels) (completed k code) nothing) (omega (arith, lt)) (run_follows k c (t ∷ labels) code nothing (omega (arith, lt)))
  kind_follows k c labels p (Loop t code e) s lt =
      follow_block k (token_count code) (token_count (completed k code)) e t s (run c (None ∷ labels) code nothing)
      (run c (None ∷ labels) (completed k code) nothing) (omega (arith, lt))
      (run_follows k c (None ∷ labels) code nothing (omega (arith, lt)))
  kind_follows k c labels p (If t code no_else e) s lt =
      first_follows k p c labels t code no_else e s (omega (arith, lt)) (run_follows k c (t ∷ labels) code nothing (omega (arith, lt)))
  kind_follows k c labels p (If t code (else_code q other) e) s lt =
      either k (token_count code)
      (λ gt. second_follows k (k - (token_count code + 1)) p c labels t code q other e s (omega (arith, gt)) (omega (arith, gt, lt))
      (run_follows (k - (token_count code + 1)) c (t ∷ labels) other nothing (omega (arith, gt, lt))))
      (λ le. first_follows k p c labels t code (else_code q other) e s le (run_follows k c (t ∷ labels) code nothing le))
  kind_follows k c labels p kind s lt = plain_whole k _ lt

-- the body's own end
pub check_follows : (k : ℕ) (c : Context) (code : Code) (e : ℕ) → k ≤ token_count code
    → Follows Goes k (check c code e) (check c (completed k code) e)
check_follows k c code e le =
    follow_end k (token_count code) (token_count (completed k code)) e e c.result (run c (c.result ∷ []) code nothing)
    (run c (c.result ∷ []) (completed k code) nothing) le (run_follows k c (c.result ∷ []) code nothing le)

pub check_below : (c : Context) (code : Code) (e : ℕ) → Below (token_count code + 1) (check c code e)
check_below c code e =
    below_end (token_count code) e c.result (run c (c.result ∷ []) code nothing) (run_below c (c.result ∷ []) code nothing)

pub body_whole : (code : Code) → completed (suc (token_count code)) code ≡ code
body_whole code = completed_whole (suc (token_count code)) code (omega arith)
