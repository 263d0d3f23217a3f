-- Where the checker refuses is the first faulty token, with its place and its cause.
use Rattle.body_check.proofs.Common.{◌≡◌, ℕ, zero, suc, ◌+◌, ◌<◌, ◌≤◌, ◌⊎◌, List, [], ◌∷◌, ◌++◌, length, slice_get, Some, None, Ok, Err}
use Rattle.body_check.proofs.Common.{Option, sym, refl, ap, ◌∙◌, subst, inl, inr, ⊎_elim, arith, length-append, cases_lt, get_front}
use Rattle.body_check.proofs.Common.{ValType, I32, Block, Code, If, Kind, Loop, Otherwise, else_code, end_code, no_else, then_code}
use Rattle.body_check.proofs.Common.{BodyEntry, FirstBodyFault, body_tokens, cause_of, else_tokens, kind_tokens, plain_token, tokens}
use Rattle.body_check.proofs.Common.{Operands, Ran, Refusal, and_then, at_end, check, closes, first_end, give, later, no_result, nothing}
use Rattle.body_check.proofs.Common.{or_refuse, pop_type, refusal, run, run_else, run_kind, step, completed, else_token_count}
use Rattle.body_check.proofs.Common.{kind_token_count, token_count, Context, Labels, BodyHasType, Fault}
use Rattle.body_check.proofs.Exact.{went, Decided, check_exact, here}
use Rattle.body_check.proofs.Completions.{Goes, Stops, Below, Follows, check_follows, check_below, body_whole, completed_whole}

get_behind : {A : Type 0} (xs ys : List A) (k j : ℕ) → k ≡ j + length xs → slice_get (xs ++ ys) k ≡ slice_get ys j
get_behind [] ys k j e = let same : k ≡ j = omega (arith, e) in ap (slice_get ys) same
get_behind (x ∷ xs) ys zero j e = absurd (omega (arith, e))
get_behind (x ∷ xs) ys (suc k) j e = get_behind xs ys k j (omega (arith, e))

length-block : (t u : Fault) (ts : List Fault) (n : ℕ) → length ts ≡ n → length (t ∷ (ts ++ u ∷ [])) ≡ n + 2
length-block t u ts n e = let f : length (ts ++ u ∷ []) ≡ length ts + length (u ∷ []) = length-append ts (u ∷ []) in omega (arith, e, f)

length-if : (t u : Fault) (ts us : List Fault) (m n : ℕ) → length ts ≡ m → length us ≡ n → length (t ∷ (ts ++ (us ++ u ∷ []))) ≡ m + n + 2
length-if t u ts us m n e f =
    let g : length (us ++ u ∷ []) ≡ length us + length (u ∷ []) = length-append us (u ∷ []) in
    let h : length (ts ++ (us ++ u ∷ [])) ≡ length ts + length (us ++ u ∷ []) = length-append ts (us ++ u ∷ []) in
    omega (arith, e, f, g, h)

length-both : (ts us : List Fault) (m n : ℕ) → length ts ≡ m → length us ≡ n → length (ts ++ us) ≡ m + n
length-both ts us m n e f = let g : length (ts ++ us) ≡ length ts + length us = length-append ts us in omega (arith, e, f, g)

-- there are so many tokens
mutual
  length-tokens : (c : Context) (labels : Labels) (code : Code) → length (tokens c labels code) ≡ token_count code
  length-tokens c labels end_code = refl
  length-tokens c labels (then_code p kind code) =
      length-both (kind_tokens c labels p kind) (tokens c labels code) (kind_token_count kind) (token_count code)
      (length-kind c labels p kind) (length-tokens c labels code)

  length-kind : (c : Context) (labels : Labels) (p : ℕ) (kind : Kind) → length (kind_tokens c labels p kind) ≡ kind_token_count kind
  length-kind c labels p (Block t code e) =
      length-block (plain_token p) (plain_token e) (tokens c (t ∷ labels) code) (token_count code) (length-tokens c (t ∷ labels) code)
  length-kind c labels p (Loop t code e) =
      length-block (plain_token p) (plain_token e) (tokens c (None ∷ labels) code) (token_count code) (length-tokens c (None ∷ labels) code)
  length-kind c labels p (If t code otherwise e) =
      length-if (plain_token p) (plain_token e) (tokens c (t ∷ labels) code) (else_tokens c (t ∷ labels) otherwise) (token_count code)
      (else_token_count otherwise) (length-tokens c (t ∷ labels) code) (length-else c (t ∷ labels) otherwise)
  length-kind c labels p kind = refl

  length-else : (c : Context) (labels : Labels) (otherwise : Otherwise)
      → length (else_tokens c labels otherwise) ≡ else_token_count otherwise
  length-else c labels no_else = refl
  length-else c labels (else_code q code) =
      let e : length (tokens c labels code) ≡ token_count code = length-tokens c labels code in omega (arith, e)

-- a refusal's token stands in this list
abbrev Placed : List Fault → Ran → Type 0
Placed ts (Ok s) = Unit {0}
Placed ts (Err f) = slice_get ts f.token ≡ Some f.fault

placed_refuse : (ts : List Fault) (f : Refusal) (o : Option Operands) → slice_get ts f.token ≡ Some f.fault → Placed ts (or_refuse f o)
placed_refuse ts f None h = h
placed_refuse ts f (Some s) h = tt

placed_then : (ts : List Fault) (r : Ran) (f : Operands → Ran) → Placed ts r → ((s : Operands) → Placed ts (f s)) → Placed ts (and_then r f)
placed_then ts (Ok s) f h k = k s
placed_then ts (Err e) f h k = h

placed_front : (ts us : List Fault) (r : Ran) → Placed ts r → Placed (ts ++ us) r
placed_front ts us (Ok s) h = tt
placed_front ts us (Err f) h = get_front ts us f.token f.fault h

placed_later : (n : ℕ) (ts us : List Fault) (r : Ran) → length ts ≡ n → Placed us r → Placed (ts ++ us) (later n r)
placed_later n ts us (Ok s) e h = tt
placed_later n ts us (Err f) e h = get_behind ts us (f.token + n) f.token (omega (arith, e)) ∙ h

-- code and the `end` or `else` behind it
placed_end : (ts others : List Fault) (n e : ℕ) (r : Option ValType) (ran : Ran) → length ts ≡ n → Placed ts ran
    → Placed (ts ++ plain_token e ∷ others) (at_end n e r ran)
placed_end ts others n e r ran same h =
    placed_then (ts ++ plain_token e ∷ others) ran _ (placed_front ts (plain_token e ∷ others) ran h)
    (λ s. placed_refuse (ts ++ plain_token e ∷ others) (refusal n (plain_token e)) (closes r s)
    (get_behind ts (plain_token e ∷ others) n 0 (omega (arith, same))))

placed_block : (ts : List Fault) (t : Fault) (n e : ℕ) (r : Option ValType) (s : Operands) (ran : Ran) → length ts ≡ n → Placed ts ran
    → Placed (t ∷ (ts ++ plain_token e ∷ [])) (and_then (later 1 (at_end n e r ran)) (λ _. Ok (give r s)))
placed_block ts t n e r s ran same h =
    placed_then (t ∷ (ts ++ plain_token e ∷ [])) (later 1 (at_end n e r ran)) (λ _. Ok (give r s))
    (placed_later 1 (t ∷ []) (ts ++ plain_token e ∷ []) (at_end n e r ran) refl (placed_end ts [] n e r ran same h)) (λ _. tt)

-- `us` are the tokens behind the first branch, of which the first is its `end` or `else`
placed_if : (ts us others : List Fault) (p n e : ℕ) (r : Option ValType) (s : Operands) (ran ran' : Ran) → us ≡ plain_token e ∷ others
    → length ts ≡ n → Placed ts ran → Placed us ran'
    → Placed (plain_token p ∷ (ts ++ us))
    (and_then (or_refuse (refusal 0 (plain_token p)) (pop_type I32 s))
    (λ s'. and_then (later 1 (at_end n e r ran)) (λ _. and_then (later (n + 1) ran') (λ _. Ok (give r s')))))
placed_if ts us others p n e r s ran ran' front same h h' =
    placed_then (plain_token p ∷ (ts ++ us))
    (or_refuse (refusal 0 (plain_token p)) (pop_type I32 s)) _ (placed_refuse (plain_token p ∷ (ts ++ us)) (refusal 0 (plain_token p))
    (pop_type I32 s) refl)
    (λ s'. placed_then (plain_token p ∷ (ts ++ us)) (later 1 (at_end n e r ran)) (λ _. and_then (later (n + 1) ran') (λ _. Ok (give r s')))
    (placed_later 1 (plain_token p ∷ []) (ts ++ us) (at_end n e r ran) refl
    (subst (λ l. Placed (ts ++ l) (at_end n e r ran)) (sym front) (placed_end ts others n e r ran same h)))
    (λ _. placed_then (plain_token p ∷ (ts ++ us)) (later (n + 1) ran') (λ _. Ok (give r s'))
    (placed_later (n + 1) (plain_token p ∷ ts) us ran' (omega (arith, same)) h') (λ _. tt)))

placed_plain : (c : Context) (labels : Labels) (p : ℕ) (kind : Kind) (s : Operands)
    → Placed (record { place = p; cause = cause_of c labels kind } ∷ []) (or_refuse (here c labels p kind) (step c labels kind s))
placed_plain c labels p kind s =
    placed_refuse (record { place = p; cause = cause_of c labels kind } ∷ []) (here c labels p kind) (step c labels kind s) refl

-- the tokens behind a first branch, but for the first
abbrev behind_first : Context → Labels → Otherwise → ℕ → List Fault
behind_first c labels no_else e = []
behind_first c labels (else_code q code) e = tokens c labels code ++ plain_token e ∷ []

first_behind : (c : Context) (labels : Labels) (otherwise : Otherwise) (e : ℕ)
    → else_tokens c labels otherwise ++ plain_token e ∷ [] ≡ plain_token (first_end otherwise e) ∷ behind_first c labels otherwise e
first_behind c labels no_else e = refl
first_behind c labels (else_code q code) e = refl

mutual
  run_placed : (c : Context) (labels : Labels) (code : Code) (s : Operands) → Placed (tokens c labels code) (run c labels code s)
  run_placed c labels end_code s = tt
  run_placed c labels (then_code p kind code) s =
      placed_then (kind_tokens c labels p kind ++ tokens c labels code) (run_kind c labels p kind s)
      (λ s'. later (kind_token_count kind) (run c labels code s'))
      (placed_front (kind_tokens c labels p kind) (tokens c labels code) (run_kind c labels p kind s) (kind_placed c labels p kind s))
      (λ s'. placed_later (kind_token_count kind) (kind_tokens c labels p kind) (tokens c labels code) (run c labels code s')
      (length-kind c labels p kind) (run_placed c labels code s'))

  kind_placed : (c : Context) (labels : Labels) (p : ℕ) (kind : Kind) (s : Operands)
      → Placed (kind_tokens c labels p kind) (run_kind c labels p kind s)
  kind_placed c labels p (Block t code e) s =
      placed_block (tokens c (t ∷ labels) code) (plain_token p) (token_count code) e t s (run c (t ∷ labels) code nothing)
      (length-tokens c (t ∷ labels) code) (run_placed c (t ∷ labels) code nothing)
  kind_placed c labels p (Loop t code e) s =
      placed_block (tokens c (None ∷ labels) code) (plain_token p) (token_count code) e t s (run c (None ∷ labels) code nothing)
      (length-tokens c (None ∷ labels) code) (run_placed c (None ∷ labels) code nothing)
  kind_placed c labels p (If t code otherwise e) s =
      placed_if (tokens c (t ∷ labels) code) (else_tokens c (t ∷ labels) otherwise ++ plain_token e ∷ [])
      (behind_first c (t ∷ labels) otherwise e) p (token_count code) (first_end otherwise e) t s
      (run c (t ∷ labels) code nothing) (run_else c (t ∷ labels) otherwise t e) (first_behind c (t ∷ labels) otherwise e)
      (length-tokens c (t ∷ labels) code) (run_placed c (t ∷ labels) code nothing) (else_placed c (t ∷ labels) otherwise t e)
  kind_placed c labels p kind s = placed_plain c labels p kind s

  else_placed : (c : Context) (labels : Labels) (otherwise : Otherwise) (t : Option ValType) (e : ℕ)
      → Placed (else_tokens c labels otherwise ++ plain_token e ∷ []) (run_else c labels otherwise t e)
  else_placed c labels no_else t e = placed_refuse (plain_token e ∷ []) (refusal 0 (plain_token e)) (no_result t) refl
  else_placed c labels (else_code q code) t e =
      placed_later 1 (plain_token q ∷ []) (tokens c labels code ++ plain_token e ∷ [])
      (at_end (token_count code) e t (run c labels code nothing)) refl
      (placed_end (tokens c labels code) [] (token_count code) e t (run c labels code nothing) (length-tokens c labels code)
      (run_placed c labels code nothing))

check_placed : (c : Context) (body : BodyEntry) → Placed (body_tokens c body) (check c body.code body.end_place)
check_placed c body =
    placed_end (tokens c (c.result ∷ []) body.code) [] (token_count body.code) body.end_place c.result
    (run c (c.result ∷ []) body.code nothing)
    (length-tokens c (c.result ∷ []) body.code) (run_placed c (c.result ∷ []) body.code nothing)

-- what goes has a typing, and what stops has none
goes_typed : (P : Type 0) (r : Ran) → Decided (went r) P → Goes r → P
goes_typed P (Ok s) d g = d
goes_typed P (Err f) d g = absurd g

stops_untyped : (P : Type 0) (r : Ran) → Decided (went r) P → Stops r → P → ⊥
stops_untyped P (Ok s) d g = absurd g
stops_untyped P (Err f) d g = d

-- what a run says of the body
abbrev pub Tells : Context → BodyEntry → Ran → Type 0
Tells c body (Ok s) = BodyHasType c body.code
Tells c body (Err f) = FirstBodyFault c body f.fault

module _ (c : Context) (body : BodyEntry) where
  cut_typed : (k : ℕ) → Goes (check c (completed k body.code) body.end_place) → BodyHasType c (completed k body.code)
  cut_typed k g =
      goes_typed (BodyHasType c (completed k body.code)) (check c (completed k body.code) body.end_place)
      (check_exact c (completed k body.code) body.end_place) g

  cut_untyped : (k : ℕ) → Stops (check c (completed k body.code) body.end_place) → BodyHasType c (completed k body.code) → ⊥
  cut_untyped k g =
      stops_untyped (BodyHasType c (completed k body.code)) (check c (completed k body.code) body.end_place)
      (check_exact c (completed k body.code) body.end_place) g

  tells : (r : Ran) → Decided (went r) (BodyHasType c body.code) → Below (token_count body.code + 1) r → Placed (body_tokens c body) r
      → ((k : ℕ) → k ≤ token_count body.code → Follows Goes k r (check c (completed k body.code) body.end_place)) → Tells c body r
  tells (Ok s) d b p h = d
  tells (Err f) d b p h = record {
    k = f.token;
    token = p;
    before = λ j le. cut_typed j ((h j (omega (arith, b, le))).0 le);
    faulty = ⊎_elim
        (λ (lt : f.token < token_count body.code). cut_untyped (suc f.token) ((h (suc f.token) (omega (arith, lt))).1 (omega arith)))
        (λ (ge : token_count body.code ≤ f.token). let last : f.token ≡ token_count body.code = omega (arith, b, ge) in
        subst (λ n. BodyHasType c (completed (suc n) body.code) → ⊥) (sym last)
        (subst (λ is. BodyHasType c is → ⊥) (sym (body_whole body.code)) d))
        (cases_lt f.token (token_count body.code));
  }

-- the checker decides typing, and gives the first fault
pub check_tells : (c : Context) (body : BodyEntry) → Tells c body (check c body.code body.end_place)
check_tells c body =
    tells c body (check c body.code body.end_place) (check_exact c body.code body.end_place) (check_below c body.code body.end_place)
    (check_placed c body) (λ k le. check_follows k c body.code body.end_place le)

-- a body that has a typing has no first fault
pub exclusive : (c : Context) (body : BodyEntry) (t : Fault) → BodyHasType c body.code → FirstBodyFault c body t → ⊥
exclusive c body t h f =
    go (check c body.code body.end_place) (check_exact c body.code body.end_place) (λ k le. check_follows k c body.code body.end_place le)
  where
    go : (r : Ran) → Decided (went r) (BodyHasType c body.code)
        → ((k : ℕ) → k ≤ token_count body.code → Follows Goes k r (check c (completed k body.code) body.end_place)) → ⊥
    go (Err g) d follows = d h
    go (Ok s) d follows = ⊎_elim
        (λ (lt : f.k < token_count body.code). f.faulty (cut_typed c body (suc f.k) (follows (suc f.k) (omega (arith, lt)))))
        (λ (ge : token_count body.code ≤ f.k). f.faulty (subst (BodyHasType c)
        (sym (completed_whole (suc f.k) body.code (omega (arith, ge)))) h))
        (cases_lt f.k (token_count body.code))

-- there is one first fault at most
pub one_fault : (c : Context) (body : BodyEntry) (t u : Fault) → FirstBodyFault c body t → FirstBodyFault c body u → t ≡ u
one_fault c body t u f g = ⊎_elim
    (λ (lt : f.k < g.k). absurd (f.faulty (g.before (suc f.k) (omega (arith, lt)))))
    (λ (ge : g.k ≤ f.k). ⊎_elim
    (λ (lt : g.k < f.k). absurd (g.faulty (f.before (suc g.k) (omega (arith, lt)))))
    (λ (le : f.k ≤ g.k). let same : f.k ≡ g.k = omega (arith, ge, le) in
    let e1 = f.token in let e2 = g.token in
    let e3 : slice_get (body_tokens c body) f.k ≡ slice_get (body_tokens c body) g.k = ap (slice_get (body_tokens c body)) same in cc)
    (cases_lt g.k f.k))
    (cases_lt f.k g.k)

-- a body has a typing, or a first fault
pub one_or_other : (c : Context) (body : BodyEntry) → BodyHasType c body.code ⊎ ((t : Fault) × FirstBodyFault c body t)
one_or_other c body = go (check c body.code body.end_place) (check_tells c body)
  where
    go : (r : Ran) → Tells c body r → BodyHasType c body.code ⊎ ((t : Fault) × FirstBodyFault c body t)
    go (Ok s) h = inl h
    go (Err f) h = inr (f.fault, h)
