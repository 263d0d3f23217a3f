-- Steps of the machine, one after the other.
use Rattle.wasm_spelling.proofs.Common.{◌≡◌, ℕ, zero, suc, List, [], ◌∷◌, ◌++◌, Ok, Err, Result, sym, refl, ap, ◌∙◌, subst, append_assoc}
use Rattle.wasm_spelling.proofs.Common.{At, Reader, ◌>>=◌, Field, State, none_more, on, row, state, step, ReadFault}
use Rattle.wasm_spelling.specs.Steps.{reads}
use Rattle.wasm_spelling.specs.Table.{after}
use Rattle.wasm_spelling.proofs.Tools.{bind_ok, bind_bind, ok_is}

-- some number of steps leads there
abbrev pub Runs : State → Result State ReadFault → Type 0
Runs s r = (n : ℕ) × (after n s ≡ r)

-- the same of a state that a step gave, or of its fault
abbrev pub From : Result State ReadFault → Result State ReadFault → Type 0
From (Ok t) r = Runs t r
From (Err f) r = r ≡ Err f

pub runs_now : (s : State) → Runs s (Ok s)
unfolding after
runs_now s = (0, refl)

pub one_step : (s : State) (x r : Result State ReadFault) → step s ≡ x → From x r → Runs s r
unfolding after
one_step s (Ok t) r e (n, h) = (suc n, ap (λ y. y >>= after n) e ∙ h)
one_step s (Err f) r e h = (1, ap (λ y. y >>= after 0) e ∙ sym h)

-- where one step leads
pub in_one : (s : State) (r : Result State ReadFault) → step s ≡ r → Runs s r
in_one s (Ok t) e = one_step s (Ok t) (Ok t) e (runs_now t)
in_one s (Err f) e = one_step s (Err f) (Err f) e refl

runs_on : (n : ℕ) (s t : State) (r : Result State ReadFault) → after n s ≡ Ok t → Runs t r → Runs s r
unfolding after
runs_on zero s t r e h = subst (λ x. Runs x r) (sym (ok_is s t e)) h
runs_on (suc n) s t r e h =
    let m = bind_ok (step s) (after n) t e in
    one_step s (Ok m.0) r m.1 (runs_on n m.0 t r m.2 h)

pub runs_then : (s t : State) (r : Result State ReadFault) → Runs s (Ok t) → Runs t r → Runs s r
runs_then s t r (n, e) h = runs_on n s t r e h

-- what is read next goes on where the first reading ended
pub reads_then : {A : Type 0} (s : State) (read : Result A ReadFault) (t : A → State) (g : A → Result State ReadFault)
    → Runs s (read >>= λ x. Ok (t x)) → ((x : A) → read ≡ Ok x → Runs (t x) (g x)) → Runs s (read >>= g)
reads_then {A} s (Ok x) t g h more = runs_then s (t x) (g x) h (more x refl)
reads_then s (Err f) t g h more = h

-- where reading a value leads
abbrev pub lands : {A : Type 0} → (A → List Field) → List (List ℕ) → List Field → A × At → Result State ReadFault
lands still outer fields x = Ok (state x.1 outer (still x.0 ++ fields))

-- the machine goes where reading goes: from fields to those that its value leaves, or to its fault
abbrev pub FollowsTo : {A : Type 0} → List Field → (A → List Field) → Reader A → Type 0
FollowsTo front still read =
    (a : At) (outer : List (List ℕ)) (fields : List Field) → Runs (state a outer (front ++ fields)) (read a >>= lands still outer fields)

abbrev pub Follows : {A : Type 0} → List Field → Reader A → Type 0
Follows front read = FollowsTo front none_more read

-- where a first reading ends, the second one goes on
pub then_reads : {A B : Type 0} (s : State) (r : Reader A) (k : A → Reader B) (a : At) (still : A → List Field) (more : B → List Field)
    (outer : List (List ℕ)) (fields rest : List Field)
    → Runs s (r a >>= lands still outer fields)
    → ((x : A) (b : At) → r a ≡ Ok (x, b) → Runs (state b outer (still x ++ fields)) (k x b >>= lands more outer rest))
    → Runs s (reads r k a >>= lands more outer rest)
unfolding reads
then_reads {A} {B} s r k a still more outer fields rest h next =
    subst (Runs s) (sym (bind_bind (r a) (λ x. k x.0 x.1) (lands more outer rest)))
    (reads_then s (r a) (λ x. state x.1 outer (still x.0 ++ fields)) (λ x. k x.0 x.1 >>= lands more outer rest) h (λ x e. next x.0 x.1 e))

-- a field of the table, and the fields that stand in its place
pub follows_row : {A : Type 0} (field : Field) (r : Reader A) (more : A → List Field)
    → ((a : At) (outer : List (List ℕ)) (fields : List Field) → row field a outer fields ≡ on (r a) more outer fields)
    → FollowsTo (field ∷ []) more r
follows_row {A} field r more is a outer fields = one_step (state a outer (field ∷ fields)) _ _ (is a outer fields) (as_read (r a))
  where
    as_read : (x : Result (A × At) ReadFault) → From (x >>= lands more outer fields) (x >>= lands more outer fields)
    as_read (Ok x) = runs_now _
    as_read (Err f) = refl

-- two readings one after the other, of which the second has the same fields whatever the first one's value
pub follows_both : {A B : Type 0} (front back : List Field) (r : Reader A) (k : A → Reader B) → Follows front r
    → ((x : A) → Follows back (k x)) → Follows (front ++ back) (reads r k)
follows_both {A} {B} front back r k h more a outer fields =
    subst (λ (l : List Field). Runs (state a outer l) (reads r k a >>= lands none_more outer fields)) (sym (append_assoc front back fields))
    (then_reads (state a outer (front ++ (back ++ fields))) r k a none_more none_more outer (back ++ fields) fields
    (h a outer (back ++ fields)) (λ x b e. more x b outer fields))

-- a field, and what its value leaves
pub follows_from : {A B : Type 0} (front : List Field) (still : A → List Field) (r : Reader A) (k : A → Reader B) → FollowsTo front still r
    → ((x : A) → Follows (still x) (k x)) → Follows front (reads r k)
follows_from {A} {B} front still r k h more a outer fields =
    then_reads (state a outer (front ++ fields)) r k a still none_more outer fields fields (h a outer fields)
    (λ x b e. more x b outer fields)

pub follows_none : {A : Type 0} (v : A) → Follows [] (λ a. Ok (v, a))
follows_none v a outer fields = runs_now _
