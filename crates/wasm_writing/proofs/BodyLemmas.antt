-- Runs of locals, and bodies.
use Rattle.wasm_writing.proofs.Common.{◌≡◌, ℕ, ◌+◌, ◌<◌, ◌≤◌, Bool, List, [], ◌∷◌, ◌++◌, length, get_or, take, drop, nat_le, sym, ap, ◌∙◌}
use Rattle.wasm_writing.proofs.Common.{subst, arith, le-leb, leb-true, BodyEntry, Run, Fields, finished, number, provided, window}
use Rattle.wasm_writing.proofs.Common.{most_all_locals, most_locals, bodies, locals_of, runs, value_type, body_content, Fits, HasStopped}
use Rattle.wasm_writing.proofs.Common.{Puts, Refuses, Draft, Stopped, Memory, Unformed, front_next, front_split}
use Rattle.wasm_writing.specs.declared.draft.Stop.{Stop}
use Rattle.wasm_writing.specs.Aside.{SpelledAside, SpelledBy}
use Rattle.wasm_writing.proofs.Pieces.{puts_if, puts_none}
use Rattle.wasm_writing.proofs.Lists.{puts_both, puts_same}

-- ---- runs

runs-append : (l a : ℕ) (xs ys : List Run) (rest : Fields)
    → runs l a (xs ++ ys) rest ≡ runs l a xs (runs (l + locals_of xs) (a + locals_of xs) ys rest)
runs-append l a [] ys rest =
    let same : (n : ℕ) → n ≡ n + 0 = λ n. omega arith in
    ap (λ n. runs n a ys rest) (same l) ∙ ap (λ n. runs (l + 0) n ys rest) (same a)
runs-append l a (x ∷ xs) ys rest =
    let more : (n : ℕ) → n + x.count + locals_of xs ≡ n + (x.count + locals_of xs) = λ n. omega arith in
    let next = runs-append (l + x.count) (a + x.count) xs ys rest
    ∙ ap (λ n. runs (l + x.count) (a + x.count) xs (runs n (a + x.count + locals_of xs) ys rest)) (more l)
    ∙ ap (λ n. runs (l + x.count) (a + x.count) xs (runs (l + (x.count + locals_of xs)) n ys rest)) (more a) in
    ap (λ (f : Fields). number x.count
    (provided (nat_le (l + x.count) most_locals) (provided (nat_le (a + x.count) most_all_locals) (value_type x.ty f)))) next

locals_of-append : (xs ys : List Run) → locals_of (xs ++ ys) ≡ locals_of xs + locals_of ys
locals_of-append [] ys = omega arith
locals_of-append (x ∷ xs) ys = omega (arith, locals_of-append xs ys)

pub locals_more : (xs : List Run) (i : ℕ) (x : Run) → i < length xs → x ≡ get_or xs i x
    → locals_of (take (i + 1) xs) ≡ locals_of (take i xs) + x.count
locals_more xs i x less is = ap locals_of (front_next xs i x less is) ∙ locals_of-append (take i xs) (x ∷ []) ∙ omega arith

-- one run, where so many locals stand before it
abbrev run_fields : (l a : ℕ) → Run → Fields → Fields
run_fields l a x rest =
    number x.count (provided (nat_le (l + x.count) most_locals) (provided (nat_le (a + x.count) most_all_locals) (value_type x.ty rest)))

pub runs_more : (before locals : ℕ) (xs : List Run) (i : ℕ) (x : Run) (a b c d : Draft) → i < length xs → x ≡ get_or xs i x
    → locals ≡ locals_of (take i xs) → locals + x.count ≤ most_locals → before + locals + x.count ≤ most_all_locals
    → Puts (runs 0 before (take i xs)) a b → Puts (number x.count) b c → Puts (value_type x.ty) c d
    → Puts (runs 0 before (take (i + 1) xs)) a d
runs_more before locals xs i x a b c d less is sum low all p q r =
    let n = 0 + locals_of (take i xs) in
    let m = before + locals_of (take i xs) in
    let one : Puts (run_fields n m x) b d =
    puts_both (number x.count) (λ rest. provided (nat_le (n + x.count) most_locals)
    (provided (nat_le (m + x.count) most_all_locals) (value_type x.ty rest))) b c d q
    (puts_if (nat_le (n + x.count) most_locals) (λ rest. provided (nat_le (m + x.count) most_all_locals) (value_type x.ty rest)) c d
    (le-leb (n + x.count) most_locals (omega (arith, low, sum)))
    (puts_if (nat_le (m + x.count) most_all_locals) (value_type x.ty) c d
    (le-leb (m + x.count) most_all_locals (omega (arith, all, sum))) r)) in
    puts_same (λ rest. runs 0 before (take i xs) (run_fields n m x rest)) (runs 0 before (take (i + 1) xs)) a d
    (λ rest. sym (ap (λ (l : List Run). runs 0 before l rest) (front_next xs i x less is) ∙ runs-append 0 before (take i xs) (x ∷ []) rest))
    (puts_both (runs 0 before (take i xs)) (run_fields n m x) a b d p one)

too_many : (n m : ℕ) (x : Run) (f : Fields) → (n + x.count ≤ most_locals → m + x.count ≤ most_all_locals → ⊥) → (bytes : List ℕ)
    → SpelledAside (provided (nat_le (n + x.count) most_locals) (provided (nat_le (m + x.count) most_all_locals) f)) bytes → ⊥
unfolding SpelledBy
too_many n m x f none bytes s = none (leb-true (n + x.count) most_locals s.0) (leb-true (m + x.count) most_all_locals s.1.0)

pub runs_refused : (before locals : ℕ) (xs : List Run) (i : ℕ) (x : Run) (a b c d : Draft) → i < length xs → x ≡ get_or xs i x
    → locals ≡ locals_of (take i xs) → (locals + x.count ≤ most_locals → before + locals + x.count ≤ most_all_locals → ⊥)
    → Puts (runs 0 before (take i xs)) a b → Puts (number x.count) b c → Refuses c d → Puts (runs 0 before xs) a d
runs_refused before locals xs i x a b c d less is sum none p q r =
    let n = 0 + locals_of (take i xs) in
    let m = before + locals_of (take i xs) in
    let back = drop (i + 1) xs in
    let inner : Fields → Fields = λ rest. value_type x.ty (runs (n + x.count) (m + x.count) back rest) in
    let tests : Fields → Fields =
    λ rest. provided (nat_le (n + x.count) most_locals) (provided (nat_le (m + x.count) most_all_locals) (inner rest)) in
    let stops : Puts tests c d =
    puts_none tests c d (λ rest bytes _ s. too_many n m x (inner rest)
    (λ l h. none (omega (arith, l, sum)) (omega (arith, h, sum))) bytes s) r in
    puts_same (λ rest. runs 0 before (take i xs) (number x.count (tests rest))) (runs 0 before xs) a d
    (λ rest. sym (ap (λ (l : List Run). runs 0 before l rest) (front_split xs i x less is)
    ∙ runs-append 0 before (take i xs) (x ∷ back) rest))
    (puts_both (runs 0 before (take i xs)) (λ rest. number x.count (tests rest)) a b d p (puts_both (number x.count) tests b c d q stops))

-- ---- bodies

abbrev pub all_of : List BodyEntry → ℕ
all_of [] = 0
all_of (b ∷ bs) = locals_of b.runs + all_of bs

bodies-append : (a : ℕ) (xs ys : List BodyEntry) (rest : Fields) → bodies a (xs ++ ys) rest ≡ bodies a xs (bodies (a + all_of xs) ys rest)
bodies-append a [] ys rest = let same : a ≡ a + 0 = omega arith in ap (λ n. bodies n ys rest) same
bodies-append a (x ∷ xs) ys rest =
    let more : a + locals_of x.runs + all_of xs ≡ a + (locals_of x.runs + all_of xs) = omega arith in
    ap (λ (f : Fields). window (body_content a x finished) f)
    (bodies-append (a + locals_of x.runs) xs ys rest ∙ ap (λ n. bodies (a + locals_of x.runs) xs (bodies n ys rest)) more)

all_of-append : (xs ys : List BodyEntry) → all_of (xs ++ ys) ≡ all_of xs + all_of ys
all_of-append [] ys = omega arith
all_of-append (x ∷ xs) ys = omega (arith, all_of-append xs ys)

pub all_more : (xs : List BodyEntry) (i : ℕ) (x : BodyEntry) → i < length xs → x ≡ get_or xs i x
    → all_of (take (i + 1) xs) ≡ all_of (take i xs) + locals_of x.runs
all_more xs i x less is = ap all_of (front_next xs i x less is) ∙ all_of-append (take i xs) (x ∷ []) ∙ omega arith

pub bodies_more : (all : ℕ) (xs : List BodyEntry) (i : ℕ) (x : BodyEntry) (a b c : Draft) → i < length xs → x ≡ get_or xs i x
    → all ≡ all_of (take i xs)
    → Puts (bodies 0 (take i xs)) a b → Puts (window (body_content all x finished)) b c → Puts (bodies 0 (take (i + 1) xs)) a c
bodies_more all xs i x a b c less is sum p q =
    let from : all ≡ 0 + all_of (take i xs) = omega (arith, sum) in
    let one = subst (λ n. Puts (window (body_content n x finished)) b c) from q in
    puts_same (λ rest. bodies 0 (take i xs) (window (body_content (0 + all_of (take i xs)) x finished) rest))
    (bodies 0 (take (i + 1) xs)) a c
    (λ rest. sym (ap (λ (l : List BodyEntry). bodies 0 l rest) (front_next xs i x less is) ∙ bodies-append 0 (take i xs) (x ∷ []) rest))
    (puts_both (bodies 0 (take i xs)) (window (body_content (0 + all_of (take i xs)) x finished)) a b c p one)

-- what is put to a draft that has stopped
puts_more : (front back : Fields → Fields) (a b : Draft) → Puts front a b → HasStopped b → Puts (λ rest. front (back rest)) a b
puts_more front back a (Stopped stop) p h = (
  (λ file rest m. absurd m.completes),
  (λ written room rest k. any written room rest (back rest) stop (p.1 written room (back rest) k)),
  p.2,
)
  where
    any : (written : Bool) (room : ℕ) (f g : Fields) (stop : Stop) → Fits written room (Stopped stop) g → Fits written room (Stopped stop) f
    any written room f g Unformed h = absurd h.goes_on
    any written room f g Memory h = record { goes_on = h.goes_on }
puts_more front back a _ p h = absurd h

pub bodies_stopped : (all : ℕ) (xs : List BodyEntry) (i : ℕ) (x : BodyEntry) (a b c : Draft) → i < length xs → x ≡ get_or xs i x
    → all ≡ all_of (take i xs)
    → Puts (bodies 0 (take i xs)) a b → Puts (window (body_content all x finished)) b c → HasStopped c → Puts (bodies 0 xs) a c
bodies_stopped all xs i x a b c less is sum p q stop =
    let n = 0 + all_of (take i xs) in
    let from : all ≡ n = omega (arith, sum) in
    let one = subst (λ n. Puts (window (body_content n x finished)) b c) from q in
    let back = drop (i + 1) xs in
    puts_same (λ rest. bodies 0 (take i xs) (window (body_content n x finished) (bodies (n + locals_of x.runs) back rest)))
    (bodies 0 xs) a c
    (λ rest. sym (ap (λ (l : List BodyEntry). bodies 0 l rest) (front_split xs i x less is) ∙ bodies-append 0 (take i xs) (x ∷ back) rest))
    (puts_both (bodies 0 (take i xs)) (λ rest. window (body_content n x finished) (bodies (n + locals_of x.runs) back rest)) a b c p
    (puts_more (window (body_content n x finished)) (bodies (n + locals_of x.runs) back) b c one stop))
