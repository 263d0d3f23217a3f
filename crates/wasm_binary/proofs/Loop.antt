-- The loop over a vector's entries.
use Rattle.wasm_binary.proofs.Common.{◌≡◌, ℕ, suc, ◌+◌, ◌-◌, ◌<◌, ◌≤◌, List, [], ◌∷◌, ◌++◌, Ok, Err, Result, sym, refl, ap, ◌∙◌, subst}
use Rattle.wasm_binary.proofs.Common.{append_assoc, append-nil, arith, At, Reader, ◌>>=◌, ReadFault, Memory, Fails}
use Rattle.wasm_spelling.specs.Reading.{times_at}
use Rattle.wasm_spelling.proofs.Vectors.{with_front}

abbrev pub after_front : {A : Type 0} → List A → List A × At → Result (List A × At) ReadFault
after_front front xs = Ok (front ++ xs.0, xs.1)

-- what was read before, and what is still read
abbrev pub Ahead : {A : Type 0} → Reader A → ℕ → ℕ → List A → At → Result (List A × At) ReadFault → Type 0
Ahead read count done front a total = (times_at read (count - done) a >>= after_front front) ≡ total

nothing_before : {A : Type 0} (r : Result (List A × At) ReadFault) → (r >>= after_front []) ≡ r
nothing_before (Ok x) = refl
nothing_before (Err f) = refl

pub at_start : {A : Type 0} (read : Reader A) (count done : ℕ) (a : At) → done ≡ 0 → Ahead read count done [] a (times_at read count a)
at_start read count done a z =
    let whole : count - done ≡ count = omega (arith, z) in
    subst (λ n. (times_at read n a >>= after_front []) ≡ times_at read count a) (sym whole) (nothing_before (times_at read count a))

regroup : {A : Type 0} (front : List A) (x : A) (r : Result (List A × At) ReadFault)
    → ((r >>= with_front x) >>= after_front front) ≡ (r >>= after_front (front ++ x ∷ []))
regroup front x (Ok xs) = ap (λ l. Ok (l, xs.1)) (sym (append_assoc front (x ∷ []) xs.0))
regroup front x (Err f) = refl

step : {A : Type 0} (read : Reader A) (k : ℕ) (front : List A) (a : At) (x : A) (b : At) (total : Result (List A × At) ReadFault)
    → read a ≡ Ok (x, b) → (times_at read (suc k) a >>= after_front front) ≡ total
    → (times_at read k b >>= after_front (front ++ x ∷ [])) ≡ total
unfolding times_at
step {A} read k front a x b total e h =
    sym (regroup front x (times_at read k b))
    ∙ ap (λ (r : Result (A × At) ReadFault). (r >>= λ x. times_at read k x.1 >>= with_front x.0) >>= after_front front) (sym e) ∙ h

pub goes_on : {A : Type 0} (read : Reader A) (count done next : ℕ) (front : List A) (a : At) (x : A) (b : At)
    (total : Result (List A × At) ReadFault) → done < count → next ≡ done + 1 → read a ≡ Ok (x, b) → Ahead read count done front a total
    → Ahead read count next (front ++ x ∷ []) b total
goes_on read count done next front a x b total less is e h =
    let now : count - done ≡ suc (count - next) = omega (arith, less, is) in
    step read (count - next) front a x b total e (subst (λ n. (times_at read n a >>= after_front front) ≡ total) now h)

failed : {A : Type 0} (read : Reader A) (k : ℕ) (front : List A) (a : At) (f : ReadFault) (total : Result (List A × At) ReadFault)
    → read a ≡ Err f → (times_at read (suc k) a >>= after_front front) ≡ total → total ≡ Err f
unfolding times_at
failed {A} read k front a f total e h =
    sym h ∙ ap (λ (r : Result (A × At) ReadFault). (r >>= λ x. times_at read k x.1 >>= with_front x.0) >>= after_front front) e

pub stops : {A : Type 0} (read : Reader A) (count done : ℕ) (front : List A) (a : At) (f : ReadFault)
    (total : Result (List A × At) ReadFault) → done < count → Fails f (read a) → Ahead read count done front a total → Fails f total
stops read count done front a Memory total less e h = tt
stops read count done front a _ total less e h =
    failed read (count - done - 1) front a _ total e
    (subst (λ n. (times_at read n a >>= after_front front) ≡ total) (omega (arith, less)) h)

pub is_done : {A : Type 0} (read : Reader A) (count done : ℕ) (front : List A) (a : At) (total : Result (List A × At) ReadFault)
    → count ≤ done → Ahead read count done front a total → total ≡ Ok (front, a)
unfolding times_at
is_done {A} read count done front a total le h =
    let none : count - done ≡ 0 = omega (arith, le) in
    sym (subst (λ n. (times_at read n a >>= after_front front) ≡ total) none h) ∙ ap (λ (l : List A). Ok (l, a)) (append-nil front)
