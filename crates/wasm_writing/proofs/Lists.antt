-- Lists of entries are put one after the other.
use Rattle.wasm_writing.proofs.Common.{◌≡◌, ℕ, ◌+◌, ◌<◌, List, [], ◌∷◌, ◌++◌, length, get_or, take, sym, refl, ap, ◌∙◌, subst, take_more}
use Rattle.wasm_writing.proofs.Common.{Fields, each, Fits, Makes, Puts, Draft}

-- fields, and then others
pub puts_both : (front back : Fields → Fields) (a b c : Draft) → Puts front a b → Puts back b c → Puts (λ rest. front (back rest)) a c
puts_both front back a b c p q = (
  (λ file rest h. p.0 file (back rest) (q.0 file rest h)),
  (λ written room rest h. q.1 written room rest (p.1 written room (back rest) h)),
  (λ s. q.2 (p.2 s)),
)

pub each-append : {A : Type 0} (fields : A → Fields → Fields) (xs ys : List A) (rest : Fields)
    → each fields (xs ++ ys) rest ≡ each fields xs (each fields ys rest)
each-append fields [] ys rest = refl
each-append fields (x ∷ xs) ys rest = ap (fields x) (each-append fields xs ys rest)

-- the same fields, whatever follows
pub puts_same : (front back : Fields → Fields) (a b : Draft) → ((rest : Fields) → front rest ≡ back rest) → Puts front a b → Puts back a b
puts_same front back a b same p = (
  (λ file rest h. subst (λ f. Makes file a f) (same rest) (p.0 file rest h)),
  (λ written room rest h. p.1 written room rest (subst (λ f. Fits written room a f) (sym (same rest)) h)),
  p.2,
)

pub each_more : {A : Type 0} (fields : A → Fields → Fields) (xs : List A) (i : ℕ) (x : A) (a b c : Draft) → i < length xs
    → x ≡ get_or xs i x → Puts (each fields (take i xs)) a b → Puts (fields x) b c → Puts (each fields (take (i + 1) xs)) a c
each_more {A} fields xs i x a b c less is p q =
    let grown : take (i + 1) xs ≡ take i xs ++ x ∷ [] = take_more xs i x less ∙ ap (λ (y : A). take i xs ++ y ∷ []) (sym is) in
    puts_same (λ rest. each fields (take i xs) (fields x rest)) (each fields (take (i + 1) xs)) a c
    (λ rest. sym (ap (λ l. each fields l rest) grown ∙ each-append fields (take i xs) (x ∷ []) rest))
    (puts_both (each fields (take i xs)) (fields x) a b c p q)
