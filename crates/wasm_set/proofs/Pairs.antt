-- Lists whose items go together one by one.
use Rattle.wasm_set.proofs.Common.{ℕ, zero, suc, List, [], ◌∷◌, ◌++◌, slice_get, Some, None, Option, ⊤}

abbrev pub Together : {A B : Type 0} → (A → B → Type 0) → List A → List B → Type 0
Together R [] [] = ⊤
Together R (x ∷ xs) (y ∷ ys) = R x y × Together R xs ys
Together R [] (y ∷ ys) = ⊥
Together R (x ∷ xs) [] = ⊥

-- what is found of both, or of neither
abbrev pub Both : {A B : Type 0} → (A → B → Type 0) → Option A → Option B → Type 0
Both R None None = ⊤
Both R (Some x) (Some y) = R x y
Both R None (Some y) = ⊥
Both R (Some x) None = ⊥

pub together_append : {A B : Type 0} (R : A → B → Type 0) (xs xs' : List A) (ys ys' : List B)
    → Together R xs ys → Together R xs' ys' → Together R (xs ++ xs') (ys ++ ys')
together_append R [] xs' [] ys' h h' = h'
together_append R (x ∷ xs) xs' (y ∷ ys) ys' h h' = (h.0, together_append R xs xs' ys ys' h.1 h')
together_append R [] xs' (y ∷ ys) ys' h h' = absurd h
together_append R (x ∷ xs) xs' [] ys' h h' = absurd h

pub together_at : {A B : Type 0} (R : A → B → Type 0) (xs : List A) (ys : List B) → Together R xs ys → (i : ℕ)
    → Both R (slice_get xs i) (slice_get ys i)
together_at R [] [] h i = tt
together_at R (x ∷ xs) (y ∷ ys) h zero = h.0
together_at R (x ∷ xs) (y ∷ ys) h (suc i) = together_at R xs ys h.1 i
together_at R [] (y ∷ ys) h i = absurd h
together_at R (x ∷ xs) [] h i = absurd h
