-- Steps of reading that did not fail.
use Rattle.wasm_spelling.proofs.Common.{◌≡◌, ℕ, Bool, true, false, cond, ◌⊎◌, List, [], ◌∷◌, Some, None, Ok, Err, Option, Result, ok_or}
use Rattle.wasm_spelling.proofs.Common.{find, refl, ap, ◌∙◌, subst, inl, inr, AllByRecursion, At, Reader, ◌>>=◌, ReadFault}
use Rattle.wasm_spelling.specs.Steps.{reads, checked}

pub bind_ok : {A B : Type 0} (r : Result A ReadFault) (f : A → Result B ReadFault) (y : B) → (r >>= f) ≡ Ok y
    → (x : A) × (r ≡ Ok x) × (f x ≡ Ok y)
bind_ok (Ok x) f y e = (x, refl, e)
bind_ok (Err d) f y e = absurd cc

pub bind_bind : {A B C : Type 0} (r : Result A ReadFault) (f : A → Result B ReadFault) (g : B → Result C ReadFault)
    → ((r >>= f) >>= g) ≡ (r >>= λ x. f x >>= g)
bind_bind (Ok x) f g = refl
bind_bind (Err e) f g = refl

abbrev pub yes : {A : Type 0} → A → Result A ReadFault
yes x = Ok x

abbrev pub bad : {A : Type 0} → ReadFault → Result A ReadFault
bad f = Err f

pub ok_is : {A : Type 0} (x y : A) → yes x ≡ yes y → x ≡ y
ok_is x y e = cc

pub not_ok : {A B : Type 0} (f : ReadFault) (x : A) → bad f ≡ yes x → B
not_ok f x e = absurd cc

-- which way a test went
pub chosen : {A : Type 0} (b : Bool) (x y z : A) → cond b x y ≡ z → ((b ≡ true) × (x ≡ z)) ⊎ ((b ≡ false) × (y ≡ z))
chosen true x y z e = inl (refl, e)
chosen false x y z e = inr (refl, e)

pub either_way : {A X : Type 0} (b : Bool) (x y : Result A ReadFault) (v : A) → cond b x y ≡ Ok v → (b ≡ true → x ≡ Ok v → X)
    → (b ≡ false → y ≡ Ok v → X) → X
either_way true x y v e h m = h refl e
either_way false x y v e h m = m refl e

-- ---- values that may be there

abbrev pub some : {A : Type 0} → A → Option A
some x = Some x

pub some_is : {A : Type 0} (x y : A) → some x ≡ some y → x ≡ y
some_is x y e = cc

pub none_some : {A X : Type 0} (x : A) → None ≡ some x → X
none_some x e = absurd cc

pub ok_or_is : {A : Type 0} (o : Option A) (fault : ReadFault) (x : A) → ok_or o fault ≡ Ok x → o ≡ Some x
ok_or_is None fault x e = not_ok fault x e
ok_or_is (Some y) fault x e = ap some (ok_is y x e)

first_or : {A : Type 0} (P : A → Type 0) (test : A → Bool) (y x : A) (more : Option A) (b : Bool) → test y ≡ b → P y
    → (more ≡ Some x → (test x ≡ true) × P x) → cond b (Some y) more ≡ Some x → (test x ≡ true) × P x
first_or {A} P test y x more true t p later e = subst (λ (z : A). (test z ≡ true) × P z) (some_is y x e) (t, p)
first_or P test y x more false t p later e = later e

-- what is found passes the test, and what is so of all is so of it
pub found : {A : Type 0} (P : A → Type 0) (test : A → Bool) (xs : List A) (x : A) → AllByRecursion P xs → find test xs ≡ Some x
    → (test x ≡ true) × P x
found P test [] x all e = none_some x e
found P test (y ∷ ys) x all e = first_or P test y x (find test ys) (test y) refl all.0 (found P test ys x all.1) e

all_there : {A : Type 0} (xs : List A) → AllByRecursion (λ (x : A). Unit {0}) xs
all_there [] = tt
all_there (x ∷ xs) = (tt, all_there xs)

pub found_passes : {A : Type 0} (test : A → Bool) (xs : List A) (x : A) → find test xs ≡ Some x → test x ≡ true
found_passes {A} test xs x e = (found (λ (y : A). Unit {0}) test xs x (all_there xs) e).0

-- ---- readings that did not fail

-- a reading of two parts gave a value
pub reads_ok : {A B : Type 0} (r : Reader A) (k : A → Reader B) (a : At) (y : B × At) → reads r k a ≡ Ok y
    → (x : A) × (b : At) × (r a ≡ Ok (x, b)) × (k x b ≡ Ok y)
unfolding reads
reads_ok {A} {B} r k a y e = let s = bind_ok (r a) (λ x. k x.0 x.1) y e in (s.0.0, s.0.1, s.1, s.2)

pub reads_again : {A B : Type 0} (r : Reader A) (k : A → Reader B) (a : At) (x : A) (b : At) (z : Result (B × At) ReadFault)
    → r a ≡ Ok (x, b) → k x b ≡ z → reads r k a ≡ z
unfolding reads
reads_again {A} {B} r k a x b z e f = ap (λ (y : Result (A × At) ReadFault). y >>= λ x. k x.0 x.1) e ∙ f

pub checked_ok : {A B : Type 0} (r : Reader A) (look : ℕ → A → Result B ReadFault) (a : At) (v : B) (b : At) → checked r look a ≡ Ok (v, b)
    → (x : A) × (r a ≡ Ok (x, b)) × (look a.place x ≡ Ok v)
unfolding checked
checked_ok {A} {B} r look a v b e =
    let s = bind_ok (r a) (λ x. look a.place x.0 >>= λ v. Ok (v, x.1)) (v, b) e in
    let t = bind_ok (look a.place s.0.0) (λ v. Ok (v, s.0.1)) (v, b) s.2 in
    let same : (t.0, s.0.1) ≡ (v, b) = ok_is (t.0, s.0.1) (v, b) t.2 in
    (s.0.0, s.1 ∙ ap (λ (c : B × At). Ok (s.0.0, c.1)) same, t.1 ∙ ap (λ (c : B × At). Ok c.0) same)

pub checked_again : {A B : Type 0} (r : Reader A) (look : ℕ → A → Result B ReadFault) (a : At) (x : A) (v : B) (b : At) → r a ≡ Ok (x, b)
    → look a.place x ≡ Ok v → checked r look a ≡ Ok (v, b)
unfolding checked
checked_again {A} {B} r look a x v b e f =
    ap (λ (y : Result (A × At) ReadFault). y >>= λ x. look a.place x.0 >>= λ v. Ok (v, x.1)) e
    ∙ ap (λ (y : Result B ReadFault). y >>= λ v. Ok (v, b)) f
