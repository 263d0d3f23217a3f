-- What a name stands for in a unit: the first function with a body that has it.
use Rattle.unit_definition.proofs.Common.{◌≡◌, ℕ, zero, suc, ◌+◌, ◌<◌, Bool, true, false, not, ◌&&◌, ◌⊎◌, List, [], ◌∷◌, ◌++◌, map, length}
use Rattle.unit_definition.proofs.Common.{if◌then◌else◌, slice_get, Some, None, filter, Option, option_map, find, zip, filter_map, bytes_eq}
use Rattle.unit_definition.proofs.Common.{sym, refl, ap, ◌∙◌, subst, inl, inr, arith, AllByRecursion, cons_option, position_from}
use Rattle.unit_definition.proofs.Common.{range_with_len, option_or, ⊤, Name, Definition, definition_of}
use Rattle.c_tree.specs.Tree as tree

abbrev pub Test : Type 0
Test = tree.Func → Bool

-- the definitions of items from a number on, and the first that passes
abbrev pub from_number : ℕ → List tree.Item → List Definition
from_number k items = filter_map definition_of (zip (range_with_len k (length items)) items)

abbrev first_of_test : Test → List Definition → Option Definition
first_of_test t ds = slice_get (filter (λ (d : Definition). t d.func) ds) 0

abbrev pub named_by : Name → Test
named_by name f = bytes_eq f.name name

abbrev pub external_by : Name → Test
external_by name f = not f.is_static && bytes_eq f.name name

-- an item that defines nothing that passes
abbrev pub Misses : Test → tree.Item → Type 0
Misses t (tree.Array name count bytes) = ⊤
Misses t (tree.Var ty name number) = ⊤
Misses t (tree.Function f) = (f.body ≡ None) ⊎ (t f ≡ false)

missed : (t : Test) (k : ℕ) (item : tree.Item) (ds : List Definition) → Misses t item
    → first_of_test t (cons_option (definition_of (k, item)) ds) ≡ first_of_test t ds
missed t k (tree.Function f) ds h = go f.body h
  where
    go : (o : Option tree.Body) → (o ≡ None) ⊎ (t f ≡ false)
        → first_of_test t (cons_option (option_map (λ body. record { item = k; func = f; body = body }) o) ds) ≡ first_of_test t ds
    go None h = refl
    go (Some body) (inl e) = absurd (cc)
    go (Some body) (inr e) = rw e refl
missed t k _ ds h = refl

-- the items define the function, and it is the first that passes
abbrev pub Finds : Test → tree.Func → tree.Body → List tree.Item → Type 0
Finds t f body items = (k : ℕ) → (item : ℕ) × (first_of_test t (from_number k items) ≡ Some (record { item = item; func = f; body = body }))

abbrev pub FindsNone : Test → List tree.Item → Type 0
FindsNone t items = (k : ℕ) → first_of_test t (from_number k items) ≡ None

pub skip : (t : Test) (f : tree.Func) (body : tree.Body) (xs ys : List tree.Item) → AllByRecursion (Misses t) xs → Finds t f body ys
    → Finds t f body (xs ++ ys)
skip t f body [] ys h found k = found k
skip t f body (x ∷ xs) ys h found k =
    let behind = skip t f body xs ys h.1 found (k + 1) in
    (behind.0, missed t k x (from_number (k + 1) (xs ++ ys)) h.0 ∙ behind.1)

pub skip_none : (t : Test) (xs ys : List tree.Item) → AllByRecursion (Misses t) xs → FindsNone t ys → FindsNone t (xs ++ ys)
skip_none t [] ys h none k = none k
skip_none t (x ∷ xs) ys h none k = missed t k x (from_number (k + 1) (xs ++ ys)) h.0 ∙ skip_none t xs ys h.1 none (k + 1)

pub here : (t : Test) (f : tree.Func) (body : tree.Body) (ys : List tree.Item) → f.body ≡ Some body → t f ≡ true
    → Finds t f body (tree.Function f ∷ ys)
here t f body ys is passes k = (k, go f.body is)
  where
    go : (o : Option tree.Body) → o ≡ Some body → first_of_test t
        (cons_option (option_map (λ body. record { item = k; func = f; body = body }) o) (from_number (k + 1) ys))
        ≡ Some (record { item = k; func = f; body = body })
    go None e = absurd (cc)
    go (Some b) e = let same : b ≡ body = cc in rw passes (ap (λ b. Some (record { item = k; func = f; body = b })) same)

-- among functions, and items behind them
pub found_among : {A : Type 0} (t : Test) (g : A → tree.Func) (xs : List A) (ys : List tree.Item) (a : A) (body : tree.Body)
    → (g a).body ≡ Some body → find (λ a. t (g a)) xs ≡ Some a → Finds t (g a) body (map (λ a. tree.Function (g a)) xs ++ ys)
found_among t g [] ys a body is found = absurd (cc)
found_among {A} t g (x ∷ xs) ys a body is found = go (t (g x)) refl found (found_among t g xs ys a body is)
  where
    go : (b : Bool) → t (g x) ≡ b → (if b then Some x else find (λ a. t (g a)) xs) ≡ Some a
        → (find (λ a. t (g a)) xs ≡ Some a → Finds t (g a) body (map (λ a. tree.Function (g a)) xs ++ ys))
        → Finds t (g a) body (tree.Function (g x) ∷ (map (λ a. tree.Function (g a)) xs ++ ys))
    go true e found others =
        let same : x ≡ a = cc in
        subst (λ (y : A). Finds t (g a) body (tree.Function (g y) ∷ (map (λ a. tree.Function (g a)) xs ++ ys))) (sym same)
        (here t (g a) body (map (λ a. tree.Function (g a)) xs ++ ys) is (ap (λ (y : A). t (g y)) (sym same) ∙ e))
    go false e found others = skip t (g a) body (tree.Function (g x) ∷ []) (map (λ a. tree.Function (g a)) xs ++ ys) (inr e, tt)
        (others found)

pub none_among : {A : Type 0} (t : Test) (g : A → tree.Func) (xs : List A) → find (λ a. t (g a)) xs ≡ None
    → AllByRecursion (Misses t) (map (λ a. tree.Function (g a)) xs)
none_among t g [] none = tt
none_among t g (x ∷ xs) none = go (t (g x)) refl none (none_among t g xs)
  where
    go : (b : Bool) → t (g x) ≡ b → (if b then Some x else find (λ a. t (g a)) xs) ≡ None
        → (find (λ a. t (g a)) xs ≡ None → AllByRecursion (Misses t) (map (λ a. tree.Function (g a)) xs))
        → AllByRecursion (Misses t) (tree.Function (g x) ∷ map (λ a. tree.Function (g a)) xs)
    go true e none others = absurd (cc)
    go false e none others = (inr e, others none)

-- ---- lists

pub find_map : {A B : Type 0} (p : B → Bool) (f : A → B) (xs : List A) → find p (map f xs) ≡ option_map f (find (λ a. p (f a)) xs)
find_map p f [] = refl
find_map {A} {B} p f (x ∷ xs) = go (p (f x)) (find_map p f xs)
  where
    go : (b : Bool) → find p (map f xs) ≡ option_map f (find (λ a. p (f a)) xs)
        → (if b then Some (f x) else find p (map f xs)) ≡ option_map f (if b then Some x else find (λ a. p (f a)) xs)
    go true others = refl
    go false others = others

pub find_join : {A : Type 0} (p : A → Bool) (xs ys : List A) → find p (xs ++ ys) ≡ option_or (find p xs) (find p ys)
find_join p [] ys = refl
find_join {A} p (x ∷ xs) ys = go (p x) (find_join p xs ys)
  where
    go : (b : Bool) → find p (xs ++ ys) ≡ option_or (find p xs) (find p ys)
        → (if b then Some x else find p (xs ++ ys)) ≡ option_or (if b then Some x else find p xs) (find p ys)
    go true others = refl
    go false others = others

pub find_none : {A : Type 0} (p : A → Bool) (xs : List A) → ((i : ℕ) (a : A) → slice_get xs i ≡ Some a → p a ≡ false) → find p xs ≡ None
find_none p [] h = refl
find_none p (x ∷ xs) h = let first : p x ≡ false = h 0 x refl in rw first (find_none p xs (λ i a. h (suc i) a))

-- the first that passes is at a place, and those before it do not
pub record FirstAt {A : Type 0} (p : A → Bool) (xs : List A) (a : A) : Type 0 where
  pub place : ℕ
  pub is : slice_get xs place ≡ Some a
  pub passes : p a ≡ true
  pub before : (i : ℕ) (b : A) → i < place → slice_get xs i ≡ Some b → p b ≡ false

-- behind one that does not pass
pub none_before : {A : Type 0} (p : A → Bool) (x : A) (xs : List A) → p x ≡ false → (place : ℕ)
    → ((i : ℕ) (b : A) → i < place → slice_get xs i ≡ Some b → p b ≡ false)
    → (i : ℕ) (b : A) → i < suc place → slice_get (x ∷ xs) i ≡ Some b → p b ≡ false
none_before p x xs e place before zero b less is = let same : x ≡ b = cc in ap p (sym same) ∙ e
none_before p x xs e place before (suc i) b less is = before i b (omega (arith, less)) is

pub found_first : {A : Type 0} (p : A → Bool) (xs : List A) (a : A) → find p xs ≡ Some a → FirstAt p xs a
found_first p [] a found = absurd (cc)
found_first {A} p (x ∷ xs) a found = go (p x) refl found (found_first p xs a)
  where
    go : (b : Bool) → p x ≡ b → (if b then Some x else find p xs) ≡ Some a → (find p xs ≡ Some a → FirstAt p xs a) → FirstAt p (x ∷ xs) a
    go true e found others = let same : x ≡ a = cc in record
        { place = 0; is = found; passes = ap p (sym same) ∙ e; before = λ i b less is. absurd (omega (arith, less)) }
    go false e found others = behind (others found)
      where
        behind : FirstAt p xs a → FirstAt p (x ∷ xs) a
        behind h = record { place = suc h.place; is = h.is; passes = h.passes; before = none_before p x xs e h.place h.before }

pub find_at : {A : Type 0} (p : A → Bool) (xs : List A) (place : ℕ) (a : A) → slice_get xs place ≡ Some a → p a ≡ true
    → ((i : ℕ) (b : A) → i < place → slice_get xs i ≡ Some b → p b ≡ false) → find p xs ≡ Some a
find_at p [] place a is passes before = absurd (cc)
find_at p (x ∷ xs) zero a is passes before = let same : x ≡ a = cc in let e : p x ≡ true = ap p same ∙ passes in rw e is
find_at p (x ∷ xs) (suc place) a is passes before =
    let e : p x ≡ false = before 0 x (omega arith) refl in
    rw e (find_at p xs place a is passes (λ i b less. before (suc i) b (omega (arith, less))))

pub position_at : {A : Type 0} (p : A → Bool) (k : ℕ) (xs : List A) (place : ℕ) (a : A) → slice_get xs place ≡ Some a → p a ≡ true
    → ((i : ℕ) (b : A) → i < place → slice_get xs i ≡ Some b → p b ≡ false) → position_from p k xs ≡ Some (k + place)
position_at p k [] place a is passes before = absurd (cc)
position_at p k (x ∷ xs) zero a is passes before =
    let same : x ≡ a = cc in let e : p x ≡ true = ap p same ∙ passes in
    let at : k ≡ k + 0 = omega arith in
    rw e (ap Some at)
position_at p k (x ∷ xs) (suc place) a is passes before =
    let e : p x ≡ false = before 0 x (omega arith) refl in
    let at : k + 1 + place ≡ k + suc place = omega arith in
    rw e (position_at p (k + 1) xs place a is passes (λ i b less. before (suc i) b (omega (arith, less))) ∙ ap Some at)

pub position_none : {A : Type 0} (p : A → Bool) (k : ℕ) (xs : List A) → ((i : ℕ) (b : A) → slice_get xs i ≡ Some b → p b ≡ false)
    → position_from p k xs ≡ None
position_none p k [] h = refl
position_none p k (x ∷ xs) h = let e : p x ≡ false = h 0 x refl in rw e (position_none p (k + 1) xs (λ i b. h (suc i) b))
