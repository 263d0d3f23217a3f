-- Passes over items with their numbers.
use Rattle.c_init.proofs.Common.{◌≡◌, ℕ, zero, suc, ◌+◌, ◌<◌, ◌≤◌, List, [], ◌∷◌, ◌++◌, map, length, get_or, drop, zip, flat_map, sym, ap}
use Rattle.c_init.proofs.Common.{◌∙◌, append_assoc, append-nil, arith, map_push, range_with_len, numbered_past, numbered, at_front}
use Rattle.c_init.proofs.Common.{read_again}
use Rattle.c_init.specs.Portions.{numbered_from}

-- numbered items from one on
numbered_front : {A : Type 0} (k : ℕ) (xs : List A) (i : ℕ) (x : A) → i < length xs → x ≡ get_or xs i x
    → drop i (zip (range_with_len k (length xs)) xs) ≡ (k + i, x) ∷ drop (i + 1) (zip (range_with_len k (length xs)) xs)
numbered_front k [] i x lt is = absurd (omega arith)
numbered_front k (y ∷ xs) zero x lt is =
    let e : k ≡ k + 0 = omega arith in
    ap (λ z. (k, z) ∷ zip (range_with_len (k + 1) (length xs)) xs) (sym is)
    ∙ ap (λ n. (n, x) ∷ zip (range_with_len (k + 1) (length xs)) xs) e
numbered_front k (y ∷ xs) (suc i) x lt is =
    let e : (k + 1) + i ≡ k + suc i = omega arith in
    let next : suc (i + 1) ≡ suc i + 1 = omega arith in
    numbered_front (k + 1) xs i x (omega arith) is
    ∙ ap (λ n. (n, x) ∷ drop (suc (i + 1)) (zip (range_with_len k (length (y ∷ xs))) (y ∷ xs))) e
    ∙ ap (λ m. (k + suc i, x) ∷ drop m (zip (range_with_len k (length (y ∷ xs))) (y ∷ xs))) next

front : {A : Type 0} (xs items : List A) → items ≡ xs → (i : ℕ) (x : A) → i < length items → x ≡ get_or items i x
    → drop i (numbered xs) ≡ (i, x) ∷ drop (i + 1) (numbered xs)
front xs items same i x less read =
    let within : i < length xs = omega (arith, less, ap length same) in
    let start : 0 + i ≡ i = omega arith in
    numbered_front 0 xs i x within (read ∙ ap (λ ys. get_or ys i x) same) ∙ ap (λ n. (n, x) ∷ drop (i + 1) (numbered xs)) start

-- one more item
pub pushed : {A B : Type 0} (f : A → B) (before after : List A) (x : A) (y : B) → after ≡ before ++ x ∷ [] → f x ≡ y
    → map f after ≡ map f before ++ y ∷ []
pushed f before after x y grown is = ap (map f) grown ∙ map_push f before x ∙ ap (λ z. map f before ++ z ∷ []) is

-- one more item is made of what stands at an index
pub push_at : {A B V : Type 0} (xs items : List A) → items ≡ xs → (i : ℕ) (d : A) → i < length items
    → (g : V → B) (f : A → B) (made after : List V) (v : V) (whole : List B)
    → after ≡ made ++ v ∷ [] → g v ≡ f (get_or items i d) → map g made ++ map f (drop i xs) ≡ whole
    → map g after ++ map f (drop (i + 1) xs) ≡ whole
push_at xs items same i d less g f made after v whole grown is so_far =
    let within : i < length xs = omega (arith, less, ap length same) in
    let x = get_or items i d in
    let item : x ≡ get_or xs i x = read_again items i d ∙ ap (λ ys. get_or ys i x) same in
    let rest = map f (drop (i + 1) xs) in
    ap (λ ys. map g ys ++ rest) grown ∙ ap (λ ys. ys ++ rest) (map_push g made v) ∙ append_assoc (map g made) (g v ∷ []) rest
    ∙ ap (λ y. map g made ++ y ∷ rest) is
    ∙ ap (λ ys. map g made ++ map f ys) (sym (at_front xs i x within item)) ∙ so_far

-- several more are made of what stands at an index
pub put_at : {A B : Type 0} (xs items : List A) → items ≡ xs → (i : ℕ) (x : A) → i < length items → x ≡ get_or items i x
    → (f : A → List B) (before after whole : List B) → after ≡ before ++ f x → before ++ flat_map f (drop i xs) ≡ whole
    → after ++ flat_map f (drop (i + 1) xs) ≡ whole
put_at xs items same i x less read f before after whole grown so_far =
    let within : i < length xs = omega (arith, less, ap length same) in
    let item : x ≡ get_or xs i x = read ∙ ap (λ ys. get_or ys i x) same in
    let rest = flat_map f (drop (i + 1) xs) in
    ap (λ ys. ys ++ rest) grown ∙ append_assoc before (f x) rest
    ∙ ap (λ ys. before ++ flat_map f ys) (sym (at_front xs i x within item)) ∙ so_far

module _ {A B : Type 0} (xs items : List A) (same : items ≡ xs) (i : ℕ) where
  -- one more item is made
  pub push_numbered : {V : Type 0} (g : V → B) (f : ℕ × A → B) (made after : List V) (v : V) (whole : List B) (number : ℕ) (x : A)
      → i < length items → x ≡ get_or items i x
      → number ≡ i → after ≡ made ++ v ∷ [] → g v ≡ f (number, x) → map g made ++ map f (drop i (numbered xs)) ≡ whole
      → map g after ++ map f (drop (i + 1) (numbered xs)) ≡ whole
  push_numbered g f made after v whole number x less read at grown is so_far =
      let rest = map f (drop (i + 1) (numbered xs)) in
      ap (λ ys. map g ys ++ rest) grown ∙ ap (λ ys. ys ++ rest) (map_push g made v) ∙ append_assoc (map g made) (g v ∷ []) rest
      ∙ ap (λ y. map g made ++ y ∷ rest) (is ∙ ap (λ n. f (n, x)) at)
      ∙ ap (λ ys. map g made ++ map f ys) (sym (front xs items same i x less read)) ∙ so_far

  pub pushed_all : (f : ℕ × A → B) (made whole : List B) → length items ≤ i → made ++ map f (drop i (numbered xs)) ≡ whole → made ≡ whole
  pushed_all f made whole past so_far =
      let end : length xs ≤ i = omega (arith, past, ap length same) in
      sym (append-nil made) ∙ ap (λ ys. made ++ map f ys) (sym (numbered_past 0 xs i end)) ∙ so_far

  -- several more are made
  pub put_numbered : (f : ℕ × A → List B) (before after whole : List B) (number : ℕ) (x : A) → i < length items → x ≡ get_or items i x
      → number ≡ i → after ≡ before ++ f (number, x) → before ++ flat_map f (drop i (numbered xs)) ≡ whole
      → after ++ flat_map f (drop (i + 1) (numbered xs)) ≡ whole
  put_numbered f before after whole number x less read at grown so_far =
      let rest = flat_map f (drop (i + 1) (numbered xs)) in
      ap (λ ys. ys ++ rest) grown ∙ append_assoc before (f (number, x)) rest
      ∙ ap (λ n. before ++ (f (n, x) ++ rest)) at
      ∙ ap (λ ys. before ++ flat_map f ys) (sym (front xs items same i x less read)) ∙ so_far

  pub put_all : (f : ℕ × A → List B) (made whole : List B) → length items ≤ i → made ++ flat_map f (drop i (numbered xs)) ≡ whole
      → made ≡ whole
  put_all f made whole past so_far =
      let end : length xs ≤ i = omega (arith, past, ap length same) in
      sym (append-nil made) ∙ ap (λ ys. made ++ flat_map f ys) (sym (numbered_past 0 xs i end)) ∙ so_far

-- ---- items whose numbers begin with one

module _ {A B : Type 0} (k : ℕ) (xs : List A) (i : ℕ) where
  pub push_from : {V : Type 0} (g : V → B) (f : ℕ × A → B) (made after : List V) (v : V) (whole : List B) (number : ℕ) (x : A)
      → i < length xs → x ≡ get_or xs i x
      → number ≡ k + i → after ≡ made ++ v ∷ [] → g v ≡ f (number, x) → map g made ++ map f (drop i (numbered_from k xs)) ≡ whole
      → map g after ++ map f (drop (i + 1) (numbered_from k xs)) ≡ whole
  push_from g f made after v whole number x less read at grown is so_far =
      let rest = map f (drop (i + 1) (numbered_from k xs)) in
      ap (λ ys. map g ys ++ rest) grown ∙ ap (λ ys. ys ++ rest) (map_push g made v) ∙ append_assoc (map g made) (g v ∷ []) rest
      ∙ ap (λ y. map g made ++ y ∷ rest) (is ∙ ap (λ n. f (n, x)) at)
      ∙ ap (λ ys. map g made ++ map f ys) (sym (numbered_front k xs i x less read)) ∙ so_far

  pub pushed_from : (f : ℕ × A → B) (made whole : List B) → length xs ≤ i → made ++ map f (drop i (numbered_from k xs)) ≡ whole
      → made ≡ whole
  pushed_from f made whole past so_far =
      sym (append-nil made) ∙ ap (λ ys. made ++ map f ys) (sym (numbered_past k xs i past)) ∙ so_far

  pub put_from : (f : ℕ × A → List B) (before after whole : List B) (number : ℕ) (x : A) → i < length xs → x ≡ get_or xs i x
      → number ≡ k + i → after ≡ before ++ f (number, x) → before ++ flat_map f (drop i (numbered_from k xs)) ≡ whole
      → after ++ flat_map f (drop (i + 1) (numbered_from k xs)) ≡ whole
  put_from f before after whole number x less read at grown so_far =
      let rest = flat_map f (drop (i + 1) (numbered_from k xs)) in
      ap (λ ys. ys ++ rest) grown ∙ append_assoc before (f (number, x)) rest
      ∙ ap (λ n. before ++ (f (n, x) ++ rest)) at
      ∙ ap (λ ys. before ++ flat_map f ys) (sym (numbered_front k xs i x less read)) ∙ so_far

  pub put_all_from : (f : ℕ × A → List B) (made whole : List B) → length xs ≤ i
      → made ++ flat_map f (drop i (numbered_from k xs)) ≡ whole → made ≡ whole
  put_all_from f made whole past so_far =
      sym (append-nil made) ∙ ap (λ ys. made ++ flat_map f ys) (sym (numbered_past k xs i past)) ∙ so_far
