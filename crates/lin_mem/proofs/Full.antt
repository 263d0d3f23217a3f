-- Places that each hold a value, and those that are filled or emptied one after the other.
use Rattle.lin_mem.proofs.Common.{◌≡◌, ℕ, zero, suc, ◌+◌, ◌<◌, ◌≤◌, List, [], ◌∷◌, ◌++◌, map, length, get_or, take, drop, set, replicate}
use Rattle.lin_mem.proofs.Common.{Some, None, All, Option, sym, refl, ap, ◌∙◌, append_assoc, arith, take_all, All-cons, All-nil, with_bytes}
use Rattle.lin_mem.proofs.Common.{IsFull, somes}

module _ {X : Type 0} where
  abbrev held : List X → List (Option X)
  held xs = map Some xs

  pub somes-map : (xs : List X) → somes (map Some xs) ≡ xs
  somes-map [] = refl
  somes-map (x ∷ xs) = ap (λ l. x ∷ l) (somes-map xs)

  length-held : (xs : List X) → length (held xs) ≡ length xs
  length-held [] = refl
  length-held (x ∷ xs) = let h = length-held xs in omega (arith, h)

  take-held : (n : ℕ) (xs : List X) → take n (held xs) ≡ held (take n xs)
  take-held zero xs = refl
  take-held (suc n) [] = refl
  take-held (suc n) (x ∷ xs) = ap (λ l. Some x ∷ l) (take-held n xs)

  drop-held : (n : ℕ) (xs : List X) → drop n (held xs) ≡ held (drop n xs)
  drop-held zero xs = refl
  drop-held (suc n) [] = refl
  drop-held (suc n) (x ∷ xs) = drop-held n xs

  held-append : (xs ys : List X) → held (xs ++ ys) ≡ held xs ++ held ys
  held-append [] ys = refl
  held-append (x ∷ xs) ys = ap (λ l. Some x ∷ l) (held-append xs ys)

  pub length-full : (cs : List (Option X)) (n : ℕ) → IsFull cs n → length (somes cs) ≡ n
  length-full cs n full = sym (length-held (somes cs)) ∙ ap length (sym full.1) ∙ full.0

  pub full-from_held : (cs : List (Option X)) (xs : List X) (n : ℕ) → cs ≡ map Some xs → length xs ≡ n → IsFull cs n × (somes cs ≡ xs)
  full-from_held cs xs n e l =
      let s : somes cs ≡ xs = ap somes e ∙ somes-map xs in
      ((ap length e ∙ length-held xs ∙ l, e ∙ ap held (sym s)), s)

  -- a part of full places
  pub part-full : (cs : List (Option X)) (at k : ℕ) → cs ≡ map Some (somes cs)
      → take k (drop at cs) ≡ map Some (take k (drop at (somes cs)))
  part-full cs at k e = ap (λ l. take k (drop at l)) e ∙ ap (take k) (drop-held at (somes cs)) ∙ take-held k (drop at (somes cs))

  pub whole-full : (cs : List (Option X)) (n : ℕ) → IsFull cs n → take n cs ≡ map Some (somes cs)
  whole-full cs n full = take_all n cs (omega (arith, full.0)) ∙ full.1

  -- ---- one place after the other

  pub get_or-begun : (a : X) (xs : List X) (i : ℕ) (d : X) → i < length xs → get_or (replicate i a ++ drop i xs) i d ≡ get_or xs i d
  get_or-begun a [] i d lt = absurd (omega (arith, lt))
  get_or-begun a (x ∷ xs) zero d lt = refl
  get_or-begun a (x ∷ xs) (suc i) d lt = get_or-begun a xs i d (omega (arith, lt))

  set-begun : (a : X) (xs : List X) (i : ℕ) → i < length xs → set (replicate i a ++ drop i xs) i a ≡ replicate (suc i) a ++ drop (suc i) xs
  set-begun a [] i lt = absurd (omega (arith, lt))
  set-begun a (x ∷ xs) zero lt = refl
  set-begun a (x ∷ xs) (suc i) lt = ap (λ l. a ∷ l) (set-begun a xs i (omega (arith, lt)))

  pub begun-more : (a : X) (xs cs ds : List X) (i : ℕ) → i < length xs → cs ≡ replicate i a ++ drop i xs → ds ≡ set cs i a
      → ds ≡ replicate (i + 1) a ++ drop (i + 1) xs
  begun-more a xs cs ds i lt e f =
      let n : suc i ≡ i + 1 = omega arith in
      f ∙ ap (λ l. set l i a) e ∙ set-begun a xs i lt ∙ ap (λ k. replicate k a ++ drop k xs) n

  pub begun-all : (a : X) (xs : List X) (n : ℕ) → length xs ≡ n → replicate n a ++ drop n xs ≡ replicate n a
  begun-all a [] zero e = refl
  begun-all a [] (suc n) e = absurd (omega (arith, e))
  begun-all a (x ∷ xs) zero e = absurd (omega (arith, e))
  begun-all a (x ∷ xs) (suc n) e = ap (λ l. a ∷ l) (begun-all a xs n (omega (arith, e)))

  pub length-same : (n : ℕ) (a : X) → length (replicate n a) ≡ n
  length-same zero a = refl
  length-same (suc n) a = let h = length-same n a in omega (arith, h)

  held-same : (n : ℕ) (a : X) → replicate n (Some a) ≡ held (replicate n a)
  held-same zero a = refl
  held-same (suc n) a = ap (λ l. Some a ∷ l) (held-same n a)

  pub full-same : (n : ℕ) (a : X) → IsFull (replicate n (Some a)) n × (somes (replicate n (Some a)) ≡ replicate n a)
  full-same n a = full-from_held (replicate n (Some a)) (replicate n a) n (held-same n a) (length-same n a)

  pub get_or-held : (xs : List X) (i : ℕ) → i < length xs → (x : X) × (get_or (held xs) i None ≡ Some x)
  get_or-held [] i lt = absurd (omega (arith, lt))
  get_or-held (x ∷ xs) zero lt = (x, refl)
  get_or-held (x ∷ xs) (suc i) lt = get_or-held xs i (omega (arith, lt))

-- bytes written among full places
pub put-full : (cs ds : List (Option ℕ)) (n at : ℕ) (bs : List ℕ) → IsFull cs n → ds ≡ take at cs ++ map Some bs ++ drop (at + length bs) cs
    → ds ≡ map Some (with_bytes (somes cs) at bs)
put-full cs ds n at bs full e =
    let xs = somes cs in let k = at + length bs in
    let front : take at cs ≡ held (take at xs) = ap (take at) full.1 ∙ take-held at xs in
    let back : drop k cs ≡ held (drop k xs) = ap (drop k) full.1 ∙ drop-held k xs in
    e
    ∙ ap (λ l. l ++ held bs ++ drop k cs) front
    ∙ ap (λ l. held (take at xs) ++ held bs ++ l) back
    ∙ append_assoc (held (take at xs)) (held bs) (held (drop k xs))
    ∙ ap (λ l. held (take at xs) ++ l) (sym (held-append bs (drop k xs)))
    ∙ sym (held-append (take at xs) (bs ++ drop k xs))

pub All-zeros : (n : ℕ) → All (λ (b : ℕ). b ≡ 0) (replicate n 0)
All-zeros zero = All-nil (λ (b : ℕ). b ≡ 0)
All-zeros (suc n) = All-cons (λ (b : ℕ). b ≡ 0) 0 (replicate n 0) refl (All-zeros n)
