-- Pages of one size, joined to one list of bytes.
use Rattle.lin_mem.proofs.Common.{◌≡◌, ℕ, zero, suc, ◌+◌, ◌*◌, ◌<◌, ◌≤◌, List, [], ◌∷◌, ◌++◌, length, get_or, take, drop, set, replicate}
use Rattle.lin_mem.proofs.Common.{All, sym, refl, ap, ◌∙◌, append_assoc, arith, length-append, length-drop, length-take-le, drop-drop}
use Rattle.lin_mem.proofs.Common.{take-add, drop-append-add, take-append-add, take-append_seam, All-head, All-tail, concat, with_bytes}
use Rattle.std.proofs.lemmas.List.{drop-append-le, take-append-le}

pub concat-append : (ps qs : List (List ℕ)) → concat (ps ++ qs) ≡ concat ps ++ concat qs
concat-append [] qs = refl
concat-append (p ∷ ps) qs = ap (λ bs. p ++ bs) (concat-append ps qs) ∙ sym (append_assoc p (concat ps) (concat qs))

-- ---- a part of a joined list

pub slice-front : (xs ys : List ℕ) (j n : ℕ) → j + n ≤ length xs → take n (drop j (xs ++ ys)) ≡ take n (drop j xs)
slice-front xs ys j n le =
    ap (take n) (drop-append-le j xs ys (omega (arith, le))) ∙ take-append-le n (drop j xs) ys (omega (arith, le, length-drop j xs))

pub slice-back : (xs ys : List ℕ) (k n : ℕ) → take n (drop (length xs + k) (xs ++ ys)) ≡ take n (drop k ys)
slice-back xs ys k n = ap (take n) (drop-append-add xs ys k)

pub slice-split : (xs : List ℕ) (k a b : ℕ) → take (a + b) (drop k xs) ≡ take a (drop k xs) ++ take b (drop (k + a) xs)
slice-split xs k a b = take-add a b (drop k xs) ∙ ap (λ ys. take a (drop k xs) ++ take b ys) (drop-drop a k xs)

-- ---- bytes in place of others

pub length-with_bytes : (xs : List ℕ) (k : ℕ) (bs : List ℕ) → k + length bs ≤ length xs → length (with_bytes xs k bs) ≡ length xs
length-with_bytes xs k bs le = simp (length-append, length-take-le k xs (omega (arith, le)), length-drop) (omega (arith, le))

pub with_bytes-front : (xs ys : List ℕ) (j : ℕ) (bs : List ℕ) → j + length bs ≤ length xs
    → with_bytes xs j bs ++ ys ≡ with_bytes (xs ++ ys) j bs
with_bytes-front xs ys j bs le =
    append_assoc (take j xs) (bs ++ drop (j + length bs) xs) ys
    ∙ ap (λ zs. take j xs ++ zs) (append_assoc bs (drop (j + length bs) xs) ys)
    ∙ ap (λ zs. take j xs ++ (bs ++ zs)) (sym (drop-append-le (j + length bs) xs ys le))
    ∙ ap (λ zs. zs ++ (bs ++ drop (j + length bs) (xs ++ ys))) (sym (take-append-le j xs ys (omega (arith, le))))

pub with_bytes-back : (xs ys : List ℕ) (k : ℕ) (bs : List ℕ) → xs ++ with_bytes ys k bs ≡ with_bytes (xs ++ ys) (length xs + k) bs
with_bytes-back xs ys k bs =
    let n = length bs in
    let e : length xs + k + n ≡ length xs + (k + n) = omega arith in
    sym (append_assoc xs (take k ys) (bs ++ drop (k + n) ys))
    ∙ ap (λ zs. zs ++ (bs ++ drop (k + n) ys)) (sym (take-append-add xs ys k))
    ∙ ap (λ zs. take (length xs + k) (xs ++ ys) ++ (bs ++ zs)) (sym (drop-append-add xs ys (k + n)))
    ∙ ap (λ m. take (length xs + k) (xs ++ ys) ++ (bs ++ drop m (xs ++ ys))) (sym e)

-- two writes side by side are one
pub with_bytes-twice : (xs : List ℕ) (k : ℕ) (bs cs : List ℕ) → k + length bs + length cs ≤ length xs
    → with_bytes (with_bytes xs k bs) (k + length bs) cs ≡ with_bytes xs k (bs ++ cs)
with_bytes-twice xs k bs cs le =
    let front = take k xs ++ bs in
    let back = drop (k + length bs) xs in
    let n : length front ≡ k + length bs = simp (length-append, length-take-le k xs (omega (arith, le))) (omega arith) in
    let e : k + length bs + length cs ≡ k + length (bs ++ cs) = omega (arith, length-append bs cs) in
    let rest = drop (k + length (bs ++ cs)) xs in
    ap (λ zs. take (k + length bs) zs ++ (cs ++ drop (k + length bs + length cs) zs)) (sym (append_assoc (take k xs) bs back))
    ∙ ap (λ m. take m (front ++ back) ++ (cs ++ drop (m + length cs) (front ++ back))) (sym n)
    ∙ ap (λ zs. zs ++ (cs ++ drop (length front + length cs) (front ++ back))) (take-append_seam front back)
    ∙ ap (λ zs. front ++ (cs ++ zs)) (drop-append-add front back (length cs) ∙ drop-drop (length cs) (k + length bs) xs
    ∙ ap (λ m. drop m xs) e)
    ∙ append_assoc (take k xs) bs (cs ++ rest)
    ∙ ap (λ zs. take k xs ++ zs) (sym (append_assoc bs cs rest))

module _ (size : ℕ) where
  abbrev Whole : List ℕ → Type 0
  Whole p = length p ≡ size

  pub length-concat : (ps : List (List ℕ)) → All Whole ps → length (concat ps) ≡ size * length ps
  length-concat [] all = omega arith
  length-concat (p ∷ ps) all =
      let head : length p ≡ size = All-head Whole p ps all in
      let rest = length-concat ps (All-tail Whole p ps all) in
      let e = length-append p (concat ps) in
      grind (arith, head, rest, e)

  pub slice-concat : (ps : List (List ℕ)) (i j n : ℕ) → All Whole ps → i < length ps → j + n ≤ size
      → take n (drop (size * i + j) (concat ps)) ≡ take n (drop j (get_or ps i []))
  slice-concat [] i j n all lt le = absurd (omega (arith, lt))
  slice-concat (p ∷ ps) zero j n all lt le =
      let head : length p ≡ size = All-head Whole p ps all in
      let e : size * 0 + j ≡ j = omega arith in
      ap (λ k. take n (drop k (p ++ concat ps))) e ∙ slice-front p (concat ps) j n (omega (arith, head, le))
  slice-concat (p ∷ ps) (suc i) j n all lt le =
      let head : length p ≡ size = All-head Whole p ps all in
      let e : size * suc i + j ≡ length p + (size * i + j) = omega (arith, head) in
      ap (λ k. take n (drop k (p ++ concat ps))) e
      ∙ slice-back p (concat ps) (size * i + j) n
      ∙ slice-concat ps i j n (All-tail Whole p ps all) (omega (arith, lt)) le

  pub with_bytes-concat : (ps : List (List ℕ)) (i j : ℕ) (bs : List ℕ) → All Whole ps → i < length ps → j + length bs ≤ size
      → concat (set ps i (with_bytes (get_or ps i []) j bs)) ≡ with_bytes (concat ps) (size * i + j) bs
  with_bytes-concat [] i j bs all lt le = absurd (omega (arith, lt))
  with_bytes-concat (p ∷ ps) zero j bs all lt le =
      let head : length p ≡ size = All-head Whole p ps all in
      let e : j ≡ size * 0 + j = omega arith in
      with_bytes-front p (concat ps) j bs (omega (arith, head, le)) ∙ ap (λ k. with_bytes (p ++ concat ps) k bs) e
  with_bytes-concat (p ∷ ps) (suc i) j bs all lt le =
      let head : length p ≡ size = All-head Whole p ps all in
      let e : length p + (size * i + j) ≡ size * suc i + j = omega (arith, head) in
      ap (λ cs. p ++ cs) (with_bytes-concat ps i j bs (All-tail Whole p ps all) (omega (arith, lt)) le)
      ∙ with_bytes-back p (concat ps) (size * i + j) bs
      ∙ ap (λ k. with_bytes (p ++ concat ps) k bs) e

  -- ---- zeros

  zeros-append : (p : List ℕ) (n : ℕ) → All (λ b. b ≡ 0) p → p ++ replicate n 0 ≡ replicate (length p + n) 0
  zeros-append [] n all = let e : n ≡ length {A = ℕ} [] + n = omega arith in ap (λ k. replicate k 0) e
  zeros-append (b ∷ p) n all =
      let head : b ≡ 0 = All-head (λ b. b ≡ 0) b p all in
      let rest = zeros-append p n (All-tail (λ b. b ≡ 0) b p all) in
      let e : suc (length p + n) ≡ length (b ∷ p) + n = omega arith in
      ap (λ x. x ∷ p ++ replicate n 0) head ∙ ap (λ bs. 0 ∷ bs) rest ∙ ap (λ k. replicate k 0) e

  pub concat-zeros : (ps : List (List ℕ)) → All (λ p. (length p ≡ size) × All (λ b. b ≡ 0) p) ps
      → concat ps ≡ replicate (size * length ps) 0
  concat-zeros [] all = let e : 0 ≡ size * length {A = List ℕ} [] = omega arith in ap (λ k. replicate k 0) e
  concat-zeros (p ∷ ps) all =
      let Zeros : List ℕ → Type 0 = λ p. (length p ≡ size) × All (λ b. b ≡ 0) p in
      let head = All-head Zeros p ps all in
      let rest = concat-zeros ps (All-tail Zeros p ps all) in
      let size_of : length p ≡ size = head.0 in
      let e : length p + size * length ps ≡ size * length (p ∷ ps) = omega (arith, size_of) in
      ap (λ bs. p ++ bs) rest ∙ zeros-append p (size * length ps) head.1 ∙ ap (λ k. replicate k 0) e
