-- Lists in pieces of a hundred: the first piece, and the pieces of what is behind it.
use Rattle.std.proofs.Common.{take, ◌*◌, ◌-◌, min}
use Rattle.std.proofs.lemmas.List.{length-drop}
use Rattle.c_init.proofs.Common.{◌≡◌, ℕ, zero, suc, ◌+◌, ◌<◌, Bool, ◌||◌, List, [], ◌∷◌, length, map, drop, sym, refl, ap, ◌∙◌, arith}
use Rattle.c_init.proofs.Common.{list_any, numbered, range_with_len}
use Rattle.c_init.specs.Init.{most, piece, piece_count, pieces}
use Rattle.c_init.specs.Portions.{numbered_from}

drop_none : {A : Type 0} (n : ℕ) → drop {A = A} n [] ≡ []
drop_none zero = refl
drop_none (suc n) = refl

pub drop_twice : {A : Type 0} (a b : ℕ) (xs : List A) → drop a (drop b xs) ≡ drop (b + a) xs
drop_twice a zero xs = let e : a ≡ zero + a = omega arith in ap (λ k. drop k xs) e
drop_twice a (suc b) [] = drop_none a ∙ sym (drop_none (suc b + a))
drop_twice a (suc b) (x ∷ xs) = let e : suc (b + a) ≡ suc b + a = omega arith in drop_twice a b xs ∙ ap (λ k. drop k (x ∷ xs)) e

-- the pieces from one on are those of what is behind the first piece
one_on : {A : Type 0} (xs : List A) (k : ℕ) → piece xs (suc k) ≡ piece (drop most xs) k
one_on xs k =
    let e : most * suc k ≡ most + most * k = omega arith in
    ap (λ n. take most (drop n xs)) e ∙ ap (take most) (sym (drop_twice (most * k) most xs))

shifted : {A : Type 0} (xs : List A) (k n : ℕ) → map (piece xs) (range_with_len (suc k) n) ≡ map (piece (drop most xs)) (range_with_len k n)
shifted xs k zero = refl
shifted xs k (suc n) =
    let e : suc k + 1 ≡ suc (k + 1) = omega arith in
    ap (λ p. p ∷ map (piece xs) (range_with_len (suc k + 1) n)) (one_on xs k)
    ∙ ap (λ j. piece (drop most xs) k ∷ map (piece xs) (range_with_len j n)) e
    ∙ ap (λ ps. piece (drop most xs) k ∷ ps) (shifted xs (k + 1) n)

pub pieces_none : {A : Type 0} → pieces {A = A} [] ≡ []
pieces_none {A} = let e : piece_count 0 ≡ 0 = omega arith in ap (λ n. map (piece {A = A} []) (range_with_len 0 n)) e

-- some entries
pub pieces_first : {A : Type 0} (xs : List A) → 0 < length xs → pieces xs ≡ take most xs ∷ pieces (drop most xs)
pieces_first xs some =
    let c : ℕ = piece_count (length (drop most xs)) in
    let d : length (drop most xs) ≡ length xs - most = length-drop most xs in
    let count : piece_count (length xs) ≡ suc c = omega (arith, some, d) in
    let first : most * 0 ≡ 0 = omega arith in
    let one : 0 + 1 ≡ 1 = omega arith in
    ap (λ n. map (piece xs) (range_with_len 0 n)) count
    ∙ ap (λ k. take most (drop k xs) ∷ map (piece xs) (range_with_len (0 + 1) c)) first
    ∙ ap (λ k. take most xs ∷ map (piece xs) (range_with_len k c)) one
    ∙ ap (λ ps. take most xs ∷ ps) (shifted xs 0 c)

pub pieces_some : {A : Type 0} (x : A) (xs : List A) → pieces (x ∷ xs) ≡ (x ∷ take 99 xs) ∷ pieces (drop 99 xs)
pieces_some x xs = pieces_first (x ∷ xs) (omega arith)

-- ---- entries with their numbers

pub take_numbered : {A : Type 0} (n k : ℕ) (xs : List A) → take n (numbered_from k xs) ≡ numbered_from k (take n xs)
take_numbered zero k xs = refl
take_numbered (suc n) k [] = refl
take_numbered (suc n) k (x ∷ xs) = ap (λ ys. (k, x) ∷ ys) (take_numbered n (k + 1) xs)

drop_numbered : {A : Type 0} (n k : ℕ) (xs : List A) → drop n (numbered_from k xs) ≡ numbered_from (k + length (take n xs)) (drop n xs)
drop_numbered zero k xs = let e : k ≡ k + 0 = omega arith in ap (λ j. numbered_from j xs) e
drop_numbered (suc n) k [] = refl
drop_numbered (suc n) k (x ∷ xs) =
    let e : k + 1 + length (take n xs) ≡ k + suc (length (take n xs)) = omega arith in
    drop_numbered n (k + 1) xs ∙ ap (λ j. numbered_from j (drop n xs)) e

pub first_numbered : {A : Type 0} (k : ℕ) (xs : List A) → 0 < length xs
    → pieces (numbered_from k xs) ≡ numbered_from k (take most xs) ∷ pieces (numbered_from (k + length (take most xs)) (drop most xs))
first_numbered k [] some = absurd (omega (arith, some))
first_numbered k (x ∷ xs) some =
    pieces_first (numbered_from k (x ∷ xs)) (omega arith)
    ∙ ap (λ p. p ∷ pieces (drop most (numbered_from k (x ∷ xs)))) (take_numbered most k (x ∷ xs))
    ∙ ap (λ ys. numbered_from k (take most (x ∷ xs)) ∷ pieces ys) (drop_numbered most k (x ∷ xs))

-- all entries with their numbers, where the first number is counted from what is left
pub from_none : {A : Type 0} (whole items : List A) → items ≡ whole
    → numbered_from (length whole - length items) items ≡ numbered whole
from_none whole items same =
    let many = ap length same in
    let none : length whole - length items ≡ 0 = omega (arith, many) in
    ap (λ k. numbered_from k items) none ∙ ap numbered same

pub pieces_some_numbered : {A : Type 0} (k : ℕ) (x : A) (xs : List A)
    → pieces (numbered_from k (x ∷ xs))
    ≡ numbered_from k (x ∷ take 99 xs) ∷ pieces (numbered_from (k + length (x ∷ take 99 xs)) (drop 99 xs))
pieces_some_numbered k x xs = first_numbered k (x ∷ xs) (omega arith)

-- numbers of what is behind so many, also where there are fewer
pub behind_numbered : {A : Type 0} (n k : ℕ) (xs : List A) → drop n (numbered_from k xs) ≡ numbered_from (k + n) (drop n xs)
behind_numbered zero k xs = let e : k ≡ k + 0 = omega arith in ap (λ j. numbered_from j xs) e
behind_numbered (suc n) k [] = refl
behind_numbered (suc n) k (x ∷ xs) =
    let e : k + 1 + n ≡ k + suc n = omega arith in
    behind_numbered n (k + 1) xs ∙ ap (λ j. numbered_from j (drop n xs)) e

-- a test of entries alone
pub numbered_piece : {A : Type 0} (test : A → Bool) (k : ℕ) (xs : List A)
    → list_any (λ (x : ℕ × A). test x.1) (numbered_from k xs) ≡ list_any test xs
numbered_piece test k [] = refl
numbered_piece test k (x ∷ xs) = ap (λ b. test x || b) (numbered_piece test (k + 1) xs)

-- ---- what is taken

-- no more is taken than there is
pub at_most : {A : Type 0} (n : ℕ) (xs : List A) → take (min (length xs) n) xs ≡ take n xs
at_most n [] = none (min 0 n) ∙ sym (none n)
  where
    none : {A : Type 0} (k : ℕ) → take {A = A} k [] ≡ []
    none zero = refl
    none (suc k) = refl
at_most zero (x ∷ xs) = let e : min (length (x ∷ xs)) 0 ≡ 0 = omega arith in ap (λ k. take k (x ∷ xs)) e
at_most (suc n) (x ∷ xs) =
    let e : min (length (x ∷ xs)) (suc n) ≡ suc (min (length xs) n) = omega arith in
    ap (λ k. take k (x ∷ xs)) e ∙ ap (λ ys. x ∷ ys) (at_most n xs)

pub behind_all : {A : Type 0} (xs : List A) → drop (length xs) xs ≡ []
behind_all [] = refl
behind_all (x ∷ xs) = behind_all xs

pub behind_at_most : {A : Type 0} (n : ℕ) (xs : List A) → drop (min (length xs) n) xs ≡ drop n xs
behind_at_most n [] = drop_none (min 0 n) ∙ sym (drop_none n)
behind_at_most zero (x ∷ xs) = let e : min (length (x ∷ xs)) 0 ≡ 0 = omega arith in ap (λ k. drop k (x ∷ xs)) e
behind_at_most (suc n) (x ∷ xs) =
    let e : min (length (x ∷ xs)) (suc n) ≡ suc (min (length xs) n) = omega arith in
    ap (λ k. drop k (x ∷ xs)) e ∙ behind_at_most n xs
