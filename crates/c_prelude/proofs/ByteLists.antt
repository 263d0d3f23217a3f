-- Bytes that are written one after another are what is written at once.
use Rattle.c_prelude.proofs.Common.{◌≡◌, ℕ, zero, suc, ◌+◌, ◌-◌, ◌%◌, ◌<◌, ◌≤◌, List, [], ◌∷◌, ◌++◌, length, get_or, take, drop, set}
use Rattle.c_prelude.proofs.Common.{replicate, sym, ap, ◌∙◌, append_assoc, mod-eq_of_lt, arith, length-append, length-drop, length-set}
use Rattle.c_prelude.proofs.Common.{take-append-drop, length-take, get_or-drop, drop-cons, take-suc, take-suc-set, drop-set-lt}
use Rattle.c_prelude.proofs.Common.{AllByRecursion, bytes_at, little_endian, low_bytes, with_bytes}
use Rattle.std.proofs.lemmas.List.{set_split, take-set-le, drop-set, drop-set-add}

-- ---- one byte

pub one_read : (c : List ℕ) (p : ℕ) → p < length c → AllByRecursion (λ b. b < 256) c → little_endian (bytes_at c p 1) ≡ get_or c p 0
one_read [] p l all = absurd (omega arith)
one_read (b ∷ c) zero l all = omega arith
one_read (b ∷ c) (suc p) l all = one_read c p (omega arith) all.1

pub byte_below : (c : List ℕ) (p : ℕ) → AllByRecursion (λ b. b < 256) c → get_or c p 0 < 256
byte_below [] p all = omega arith
byte_below (b ∷ c) zero all = all.0
byte_below (b ∷ c) (suc p) all = byte_below c p all.1

pub still_bytes : (c : List ℕ) (p b : ℕ) → b < 256 → AllByRecursion (λ b. b < 256) c → AllByRecursion (λ b. b < 256) (set c p b)
still_bytes [] p b h all = tt
still_bytes (x ∷ c) zero b h all = (h, all.1)
still_bytes (x ∷ c) (suc p) b h all = (all.0, still_bytes c p b h all.1)

-- one byte written
pub one_written : (c : List ℕ) (p x : ℕ) → p < length c → with_bytes c p (x ∷ []) ≡ set c p x
one_written c p x l =
    let e : p + 1 ≡ suc p = omega arith in
    ap (λ k. take p c ++ (x ∷ drop k c)) e ∙ sym (set_split c p x l)

pub put_byte : (c : List ℕ) (p n : ℕ) → p < length c → with_bytes c p (low_bytes 1 n) ≡ set c p (n % 256)
put_byte c p n l = one_written c p (n % 256) l

-- a byte read and written elsewhere
pub byte_moved : (c : List ℕ) (to from : ℕ) → to < length c → from < length c → AllByRecursion (λ b. b < 256) c
    → with_bytes c to (low_bytes 1 (little_endian (bytes_at c from 1))) ≡ set c to (get_or c from 0)
byte_moved c to from t f all =
    put_byte c to (little_endian (bytes_at c from 1)) t
    ∙ ap (λ n. set c to n) (ap (λ n. n % 256) (one_read c from f all) ∙ mod-eq_of_lt (byte_below c from all))

pub nothing_written : (c : List ℕ) (p : ℕ) → with_bytes c p [] ≡ c
nothing_written c p = let e : p + 0 ≡ p = omega arith in ap (λ k. take p c ++ drop k c) e ∙ take-append-drop p c

-- ---- in front, and behind

written_in_front : (c : List ℕ) (p x : ℕ) (ys : List ℕ) → p < length c → with_bytes (set c p x) (suc p) ys ≡ with_bytes c p (x ∷ ys)
written_in_front c p x ys l =
    let e : suc p + length ys ≡ p + suc (length ys) = omega arith in
    let before : p < suc p + length ys = omega arith in
    let front : take (suc p) (set c p x) ≡ take p c ++ (x ∷ []) = take-suc-set c p x l in
    let rest : drop (suc p + length ys) (set c p x) ≡ drop (p + suc (length ys)) c = drop-set-lt (suc p + length ys) c p x before
    ∙ ap (λ k. drop k c) e in
    ap (λ xs. xs ++ (ys ++ drop (suc p + length ys) (set c p x))) front
    ∙ (ap (λ xs. (take p c ++ (x ∷ [])) ++ (ys ++ xs)) rest
    ∙ append_assoc (take p c) (x ∷ []) (ys ++ drop (p + suc (length ys)) c))

written_behind : (c : List ℕ) (p x n : ℕ) (ys : List ℕ) → length ys ≡ n → p + n < length c
    → with_bytes (set c (p + n) x) p ys ≡ with_bytes c p (ys ++ (x ∷ []))
written_behind c p x n ys is l =
    let total : length (ys ++ (x ∷ [])) ≡ suc n = omega (arith, length-append ys (x ∷ []), is) in
    let at : p + length ys ≡ p + n = ap (λ k. p + k) is in
    let far : p + n + 1 ≡ p + length (ys ++ (x ∷ [])) = omega (arith, total) in
    let near : p ≤ p + n = omega arith in
    let front : take p (set c (p + n) x) ≡ take p c = take-set-le p c (p + n) x near in
    let rest : drop (p + length ys) (set c (p + n) x) ≡ x ∷ drop (p + length (ys ++ (x ∷ []))) c =
    ap (λ k. drop k (set c (p + n) x)) at ∙ (drop-set c (p + n) x l ∙ ap (λ k. x ∷ drop k c) far) in
    ap (λ xs. xs ++ (ys ++ drop (p + length ys) (set c (p + n) x))) front
    ∙ (ap (λ xs. take p c ++ (ys ++ xs)) rest
    ∙ ap (λ xs. take p c ++ xs) (sym (append_assoc ys (x ∷ []) (drop (p + length (ys ++ (x ∷ []))) c))))

-- ---- bytes copied from the lowest on

abbrev pub copied_up : List ℕ → ℕ → ℕ → ℕ → List ℕ
copied_up c to from zero = c
copied_up c to from (suc n) = copied_up (set c to (get_or c from 0)) (suc to) (suc from) n

read_first : (c : List ℕ) (from n : ℕ) → from < length c → bytes_at c from (suc n) ≡ get_or c from 0 ∷ bytes_at c (suc from) n
read_first c from n l = ap (λ xs. take (suc n) xs) (drop-cons c from 0 l)

pub up_is : (c : List ℕ) (to from n : ℕ) → to ≤ from → from + n ≤ length c
    → copied_up c to from n ≡ with_bytes c to (bytes_at c from n)
up_is c to from zero near within = sym (nothing_written c to)
up_is c to from (suc n) near within =
    let x : ℕ = get_or c from 0 in
    let new : List ℕ = set c to x in
    let as_long : length new ≡ length c = length-set c to x in
    let inside : to < length c = omega (arith, near, within) in
    let again : copied_up new (suc to) (suc from) n ≡ with_bytes new (suc to) (bytes_at new (suc from) n) =
    up_is new (suc to) (suc from) n (omega (arith, near)) (omega (arith, within, as_long)) in
    let behind : bytes_at new (suc from) n ≡ bytes_at c (suc from) n = ap (λ xs. take n xs)
    (drop-set-lt (suc from) c to x (omega (arith, near))) in
    again ∙ (ap (λ ys. with_bytes new (suc to) ys) behind
    ∙ (written_in_front c to x (bytes_at c (suc from) n) inside
    ∙ ap (λ ys. with_bytes c to ys) (sym (read_first c from n (omega (arith, within))))))

-- ---- bytes copied from the highest on

abbrev pub copied_down : List ℕ → ℕ → ℕ → ℕ → List ℕ
copied_down c to from zero = c
copied_down c to from (suc n) = copied_down (set c (to + n) (get_or c (from + n) 0)) to from n

read_last : (c : List ℕ) (from n : ℕ) → from + n < length c → bytes_at c from (suc n) ≡ bytes_at c from n ++ (get_or c (from + n) 0 ∷ [])
read_last c from n l =
    let inside : n < length (drop from c) = omega (arith, length-drop from c, l) in
    take-suc (drop from c) n 0 inside ∙ ap (λ x. bytes_at c from n ++ (x ∷ [])) (get_or-drop from c n 0)

not_read : (c : List ℕ) (p x from n : ℕ) → from + n ≤ p → bytes_at (set c p x) from n ≡ bytes_at c from n
not_read c p x from n l =
    let e : from + (p - from) ≡ p = omega (arith, l) in
    ap (λ q. take n (drop from (set c q x))) (sym e)
    ∙ (ap (λ xs. take n xs) (drop-set-add from c (p - from) x) ∙ take-set-le n (drop from c) (p - from) x (omega (arith, l)))

pub down_is : (c : List ℕ) (to from n : ℕ) → from ≤ to → to + n ≤ length c
    → copied_down c to from n ≡ with_bytes c to (bytes_at c from n)
down_is c to from zero near within = sym (nothing_written c to)
down_is c to from (suc n) near within =
    let x : ℕ = get_or c (from + n) 0 in
    let new : List ℕ = set c (to + n) x in
    let as_long : length new ≡ length c = length-set c (to + n) x in
    let inside : to + n < length c = omega (arith, within) in
    let again : copied_down new to from n ≡ with_bytes new to (bytes_at new from n) =
    down_is new to from n near (omega (arith, within, as_long)) in
    let read : bytes_at new from n ≡ bytes_at c from n = not_read c (to + n) x from n (omega (arith, near)) in
    let many : length (bytes_at c from n) ≡ n = omega (arith, length-take n (drop from c), length-drop from c, near, within) in
    again ∙ (ap (λ ys. with_bytes new to ys) read
    ∙ (written_behind c to x n (bytes_at c from n) many inside
    ∙ ap (λ ys. with_bytes c to ys) (sym (read_last c from n (omega (arith, near, within))))))

-- ---- a byte written again and again

abbrev pub filled : List ℕ → ℕ → ℕ → ℕ → List ℕ
filled c to b zero = c
filled c to b (suc n) = filled (set c to b) (suc to) b n

pub filled_is : (c : List ℕ) (to b n : ℕ) → to + n ≤ length c → filled c to b n ≡ with_bytes c to (replicate n b)
filled_is c to b zero within = sym (nothing_written c to)
filled_is c to b (suc n) within =
    let as_long : length (set c to b) ≡ length c = length-set c to b in
    filled_is (set c to b) (suc to) b n (omega (arith, within, as_long))
    ∙ written_in_front c to b (replicate n b) (omega (arith, within))
