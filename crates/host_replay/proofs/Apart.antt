-- Where each symbol belongs to one function, none comes twice.
use Rattle.host_replay.proofs.Common.{◌≡◌, ℕ, zero, suc, Bool, true, false, not, ◌&&◌, ◌||◌, List, [], ◌∷◌, ◌++◌, map, slice_get, Some}
use Rattle.host_replay.proofs.Common.{option_map, bytes_eq, sym, refl, ap, ◌∙◌, slice_get-map, bytes_eq-Decides, Host, among-append}
use Rattle.host_replay.proofs.Common.{are_distinct, Name, is_among, symbol_at, symbol_of, AreDistinct, symbols_of, and_from, or_right}
use Rattle.host_replay.proofs.Common.{right_holds, left_holds}

-- a name that is among others has a place there
place_of : (xs : List Name) (s : Name) → is_among s xs ≡ true → (k : ℕ) × (slice_get xs k ≡ Some s)
place_of [] s there = cc
place_of (x ∷ xs) s there = by (bytes_eq s x) refl there (λ h. place_of xs s h)
  where
    by : (b : Bool) → bytes_eq s x ≡ b → (b || is_among s xs) ≡ true → (is_among s xs ≡ true → (k : ℕ) × (slice_get xs k ≡ Some s))
        → (k : ℕ) × (slice_get (x ∷ xs) k ≡ Some s)
    by true is h later = (zero, ap (λ n. Some n) (sym ((bytes_eq-Decides s x).0 is)))
    by false is h later = let found = later h in (suc found.0, found.1)

fresh : (b : Bool) → (b ≡ true → ⊥) → not b ≡ true
fresh true denied = absurd (denied refl)
fresh false denied = refl

-- names of which each has one place
one_placed : (xs : List Name) → ((f g : ℕ) (s : Name) → slice_get xs f ≡ Some s → slice_get xs g ≡ Some s → f ≡ g) → are_distinct xs ≡ true
one_placed [] one = refl
one_placed (x ∷ xs) one = and_from (not (is_among x xs)) (are_distinct xs)
    (fresh (is_among x xs) (λ there. let found = place_of xs x there in
    let same : zero ≡ suc found.0 = one zero (suc found.0) x refl found.1 in cc))
    (one_placed xs (λ f g s at at'. let same : suc f ≡ suc g = one (suc f) (suc g) s at at' in cc))

-- two lists of distinct names, of which none is in both
distinct_together : (xs ys : List Name) → are_distinct xs ≡ true → are_distinct ys ≡ true
    → ((s : Name) → is_among s xs ≡ true → is_among s ys ≡ true → ⊥) → are_distinct (xs ++ ys) ≡ true
distinct_together [] ys first second none = second
distinct_together (x ∷ xs) ys first second none = and_from (not (is_among x (xs ++ ys))) (are_distinct (xs ++ ys))
    (fresh (is_among x (xs ++ ys)) (λ there. by (is_among x xs) refl (sym (among-append x xs ys) ∙ there)))
    (distinct_together xs ys (right_holds (not (is_among x xs)) (are_distinct xs) first) second
    (λ s here there. none s (or_right (bytes_eq s x) (is_among s xs) here) there))
  where
    here_ : is_among x (x ∷ xs) ≡ true
    here_ = ap (λ b. b || is_among x xs) ((bytes_eq-Decides x x).1 refl)

    by : (b : Bool) → is_among x xs ≡ b → (b || is_among x ys) ≡ true → ⊥
    by true is e = (let no : not true ≡ true = ap not (sym is) ∙ left_holds (not (is_among x xs)) (are_distinct xs) first in cc)
    by false is e = none x here_ e

-- ---- functions of hosts

own_at : (m : Host) (f : ℕ) (s : Name) → slice_get (map (symbol_of m) m.functions) f ≡ Some s
    → option_map (symbol_of m) (slice_get m.functions f) ≡ Some s
own_at m f s at = sym (slice_get-map (symbol_of m) m.functions f) ∙ at

split : (a b : Bool) → (a || b) ≡ true → (P : Type 0) → (a ≡ true → P) → (b ≡ true → P) → P
split true b e P left right = left refl
split false b e P left right = right e

symbol_placed : (hosts : List Host) (s : Name) → is_among s (symbols_of hosts) ≡ true
    → (h : ℕ) × (f : ℕ) × (symbol_at hosts h f ≡ Some s)
symbol_placed [] s there = cc
symbol_placed (m ∷ hosts) s there = split (is_among s (map (symbol_of m) m.functions)) (is_among s (symbols_of hosts))
    (sym (among-append s (map (symbol_of m) m.functions) (symbols_of hosts)) ∙ there)
    ((h : ℕ) × (f : ℕ) × (symbol_at (m ∷ hosts) h f ≡ Some s))
    (λ here. let found = place_of (map (symbol_of m) m.functions) s here in (zero, found.0, own_at m found.0 s found.1))
    (λ later. let found = symbol_placed hosts s later in (suc found.0, found.1, found.2))

pub distinct_symbols : (hosts : List Host) → AreDistinct hosts → are_distinct (symbols_of hosts) ≡ true
distinct_symbols [] distinct = refl
distinct_symbols (m ∷ hosts) distinct = distinct_together (map (symbol_of m) m.functions) (symbols_of hosts)
    (one_placed (map (symbol_of m) m.functions) (λ f g s at at'. (distinct zero f zero g s (own_at m f s at) (own_at m g s at')).1))
    (distinct_symbols hosts (λ h f k g s at at'.
    let same = distinct (suc h) f (suc k) g s at at' in
    let hs : h ≡ k = (let e = same.0 in cc) in (hs, same.1)))
    (λ s here there. let own = place_of (map (symbol_of m) m.functions) s here in
    let other = symbol_placed hosts s there in
    let same = distinct zero own.0 (suc other.0) other.1 s (own_at m own.0 s own.1) other.2 in
    let no : zero ≡ suc other.0 = same.0 in cc)
