-- Symbols of which none comes twice belong to one function each.
use Rattle.host_replay.proofs.Common.{◌≡◌, ℕ, zero, suc, Bool, true, false, not, ◌&&◌, ◌||◌, List, [], ◌∷◌, ◌++◌, map, slice_get, Some}
use Rattle.host_replay.proofs.Common.{option_map, bytes_eq, sym, refl, ap, ◌∙◌, slice_get-map, bytes_eq-Decides, left_holds, right_holds}
use Rattle.host_replay.proofs.Common.{Host, among-append, are_distinct, Name, is_among, symbol_at, symbol_of, AreDistinct, symbols_of}
use Rattle.host_replay.proofs.Common.{or_right, or_left}

among_here : (s x : Name) (xs : List Name) → x ≡ s → is_among s (x ∷ xs) ≡ true
among_here s x xs is = or_left (bytes_eq s x) (is_among s xs) ((bytes_eq-Decides s x).1 (sym is))

is_there : (xs : List Name) (f : ℕ) (s : Name) → slice_get xs f ≡ Some s → is_among s xs ≡ true
is_there [] f s at = absurd cc
is_there (x ∷ xs) zero s at = (let same : x ≡ s = cc in among_here s x xs same)
is_there (x ∷ xs) (suc f) s at = or_right (bytes_eq s x) (is_among s xs) (is_there xs f s at)

-- the first is not among the others
first_apart : (s x : Name) (xs : List Name) → are_distinct (x ∷ xs) ≡ true → x ≡ s → is_among s xs ≡ true → ⊥
first_apart s x xs distinct is there_ =
    let no = left_holds (not (is_among x xs)) (are_distinct xs) distinct in
    let yes_ : is_among x xs ≡ true = ap (λ (n : Name). is_among n xs) is ∙ there_ in
    let both : not true ≡ true = ap not (sym yes_) ∙ no in
    cc

one_place : (xs : List Name) (f g : ℕ) (s : Name) → are_distinct xs ≡ true → slice_get xs f ≡ Some s → slice_get xs g ≡ Some s → f ≡ g
one_place [] f g s distinct at at' = absurd cc
one_place (x ∷ xs) zero zero s distinct at at' = refl
one_place (x ∷ xs) zero (suc g) s distinct at at' =
    let same : x ≡ s = cc in absurd (first_apart s x xs distinct same (is_there xs g s at'))
one_place (x ∷ xs) (suc f) zero s distinct at at' =
    let same : x ≡ s = cc in absurd (first_apart s x xs distinct same (is_there xs f s at))
one_place (x ∷ xs) (suc f) (suc g) s distinct at at' =
    ap suc (one_place xs f g s (right_holds (not (is_among x xs)) (are_distinct xs) distinct) at at')

front_distinct : (xs ys : List Name) → are_distinct (xs ++ ys) ≡ true → are_distinct xs ≡ true
front_distinct [] ys distinct = refl
front_distinct (x ∷ xs) ys distinct =
    let rest = right_holds (not (is_among x (xs ++ ys))) (are_distinct (xs ++ ys)) distinct in
    λ i. fresh (is_among x xs) refl i && front_distinct xs ys rest i
  where
    fresh : (b : Bool) → is_among x xs ≡ b → not b ≡ true
    fresh false is = refl
    fresh true is = absurd (first_apart x x (xs ++ ys) distinct refl (among-append x xs ys ∙ or_left (is_among x xs) (is_among x ys) is))

behind_distinct : (xs ys : List Name) → are_distinct (xs ++ ys) ≡ true → are_distinct ys ≡ true
behind_distinct [] ys distinct = distinct
behind_distinct (x ∷ xs) ys distinct = behind_distinct xs ys (right_holds (not (is_among x (xs ++ ys))) (are_distinct (xs ++ ys)) distinct)

apart : (xs ys : List Name) (s : Name) → are_distinct (xs ++ ys) ≡ true → is_among s xs ≡ true → is_among s ys ≡ true → ⊥
apart [] ys s distinct here there_ = cc
apart (x ∷ xs) ys s distinct here there_ = by (bytes_eq s x) refl here (λ h. apart xs ys s rest h there_)
  where
    rest : are_distinct (xs ++ ys) ≡ true
    rest = right_holds (not (is_among x (xs ++ ys))) (are_distinct (xs ++ ys)) distinct

    by : (b : Bool) → bytes_eq s x ≡ b → (b || is_among s xs) ≡ true → (is_among s xs ≡ true → ⊥) → ⊥
    by true is h later = first_apart s x (xs ++ ys) distinct (sym ((bytes_eq-Decides s x).0 is))
        (among-append s xs ys ∙ or_right (is_among s xs) (is_among s ys) there_)
    by false is h later = later h

own_at : (m : Host) (f : ℕ) (s : Name) → option_map (symbol_of m) (slice_get m.functions f) ≡ Some s
    → slice_get (map (symbol_of m) m.functions) f ≡ Some s
own_at m f s at = slice_get-map (symbol_of m) m.functions f ∙ at

symbol_there : (hosts : List Host) (h f : ℕ) (s : Name) → symbol_at hosts h f ≡ Some s → is_among s (symbols_of hosts) ≡ true
symbol_there [] h f s at = absurd cc
symbol_there (m ∷ hosts) zero f s at =
    among-append s (map (symbol_of m) m.functions) (symbols_of hosts)
    ∙ or_left (is_among s (map (symbol_of m) m.functions)) (is_among s (symbols_of hosts))
    (is_there (map (symbol_of m) m.functions) f s (own_at m f s at))
symbol_there (m ∷ hosts) (suc h) f s at =
    among-append s (map (symbol_of m) m.functions) (symbols_of hosts)
    ∙ or_right (is_among s (map (symbol_of m) m.functions)) (is_among s (symbols_of hosts)) (symbol_there hosts h f s at)

pub symbols_distinct : (hosts : List Host) → are_distinct (symbols_of hosts) ≡ true → AreDistinct hosts
symbols_distinct [] distinct h f k g s at at' = absurd cc
symbols_distinct (m ∷ hosts) distinct zero f zero g s at at' = (
  refl,
  one_place (map (symbol_of m) m.functions) f g s (front_distinct (map (symbol_of m) m.functions) (symbols_of hosts) distinct)
      (own_at m f s at) (own_at m g s at'),
)
symbols_distinct (m ∷ hosts) distinct zero f (suc k) g s at at' =
    absurd (apart (map (symbol_of m) m.functions) (symbols_of hosts) s distinct
    (is_there (map (symbol_of m) m.functions) f s (own_at m f s at)) (symbol_there hosts k g s at'))
symbols_distinct (m ∷ hosts) distinct (suc h) f zero g s at at' =
    absurd (apart (map (symbol_of m) m.functions) (symbols_of hosts) s distinct
    (is_there (map (symbol_of m) m.functions) g s (own_at m g s at')) (symbol_there hosts h f s at))
symbols_distinct (m ∷ hosts) distinct (suc h) f (suc k) g s at at' =
    let rest = symbols_distinct hosts (behind_distinct (map (symbol_of m) m.functions) (symbols_of hosts) distinct) h f k g s at at' in
    (ap suc rest.0, rest.1)
