-- Loops over a list that keep 'what is made, and what the rest gives, is the whole'.
use Rattle.c_scope.proofs.Common.{◌≡◌, ℕ, ◌+◌, ◌<◌, ◌≤◌, Bool, true, false, List, [], ◌++◌, map, length, get_or, drop, if◌then◌else◌, Some}
use Rattle.c_scope.proofs.Common.{None, Option, bytes_eq, sym, refl, ap, ◌∙◌, option_or, named, or_none}
use Rattle.std.proofs.lemmas.List.{drop_all}
use Rattle.w2c_base.proofs.Places.{read_again}
use Rattle.w2c_base.proofs.Options.{or_assoc}
use Rattle.c_tree.proofs.Tested.{at_front}

-- ---- a search by name

pub named_more : {A B : Type 0} (f : A → List ℕ × B) (q : List ℕ) (xs : List A) (i : ℕ) (x : A) (whole : Option B) → i < length xs
    → x ≡ get_or xs i x → bytes_eq (f x).0 q ≡ false
    → named q (map f (drop i xs)) ≡ whole → named q (map f (drop (i + 1) xs)) ≡ whole
named_more f q xs i x whole lt is other so_far =
    sym (ap (λ ys. named q (map f ys)) (at_front xs i x lt is)
    ∙ ap (λ b. if b then Some (f x).1 else named q (map f (drop (i + 1) xs))) other) ∙ so_far

-- ---- a table that grows entry by entry

-- what the table finds, and behind it the rest, is the whole
abbrev pub Enters : {B : Type 0} → List (List ℕ × B) → List (List ℕ × B) → List (List ℕ × B) → Type 0
Enters table rest whole = (q : List ℕ) → option_or (named q table) (named q rest) ≡ named q whole

pub enters_more : {A B : Type 0} (f : A → List ℕ × B) (before after : List (List ℕ × B)) (xs : List A) (i : ℕ) (x : A) → i < length xs
    → x ≡ get_or xs i x
    → ((q : List ℕ) → named q after ≡ option_or (named q before) (if bytes_eq (f x).0 q then Some (f x).1 else None))
    → Enters before (map f (drop i xs)) (map f xs) → Enters after (map f (drop (i + 1) xs)) (map f xs)
enters_more {A} {B} f before after xs i x lt is grown so_far q =
    let rest = named q (map f (drop (i + 1) xs)) in
    let entry : Option B = if bytes_eq (f x).0 q then Some (f x).1 else None in
    ap (λ o. option_or o rest) (grown q) ∙ or_assoc (named q before) entry rest
    ∙ ap (option_or (named q before)) (at (bytes_eq (f x).0 q) rest)
    ∙ ap (λ ys. option_or (named q before) (named q (map f ys))) (sym (at_front xs i x lt is)) ∙ so_far q
  where
    at : (b : Bool) (rest : Option B) → option_or (if b then Some (f x).1 else None) rest ≡ (if b then Some (f x).1 else rest)
    at true rest = refl
    at false rest = refl

pub enters_all : {A B : Type 0} (f : A → List ℕ × B) (table : List (List ℕ × B)) (xs : List A) (i : ℕ) → length xs ≤ i
    → Enters table (map f (drop i xs)) (map f xs) → (q : List ℕ) → named q table ≡ named q (map f xs)
enters_all f table xs i past enters q =
    sym (or_none (named q table)) ∙ ap (λ ys. option_or (named q table) (named q (map f ys))) (sym (drop_all i xs past)) ∙ enters q

pub enters_at : {A B : Type 0} (f : A → List ℕ × B) (before after : List (List ℕ × B)) (xs : List A) (i : ℕ) (d : A) → i < length xs
    → ((q : List ℕ) → named q after ≡ option_or (named q before)
    (if bytes_eq (f (get_or xs i d)).0 q then Some (f (get_or xs i d)).1 else None))
    → Enters before (map f (drop i xs)) (map f xs) → Enters after (map f (drop (i + 1) xs)) (map f xs)
enters_at f before after xs i d lt grown so_far = enters_more f before after xs i (get_or xs i d) lt (read_again xs i d lt) grown so_far
