-- Tokens that are put at the end of a page, one list after another.
use Rattle.c_print.proofs.Common.{◌≡◌, ℕ, ◌+◌, ◌<◌, List, [], ◌∷◌, ◌++◌, map, length, get_or, take, drop, sym, refl, ap, ◌∙◌, append_assoc}
use Rattle.c_print.proofs.Common.{append-nil, add-one, drop-cons, Fixed, Token, Item, each, item_tokens, separated, ended, items_onto}
use Rattle.c_print.proofs.Common.{printed, printed_onto, Page}
use Rattle.c_tree.specs.declared.token.Tok.TheVariants as tok
use Rattle.c_tree.proofs.Tested.{at_front}

pub onto_append : (page : Page) (xs ys : List Token) → printed_onto page (xs ++ ys) ≡ printed_onto (printed_onto page xs) ys
onto_append page [] ys = refl
onto_append page (x ∷ xs) ys = onto_append (printed page x) xs ys

pub each_append : {A : Type 0} (f : A → List Token) (xs ys : List A) → each f (xs ++ ys) ≡ each f xs ++ each f ys
each_append f [] ys = refl
each_append f (x ∷ xs) ys = ap (λ ts. f x ++ ts) (each_append f xs ys) ∙ sym (append_assoc (f x) (each f xs) (each f ys))

pub each_map : {A B : Type 0} (f : B → List Token) (view : A → B) (xs : List A) → each f (map view xs) ≡ each (λ x. f (view x)) xs
each_map f view [] = refl
each_map f view (x ∷ xs) = ap (λ ts. f (view x) ++ ts) (each_map f view xs)

pub separated_map : {A B : Type 0} (f : B → List Token) (view : A → B) (xs : List A)
    → separated f (map view xs) ≡ separated (λ x. f (view x)) xs
separated_map f view [] = refl
separated_map f view (x ∷ xs) = ap (λ ts. f (view x) ++ ts) (each_map (λ y. Fixed tok.Comma ∷ f y) view xs)

-- the first, and those behind it
pub separated_at : {A : Type 0} (f : A → List Token) (xs : List A)
    → separated f xs ≡ each f (take 1 xs) ++ each (λ x. Fixed tok.Comma ∷ f x) (drop 1 xs)
separated_at f [] = refl
separated_at f (x ∷ xs) = ap (λ ts. ts ++ each (λ y. Fixed tok.Comma ∷ f y) xs) (sym (append-nil (f x)))

-- a loop that puts the tokens of each, with those that are left behind what is put so far
pub each_more : {A : Type 0} (f : A → List Token) (start page next : Page) (xs : List A) (i : ℕ) (x : A) → i < length xs → x ≡ get_or xs i x
    → next ≡ printed_onto page (f x)
    → printed_onto page (each f (drop i xs)) ≡ printed_onto start (each f xs)
    → printed_onto next (each f (drop (i + 1) xs)) ≡ printed_onto start (each f xs)
each_more f start page next xs i x lt is step so_far =
    let e : drop i xs ≡ x ∷ drop (i + 1) xs = at_front xs i x lt is in
    let one : printed_onto page (each f (drop i xs)) ≡ printed_onto next (each f (drop (i + 1) xs)) =
    rw (e, step) (onto_append page (f x) (each f (drop (i + 1) xs))) in
    sym one ∙ so_far

-- the same for items, each on lines of its own
pub items_more : {A : Type 0} (view : A → Item) (start page next : Page) (xs : List A) (i : ℕ) (x : A) → i < length xs → x ≡ get_or xs i x
    → next ≡ ended (printed_onto page (item_tokens (view x)))
    → items_onto page (map view (drop i xs)) ≡ items_onto start (map view xs)
    → items_onto next (map view (drop (i + 1) xs)) ≡ items_onto start (map view xs)
items_more view start page next xs i x lt is step so_far =
    let e : drop i xs ≡ x ∷ drop (i + 1) xs = at_front xs i x lt is in
    let one : items_onto page (map view (drop i xs)) ≡ items_onto next (map view (drop (i + 1) xs)) = rw (e, step) refl in
    sym one ∙ so_far

-- the same for the texts of each
pub each_text_more : {A : Type 0} (f : A → List ℕ) (start text next : List ℕ) (xs : List A) (i : ℕ) (x : A) → i < length xs
    → next ≡ text ++ f (get_or xs i x)
    → text ++ each f (drop i xs) ≡ start ++ each f xs → next ++ each f (drop (i + 1) xs) ≡ start ++ each f xs
each_text_more f start text next xs i x lt step so_far =
    let e : drop i xs ≡ get_or xs i x ∷ drop (i + 1) xs = rw add-one (drop-cons xs i x lt) in
    let one : text ++ each f (drop i xs) ≡ next ++ each f (drop (i + 1) xs) =
    rw (e, step) (sym (append_assoc text (f (get_or xs i x)) (each f (drop (i + 1) xs)))) in
    sym one ∙ so_far
