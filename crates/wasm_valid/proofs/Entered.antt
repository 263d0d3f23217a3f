-- Faults that are entered one by one: piece by piece, and in the end the first of all.
use Rattle.wasm_valid.proofs.Common.{◌≡◌, ℕ, suc, ◌+◌, ◌<◌, List, [], ◌∷◌, ◌++◌, length, get_or, drop, Some, None, Option, flat_map, sym}
use Rattle.wasm_valid.proofs.Common.{refl, ap, ◌∙◌, add-one, arith, drop-cons, nat_tests, entered, kept, first_fault, sooner, Fault}

pub entered-append : (found : Option Fault) (xs ys : List Fault) → entered found (xs ++ ys) ≡ entered (entered found xs) ys
entered-append found [] ys = refl
entered-append found (x ∷ xs) ys = entered-append (Some (kept found x)) xs ys

-- keeping the sooner of three in either order
kept_first : (e f : Fault) (r : Option Fault) → sooner (kept (Some e) f) r ≡ sooner e (Some (sooner f r))
kept_first e f None = refl
kept_first e f (Some g) = grind (arith, nat_tests)

entered_behind : (e : Fault) (xs : List Fault) → entered (Some e) xs ≡ Some (sooner e (first_fault xs))
entered_behind e [] = refl
entered_behind e (f ∷ fs) = entered_behind (kept (Some e) f) fs ∙ ap Some (kept_first e f (first_fault fs))

-- what is kept of all is the first of them
pub entered-first : (xs : List Fault) → entered None xs ≡ first_fault xs
entered-first [] = refl
entered-first (f ∷ fs) = entered_behind f fs

-- one step of a loop over what has faults
pub entered_step : {A : Type 0} (f : A → List Fault) (found : Option Fault) (xs : List A) (i : ℕ) (d : A) → i < length xs
    → entered (entered found (f (get_or xs i d))) (flat_map f (drop (i + 1) xs)) ≡ entered found (flat_map f (drop i xs))
entered_step f found xs i d less =
    sym (ap (λ ys. entered found (flat_map f ys)) (drop-cons xs i d less)
    ∙ entered-append found (f (get_or xs i d)) (flat_map f (drop (suc i) xs))
    ∙ ap (λ n. entered (entered found (f (get_or xs i d))) (flat_map f (drop n xs))) (sym (add-one i)))

-- the same at an item that was read
pub entered_next : {A : Type 0} (f : A → List Fault) (before after whole : Option Fault) (xs items : List A) (i : ℕ) (x : A)
    → items ≡ xs → i < length items → x ≡ get_or items i x → after ≡ entered before (f x)
    → entered before (flat_map f (drop i xs)) ≡ whole → entered after (flat_map f (drop (i + 1) xs)) ≡ whole
entered_next f before after whole xs items i x same less read new so_far =
    let within : i < length xs = omega (arith, less, ap length same) in
    let item : x ≡ get_or xs i x = read ∙ ap (λ ys. get_or ys i x) same in
    ap (λ found. entered found (flat_map f (drop (i + 1) xs))) (new ∙ ap (λ y. entered before (f y)) item)
    ∙ (entered_step f before xs i x within ∙ so_far)
