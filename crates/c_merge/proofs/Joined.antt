-- The items of units, unit by unit.
use Rattle.c_merge.proofs.Common.{◌≡◌, ℕ, zero, suc, ◌+◌, ◌<◌, List, [], ◌∷◌, ◌++◌, map, length, get_or, take, slice_get, Some, sym, ap}
use Rattle.c_merge.proofs.Common.{◌∙◌, append_assoc, append-nil, arith, length-map, map-append, joined, Renaming}
use Rattle.std.proofs.Math.Seq.{take-length}
use Rattle.c_tree.specs.Tree as tree
use Rattle.c_renaming.specs.Renamed as renamed

joined_next : (ρ : Renaming) (v k : ℕ) (units : List (List tree.Item)) (items : List tree.Item) → slice_get units k ≡ Some items
    → joined ρ v (take (suc k) units) ≡ joined ρ v (take k units) ++ map (renamed.item ρ (v + k)) items
joined_next ρ v k [] items at = absurd cc
joined_next ρ v zero (x ∷ units) items at =
    let same : x ≡ items = cc in
    let e : v ≡ v + 0 = omega arith in
    append-nil (map (renamed.item ρ v) x) ∙ (λ i. map (renamed.item ρ (e i)) (same i))
joined_next ρ v (suc k) (x ∷ units) items at =
    let e : v + 1 + k ≡ v + suc k = omega arith in
    ap (λ l. map (renamed.item ρ v) x ++ l) (joined_next ρ (v + 1) k units items at)
    ∙ sym (append_assoc (map (renamed.item ρ v) x) (joined ρ (v + 1) (take k units)) (map (renamed.item ρ (v + 1 + k)) items))
    ∙ ap (λ n. joined ρ v (take (suc k) (x ∷ units)) ++ map (renamed.item ρ n) items) e

-- one more unit
pub units_next : (ρ : Renaming) (k : ℕ) (units : List (List tree.Item)) (items old new : List tree.Item) → slice_get units k ≡ Some items
    → new ≡ old ++ map (renamed.item ρ k) items → old ≡ joined ρ 0 (take k units) → new ≡ joined ρ 0 (take (k + 1) units)
units_next ρ k units items old new at put before =
    let e : 0 + k ≡ k = omega arith in
    let one : suc k ≡ k + 1 = omega arith in
    put
    ∙ ap (λ l. l ++ map (renamed.item ρ k) items) before
    ∙ ap (λ n. joined ρ 0 (take k units) ++ map (renamed.item ρ n) items) (sym e)
    ∙ sym (joined_next ρ 0 k units items at)
    ∙ ap (λ n. joined ρ 0 (take n units)) one

-- all of them
pub units_all : {A : Type 0} (ρ : Renaming) (f : A → List tree.Item) (k : ℕ) (units : List A) (all : List tree.Item) → k ≡ length units
    → all ≡ joined ρ 0 (take k (map f units)) → all ≡ joined ρ 0 (map f units)
units_all ρ f k units all end before =
    before ∙ ap (λ n. joined ρ 0 (take n (map f units))) (end ∙ sym (length-map units f)) ∙ ap (joined ρ 0) (take-length (map f units))

-- ---- lists that a loop makes

take_more : {X : Type 0} (xs : List X) (i : ℕ) (x : X) → i < length xs → x ≡ get_or xs i x → take (suc i) xs ≡ take i xs ++ x ∷ []
take_more [] i x less at = absurd (omega (arith, less))
take_more (y ∷ xs) zero x less at = ap (λ z. z ∷ []) (sym at)
take_more (y ∷ xs) (suc i) x less at = ap (λ l. y ∷ l) (take_more xs i x (omega (arith, less)) at)

-- one more, behind what was there at the start
pub pushed : {X A B V : Type 0} (view : V → B) (seen : X → A) (f : A → B) (xs : List X) (i : ℕ) (x : X) (v : V)
    (before after : List V) (start : List B)
    → i < length xs → x ≡ get_or xs i x → after ≡ before ++ v ∷ [] → view v ≡ f (seen x)
    → map view before ≡ start ++ map f (map seen (take i xs)) → map view after ≡ start ++ map f (map seen (take (i + 1) xs))
pushed view seen f xs i x v before after start less at grown is so_far =
    let one : suc i ≡ i + 1 = omega arith in
    ap (map view) grown
    ∙ map-append view before (v ∷ [])
    ∙ (λ j. so_far j ++ is j ∷ [])
    ∙ append_assoc start (map f (map seen (take i xs))) (f (seen x) ∷ [])
    ∙ ap (λ l. start ++ l) (sym (ap (map f) (map-append seen (take i xs) (x ∷ [])) ∙ map-append f (map seen (take i xs)) (seen x ∷ [])))
    ∙ ap (λ l. start ++ map f (map seen l)) (sym (take_more xs i x less at))
    ∙ ap (λ n. start ++ map f (map seen (take n xs))) one
