-- The items behind one more, of which none clash.
use Rattle.c_check.proofs.Common.{◌≡◌, ℕ, ◌+◌, ◌<◌, true, List, map, length, get_or, take, None, Option, sym, ap, ◌∙◌, item_of, Item}
use Rattle.c_check.proofs.Common.{none_clash_more, declared_once, item_breaks, none_clash, mapped_next}

pub taken : (xs ys : List Item) (i n : ℕ) → ys ≡ xs → n ≡ i + 1 → take (i + 1) (map item_of xs) ≡ take n (map item_of ys)
taken xs ys i n same next = ap (λ m. take m (map item_of xs)) (sym next) ∙ ap (λ (zs : List Item). take n (map item_of zs)) (sym same)

pub none_clash_next : (xs : List Item) (i : ℕ) (x : Item) → i < length xs → x ≡ get_or xs i x
    → item_breaks (record { unit = map item_of xs; number = i; item = item_of x }) ≡ None
    → none_clash (take i (map item_of xs)) ≡ true → none_clash (take (i + 1) (map item_of xs)) ≡ true
none_clash_next xs i x lt is e kept =
    ap none_clash (mapped_next item_of xs i x lt is)
    ∙ none_clash_more (item_of x) (take i (map item_of xs)) kept
    (declared_once (record { unit = map item_of xs; number = i; item = item_of x }) e)

-- what the items of a scope break is what those of the unit do
pub breaks_there : (xs ys : List Item) (i n : ℕ) (x : Item) (r o : Option ℕ) → ys ≡ xs → n ≡ i
    → r ≡ item_breaks (record { unit = map item_of ys; number = n; item = item_of x }) → r ≡ o
    → item_breaks (record { unit = map item_of xs; number = i; item = item_of x }) ≡ o
breaks_there xs ys i n x r o same at breaks is =
    ap (λ m. item_breaks (record { unit = map item_of xs; number = m; item = item_of x })) (sym at)
    ∙ ap (λ (zs : List Item). item_breaks (record { unit = map item_of zs; number = n; item = item_of x })) (sym same)
    ∙ sym breaks ∙ is
