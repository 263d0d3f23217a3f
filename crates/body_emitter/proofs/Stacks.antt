-- Stacks kept with the top last, and the marks of slots.
use Rattle.body_emitter.proofs.Common.{◌≡◌, ℕ, zero, suc, ◌+◌, ◌-◌, ◌<◌, ◌≤◌, true, List, [], ◌∷◌, ◌++◌, map, reverse, length, get_or, take}
use Rattle.body_emitter.proofs.Common.{drop, set, slice_get, Some, None, option_map, sym, refl, ap, ◌∙◌, subst, arith, length-drop}
use Rattle.body_emitter.proofs.Common.{take-append-drop, drop-append_seam, get_or-reverse, length-map, length-reverse}
use Rattle.body_emitter.proofs.Common.{reverse-append, take-append-le, slice_get-get_or, slice_get-map, slice_get_past, ValType}
use Rattle.body_emitter.proofs.Common.{aim_of, is_named, named_at, mark, no_mark, with_mark, Keeps, Mark, Operands, OpenBlock}

pub length_reversed : {A : Type 0} (xs : List A) → length xs ≡ length (reverse xs)
length_reversed xs = sym (length-reverse xs)

pub reverse_more : {A : Type 0} (xs : List A) (x : A) → reverse (xs ++ x ∷ []) ≡ x ∷ reverse xs
reverse_more xs x = reverse-append xs (x ∷ [])

pub drop_reversed : {A : Type 0} (xs : List A) (k : ℕ) → k ≤ length xs → reverse (take (length xs - k) xs) ≡ drop k (reverse xs)
drop_reversed {A} xs k h =
    let n : ℕ = length xs - k in
    let parts : reverse xs ≡ reverse (drop n xs) ++ reverse (take n xs) =
    ap (λ (ys : List A). reverse ys) (sym (take-append-drop n xs)) ∙ reverse-append (take n xs) (drop n xs) in
    let long : length (reverse (drop n xs)) ≡ k = length-reverse (drop n xs) ∙ length-drop n xs ∙ omega (arith, h) in
    sym (ap (λ (ys : List A). drop k ys) parts ∙ sym (ap (λ m. drop m (reverse (drop n xs) ++ reverse (take n xs))) long)
    ∙ drop-append_seam (reverse (drop n xs)) (reverse (take n xs)))

pub take_shorter : {A : Type 0} (xs : List A) (n m : ℕ) → n ≤ m → take n (take m xs) ≡ take n xs
take_shorter xs zero m h = refl
take_shorter [] (suc n) zero h = absurd (omega (arith, h))
take_shorter [] (suc n) (suc m) h = refl
take_shorter (x ∷ xs) (suc n) zero h = absurd (omega (arith, h))
take_shorter {A} (x ∷ xs) (suc n) (suc m) h = ap (λ (ys : List A). x ∷ ys) (take_shorter xs n m (omega (arith, h)))

pub take_more : {A : Type 0} (xs ys : List A) (n : ℕ) → n ≤ length xs → take n (xs ++ ys) ≡ take n xs
take_more xs ys n h = take-append-le n xs ys h

pub second_of : {A : Type 0} (xs : List A) (d : A) → 2 ≤ length xs → Some (get_or xs (length xs - 2) d) ≡ slice_get (reverse xs) 1
second_of xs d h =
    let long : 1 < length (reverse xs) = rw (length-reverse xs) (omega (arith, h)) in
    sym (slice_get-get_or (reverse xs) 1 d long
    ∙ ap Some (get_or-reverse xs 1 d (omega (arith, h)) ∙ ap (λ i. get_or xs i d) (omega (arith, h))))

pub mark_within : (t : ValType) (h : ℕ) (marks : List Mark) (d : Mark) → h < length marks
    → set marks h (with_mark t (get_or marks h d)) ≡ mark t h marks
mark_within t h [] d small = absurd (omega (arith, small))
mark_within t zero (m ∷ marks) d small = refl
mark_within t (suc h) (m ∷ marks) d small = ap (λ (ms : List Mark). m ∷ ms) (mark_within t h marks d (omega (arith, small)))

pub mark_past : (t : ValType) (h : ℕ) (marks : List Mark) → length marks ≤ h → marks ++ with_mark t no_mark ∷ [] ≡ mark t h marks
mark_past t h [] big = refl
mark_past t zero (m ∷ marks) big = absurd (omega (arith, big))
mark_past t (suc h) (m ∷ marks) big = ap (λ (ms : List Mark). m ∷ ms) (mark_past t h marks (omega (arith, big)))

pub under_of : {A : Type 0} (xs : List A) (k : ℕ) → length xs - k ≡ length (drop k xs)
under_of xs k = sym (length-drop k xs)

-- ---- open blocks

pub blocks_found : (bs : List OpenBlock) (k : ℕ) (d : OpenBlock) → k < length bs
    → Some (aim_of (get_or bs (length bs - 1 - k) d).target) ≡ slice_get (map (λ (b : OpenBlock). aim_of b.target) (reverse bs)) k
blocks_found bs k d h =
    sym (slice_get-map (λ (b : OpenBlock). aim_of b.target) (reverse bs) k
    ∙ ap (option_map (λ (b : OpenBlock). aim_of b.target))
    (slice_get-get_or (reverse bs) k d (rw (length-reverse bs) h) ∙ ap Some (get_or-reverse bs k d h)))

pub blocks_past : (bs : List OpenBlock) (k : ℕ) → length bs ≤ k → None ≡ slice_get (map (λ (b : OpenBlock). aim_of b.target) (reverse bs)) k
blocks_past bs k h = sym (slice_get_past (map (λ (b : OpenBlock). aim_of b.target) (reverse bs)) k (rw (length-map, length-reverse bs) h))

pub named_past : (bs : List OpenBlock) (k : ℕ) → length bs ≤ k → reverse bs ≡ named_at k (reverse bs)
named_past bs k h = beyond (reverse bs) k (rw (length-reverse bs) h)
  where
    beyond : (cs : List OpenBlock) (k : ℕ) → length cs ≤ k → cs ≡ named_at k cs
    beyond [] k h = refl
    beyond (c ∷ cs) zero h = absurd (omega (arith, h))
    beyond (c ∷ cs) (suc k) h = ap (λ (ds : List OpenBlock). c ∷ ds) (beyond cs k (omega (arith, h)))

abbrev as_named : OpenBlock → OpenBlock
as_named b = record { target = b.target; named = true }

named_before : (cs ds : List OpenBlock) (k : ℕ) → k < length cs → named_at k (cs ++ ds) ≡ named_at k cs ++ ds
named_before [] ds k h = absurd (omega (arith, h))
named_before (c ∷ cs) ds zero h = refl
named_before (c ∷ cs) ds (suc k) h = ap (λ (es : List OpenBlock). c ∷ es) (named_before cs ds k (omega (arith, h)))

named_last : (cs : List OpenBlock) (b : OpenBlock) (k : ℕ) → k ≡ length cs → named_at k (cs ++ b ∷ []) ≡ cs ++ as_named b ∷ []
named_last [] b zero e = refl
named_last [] b (suc k) e = absurd (omega (arith, e))
named_last (c ∷ cs) b zero e = absurd (omega (arith, e))
named_last (c ∷ cs) b (suc k) e = ap (λ (es : List OpenBlock). c ∷ es) (named_last cs b k (omega (arith, e)))

reverse_front : (b : OpenBlock) (bs : List OpenBlock) → reverse (b ∷ bs) ≡ reverse bs ++ b ∷ []
reverse_front b bs = reverse-append (b ∷ []) bs

named_at_place : (bs : List OpenBlock) (i k : ℕ) (d : OpenBlock) → suc (i + k) ≡ length bs
    → reverse (set bs i (as_named (get_or bs i d))) ≡ named_at k (reverse bs)
named_at_place [] i k d e = absurd (omega (arith, e))
named_at_place (b ∷ bs) zero k d e =
    reverse_front (as_named b) bs ∙ sym (named_last (reverse bs) b k (rw (length-reverse bs) (omega (arith, e))))
    ∙ ap (λ (cs : List OpenBlock). named_at k cs) (sym (reverse_front b bs))
named_at_place (b ∷ bs) (suc i) k d e =
    reverse_front b (set bs i (as_named (get_or bs i d)))
    ∙ ap (λ (cs : List OpenBlock). cs ++ b ∷ []) (named_at_place bs i k d (omega (arith, e)))
    ∙ sym (named_before (reverse bs) (b ∷ []) k (rw (length-reverse bs) (omega (arith, e))))
    ∙ ap (λ (cs : List OpenBlock). named_at k cs) (sym (reverse_front b bs))

pub named_within : (bs : List OpenBlock) (k : ℕ) (d : OpenBlock) → k < length bs
    → reverse (set bs (length bs - 1 - k) (record { target = (get_or bs (length bs - 1 - k) d).target; named = true }))
    ≡ named_at k (reverse bs)
named_within bs k d h = named_at_place bs (length bs - 1 - k) k d (omega (arith, h))

-- ---- what is kept

pub keeps_then : (a b c : Operands) → Keeps a b → Keeps b c → Keeps a c
keeps_then a b c h k = record {
  floor = k.floor ∙ h.floor;
  below = ap (λ n. take n c.types.items) (sym h.floor) ∙ k.below ∙ ap (λ n. take n b.types.items) h.floor ∙ h.below;
}

pub keeps_then_same : (a b c : Operands) → Keeps a b → c ≡ b → Keeps a c
keeps_then_same a b c h e = subst (λ (d : Operands). Keeps a d) (sym e) h

pub keeps_all : (a : Operands) → Keeps a a
keeps_all a = record { floor = refl; below = refl }

pub keeps_same : (a b : Operands) → b ≡ a → Keeps a b
keeps_same a b e = subst (λ (d : Operands). Keeps a d) (sym e) (keeps_all a)

pub same_then_keeps : (a b c : Operands) → b ≡ a → Keeps b c → Keeps a c
same_then_keeps a b c e h = subst (λ (d : Operands). Keeps d c) e h

pub last_is_first : (bs : List OpenBlock) (b : OpenBlock) → is_named (reverse (bs ++ b ∷ [])) ≡ b.named
last_is_first bs b = rw (reverse-append bs (b ∷ [])) refl
