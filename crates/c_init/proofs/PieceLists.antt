-- Elements by their places in segments: what stands behind so many of them, and what is taken of them segment by segment.
use Rattle.std.proofs.Common.{take, ◌-◌, ◌==◌, min, nat_lt}
use Rattle.std.proofs.lemmas.Bool.Decides.{nat_tests}
use Rattle.std.proofs.lemmas.List.{length-drop}
use Rattle.c_init.proofs.Common.{◌≡◌, ℕ, zero, suc, ◌+◌, ◌<◌, ◌≤◌, List, [], ◌∷◌, ◌++◌, length, map, get_or, drop, flat_map, sym, refl, ap}
use Rattle.c_init.proofs.Common.{◌∙◌, subst, append_assoc, append-nil, arith, length-append, length-map, map_push, at_front, numbered}
use Rattle.c_init.proofs.Common.{AllByRecursion, Module, Bool, true, false, cond, filter, list_any, if◌then◌else◌, SegmentEntry}
use Rattle.c_init.proofs.Common.{write_element}
use Rattle.std.proofs.lemmas.List.{map-append}
use Rattle.w2c_base.proofs.NumberedLists.{numbered_many}
use Rattle.wasm_tree.specs.declared.entries.ElementEntry.{ElementEntry}
use Rattle.wasm_tree.specs.declared.entries.FuncRef.{FuncRef}
use Rattle.w2c_base.proofs.Tests.{same_tests}
use Rattle.std.specs.Borrow.{Bor}
use Rattle.c_init.specs.Init.{Element, Part, bytes_part, elements_in, has_bytes, most, pieces, some_bytes, write_one}
use Rattle.c_init.specs.Portions.{bytes_if, elements_behind, IsOf, Owns, Starts, numbered_from, part_of}
use Rattle.c_init.specs.declared.portion.Portion.{Portion}
use Rattle.c_init.specs.declared.portion.Portion.TheVariants.{Bytes}
use Rattle.c_init.proofs.PieceCounts.{behind_at_most, behind_numbered, numbered_piece, pieces_none, take_numbered}

pub many_in : (e : ElementEntry) → length (elements_in e) ≡ length e.funcs
many_in e = length-map (numbered e.funcs) (λ f. (e, f)) ∙ numbered_many 0 e.funcs

-- what is dropped of two lists is dropped of the first, and then of the second
pub drop_both : {A : Type 0} (n : ℕ) (xs ys : List A) → drop n (xs ++ ys) ≡ drop n xs ++ drop (n - length xs) ys
drop_both zero [] ys = let e : 0 ≡ 0 - 0 = omega arith in ap (λ k. drop k ys) e
drop_both zero (x ∷ xs) ys = let e : 0 ≡ 0 - suc (length xs) = omega arith in ap (λ k. x ∷ (xs ++ drop k ys)) e
drop_both (suc n) [] ys = let e : suc n ≡ suc n - 0 = omega arith in ap (λ k. drop k ys) e
drop_both (suc n) (x ∷ xs) ys =
    let e : n - length xs ≡ suc n - suc (length xs) = omega arith in
    drop_both n xs ys ∙ ap (λ k. drop n xs ++ drop k ys) e

-- and so is what is taken
pub take_both : {A : Type 0} (n : ℕ) (xs ys : List A) → take n (xs ++ ys) ≡ take n xs ++ take (n - length xs) ys
take_both zero [] ys = let e : 0 ≡ 0 - 0 = omega arith in ap (λ k. take k ys) e
take_both zero (x ∷ xs) ys = let e : 0 ≡ 0 - suc (length xs) = omega arith in ap (λ k. take k ys) e
take_both (suc n) [] ys = let e : suc n ≡ suc n - 0 = omega arith in ap (λ k. take k ys) e
take_both (suc n) (x ∷ xs) ys =
    let e : n - length xs ≡ suc n - suc (length xs) = omega arith in
    ap (λ zs. x ∷ zs) (take_both n xs ys ∙ ap (λ k. take n xs ++ take k ys) e)

pub drop_short : {A : Type 0} (n : ℕ) (xs : List A) → length xs ≤ n → drop n xs ≡ []
drop_short zero [] le = refl
drop_short zero (x ∷ xs) le = absurd (omega (arith, le))
drop_short (suc n) [] le = refl
drop_short (suc n) (x ∷ xs) le = drop_short n xs (omega (arith, le))

-- a segment that has no more than are to be passed from a number on is passed
pub segment_passed : (e : ElementEntry) (es : List ElementEntry) (number left : ℕ) → length e.funcs - number ≤ left
    → drop left (elements_behind number (e ∷ es))
    ≡ drop (left - (length e.funcs - number)) (elements_behind (number - length e.funcs) es)
segment_passed e es number left le =
    let some = drop number (elements_in e) in
    let others = flat_map elements_in es in
    let count : length some ≡ length e.funcs - number = length-drop number (elements_in e) ∙ ap (λ k. k - number) (many_in e) in
    let behind = drop (number - length (elements_in e)) others in
    ap (drop left) (drop_both number (elements_in e) others)
    ∙ drop_both left some behind
    ∙ ap (λ xs. xs ++ drop (left - length some) behind) (drop_short left some (omega (arith, count, le)))
    ∙ ap (λ k. drop (left - k) behind) count
    ∙ ap (λ k. drop (left - (length e.funcs - number)) (drop (number - k) others)) (many_in e)

pub passed_next : (segments : List ElementEntry) (i number left many there : ℕ) (e : ElementEntry) (whole : List Element)
    → i < length segments → e ≡ get_or segments i e → many ≡ length e.funcs → there ≡ many - number → there ≤ left
    → drop left (elements_behind number (drop i segments)) ≡ whole
    → drop (left - there) (elements_behind (number - many) (drop (i + 1) segments)) ≡ whole
passed_next segments i number left many there e whole less is count from le so_far =
    let here : there ≡ length e.funcs - number = from ∙ ap (λ k. k - number) count in
    ap (λ k. drop (left - k) (elements_behind (number - many) (drop (i + 1) segments))) here
    ∙ ap (λ k. drop (left - (length e.funcs - number)) (elements_behind (number - k) (drop (i + 1) segments))) count
    ∙ sym (segment_passed e (drop (i + 1) segments) number left (omega (arith, here, le)))
    ∙ ap (λ es. drop left (elements_behind number es)) (sym (at_front segments i e less is)) ∙ so_far

-- where no segment is left, nothing stands behind
pub all_passed : (segments : List ElementEntry) (i number left : ℕ) (whole : List Element) → length segments ≤ i
    → drop left (elements_behind number (drop i segments)) ≡ whole → [] ≡ whole
all_passed segments i number left whole past so_far =
    sym (ap (λ es. drop left (elements_behind number es)) (drop_short i segments past)
    ∙ ap (drop left) (drop_short number [] (omega arith))
    ∙ drop_short left [] (omega arith)) ∙ so_far

-- what is taken of the elements from one on: of the first segment, and of those behind it
pub taken_next : (e : ElementEntry) (es : List ElementEntry) (left start : ℕ)
    → take left (elements_behind start (e ∷ es))
    ≡ take left (drop start (elements_in e)) ++ take (left - (length e.funcs - start)) (elements_behind (start - length e.funcs) es)
taken_next e es left start =
    let some = drop start (elements_in e) in
    let others = flat_map elements_in es in
    let count : length some ≡ length e.funcs - start = length-drop start (elements_in e) ∙ ap (λ k. k - start) (many_in e) in
    ap (take left) (drop_both start (elements_in e) others)
    ∙ take_both left some (drop (start - length (elements_in e)) others)
    ∙ ap (λ k. take left some ++ take (left - k) (drop (start - length (elements_in e)) others)) count
    ∙ ap (λ k. take left some ++ take (left - (length e.funcs - start)) (drop (start - k) others)) (many_in e)

-- the same of what is made of them
pub made_next : {B : Type 0} (f : Element → B) (segments : List ElementEntry) (i left start : ℕ) (e : ElementEntry)
    (before after whole : List B)
    → i < length segments → e ≡ get_or segments i e
    → after ≡ before ++ map f (take left (drop start (elements_in e)))
    → before ++ map f (take left (elements_behind start (drop i segments))) ≡ whole
    → after ++ map f (take (left - (length e.funcs - start)) (elements_behind (start - length e.funcs) (drop (i + 1) segments))) ≡ whole
made_next f segments i left start e before after whole less is grown so_far =
    let some = take left (drop start (elements_in e)) in
    let others = take (left - (length e.funcs - start)) (elements_behind (start - length e.funcs) (drop (i + 1) segments)) in
    ap (λ made. made ++ map f others) grown
    ∙ append_assoc before (map f some) (map f others)
    ∙ ap (λ made. before ++ made) (sym (map-append f some others))
    ∙ ap (λ xs. before ++ map f xs) (sym (taken_next e (drop (i + 1) segments) left start))
    ∙ ap (λ es. before ++ map f (take left (elements_behind start es))) (sym (at_front segments i e less is)) ∙ so_far

-- ---- lists with something left, or nothing

pub is_none_left : {A : Type 0} (xs : List A) (empty : Bool) → empty ≡ (length xs == 0) → empty ≡ true → length xs ≤ 0
is_none_left [] empty is none = omega arith
is_none_left (x ∷ xs) empty is none = absurd (grind (arith, nat_tests, is, none))

pub is_some_left : {A : Type 0} (xs : List A) (empty : Bool) → empty ≡ (length xs == 0) → empty ≡ false → 0 < length xs
is_some_left [] empty is some = absurd (grind (arith, nat_tests, is, some))
is_some_left (x ∷ xs) empty is some = omega arith

-- ---- portions that are made of pieces

-- one more is made, of the first piece of what is left
pub part_put : {P V B : Type 0} (g : V → B) (f : P → B) (made after : List V) (v : V) (p : P) (before left : List P) (whole : List B)
    → after ≡ made ++ v ∷ [] → g v ≡ f p → before ≡ p ∷ left → map g made ++ map f before ≡ whole → map g after ++ map f left ≡ whole
part_put g f made after v p before left whole grown is split so_far =
    ap (λ ys. map g ys ++ map f left) grown
    ∙ ap (λ ys. ys ++ map f left) (map_push g made v)
    ∙ append_assoc (map g made) (g v ∷ []) (map f left)
    ∙ ap (λ y. map g made ++ y ∷ map f left) is
    ∙ ap (λ ps. map g made ++ map f ps) (sym split) ∙ so_far

-- nothing is left
pub parts_put : {P V B : Type 0} (g : V → B) (f : P → B) (made : List V) (left : List P) (whole : List B) → left ≡ []
    → map g made ++ map f left ≡ whole → map g made ≡ whole
parts_put g f made left whole none so_far =
    sym (append-nil (map g made)) ∙ ap (λ ps. map g made ++ map f ps) (sym none) ∙ so_far

pub no_pieces : {A : Type 0} (xs : List A) → length xs ≤ 0 → pieces xs ≡ []
no_pieces [] le = pieces_none
no_pieces (x ∷ xs) le = absurd (omega (arith, le))

pub none_numbered : {A : Type 0} (k : ℕ) (xs : List A) → length xs ≤ 0 → pieces (numbered_from k xs) ≡ []
none_numbered k [] le = pieces_none
none_numbered k (x ∷ xs) le = absurd (omega (arith, le))

-- one more that is the module's
pub own_push : (m : Module) (first made after : List Portion) (p : Portion) → after ≡ made ++ p ∷ [] → IsOf m p → Owns m first made
    → Owns m first after
own_push m first made after p grown is so_far all =
    subst (AllByRecursion (IsOf m)) (sym grown) (push made (so_far all))
  where
    push : (xs : List Portion) → AllByRecursion (IsOf m) xs → AllByRecursion (IsOf m) (xs ++ p ∷ [])
    push [] h = (is, tt)
    push (x ∷ xs) h = (h.0, push xs h.1)

five : {A : Type 0} (a b c d e : List A) → ((((a ++ b) ++ c) ++ d) ++ e) ≡ a ++ (b ++ (c ++ (d ++ e)))
five a b c d e = simp append_assoc

-- five kinds, one behind another
pub five_put : {V B : Type 0} (g : V → B) (none first second third fourth whole : List V) (a b c d e : List B) → none ≡ []
    → map g first ≡ map g none ++ a → map g second ≡ map g first ++ b → map g third ≡ map g second ++ c
    → map g fourth ≡ map g third ++ d → map g whole ≡ map g fourth ++ e
    → map g whole ≡ a ++ (b ++ (c ++ (d ++ e)))
five_put g none first second third fourth whole a b c d e empty put_a put_b put_c put_d put_e =
    put_e
    ∙ ap (λ ys. ys ++ e) (put_d ∙ ap (λ ys. ys ++ d) (put_c ∙ ap (λ ys. ys ++ c) (put_b ∙ ap (λ ys. ys ++ b)
    (put_a ∙ ap (λ ys. map g ys ++ a) empty))))
    ∙ five a b c d e

pub none_own : (m : Module) (made : List Portion) → made ≡ [] → AllByRecursion (IsOf m) made
none_own m [] none = tt
none_own m (p ∷ made) none = absurd cc

-- where the first segment has an element with this number, some are left
pub some_left : (elements : List ElementEntry) (number : ℕ) → 0 < length elements → Starts number elements
    → 0 < length (elements_behind number elements)
some_left [] number some starts = absurd (omega (arith, some))
some_left (e ∷ elements) number some starts =
    let n = length-drop number (flat_map elements_in (e ∷ elements)) in
    let both = length-append (elements_in e) (flat_map elements_in elements) in
    let first = many_in e in
    omega (arith, n, both, first, starts)

pub none_left : (elements : List ElementEntry) (number : ℕ) → length elements ≤ 0 → elements_behind number elements ≡ []
none_left [] number le = drop_short number [] (omega arith)
none_left (e ∷ elements) number le = absurd (omega (arith, le))

-- there are more than so many where some stand behind them
more_behind : (segments rest : List ElementEntry) (number count : ℕ)
    → elements_behind number rest ≡ drop count (flat_map elements_in segments) → Starts number rest
    → (0 < length rest → count < length (flat_map elements_in segments))
    × (count < length (flat_map elements_in segments) → 0 < length rest)
more_behind segments [] number count is starts =
    let left = length-drop count (flat_map elements_in segments) in
    let none = ap length (sym is ∙ drop_short number [] (omega arith)) in
    ((λ some. absurd (omega (arith, some))), λ more. absurd (omega (arith, left, none, more)))
more_behind segments (e ∷ rest) number count is starts =
    let left = length-drop count (flat_map elements_in segments) in
    let same = ap length is in
    let some = some_left (e ∷ rest) number (omega arith) starts in
    ((λ there. omega (arith, left, same, some)), λ more. omega arith)

pub many_there : (segments rest : List ElementEntry) (number n : ℕ) → n ≡ length rest
    → elements_behind number rest ≡ drop most (elements_behind 0 segments) → Starts number rest
    → nat_lt 0 n ≡ nat_lt most (length (flat_map elements_in segments))
many_there segments rest number n count is starts =
    let both = more_behind segments rest number most is starts in
    same_tests _ _
    (λ some.
    let there : 0 < length rest = grind (arith, nat_tests, some, count) in
    let more = both.0 there in
    grind (arith, nat_tests, more))
    (λ many.
    let more : most < length (flat_map elements_in segments) = grind (arith, nat_tests, many) in
    let there = both.1 more in
    grind (arith, nat_tests, there, count))

-- no segment is left
pub none_behind : (segments : List ElementEntry) (i start left : ℕ) → length segments ≤ i
    → take left (elements_behind start (drop i segments)) ≡ []
none_behind segments i start left past =
    ap (λ es. take left (elements_behind start es)) (drop_short i segments past)
    ∙ ap (take left) (drop_short start [] (omega arith)) ∙ take_none left
  where
    take_none : (n : ℕ) → take {A = Element} n [] ≡ []
    take_none zero = refl
    take_none (suc n) = refl

-- ---- what is written of a segment's elements

mapped_behind : {A B : Type 0} (f : A → B) (n : ℕ) (xs : List A) → drop n (map f xs) ≡ map f (drop n xs)
mapped_behind f zero xs = refl
mapped_behind f (suc n) [] = refl
mapped_behind f (suc n) (x ∷ xs) = mapped_behind f n xs

mapped_first : {A B : Type 0} (f : A → B) (n : ℕ) (xs : List A) → take n (map f xs) ≡ map f (take n xs)
mapped_first f zero xs = refl
mapped_first f (suc n) [] = refl
mapped_first f (suc n) (x ∷ xs) = ap (λ ys. f x ∷ ys) (mapped_first f n xs)

written_each : (m : Module) (e : ElementEntry) (fs : List (ℕ × FuncRef))
    → map (write_one m) (map (λ f. (e, f)) fs) ≡ map (λ f. write_element m e.offset f.0 f.1.index) fs
written_each m e [] = refl
written_each m e (f ∷ fs) = ap (λ ss. write_element m e.offset f.0 f.1.index ∷ ss) (written_each m e fs)

pub some_written : (m : Module) (e : ElementEntry) (begin start left : ℕ) (some : List FuncRef)
    → begin ≡ min (length e.funcs) start → some ≡ take left (drop begin e.funcs)
    → map (write_one m) (take left (drop start (elements_in e)))
    ≡ map (λ f. write_element m e.offset f.0 f.1.index) (numbered_from begin some)
some_written m e begin start left some least is =
    let ns : List (ℕ × FuncRef) = numbered e.funcs in
    let many : length ns ≡ length e.funcs = numbered_many 0 e.funcs in
    let front : drop start ns ≡ drop begin ns =
    sym (behind_at_most start ns) ∙ ap (λ k. drop (min k start) ns) many ∙ ap (λ k. drop k ns) (sym least) in
    let from : 0 + begin ≡ begin = omega arith in
    ap (λ es. map (write_one m) (take left es)) (mapped_behind (λ f. (e, f)) start ns)
    ∙ ap (map (write_one m)) (mapped_first (λ f. (e, f)) left (drop start ns))
    ∙ written_each m e (take left (drop start ns))
    ∙ ap (λ fs. map (λ f. write_element m e.offset f.0 f.1.index) (take left fs))
    (front ∙ behind_numbered begin 0 e.funcs ∙ ap (λ k. numbered_from k (drop begin e.funcs)) from)
    ∙ ap (map (λ f. write_element m e.offset f.0 f.1.index)) (take_numbered left begin (drop begin e.funcs))
    ∙ ap (λ fs. map (λ f. write_element m e.offset f.0 f.1.index) (numbered_from begin fs)) (sym is)

-- ---- pieces of data segments, where they have bytes

-- a piece is passed, or put
pub bytes_put : (m : Module) (made after : List Portion) (from : ℕ) (piece : Bor (List SegmentEntry)) (first : List SegmentEntry)
    (before left : List (List (ℕ × SegmentEntry))) (whole : List Part)
    → after ≡ made ++ bytes_if from piece → piece.now ≡ first → before ≡ numbered_from from first ∷ left
    → map (part_of m) made ++ map (bytes_part m) (filter some_bytes before) ≡ whole
    → map (part_of m) after ++ map (bytes_part m) (filter some_bytes left) ≡ whole
bytes_put m made after from piece first before left whole grown is split so_far =
    let others : List Part = map (bytes_part m) (filter some_bytes left) in
    ap (λ ys. map (part_of m) ys ++ others) grown
    ∙ ap (λ ys. ys ++ others) (map-append (part_of m) made (bytes_if from piece))
    ∙ append_assoc (map (part_of m) made) (map (part_of m) (bytes_if from piece)) others
    ∙ ap (λ ys. map (part_of m) made ++ ys) (by (list_any has_bytes piece.now) (some_bytes (numbered_from from first)) same)
    ∙ ap (λ ps. map (part_of m) made ++ map (bytes_part m) (filter some_bytes ps)) (sym split) ∙ so_far
  where
    same : list_any has_bytes piece.now ≡ some_bytes (numbered_from from first)
    same = ap (list_any has_bytes) is ∙ sym (numbered_piece has_bytes from first)

    by : (b c : Bool) → b ≡ c
        → map (part_of m) (if b then Bytes from piece ∷ [] else []) ++ map (bytes_part m) (filter some_bytes left)
        ≡ map (bytes_part m) (cond c (numbered_from from first ∷ filter some_bytes left) (filter some_bytes left))
    by true true e = ap (λ ys. bytes_part m (numbered_from from ys) ∷ map (bytes_part m) (filter some_bytes left)) is
    by true false e = absurd cc
    by false true e = absurd cc
    by false false e = refl

pub own_bytes : (m : Module) (first made after : List Portion) (from : ℕ) (piece : Bor (List SegmentEntry))
    → after ≡ made ++ bytes_if from piece → from + length piece.now ≤ length m.segments → Owns m first made → Owns m first after
own_bytes m first made after from piece grown is so_far = by (list_any has_bytes piece.now) grown
  where
    by : (b : Bool) → after ≡ made ++ (if b then Bytes from piece ∷ [] else []) → Owns m first after
    by true e = own_push m first made after (Bytes from piece) e is so_far
    by false e = λ all. subst (AllByRecursion (IsOf m)) (sym (e ∙ append-nil made)) (so_far all)
