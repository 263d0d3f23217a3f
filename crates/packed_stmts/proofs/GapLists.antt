-- Gaps in lists of statements, and the list that chunks, statements at hand and flags stand for.
use Rattle.packed_stmts.proofs.Common.{◌≡◌, ℕ, zero, suc, ◌+◌, ◌-◌, ◌<◌, ◌≤◌, Bool, true, false, List, [], ◌∷◌, ◌++◌, map, length}
use Rattle.packed_stmts.proofs.Common.{get_or, take, drop, set, sym, refl, ap, ◌∙◌, arith, length-drop, length-map, map-append, stmt_of}
use Rattle.packed_stmts.proofs.Common.{map-set, filter, Stmt, gap, is_written, written}
use Rattle.std.proofs.Common.{append_assoc, length-append, min, inl, inr}
use Rattle.std.specs.Prelude.{if◌then◌else◌}
use Rattle.std.proofs.lemmas.Bool.{cases_lt}
use Rattle.std.proofs.lemmas.List.{append-nil, drop-drop, drop_all, length-take-le, map_push, nil_from_length, set_past, take_all}
use Rattle.std.proofs.lemmas.List.{take_more}
use Rattle.std.proofs.lemmas.List.Concat.{flat_map-append}
use Rattle.std.proofs.lemmas.List.Elements.{filter-append}
use Rattle.c_tree.specs.Tree as tree
use Rattle.packed_stmts.specs.Listed.{with_gaps}
use Rattle.packed_stmts.specs.Chunk.{chunk_code, stmts_of, all_of}
use Rattle.packed_stmts.proofs.StatementAgain.{chunk_again}

pub gaps_length : (flags : List Bool) (xs : List tree.Stmt) → length (with_gaps flags xs) ≡ length xs
gaps_length [] xs = refl
gaps_length (b ∷ flags) [] = refl
gaps_length (b ∷ flags) (x ∷ xs) = ap suc (gaps_length flags xs)

gaps_more : (flags : List Bool) (xs : List tree.Stmt) (x : tree.Stmt) → length flags ≡ length xs
    → with_gaps (flags ++ false ∷ []) (xs ++ x ∷ []) ≡ with_gaps flags xs ++ x ∷ []
gaps_more [] [] x e = refl
gaps_more [] (y ∷ xs) x e = absurd (omega (arith, e))
gaps_more (b ∷ flags) [] x e = absurd (omega (arith, e))
gaps_more (b ∷ flags) (y ∷ xs) x e =
    ap (λ (zs : List tree.Stmt). (if b then gap else y) ∷ zs) (gaps_more flags xs x (omega (arith, e)))

gap_set : (flags : List Bool) (xs : List tree.Stmt) (i : ℕ) → i < length flags
    → with_gaps (set flags i true) xs ≡ set (with_gaps flags xs) i gap
gap_set [] xs i lt = absurd (omega (arith, lt))
gap_set (b ∷ flags) [] zero lt = refl
gap_set (b ∷ flags) [] (suc i) lt = refl
gap_set (b ∷ flags) (x ∷ xs) zero lt = refl
gap_set (b ∷ flags) (x ∷ xs) (suc i) lt =
    ap (λ (zs : List tree.Stmt). (if b then gap else x) ∷ zs) (gap_set flags xs i (omega (arith, lt)))

-- one more flag
pub gap_next : (flags : List Bool) (b : Bool) (xs : List tree.Stmt)
    → with_gaps (flags ++ b ∷ []) xs ≡ (if b then set (with_gaps flags xs) (length flags) gap else with_gaps flags xs)
gap_next [] true [] = refl
gap_next [] false [] = refl
gap_next [] true (x ∷ xs) = refl
gap_next [] false (x ∷ xs) = refl
gap_next (f ∷ flags) true [] = refl
gap_next (f ∷ flags) false [] = refl
gap_next (f ∷ flags) true (x ∷ xs) = ap (λ (zs : List tree.Stmt). (if f then gap else x) ∷ zs) (gap_next flags true xs)
gap_next (f ∷ flags) false (x ∷ xs) = ap (λ (zs : List tree.Stmt). (if f then gap else x) ∷ zs) (gap_next flags false xs)

-- flags past the end of the list count for nothing
pub gaps_enough : (flags : List Bool) (xs : List tree.Stmt) (i : ℕ) → length xs ≤ i → with_gaps (take i flags) xs ≡ with_gaps flags xs
gaps_enough [] xs zero le = refl
gaps_enough [] xs (suc i) le = refl
gaps_enough (b ∷ flags) [] zero le = refl
gaps_enough (b ∷ flags) [] (suc i) le = refl
gaps_enough (b ∷ flags) (x ∷ xs) zero le = absurd (omega (arith, le))
gaps_enough (b ∷ flags) (x ∷ xs) (suc i) le =
    ap (λ (zs : List tree.Stmt). (if b then gap else x) ∷ zs) (gaps_enough flags xs i (omega (arith, le)))

gaps_joined : (flags : List Bool) (xs ys : List tree.Stmt)
    → with_gaps flags (xs ++ ys) ≡ with_gaps flags xs ++ with_gaps (drop (length xs) flags) ys
gaps_joined [] [] ys = refl
gaps_joined [] (x ∷ xs) ys = refl
gaps_joined (b ∷ flags) [] ys = refl
gaps_joined (b ∷ flags) (x ∷ xs) ys = ap (λ (zs : List tree.Stmt). (if b then gap else x) ∷ zs) (gaps_joined flags xs ys)

-- a turn of the loop that puts gaps
pub put_next : (flags : List Bool) (i place : ℕ) (d : Bool) (now new : List Stmt) (first : List tree.Stmt) → i < length flags → place ≡ i
    → map stmt_of now ≡ with_gaps (take i flags) first
    → map stmt_of new ≡ (if get_or flags i d then set (map stmt_of now) place gap else map stmt_of now)
    → map stmt_of new ≡ with_gaps (take (i + 1) flags) first
put_next flags i place d now new first lt at so_far h =
    let b = get_or flags i d in
    let before = with_gaps (take i flags) first in
    let len : length (take i flags) ≡ place = length-take-le i flags (omega (arith, lt)) ∙ sym at in
    h ∙ ap (λ (xs : List tree.Stmt). if b then set xs place gap else xs) so_far
    ∙ ap (λ (k : ℕ). if b then set before k gap else before) (sym len)
    ∙ sym (gap_next (take i flags) b first)
    ∙ ap (λ (fs : List Bool). with_gaps fs first) (sym (take_more flags i d lt))

-- its end, where no statement is left
pub put_enough : (flags : List Bool) (i place : ℕ) (now : List Stmt) (first : List tree.Stmt) → place ≡ i → place ≡ length now
    → map stmt_of now ≡ with_gaps (take i flags) first
    → map stmt_of now ≡ with_gaps flags first
put_enough flags i place now first at end so_far =
    let len : length (map stmt_of now) ≡ length (with_gaps (take i flags) first) = ap length so_far in
    so_far ∙ gaps_enough flags first i (omega (arith, at, end, len, gaps_length (take i flags) first, length-map now stmt_of))

-- ---- statements that are packed

all_of_more : (chunks : List (List ℕ)) (xs : List tree.Stmt) → all_of (chunks ++ chunk_code xs ∷ []) ≡ all_of chunks ++ xs
all_of_more chunks xs =
    flat_map-append stmts_of chunks (chunk_code xs ∷ [])
    ∙ ap (λ (ys : List tree.Stmt). all_of chunks ++ ys) (append-nil (stmts_of (chunk_code xs)) ∙ chunk_again xs)

pub packed_length : (chunks : List (List ℕ)) (recent : List Stmt)
    → length (all_of (chunks ++ chunk_code (map stmt_of recent) ∷ [])) ≡ length (all_of chunks) + length recent
packed_length chunks recent =
    rw (all_of_more chunks (map stmt_of recent)) (omega (
      arith,
      length-append (all_of chunks) (map stmt_of recent),
      length-map recent stmt_of,
    ))

pub packed_whole : (flags : List Bool) (chunks : List (List ℕ)) (recent : List Stmt)
    → with_gaps flags (all_of (chunks ++ chunk_code (map stmt_of recent) ∷ []) ++ [])
    ≡ with_gaps flags (all_of chunks ++ map stmt_of recent)
packed_whole flags chunks recent =
    ap (with_gaps flags) (append-nil (all_of (chunks ++ chunk_code (map stmt_of recent) ∷ [])) ∙ all_of_more chunks (map stmt_of recent))

listed_count : (chunks : List (List ℕ)) (recent : List Stmt)
    → length (all_of chunks ++ map stmt_of recent) ≡ length (all_of chunks) + length recent
listed_count chunks recent = omega (arith, length-append (all_of chunks) (map stmt_of recent), length-map recent stmt_of)

pub listed_length : (flags : List Bool) (chunks : List (List ℕ)) (recent : List Stmt)
    → length flags ≡ length (all_of chunks) + length recent
    → length flags ≡ length (with_gaps flags (all_of chunks ++ map stmt_of recent))
listed_length flags chunks recent e =
    omega (arith, e, gaps_length flags (all_of chunks ++ map stmt_of recent), listed_count chunks recent)

pub listed_more : (flags : List Bool) (chunks : List (List ℕ)) (recent : List Stmt) (s : Stmt)
    → length flags ≡ length (all_of chunks) + length recent
    → with_gaps (flags ++ false ∷ []) (all_of chunks ++ map stmt_of (recent ++ s ∷ []))
    ≡ with_gaps flags (all_of chunks ++ map stmt_of recent) ++ stmt_of s ∷ []
listed_more flags chunks recent s e =
    ap (λ (xs : List tree.Stmt). with_gaps (flags ++ false ∷ []) (all_of chunks ++ xs)) (map_push stmt_of recent s)
    ∙ ap (with_gaps (flags ++ false ∷ [])) (sym (append_assoc (all_of chunks) (map stmt_of recent) (stmt_of s ∷ [])))
    ∙ gaps_more flags (all_of chunks ++ map stmt_of recent) (stmt_of s) (e ∙ sym (listed_count chunks recent))

pub listed_set : (flags : List Bool) (xs : List tree.Stmt) (place : ℕ) → place < length flags
    → with_gaps (set flags place true) xs ≡ set (with_gaps flags xs) place gap
listed_set flags xs place lt = gap_set flags xs place lt

pub listed_past : (flags : List Bool) (chunks : List (List ℕ)) (recent : List Stmt) (place : ℕ)
    → length flags ≡ length (all_of chunks) + length recent
    → length flags ≤ place
    → with_gaps flags (all_of chunks ++ map stmt_of recent) ≡ set (with_gaps flags (all_of chunks ++ map stmt_of recent)) place gap
listed_past flags chunks recent place e past =
    let count = listed_length flags chunks recent e in
    sym (set_past (with_gaps flags (all_of chunks ++ map stmt_of recent)) place gap (omega (arith, count, past)))

-- ---- lists that are given in parts

drop_to : {A : Type 0} (xs : List A) (a to : ℕ) → to ≡ min a (length xs) → drop to xs ≡ drop a xs
drop_to {A} xs a to e =
    elim (cases_lt a (length xs)) [
      | inl lt ↦ let same : to ≡ a = omega (arith, e, lt) in ap (λ (k : ℕ). drop k xs) same
      | inr le ↦ drop_all to xs (omega (arith, e, le)) ∙ sym (drop_all a xs le)
    ]

-- all that stands from a place on, as a slice of a vector
pub cut_all : {A : Type 0} (xs ys : List A) (i : ℕ) → ys ≡ xs → take (length ys - i) (drop i ys) ≡ drop i xs
cut_all xs ys i e = take_all (length ys - i) (drop i ys) (omega (arith, length-drop i ys)) ∙ ap (drop i) e

-- the statements of a chunk, and those behind it
pub next_left : (flags : List Bool) (from to : ℕ) (stmts : List Stmt) (chunks : List (List ℕ)) (taken : ℕ) (chunk : List ℕ)
    (ys : List tree.Stmt)
    → to ≡ min (from + length stmts) (length flags)
    → drop taken chunks ≡ chunk ∷ drop (taken + 1) chunks
    → map stmt_of stmts ≡ stmts_of chunk
    → written (with_gaps (drop from flags) (all_of (drop taken chunks) ++ ys))
    ≡ written (with_gaps (drop from flags) (map stmt_of stmts))
    ++ written (with_gaps (drop to flags) (all_of (drop (taken + 1) chunks) ++ ys))
next_left flags from to stmts chunks taken chunk ys at front is =
    let xs = map stmt_of stmts in
    let count : length xs ≡ length stmts = length-map stmts stmt_of in
    let rest = all_of (drop (taken + 1) chunks) in
    let whole : all_of (drop taken chunks) ++ ys ≡ xs ++ (rest ++ ys) =
    ap (λ (cs : List (List ℕ)). all_of cs ++ ys) front ∙ ap (λ (zs : List tree.Stmt). (zs ++ rest) ++ ys) (sym is)
    ∙ append_assoc xs rest ys in
    let behind : drop (length xs) (drop from flags) ≡ drop to flags =
    drop-drop (length xs) from flags ∙ sym (drop_to flags (from + length xs) to (rw count at)) in
    ap (λ (zs : List tree.Stmt). written (with_gaps (drop from flags) zs)) whole
    ∙ ap written (gaps_joined (drop from flags) xs (rest ++ ys))
    ∙ filter-append is_written (with_gaps (drop from flags) xs) (with_gaps (drop (length xs) (drop from flags)) (rest ++ ys))
    ∙ ap (λ (fs : List Bool). written (with_gaps (drop from flags) xs) ++ written (with_gaps fs (rest ++ ys))) behind

-- statements that were given, and the rest
pub given_then : (part : List tree.Stmt) (cut flags : List Bool) (stmts same : List Stmt) (rest : List tree.Stmt)
    → part ≡ written (with_gaps cut (map stmt_of stmts)) → cut ≡ flags → stmts ≡ same
    → written (with_gaps flags (map stmt_of same)) ++ rest ≡ part ++ rest
given_then part cut flags stmts same rest is of_flags of_stmts =
    ap (λ (xs : List tree.Stmt). xs ++ rest) (sym (is ∙ ap (λ (fs : List Bool). written (with_gaps fs (map stmt_of stmts))) of_flags
    ∙ ap (λ (ss : List Stmt). written (with_gaps flags (map stmt_of ss))) of_stmts))

gaps_none : (flags : List Bool) → with_gaps flags [] ≡ []
gaps_none [] = refl
gaps_none (b ∷ flags) = refl

-- those behind all chunks
pub last_left : (flags : List Bool) (place : ℕ) (chunks : List (List ℕ)) (taken : ℕ) (recent new : List Stmt) → length chunks ≤ taken
    → new ≡ []
    → written (with_gaps (drop place flags) (all_of (drop taken chunks) ++ map stmt_of recent))
    ≡ written (with_gaps (drop place flags) (map stmt_of recent))
    ++ written (with_gaps (drop place flags) (all_of (drop taken chunks) ++ map stmt_of new))
last_left flags place chunks taken recent new past none =
    rw (drop_all taken chunks past, none, gaps_none (drop place flags))
    (sym (append-nil (written (with_gaps (drop place flags) (map stmt_of recent)))))

pub none_left : (flags : List Bool) (place : ℕ) (chunks : List (List ℕ)) (taken : ℕ) (recent : List Stmt) → length chunks ≤ taken
    → length recent ≡ 0
    → written (with_gaps (drop place flags) (all_of (drop taken chunks) ++ map stmt_of recent)) ≡ []
none_left flags place chunks taken recent past none =
    rw (drop_all taken chunks past, nil_from_length recent none, gaps_none (drop place flags)) refl

-- ---- parts that are put one behind another

pub one_part : (all part : List Stmt) (old new total : List tree.Stmt) → old ≡ map stmt_of part ++ new → map stmt_of all ++ old ≡ total
    → map stmt_of (all ++ part) ++ new ≡ total
one_part all part old new total next so_far =
    rw (map-append stmt_of all part, append_assoc (map stmt_of all) (map stmt_of part) new, ← next) so_far

pub no_part : (all : List Stmt) (old total : List tree.Stmt) → old ≡ [] → map stmt_of all ++ old ≡ total → map stmt_of all ≡ total
no_part all old total end so_far =
    sym (append-nil (map stmt_of all)) ∙ ap (λ (xs : List tree.Stmt). map stmt_of all ++ xs) (sym end) ∙ so_far

-- ---- in a list of the program

pub set_mapped : (stmts : List Stmt) (place : ℕ) (s : Stmt) → map stmt_of (set stmts place s) ≡ set (map stmt_of stmts) place (stmt_of s)
set_mapped stmts place s = map-set stmt_of stmts place s

pub gap_past : (stmts : List Stmt) (place : ℕ) → length stmts ≤ place → map stmt_of stmts ≡ set (map stmt_of stmts) place gap
gap_past stmts place past = sym (beyond (map stmt_of stmts) place (rw length-map past))
  where
    beyond : (xs : List tree.Stmt) (i : ℕ) → length xs ≤ i → set xs i gap ≡ xs
    beyond [] i h = refl
    beyond (x ∷ xs) zero h = absurd (omega (arith, h))
    beyond (x ∷ xs) (suc i) h = ap (λ (ys : List tree.Stmt). x ∷ ys) (beyond xs i (omega (arith, h)))

pub map_filtered : (stmts : List Stmt) → map stmt_of (filter (λ (s : Stmt). is_written (stmt_of s)) stmts) ≡ written (map stmt_of stmts)
map_filtered [] = refl
map_filtered (s ∷ stmts) = by_test (is_written (stmt_of s)) refl (map_filtered stmts)
  where
    by_test : (b : Bool) → is_written (stmt_of s) ≡ b
        → map stmt_of (filter (λ (z : Stmt). is_written (stmt_of z)) stmts) ≡ written (map stmt_of stmts)
        → map stmt_of (filter (λ (z : Stmt). is_written (stmt_of z)) (s ∷ stmts)) ≡ written (map stmt_of (s ∷ stmts))
    by_test true e rest = rw e (ap (λ (others : List tree.Stmt). stmt_of s ∷ others) rest)
    by_test false e rest = rw e rest
