-- Names that are put to their places beside their lengths.
use Rattle.crun_lines.proofs.Common.{◌≡◌, ℕ, ◌+◌, ◌<◌, List, [], ◌∷◌, map, length, get_or, drop, All, nat_cmp, sym, refl, ap, ◌∙◌, add-one}
use Rattle.crun_lines.proofs.Common.{drop-cons, Bor, insert_entry, slice_cmp, keys_of, match_ordering, ordering_then, Ordering, Less, Name}
use Rattle.crun_lines.proofs.Common.{name_order, numbered_from, put_in_order, texts}
use Rattle.std.proofs.lemmas.List.Elements.{All-head, All-tail}
use Rattle.std.proofs.lemmas.Map.Views.{All-keys-insert_entry}

-- a name behind its length, and the order of these
abbrev pub Key : Type 0
Key = ℕ × Bor (List ℕ)

abbrev pub key_order : Key → Key → Ordering
key_order x y = ordering_then (nat_cmp x.0 y.0) (slice_cmp nat_cmp x.1.now y.1.now)

abbrev pub TellsLength : Key → Type 0
TellsLength k = k.0 ≡ length k.1.now

abbrev pub shown : Key × ℕ → Name × ℕ
shown e = (e.0.1.now, e.1)

pub map_matched : {A B : Type 0} (f : A → B) (o : Ordering) (x y z : A) → f (match_ordering o x y z) ≡ match_ordering o (f x) (f y) (f z)
map_matched f Less x y z = refl
map_matched f _ x y z = refl

same_order : (k l : Key) → TellsLength k → TellsLength l → key_order k l ≡ name_order k.1.now l.1.now
same_order k l e f = ap (λ n. ordering_then (nat_cmp n l.0) (slice_cmp nat_cmp k.1.now l.1.now)) e
    ∙ ap (λ n. ordering_then (nat_cmp (length k.1.now) n) (slice_cmp nat_cmp k.1.now l.1.now)) f

-- a key is put where its name is
pub shown_insert : (entries : List (Key × ℕ)) (k : Key) (v : ℕ) → TellsLength k → All TellsLength (keys_of entries)
    → map shown (insert_entry key_order entries k v) ≡ insert_entry name_order (map shown entries) k.1.now v
shown_insert [] k v e all = refl
shown_insert (x ∷ entries) k v e all =
    map_matched (map shown) (key_order k x.0) ((k, v) ∷ x ∷ entries) ((x.0, v) ∷ entries) (x ∷ insert_entry key_order entries k v)
    ∙ ap (λ o. match_ordering o ((k.1.now, v) ∷ shown x ∷ map shown entries) ((x.0.1.now, v) ∷ map shown entries)
    (shown x ∷ map shown (insert_entry key_order entries k v)))
    (same_order k x.0 e (All-head TellsLength x.0 (keys_of entries) all))
    ∙ ap (λ rest. match_ordering (name_order k.1.now x.0.1.now) ((k.1.now, v) ∷ shown x ∷ map shown entries)
    ((x.0.1.now, v) ∷ map shown entries) (shown x ∷ rest))
    (shown_insert entries k v e (All-tail TellsLength x.0 (keys_of entries) all))

-- the names that are left, the first of which is put next
next_name : (names : List (Bor (List ℕ))) (i : ℕ) (d : Bor (List ℕ)) → i < length names
    → numbered_from i (texts (drop i names)) ≡ ((get_or names i d).now, i) ∷ numbered_from (i + 1) (texts (drop (i + 1) names))
next_name names i d lt =
    let cut : drop i names ≡ get_or names i d ∷ drop (i + 1) names = rw add-one (drop-cons names i d lt) in
    ap (λ left. numbered_from i (texts left)) cut

pub lengths_stay : (b : Bor (List ℕ)) (i : ℕ) (old new : List (Key × ℕ)) → new ≡ insert_entry key_order old (length b.now, b) i
    → All TellsLength (keys_of old) → All TellsLength (keys_of new)
lengths_stay b i old new e all =
    rw e (All-keys-insert_entry key_order (length b.now, b) i TellsLength old all refl)

pub put_next : (names : List (Bor (List ℕ))) (i : ℕ) (d : Bor (List ℕ)) (old new : List (Key × ℕ)) → i < length names
    → new ≡ insert_entry key_order old (length (get_or names i d).now, get_or names i d) i
    → All TellsLength (keys_of old)
    → put_in_order (map shown new) (numbered_from (i + 1) (texts (drop (i + 1) names)))
    ≡ put_in_order (map shown old) (numbered_from i (texts (drop i names)))
put_next names i d old new lt e all =
    let b : Bor (List ℕ) = get_or names i d in
    let left : List (Name × ℕ) = numbered_from (i + 1) (texts (drop (i + 1) names)) in
    ap (λ entries. put_in_order (map shown entries) left) e
    ∙ ap (λ entries. put_in_order entries left) (shown_insert old (length b.now, b) i refl all)
    ∙ ap (λ entries. put_in_order (map shown old) entries) (sym (next_name names i d lt))
