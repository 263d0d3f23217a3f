-- Each part of an init function is of one of five kinds, and what holds of all entries of a kind holds of the part's.
use Rattle.std.proofs.Common.{take, ◌*◌, inl, inr}
use Rattle.std.proofs.lemmas.List.{length-drop, take-append-drop}
use Rattle.c_init.proofs.Common.{◌≡◌, ℕ, zero, suc, ◌+◌, ◌≤◌, Bool, true, false, cond, ◌⊎◌, List, [], ◌∷◌, ◌++◌, length, map, drop}
use Rattle.c_init.proofs.Common.{if◌then◌else◌, filter, sym, refl, ap, ◌∙◌, subst, append_assoc, arith, AllByRecursion, length-append}
use Rattle.c_init.proofs.Common.{range_with_len, numbered, Module, SegmentEntry}
use Rattle.w2c_base.proofs.Lists.{all_behind, all_drop, all_front, all_take}
use Rattle.w2c_base.proofs.OfEach.{all_append, of_each}
use Rattle.wasm_tree.specs.declared.entries.ElementEntry.{ElementEntry}
use Rattle.wasm_tree.specs.declared.entries.GlobalEntry.{GlobalEntry}
use Rattle.c_init.specs.Init.{Element, Part, all_parts, bytes_part, data_tests_part, element_tests_part, elements_of, elements_part}
use Rattle.c_init.specs.Init.{globals_part, is_large, most, parts_of, piece, piece_count, pieces, some_bytes}
use Rattle.c_init.specs.Portions.{numbered_from}
use Rattle.c_init.proofs.PieceCounts.{first_numbered, pieces_none}
use Rattle.c_init.proofs.Small.{all_images}

-- a part that is made of some entries, of each of which this holds
pub record MadeOf {A : Type 0} (part : List A → Part) (P : A → Type 0) (x : Part) : Type 0 where
  pub entries : List A
  pub is : x ≡ part entries
  pub all : AllByRecursion P entries

-- segments one behind another, of which the first has this number
pub record Consecutive (m : Module) (P : SegmentEntry → Type 0) (entries : List (ℕ × SegmentEntry)) : Type 0 where
  pub number : ℕ
  pub segments : List SegmentEntry
  pub front : List SegmentEntry
  pub more : List SegmentEntry
  pub is : entries ≡ numbered_from number segments
  pub whole : m.segments ≡ front ++ (segments ++ more)
  pub at : number ≡ length front
  pub all : AllByRecursion P segments

pub record WritesBytes (m : Module) (P : SegmentEntry → Type 0) (x : Part) : Type 0 where
  pub entries : List (ℕ × SegmentEntry)
  pub is : x ≡ bytes_part m entries
  pub segments : Consecutive m P entries

pieces_have : {A : Type 0} (P : A → Type 0) (xs : List A) → AllByRecursion P xs → AllByRecursion (AllByRecursion P) (pieces xs)
pieces_have P xs all = all_images (AllByRecursion P) (piece xs) (range_with_len 0 (piece_count (length xs)))
    (λ k. all_take P most (drop (most * k) xs) (all_drop P (most * k) xs all))

made_of : {A : Type 0} (part : List A → Part) (P : A → Type 0) (ps : List (List A)) → AllByRecursion (AllByRecursion P) ps
    → AllByRecursion (MadeOf part P) (map part ps)
made_of part P [] all = tt
made_of part P (p ∷ ps) all = (record { entries = p; is = refl; all = all.0 }, made_of part P ps all.1)

filtered_all : {A : Type 0} (P : A → Type 0) (test : A → Bool) (xs : List A) → AllByRecursion P xs → AllByRecursion P (filter test xs)
filtered_all P test [] all = tt
filtered_all P test (x ∷ xs) all = go (test x) (filtered_all P test xs all.1)
  where
    go : (b : Bool) → AllByRecursion P (filter test xs) → AllByRecursion P (cond b (x ∷ filter test xs) (filter test xs))
    go true others = (all.0, others)
    go false others = others

module _ (m : Module) (P : SegmentEntry → Type 0) where
  consecutive : (n j : ℕ) (front ds : List SegmentEntry) → length ds ≤ n → m.segments ≡ front ++ ds → j ≡ length front
      → AllByRecursion P ds → AllByRecursion (Consecutive m P) (pieces (numbered_from j ds))
  consecutive n j front [] few whole at all =
      subst (AllByRecursion (Consecutive m P)) (sym (pieces_none {A = ℕ × SegmentEntry})) tt
  consecutive zero j front (d ∷ ds) few whole at all = absurd (omega (arith, few))
  consecutive (suc n) j front (d ∷ ds) few whole at all =
      let p : List SegmentEntry = take most (d ∷ ds) in
      let q : List SegmentEntry = drop most (d ∷ ds) in
      let split : p ++ q ≡ d ∷ ds = take-append-drop most (d ∷ ds) in
      let there : m.segments ≡ front ++ (p ++ q) = whole ∙ ap (λ ys. front ++ ys) (sym split) in
      let both : AllByRecursion P (p ++ q) = subst (AllByRecursion P) (sym split) all in
      subst (AllByRecursion (Consecutive m P)) (sym (first_numbered j (d ∷ ds) (omega arith))) (
        record {
          number = j;
          segments = p;
          front = front;
          more = q;
          is = refl;
          whole = there;
          at = at;
          all = all_front P p q both;
        },
        consecutive n (j + length p) (front ++ p) q (let e = length-drop most (d ∷ ds) in omega (arith, e, few))
            (there ∙ sym (append_assoc front p q)) (let e = length-append front p in omega (arith, e, at)) (all_behind P p q both),
      )

  write_bytes : (ps : List (List (ℕ × SegmentEntry))) → AllByRecursion (Consecutive m P) ps
      → AllByRecursion (WritesBytes m P) (map (bytes_part m) ps)
  write_bytes [] all = tt
  write_bytes (p ∷ ps) all = (record { entries = p; is = refl; segments = all.0 }, write_bytes ps all.1)

module _ (m : Module) (G : ℕ × GlobalEntry → Type 0) (E : ElementEntry → Type 0) (D : SegmentEntry → Type 0) (W : Element → Type 0) where
  abbrev pub Kind : Part → Type 0
  Kind x =
      MadeOf (globals_part m) G x
      ⊎ (MadeOf (element_tests_part m) E x
      ⊎ (MadeOf (data_tests_part m) D x
      ⊎ (MadeOf (elements_part m) W x
      ⊎ WritesBytes m D x)))

  pub parts_are : AllByRecursion G (numbered m.globals) → AllByRecursion E m.elements → AllByRecursion D m.segments
      → AllByRecursion W (elements_of m) → AllByRecursion Kind (parts_of m)
  parts_are globals elements segments writes = by (is_large m)
    where
      all : AllByRecursion Kind (all_parts m)
      all =
          all_append Kind (map (globals_part m) (pieces (numbered m.globals))) _
          (of_each _ Kind (λ x h. inl h) _ (made_of (globals_part m) G _ (pieces_have G (numbered m.globals) globals)))
          (all_append Kind (map (element_tests_part m) (pieces m.elements)) _
          (of_each _ Kind (λ x h. inr (inl h)) _ (made_of (element_tests_part m) E _ (pieces_have E m.elements elements)))
          (all_append Kind (map (data_tests_part m) (pieces m.segments)) _
          (of_each _ Kind (λ x h. inr (inr (inl h))) _ (made_of (data_tests_part m) D _ (pieces_have D m.segments segments)))
          (all_append Kind (map (elements_part m) (pieces (elements_of m))) _
          (of_each _ Kind (λ x h. inr (inr (inr (inl h)))) _ (made_of (elements_part m) W _ (pieces_have W (elements_of m) writes)))
          (of_each _ Kind (λ x h. inr (inr (inr (inr h)))) _
          (write_bytes m D (filter some_bytes (pieces (numbered m.segments)))
          (filtered_all (Consecutive m D) some_bytes (pieces (numbered m.segments))
          (consecutive m D (length m.segments) 0 [] m.segments (omega arith) refl refl segments)))))))

      by : (large : Bool) → AllByRecursion Kind (if large then all_parts m else [])
      by true = all
      by false = tt
