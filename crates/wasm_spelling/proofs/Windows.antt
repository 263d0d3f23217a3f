-- Windows: a size, and fields that use up so many bytes.
use Rattle.wasm_spelling.proofs.Common.{◌≡◌, ℕ, ◌+◌, ◌≤◌, Bool, true, false, cond, eqb, ltb, List, [], ◌∷◌, ◌++◌, length, take, drop, Ok}
use Rattle.wasm_spelling.proofs.Common.{Err, Result, sym, refl, ap, ◌∙◌, subst, inl, inr, append_assoc, arith, length-append, length-drop}
use Rattle.wasm_spelling.proofs.Common.{take-append-drop, length-take-le, ltb-false, eqb-true, drop-append_seam, take-append_seam}
use Rattle.wasm_spelling.proofs.Common.{SpellsUnsigned, At, Counts, Fields, Sized, Spelled, Then, finished, window, Reader, malformed}
use Rattle.wasm_spelling.proofs.Common.{number_at, ◌>>=◌, Field, none_more, size, state, used_up, Cause, ReadFault, nil_from_length}
use Rattle.wasm_spelling.specs.declared.fault.Cause.TheVariants as cause
use Rattle.wasm_spelling.specs.Table.{row, opens}
use Rattle.wasm_spelling.specs.Reading.{ended, inside_at, window_at}
use Rattle.wasm_spelling.proofs.Tools.{bind_ok, bind_bind, ok_is, not_ok, chosen}
use Rattle.wasm_spelling.proofs.Took.{SpelledAt, Taken, Front}
use Rattle.wasm_spelling.proofs.Runs.{Runs, From, one_step, in_one, lands, reads_then, Follows}
use Rattle.wasm_spelling.proofs.Readings.{CountingReads}
use Rattle.wasm_spelling.proofs.Leaves.{number_is, number_then, not_less}

-- the window of n bytes behind a size, and what is behind the window
abbrev pub inner : ℕ → At → At
inner n k = record k { left = take n k.left }

abbrev pub behind : ℕ → At → At → At
behind n k e = record e { place = k.place + n; left = drop n k.left }

-- what was read of a window
pub record Inside {A : Type 0} (read : Reader A) (a : At) (v : A) (b : At) : Type 0 where
  pub bytes : ℕ
  pub start : At
  pub end : At
  pub front : List ℕ
  pub stands : Front a front start
  pub spells : SpellsUnsigned 32 front bytes
  pub fits : bytes ≤ length start.left
  pub read_is : read (inner bytes start) ≡ Ok (v, end)
  pub used_up : end.left ≡ []
  pub behind_is : b ≡ behind bytes start end

ended_is : {A : Type 0} (c : Cause) (place : ℕ) (left : List ℕ) (x : A × At) (v : A) (b : At) → ended c place left x ≡ Ok (v, b)
    → (x.0 ≡ v) × (x.1.left ≡ []) × (b ≡ record x.1 { place = place; left = left })
ended_is {A} c place left x v b e = elim (chosen (eqb (length x.1.left) 0) _ _ _ e) [
  | inl hit ↦
      let same : (x.0, record x.1 { place = place; left = left }) ≡ (v, b) =
      ok_is (x.0, record x.1 { place = place; left = left }) (v, b) hit.1 in
      (ap (λ (y : A × At). y.0) same, nil_from_length x.1.left (eqb-true _ _ hit.0), sym (ap (λ (y : A × At). y.1) same))
  | inr miss ↦ not_ok _ (v, b) miss.1
]

inside_is : {A : Type 0} (c : Cause) (read : Reader A) (a : At) (n : ℕ) (k : At) (v : A) (b : At)
    → (front : List ℕ) × Front a front k × SpellsUnsigned 32 front n → inside_at c read a.place n k ≡ Ok (v, b) → Inside read a v b
inside_is {A} c read a n k v b num e = elim (chosen (ltb (length k.left) n) _ _ _ e) [
  | inl hit ↦ not_ok _ (v, b) hit.1
  | inr miss ↦
      let x = bind_ok (read (inner n k)) (ended c (k.place + n) (drop n k.left)) (v, b) miss.1 in
      let end = ended_is c (k.place + n) (drop n k.left) x.0 v b x.2 in
      record {
        bytes = n;
        start = k;
        end = x.0.1;
        front = num.0;
        stands = num.1;
        spells = num.2;
        fits = ltb-false _ _ miss.0;
        read_is = x.1 ∙ ap (λ (y : A). Ok (y, x.0.1)) end.0;
        used_up = end.1;
        behind_is = end.2;
      }
]

pub window_inside : {A : Type 0} (c : Cause) (read : Reader A) (a : At) (v : A) (b : At) → window_at c read a ≡ Ok (v, b)
    → Inside read a v b
unfolding window_at
window_inside c read a v b e =
    let n = bind_ok (number_at a) (λ n. inside_at c read a.place n.0 n.1) (v, b) e in
    inside_is c read a n.0.0 n.0.1 v b (number_is a n.0.0 n.0.1 n.1) n.2

pub window_taken : {A : Type 0} {f : Fields → Fields} (read : Reader A) (a : At) (v : A) (b : At) (i : Inside read a v b)
    → Taken (inner i.bytes i.start) f i.end → Taken a (window (f finished)) b
window_taken {A} {f} read a v b i t =
    subst (λ (x : At). Taken a (window (f finished)) x) (sym i.behind_is) (record {
      spelled = λ fields s. spelt fields s;
      moved = omega (
        arith,
        ap length i.stands.bytes,
        length-append i.front i.start.left,
        i.stands.place,
        length-drop i.bytes i.start.left,
        i.fits,
      );
      within = omega (arith, ap length i.stands.bytes, length-append i.front i.start.left, length-drop i.bytes i.start.left);
    })
  where
    spelt : (fields : Fields) → Spelled fields (i.start.place + i.bytes) (drop i.bytes i.start.left)
        → SpelledAt (window (f finished) fields) a
    spelt fields s =
        let content : Spelled (f finished) i.start.place (take i.bytes i.start.left) = t.spelled finished i.used_up in
        let count : length (take i.bytes i.start.left) ≡ i.bytes = length-take-le i.bytes i.start.left i.fits in (
          i.bytes,
          (
            i.front,
            i.start.left,
            i.stands.bytes,
            i.spells,
            (
              take i.bytes i.start.left,
              drop i.bytes i.start.left,
              sym (take-append-drop i.bytes i.start.left),
              (count, subst (λ (p : ℕ). Spelled (f finished) p (take i.bytes i.start.left)) i.stands.place content),
              subst (λ (p : ℕ). Spelled fields p (drop i.bytes i.start.left)) (omega (arith, i.stands.place, count)) s,
            ),
          ),
        )

-- a reading of the window's bytes that uses them up
pub window_read : {A : Type 0} (c : Cause) (read : Reader A) (a : At) (n : ℕ) (k e : At) (v : A) → number_at a ≡ Ok (n, k)
    → n ≤ length k.left → read (inner n k) ≡ Ok (v, e) → e.left ≡ [] → window_at c read a ≡ Ok (v, behind n k e)
unfolding window_at
window_read {A} c read a n k e v number le is none =
    let tested : inside_at c read a.place n k ≡ Ok (v, behind n k e) =
    rw (not_less (length k.left) n (ltb (length k.left) n) refl le)
    (ap (λ (r : Result (A × At) ReadFault). r >>= ended c (k.place + n) (drop n k.left)) is ∙ rw none refl) in
    ap (λ (r : Result (ℕ × At) ReadFault). r >>= λ n. inside_at c read a.place n.0 n.1) number ∙ tested

-- where fields in a window are spelled, a reading of the window is a reading of it all
pub record Sealed (a : At) (content rest : Fields) : Type 0 where
  pub bytes : ℕ
  pub start : At
  pub number_is : number_at a ≡ Ok (bytes, start)
  pub fits : bytes ≤ length start.left
  pub kept : start.counts ≡ a.counts
  pub inside : SpelledAt content (inner bytes start)
  pub after : Spelled rest (start.place + bytes) (drop bytes start.left)

pub window_sealed : (a : At) (content rest : Fields) → SpelledAt (window content rest) a → Sealed a content rest
window_sealed a content rest (count, s) =
    let n = number_then a count (Then (Sized count (Spelled content)) (Spelled rest)) s in
    parts n.0 n.1 n.3 n.2
  where
    parts : (k : At) → number_at a ≡ Ok (count, k) → k.counts ≡ a.counts
        → Then (Sized count (Spelled content)) (Spelled rest) k.place k.left → Sealed a content rest
    parts k is kept (front, left, e, (len, inside), behind) = record {
      bytes = count;
      start = k;
      number_is = is;
      kept = kept;
      fits = omega (arith, ap length e, length-append front left, len);
      inside =
          subst (λ (l : List ℕ). Spelled content k.place l)
          (sym (ap (take count) e ∙ ap (λ (n : ℕ). take n (front ++ left)) (sym len) ∙ take-append_seam front left)) inside;
      after = subst (λ (l : List ℕ). Spelled rest (k.place + count) l)
          (sym (ap (drop count) e ∙ ap (λ (n : ℕ). drop n (front ++ left)) (sym len) ∙ drop-append_seam front left))
          (subst (λ (n : ℕ). Spelled rest (k.place + n) left) len behind);
    }

-- ---- the machine

-- places go with the bytes
abbrev pub Moves : {A : Type 0} → Reader A → Type 0
Moves {A} read = (a : At) (v : A) (b : At) → read a ≡ Ok (v, b) → a.place + length a.left ≡ b.place + length b.left

closes_as : {A : Type 0} (c : Cause) (place : ℕ) (left : List ℕ) (x : A × At) (outer : List (List ℕ)) (fields : List Field) (t : Bool)
    → (t ≡ true → x.1.place ≡ place)
    → cond t (Ok (state (record x.1 { left = left }) outer fields)) (malformed x.1.place c)
    ≡ (cond t (Ok (x.0, record x.1 { place = place; left = left })) (malformed x.1.place c) >>= lands none_more outer fields)
closes_as c place left x outer fields true h = ap (λ (p : ℕ). Ok (state (record x.1 { place = p; left = left }) outer fields)) (h refl)
closes_as c place left x outer fields false h = refl

used_up_goes : {A : Type 0} (c : Cause) (place : ℕ) (left : List ℕ) (x : A × At) (outer : List (List ℕ)) (fields : List Field)
    → (eqb (length x.1.left) 0 ≡ true → x.1.place ≡ place)
    → Runs (state x.1 (left ∷ outer) (used_up c ∷ fields)) (ended c place left x >>= lands none_more outer fields)
unfolding row
used_up_goes c place left x outer fields h =
    in_one (state x.1 (left ∷ outer) (used_up c ∷ fields)) _ (closes_as c place left x outer fields (eqb (length x.1.left) 0) h)

inside_goes : {A : Type 0} (c : Cause) (front : List Field) (read : Reader A) → Follows front read → Moves read
    → (p n : ℕ) (k : At) (outer : List (List ℕ)) (fields : List Field) (t : Bool) → ltb (length k.left) n ≡ t
    → From (cond t (malformed p cause.SizePastEnd) (Ok (state (inner n k) (drop n k.left ∷ outer) ((front ++ used_up c ∷ []) ++ fields))))
    (cond t (malformed p cause.SizePastEnd) (read (inner n k) >>= ended c (k.place + n) (drop n k.left)) >>= lands none_more outer fields)
inside_goes c front read h m p n k outer fields true e = refl
inside_goes {A} c front read h m p n k outer fields false e =
    subst (λ (l : List Field). Runs (state (inner n k) (drop n k.left ∷ outer) l)
    ((read (inner n k) >>= ended c (k.place + n) (drop n k.left)) >>= lands none_more outer fields))
    (sym (append_assoc front (used_up c ∷ []) fields))
    (subst (Runs (state (inner n k) (drop n k.left ∷ outer) (front ++ used_up c ∷ fields)))
    (sym (bind_bind (read (inner n k)) (ended c (k.place + n) (drop n k.left)) (lands none_more outer fields)))
    (reads_then _ (read (inner n k)) (λ x. state x.1 (drop n k.left ∷ outer) (used_up c ∷ fields))
    (λ x. ended c (k.place + n) (drop n k.left) x >>= lands none_more outer fields)
    (h (inner n k) (drop n k.left ∷ outer) (used_up c ∷ fields))
    (λ x r. used_up_goes c (k.place + n) (drop n k.left) x outer fields
    (λ none. omega (arith, m (inner n k) x.0 x.1 r, eqb-true _ _ none, length-take-le n k.left (ltb-false _ _ e))))))

by_size : {A : Type 0} (c : Cause) (front : List Field) (read : Reader A) → Follows front read → Moves read
    → (p : ℕ) (outer : List (List ℕ)) (fields : List Field) (r : Result (ℕ × At) ReadFault)
    → From (r >>= λ n. opens p n.0 n.1 outer ((front ++ used_up c ∷ []) ++ fields))
    ((r >>= λ n. inside_at c read p n.0 n.1) >>= lands none_more outer fields)
by_size c front read h m p outer fields (Ok n) = inside_goes c front read h m p n.0 n.1 outer fields (ltb (length n.1.left) n.0) refl
by_size c front read h m p outer fields (Err e) = refl

pub window_follows : {A : Type 0} (c : Cause) (front : List Field) (read : Reader A) → Follows front read → Moves read
    → Follows (size ∷ (front ++ used_up c ∷ [])) (window_at c read)
unfolding window_at row
window_follows c front read h m a outer fields =
    one_step (state a outer (size ∷ ((front ++ used_up c ∷ []) ++ fields))) _ _ refl (by_size c front read h m a.place outer fields
    (number_at a))

-- a size, and a window of so many bytes
pub window_reads : {A : Type 0} {read : Reader A} {fields : Counts → A → Fields → Fields} {after : A → Counts → Counts} {front : List Field}
    (c : Cause) → CountingReads read fields after front
    → CountingReads (window_at c read) (λ k v rest. window (fields k v finished) rest) after (size ∷ (front ++ used_up c ∷ []))
window_reads {A} {read} {fields} {after} {front} c h = record {
  takes = λ a v b e.
      let i = window_inside c read a v b e in
      let t = h.takes (inner i.bytes i.start) v i.end i.read_is in
      let kept : i.start.counts ≡ a.counts = i.stands.kept in
      record {
        taken = window_taken read a v b i (subst (λ (d : Counts). Taken (inner i.bytes i.start) (fields d v) i.end) kept t.taken);
        kept = ap (λ (x : At). x.counts) i.behind_is ∙ t.kept ∙ ap (after v) kept;
      };
  again = λ a v rest s.
      let w = window_sealed a (fields a.counts v finished) rest s in
      let t = h.again (inner w.bytes w.start) v finished
      (subst (λ (d : Counts). SpelledAt (fields d v finished) (inner w.bytes w.start)) (sym w.kept) w.inside) in (
        behind w.bytes w.start t.0,
        window_read c read a w.bytes w.start t.0 v w.number_is w.fits t.1 t.2,
        w.after,
      );
  follows = window_follows c front read h.follows (λ a v b e. (h.takes a v b e).taken.moved);
}
