-- Vectors: a count, and so many entries.
use Rattle.wasm_spelling.proofs.Common.{◌≡◌, ℕ, zero, suc, List, [], ◌∷◌, ◌++◌, length, Ok, Result, sym, refl, ap, ◌∙◌, subst, arith, At}
use Rattle.wasm_spelling.proofs.Common.{Counts, Fields, each, Reader, ◌>>=◌, Field, parts_of, times, ReadFault}
use Rattle.wasm_spelling.specs.Steps.{reads}
use Rattle.wasm_spelling.specs.Table as table
use Rattle.wasm_spelling.specs.Table.{Entry, count_at, row}
use Rattle.wasm_spelling.specs.Reading.{times_at, vector_at}
use Rattle.wasm_spelling.proofs.Tools.{bind_ok, ok_is}
use Rattle.wasm_spelling.proofs.Took.{SpelledAt, Taken, Leads, leads_then, took_none, CountingSpelling}
use Rattle.wasm_spelling.proofs.Runs.{Follows, follows_both, runs_now}
use Rattle.wasm_spelling.proofs.Readings.{CountingReads, Reads, CountingMany, ReadsMany, counted, then_done}

abbrev pub with_front : {A : Type 0} → A → List A × At → Result (List A × At) ReadFault
with_front x xs = Ok (x ∷ xs.0, xs.1)

-- one after another, and what they count
abbrev pub each_from : {A : Type 0} → (Counts → A → Fields → Fields) → (A → Counts → Counts) → Counts → List A → Fields → Fields
each_from fields after c [] rest = rest
each_from fields after c (v ∷ vs) rest = fields c v (each_from fields after (after v c) vs rest)

abbrev pub after_each : {A : Type 0} → (A → Counts → Counts) → List A → Counts → Counts
after_each after [] c = c
after_each after (v ∷ vs) c = after_each after vs (after v c)

times_takes : {A : Type 0} {read : Reader A} {fields : Counts → A → Fields → Fields} {after : A → Counts → Counts} {front : List Field}
    → CountingReads read fields after front → (n : ℕ) (a : At) (v : List A) (b : At) → times_at read n a ≡ Ok (v, b)
    → Leads a (each_from fields after a.counts v) b (after_each after v a.counts) × (length v ≡ n)
unfolding times_at
times_takes {A} {read} {fields} {after} h zero a v b e =
    subst (λ (y : List A × At). Leads a (each_from fields after a.counts y.0) y.1 (after_each after y.0 a.counts) × (length y.0 ≡ zero))
    (ok_is ([], a) (v, b) e) (took_none a, refl)
times_takes {A} {read} {fields} {after} h (suc n) a v b e =
    let x = bind_ok (read a) (λ x. times_at read n x.1 >>= with_front x.0) (v, b) e in
    let xs = bind_ok (times_at read n x.0.1) (with_front x.0.0) (v, b) x.2 in
    let first = h.takes a x.0.0 x.0.1 x.1 in
    let more = times_takes h n x.0.1 xs.0.0 xs.0.1 xs.1 in
    let c : Counts = after x.0.0 a.counts in
    let others : Leads x.0.1 (each_from fields after c xs.0.0) xs.0.1 (after_each after xs.0.0 c) =
    subst (λ (c : Counts). Leads x.0.1 (each_from fields after c xs.0.0) xs.0.1 (after_each after xs.0.0 c)) first.kept more.0 in
    subst (λ (y : List A × At). Leads a (each_from fields after a.counts y.0) y.1 (after_each after y.0 a.counts) × (length y.0 ≡ suc n))
    (ok_is (x.0.0 ∷ xs.0.0, xs.0.1) (v, b) xs.2)
    (leads_then a x.0.1 xs.0.1 first others, ap suc more.1)

times_again : {A : Type 0} {read : Reader A} {fields : Counts → A → Fields → Fields} {after : A → Counts → Counts} {front : List Field}
    → CountingReads read fields after front → (n : ℕ) (a : At) (v : List A) (rest : Fields) → length v ≡ n
    → SpelledAt (each_from fields after a.counts v rest) a → (b : At) × (times_at read n a ≡ Ok (v, b)) × SpelledAt rest b
unfolding times_at
times_again h zero a [] rest size s = (a, refl, s)
times_again h zero a (x ∷ v) rest size s = absurd (omega (arith, size))
times_again h (suc n) a [] rest size s = absurd (omega (arith, size))
times_again {A} {read} {fields} {after} h (suc n) a (x ∷ v) rest size s =
    let first = h.again a x (each_from fields after (after x a.counts) v rest) s in
    let kept : first.0.counts ≡ after x a.counts = (h.takes a x first.0 first.1).kept in
    let more = times_again h n first.0 v rest (omega (arith, size))
    (subst (λ (c : Counts). SpelledAt (each_from fields after c v rest) first.0) (sym kept) first.2) in (
      more.0,
      ap (λ (r : Result (A × At) ReadFault). r >>= λ x. times_at read n x.1 >>= with_front x.0) first.1
          ∙ ap (λ (r : Result (List A × At) ReadFault). r >>= with_front x) more.1,
      more.2,
    )

times_follow : {A : Type 0} (read : Reader A) (front : List Field) → Follows front read → (n : ℕ)
    → Follows (times n front) (times_at read n)
unfolding times_at reads
times_follow {A} read front h zero a outer fields = runs_now _
times_follow {A} read front h (suc n) a outer fields =
    follows_both front (times n front) read (λ x. reads (times_at read n) (λ xs a. Ok (x ∷ xs, a))) h
    (λ x. then_done (times n front) (times_at read n) (λ xs. x ∷ xs) (times_follow read front h n)) a outer fields

-- so many entries that are counted
pub counting_times : {A : Type 0} {read : Reader A} {fields : Counts → A → Fields → Fields} {after : A → Counts → Counts}
    {front : List Field} → CountingReads read fields after front
    → CountingMany (times_at read) (each_from fields after) (after_each after) (λ n. times n front)
counting_times {A} {read} {fields} {after} {front} h =
    record { takes = times_takes h; again = times_again h; follows = times_follow read front h.follows }

each_is : {A : Type 0} (fields : A → Fields → Fields) (c : Counts) (v : List A) (rest : Fields)
    → each_from (λ c. fields) (λ v c. c) c v rest ≡ each fields v rest
each_is fields c [] rest = refl
each_is fields c (x ∷ v) rest = ap (fields x) (each_is fields c v rest)

after_is : {A : Type 0} (v : List A) (c : Counts) → after_each {A = A} (λ v c. c) v c ≡ c
after_is [] c = refl
after_is (x ∷ v) c = after_is v c

-- and that are not
pub times_reads : {A : Type 0} {read : Reader A} {fields : A → Fields → Fields} {front : List Field} → Reads read fields front
    → ReadsMany (times_at read) (each fields) (λ n. times n front)
times_reads {A} {read} {fields} {front} h = record {
  takes = λ n a v b e.
      let t = times_takes h n a v b e in
      let is : each_from (λ c. fields) (λ v c. c) a.counts v ≡ each fields v = λ i. λ rest. each_is fields a.counts v rest i in (
        record { taken = subst (λ (f : Fields → Fields). Taken a f b) is t.0.taken; kept = t.0.kept ∙ after_is v a.counts },
        t.1,
      );
  again = λ n a v rest size s.
      times_again h n a v rest size (subst (λ (f : Fields). SpelledAt f a) (sym (each_is fields a.counts v rest)) s);
  follows = times_follow read front h.follows;
}

-- and their count, as it is spelled
pub vector_reads : {A : Type 0} (entry : Entry) {number : Counts → ℕ → Fields → Fields} {tally : ℕ → Counts → Counts} {read : Reader A}
    {fields : A → Fields → Fields} → CountingSpelling (count_at entry) number tally → Reads read fields (parts_of entry)
    → CountingReads (vector_at entry read) (λ c v rest. number c (length v) (each fields v rest)) (λ v c. tally (length v) c)
    (table.vector entry ∷ [])
unfolding row
vector_reads entry size one = counted (table.vector entry) size (times_reads one) (λ a outer more. refl)
