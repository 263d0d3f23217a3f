-- The three laws of a reading, and one way for each way of putting readings together.
use Rattle.wasm_spelling.proofs.Common.{◌≡◌, ℕ, Bool, true, cond, List, [], ◌∷◌, ◌++◌, length, Ok, Err, Result, sym, refl, ap, ◌∙◌, subst}
use Rattle.wasm_spelling.proofs.Common.{At, Counts, Fields, Spelled, provided, Reader, done, reads, ◌>>=◌, Field, none_more, on, row, state}
use Rattle.wasm_spelling.proofs.Common.{ReadFault}
use Rattle.wasm_spelling.proofs.Tools.{yes, bad, bind_ok, ok_is, not_ok, either_way, reads_ok, reads_again}
use Rattle.wasm_spelling.proofs.Took.{SpelledAt, Leads, leads_then, Took, took_none, CountingSpelling, Spelling}
use Rattle.wasm_spelling.proofs.Runs.{Runs, lands, Follows, follows_row, follows_from, then_reads, runs_now}

-- what is read spells the bytes that were taken, what is spelled is read, and the machine goes from these fields to none or to the same
-- fault. What spells a value hangs on the counts in front of it
pub record CountingReads {A : Type 0} (read : Reader A) (fields : Counts → A → Fields → Fields) (after : A → Counts → Counts)
    (expected : List Field)
    : Type 0 where
  pub takes : (a : At) (v : A) (b : At) → read a ≡ Ok (v, b) → Leads a (fields a.counts v) b (after v a.counts)
  pub again : (a : At) (v : A) (rest : Fields) → SpelledAt (fields a.counts v rest) a → (b : At) × (read a ≡ Ok (v, b)) × SpelledAt rest b
  pub follows : Follows expected read

-- nothing is counted
abbrev pub Reads : {A : Type 0} → Reader A → (A → Fields → Fields) → List Field → Type 0
Reads read fields expected = CountingReads read (λ c. fields) (λ v c. c) expected

-- the value is made of what is spelled
pub record ReadsAs {V B : Type 0} (make : V → B) (read : Reader B) (fields : V → Fields → Fields) (expected : List Field) : Type 0 where
  pub takes : (a : At) (w : B) (b : At) → read a ≡ Ok (w, b) → (v : V) × Took a (fields v) b × (make v ≡ w)
  pub again : (a : At) (v : V) (rest : Fields) → SpelledAt (fields v rest) a → (b : At) × (read a ≡ Ok (make v, b)) × SpelledAt rest b
  pub follows : Follows expected read

-- a list is read, of which the size is known
pub record CountingMany {A : Type 0} (read : ℕ → Reader (List A)) (fields : Counts → List A → Fields → Fields)
    (after : List A → Counts → Counts) (expected : ℕ → List Field)
    : Type 0 where
  pub takes : (n : ℕ) (a : At) (v : List A) (b : At) → read n a ≡ Ok (v, b)
      → Leads a (fields a.counts v) b (after v a.counts) × (length v ≡ n)
  pub again : (n : ℕ) (a : At) (v : List A) (rest : Fields) → length v ≡ n → SpelledAt (fields a.counts v rest) a
      → (b : At) × (read n a ≡ Ok (v, b)) × SpelledAt rest b
  pub follows : (n : ℕ) → Follows (expected n) (read n)

abbrev pub ReadsMany : {A : Type 0} → (ℕ → Reader (List A)) → (List A → Fields → Fields) → (ℕ → List Field) → Type 0
ReadsMany read fields expected = CountingMany read (λ c. fields) (λ v c. c) expected

-- ---- one field, and a count

-- a field of the table
pub by_row : {A : Type 0} {read : Reader A} {fields : Counts → A → Fields → Fields} {after : A → Counts → Counts} (field : Field)
    → CountingSpelling read fields after
    → ((a : At) (outer : List (List ℕ)) (more : List Field) → row field a outer more ≡ on (read a) none_more outer more)
    → CountingReads read fields after (field ∷ [])
by_row {A} {read} field s is = record { takes = s.takes; again = s.again; follows = follows_row field read none_more is }

-- a count, and so many
pub counted : {A : Type 0} {count : Reader ℕ} {read : ℕ → Reader (List A)} {number : Counts → ℕ → Fields → Fields}
    {tally : ℕ → Counts → Counts} {fields : Counts → List A → Fields → Fields} {after : List A → Counts → Counts}
    {expected : ℕ → List Field} (field : Field)
    → CountingSpelling count number tally → CountingMany read fields after expected
    → ((a : At) (outer : List (List ℕ)) (more : List Field) → row field a outer more ≡ on (count a) expected outer more)
    → CountingReads (reads count read) (λ c v rest. number c (length v) (fields (tally (length v) c) v rest))
    (λ v c. after v (tally (length v) c)) (field ∷ [])
counted {A} {count} {read} {number} {tally} {fields} {after} {expected} field size many is = record {
  takes = λ a v b e.
      let n = reads_ok count read a (v, b) e in
      let t = size.takes a n.0 n.1 n.2 in
      let u = many.takes n.0 n.1 v b n.3 in
      let more : Leads n.1 (fields (tally n.0 a.counts) v) b (after v (tally n.0 a.counts)) =
      subst (λ (c : Counts). Leads n.1 (fields c v) b (after v c)) t.kept u.0 in
      subst (λ (m : ℕ). Leads a (λ rest. number a.counts m (fields (tally m a.counts) v rest)) b (after v (tally m a.counts))) (sym u.1)
      (leads_then a n.1 b t more);
  again = λ a v rest s.
      let n = size.again a (length v) (fields (tally (length v) a.counts) v rest) s in
      let kept : n.0.counts ≡ tally (length v) a.counts = (size.takes a (length v) n.0 n.1).kept in
      let t = many.again (length v) n.0 v rest refl (subst (λ (c : Counts). SpelledAt (fields c v rest) n.0) (sym kept) n.2) in
      (t.0, reads_again count read a (length v) n.0 (Ok (v, t.0)) n.1 t.1, t.2);
  follows = follows_from (field ∷ []) expected count read (follows_row field count expected is) many.follows;
}

-- with other fields that are the same
pub respelled : {A : Type 0} {read : ℕ → Reader (List A)} {fields others : Counts → List A → Fields → Fields}
    {after : List A → Counts → Counts} {expected : ℕ → List Field}
    → ((v : List A) (c : Counts) (rest : Fields) → fields c v rest ≡ others c v rest) → CountingMany read fields after expected
    → CountingMany read others after expected
respelled {A} {read} {fields} {others} {after} same h = record {
  takes = λ n a v b e.
      let t = h.takes n a v b e in
      let is : fields a.counts v ≡ others a.counts v = λ i. λ rest. same v a.counts rest i in
      (subst (λ (f : Fields → Fields). Leads a f b (after v a.counts)) is t.0, t.1);
  again = λ n a v rest size s.
      h.again n a v rest size (subst (λ (f : Fields). SpelledAt f a) (sym (same v a.counts rest)) s);
  follows = h.follows;
}

-- ---- counts

-- a number that was read is counted, under conditions
pub record Tallied (look : ℕ → ℕ × At → Result (ℕ × At) ReadFault) (conditions : Counts → ℕ → Fields → Fields)
    (tally : ℕ → Counts → Counts)
    : Type 0 where
  pub from : (place n : ℕ) (b : At) (m : ℕ) (k : At) → look place (n, b) ≡ Ok (m, k)
      → ◌≡◌ {A = ℕ × At} (n, record b { counts = tally n b.counts }) (m, k)
      × ((rest : Fields) (q : ℕ) (bytes : List ℕ) → Spelled rest q bytes → Spelled (conditions b.counts n rest) q bytes)
  pub to : (place n : ℕ) (b : At) (rest : Fields) (q : ℕ) (bytes : List ℕ) → Spelled (conditions b.counts n rest) q bytes
      → (look place (n, b) ≡ Ok (n, record b { counts = tally n b.counts })) × Spelled rest q bytes

-- under none
pub tally_always : (tally : ℕ → Counts → Counts)
    → Tallied (λ place x. Ok (x.0, record x.1 { counts = tally x.0 x.1.counts })) (λ c n rest. rest) tally
tally_always tally = record {
  from = λ place n b m k e. (ok_is (n, record b { counts = tally n b.counts }) (m, k) e, λ rest q bytes s. s);
  to = λ place n b rest q bytes s. (refl, s);
}

-- under one
pub tally_where : (test : Counts → ℕ → Bool) (tally : ℕ → Counts → Counts) (fault : ℕ → ReadFault)
    → Tallied (λ place x. cond (test x.1.counts x.0) (Ok (x.0, record x.1 { counts = tally x.0 x.1.counts })) (Err (fault place)))
    (λ c n rest. provided (test c n) rest) tally
tally_where test tally fault = record {
  from = λ place n b m k e.
      either_way (test b.counts n) (yes (n, record b { counts = tally n b.counts })) (bad (fault place)) (m, k) e
      (λ t x. (ok_is (n, record b { counts = tally n b.counts }) (m, k) x, λ rest q bytes s. (t, s))) (λ _ x. not_ok _ (m, k) x);
  to = λ place n b rest q bytes s. let t : test b.counts n ≡ true = s.0 in (rw t refl, s.1);
}

pub tallied : {read : Reader ℕ} {number : ℕ → Fields → Fields} {look : ℕ → ℕ × At → Result (ℕ × At) ReadFault}
    {conditions : Counts → ℕ → Fields → Fields} {tally : ℕ → Counts → Counts}
    → Spelling read number → Tallied look conditions tally
    → CountingSpelling (λ a. read a >>= look a.place) (λ c n rest. number n (conditions c n rest)) tally
tallied {read} {number} {look} {conditions} {tally} size h = record {
  takes = λ a v b e.
      let n = bind_ok (read a) (look a.place) (v, b) e in
      let t = size.takes a n.0.0 n.0.1 n.1 in
      let u = h.from a.place n.0.0 n.0.1 v b n.2 in
      subst (λ (y : ℕ × At). Leads a (λ rest. number y.0 (conditions a.counts y.0 rest)) y.1 (tally y.0 a.counts)) u.0 (record {
        taken = record {
          spelled = λ rest s.
              t.taken.spelled (conditions a.counts n.0.0 rest)
              (subst (λ (c : Counts). SpelledAt (conditions c n.0.0 rest) n.0.1) t.kept (u.1 rest n.0.1.place n.0.1.left s));
          moved = t.taken.moved;
          within = t.taken.within;
        };
        kept = ap (tally n.0.0) t.kept;
      });
  again = λ a v rest s.
      let n = size.again a v (conditions a.counts v rest) s in
      let kept : n.0.counts ≡ a.counts = (size.takes a v n.0 n.1).kept in
      let u = h.to a.place v n.0 rest n.0.place n.0.left
      (subst (λ (c : Counts). SpelledAt (conditions c v rest) n.0) (sym kept) n.2) in (
        record n.0 { counts = tally v n.0.counts },
        ap (λ (r : Result (ℕ × At) ReadFault). r >>= look a.place) n.1 ∙ u.0,
        u.1,
      );
}

-- ---- a value that is made

-- what is read is the last of the fields
pub then_done : {A B : Type 0} (front : List Field) (read : Reader A) (make : A → B) → Follows front read
    → Follows front (reads read (λ x. done (make x)))
then_done front read make h a outer more =
    then_reads (state a outer (front ++ more)) read (λ x. done (make x)) a none_more none_more outer more more (h a outer more)
    (λ x b e. runs_now _)

pub onto : {A B : Type 0} {read : Reader A} {fields : A → Fields → Fields} {expected : List Field} (make : A → B)
    → Reads read fields expected → ReadsAs make (reads read (λ x. done (make x))) fields expected
onto {A} {B} {read} {fields} {expected} make h = record {
  takes = λ a w b e.
      let s = reads_ok read (λ x. done (make x)) a (w, b) e in
      let same : (make s.0, s.1) ≡ (w, b) = ok_is (make s.0, s.1) (w, b) s.3 in (
        s.0,
        subst (λ (c : At). Took a (fields s.0) c) (ap (λ (y : B × At). y.1) same) (h.takes a s.0 s.1 s.2),
        ap (λ (y : B × At). y.0) same,
      );
  again = λ a v rest s.
      let t = h.again a v rest s in (t.0, reads_again read (λ x. done (make x)) a v t.0 (Ok (make v, t.0)) t.1 refl, t.2);
  follows = then_done expected read make h.follows;
}

-- ---- one after the other

-- the rest of a reading, where `known` tells from what is spelled what was read before
pub record Rest {X V B : Type 0} (make : V → B) (known : V → X) (read : X → Reader B) (fields : Counts → V → Fields → Fields)
    (after : V → Counts → Counts) (expected : List Field → List Field)
    : Type 0 where
  pub takes : (x : X) (a : At) (w : B) (b : At) → read x a ≡ Ok (w, b)
      → (v : V) × Leads a (fields a.counts v) b (after v a.counts) × (known v ≡ x) × (make v ≡ w)
  pub again : (a : At) (v : V) (rest : Fields) → SpelledAt (fields a.counts v rest) a
      → (b : At) × (read (known v) a ≡ Ok (make v, b)) × SpelledAt rest b
  pub follows : (x : X) (a : At) (outer : List (List ℕ)) (more : List Field)
      → Runs (state a outer (expected more)) (read x a >>= lands none_more outer more)

-- a field that is a part of the whole, and the rest
pub next : {X A V B : Type 0} {make : V → B} {known : V → X} {read : Reader A}
    {fields : Counts → A → Fields → Fields} {after : A → Counts → Counts} {others : Counts → V → Fields → Fields}
    {later : V → Counts → Counts} {front : List Field} {back : List Field → List Field} (k : X → A → Reader B) (part : V → A)
    → CountingReads read fields after front
    → Rest make (λ v. (known v, part v)) (λ (x : X × A). k x.0 x.1) others later back
    → Rest make known (λ x. reads read (k x)) (λ c v rest. fields c (part v) (others (after (part v) c) v rest))
    (λ v c. later v (after (part v) c)) (λ more. front ++ back more)
next {X} {A} {V} {B} {make} {known} {read} {fields} {after} {others} {later} {front} {back} k part first rest = record {
  takes = λ x a w b e.
      let s = reads_ok read (k x) a (w, b) e in
      let t = first.takes a s.0 s.1 s.2 in
      let u = rest.takes (x, s.0) s.1 w b s.3 in
      let more : Leads s.1 (others (after s.0 a.counts) u.0) b (later u.0 (after s.0 a.counts)) =
      subst (λ (c : Counts). Leads s.1 (others c u.0) b (later u.0 c)) t.kept u.1 in (
        u.0,
        subst (λ (y : A). Leads a (λ more. fields a.counts y (others (after y a.counts) u.0 more)) b (later u.0 (after y a.counts)))
            (sym (ap (λ (y : X × A). y.1) u.2)) (leads_then a s.1 b t more),
        ap (λ (y : X × A). y.0) u.2,
        u.3,
      );
  again = λ a v more s.
      let t = first.again a (part v) (others (after (part v) a.counts) v more) s in
      let kept : t.0.counts ≡ after (part v) a.counts = (first.takes a (part v) t.0 t.1).kept in
      let u = rest.again t.0 v more (subst (λ (c : Counts). SpelledAt (others c v more) t.0) (sym kept) t.2) in
      (u.0, reads_again read (k (known v)) a (part v) t.0 (Ok (make v, u.0)) t.1 u.1, u.2);
  follows = λ x a outer more.
      then_reads (state a outer (front ++ back more)) read (k x) a none_more none_more outer (back more) more
      (first.follows a outer (back more)) (λ y b e. rest.follows (x, y) b outer more);
}

-- the whole is made of what was read
pub made : {X V B : Type 0} {make : V → B} {known : V → X} {value : X → B} (whole : X → V)
    → ((x : X) → known (whole x) ≡ x)
    → ((x : X) → make (whole x) ≡ value x)
    → ((v : V) → value (known v) ≡ make v)
    → Rest make known (λ x. done (value x)) (λ c v rest. rest) (λ v c. c) (λ more. more)
made {X} {V} {B} {make} {known} {value} whole parts is again = record {
  takes = λ x a w b e.
      let same : (value x, a) ≡ (w, b) = ok_is (value x, a) (w, b) e in (
        whole x,
        subst (λ (c : At). Took a (λ rest. rest) c) (ap (λ (y : B × At). y.1) same) (took_none a),
        parts x,
        is x ∙ ap (λ (y : B × At). y.0) same,
      );
  again = λ a v rest s. (a, ap (λ (y : B). Ok (y, a)) (again v), s);
  follows = λ x a outer more. runs_now _;
}

-- and is it
pub entry : {X V : Type 0} {known : V → X} {value : X → V} → ((x : X) → known (value x) ≡ x) → ((v : V) → value (known v) ≡ v)
    → Rest (λ v. v) known (λ x. done (value x)) (λ c v rest. rest) (λ v c. c) (λ more. more)
entry {X} {V} {known} {value} parts again = made {make = λ v. v} {known = known} {value = value} value parts (λ x. refl) again

-- the last field is the whole
pub last : {X V : Type 0} {known : V → X} {read : Reader V} {fields : Counts → V → Fields → Fields} {after : V → Counts → Counts}
    {front : List Field} → CountingReads read fields after front → ((x : X) (v : V) → known v ≡ x)
    → Rest (λ v. v) known (λ x. read) fields after (λ more. front ++ more)
last h known_is = record {
  takes = λ x a w b e. (w, h.takes a w b e, known_is x w, refl);
  again = h.again;
  follows = λ x. h.follows;
}

-- nothing was read before
pub in_order : {V : Type 0} {read : Reader V} {fields : Counts → V → Fields → Fields} {after : V → Counts → Counts} {front : List Field}
    → Rest {X = Unit {0}} {V = V} {B = V} (λ v. v) (λ v. tt) (λ x. read) fields after (λ more. front ++ more)
    → CountingReads read fields after front
in_order {V} {read} {fields} {after} {front} h = record {
  takes = λ a w b e.
      let t = h.takes tt a w b e in subst (λ (v : V). Leads a (fields a.counts v) b (after v a.counts)) t.3 t.1;
  again = h.again;
  follows = h.follows tt;
}

pub in_order_as : {V B : Type 0} {make : V → B} {read : Reader B} {fields : V → Fields → Fields} {front : List Field}
    → Rest {X = Unit {0}} {V = V} {B = B} make (λ v. tt) (λ x. read) (λ c. fields) (λ v c. c) (λ more. front ++ more)
    → ReadsAs make read fields front
in_order_as {V} {B} {make} {read} {fields} {front} h = record {
  takes = λ a w b e. let t = h.takes tt a w b e in (t.0, t.1, t.3);
  again = h.again;
  follows = h.follows tt;
}
