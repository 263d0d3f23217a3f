-- What the sections contain: each part of a module by itself.
use Rattle.wasm_spelling.proofs.Common.{◌≡◌, ℕ, ◌<◌, ◌≤◌, Bool, true, false, eqb, List, [], length, Some, None, Ok, Option, sym, refl, ap}
use Rattle.wasm_spelling.proofs.Common.{◌∙◌, subst, append-nil, arith, eq-eqb, eqb-true, DataCount, Module, At, Counts, Fields, finished}
use Rattle.wasm_spelling.proofs.Common.{number, provided, text, Part, code, content, data_count, each, elements, exports, functions}
use Rattle.wasm_spelling.proofs.Common.{globals, imports, is_empty, memories, rank_of, segments, start, tables, types, Reader, agrees_with}
use Rattle.wasm_spelling.proofs.Common.{done, reads, Field, content_of, of_functions, of_segments}
use Rattle.wasm_tree.specs.declared.entries.Start.{Start}
use Rattle.wasm_spelling.specs.ModuleFields as of
use Rattle.wasm_spelling.specs.Reading.{vector_at, func_entry_at, start_at, data_count_entry_at, segment_entry_at, bodies_at, content_at}
use Rattle.wasm_spelling.specs.Reading.{no_module}
use Rattle.wasm_spelling.proofs.Tools.{ok_is, reads_ok, reads_again}
use Rattle.wasm_spelling.proofs.Took.{SpelledAt, Taken, taken_then}
use Rattle.wasm_spelling.proofs.Runs.{Follows}
use Rattle.wasm_spelling.proofs.Readings.{CountingReads, Reads, then_done, onto}
use Rattle.wasm_spelling.proofs.Entries.{types_reads, imports_reads, tables_reads, memories_reads, globals_reads, exports_reads}
use Rattle.wasm_spelling.proofs.Entries.{start_reads, elements_reads}
use Rattle.wasm_spelling.proofs.Counted.{functions_reads, bodies_reads, bodies_keep, count_in, Agrees, data_count_reads, segments_reads}

-- ---- what stays

-- the module with one part of another
abbrev pub put : Part → Module → Module → Module
put types t m = record m { types = t.types }
put imports t m = record m { imports = t.imports }
put functions t m = record m { funcs = t.funcs }
put tables t m = record m { tables = t.tables }
put memories t m = record m { memories = t.memories }
put globals t m = record m { globals = t.globals }
put exports t m = record m { exports = t.exports }
put start t m = record m { start = t.start }
put elements t m = record m { elements = t.elements }
put data_count t m = record m { data_count = t.data_count }
put code t m = record m { bodies = t.bodies }
put segments t m = record m { segments = t.segments }

-- a module of one part
abbrev only : Part → Module → Module
only part t = put part t no_module

-- a part is the same in two modules
abbrev pub Same : Part → Module → Module → Type 0
Same part m t = only part m ≡ only part t

-- what a section contains, where so many data segments are expected
abbrev pub content_with : ℕ → Part → Module → Fields → Fields
content_with found data_count t rest = of.data_count_content t.data_count found rest
content_with found part t rest = content part t rest

pub content_is : (part : Part) (t : Module) → content part t ≡ content_with (length t.segments) part t
content_is data_count t = refl
content_is part t = refl

content_only : (found : ℕ) (part : Part) (t : Module) → content_with found part t ≡ content_with found part (only part t)
content_only found data_count t = refl
content_only found part t = refl

pub same_content : (found : ℕ) (part : Part) (m t : Module) → Same part m t → content_with found part m ≡ content_with found part t
same_content found part m t same = content_only found part m ∙ ap (content_with found part) same ∙ sym (content_only found part t)

empty_only : (part : Part) (t : Module) → is_empty part t ≡ is_empty part (only part t)
empty_only types t = refl
empty_only part t = refl

pub same_empty : (part : Part) (m t : Module) → Same part m t → is_empty part m ≡ is_empty part t
same_empty part m t same = empty_only part m ∙ ap (is_empty part) same ∙ sym (empty_only part t)

pub rank_above : (p : Part) → (1 ≤ rank_of p) × (rank_of p ≤ 12)
rank_above types = (omega arith, omega arith)
rank_above part = (omega arith, omega arith)

-- a part that is put in leaves the others
pub put_keeps : (p q : Part) (x m : Module) → (rank_of q ≡ rank_of p → ⊥) → Same q m (put p x m)
put_keeps types types x m ne = absurd (ne refl)
put_keeps imports imports x m ne = absurd (ne refl)
put_keeps functions functions x m ne = absurd (ne refl)
put_keeps tables tables x m ne = absurd (ne refl)
put_keeps memories memories x m ne = absurd (ne refl)
put_keeps globals globals x m ne = absurd (ne refl)
put_keeps exports exports x m ne = absurd (ne refl)
put_keeps start start x m ne = absurd (ne refl)
put_keeps elements elements x m ne = absurd (ne refl)
put_keeps data_count data_count x m ne = absurd (ne refl)
put_keeps code code x m ne = absurd (ne refl)
put_keeps segments segments x m ne = absurd (ne refl)
put_keeps p q x m ne = refl

-- ---- what is counted

-- the counts of functions and data segments, with what was read
abbrev pub tallies : Counts → ℕ × Bool × Option ℕ × Bool
tallies c = (c.functions, c.code_read, c.data_count, c.data_read)

-- and they are those of a module
pub record Counted (m : Module) (n : ℕ × Bool × Option ℕ × Bool) : Type 0 where
  pub functions : n.0 ≡ length m.funcs
  pub bodies : n.1 ≡ true → length m.funcs ≡ length m.bodies
  pub no_bodies : n.1 ≡ false → length m.bodies ≡ 0
  pub data_count : n.2 ≡ count_in m.data_count
  pub segments : n.3 ≡ true → agrees_with n.2 (length m.segments) ≡ true
  pub no_segments : n.3 ≡ false → length m.segments ≡ 0

-- a whole module: each function has its body, and there are as many data segments as it says
pub record AddsUp (t : Module) : Type 0 where
  pub as_many : length t.funcs ≡ length t.bodies
  pub agrees : Agrees t.data_count (length t.segments)

-- of which some sections were read so far
pub record Progress (m : Module) (c : Counts) : Type 0 where
  pub counted : Counted m (tallies c)
  pub none_yet : c.last_rank < 11 → (c.all_locals ≡ 0) × (c.code_read ≡ false)
  pub no_data : c.last_rank < 12 → c.data_read ≡ false

-- and the id of a section was read behind them
pub record Ready (p : Part) (m : Module) (c : Counts) : Type 0 where
  pub counted : Counted m (tallies c)
  pub none_yet : rank_of p ≤ 11 → (c.all_locals ≡ 0) × (c.code_read ≡ false)
  pub no_data : c.data_read ≡ false
  pub last : c.last_rank ≡ rank_of p

pub ready : (p : Part) (m : Module) (c : Counts) → Progress m c → c.last_rank < rank_of p → Ready p m (record c { last_rank = rank_of p })
ready p m c h less = record {
  counted = h.counted;
  none_yet = λ le. h.none_yet (omega (arith, le, less));
  no_data = h.no_data (omega (arith, less, (rank_above p).1));
  last = refl;
}

-- what is counted of a module
abbrev sizes_of : Module → ℕ × ℕ × Option DataCount × ℕ
sizes_of m = (length m.funcs, length m.bodies, m.data_count, length m.segments)

-- a part was read that is not counted
steady : (p : Part) (m t : Module) (c : Counts) → Ready p m c → sizes_of t ≡ sizes_of m → Progress t c
steady p m t c r same =
    let fs : length t.funcs ≡ length m.funcs = ap (λ (n : ℕ × ℕ × Option DataCount × ℕ). n.0) same in
    let bs : length t.bodies ≡ length m.bodies = ap (λ (n : ℕ × ℕ × Option DataCount × ℕ). n.1) same in
    let said : t.data_count ≡ m.data_count = ap (λ (n : ℕ × ℕ × Option DataCount × ℕ). n.2) same in
    let ss : length t.segments ≡ length m.segments = ap (λ (n : ℕ × ℕ × Option DataCount × ℕ). n.3) same in
    record {
      counted = record {
        functions = r.counted.functions ∙ sym fs;
        bodies = λ e. fs ∙ r.counted.bodies e ∙ sym bs;
        no_bodies = λ e. bs ∙ r.counted.no_bodies e;
        data_count = r.counted.data_count ∙ ap count_in (sym said);
        segments = λ e. ap (agrees_with c.data_count) ss ∙ r.counted.segments e;
        no_segments = λ e. ss ∙ r.counted.no_segments e;
      };
      none_yet = λ less. r.none_yet (omega (arith, less, r.last));
      no_data = λ less. r.no_data;
    }

-- a section's content was read
pub record PartRead (p : Part) (m t : Module) (a b : At) : Type 0 where
  pub taken : (found : ℕ) → (p ≡ data_count → Agrees t.data_count found) → Taken a (content_with found p t) b
  pub keeps : (q : Part) → (rank_of q ≡ rank_of p → ⊥) → Same q m t
  pub progress : Progress t b.counts
  pub last : b.counts.last_rank ≡ a.counts.last_rank

-- a part that is not counted
uncounted : {A : Type 0} {read : Reader A} {fields : A → Fields → Fields} {front : List Field} (p : Part) (m : Module) (make : A → Module)
    → Reads read fields front
    → ((found : ℕ) (x : A) → content_with found p (make x) ≡ fields x)
    → ((x : A) → put p (make x) m ≡ make x)
    → ((x : A) → sizes_of (make x) ≡ sizes_of m)
    → (a : At) (t : Module) (b : At) → Ready p m a.counts → reads read (λ x. done (make x)) a ≡ Ok (t, b) → PartRead p m t a b
uncounted p m make h content_are put_is sizes_are a t b r e =
    let u = (onto make h).takes a t b e in
    let kept : b.counts ≡ a.counts = u.1.kept in
    subst (λ (y : Module). PartRead p m y a b) u.2 (record {
      taken = λ found agrees. subst (λ (f : Fields → Fields). Taken a f b) (sym (content_are found u.0)) u.1.taken;
      keeps = λ q ne. subst (λ (y : Module). Same q m y) (put_is u.0) (put_keeps p q (make u.0) m ne);
      progress = subst (λ (c : Counts). Progress (make u.0) c) (sym kept) (steady p m (make u.0) a.counts r (sizes_are u.0));
      last = ap (λ (c : Counts). c.last_rank) kept;
    })

true_false : (A : Type 0) (b : Bool) → b ≡ true → b ≡ false → A
true_false A b t f = absurd cc

taken_provided : (a : At) (b : Bool) → b ≡ true → Taken a (provided b) a
taken_provided a b e = record { spelled = λ fields s. (e, s); moved = refl; within = omega arith }

-- a condition behind a count that was taken holds
without : (a b : At) (n : ℕ) (t : Bool) (f : Fields → Fields) → Taken a (λ rest. number n (provided t (f rest))) b
    → (t ≡ true) × Taken a (λ rest. number n (f rest)) b
without a b n t f h =
    let all = h.spelled (text b.left finished) (b.left, [], sym (append-nil b.left), refl, refl) in (
      all.4.0,
      record { spelled = λ rest s. let w = h.spelled rest s in (w.0, w.1, w.2, w.3, w.4.1); moved = h.moved; within = h.within },
    )

pub part_takes : (p : Part) (m : Module) (a : At) (t : Module) (b : At) → Ready p m a.counts → content_at p m a ≡ Ok (t, b)
    → PartRead p m t a b
unfolding content_at
part_takes types m a t b r e =
    uncounted types m (λ x. record m { types = x }) types_reads (λ found x. refl) (λ x. refl) (λ x. refl) a t b r e
part_takes imports m a t b r e =
    uncounted imports m (λ x. record m { imports = x }) imports_reads (λ found x. refl) (λ x. refl) (λ x. refl) a t b r e
part_takes functions m a t b r e =
    let x = reads_ok (vector_at of_functions func_entry_at) _ a (t, b) e in
    let u = functions_reads.takes a x.0 x.1 x.2 in
    let none = r.none_yet (omega arith) in
    subst (λ (y : Module × At). PartRead functions m y.0 a y.1) (ok_is (record m { funcs = x.0 }, x.1) (t, b) x.3)
    (record {
      taken = λ found agrees. u.taken;
      keeps = λ q ne. put_keeps functions q (record m { funcs = x.0 }) m ne;
      last = ap (λ (c : Counts). c.last_rank) u.kept;
      progress = subst (λ (c : Counts). Progress (record m { funcs = x.0 }) c) (sym u.kept) (record {
        counted = record {
          functions = refl;
          bodies = λ e. true_false _ a.counts.code_read e none.1;
          no_bodies = λ e. r.counted.no_bodies none.1;
          data_count = r.counted.data_count;
          segments = r.counted.segments;
          no_segments = r.counted.no_segments;
        };
        none_yet = λ less. none;
        no_data = λ less. r.no_data;
      });
    })
part_takes tables m a t b r e =
    uncounted tables m (λ x. record m { tables = x }) tables_reads (λ found x. refl) (λ x. refl) (λ x. refl) a t b r e
part_takes memories m a t b r e =
    uncounted memories m (λ x. record m { memories = x }) memories_reads (λ found x. refl) (λ x. refl) (λ x. refl) a t b r e
part_takes globals m a t b r e =
    uncounted globals m (λ x. record m { globals = x }) globals_reads (λ found x. refl) (λ x. refl) (λ x. refl) a t b r e
part_takes exports m a t b r e =
    uncounted exports m (λ x. record m { exports = x }) exports_reads (λ found x. refl) (λ x. refl) (λ x. refl) a t b r e
part_takes start m a t b r e =
    uncounted start m (λ x. record m { start = Some x }) start_reads (λ found x. refl) (λ x. refl) (λ x. refl) a t b r e
part_takes elements m a t b r e =
    uncounted elements m (λ x. record m { elements = x }) elements_reads (λ found x. refl) (λ x. refl) (λ x. refl) a t b r e
part_takes data_count m a t b r e =
    let x = reads_ok data_count_entry_at _ a (t, b) e in
    let u = data_count_reads.takes a x.0 x.1 x.2 in
    subst (λ (y : Module × At). PartRead data_count m y.0 a y.1) (ok_is (record m { data_count = Some x.0 }, x.1) (t, b) x.3)
    (record {
      taken = λ found agrees. taken_then a x.1 x.1 u.taken
          (taken_provided x.1 (eqb x.0.count found) (eq-eqb x.0.count found (sym (eqb-true found x.0.count (agrees refl)))));
      keeps = λ q ne. put_keeps data_count q (record m { data_count = Some x.0 }) m ne;
      last = ap (λ (c : Counts). c.last_rank) u.kept;
      progress = subst (λ (c : Counts). Progress (record m { data_count = Some x.0 }) c) (sym u.kept) (record {
        counted = record {
          functions = r.counted.functions;
          bodies = r.counted.bodies;
          no_bodies = r.counted.no_bodies;
          data_count = refl;
          segments = λ e. true_false _ a.counts.data_read e r.no_data;
          no_segments = r.counted.no_segments;
        };
        none_yet = λ less. r.none_yet (omega arith);
        no_data = λ less. r.no_data;
      });
    })
part_takes code m a t b r e =
    let x = reads_ok bodies_at _ a (t, b) e in
    let u = without a x.1 (length x.0) (eqb (length x.0) a.counts.functions) (of.bodies a.counts.all_locals x.0)
    (bodies_reads.takes a x.0 x.1 x.2).taken in
    let kept = bodies_keep a x.0 x.1 x.2 in
    let last_rank : x.1.counts.last_rank ≡ a.counts.last_rank = ap (λ (c : Counts). c.last_rank) kept in
    let code_read : x.1.counts.code_read ≡ true = ap (λ (c : Counts). c.code_read) kept in
    let data_read : x.1.counts.data_read ≡ false = ap (λ (c : Counts). c.data_read) kept ∙ r.no_data in
    subst (λ (y : Module × At). PartRead code m y.0 a y.1) (ok_is (record m { bodies = x.0 }, x.1) (t, b) x.3)
    (record {
      taken = λ found agrees.
          subst (λ (n : ℕ). Taken a (λ rest. number (length x.0) (of.bodies n x.0 rest)) x.1) (r.none_yet (omega arith)).0 u.1;
      keeps = λ q ne. put_keeps code q (record m { bodies = x.0 }) m ne;
      last = last_rank;
      progress = record {
        counted = record {
          functions = ap (λ (c : Counts). c.functions) kept ∙ r.counted.functions;
          bodies = λ e. sym r.counted.functions ∙ sym (eqb-true (length x.0) a.counts.functions u.0);
          no_bodies = λ e. true_false _ x.1.counts.code_read code_read e;
          data_count = ap (λ (c : Counts). c.data_count) kept ∙ r.counted.data_count;
          segments = λ e. true_false _ x.1.counts.data_read e data_read;
          no_segments = λ e. r.counted.no_segments r.no_data;
        };
        none_yet = λ less. absurd (omega (arith, less, last_rank, r.last));
        no_data = λ less. data_read;
      };
    })
part_takes segments m a t b r e =
    let x = reads_ok (vector_at of_segments segment_entry_at) _ a (t, b) e in
    let l = segments_reads.takes a x.0 x.1 x.2 in
    let u = without a x.1 (length x.0) (agrees_with a.counts.data_count (length x.0)) (each of.segment_entry x.0) l.taken in
    subst (λ (y : Module × At). PartRead segments m y.0 a y.1) (ok_is (record m { segments = x.0 }, x.1) (t, b) x.3)
    (record {
      taken = λ found agrees. u.1;
      keeps = λ q ne. put_keeps segments q (record m { segments = x.0 }) m ne;
      last = ap (λ (c : Counts). c.last_rank) l.kept;
      progress = subst (λ (c : Counts). Progress (record m { segments = x.0 }) c) (sym l.kept) (record {
        counted = record {
          functions = r.counted.functions;
          bodies = r.counted.bodies;
          no_bodies = r.counted.no_bodies;
          data_count = r.counted.data_count;
          segments = λ e. u.0;
          no_segments = λ e. true_false _ true refl e;
        };
        none_yet = λ less. absurd (omega (arith, less, r.last));
        no_data = λ less. absurd (omega (arith, less, r.last));
      });
    })

-- some bytes are taken, whatever the counts
abbrev pub Moves : At → Module × At → Type 0
Moves a y = (f : Fields → Fields) × Taken a f y.1

moves_as : {A : Type 0} {read : Reader A} {fields : Counts → A → Fields → Fields} {after : A → Counts → Counts} {front : List Field}
    (make : A → Module) → CountingReads read fields after front
    → (a : At) (t : Module) (b : At) → reads read (λ x. done (make x)) a ≡ Ok (t, b) → Moves a (t, b)
moves_as {A} {read} {fields} make h a t b e =
    let x = reads_ok read (λ x. done (make x)) a (t, b) e in
    subst (Moves a) (ok_is (make x.0, x.1) (t, b) x.3) (fields a.counts x.0, (h.takes a x.0 x.1 x.2).taken)

pub part_moves : (p : Part) (m : Module) (a : At) (t : Module) (b : At) → content_at p m a ≡ Ok (t, b) → Moves a (t, b)
unfolding content_at
part_moves types m = moves_as (λ x. record m { types = x }) types_reads
part_moves imports m = moves_as (λ x. record m { imports = x }) imports_reads
part_moves functions m = moves_as (λ x. record m { funcs = x }) functions_reads
part_moves tables m = moves_as (λ x. record m { tables = x }) tables_reads
part_moves memories m = moves_as (λ x. record m { memories = x }) memories_reads
part_moves globals m = moves_as (λ x. record m { globals = x }) globals_reads
part_moves exports m = moves_as (λ x. record m { exports = x }) exports_reads
part_moves start m = moves_as (λ x. record m { start = Some x }) start_reads
part_moves elements m = moves_as (λ x. record m { elements = x }) elements_reads
part_moves data_count m = moves_as (λ x. record m { data_count = Some x }) data_count_reads
part_moves code m = moves_as (λ x. record m { bodies = x }) bodies_reads
part_moves segments m = moves_as (λ x. record m { segments = x }) segments_reads

-- ---- what is spelled is read

pub part_again : (p : Part) (m t : Module) (a : At) (rest : Fields) → Ready p m a.counts → (p ≡ code → length t.bodies ≡ length m.funcs)
    → (p ≡ segments → agrees_with a.counts.data_count (length t.segments) ≡ true) → SpelledAt (content p t rest) a → (b : At)
    × (content_at p m a ≡ Ok (put p t m, b)) × SpelledAt rest b
unfolding content_at
part_again types m t a rest r as_many agrees s = (onto (λ x. record m { types = x }) types_reads).again a t.types rest s
part_again imports m t a rest r as_many agrees s = (onto (λ x. record m { imports = x }) imports_reads).again a t.imports rest s
part_again functions m t a rest r as_many agrees s =
    let x = functions_reads.again a t.funcs rest s in
    (x.0, reads_again (vector_at of_functions func_entry_at) _ a t.funcs x.0 _ x.1 refl, x.2)
part_again tables m t a rest r as_many agrees s = (onto (λ x. record m { tables = x }) tables_reads).again a t.tables rest s
part_again memories m t a rest r as_many agrees s = (onto (λ x. record m { memories = x }) memories_reads).again a t.memories rest s
part_again globals m t a rest r as_many agrees s = (onto (λ x. record m { globals = x }) globals_reads).again a t.globals rest s
part_again exports m t a rest r as_many agrees s = (onto (λ x. record m { exports = x }) exports_reads).again a t.exports rest s
part_again start m t a rest r as_many agrees s = started t.start s
  where
    started : (o : Option Start) → SpelledAt (of.start_content o rest) a
        → (b : At) × (reads start_at (λ x. done (record m { start = Some x })) a ≡ Ok (record m { start = o }, b)) × SpelledAt rest b
    started None s = absurd cc
    started (Some x) s = (onto (λ x. record m { start = Some x }) start_reads).again a x rest s
part_again elements m t a rest r as_many agrees s = (onto (λ x. record m { elements = x }) elements_reads).again a t.elements rest s
part_again data_count m t a rest r as_many agrees s = said t.data_count s
  where
    said : (o : Option DataCount) → SpelledAt (of.data_count_content o (length t.segments) rest) a
        → (b : At) × (reads data_count_entry_at (λ x. done (record m { data_count = Some x })) a ≡ Ok (record m { data_count = o }, b))
        × SpelledAt rest b
    said None s = absurd cc
    said (Some x) s =
        let y = data_count_reads.again a x (provided (eqb x.count (length t.segments)) rest) s in
        (y.0, reads_again data_count_entry_at (λ x. done (record m { data_count = Some x })) a x y.0 _ y.1 refl, y.2.1)
part_again code m t a rest r as_many agrees s =
    let none = r.none_yet (omega arith) in
    let w = subst (λ (n : ℕ). SpelledAt (number (length t.bodies) (of.bodies n t.bodies rest)) a) (sym none.0) s in
    let x = bodies_reads.again a t.bodies rest
    (w.0, w.1, w.2, w.3, (eq-eqb (length t.bodies) a.counts.functions (as_many refl ∙ sym r.counted.functions), w.4)) in
    (x.0, reads_again bodies_at _ a t.bodies x.0 _ x.1 refl, x.2)
part_again segments m t a rest r as_many agrees s =
    let x = segments_reads.again a t.segments rest (s.0, s.1, s.2, s.3, (agrees refl, s.4)) in
    (x.0, reads_again (vector_at of_segments segment_entry_at) _ a t.segments x.0 _ x.1 refl, x.2)

-- ---- the machine

pub part_follows : (p : Part) (m : Module) → Follows (content_of p) (content_at p m)
unfolding content_at
part_follows types m = then_done (content_of types) _ _ types_reads.follows
part_follows imports m = then_done (content_of imports) _ _ imports_reads.follows
part_follows functions m = then_done (content_of functions) _ _ functions_reads.follows
part_follows tables m = then_done (content_of tables) _ _ tables_reads.follows
part_follows memories m = then_done (content_of memories) _ _ memories_reads.follows
part_follows globals m = then_done (content_of globals) _ _ globals_reads.follows
part_follows exports m = then_done (content_of exports) _ _ exports_reads.follows
part_follows start m = then_done (content_of start) _ _ start_reads.follows
part_follows elements m = then_done (content_of elements) _ _ elements_reads.follows
part_follows data_count m = then_done (content_of data_count) _ _ data_count_reads.follows
part_follows code m = then_done (content_of code) _ _ bodies_reads.follows
part_follows segments m = then_done (content_of segments) _ _ segments_reads.follows
