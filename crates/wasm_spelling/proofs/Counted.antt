-- Readings that count: function entries, runs of locals, bodies, and data segments, of which another section says the number.
use Rattle.wasm_spelling.proofs.Common.{◌≡◌, ℕ, ◌+◌, true, false, cond, eqb, leb, List, [], ◌∷◌, length, nat_le, Some, None, Ok, Option}
use Rattle.wasm_spelling.proofs.Common.{sym, refl, ap, ◌∙◌, subst, arith, BodyEntry, DataCount, Run, At, Counts, Fields, finished, here}
use Rattle.wasm_spelling.proofs.Common.{number, provided, window, most_all_locals, most_blocks, most_functions, most_locals, code_fields}
use Rattle.wasm_spelling.proofs.Common.{each, end_byte, locals_of, agrees_with, data_count_at, locals_counted, more_locals, run_count_at}
use Rattle.wasm_spelling.proofs.Common.{instructions, of_functions, of_segments, Limit, Malformed}
use Rattle.wasm_spelling.specs.declared.fault.Cause.TheVariants as cause
use Rattle.wasm_spelling.specs.declared.fault.Which.TheVariants as which
use Rattle.wasm_spelling.specs.ModuleFields as of
use Rattle.wasm_spelling.specs.Table as table
use Rattle.wasm_spelling.specs.Table.{of_runs, body_fields, segment_total, row}
use Rattle.wasm_spelling.specs.Reading.{vector_at, type_at, func_entry_at, data_count_entry_at, segment_entry_at, run_at, by_end}
use Rattle.wasm_spelling.specs.Reading.{ender_place, code_at, body_content_at, body_at, bodies_at}
use Rattle.wasm_spelling.proofs.Tools.{yes, bad, ok_is, not_ok, either_way, reads_ok, reads_again}
use Rattle.wasm_spelling.proofs.Took.{Leads, took_then, CountingSpelling}
use Rattle.wasm_spelling.proofs.Runs.{follows_row, follows_from, follows_both}
use Rattle.wasm_spelling.proofs.Readings.{CountingReads, by_row, counted, respelled, Tallied, tally_always, tally_where, tallied, then_done}
use Rattle.wasm_spelling.proofs.Readings.{next, entry, in_order}
use Rattle.wasm_spelling.proofs.Leaves.{number_spelling, limited_spelling, place_reads, type_reads}
use Rattle.wasm_spelling.proofs.Vectors.{each_from, after_each, counting_times, vector_reads}
use Rattle.wasm_spelling.proofs.Windows.{window_reads}
use Rattle.wasm_spelling.proofs.CodeTaken.{ended_code_takes}
use Rattle.wasm_spelling.proofs.CodeAgain.{ended_code_again}
use Rattle.wasm_spelling.proofs.CodeFollows.{ended_code_follows}
use Rattle.wasm_spelling.proofs.Entries.{func_entry_reads, segment_entry_reads}

-- ---- function entries

pub functions_reads : CountingReads (vector_at of_functions func_entry_at) (λ c. of.short_vector most_functions of.func_entry)
    (λ v c. record c { functions = length v }) (table.vector of_functions ∷ [])
functions_reads =
    vector_reads of_functions
    (tallied (limited_spelling most_functions which.Functions) (tally_always (λ n c. record c { functions = n }))) func_entry_reads

-- ---- runs of locals

-- so many locals more
abbrev more_conditions : Counts → ℕ → Fields → Fields
more_conditions c n rest =
    provided (nat_le (c.locals + n) most_locals) (provided (nat_le (c.all_locals + n) most_all_locals) rest)

more_tallied : Tallied more_locals more_conditions locals_counted
more_tallied = record {
  from = λ place n b m k e.
      either_way (leb (b.counts.locals + n) most_locals)
      (cond (leb (b.counts.all_locals + n) most_all_locals) (yes (n, record b { counts = locals_counted n b.counts }))
      (bad (Limit place which.AllLocals))) (bad (Limit place which.Locals)) (m, k) e (λ low x.
      either_way (leb (b.counts.all_locals + n) most_all_locals) (yes (n, record b { counts = locals_counted n b.counts }))
      (bad (Limit place which.AllLocals)) (m, k) x
      (λ high y. (ok_is (n, record b { counts = locals_counted n b.counts }) (m, k) y, λ rest q bytes s. (low, (high, s))))
      (λ _ y. not_ok _ (m, k) y))
      (λ _ x. not_ok _ (m, k) x);
  to = λ place n b rest q bytes s.
      let low : leb (b.counts.locals + n) most_locals ≡ true = s.0 in
      let high : leb (b.counts.all_locals + n) most_all_locals ≡ true = s.1.0 in
      (rw (low, high) refl, s.1.1);
}

run_count : CountingSpelling run_count_at (λ c n rest. number n (more_conditions c n rest)) locals_counted
run_count = tallied number_spelling more_tallied

abbrev run_fields : Counts → Run → Fields → Fields
run_fields c r rest = number r.count (more_conditions c r.count (of.value_type r.ty rest))

abbrev after_run : Run → Counts → Counts
after_run r c = locals_counted r.count c

run_reads : CountingReads run_at run_fields after_run (table.run ∷ [])
unfolding run_at row
run_reads = record {
  takes = λ a v b e.
      let n = reads_ok run_count_at _ a (v, b) e in
      let y = reads_ok type_at _ n.1 (v, b) n.3 in
      subst (λ (z : Run × At). Leads a (run_fields a.counts z.0) z.1 (after_run z.0 a.counts))
      (ok_is (record { count = n.0; ty = y.0 }, y.1) (v, b) y.3)
      (took_then a n.1 y.1 (run_count.takes a n.0 n.1 n.2) (type_reads.takes n.1 y.0 y.1 y.2));
  again = λ a v rest s.
      let n = run_count.again a v.count (of.value_type v.ty rest) s in
      let t = type_reads.again n.0 v.ty rest n.2 in (
        t.0,
        reads_again run_count_at _ a v.count
            n.0 _ n.1 (reads_again type_at (λ ty. λ b. Ok (record { count = v.count; ty = ty }, b)) n.0 v.ty t.0 _ t.1 refl),
        t.2,
      );
  follows =
      follows_from (table.run ∷ []) (λ n. table.value_type ∷ [])
      run_count_at _ (follows_row table.run run_count_at (λ n. table.value_type ∷ []) (λ a outer fields. refl)) (λ count.
      then_done (table.value_type ∷ []) type_at _ type_reads.follows);
}

runs_are : (rs : List Run) (c : Counts) (rest : Fields) → each_from run_fields after_run c rs rest ≡ of.runs c.locals c.all_locals rs rest
runs_are [] c rest = refl
runs_are (r ∷ rs) c rest = ap (run_fields c r) (runs_are rs (after_run r c) rest)

-- a vector of runs begins with no locals in this body
abbrev after_runs : List Run → Counts → Counts
after_runs rs c = after_each after_run rs (record c { locals = 0 })

runs_reads : CountingReads (vector_at of_runs run_at) (λ c rs rest. number (length rs) (of.runs 0 c.all_locals rs rest)) after_runs
    (table.vector of_runs ∷ [])
unfolding row
runs_reads =
    counted (table.vector of_runs) (tallied number_spelling (tally_always (λ n c. record c { locals = 0 })))
    (respelled runs_are (counting_times run_reads)) (λ a outer more. refl)

all_locals_of : (rs : List Run) (c : Counts) → (after_each after_run rs c).all_locals ≡ c.all_locals + locals_of rs
all_locals_of [] c = omega arith
all_locals_of (r ∷ rs) c =
    let more : (after_each after_run rs (after_run r c)).all_locals ≡ c.all_locals + r.count + locals_of rs =
    all_locals_of rs (after_run r c) in
    omega (arith, more)

-- ---- bodies

-- what a body's window contains
abbrev body_inside : Counts → BodyEntry → Fields → Fields
body_inside c v rest =
    number (length v.runs) (of.runs 0 c.all_locals v.runs (code_fields most_blocks v.code (end_byte v.end_place rest)))

abbrev after_body : BodyEntry → Counts → Counts
after_body v c = after_runs v.runs c

content_reads : CountingReads body_content_at body_inside after_body (table.vector of_runs ∷ instructions most_blocks false ∷ [])
unfolding body_content_at
content_reads = record {
  takes = λ a v b e.
      let n = reads_ok (vector_at of_runs run_at) _ a (v, b) e in
      let y = reads_ok (code_at most_blocks false) _ n.1 (v, b) n.3 in
      subst (λ (z : BodyEntry × At). Leads a (body_inside a.counts z.0) z.1 (after_body z.0 a.counts))
      (ok_is (record { runs = n.0; code = y.0.0; end_place = ender_place y.0.1 }, y.1) (v, b) y.3)
      (took_then a n.1 y.1 (runs_reads.takes a n.0 n.1 n.2) (ended_code_takes n.1 y.0.0 y.0.1 y.1 y.2));
  again = λ a v rest s.
      let t = runs_reads.again a v.runs (code_fields most_blocks v.code (end_byte v.end_place rest)) s in
      let u = ended_code_again t.0 v.code v.end_place rest t.2 in (
        u.0,
        reads_again (vector_at of_runs run_at) _ a v.runs
            t.0 _ t.1 (reads_again (code_at most_blocks false)
            (λ c. λ b. Ok (record { runs = v.runs; code = c.0; end_place = ender_place c.1 }, b)) t.0
            (v.code, by_end v.end_place) u.0 _ u.1 refl),
        u.2,
      );
  follows =
      follows_both (table.vector of_runs ∷ []) (instructions most_blocks false ∷ []) _ _ runs_reads.follows (λ runs.
      then_done (instructions most_blocks false ∷ []) (code_at most_blocks false) _ ended_code_follows);
}

abbrev body_window : Counts → BodyEntry → Fields → Fields
body_window c v rest = window (body_inside c v finished) rest

body_reads : CountingReads body_at body_window after_body body_fields
unfolding body_at
body_reads = window_reads cause.BodyNotUsedUp content_reads

bodies_are : (bs : List BodyEntry) (c : Counts) (rest : Fields) → each_from body_window after_body c bs rest
    ≡ of.bodies c.all_locals bs rest
bodies_are [] c rest = refl
bodies_are (b ∷ bs) c rest =
    ap (body_window c b)
    (bodies_are bs (after_body b c) rest ∙ ap (λ (n : ℕ). of.bodies n bs rest) (all_locals_of b.runs (record c { locals = 0 })))

-- as many bodies as functions
pub bodies_reads : CountingReads bodies_at
    (λ c v rest. number (length v) (provided (eqb (length v) c.functions) (of.bodies c.all_locals v rest)))
    (λ v c. after_each after_body v (record c { code_read = true })) (table.bodies ∷ [])
unfolding bodies_at row
bodies_reads =
    counted table.bodies
    (tallied number_spelling (tally_where (λ c n. eqb n c.functions) (λ n c. record c { code_read = true })
    (λ place. Malformed place cause.CountDiffers)))
    (respelled bodies_are (counting_times body_reads)) (λ a outer more. refl)

-- bodies count locals alone
abbrev with_locals : Counts → Counts → Counts
with_locals d c = record c { locals = d.locals; all_locals = d.all_locals }

after_runs_same : (rs : List Run) (c : Counts) → after_each after_run rs c ≡ with_locals (after_each after_run rs c) c
after_runs_same [] c = refl
after_runs_same (r ∷ rs) c = after_runs_same rs (after_run r c)

after_bodies_same : (bs : List BodyEntry) (c : Counts) → after_each after_body bs c ≡ with_locals (after_each after_body bs c) c
after_bodies_same [] c = refl
after_bodies_same (b ∷ bs) c =
    after_bodies_same bs (after_body b c)
    ∙ ap (with_locals (after_each after_body bs (after_body b c))) (after_runs_same b.runs (record c { locals = 0 }))

pub bodies_keep : (a : At) (v : List BodyEntry) (b : At) → bodies_at a ≡ Ok (v, b)
    → b.counts ≡ with_locals b.counts (record a.counts { code_read = true })
bodies_keep a v b e =
    let kept = (bodies_reads.takes a v b e).kept in
    kept ∙ after_bodies_same v (record a.counts { code_read = true })
    ∙ ap (λ (d : Counts). with_locals d (record a.counts { code_read = true })) (sym kept)

-- ---- data segments

-- what a module says of the number of its data segments
abbrev pub count_in : Option DataCount → Option ℕ
count_in None = None
count_in (Some d) = Some d.count

-- it says nothing, or this number
abbrev pub Agrees : Option DataCount → ℕ → Type 0
Agrees d n = agrees_with (count_in d) n ≡ true

total_reads : CountingReads data_count_at (λ c. number) (λ n c. record c { data_count = Some n }) (segment_total ∷ [])
unfolding row
total_reads =
    by_row segment_total (tallied number_spelling (tally_always (λ n c. record c { data_count = Some n }))) (λ a outer more. refl)

pub data_count_reads : CountingReads data_count_entry_at (λ c d rest. here d.place (number d.count rest))
    (λ d c. record c { data_count = Some d.count }) (segment_total ∷ [])
unfolding data_count_entry_at
data_count_reads =
    in_order (next _ (λ d. d.place) place_reads (next _ (λ d. d.count) total_reads (entry (λ x. refl) (λ d. refl))))

pub segments_reads : CountingReads (vector_at of_segments segment_entry_at)
    (λ c v rest. number (length v) (provided (agrees_with c.data_count (length v)) (each of.segment_entry v rest)))
    (λ v c. record c { data_read = true }) (table.vector of_segments ∷ [])
segments_reads =
    vector_reads of_segments
    (tallied number_spelling (tally_where (λ c n. agrees_with c.data_count n) (λ n c. record c { data_read = true })
    (λ place. Malformed place cause.CountDiffers))) segment_entry_reads
