-- Sections that are spelled are read again.
use Rattle.wasm_spelling.proofs.Common.{◌≡◌, ℕ, zero, suc, ◌+◌, ◌<◌, Bool, true, false, not, ◌&&◌, ◌||◌, eqb, ltb, ◌⊎◌, List, [], ◌∷◌, ◌++◌}
use Rattle.wasm_spelling.proofs.Common.{length, is_none, Some, None, Ok, Option, Result, sym, refl, ap, ◌∙◌, subst, inl, inr, append-nil}
use Rattle.wasm_spelling.proofs.Common.{arith, lt-ltb, eq-eqb, eqb-true, and_from, cases_lt, or_right, AllByRecursion, DataCount, Module}
use Rattle.wasm_spelling.proofs.Common.{At, Counts, Custom, Fields, Spelled, byte, finished, text, window, Part, code, content, custom}
use Rattle.wasm_spelling.proofs.Common.{data_count, each, elements, exports, functions, globals, id_of, imports, is_empty, memories, parts}
use Rattle.wasm_spelling.proofs.Common.{rank_of, section, sections, segments, start, tables, types, SectionId, a_custom, a_part}
use Rattle.wasm_spelling.proofs.Common.{agrees_with, bodies_done, byte_at, byte_of, data_done, no_section, part_of, rest_at, section_begins}
use Rattle.wasm_spelling.proofs.Common.{section_id_at, section_id_of, ReadFault, nil_from_length}
use Rattle.w2c_base.proofs.Options.{no_option}
use Rattle.wasm_spelling.specs.declared.fault.Cause.TheVariants as cause
use Rattle.wasm_spelling.specs.ModuleFields as of
use Rattle.wasm_spelling.specs.Reading.{any_name_at, content_at, custom_content_at, part_at, custom_at, after_id, sections_at, no_module}
use Rattle.wasm_spelling.proofs.Tools.{ok_is, not_ok, reads_again}
use Rattle.wasm_spelling.proofs.Took.{SpelledAt}
use Rattle.wasm_spelling.proofs.Leaves.{byte_again, any_name_reads}
use Rattle.wasm_spelling.proofs.Windows.{inner, behind, window_sealed, window_read}
use Rattle.wasm_spelling.proofs.Counted.{count_in, Agrees}
use Rattle.wasm_spelling.proofs.Parts.{put, put_keeps, Same, same_empty, tallies, Counted, AddsUp, Progress, Ready, ready, part_again}
use Rattle.wasm_spelling.proofs.Sections.{Rising, part_has_id, custom_taken, section_shorter, section_read}

-- ---- one part of two modules

-- a module without one of its parts
abbrev clear : Part → Module → Module
clear p m = put p no_module m

put_clear : (p : Part) (t m : Module) → Same p m t → put p t (clear p m) ≡ m
put_clear types t m s = λ i. record m { types = (sym s i).types }
put_clear imports t m s = λ i. record m { imports = (sym s i).imports }
put_clear functions t m s = λ i. record m { funcs = (sym s i).funcs }
put_clear tables t m s = λ i. record m { tables = (sym s i).tables }
put_clear memories t m s = λ i. record m { memories = (sym s i).memories }
put_clear globals t m s = λ i. record m { globals = (sym s i).globals }
put_clear exports t m s = λ i. record m { exports = (sym s i).exports }
put_clear start t m s = λ i. record m { start = (sym s i).start }
put_clear elements t m s = λ i. record m { elements = (sym s i).elements }
put_clear data_count t m s = λ i. record m { data_count = (sym s i).data_count }
put_clear code t m s = λ i. record m { bodies = (sym s i).bodies }
put_clear segments t m s = λ i. record m { segments = (sym s i).segments }

nil_from : {A : Type 0} (xs : List A) → eqb (length xs) 0 ≡ true → xs ≡ []
nil_from xs e = nil_from_length xs (eqb-true (length xs) 0 e)

clear_empty : (p : Part) (m : Module) → is_empty p m ≡ true → clear p m ≡ m
clear_empty types m e = λ i. record m { types = sym (nil_from m.types e) i }
clear_empty imports m e = λ i. record m { imports = sym (nil_from m.imports e) i }
clear_empty functions m e = λ i. record m { funcs = sym (nil_from m.funcs e) i }
clear_empty tables m e = λ i. record m { tables = sym (nil_from m.tables e) i }
clear_empty memories m e = λ i. record m { memories = sym (nil_from m.memories e) i }
clear_empty globals m e = λ i. record m { globals = sym (nil_from m.globals e) i }
clear_empty exports m e = λ i. record m { exports = sym (nil_from m.exports e) i }
clear_empty start m e = λ i. record m { start = sym (no_option m.start e) i }
clear_empty elements m e = λ i. record m { elements = sym (nil_from m.elements e) i }
clear_empty data_count m e = λ i. record m { data_count = sym (no_option m.data_count e) i }
clear_empty code m e = λ i. record m { bodies = sym (nil_from m.bodies e) i }
clear_empty segments m e = λ i. record m { segments = sym (nil_from m.segments e) i }

clear_keeps : (q p : Part) (m t : Module) → (rank_of p ≡ rank_of q → ⊥) → Same p m t → Same p (clear q m) t
clear_keeps q p m t ne s = sym (put_keeps q p no_module m ne) ∙ s

-- the module without the parts that are still to be read
abbrev pub cut : List Part → Module → Module
cut [] t = t
cut (p ∷ ps) t = clear p (cut ps t)

differ : (m n k : ℕ) → m < n → k ≡ n → m ≡ k → ⊥
differ m n k less is e = absurd (omega (arith, less, is, e))

part_kept : (ps : List Part) (n : ℕ) → Rising n ps → (p : Part) (t : Module) → rank_of p < n → Same p (cut ps t) t
part_kept [] n r p t less = refl
part_kept (q ∷ ps) n r p t less = clear_keeps q p (cut ps t) t (differ (rank_of p) n (rank_of q) less r.0)
    (part_kept ps (suc n) r.1 p t (omega (arith, less)))

-- ---- a section's id

-- a byte that is the id of a section
id_begins : (place : ℕ) (left : List ℕ) (c : Counts) (id : ℕ) (b : At) → byte_of place left c ≡ Ok (id, b)
    → (section_id_of place left c ≡ section_begins place id b.left c (part_of id))
    × (b ≡ record { place = place + 1; left = b.left; counts = c }) × (length b.left < length left)
id_begins place [] c id b e = not_ok _ (id, b) e
id_begins place (x ∷ left) c id b e =
    let same : (x, record { place = place + 1; left = left; counts = c }) ≡ (id, b) = ok_is _ (id, b) e in
    subst (λ (y : ℕ × At). (section_id_of place (x ∷ left) c ≡ section_begins place y.0 y.1.left c (part_of y.0))
    × (y.1 ≡ record { place = place + 1; left = y.1.left; counts = c }) × (length y.1.left < suc (length left))) same
    (refl, refl, omega arith)

abbrev found : SectionId → At → Result (SectionId × At) ReadFault
found h b = Ok (h, b)

custom_begins : (a b : At) → byte_at a ≡ Ok (0x00, b)
    → (section_id_at a ≡ found a_custom b) × (b.counts ≡ a.counts) × (length b.left < length a.left)
custom_begins a b e =
    let i = id_begins a.place a.left a.counts 0x00 b e in
    (i.0 ∙ ap (λ (x : At). found a_custom x) (sym i.1), ap (λ (x : At). x.counts) i.1, i.2)

begins : (p : Part) (place id : ℕ) (left : List ℕ) (c : Counts) → part_of id ≡ Some p → ltb c.last_rank (rank_of p) ≡ true
    → (not (eqb id 11) || bodies_done c) ≡ true
    → section_begins place id left c (part_of id)
    ≡ found (a_part p) (record { place = place + 1; left = left; counts = record c { last_rank = rank_of p } })
begins p place id left c is less done = ap (section_begins place id left c) is ∙ rw (less, done) refl

part_begins : (p : Part) (a b : At) → a.counts.last_rank < rank_of p → (not (eqb (id_of p) 11) || bodies_done a.counts) ≡ true → byte_at a
    ≡ Ok (id_of p, b)
    → (section_id_at a ≡ found (a_part p) (record b { counts = record a.counts { last_rank = rank_of p } }))
    × (length b.left < length a.left)
part_begins p a b less done e =
    let i = id_begins a.place a.left a.counts (id_of p) b e in (
      i.0 ∙ begins p a.place (id_of p) b.left a.counts (part_has_id p) (lt-ltb a.counts.last_rank (rank_of p) less) done
          ∙ ap (λ (x : ℕ). found (a_part p) (record { place = x; left = b.left; counts = record a.counts { last_rank = rank_of p } }))
          (sym (ap (λ (x : At). x.place) i.1)),
      i.2,
    )

-- ---- custom sections

rest_again : (a : At) (v : List ℕ) → SpelledAt (text v finished) a → (b : At) × (rest_at a ≡ Ok (v, b)) × (b.left ≡ [])
rest_again a v (front, left, e, is, none) =
    let whole : a.left ≡ v = e ∙ ap (λ (l : List ℕ). front ++ l) none ∙ append-nil front ∙ is in (
      record { place = a.place + length a.left; left = []; counts = a.counts },
      ap (λ (l : List ℕ). Ok (l, record { place = a.place + length a.left; left = []; counts = a.counts })) whole,
      refl,
    )

custom_again : (m : Module) (a : At) (c : Custom) (rest : Fields) → SpelledAt (window (of.any_name c.name (text c.bytes finished)) rest) a
    → (b : At) × (custom_at m a ≡ Ok (m, b)) × SpelledAt rest b
unfolding custom_at custom_content_at
custom_again m a c rest s =
    let w = window_sealed a (of.any_name c.name (text c.bytes finished)) rest s in
    let n = any_name_reads.again (inner w.bytes w.start) c.name (text c.bytes finished) w.inside in
    let r = rest_again n.0 c.bytes n.2 in (
      behind w.bytes w.start r.0,
      window_read cause.SectionNotUsedUp (custom_content_at m) a w.bytes w.start r.0 m w.number_is w.fits
          (reads_again any_name_at _ (inner w.bytes w.start) c.name
          n.0 _ n.1 (reads_again rest_at (λ bytes. λ b. Ok (m, b)) n.0 c.bytes r.0 _ r.1 refl)) r.2,
      w.after,
    )

abbrev ReadsAll : ℕ → Module → Module → At → Type 0
ReadsAll k m t a = (b : At) × (sections_at k m a ≡ Ok (t, b))

then_all : (k : ℕ) (m n t : Module) (a : At) (h : SectionId) (c d : At) → section_id_at a ≡ Ok (h, c)
    → ((z : Result (Module × At) ReadFault) → sections_at k n d ≡ z → after_id (sections_at k) m h c ≡ z) → ReadsAll k n t d
    → ReadsAll (suc k) m t a
unfolding sections_at
then_all k m n t a h c d id go rest =
    (rest.0, reads_again section_id_at (after_id (sections_at k) m) a h c (Ok (t, rest.0)) id (go (Ok (t, rest.0)) rest.1))

customs_again : (cs : List Custom) (rest : Fields) (m t : Module) (c : Counts)
    → ((k : ℕ) (b : At) → length b.left < k → b.counts ≡ c → SpelledAt rest b → ReadsAll k m t b) → (k : ℕ) (a : At) → length a.left < k
    → a.counts ≡ c → SpelledAt (each custom cs rest) a → ReadsAll k m t a
customs_again [] rest m t c h k a less same s = h k a less same s
customs_again (x ∷ cs) rest m t c h zero a less same s = absurd (omega (arith, less))
customs_again (x ∷ cs) rest m t c h (suc k) a less same s =
    let b = byte_again a 0x00 (window (of.any_name x.name (text x.bytes finished)) (each custom cs rest)) s in
    let id = custom_begins a b.0 b.1 in
    let d = custom_again m b.0 x (each custom cs rest) b.2 in
    let taken = custom_taken m b.0 m d.0 d.1 in
    then_all k m m t a a_custom b.0 d.0 id.0 (λ z e. reads_again (custom_at m) (sections_at k) b.0 m d.0 z d.1 e)
    (customs_again cs rest m t c h k d.0 (omega (arith, less, id.2, taken.1.within)) (taken.2 ∙ id.1 ∙ same) d.2)

-- ---- the others

part_section_again : (p : Part) (m t : Module) (a : At) (rest : Fields) → Ready p m a.counts → (p ≡ code → length t.bodies ≡ length m.funcs)
    → (p ≡ segments → agrees_with a.counts.data_count (length t.segments) ≡ true) → SpelledAt (window (content p t finished) rest) a
    → (b : At) × (part_at p m a ≡ Ok (put p t m, b)) × SpelledAt rest b
unfolding part_at
part_section_again p m t a rest r as_many agrees s =
    let w = window_sealed a (content p t finished) rest s in
    let counted = subst (λ (c : Counts). p ≡ segments → agrees_with c.data_count (length t.segments) ≡ true) (sym w.kept) agrees in
    let n = part_again p m t (inner w.bytes w.start) finished (subst (λ (c : Counts). Ready p m c) (sym w.kept) r) as_many counted
    w.inside in (
      behind w.bytes w.start n.0,
      window_read cause.SectionNotUsedUp (content_at p m) a w.bytes w.start n.0
          (put p t m) w.number_is w.fits n.1 n.2,
      w.after,
    )

done_by : (m : Module) (c : Counts) (b : Bool) → c.code_read ≡ b → Counted m (tallies c) → length m.funcs ≡ length m.bodies
    → b || eqb c.functions 0 ≡ true
done_by m c true is p same = refl
done_by m c false is p same = eq-eqb c.functions 0 (p.functions ∙ same ∙ p.no_bodies is)

data_done_by : (m : Module) (c : Counts) (b : Bool) → c.data_read ≡ b → Counted m (tallies c) → Agrees m.data_count (length m.segments)
    → b || agrees_with c.data_count 0 ≡ true
data_done_by m c true is p agrees = refl
data_done_by m c false is p agrees =
    subst (λ (n : ℕ). agrees_with c.data_count n ≡ true) (p.no_segments is)
    (subst (λ (o : Option ℕ). agrees_with o (length m.segments) ≡ true) (sym p.data_count) agrees)

not_data : (p : Part) → rank_of p < 12 → (d : Bool) → not (eqb (id_of p) 11) || d ≡ true
not_data segments less d = absurd (omega (arith, less))
not_data p less d = refl

-- the end of the file
all_read : (k : ℕ) (t : Module) (a : At) → a.left ≡ [] → bodies_done a.counts && data_done a.counts ≡ true → ReadsAll (suc k) t t a
unfolding sections_at
all_read k t a none done =
    let id : section_id_at a ≡ found no_section (record { place = a.place; left = []; counts = a.counts }) =
    ap (λ (l : List ℕ). section_id_of a.place l a.counts) none ∙ rw done refl in (
      record { place = a.place; left = []; counts = a.counts },
      reads_again section_id_at (after_id (sections_at k) t) a no_section
          (record { place = a.place; left = []; counts = a.counts }) _ id refl,
    )

abbrev More : List Part → ℕ → Module → Type 0
More ps n t = (k : ℕ) (b : At) → length b.left < k → Progress (cut ps t) b.counts → b.counts.last_rank < n
    → SpelledAt (sections ps t finished) b → ReadsAll k (cut ps t) t b

-- a section that is left out
absent : (p : Part) (ps : List Part) (n : ℕ) (t : Module) → Rising n (p ∷ ps) → More ps (suc n) t → (k : ℕ) (b : At) → length b.left < k
    → Progress (cut (p ∷ ps) t) b.counts → b.counts.last_rank < n → is_empty p t ≡ true → SpelledAt (sections ps t finished) b
    → ReadsAll k (cut (p ∷ ps) t) t b
absent p ps n t r more k b less pr last empty s =
    let same : Same p (cut ps t) t = part_kept ps (suc n) r.1 p t (omega (arith, r.0)) in
    let is : clear p (cut ps t) ≡ cut ps t = clear_empty p (cut ps t) (same_empty p (cut ps t) t same ∙ empty) in
    subst (λ (x : Module). ReadsAll k x t b) (sym is)
    (more k b less (subst (λ (x : Module). Progress x b.counts) is pr) (omega (arith, last)) s)

-- what may stand behind the code section's place, where its id is read
may_begin : (p : Part) (ps : List Part) (n : ℕ) (t : Module) → Rising n (p ∷ ps) → length t.funcs ≡ length t.bodies → (c : Counts)
    → Progress (cut (p ∷ ps) t) c → (not (eqb (id_of p) 11) || bodies_done c) ≡ true
may_begin p ps n t r as_many c pr = elim (cases_lt n 12) [
  | inl less ↦ not_data p (omega (arith, r.0, less)) (bodies_done c)
  | inr more ↦
      let funcs : Same functions (cut (p ∷ ps) t) t = part_kept (p ∷ ps) n r functions t (omega (arith, more)) in
      let bodies : Same code (cut (p ∷ ps) t) t = part_kept (p ∷ ps) n r code t (omega (arith, more)) in
      or_right (not (eqb (id_of p) 11)) (bodies_done c) (done_by (cut (p ∷ ps) t) c c.code_read refl pr.counted
      (ap (λ (x : Module). length x.funcs) funcs ∙ as_many ∙ sym (ap (λ (x : Module). length x.bodies) bodies)))
]

present : (p : Part) (ps : List Part) (n : ℕ) (t : Module) → Rising n (p ∷ ps) → AddsUp t → More ps (suc n) t → (k : ℕ) (b : At)
    → length b.left < k → Progress (cut (p ∷ ps) t) b.counts → b.counts.last_rank < n
    → SpelledAt (byte (id_of p) (window (content p t finished) (sections ps t finished))) b → ReadsAll k (cut (p ∷ ps) t) t b
present p ps n t r adds_up more zero b less pr last s = absurd (omega (arith, less))
present p ps n t r adds_up more (suc k) b less pr last s =
    let c = byte_again b (id_of p) (window (content p t finished) (sections ps t finished)) s in
    let before : b.counts.last_rank < rank_of p = omega (arith, last, r.0) in
    let id = part_begins p b c.0 before (may_begin p ps n t r adds_up.as_many b.counts pr) c.1 in
    inside c.0 id.0 id.1 c.2 before
  where
    inside : (c : At) → section_id_at b ≡ found (a_part p) (record c { counts = record b.counts { last_rank = rank_of p } })
        → length c.left < length b.left → SpelledAt (window (content p t finished) (sections ps t finished)) c
        → b.counts.last_rank < rank_of p → ReadsAll (suc k) (cut (p ∷ ps) t) t b
    inside c id shorter s before =
        let m : Module = clear p (cut ps t) in
        let d : At = record c { counts = record b.counts { last_rank = rank_of p } } in
        let many : p ≡ code → length t.bodies ≡ length m.funcs = λ e.
        sym adds_up.as_many ∙ sym
        (ap (λ (x : Module). length x.funcs) (part_kept (p ∷ ps) n r functions t (omega (arith, r.0, ap rank_of e)))) in
        let agrees : p ≡ segments → agrees_with d.counts.data_count (length t.segments) ≡ true = λ e.
        subst (λ (o : Option ℕ). agrees_with o (length t.segments) ≡ true) (sym (pr.counted.data_count
        ∙ ap (λ (x : Module). count_in x.data_count) (part_kept (p ∷ ps) n r data_count t (omega (arith, r.0, ap rank_of e)))))
        adds_up.agrees in
        let e = part_section_again p m t d (sections ps t finished) (ready p m b.counts pr before) many agrees s in
        let is : put p t m ≡ cut ps t = put_clear p t (cut ps t) (part_kept ps (suc n) r.1 p t (omega (arith, r.0))) in
        let read = section_read p m d (put p t m) e.0 b.counts pr before refl e.1 in
        let rest : ReadsAll k (put p t m) t e.0 = subst (λ (x : Module). ReadsAll k x t e.0) (sym is)
        (more k e.0 (omega (arith, less, shorter, (section_shorter p m d (put p t m) e.0 e.1).1.within))
        (subst (λ (x : Module). Progress x e.0.counts) is read.2) (omega (arith, read.3, r.0)) e.2) in
        then_all k m (put p t m) t b (a_part p) d e.0 id (λ z eq. reads_again (part_at p m) (sections_at k) d (put p t m) e.0 z e.1 eq) rest

one_section : (p : Part) (ps : List Part) (n : ℕ) (t : Module) → Rising n (p ∷ ps) → AddsUp t → More ps (suc n) t → (k : ℕ) (b : At)
    → length b.left < k → Progress (cut (p ∷ ps) t) b.counts → b.counts.last_rank < n
    → SpelledAt (section p t (sections ps t finished)) b → ReadsAll k (cut (p ∷ ps) t) t b
one_section p ps n t r adds_up more k b less pr last (inl s) = absent p ps n t r more k b less pr last s.0 s.1
one_section p ps n t r adds_up more k b less pr last (inr s) = present p ps n t r adds_up more k b less pr last s

last_section : (t : Module) → AddsUp t → (k : ℕ) (b : At) → length b.left < k → Progress t b.counts → b.left ≡ [] → ReadsAll k t t b
last_section t adds_up zero b less pr none = absurd (omega (arith, less))
last_section t adds_up (suc k) b less pr none =
    all_read k t b none (and_from (bodies_done b.counts) (data_done b.counts)
    (done_by t b.counts b.counts.code_read refl pr.counted adds_up.as_many)
    (data_done_by t b.counts b.counts.data_read refl pr.counted adds_up.agrees))

pub sections_again : (ps : List Part) (n : ℕ) (t : Module) → Rising n ps → AddsUp t → More ps n t
sections_again [] n t r adds_up k a less pr last (cs, s) =
    customs_again cs finished t t a.counts
    (λ k b l same x. last_section t adds_up k b l (subst (λ (c : Counts). Progress t c) (sym same) pr) x) k a less refl s
sections_again (p ∷ ps) n t r adds_up k a less pr last (cs, s) =
    customs_again cs (section p t (sections ps t finished)) (clear p (cut ps t)) t a.counts
    (λ k b l same x. one_section p ps n t r adds_up (sections_again ps (suc n) t r.1 adds_up) k b l
    (subst (λ (c : Counts). Progress (clear p (cut ps t)) c) (sym same) pr)
    (omega (arith, last, ap (λ (c : Counts). c.last_rank) same)) x) k a less refl s

-- ---- the number of data segments, where all sections are spelled

-- these fields stand somewhere
abbrev Somewhere : Fields → Type 0
Somewhere fields = (place : ℕ) × (bytes : List ℕ) × Spelled fields place bytes

past_customs : (cs : List Custom) (rest : Fields) (place : ℕ) (bytes : List ℕ) → Spelled (each custom cs rest) place bytes → Somewhere rest
past_customs [] rest place bytes s = (place, bytes, s)
past_customs (c ∷ cs) rest place bytes (id, sized, _, _, (size, (count, left, _, _, (inside, behind, _, _, s)))) = past_customs cs rest _
    behind s

-- a section was left out, or it stands somewhere
abbrev Stands : Module → Part → Type 0
Stands t p = (is_empty p t ≡ true) ⊎ Somewhere (content p t finished)

past_section : (p : Part) (t : Module) (rest : Fields) (place : ℕ) (bytes : List ℕ) → Spelled (section p t rest) place bytes → Stands t p
    × Somewhere rest
past_section p t rest place bytes (inl (empty, s)) = (inl empty, (place, bytes, s))
past_section p t rest place bytes
    (inr (id, sized, _, _, (size, (count, left, _, _, (inside, behind, _, (_, s), more))))) = (inr (_, inside, s), (_, behind, more))

each_stands : (ps : List Part) (t : Module) (place : ℕ) (bytes : List ℕ) → Spelled (sections ps t finished) place bytes
    → AllByRecursion (Stands t) ps
each_stands [] t place bytes s = tt
each_stands (p ∷ ps) t place bytes (cs, s) =
    let at_section = past_customs cs (section p t (sections ps t finished)) place bytes s in
    let here_stands = past_section p t (sections ps t finished) at_section.0 at_section.1 at_section.2 in
    (here_stands.0, each_stands ps t here_stands.1.0 here_stands.1.1 here_stands.1.2)

said_and_found : (o : Option DataCount) (n : ℕ) → (is_none o ≡ true) ⊎ Somewhere (of.data_count_content o n finished) → Agrees o n
said_and_found None n s = refl
said_and_found (Some d) n (inl none) = absurd cc
said_and_found (Some d) n (inr (place, bytes, (_, (_, _, _, _, (same, _))))) = eq-eqb n d.count (sym (eqb-true d.count n same))

pub spelled_agrees : (t : Module) (place : ℕ) (bytes : List ℕ) → Spelled (sections parts t finished) place bytes
    → Agrees t.data_count (length t.segments)
spelled_agrees t place bytes s =
    let (_, (_, (_, (_, (_, (_, (_, (_, (_, (said, _)))))))))) = each_stands parts t place bytes s in
    said_and_found t.data_count (length t.segments) said
