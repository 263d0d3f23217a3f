-- Sections: custom ones anywhere, the others in rising order of their ranks.
use Rattle.wasm_spelling.proofs.Common.{◌≡◌, ℕ, zero, suc, ◌+◌, ◌-◌, ◌<◌, ◌≤◌, Bool, true, false, cond, not, ◌&&◌, ◌||◌, eqb, ltb, List, []}
use Rattle.wasm_spelling.proofs.Common.{◌∷◌, ◌++◌, length, Some, None, Ok, Option, Result, sym, refl, ap, ◌∙◌, subst, inl, inr}
use Rattle.wasm_spelling.proofs.Common.{append_assoc, append-nil, arith, ltb-true, eqb-true, and_parts, cases_lt, DataCount, Module, At}
use Rattle.wasm_spelling.proofs.Common.{Counts, Custom, Fields, Spelled, byte, finished, text, window, Part, content, custom, data_count}
use Rattle.wasm_spelling.proofs.Common.{each, functions, id_of, is_empty, rank_of, section, sections, segments, start, types, Reader}
use Rattle.wasm_spelling.proofs.Common.{SectionId, a_custom, a_part, agrees_with, bodies_done, data_done, malformed, no_section, part_of}
use Rattle.wasm_spelling.proofs.Common.{reads, rest_at, section_begins, section_id_at, section_id_of, ◌>>=◌, Field, content_of, none_more}
use Rattle.wasm_spelling.proofs.Common.{size, state, used_up, ReadFault}
use Rattle.wasm_spelling.specs.declared.fault.Cause.TheVariants as cause
use Rattle.wasm_spelling.specs.ModuleFields as of
use Rattle.wasm_spelling.specs.Table as table
use Rattle.wasm_spelling.specs.Table.{section_fields, row}
use Rattle.wasm_spelling.specs.Reading.{any_name_at, content_at, custom_content_at, part_at, custom_at, after_id, sections_at}
use Rattle.wasm_spelling.specs.Reading.{all_sections_at}
use Rattle.wasm_spelling.proofs.Tools.{yes, ok_is, not_ok, reads_ok, either_way, some_is, found_passes}
use Rattle.wasm_spelling.proofs.Took.{SpelledAt, Taken, taken_then, Took, took_then}
use Rattle.wasm_spelling.proofs.Runs.{Runs, lands, Follows, follows_row, follows_both, follows_none, then_reads, runs_now}
use Rattle.wasm_spelling.proofs.Leaves.{any_name_reads, rest_follows}
use Rattle.wasm_spelling.proofs.Windows.{inner, window_inside, window_taken, window_follows}
use Rattle.wasm_spelling.proofs.Counted.{Agrees}
use Rattle.wasm_spelling.proofs.Parts.{Same, content_with, content_is, same_content, same_empty, rank_above, tallies, Counted, AddsUp}
use Rattle.wasm_spelling.proofs.Parts.{Progress, Ready, ready, part_takes, part_moves, part_follows}

-- ---- ids

pub part_has_id : (p : Part) → part_of (id_of p) ≡ Some p
part_has_id types = refl
part_has_id p = refl

-- the id of a rank
abbrev id_at : ℕ → ℕ
id_at rank = cond (ltb rank 10) rank (cond (eqb rank 10) 12 (rank - 1))

part_has_rank : (p : Part) → id_at (rank_of p) ≡ id_of p
part_has_rank types = refl
part_has_rank p = refl

pub ranks_differ : (p q : Part) → rank_of p ≡ rank_of q → p ≡ q
ranks_differ p q e = some_is p q (sym (part_has_id p) ∙ ap part_of (sym (part_has_rank p) ∙ ap id_at e ∙ part_has_rank q) ∙ part_has_id q)

-- the part of an id
id_is : (id : ℕ) (p : Part) → part_of id ≡ Some p → id ≡ id_of p
id_is id p e = eqb-true id (id_of p) (found_passes (λ part. eqb id (id_of part)) of.parts p e)

-- ---- a section's id

-- what an id that was read is
abbrev pub IdIs : At → SectionId → At → Type 0
IdIs a no_section b = (a.left ≡ []) × (bodies_done a.counts && data_done a.counts ≡ true) × (b ≡ record a { left = [] })
IdIs a a_custom b = Took a (byte 0x00) b × (length b.left < length a.left)
IdIs a (a_part p) b = Taken a (byte (id_of p)) b × (a.counts.last_rank < rank_of p)
    × (b.counts ≡ record a.counts { last_rank = rank_of p }) × (length b.left < length a.left)

front_taken : (place id : ℕ) (left : List ℕ) (c d : Counts)
    → Taken (record { place = place; left = id ∷ left; counts = c }) (byte id) (record { place = place + 1; left = left; counts = d })
front_taken place id left c d = record { spelled = λ fields s. (id ∷ [], left, refl, refl, s); moved = omega arith; within = omega arith }

begins_is : (place id : ℕ) (left : List ℕ) (c : Counts) (o : Option Part) (h : SectionId) (b : At) → part_of id ≡ o
    → section_begins place id left c o ≡ Ok (h, b) → IdIs (record { place = place; left = id ∷ left; counts = c }) h b
begins_is place id left c None h b o e =
    either_way (eqb id 0) (yes (a_custom, record { place = place + 1; left = left; counts = c })) (malformed place cause.BadSectionId)
    (h, b) e
    (λ t x. subst (λ (y : SectionId × At). IdIs (record { place = place; left = id ∷ left; counts = c }) y.0 y.1) (ok_is _ (h, b) x) (
      record {
        taken = subst (λ n. Taken (record { place = place; left = id ∷ left; counts = c }) (byte n)
            (record { place = place + 1; left = left; counts = c })) (eqb-true id 0 t) (front_taken place id left c c);
        kept = refl;
      },
      omega arith,
    ))
    (λ _ x. not_ok _ (h, b) x)
begins_is place id left c (Some p) h b o e =
    let begun : At = record { place = place + 1; left = left; counts = record c { last_rank = rank_of p } } in
    let before : At = record { place = place; left = id ∷ left; counts = c } in
    let wanted : Result (SectionId × At) ReadFault = cond (not (eqb id 11) || bodies_done c) (yes (a_part p, begun))
    (malformed place cause.CountDiffers) in
    either_way (ltb c.last_rank (rank_of p)) wanted (malformed place cause.SectionOrder) (h, b) e
    (λ less x. either_way (not (eqb id 11) || bodies_done c) (yes (a_part p, begun)) (malformed place cause.CountDiffers) (h, b) x
    (λ _ y. subst (λ (y : SectionId × At). IdIs before y.0 y.1) (ok_is _ (h, b) y) (
      subst (λ n. Taken before (byte n) begun) (id_is id p o) (front_taken place id left c begun.counts),
      ltb-true c.last_rank (rank_of p) less,
      refl,
      omega arith,
    ))
    (λ _ y. not_ok _ (h, b) y))
    (λ _ x. not_ok _ (h, b) x)

pub id_takes : (place : ℕ) (left : List ℕ) (c : Counts) (h : SectionId) (b : At) → section_id_of place left c ≡ Ok (h, b)
    → IdIs (record { place = place; left = left; counts = c }) h b
id_takes place [] c h b e =
    either_way (bodies_done c && data_done c) (yes (no_section, record { place = place; left = []; counts = c }))
    (malformed place cause.CountDiffers) (h, b) e
    (λ t x. subst (λ (y : SectionId × At). IdIs (record { place = place; left = []; counts = c }) y.0 y.1) (ok_is _ (h, b) x)
    (refl, t, refl))
    (λ _ x. not_ok _ (h, b) x)
id_takes place (id ∷ left) c h b e = begins_is place id left c (part_of id) h b refl e

-- ---- custom sections

custom_content_taken : (m : Module) (a : At) (t : Module) (b : At) → custom_content_at m a ≡ Ok (t, b)
    → (c : Custom) × Took a (λ rest. of.any_name c.name (text c.bytes rest)) b × (t ≡ m)
unfolding custom_content_at
custom_content_taken m a t b e =
    let n = reads_ok any_name_at _ a (t, b) e in
    let r = reads_ok rest_at (λ bytes. λ b. Ok (m, b)) n.1 (t, b) n.3 in
    let took : Took n.1 (text r.0) r.1 = rest_taken n.1 r.0 r.1 r.2 in
    let same : (m, r.1) ≡ (t, b) = ok_is (m, r.1) (t, b) r.3 in (
      record { name = n.0; bytes = r.0 },
      subst (λ (x : At). Took a (λ rest. of.any_name n.0 (text r.0 rest)) x) (ap (λ (y : Module × At). y.1) same)
          (took_then a n.1 r.1 (any_name_reads.takes a n.0 n.1 n.2) took),
      sym (ap (λ (y : Module × At). y.0) same),
    )
  where
    rest_taken : (a : At) (v : List ℕ) (b : At) → rest_at a ≡ Ok (v, b) → Took a (text v) b
    rest_taken a v b e =
        let whole : Took a (text a.left) (record { place = a.place + length a.left; left = []; counts = a.counts }) =
        record {
          taken = record {
            spelled = λ fields s. (a.left, [], sym (append-nil a.left), refl, s);
            moved = omega arith;
            within = omega arith;
          };
          kept = refl;
        } in
        subst (λ (y : List ℕ × At). Took a (text y.0) y.1) (ok_is _ (v, b) e) whole

pub custom_taken : (m : Module) (a : At) (t : Module) (b : At) → custom_at m a ≡ Ok (t, b)
    → (c : Custom) × Taken a (window (of.any_name c.name (text c.bytes finished))) b × (b.counts ≡ a.counts) × (t ≡ m)
unfolding custom_at
custom_taken m a t b e =
    let i = window_inside cause.SectionNotUsedUp (custom_content_at m) a t b e in
    let c = custom_content_taken m (inner i.bytes i.start) t i.end i.read_is in
    (c.0, window_taken (custom_content_at m) a t b i c.1.taken, ap (λ (x : At). x.counts) i.behind_is ∙ c.1.kept ∙ i.stands.kept, c.2)

-- ---- what is read is spelled

-- the parts with these ranks and all above
abbrev pub Rising : ℕ → List Part → Type 0
Rising n [] = n ≡ 13
Rising n (p ∷ ps) = (rank_of p ≡ n) × Rising (suc n) ps

-- the sections behind a rank have no entries
abbrev pub Clear : ℕ → Module → Type 0
Clear last m = (q : Part) → last < rank_of q → is_empty q m ≡ true

abbrev pub Kept : ℕ → Module → Module → Type 0
Kept last m t = (q : Part) → rank_of q ≤ last → Same q m t

-- nothing is left
ends_spelled : (t : Module) (ps : List Part) (n : ℕ) → Rising n ps → ((q : Part) → n ≤ rank_of q → is_empty q t ≡ true) → (place : ℕ)
    → Spelled (sections ps t finished) place []
ends_spelled t [] n r empty place = ([], refl)
ends_spelled t (p ∷ ps) n r empty place =
    ([], inl (empty p (omega (arith, r.0)), ends_spelled t ps (suc n) r.1 (λ q le. empty q (omega (arith, le))) place))

-- a custom section in front
customs_first : (rest : Fields) (a b : At) (c : Custom) → Taken a (custom c) b → SpelledAt (of.customs rest) b
    → SpelledAt (of.customs rest) a
customs_first rest a b c t s = (c ∷ s.0, t.spelled (each custom s.0 rest) s.1)

custom_first : (t : Module) (ps : List Part) (a b : At) (c : Custom) → Taken a (custom c) b → SpelledAt (sections ps t finished) b
    → SpelledAt (sections ps t finished) a
custom_first t [] a b c took s = customs_first finished a b c took s
custom_first t (p ∷ ps) a b c took s = customs_first (section p t (sections ps t finished)) a b c took s

-- sections without entries in front of one that stands here
skips : (t : Module) (p : Part) (a : At) (ps : List Part) (n : ℕ) → Rising n ps → n ≤ rank_of p
    → ((q : Part) → n ≤ rank_of q → rank_of q < rank_of p → is_empty q t ≡ true)
    → ((qs : List Part) → Rising (suc (rank_of p)) qs → SpelledAt (section p t (sections qs t finished)) a)
    → SpelledAt (sections ps t finished) a
skips t p a [] n r le empty s = absurd (omega (arith, r, le, (rank_above p).1))
skips t p a (q ∷ qs) n r le empty s = elim (cases_lt n (rank_of p)) [
  | inl less ↦ (
    [],
    inl (
      empty q (omega (arith, r.0)) (omega (arith, r.0, less)),
      skips t p a qs (suc n) r.1 (omega (arith, less)) (λ x l. empty x (omega (arith, l))) s,
    ),
  )
  | inr more ↦
      let same : q ≡ p = ranks_differ q p (omega (arith, r.0, more, le)) in
      let n_is : n ≡ rank_of p = omega (arith, more, le) in (
        [],
        subst (λ (x : Part). SpelledAt (section x t (sections qs t finished)) a) (sym same)
            (s qs (subst (λ k. Rising (suc k) qs) n_is r.1)),
      )
]

pub record SectionsTaken (last : ℕ) (m : Module) (a : At) (t : Module) : Type 0 where
  pub kept : Kept last m t
  pub spelled : (ps : List Part) → Rising (suc last) ps → SpelledAt (sections ps t finished) a
  pub adds_up : AddsUp t

-- no function lacks its body where all sections were read
none_lacks : (m : Module) (c : Counts) (b : Bool) → c.code_read ≡ b → Counted m (tallies c) → b || eqb c.functions 0 ≡ true → length m.funcs
    ≡ length m.bodies
none_lacks m c true is p done = p.bodies is
none_lacks m c false is p done = sym p.functions ∙ eqb-true c.functions 0 done ∙ sym (p.no_bodies is)

-- and there are as many data segments as were announced
all_there : (m : Module) (c : Counts) (b : Bool) → c.data_read ≡ b → Counted m (tallies c) → b || agrees_with c.data_count 0 ≡ true
    → Agrees m.data_count (length m.segments)
all_there m c true is p done = subst (λ (o : Option ℕ). agrees_with o (length m.segments) ≡ true) p.data_count (p.segments is)
all_there m c false is p done =
    subst (λ (n : ℕ). Agrees m.data_count n) (sym (p.no_segments is)) (subst (λ (o : Option ℕ). agrees_with o 0 ≡ true) p.data_count done)

at_end : (m : Module) (a : At) → Progress m a.counts → Clear a.counts.last_rank m → a.left ≡ []
    → bodies_done a.counts && data_done a.counts ≡ true → SectionsTaken a.counts.last_rank m a m
at_end m a p clear none done = record {
  kept = λ q le. refl;
  spelled = λ ps r. subst (λ (l : List ℕ). Spelled (sections ps m finished) a.place l) (sym none)
      (ends_spelled m ps (suc a.counts.last_rank) r (λ q le. clear q (omega (arith, le))) a.place);
  adds_up = record {
    as_many = none_lacks m a.counts a.counts.code_read refl p.counted (and_parts (bodies_done a.counts) (data_done a.counts) done).0;
    agrees = all_there m a.counts a.counts.data_read refl p.counted (and_parts (bodies_done a.counts) (data_done a.counts) done).1;
  };
}

at_custom : (last : ℕ) (m : Module) (a d : At) (t : Module) (c : Custom) → Taken a (custom c) d → SectionsTaken last m d t
    → SectionsTaken last m a t
at_custom last m a d t c took more = record
    { kept = more.kept; spelled = λ ps r. custom_first t ps a d c took (more.spelled ps r); adds_up = more.adds_up }

less_differ : (m n : ℕ) → m < n → m ≡ n → ⊥
less_differ m n l e = absurd (omega (arith, l, e))

-- a section's content was taken, where as many data segments are expected as its module says
abbrev pub ContentTaken : Part → Module → At → At → Type 0
ContentTaken p n c d = (found : ℕ) → (p ≡ data_count → Agrees n.data_count found) → Taken c (window (content_with found p n finished)) d

at_part : (last : ℕ) (m n : Module) (a c d : At) (t : Module) (p : Part) → last < rank_of p → Clear last m
    → ((q : Part) → (rank_of q ≡ rank_of p → ⊥) → Same q m n) → Taken a (byte (id_of p)) c → ContentTaken p n c d
    → SectionsTaken (rank_of p) n d t → SectionsTaken last m a t
at_part last m n a c d t p less clear keeps id_taken inside more =
    let here_same : Same p n t = more.kept p (omega arith) in
    let found : ℕ = length t.segments in
    let agrees : p ≡ data_count → Agrees n.data_count found = λ e. subst (λ (o : Option DataCount). Agrees o found)
    (sym (ap (λ (x : Module). x.data_count) (subst (λ (q : Part). Same q n t) e here_same))) more.adds_up.agrees in
    let taken = inside found agrees in
    let content_same : content_with found p n ≡ content p t = same_content found p n t here_same ∙ sym (content_is p t) in
    let kept : Kept last m t = λ q le. keeps q (less_differ (rank_of q) (rank_of p) (omega (arith, le, less)))
    ∙ more.kept q (omega (arith, le, less)) in
    record {
      kept = kept;
      spelled = λ ps r. skips t p a ps (suc last) r (omega (arith, less))
          (λ q low high. sym (same_empty q m t (keeps q (less_differ (rank_of q) (rank_of p) high) ∙ more.kept q (omega (arith, high))))
          ∙ clear q (omega (arith, low)))
          (λ qs rising. inr (id_taken.spelled (window (content p t finished) (sections qs t finished))
          (subst (λ (f : Fields → Fields). SpelledAt (window (f finished) (sections qs t finished)) c) content_same
          (taken.spelled (sections qs t finished) (more.spelled qs rising)))));
      adds_up = more.adds_up;
    }

abbrev Rest : (Module → Reader Module) → Type 0
Rest more = (m : Module) (a : At) (t : Module) (b : At) → Progress m a.counts → Clear a.counts.last_rank m → more m a ≡ Ok (t, b)
    → SectionsTaken a.counts.last_rank m a t

pub section_read : (p : Part) (m : Module) (c : At) (n : Module) (d : At) (before : Counts) → Progress m before
    → before.last_rank < rank_of p → c.counts ≡ record before { last_rank = rank_of p } → part_at p m c ≡ Ok (n, d)
    → ContentTaken p n c d × ((q : Part) → (rank_of q ≡ rank_of p → ⊥) → Same q m n) × Progress n d.counts
    × (d.counts.last_rank ≡ rank_of p)
unfolding part_at
section_read p m c n d before pr less counts_are e =
    let i = window_inside cause.SectionNotUsedUp (content_at p m) c n d e in
    let start_is : i.start.counts ≡ record before { last_rank = rank_of p } = i.stands.kept ∙ counts_are in
    let r = part_takes p m (inner i.bytes i.start) n i.end (subst (Ready p m) (sym start_is) (ready p m before pr less)) i.read_is in
    let end_is : d.counts ≡ i.end.counts = ap (λ (x : At). x.counts) i.behind_is in (
      λ found agrees. window_taken (content_at p m) c n d i (r.taken found agrees),
      r.keeps,
      subst (Progress n) (sym end_is) r.progress,
      ap
          (λ (x : Counts). x.last_rank) end_is ∙ r.last ∙ ap (λ (x : Counts). x.last_rank) start_is,
    )

after_takes : (more : Module → Reader Module) → Rest more → (m : Module) (a : At) (h : SectionId) (c : At) (t : Module) (b : At)
    → Progress m a.counts → Clear a.counts.last_rank m → IdIs a h c → after_id more m h c ≡ Ok (t, b)
    → SectionsTaken a.counts.last_rank m a t
after_takes more h m a no_section c t b p clear is e =
    subst (λ (x : Module). SectionsTaken a.counts.last_rank m a x) (ap (λ (y : Module × At). y.0) (ok_is (m, c) (t, b) e))
    (at_end m a p clear is.0 is.1)
after_takes more h m a a_custom c t b p clear is e =
    let y = reads_ok (custom_at m) more c (t, b) e in
    let u = custom_taken m c y.0 y.1 y.2 in
    let counts_are : y.1.counts ≡ a.counts = u.2 ∙ is.0.kept in
    let rest : SectionsTaken y.1.counts.last_rank m y.1 t =
    h m y.1 t b (subst (Progress m) (sym counts_are) p) (subst (λ (d : Counts). Clear d.last_rank m) (sym counts_are) clear)
    (subst (λ (x : Module). more x y.1 ≡ Ok (t, b)) u.3 y.3) in
    at_custom a.counts.last_rank m a y.1 t u.0 (taken_then a c y.1 is.0.taken u.1)
    (subst (λ (d : Counts). SectionsTaken d.last_rank m y.1 t) counts_are rest)
after_takes more h m a (a_part p) c t b pr clear is e =
    let y = reads_ok (part_at p m) more c (t, b) e in
    let u = section_read p m c y.0 y.1 a.counts pr is.1 is.2 y.2 in
    let last : y.1.counts.last_rank ≡ rank_of p = u.3 in
    let clear_then : Clear (rank_of p) y.0 = λ q less.
    sym (same_empty q m y.0 (u.1 q (λ e. less_differ (rank_of p) (rank_of q) less (sym e)))) ∙ clear q (omega (arith, less, is.1)) in
    let rest : SectionsTaken y.1.counts.last_rank y.0 y.1 t = h y.0 y.1 t b u.2 (subst (λ n. Clear n y.0) (sym last) clear_then) y.3 in
    at_part a.counts.last_rank m y.0 a c y.1 t p is.1 clear u.1 is.0 u.0 (subst (λ n. SectionsTaken n y.0 y.1 t) last rest)

sections_takes : (k : ℕ) → Rest (sections_at k)
unfolding sections_at
sections_takes zero m a t b p clear e = not_ok _ (t, b) e
sections_takes (suc k) m a t b p clear e =
    let h = reads_ok section_id_at (after_id (sections_at k) m) a (t, b) e in
    after_takes (sections_at k) (sections_takes k) m a h.0 h.1 t b p clear (id_takes a.place a.left a.counts h.0 h.1 h.2) h.3

pub all_takes : (m : Module) (a : At) (t : Module) (b : At) → Progress m a.counts → Clear a.counts.last_rank m → all_sections_at m a
    ≡ Ok (t, b) → SectionsTaken a.counts.last_rank m a t
all_takes m a t b p clear e = sections_takes (suc (length a.left)) m a t b p clear e

-- ---- the machine

custom_follows : (m : Module) → Follows (size ∷ table.any_name ∷ table.any_bytes ∷ used_up cause.SectionNotUsedUp ∷ []) (custom_at m)
unfolding custom_at custom_content_at
custom_follows m =
    window_follows cause.SectionNotUsedUp (table.any_name ∷ table.any_bytes ∷ []) (custom_content_at m)
    (follows_both (table.any_name ∷ [])
    (table.any_bytes ∷ []) _ _ any_name_reads.follows (λ name. follows_both (table.any_bytes ∷ [])
    [] _ _ rest_follows (λ bytes. follows_none m)))
    (λ a v b e. (custom_content_taken m a v b e).1.taken.moved)

section_follows : (p : Part) (m : Module) → Follows (size ∷ (content_of p ++ used_up cause.SectionNotUsedUp ∷ [])) (part_at p m)
unfolding part_at
section_follows p m =
    window_follows cause.SectionNotUsedUp (content_of p) (content_at p m) (part_follows p m) (λ a v b e. (part_moves p m a v b e).1.moved)

pub section_shorter : (p : Part) (m : Module) (a : At) (v : Module) (b : At) → part_at p m a ≡ Ok (v, b)
    → (f : Fields → Fields) × Taken a f b
unfolding part_at
section_shorter p m a v b e =
    let i = window_inside cause.SectionNotUsedUp (content_at p m) a v b e in
    let t = part_moves p m (inner i.bytes i.start) v i.end i.read_is in
    ((λ rest. window (t.0 finished) rest), window_taken (content_at p m) a v b i t.1)

regrouped : (front : List Field) (u s : Field) (fields : List Field) → (front ++ u ∷ s ∷ []) ++ fields ≡ (front ++ u ∷ []) ++ s ∷ fields
regrouped front u s fields = append_assoc front (u ∷ s ∷ []) fields ∙ sym (append_assoc front (u ∷ []) (s ∷ fields))

abbrev MoreFollow : ℕ → (Module → Reader Module) → Type 0
MoreFollow k more =
    (m : Module) (a : At) → length a.left < k → (outer : List (List ℕ)) (fields : List Field)
    → Runs (state a outer (table.section ∷ fields)) (more m a >>= lands none_more outer fields)

after_follows : (k : ℕ) (more : Module → Reader Module) → MoreFollow k more → (m : Module) (a : At) → length a.left < suc k
    → (h : SectionId) (c : At) → IdIs a h c → (outer : List (List ℕ)) (fields : List Field)
    → Runs (state c outer (section_fields h ++ fields)) (after_id more m h c >>= lands none_more outer fields)
after_follows k more h m a less no_section c is outer fields = runs_now _
after_follows k more h m a less a_custom c is outer fields =
    then_reads (state c outer (size ∷ table.any_name ∷ table.any_bytes ∷ used_up cause.SectionNotUsedUp ∷ table.section ∷ fields))
    (custom_at m) more c none_more none_more outer (table.section ∷ fields) fields (custom_follows m c outer (table.section ∷ fields))
    (λ n d e. h n d (omega (arith, less, is.1, (custom_taken m c n d e).1.within)) outer fields)
after_follows k more h m a less (a_part p) c is outer fields =
    subst (λ (l : List Field). Runs (state c outer (size ∷ l)) (reads (part_at p m) more c >>= lands none_more outer fields))
    (sym (regrouped (content_of p) (used_up cause.SectionNotUsedUp) table.section fields))
    (then_reads (state c outer (size ∷ ((content_of p ++ used_up cause.SectionNotUsedUp ∷ []) ++ table.section ∷ fields)))
    (part_at p m) more c none_more none_more outer (table.section ∷ fields) fields
    (section_follows p m c outer (table.section ∷ fields))
    (λ n d e. h n d (omega (arith, less, is.3, (section_shorter p m c n d e).1.within)) outer fields))

sections_follow : (k : ℕ) → MoreFollow k (sections_at k)
unfolding sections_at row
sections_follow zero m a less outer fields = absurd (omega (arith, less))
sections_follow (suc k) m a less outer fields =
    then_reads (state a outer (table.section ∷ fields)) section_id_at
    (after_id (sections_at k) m) a section_fields none_more outer fields fields
    (follows_row table.section section_id_at section_fields (λ a outer fields. refl) a outer fields)
    (λ h c e. after_follows k (sections_at k) (sections_follow k) m a less h c (id_takes a.place a.left a.counts h c e) outer fields)

pub all_follows : (m : Module) → Follows (table.section ∷ []) (all_sections_at m)
all_follows m a outer fields = sections_follow (suc (length a.left)) m a (omega arith) outer fields
