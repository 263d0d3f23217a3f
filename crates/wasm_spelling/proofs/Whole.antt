-- A file: it has one tree or one first fault, and reading gives it.
use Rattle.wasm_spelling.proofs.Common.{◌≡◌, ℕ, zero, suc, ◌≤◌, true, eqb, ◌⊎◌, List, [], ◌∷◌, ◌++◌, length, Ok, Err, Result, sym, refl, ap}
use Rattle.wasm_spelling.proofs.Common.{◌∙◌, subst, inl, inr, arith, eq-eqb, eqb-true, Module, At, Counts, Fields, Spelled, byte, finished}
use Rattle.wasm_spelling.proofs.Common.{provided, most_module_bytes, Part, Spells, is_empty, module_fields, parts, sections, reads, ◌>>=◌}
use Rattle.wasm_spelling.proofs.Common.{Field, State, state, step, Cause, ReadFault}
use Rattle.wasm_spelling.specs.declared.fault.Cause.TheVariants as cause
use Rattle.wasm_spelling.specs.ModuleFields as of
use Rattle.wasm_spelling.specs.Table as table
use Rattle.wasm_spelling.specs.Table.{after, start_of, at_first, no_counts, Upto}
use Rattle.wasm_spelling.specs.Reading.{exactly_at, all_sections_at, no_module, magic_at, version_at, module_at, tree_of, file_at}
use Rattle.wasm_spelling.proofs.Tools.{bind_ok, ok_is, reads_ok, reads_again}
use Rattle.wasm_spelling.proofs.Took.{SpelledAt, Took, first_again}
use Rattle.wasm_spelling.proofs.Runs.{Runs, Follows, follows_both}
use Rattle.wasm_spelling.proofs.Readings.{Reads, next, last, in_order}
use Rattle.wasm_spelling.proofs.Leaves.{exactly_reads}
use Rattle.wasm_spelling.proofs.Parts.{Progress}
use Rattle.wasm_spelling.proofs.Sections.{Rising, all_takes, all_follows}
use Rattle.wasm_spelling.proofs.SectionsAgain.{spelled_agrees, sections_again}

-- ---- magic and version

abbrev four : ℕ → ℕ → ℕ → ℕ → Fields → Fields
four a b c d rest = byte a (byte b (byte c (byte d rest)))

abbrev four_fields : ℕ → ℕ → ℕ → ℕ → Cause → List Field
four_fields a b c d fault = table.exactly a fault ∷ table.exactly b fault ∷ table.exactly c fault ∷ table.exactly d fault ∷ []

four_reads : (a b c d : ℕ) (fault : Cause)
    → Reads (reads (exactly_at a fault) (λ u. reads (exactly_at b fault) (λ u. reads (exactly_at c fault) (λ u. exactly_at d fault))))
    (λ u. four a b c d) (four_fields a b c d fault)
four_reads a b c d fault =
    in_order (next _ (λ u. tt) (exactly_reads a fault) (next _ (λ u. tt) (exactly_reads b fault) (next _ (λ u. tt) (exactly_reads c fault)
    (last (exactly_reads d fault) (λ x u. refl)))))

magic_reads : Reads magic_at (λ u. four 0x00 0x61 0x73 0x6D) (four_fields 0x00 0x61 0x73 0x6D cause.BadMagic)
unfolding magic_at
magic_reads = four_reads 0x00 0x61 0x73 0x6D cause.BadMagic

version_reads : Reads version_at (λ u. four 0x01 0x00 0x00 0x00) (four_fields 0x01 0x00 0x00 0x00 cause.BadVersion)
unfolding version_at
version_reads = four_reads 0x01 0x00 0x00 0x00 cause.BadVersion

-- ---- what is read is spelled

nothing_read : (c : Counts) → c ≡ no_counts → Progress no_module c
nothing_read c e = subst (λ (x : Counts). Progress no_module x) (sym e) (record {
  counted = record {
    functions = refl;
    bodies = λ x. refl;
    no_bodies = λ x. refl;
    data_count = refl;
    segments = λ x. refl;
    no_segments = λ x. refl;
  };
  none_yet = λ x. (refl, refl);
  no_data = λ x. refl;
})

all_clear : (q : Part) → is_empty q no_module ≡ true
all_clear of.types = refl
all_clear q = refl

rises : Rising 1 parts
rises = (refl, (refl, (refl, (refl, (refl, (refl, (refl, (refl, (refl, (refl, (refl, (refl, refl))))))))))))

pub file_takes : (bytes : List ℕ) (t : Module) → file_at bytes ≡ Ok t → Spelled (module_fields t) 0 bytes
unfolding file_at module_at
file_takes bytes t e =
    let a : At = at_first bytes in
    let x = bind_ok (module_at bytes) tree_of t e in
    let m = reads_ok magic_at _ a x.0 x.1 in
    let v = reads_ok version_at _ m.1 x.0 m.3 in
    let mt = magic_reads.takes a m.0 m.1 m.2 in
    let vt = version_reads.takes m.1 v.0 v.1 v.2 in
    let counts_are : v.1.counts ≡ no_counts = vt.kept ∙ mt.kept in
    let s = all_takes no_module v.1 x.0.0 x.0.1 (nothing_read v.1.counts counts_are) (λ q less. all_clear q) v.3 in
    let last : v.1.counts.last_rank ≡ 0 = ap (λ (c : Counts). c.last_rank) counts_are in
    whole t x.0.0 (ok_is x.0.0 t x.2) a m.1 v.1 mt vt (s.spelled parts (subst (λ n. Rising (suc n) parts) (sym last) rises))
    s.adds_up.as_many
  where
    whole : (t u : Module) → u ≡ t → (a b c : At) → Took a (four 0x00 0x61 0x73 0x6D) b → Took b (four 0x01 0x00 0x00 0x00) c
        → SpelledAt (sections parts u finished) c → length u.funcs ≡ length u.bodies → Spelled (module_fields t) a.place a.left
    whole t u is a b c mt vt s as_many =
        subst (λ (x : Module). Spelled (module_fields x) a.place a.left) is
        (mt.taken.spelled (four 0x01 0x00 0x00 0x00 (provided (eqb (length u.funcs) (length u.bodies)) (sections parts u finished)))
        (vt.taken.spelled (provided (eqb (length u.funcs) (length u.bodies)) (sections parts u finished))
        (eq-eqb (length u.funcs) (length u.bodies) as_many, s)))

-- ---- what is spelled is read

pub file_again : (bytes : List ℕ) (t : Module) → Spelled (module_fields t) 0 bytes → file_at bytes ≡ Ok t
unfolding file_at module_at
file_again bytes t s =
    let a : At = at_first bytes in
    let rest : Fields = provided (eqb (length t.funcs) (length t.bodies)) (sections parts t finished) in
    first_again magic_at (λ u. four 0x00 0x61 0x73 0x6D) magic_reads.again a tt (four 0x01 0x00 0x00 0x00 rest) s (λ b0 e0 s0.
    first_again version_at (λ u. four 0x01 0x00 0x00 0x00) version_reads.again b0 tt rest s0 (λ b1 e1 s1.
    let counts_are : b1.counts ≡ no_counts = (version_reads.takes b0 tt b1 e1).kept ∙ (magic_reads.takes a tt b0 e0).kept in
    let as_many : length t.funcs ≡ length t.bodies = eqb-true (length t.funcs) (length t.bodies) s1.0 in
    let all = sections_again parts 1 t rises (record { as_many = as_many; agrees = spelled_agrees t b1.place b1.left s1.1 })
    (suc (length b1.left)) b1 (omega arith) (nothing_read b1.counts counts_are)
    (omega (arith, ap (λ (c : Counts). c.last_rank) counts_are)) s1.1 in
    ap (λ (r : Result (Module × At) ReadFault). r >>= tree_of)
    (reads_again magic_at _ a tt b0 _ e0 (reads_again version_at _ b0 tt b1 (Ok (t, all.0)) e1 all.1))))

-- ---- the machine

module_follows : Follows (four_fields 0x00 0x61 0x73 0x6D cause.BadMagic
    ++ (four_fields 0x01 0x00 0x00 0x00 cause.BadVersion ++ table.section ∷ []))
    (λ a. reads magic_at (λ u. reads version_at (λ u. all_sections_at no_module)) a)
module_follows =
    follows_both (four_fields 0x00 0x61 0x73 0x6D cause.BadMagic) (four_fields 0x01 0x00 0x00 0x00 cause.BadVersion ++ table.section ∷ [])
    magic_at (λ u. reads version_at (λ u. all_sections_at no_module)) magic_reads.follows (λ u.
    follows_both (four_fields 0x01 0x00 0x00 0x00 cause.BadVersion) (table.section ∷ []) version_at (λ u. all_sections_at no_module)
    version_reads.follows (λ u. all_follows no_module))

abbrev ends : Module × At → Result State ReadFault
ends x = Ok (state x.1 [] [])

runs : (bytes : List ℕ) → Runs (start_of bytes) (module_at bytes >>= ends)
unfolding module_at
runs bytes = module_follows (at_first bytes) [] []

abbrev bad_tree : ReadFault → Result Module ReadFault
bad_tree f = Err f

err_is : (g f : ReadFault) → bad_tree g ≡ bad_tree f → g ≡ f
err_is g f e = cc

-- a fault that reading gives is the first one
stops : (bytes : List ℕ) (f : ReadFault) (r : Result (Module × At) ReadFault) → Runs (start_of bytes) (r >>= ends) → (r >>= tree_of) ≡ Err f
    → Upto bytes f
stops bytes f (Ok x) h e = absurd cc
stops bytes f (Err g) h e = subst (λ k. Runs (start_of bytes) (Err k)) (err_is g f e) h

pub file_stops : (bytes : List ℕ) (f : ReadFault) → file_at bytes ≡ Err f → Upto bytes f
unfolding file_at
file_stops bytes f e = stops bytes f (module_at bytes) (runs bytes) e

-- ---- one tree or one fault

either_fault : (n m : ℕ) (x : Result State ReadFault) (f g : ReadFault) → ((t : State) → after n t ≡ Err f → after m t ≡ Err g → f ≡ g)
    → (x >>= after n) ≡ Err f → (x >>= after m) ≡ Err g → f ≡ g
either_fault n m (Ok t) f g h d e = h t d e
either_fault n m (Err k) f g h d e = cc

one_fault : (n m : ℕ) (s : State) (f g : ReadFault) → after n s ≡ Err f → after m s ≡ Err g → f ≡ g
unfolding after
one_fault zero m s f g d e = absurd cc
one_fault (suc n) zero s f g d e = absurd cc
one_fault (suc n) (suc m) s f g d e = either_fault n m (step s) f g (λ t. one_fault n m t f g) d e

pub one_first : (bytes : List ℕ) (f g : ReadFault) → Upto bytes f → Upto bytes g → f ≡ g
one_first bytes f g (n, d) (m, e) = one_fault n m (start_of bytes) f g d e

-- nothing is expected any more
ended_stays : (m : ℕ) (a : At) (f : ReadFault) → after m (state a [] []) ≡ Err f → ⊥
unfolding after
ended_stays zero a f e = absurd cc
ended_stays (suc m) a f e = ended_stays m a f e

either_end : (n m : ℕ) (x : Result State ReadFault) (a : At) (f : ReadFault)
    → ((t : State) → after n t ≡ Ok (state a [] []) → after m t ≡ Err f → ⊥) → (x >>= after n) ≡ Ok (state a [] [])
    → (x >>= after m) ≡ Err f → ⊥
either_end n m (Ok t) a f h d e = h t d e
either_end n m (Err k) a f h d e = absurd cc

no_fault : (n m : ℕ) (s : State) (a : At) (f : ReadFault) → after n s ≡ Ok (state a [] []) → after m s ≡ Err f → ⊥
unfolding after
no_fault zero m s a f d e = ended_stays m a f (subst (λ t. after m t ≡ Err f) (ok_is s (state a [] []) d) e)
no_fault (suc n) zero s a f d e = absurd cc
no_fault (suc n) (suc m) s a f d e = either_end n m (step s) a f (λ t. no_fault n m t a f) d e

reaches : (bytes : List ℕ) (t : Module) (r : Result (Module × At) ReadFault) → Runs (start_of bytes) (r >>= ends) → (r >>= tree_of) ≡ Ok t
    → (a : At) × Runs (start_of bytes) (Ok (state a [] []))
reaches bytes t (Ok x) h e = (x.1, h)
reaches bytes t (Err g) h e = absurd cc

pub read_has_no_fault : (bytes : List ℕ) (t : Module) (f : ReadFault) → file_at bytes ≡ Ok t → Upto bytes f → ⊥
unfolding file_at
read_has_no_fault bytes t f is (m, e) =
    let r = reaches bytes t (module_at bytes) (runs bytes) is in no_fault r.1.0 m (start_of bytes) r.0 f r.1.1 e

pub not_both : (bytes : List ℕ) (t : Module) (f : ReadFault) → Spells t bytes → Upto bytes f → ⊥
not_both bytes t f s u = read_has_no_fault bytes t f (file_again bytes t s.0) u

pub one_tree : (bytes : List ℕ) (t u : Module) → Spells t bytes → Spells u bytes → t ≡ u
one_tree bytes t u s v = ok_is t u (sym (file_again bytes t s.0) ∙ file_again bytes u v.0)

either_read : (bytes : List ℕ) → length bytes ≤ most_module_bytes → (r : Result Module ReadFault) → file_at bytes ≡ r
    → ((t : Module) × Spells t bytes) ⊎ ((f : ReadFault) × Upto bytes f)
either_read bytes small (Ok t) e = inl (t, (file_takes bytes t e, small))
either_read bytes small (Err f) e = inr (f, file_stops bytes f e)

pub some_reading : (bytes : List ℕ) → length bytes ≤ most_module_bytes → ((t : Module) × Spells t bytes) ⊎ ((f : ReadFault) × Upto bytes f)
some_reading bytes small = either_read bytes small (file_at bytes) refl

-- the first fault is what reading gives
fault_of : (bytes : List ℕ) (f : ReadFault) (r : Result Module ReadFault) → file_at bytes ≡ r → Upto bytes f → r ≡ Err f
fault_of bytes f (Ok t) e u = absurd (read_has_no_fault bytes t f e u)
fault_of bytes f (Err g) e u = ap bad_tree (one_first bytes g f (file_stops bytes g e) u)

pub first_is_read : (bytes : List ℕ) (f : ReadFault) → Upto bytes f → file_at bytes ≡ Err f
first_is_read bytes f u = fault_of bytes f (file_at bytes) refl u
