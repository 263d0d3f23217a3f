-- The tests of segments' bounds against the tasks TestElements and TestData (WebAssembly Core 1.0, 4.5.4).
use Rattle.init_meaning.proofs.Common.{global_space, shape_of, primitive, Effect, all_at, same_Some, ◌≡◌, ℕ, ◌+◌, ◌^◌, ◌<◌, ◌≤◌, Bool, true}
use Rattle.init_meaning.proofs.Common.{false, ◌⊎◌, List, [], ◌∷◌, ◌++◌, length, if◌then◌else◌, nat_lt, nat_le, slice_get, Some, None, codes}
use Rattle.init_meaning.proofs.Common.{Option, option_map, sym, refl, ap, ◌∙◌, inl, inr, arith, or_right, AllByRecursion, all_push}
use Rattle.init_meaning.proofs.Common.{if_found, Trail, SegmentOut, I32, I64, Code, ElementEntry, SegmentEntry, LinkedSet, NamedModule}
use Rattle.init_meaning.proofs.Common.{memory_at, table_at, Task, TestData, TestElements, as_offset, constant_of, do_task, tested, truth}
use Rattle.init_meaning.proofs.Common.{NoEffect, gives, mem_len, tab_len, sides, memory_object, table_object, label_name, memory_arg}
use Rattle.init_meaning.proofs.Common.{table_arg, bounds_label, n64, place_expr, size_name, test_data, test_elements, tests_bounds}
use Rattle.init_meaning.proofs.Common.{tests_limits}
use Rattle.wasm_meaning.specs.Store as store
use Rattle.c_tree.specs.declared.tree.COp.TheVariants as op
use Rattle.c_tree.specs.Tree as c
use Rattle.c_meaning.specs.State as state
use Rattle.c_meaning.specs.Machine as machine
use Rattle.w2c_base.specs.declared.value.ValType.TheVariants as type
use Rattle.c_init.specs.Fitting.{ShapeFits}
use Rattle.c_init.specs.Instantiable.{ElementIsValid, DataIsValid}
use Rattle.init_meaning.proofs.InitStatements.{Seat, Evaluates, Gets, bounds_trap}
use Rattle.c_init.proofs.NoFaults.{used_by_elements, used_by_segments}
use Rattle.init_meaning.proofs.Entries.{some_there, there_at}
use Rattle.init_meaning.proofs.InitRuns.{Stage, FollowsTask, IsDone, Traps, AreRows}
use Rattle.init_meaning.proofs.InitConstants.{OffsetFound, place_evaluates}
use Rattle.init_meaning.proofs.InitTests.{IsWide, locals_kept, Asked, ask_and_test, with_size, size_evaluates, operates, passes, fails}
use Rattle.init_meaning.specs.Owners.{TableOwner, MemoryOwner}
use Rattle.init_meaning.proofs.Surroundings.{Surroundings, CanTrap, IsFilled, TableFound, table_found, MemoryFound, memory_found, offset_of}
use Rattle.init_meaning.proofs.Surroundings.{elements_length}

-- ---- segments that fit

abbrev pub table_size : store.Store → ℕ → Option ℕ
table_size made owner = if_found (slice_get made owner) (λ (o : store.Objects). option_map (λ (t : store.Table). length t.elements) o.table)

abbrev pub memory_size : store.Store → ℕ → Option ℕ
memory_size made owner = if_found (slice_get made owner) (λ (o : store.Objects). option_map (λ (m : store.Memory). length m.bytes) o.memory)

-- so many entries of the object that stands there, from an offset on, are within it
pub record SegmentFits (s : LinkedSet) (u : ℕ) (made : store.Store) (at : Option ℕ) (size_of : ℕ → Option ℕ) (code : Code)
    (count : ℕ) : Type 0 where
  pub owner : ℕ
  pub owner_is : at ≡ Some owner
  pub size : ℕ
  pub size_is : size_of owner ≡ Some size
  pub offset : ℕ
  pub offset_is : if_found (constant_of s u made code) as_offset ≡ Some offset
  pub fits : offset + count ≤ size

abbrev pub ElementFits : LinkedSet → ℕ → store.Store → ElementEntry → Type 0
ElementFits s u made e = SegmentFits s u made (table_at s u e.table) (table_size made) e.offset (length e.funcs)

abbrev pub DataFits : LinkedSet → ℕ → store.Store → SegmentEntry → Type 0
DataFits s u made d = SegmentFits s u made (memory_at s u d.memory) (memory_size made) d.offset (length d.bytes)

pub within_object : (s : LinkedSet) (u : ℕ) (made : store.Store) (at : Option ℕ) (size_of : ℕ → Option ℕ) (code : Code)
    (count owner size offset number : ℕ) → SegmentFits s u made at size_of code count → at ≡ Some owner → size_of owner ≡ Some size
    → if_found (constant_of s u made code) as_offset ≡ Some offset → number < count → offset + number < size
within_object s u made at size_of code count owner size offset number f owner_is size_is offset_is less =
    let same_owner : f.owner ≡ owner = same_Some f.owner owner (sym f.owner_is ∙ owner_is) in
    let same_size : f.size ≡ size = same_Some f.size size (sym f.size_is ∙ ap size_of same_owner ∙ size_is) in
    let same_offset : f.offset ≡ offset = same_Some f.offset offset (sym f.offset_is ∙ offset_is) in
    let fit : f.offset + count ≤ f.size = f.fits in
    omega (arith, fit, same_size, same_offset, less)

-- the module is ready, and these segments fit
pub record AreTested (s : LinkedSet) (g : Seat) (m : NamedModule) (elements : List ElementEntry) (segments : List SegmentEntry)
    (mach : state.Machine) (made : store.Store) (trail : Trail) (vars : state.Vars) : Type 0 where
  pub filled : IsFilled s g m mach made trail vars
  pub elements_fit : AllByRecursion (ElementFits s g.unit made) elements
  pub data_fit : AllByRecursion (DataFits s g.unit made) segments

pub size_there : {A : Type 0} (f : store.Objects → Option A) (size : A → ℕ) (made : store.Store) (owner : ℕ) (t : A)
    → if_found (slice_get made owner) f ≡ Some t
    → if_found (slice_get made owner) (λ (o : store.Objects). option_map size (f o)) ≡ Some (size t)
size_there {A} f size made owner t e = go (slice_get made owner) e
  where
    go : (found : Option store.Objects) → if_found found f ≡ Some t
        → if_found found (λ (o : store.Objects). option_map size (f o)) ≡ Some (size t)
    go None e = absurd cc
    go (Some o) e = ap (option_map size) e

-- the sizes that primitives give
pub tab_len_is : (m : state.Machine) (a : state.ObjectAddress) (t : state.Table) → machine.table_in m a ≡ Some t
    → tab_len (state.Pointer (Some a) ∷ []) m ≡ gives m (I64 (length t.elements))
tab_len_is m a t e = ap (λ (o : Option state.Table). elim o [ None ↦ NoEffect | Some table ↦ gives m (I64 (length table.elements)) ]) e

pub mem_len_is : (m : state.Machine) (a : state.ObjectAddress) (t : state.Memory) → machine.memory_in m a ≡ Some t
    → mem_len (state.Pointer (Some a) ∷ []) m ≡ gives m (I64 (length t.bytes))
mem_len_is m a t e = ap (λ (o : Option state.Memory). elim o [ None ↦ NoEffect | Some memory ↦ gives m (I64 (length memory.bytes)) ]) e

-- ---- one segment

-- the end of a segment is tested against a size that is asked, which the task does too
segment_tested : (s : LinkedSet) (g : Seat) (m : NamedModule) (t : Task) (stage : Stage) (name : state.Name) (arg : c.Arg)
    (does : List state.CValue → state.Machine → Effect) (pointer : state.CValue) (code : Code) (at : Option ℕ) (size_of : ℕ → Option ℕ)
    (count owner size : ℕ) (rest : List c.Stmt) (mach : state.Machine) (made : store.Store) (trail : Trail) (vars : state.Vars)
    → Surroundings s g m → IsFilled s g m mach made trail vars → CanTrap g m.tree → tests_bounds m.tree ≡ true
    → ShapeFits type.I32 (shape_of (global_space m.tree) code) → count < 2 ^ 32
    → primitive name ≡ Some does → Gets g mach vars arg pointer → does (pointer ∷ []) mach ≡ gives mach (I64 size)
    → at ≡ Some owner → size_of owner ≡ Some size → ((offset n : ℕ) → if_found (constant_of s g.unit made code) as_offset ≡ Some offset
    → do_task s g.unit t n made trail ≡ tested (nat_le (offset + count) size) SegmentOut n made trail)
    → (IsFilled s g m mach made trail (with_size size vars) → SegmentFits s g.unit made at size_of code count
    → stage mach made trail (with_size size vars))
    → IsDone s g t stage (ask_and_test name arg op.Gt (place_expr m.tree code (n64 count)) (c.Name size_name)
    (label_name bounds_label) rest) rest mach made trail vars
    ⊎ Traps s g t (ask_and_test name arg op.Gt (place_expr m.tree code (n64 count)) (c.Name size_name) (label_name bounds_label) rest) mach
    made trail vars
segment_tested s g m t stage name arg does pointer code at size_of count owner size rest mach made trail vars a here trap used fits few
    is_primitive gets given owner_is size_is task reached = go (sides (offset.offset + count) size)
  where
    wide : IsWide size_name vars
    wide = here.locals.size (or_right (tests_limits m.tree) (tests_bounds m.tree) used)

    asked : Asked g mach vars name arg size
    asked = record { does = does; is_primitive = is_primitive; pointer = pointer; gets = gets; gives = given; there = wide }

    filled : IsFilled s g m mach made trail (with_size size vars)
    filled = record { together = here.together; locals = locals_kept m.tree size_name size vars wide here.locals }

    offset : OffsetFound s g m.tree mach made (with_size size vars) code
    offset = offset_of s g m mach made trail (with_size size vars) code a filled fits

    end : c.Expr
    end = place_expr m.tree code (n64 count)

    stmts : List c.Stmt
    stmts = ask_and_test name arg op.Gt end (c.Name size_name) (label_name bounds_label) rest

    evaluates : (b : Bool) → nat_lt size (offset.offset + count) ≡ b
        → Evaluates g mach (with_size size vars) (c.Op op.Gt end (c.Name size_name)) (I32 (if b then 1 else 0))
    evaluates b is = operates g mach (with_size size vars) op.Gt end (c.Name size_name) (I64 (offset.offset + count)) (I64 size)
        (I32 (if b then 1 else 0))
        (place_evaluates g m.tree mach (with_size size vars) code (n64 count) offset.offset count offset.evaluates
        (λ rest. refl) offset.small few) (size_evaluates g mach vars size wide) (ap truth is)

    go : ((nat_le (offset.offset + count) size ≡ true) × (nat_lt size (offset.offset + count) ≡ false) × (offset.offset + count ≤ size))
        ⊎ ((nat_le (offset.offset + count) size ≡ false) × (nat_lt size (offset.offset + count) ≡ true) × (size < offset.offset + count))
        → IsDone s g t stage stmts rest mach made trail vars ⊎ Traps s g t stmts mach made trail vars
    go (inl h) = inl (record {
      machine = mach;
      new = made;
      locals = with_size size vars;
      does = λ n. task offset.offset n offset.is ∙ ap (λ b. tested b SegmentOut n made trail) h.0;
      reached = reached filled (record {
        owner = owner;
        owner_is = owner_is;
        size = size;
        size_is = size_is;
        offset = offset.offset;
        offset_is = offset.is;
        fits = h.2;
      });
      statements = 2;
      some = omega arith;
      few = omega arith;
      way = passes g mach vars name arg size op.Gt end (c.Name size_name) (label_name bounds_label) rest asked (evaluates false h.1);
    })
    go (inr h) = inr (record {
      kind = SegmentOut;
      machine = mach;
      agrees = here.together.agrees;
      does = λ n. task offset.offset n offset.is ∙ ap (λ b. tested b SegmentOut n made trail) h.0;
      statements = 3;
      few = omega arith;
      way = fails g mach vars name arg size op.Gt end (c.Name size_name) bounds_label SegmentOut rest asked
          (evaluates true h.1) (trap used) bounds_trap;
    })

test_of_elements : (s : LinkedSet) (g : Seat) (m : NamedModule) (front : List ElementEntry) (segments : List SegmentEntry)
    (e : ElementEntry) (rest : List c.Stmt) → Surroundings s g m → CanTrap g m.tree → ElementIsValid m.tree e → tests_bounds m.tree ≡ true
    → FollowsTask s g (AreTested s g m front segments) (TestElements e) (AreTested s g m (front ++ e ∷ []) segments)
    (test_elements m.tree e ++ rest) rest
test_of_elements s g m front segments e rest a trap valid used mach made trail vars here =
    segment_tested s g m (TestElements e) (AreTested s g m (front ++ e ∷ []) segments) (codes "w2c_tab_len") (table_arg m.tree) tab_len
    (state.Pointer (Some (table_object o.owner))) e.offset (table_at s g.unit e.table) (table_size made) (length e.funcs) o.owner
    (length found.table.elements) rest mach made trail vars a here.filled trap used valid.offset valid.few refl found.gets
    (tab_len_is mach (table_object o.owner) found.other found.other_is
    ∙ ap (λ n. gives mach (I64 n)) (elements_length g.program s found.table.elements found.other.elements found.agree.elements))
    owner_is (size_there (λ (o : store.Objects). o.table) (λ (t : store.Table). length t.elements) made o.owner found.table found.table_is)
    (λ offset n is. rw (owner_is, found.table_is, is) refl)
    (λ filled fits. record
    { filled = filled; elements_fit = all_push (ElementFits s g.unit made) front e here.elements_fit fits; data_fit = here.data_fit })
  where
    o : TableOwner s g.unit m.tree
    o = a.known.table valid.there

    found : TableFound s g m mach made vars o.owner
    found = table_found s g m mach made trail vars a here.filled o

    owner_is : table_at s g.unit e.table ≡ Some o.owner
    owner_is = ap (table_at s g.unit) valid.table_is ∙ o.owner_is

test_of_data : (s : LinkedSet) (g : Seat) (m : NamedModule) (elements : List ElementEntry) (front : List SegmentEntry)
    (d : SegmentEntry) (rest : List c.Stmt) → Surroundings s g m → CanTrap g m.tree → DataIsValid m.tree d → tests_bounds m.tree ≡ true
    → FollowsTask s g (AreTested s g m elements front) (TestData d) (AreTested s g m elements (front ++ d ∷ []))
    (test_data m.tree d ++ rest) rest
test_of_data s g m elements front d rest a trap valid used mach made trail vars here =
    segment_tested s g m (TestData d) (AreTested s g m elements (front ++ d ∷ [])) (codes "w2c_mem_len") (memory_arg m.tree) mem_len
    (state.Pointer (Some (memory_object o.owner))) d.offset (memory_at s g.unit d.memory) (memory_size made) (length d.bytes) o.owner
    (length found.memory.bytes) rest mach made trail vars a here.filled trap used valid.offset valid.few refl found.gets
    (mem_len_is mach (memory_object o.owner) found.other found.other_is ∙ ap (λ bytes. gives mach (I64 (length bytes))) found.agree.bytes)
    owner_is (size_there (λ (o : store.Objects). o.memory) (λ (t : store.Memory). length t.bytes) made o.owner found.memory found.memory_is)
    (λ offset n is. rw (owner_is, found.memory_is, is) refl)
    (λ filled fits. record
    { filled = filled; elements_fit = here.elements_fit; data_fit = all_push (DataFits s g.unit made) front d here.data_fit fits })
  where
    o : MemoryOwner s g.unit m.tree
    o = a.known.memory valid.there

    found : MemoryFound s g m mach made vars o.owner
    found = memory_found s g m mach made trail vars a here.filled o

    owner_is : memory_at s g.unit d.memory ≡ Some o.owner
    owner_is = ap (memory_at s g.unit) valid.memory_is ∙ o.owner_is

-- ---- all segments

module _ (s : LinkedSet) (g : Seat) (m : NamedModule) (a : Surroundings s g m) (trap : CanTrap g m.tree) where
  pub element_rows : AreRows s g m.tree.elements (λ front. AreTested s g m front []) (test_elements m.tree) TestElements
  element_rows = record {
    costs = λ e. refl;
    each = λ front e behind rest is. test_of_elements s g m front [] e rest a trap
        (all_at (ElementIsValid m.tree) m.tree.elements (length front) e a.instantiable.elements
        (there_at front e behind m.tree.elements is))
        (used_by_elements m.tree m.tree.elements (some_there front e behind m.tree.elements is));
  }

  pub data_rows : AreRows s g m.tree.segments (λ front. AreTested s g m m.tree.elements front) (test_data m.tree) TestData
  data_rows = record {
    costs = λ d. refl;
    each = λ front d behind rest is. test_of_data s g m m.tree.elements front d rest a trap
        (all_at (DataIsValid m.tree) m.tree.segments (length front) d a.instantiable.segments (there_at front d behind m.tree.segments is))
        (used_by_segments m.tree m.tree.segments (some_there front d behind m.tree.segments is));
  }
