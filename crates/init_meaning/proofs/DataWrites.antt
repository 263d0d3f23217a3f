-- The loops that write data segments against the task WriteByte (WebAssembly Core 1.0, 4.5.4).
use Rattle.init_meaning.proofs.Common.{put_at, element, all_behind, ◌≡◌, ℕ, zero, suc, ◌+◌, ◌%◌, ◌^◌, ◌<◌, ◌≤◌, Bool, true, false, ◌||◌}
use Rattle.init_meaning.proofs.Common.{List, [], ◌∷◌, ◌++◌, map, length, take, drop, if◌then◌else◌, nat_lt, nat_le, slice_get, slice_set}
use Rattle.init_meaning.proofs.Common.{Some, None, codes, zip, flat_map, sym, refl, ap, ◌∙◌, subst, inl, inr, slice_get_within}
use Rattle.init_meaning.proofs.Common.{append_assoc, arith, length-set, or_right, AllByRecursion, list_any, range_with_len, all_at, named}
use Rattle.init_meaning.proofs.Common.{numbered, with_named, Trail, I32, I64, Code, ElementEntry, SegmentEntry, Module, LinkedSet}
use Rattle.init_meaning.proofs.Common.{NamedModule, memory_at, Task, WriteByte, do_task, done, named-with_named, array_named, truth, Gives}
use Rattle.init_meaning.proofs.Common.{put, with_content, Reaches, after_label, sides, all_set, memory_object, together_memory}
use Rattle.init_meaning.proofs.Common.{MemoryAgrees, label_name, memory_arg, byte_name, data_name, has_bytes, loop_label, n64, place_expr}
use Rattle.init_meaning.proofs.Common.{write_data}
use Rattle.std.proofs.Common.{length-append}
use Rattle.w2c_base.proofs.Places.{right_behind}
use Rattle.alike.proofs.Placed.{placed_back, placed_front}
use Rattle.w2c_base.specs.declared.value.ValType.TheVariants as type
use Rattle.w2c_base.specs.LittleEndian.{with_bytes}
use Rattle.w2c_base.proofs.Numbers.{below_is_found}
use Rattle.wasm_meaning.specs.Store as store
use Rattle.c_tree.specs.declared.tree.COp.TheVariants as op
use Rattle.c_tree.specs.Tree as c
use Rattle.alike.specs.Placed.{IsPlaced}
use Rattle.c_meaning.specs.Primitives.{on_memory}
use Rattle.c_meaning.specs.State as state
use Rattle.c_meaning.specs.Machine as machine
use Rattle.c_init.specs.Instantiable.{DataIsValid}
use Rattle.init_meaning.proofs.SegmentTests.{within_object, size_there, memory_size, DataFits, AreTested}
use Rattle.c_init.proofs.Small.{at_least}
use Rattle.init_meaning.proofs.Held.{held_there}
use Rattle.init_meaning.proofs.InitStatements.{Seat, at, Evaluates, Gets, GetsAll, effect_goes, effect_behind_label}
use Rattle.init_meaning.proofs.InitStatements.{joined, set_local_goes, test_goes, test_jumps}
use Rattle.init_meaning.proofs.InitRuns.{Stage, FollowsTask, FollowsTasks, and_others, gained, more_gained, more_spare}
use Rattle.init_meaning.proofs.InitConstants.{OffsetFound, place_gets}
use Rattle.init_meaning.proofs.InitTests.{IsWide, locals_kept, local_evaluates, operates}
use Rattle.init_meaning.specs.Owners.{MemoryOwner}
use Rattle.init_meaning.proofs.Surroundings.{Surroundings, MemoryFound, memory_found, offset_of}
use Rattle.init_meaning.proofs.ElementWrites.{still_tested, memory_keeps_sizes, objects_of}

-- ---- one byte of a memory

byte_set : (bytes : List ℕ) (place b : ℕ) → place + 1 ≤ length bytes → with_bytes bytes place (b ∷ []) ≡ slice_set bytes place b
byte_set [] place b less = absurd (omega (arith, less))
byte_set (x ∷ bytes) zero b less = refl
byte_set (x ∷ bytes) (suc place) b less =
    let e : suc place + 1 ≡ suc (place + 1) = omega arith in
    ap (λ k. x ∷ (take place bytes ++ (b ∷ drop k (x ∷ bytes)))) e ∙ ap (λ rest. x ∷ rest) (byte_set bytes place b (omega (arith, less)))

small_byte : (b : ℕ) → b < 256 → b % 256 ≡ b
small_byte b less = omega (arith, less)

small_32 : (b : ℕ) → b < 256 → b % 4294967296 ≡ b
small_32 b less = omega (arith, less)

puts_byte : (m : state.Machine) (a : state.ObjectAddress) (memory : state.Memory) (place b : ℕ)
    → machine.memory_in m a ≡ Some memory → nat_le (place + 1) (length memory.bytes) ≡ true → place + 1 ≤ length memory.bytes → b < 256
    → put 1 type.I32 (state.Pointer (Some a) ∷ state.Number (I64 place) ∷ state.Number (I32 b) ∷ []) m
    ≡ Gives (machine.with_memory m a (with_content memory (slice_set memory.bytes place b))) None
puts_byte m a memory place b there is within small =
    rw (there, put, on_memory) (rw (is, put_at) (rw (small_byte b small, byte_set memory.bytes place b within) refl))

-- ---- the statements

abbrev byte_args : Module → ℕ → Code → List c.Arg
byte_args m k offset =
    memory_arg m ∷ c.Value (place_expr m offset (c.Name byte_name)) ∷ c.Value (c.To32 (c.At (data_name k) (c.Name byte_name))) ∷ []

abbrev next_byte : c.Expr
next_byte = c.Op op.Add (c.Name byte_name) (n64 1)

-- behind the write of a byte
abbrev counts : ℕ → ℕ → List c.Stmt → List c.Stmt
counts k n rest = c.Set byte_name (c.Value next_byte) ∷ c.If op.Lt (c.Name byte_name) (n64 n) (label_name (loop_label k)) ∷ rest

abbrev loop : Module → ℕ → Code → ℕ → List c.Stmt → List c.Stmt
loop m k offset n rest = c.Call None (c.Called (codes "w2c_put1")) (byte_args m k offset) ∷ counts k n rest

-- what the data segment with number k has, where its bytes are written
pub record IsWritten (g : Seat) (m : NamedModule) (elements : List ElementEntry) (segments : List SegmentEntry) (k : ℕ)
    (d : SegmentEntry) : Type 1 where
  pub valid : DataIsValid m.tree d
  pub among : (P : SegmentEntry → Type 0) → AllByRecursion P segments → P d
  pub array : array_named g.program g.unit (data_name k) ≡ Some d.bytes
  pub counted : list_any has_bytes m.tree.segments ≡ true

-- byte i is to be written
pub record InLoop (s : LinkedSet) (g : Seat) (m : NamedModule) (elements : List ElementEntry) (segments : List SegmentEntry) (i : ℕ)
    (mach : state.Machine) (made : store.Store) (trail : Trail) (vars : state.Vars) : Type 0 where
  pub tested : AreTested s g m elements segments mach made trail vars
  pub byte_is : named byte_name vars ≡ Some (state.Number (I64 i))

with_local : (s : LinkedSet) (g : Seat) (m : NamedModule) (elements : List ElementEntry) (segments : List SegmentEntry) (name : state.Name)
    (n : ℕ) (mach : state.Machine) (made : store.Store) (trail : Trail) (vars : state.Vars)
    → IsWide name vars → AreTested s g m elements segments mach made trail vars
    → AreTested s g m elements segments mach made trail (with_named name (state.Number (I64 n)) vars)
with_local s g m elements segments name n mach made trail vars wide t = record {
  filled = record { together = t.filled.together; locals = locals_kept m.tree name n vars wide t.filled.locals };
  elements_fit = t.elements_fit;
  data_fit = t.data_fit;
}

-- from the first statement, with these variables, so many lead to the write of the byte, before which the variables are others
abbrev First : Seat → NamedModule → ℕ → SegmentEntry → ℕ → ℕ → List c.Stmt → List c.Stmt → state.Machine → state.Vars → state.Vars → Type 0
First g m k d n j start rest mach first_vars vars = (after : state.Machine) (values : List state.CValue)
    → GetsAll g mach vars (byte_args m.tree k d.offset) values → put 1 type.I32 values mach ≡ Gives after None
    → Reaches g.program j (at g mach start first_vars) (at g after (counts k n rest) vars)

-- a byte is written and the next one's number is set
record ByteWritten (s : LinkedSet) (g : Seat) (m : NamedModule) (elements : List ElementEntry) (segments : List SegmentEntry) (k : ℕ)
    (d : SegmentEntry) (i b n j : ℕ) (start rest : List c.Stmt) (mach : state.Machine) (made : store.Store) (trail : Trail)
    (first_vars : state.Vars) : Type 0 where
  machine : state.Machine
  new : store.Store
  locals : state.Vars
  does : (n : ℕ) → do_task s g.unit (WriteByte d i b) n made trail ≡ done n new trail
  next : InLoop s g m elements segments (i + 1) machine new trail locals
  way : Reaches g.program (j + 1) (at g mach start first_vars)
      (at g machine (c.If op.Lt (c.Name byte_name) (n64 n) (label_name (loop_label k)) ∷ rest) locals)

next_fits : (i : ℕ) → i < 2 ^ 32 → (i + 1) % 18446744073709551616 ≡ i + 1
next_fits i less = omega (arith, less)

byte_written : (s : LinkedSet) (g : Seat) (m : NamedModule) (elements : List ElementEntry) (segments : List SegmentEntry) (k : ℕ)
    (d : SegmentEntry) (i b n j : ℕ) (start rest : List c.Stmt) (mach : state.Machine) (made : store.Store) (trail : Trail)
    (first_vars vars : state.Vars) → Surroundings s g m → IsWritten g m elements segments k d → slice_get d.bytes i ≡ Some b
    → i < length d.bytes → First g m k d n j start rest mach first_vars vars → InLoop s g m elements segments i mach made trail vars
    → ByteWritten s g m elements segments k d i b n j start rest mach made trail first_vars
byte_written s g m elements segments k d i b n j start rest mach made trail first_vars vars a w b_is less first here = record {
  machine = after;
  new = store.with_memory made o.owner new;
  locals = vars';
  does = λ n. rw (owner_is, found.memory_is, offset.is) refl;
  next = record {
    tested = with_local s g m elements segments byte_name (i + 1) after (store.with_memory made o.owner new) trail vars byte_wide still;
    byte_is = named-with_named byte_name (state.Number (I64 (i + 1))) vars (held_there byte_name vars (state.Number (I64 0)) byte_wide);
  };
  way = joined (first after values gets (puts_byte mach (memory_object o.owner) found.other place b found.other_is is_within within small))
      (set_local_goes g after byte_name (c.Value next_byte) (state.Number (I64 (i + 1)))
      (c.If op.Lt (c.Name byte_name) (n64 n) (label_name (loop_label k)) ∷ rest) vars refl byte_wide number_gets);
}
  where
    o : MemoryOwner s g.unit m.tree
    o = a.known.memory w.valid.there

    found : MemoryFound s g m mach made vars o.owner
    found = memory_found s g m mach made trail vars a here.tested.filled o

    offset : OffsetFound s g m.tree mach made vars d.offset
    offset = offset_of s g m mach made trail vars d.offset a here.tested.filled w.valid.offset

    place : ℕ
    place = offset.offset + i

    owner_is : memory_at s g.unit d.memory ≡ Some o.owner
    owner_is = ap (memory_at s g.unit) w.valid.memory_is ∙ o.owner_is

    within : place + 1 ≤ length found.other.bytes
    within =
        let inside : place < length found.memory.bytes =
        within_object s g.unit made (memory_at s g.unit d.memory) (memory_size made) d.offset (length d.bytes) o.owner
        (length found.memory.bytes) offset.offset i (w.among (DataFits s g.unit made) here.tested.data_fit) owner_is
        (size_there (λ (o : store.Objects). o.memory) (λ (t : store.Memory). length t.bytes) made o.owner found.memory found.memory_is)
        offset.is less in
        let same : length found.other.bytes ≡ length found.memory.bytes = ap length found.agree.bytes in
        omega (arith, inside, same)

    is_within : nat_le (place + 1) (length found.other.bytes) ≡ true
    is_within = elim (sides (place + 1) (length found.other.bytes)) [ inl h ↦ h.0 | inr h ↦ absurd (omega (arith, within, h.2)) ]

    small : b < 256
    small = all_at (λ b. b < 256) d.bytes i b w.valid.are_bytes b_is

    few : i < 2 ^ 32
    few = let few : length d.bytes < 2 ^ 32 = w.valid.few in omega (arith, few, less)

    after : state.Machine
    after = machine.with_memory mach (memory_object o.owner) (with_content found.other (slice_set found.other.bytes place b))

    vars' : state.Vars
    vars' = with_named byte_name (state.Number (I64 (i + 1))) vars

    new : store.Memory
    new = record { bytes = slice_set found.memory.bytes place b; max = found.memory.max }

    agree : MemoryAgrees new (with_content found.other (slice_set found.other.bytes place b))
    agree = record {
      made = found.agree.made;
      bytes = ap (λ bytes. slice_set bytes place b) found.agree.bytes;
      max = found.agree.max;
      pages = found.agree.pages;
      whole = length-set found.memory.bytes place b ∙ found.agree.whole;
      few = found.agree.few;
      are_bytes = all_set (λ b. b < 256) found.memory.bytes place b small found.agree.are_bytes;
    }

    objects : (x : store.Objects) × (slice_get made o.owner ≡ Some x)
    objects = objects_of made o.owner (λ (x : store.Objects). x.memory) found.memory found.memory_is

    still : AreTested s g m elements segments after (store.with_memory made o.owner new) trail vars
    still = still_tested s g m elements segments mach after made (store.with_memory made o.owner new) trail vars here.tested
        (memory_keeps_sizes made o.owner found.memory new found.memory_is (length-set found.memory.bytes place b))
        (together_memory g.program s (suc g.unit) 0 mach made trail o.owner objects.0 found.other
        (with_content found.other (slice_set found.other.bytes place b)) new objects.1 found.other_is agree here.tested.filled.together)

    byte_wide : IsWide byte_name vars
    byte_wide = here.tested.filled.locals.byte w.counted

    number : (m : state.Machine) → Evaluates g m vars (c.Name byte_name) (I64 i)
    number m = local_evaluates g m vars byte_name (I64 i) refl here.byte_is

    number_gets : Gets g after vars (c.Value next_byte) (state.Number (I64 (i + 1)))
    number_gets rest = rw (number after rest, next_fits i few) refl

    values : List state.CValue
    values = state.Pointer (Some (memory_object o.owner)) ∷ state.Number (I64 place) ∷ state.Number (I32 b) ∷ []

    byte_gets : Gets g mach vars (c.Value (c.To32 (c.At (data_name k) (c.Name byte_name)))) (state.Number (I32 b))
    byte_gets rest = rw (number mach rest, w.array) (rw (b_is, element) (rw (small_32 b small) refl))

    gets : GetsAll g mach vars (byte_args m.tree k d.offset) values
    gets rest =
        let at_place : Gets g mach vars (c.Value (place_expr m.tree d.offset (c.Name byte_name))) (state.Number (I64 place)) =
        place_gets g m.tree mach vars d.offset (c.Name byte_name) offset.offset i offset.evaluates (number mach) offset.small few in
        rw (found.gets rest, at_place rest, byte_gets rest) refl

-- ---- the loop

byte_at : (i b : ℕ) (bytes : List ℕ) → slice_get bytes (i + 0) ≡ Some b → slice_get bytes i ≡ Some b
byte_at i b bytes is = let e : i ≡ i + 0 = omega arith in ap (slice_get bytes) e ∙ is

turn_test : (s : LinkedSet) (g : Seat) (m : NamedModule) (elements : List ElementEntry) (segments : List SegmentEntry) (i n : ℕ) (t : Bool)
    (mach : state.Machine) (made : store.Store) (trail : Trail) (vars : state.Vars) → InLoop s g m elements segments i mach made trail vars
    → nat_lt i n ≡ t → Evaluates g mach vars (c.Op op.Lt (c.Name byte_name) (n64 n)) (I32 (if t then 1 else 0))
turn_test s g m elements segments i n t mach made trail vars here is =
    operates g mach vars op.Lt (c.Name byte_name) (n64 n) (I64 i) (I64 n) (I32 (if t then 1 else 0))
    (local_evaluates g mach vars byte_name (I64 i) refl here.byte_is) (λ rest. refl) (ap truth is)

module _ (s : LinkedSet) (g : Seat) (m : NamedModule) (elements : List ElementEntry) (segments : List SegmentEntry) (k : ℕ)
    (d : SegmentEntry) (rest : List c.Stmt) where
  -- at this stage the statements lead to the write of byte i
  abbrev Enters : Stage → ℕ → ℕ → ℕ → List c.Stmt → Type 0
  Enters from n i j start = (mach : state.Machine) (made : store.Store) (trail : Trail) (first_vars : state.Vars)
      → from mach made trail first_vars
      → (vars : state.Vars) × InLoop s g m elements segments i mach made trail vars × First g m k d n j start rest mach first_vars vars

  -- in the loop, and at its beginning
  enters_loop : (n i : ℕ) → Enters (InLoop s g m elements segments i) n i 1 (loop m.tree k d.offset n rest)
  enters_loop n i mach made trail vars here = (
    vars,
    here,
    λ after values gets gives. effect_goes g mach after (codes "w2c_put1") (byte_args m.tree k d.offset) (counts k n rest) vars values
        (put 1 type.I32) gets refl gives,
  )

  enters_first : (n : ℕ) → list_any has_bytes m.tree.segments ≡ true → Enters (AreTested s g m elements segments) n 0 2
      (c.Set byte_name (c.Value (n64 0)) ∷ c.Label (label_name (loop_label k)) ∷ loop m.tree k d.offset n rest)
  enters_first n used mach made trail vars here = (
    with_named byte_name (state.Number (I64 0)) vars,
    record {
      tested = with_local s g m elements segments byte_name 0 mach made trail vars wide here;
      byte_is = named-with_named byte_name (state.Number (I64 0)) vars (held_there byte_name vars (state.Number (I64 0)) wide);
    },
    λ after values gets gives. joined
        (set_local_goes g mach byte_name (c.Value (n64 0)) (state.Number (I64 0)) labelled vars refl wide (λ rest. refl))
        (effect_behind_label g mach after (label_name (loop_label k)) (codes "w2c_put1") (byte_args m.tree k d.offset)
        (counts k n rest) vars' values (put 1 type.I32) gets refl gives),
  )
    where
      vars' : state.Vars
      vars' = with_named byte_name (state.Number (I64 0)) vars

      labelled : List c.Stmt
      labelled = c.Label (label_name (loop_label k)) ∷ loop m.tree k d.offset n rest

      wide : IsWide byte_name vars
      wide = here.filled.locals.byte used

  -- behind a byte the loop's next turn stands, or what is behind the loop
  abbrev Behind : Bool → ℕ → Stage
  Behind true i = InLoop s g m elements segments i
  Behind false i = AreTested s g m elements segments

  abbrev behind_byte : Bool → ℕ → List c.Stmt
  behind_byte true n = loop m.tree k d.offset n rest
  behind_byte false n = rest

  abbrev LoopIsFound : ℕ → Type 0
  LoopIsFound n = after_label (label_name (loop_label k)) g.stmts ≡ Some (loop m.tree k d.offset n rest)

  byte_follows : (more : Bool) (from : Stage) (i b n j : ℕ) (start : List c.Stmt) → j ≤ 2 → Surroundings s g m
      → IsWritten g m elements segments k d → slice_get d.bytes i ≡ Some b → nat_lt (i + 1) n ≡ more → Enters from n i j start
      → LoopIsFound n → FollowsTask s g from (WriteByte d i b) (Behind more (i + 1)) start (behind_byte more n)
  byte_follows more from i b n j start few a w b_is more_is enters found mach made trail first_vars here = inl (record {
    machine = r.machine;
    new = r.new;
    locals = r.locals;
    does = r.does;
    reached = reached more;
    statements = j + 1 + 1;
    some = omega arith;
    few = omega (arith, few);
    way = joined r.way (turn more more_is);
  })
    where
      e : (vars : state.Vars) × InLoop s g m elements segments i mach made trail vars × First g m k d n j start rest mach first_vars vars
      e = enters mach made trail first_vars here

      r : ByteWritten s g m elements segments k d i b n j start rest mach made trail first_vars
      r = byte_written s g m elements segments k d i b n j start rest mach made trail first_vars e.0 a w b_is
          (slice_get_within d.bytes i b b_is) e.2 e.1

      reached : (more : Bool) → Behind more (i + 1) r.machine r.new trail r.locals
      reached true = r.next
      reached false = r.next.tested

      turn : (more : Bool) → nat_lt (i + 1) n ≡ more
          → Reaches g.program 1 (at g r.machine (c.If op.Lt (c.Name byte_name) (n64 n) (label_name (loop_label k)) ∷ rest) r.locals)
          (at g r.machine (behind_byte more n) r.locals)
      turn true is = test_jumps g r.machine op.Lt (c.Name byte_name) (n64 n) (label_name (loop_label k)) (loop m.tree k d.offset n rest)
          rest r.locals (turn_test s g m elements segments (i + 1) n true r.machine r.new trail r.locals r.next is) found
      turn false is = test_goes g r.machine op.Lt (c.Name byte_name) (n64 n) (label_name (loop_label k)) rest r.locals
          (turn_test s g m elements segments (i + 1) n false r.machine r.new trail r.locals r.next is)

  -- the bytes from number i on, which leave two statements to spare
  bytes_from : (from : Stage) (spare n i b j : ℕ) (bytes : List ℕ) (start : List c.Stmt) (tasks : List Task) → j ≤ 2
      → Surroundings s g m → IsWritten g m elements segments k d
      → n ≡ i + suc (length bytes) → ((j : ℕ) → slice_get (b ∷ bytes) j ≡ slice_get d.bytes (i + j))
      → Enters from n i j start → LoopIsFound n → FollowsTasks s g (spare + 2) (AreTested s g m elements segments) rest tasks
      → FollowsTasks s g spare from start
      (map (λ (b : ℕ × ℕ). WriteByte d b.0 b.1) (zip (range_with_len i (suc (length bytes))) (b ∷ bytes)) ++ tasks)
  bytes_from from spare n i b j [] start tasks few a w end same enters found behind =
      and_others refl (byte_follows false from i b n j start few a w (byte_at i b d.bytes (sym (same 0)))
      (at_least (i + 1) n (omega (arith, end))) enters found) behind
  bytes_from from spare n i b j (x ∷ bytes) start tasks few a w end same enters found behind =
      and_others refl (byte_follows true from i b n j start few a w (byte_at i b d.bytes (sym (same 0)))
      (below_is_found (i + 1) n (omega (arith, end))) enters found)
      (bytes_from (InLoop s g m elements segments (i + 1)) (spare + 2) n (i + 1) x 1 bytes (loop m.tree k d.offset n rest) tasks
      (omega arith) a w (omega (arith, end)) (λ j. let e : i + suc j ≡ i + 1 + j = omega arith in same (suc j) ∙ ap (slice_get d.bytes) e)
      (enters_loop n (i + 1)) found (more_spare (omega arith) behind))

-- ---- all segments

abbrev write_bytes : Module → ℕ → Code → List ℕ → List c.Stmt
write_bytes m k offset bytes = elim bytes [
  | [] ↦ []
  | b ∷ bytes ↦ c.Set byte_name (c.Value (n64 0)) ∷ c.Label (label_name (loop_label k)) ∷ loop m k offset (suc (length bytes)) []
]

any_middle : (front : List SegmentEntry) (d : SegmentEntry) (ds : List SegmentEntry) → has_bytes d ≡ true
    → list_any has_bytes (front ++ d ∷ ds) ≡ true
any_middle [] d ds is = ap (λ t. t || list_any has_bytes ds) is
any_middle (x ∷ front) d ds is = or_right (has_bytes x) (list_any has_bytes (front ++ d ∷ ds)) (any_middle front d ds is)

abbrev pub tasks_of : List SegmentEntry → List Task
tasks_of ds = flat_map (λ (d : SegmentEntry). map (λ (b : ℕ × ℕ). WriteByte d b.0 b.1) (numbered d.bytes)) ds

module _ (s : LinkedSet) (g : Seat) (m : NamedModule) (a : Surroundings s g m) where
  abbrev stage : Stage
  stage = AreTested s g m m.tree.elements m.tree.segments

  -- one with bytes, which stands among others
  segment_written : (spare k : ℕ) (front : List SegmentEntry) (d : SegmentEntry) (behind : List SegmentEntry) (b : ℕ) (bytes : List ℕ)
      (rest : List c.Stmt) (tasks : List Task) → d.bytes ≡ b ∷ bytes → m.tree.segments ≡ front ++ d ∷ behind → k ≡ length front
      → DataIsValid m.tree d → IsPlaced g.stmts (write_bytes m.tree k d.offset (b ∷ bytes)) rest
      → FollowsTasks s g (spare + 2) stage rest tasks → FollowsTasks s g spare stage (write_bytes m.tree k d.offset (b ∷ bytes) ++ rest)
      (map (λ (b : ℕ × ℕ). WriteByte d b.0 b.1) (numbered (b ∷ bytes)) ++ tasks)
  segment_written spare k front d behind b bytes rest tasks is whole at valid placed follows =
      let size : length d.bytes ≡ suc (length bytes) = ap length is in
      let w : IsWritten g m m.tree.elements m.tree.segments k d = record {
        valid = valid;
        among = λ P all. (all_behind P front (d ∷ behind) (subst (AllByRecursion P) whole all)).0;
        array = a.known.array k d (ap (λ ds. slice_get ds k) whole ∙ ap (slice_get (front ++ d ∷ behind)) at ∙ right_behind front d behind)
            (omega (arith, size));
        counted = ap (list_any has_bytes) whole
            ∙ any_middle front d behind (ap (λ (bytes : List ℕ). elim bytes [ [] ↦ false | b ∷ rest ↦ true ]) is);
      } in
      bytes_from s g m m.tree.elements m.tree.segments k d rest stage spare (suc (length bytes)) 0 b 2 bytes
      (c.Set byte_name (c.Value (n64 0)) ∷ c.Label (label_name (loop_label k)) ∷ loop m.tree k d.offset (suc (length bytes)) rest) tasks
      (omega arith) a w (omega arith)
      (λ j. let e : j ≡ 0 + j = omega arith in ap (λ bytes. slice_get bytes j) (sym is) ∙ ap (slice_get d.bytes) e)
      (enters_first s g m m.tree.elements m.tree.segments k d rest (suc (length bytes)) w.counted) placed.0 follows

  abbrev pub stmts_from : ℕ → List SegmentEntry → List c.Stmt
  stmts_from k ds = flat_map (write_data m.tree) (zip (range_with_len k (length ds)) ds)

  -- Of segments that stand among others. Where one of them has bytes, they leave two statements to spare.
  pub writes_of_data : (spare k : ℕ) (front ds more : List SegmentEntry) (rest : List c.Stmt) (tasks : List Task)
      → m.tree.segments ≡ front ++ (ds ++ more) → k ≡ length front → AllByRecursion (DataIsValid m.tree) ds
      → IsPlaced g.stmts (stmts_from k ds) rest → FollowsTasks s g (gained (list_any has_bytes ds) spare) stage rest tasks
      → FollowsTasks s g spare stage (stmts_from k ds ++ rest) (tasks_of ds ++ tasks)
  writes_of_data spare k front [] more rest tasks whole at valid placed follows = follows
  writes_of_data spare k front (d ∷ ds) more rest tasks whole at valid placed follows =
      rw (append_assoc (write_data m.tree (k, d)) (stmts_from (k + 1) ds) rest) (rw (append_assoc (map (λ (b : ℕ × ℕ). WriteByte d b.0 b.1)
      (numbered d.bytes)) (tasks_of ds) tasks) (by d.bytes refl (placed_front g.stmts (write_data m.tree (k, d)) (stmts_from (k + 1) ds)
      rest placed)
      (λ spare. writes_of_data spare (k + 1) (front ++ d ∷ []) ds more rest tasks (whole ∙ sym (append_assoc front (d ∷ []) (ds ++ more)))
      (omega (arith, at, length-append front (d ∷ []))) valid.1
      (placed_back g.stmts (write_data m.tree (k, d)) (stmts_from (k + 1) ds) rest placed)) follows))
    where
      others : List c.Stmt
      others = stmts_from (k + 1) ds ++ rest

      by : (bytes : List ℕ) → d.bytes ≡ bytes → IsPlaced g.stmts (write_bytes m.tree k d.offset bytes) others
          → ((spare : ℕ) → FollowsTasks s g (gained (list_any has_bytes ds) spare) stage rest tasks
          → FollowsTasks s g spare stage others (tasks_of ds ++ tasks))
          → FollowsTasks s g (gained ((elim bytes [ [] ↦ false | b ∷ rest ↦ true ]) || list_any has_bytes ds) spare) stage rest tasks
          → FollowsTasks s g spare stage (write_bytes m.tree k d.offset bytes ++ others)
          (map (λ (b : ℕ × ℕ). WriteByte d b.0 b.1) (numbered bytes) ++ (tasks_of ds ++ tasks))
      by [] is here behind follows = behind spare follows
      by (b ∷ bytes) is here behind follows =
          segment_written spare k front d (ds ++ more) b bytes others (tasks_of ds ++ tasks) is whole at valid.0
          here (behind (spare + 2) (more_gained (list_any has_bytes ds) follows))

-- segments without bytes have no tasks
pub no_tasks : (ds : List SegmentEntry) → list_any has_bytes ds ≡ false → tasks_of ds ≡ []
no_tasks [] none = refl
no_tasks (d ∷ ds) none = by d.bytes none (no_tasks ds)
  where
    by : (bytes : List ℕ) → (elim bytes [ [] ↦ false | b ∷ rest ↦ true ]) || list_any has_bytes ds ≡ false
        → (list_any has_bytes ds ≡ false → tasks_of ds ≡ []) → map (λ (b : ℕ × ℕ). WriteByte d b.0 b.1) (numbered bytes) ++ tasks_of ds ≡ []
    by [] none others = others none
    by (b ∷ bytes) none others = absurd cc
