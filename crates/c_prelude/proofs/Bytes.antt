-- The helpers that copy and fill bytes of a memory: each is a loop over the bytes that are left.
use Rattle.c_prelude.proofs.Common.{◌≡◌, ℕ, zero, suc, ◌+◌, ◌*◌, ◌%◌, ◌^◌, ◌<◌, ◌≤◌, Bool, true, false, ◌&&◌, List, [], ◌∷◌, length, get_or}
use Rattle.c_prelude.proofs.Common.{drop, set, replicate, if◌then◌else◌, nat_eq, nat_lt, nat_le, Some, None, codes, Option, sym, refl, ap}
use Rattle.c_prelude.proofs.Common.{◌∙◌, subst, inl, inr, le_of_lt, arith, length-set, nat_tests, AllByRecursion, bytes_at, little_endian}
use Rattle.c_prelude.proofs.Common.{low_bytes, with_bytes, I32, I64, Void, step_on, walk, Program, memory_in, with_memory, on_memory}
use Rattle.c_prelude.proofs.Common.{with_content, Going, Pending, Progress, CValue, Frame, Machine, Memory, Name, Number, ObjectAddress}
use Rattle.c_prelude.proofs.Common.{Pointer, Vars, after_label, CallComesBetween, GivesBack, call_begun, call_ended, copy_helper}
use Rattle.c_prelude.proofs.Common.{fill_helper, object_stmts, ComesToBytes, DoesCopy, DoesFill, number}
use Rattle.w2c_base.specs.declared.value.ValType.TheVariants as type
use Rattle.c_tree.specs.Tree as tree
use Rattle.c_helpers.specs.declared.object_tables.TheConstants.{COPY, FILL}
use Rattle.c_prelude.proofs.Computed.{computed, computed_between}
use Rattle.c_prelude.proofs.Memories.{no_wrap}
use Rattle.c_prelude.proofs.Widths.{sides}
use Rattle.c_prelude.proofs.ByteLists.{byte_moved, put_byte, byte_below, still_bytes, nothing_written, copied_up, up_is, copied_down}
use Rattle.c_prelude.proofs.ByteLists.{down_is, filled, filled_is}
use Rattle.c_prelude.proofs.Holdings.{Holding, holding, put_first}

-- ---- numbers of 64 bits

on_one : (a : ℕ) → a < 2 ^ 34 → (a + 1) % 18446744073709551616 ≡ suc a
on_one a h = omega arith

back_one : (k : ℕ) → k < 2 ^ 34 → (suc k + 18446744073709551615) % 18446744073709551616 ≡ k
back_one k h = omega arith

sum_fits : (a k : ℕ) → a + k < 2 ^ 34 → (a + k) % 18446744073709551616 ≡ a + k
sum_fits a k h = omega arith

inside : (p n : ℕ) → p < n → nat_le (p + 1) n ≡ true
inside p n h = grind (arith, nat_tests)

not_zero : (i : ℕ) → nat_eq (suc i) 0 ≡ false
not_zero i = grind (arith, nat_tests)

-- ---- where a call stands

-- a call that runs: its program, where it was called, its arguments, and the memory before it
record Call : Type 0 where
  program : Program
  pending : Pending
  unit : ℕ
  item : ℕ
  below : List Frame
  address : ObjectAddress
  to : ℕ
  second : ℕ
  count : ℕ
  memory : Memory

abbrev args : Call → List CValue
args call = Pointer (Some call.address) ∷ number type.I32 call.to ∷ number type.I32 call.second ∷ number type.I32 call.count ∷ []

abbrev begun : tree.Func → Call → Machine → Option Progress
begun f call m = Some (call_begun call.program call.pending call.unit call.item f m (args call) call.below)

abbrev AreBytes : List ℕ → Type 0
AreBytes c = AllByRecursion (λ b. b < 256) c

-- the statements behind a label
abbrev behind : List tree.Stmt → Name → List tree.Stmt
behind stmts name = elim (after_label name stmts) [ None ↦ [] | Some rest ↦ rest ]

abbrev standing : Call → List tree.Stmt → List tree.Stmt → Machine → Vars → Progress
standing call stmts rest m vars = Going call.pending (record {
  machine = m;
  running = record { unit = call.unit; item = call.item; result = Void; stmts = stmts; rest = rest; vars = vars };
  below = call.below;
})

abbrev gives : Call → Machine → Option Progress
gives call m = Some (call_ended call.program call.pending (GivesBack m None) call.below)

-- ---- the copy

abbrev copy_stmts : List tree.Stmt
copy_stmts = object_stmts 8 COPY

abbrev copying : Call → ℕ → ℕ → ℕ → ℕ → Vars
copying call a b k v =
    (codes "m", Pointer (Some call.address)) ∷ (codes "d", Number (I32 call.to)) ∷ (codes "s", Number (I32 call.second))
    ∷ (codes "n", Number (I32 call.count)) ∷ (codes "a", Number (I64 a)) ∷ (codes "b", Number (I64 b)) ∷ (codes "k", Number (I64 k))
    ∷ (codes "l", Number (I64 (length call.memory.bytes))) ∷ (codes "v", Number (I32 v)) ∷ []

abbrev copies : Call → List tree.Stmt → Machine → ℕ → ℕ → ℕ → ℕ → Progress
copies call rest m a b k v = standing call copy_stmts rest m (copying call a b k v)

-- what the machine is when the byte at b was written at a
abbrev moved : Call → Machine → Memory → ℕ → ℕ → Machine
moved call m memory a b = with_memory m call.address
    (with_content memory (with_bytes memory.bytes a (low_bytes 1 (little_endian (bytes_at memory.bytes b 1)))))

-- upwards: the loop, and the test at its end
abbrev up : List tree.Stmt
up = behind copy_stmts (codes "U")

abbrev up_test : List tree.Stmt
up_test = drop 5 up

up_turn : (call : Call) (m : Machine) (memory : Memory) (a b k i v next_a next_b : ℕ) → memory_in m call.address ≡ Some memory
    → nat_le (b + 1) (length memory.bytes) ≡ true → nat_le (a + 1) (length memory.bytes) ≡ true
    → (a + 1) % 18446744073709551616 ≡ next_a → (b + 1) % 18446744073709551616 ≡ next_b
    → (k + 18446744073709551615) % 18446744073709551616 ≡ i
    → walk call.program 5 (Some (copies call up m a b k v))
    ≡ Some (copies call up_test (moved call m memory a b) next_a next_b i (little_endian (bytes_at memory.bytes b 1)))
up_turn call m memory a b k i v next_a next_b is read written on_a on_b back = simp (on_memory, is, read, written, on_a, on_b, back)

up_again : (call : Call) (m : Machine) (a b i v : ℕ) → nat_eq i 0 ≡ false
    → step_on call.program (Some (copies call up_test m a b i v)) ≡ Some (copies call up m a b i v)
up_again call m a b i v some = simp some

up_end : (call : Call) (m : Machine) (a b v : ℕ) → walk call.program 2 (Some (copies call up_test m a b 0 v)) ≡ gives call m
up_end call m a b v = refl

-- downwards
abbrev down : List tree.Stmt
down = behind copy_stmts (codes "D")

abbrev down_test : List tree.Stmt
down_test = drop 3 down

down_turn : (call : Call) (m : Machine) (memory : Memory) (a b k i v at_a at_b : ℕ) → memory_in m call.address ≡ Some memory
    → (k + 18446744073709551615) % 18446744073709551616 ≡ i
    → (a + i) % 18446744073709551616 ≡ at_a → (b + i) % 18446744073709551616 ≡ at_b
    → nat_le (at_b + 1) (length memory.bytes) ≡ true → nat_le (at_a + 1) (length memory.bytes) ≡ true
    → walk call.program 3 (Some (copies call down m a b k v))
    ≡ Some (copies call down_test (moved call m memory at_a at_b) a b i (little_endian (bytes_at memory.bytes at_b 1)))
down_turn call m memory a b k i v at_a at_b is back on_a on_b read written = simp (on_memory, is, back, on_a, on_b, read, written)

down_again : (call : Call) (m : Machine) (a b i v : ℕ) → nat_eq i 0 ≡ false
    → step_on call.program (Some (copies call down_test m a b i v)) ≡ Some (copies call down m a b i v)
down_again call m a b i v some = simp some

down_end : (call : Call) (m : Machine) (a b v : ℕ) → walk call.program 2 (Some (copies call down_test m a b 0 v)) ≡ gives call m
down_end call m a b v = refl

-- ---- all bytes of a copy

-- how many statements are left where one byte is to come, and so many others
abbrev up_cost : ℕ → ℕ
up_cost zero = 7
up_cost (suc i) = suc (suc (suc (suc (suc (suc (up_cost i))))))

up_costs : (i : ℕ) → up_cost i ≡ 7 + 6 * i
up_costs zero = refl
up_costs (suc i) = omega (arith, up_costs i)

abbrev down_cost : ℕ → ℕ
down_cost zero = 5
down_cost (suc i) = suc (suc (suc (suc (down_cost i))))

down_costs : (i : ℕ) → down_cost i ≡ 5 + 4 * i
down_costs zero = refl
down_costs (suc i) = omega (arith, down_costs i)

module _ (call : Call) (first : Machine) (h : Holding first call.address call.memory) where
  -- one byte of a copy upwards
  up_moves : (c : List ℕ) (a b i v : ℕ) → AreBytes c → a < length c → b < length c → a < 2 ^ 34 → b < 2 ^ 34 → i < 2 ^ 34
      → walk call.program 5 (Some (copies call up (h.machine c) a b (suc i) v))
      ≡ Some (copies call up_test (h.machine (set c a (get_or c b 0))) (suc a) (suc b) i (little_endian (bytes_at c b 1)))
  up_moves c a b i v all in_a in_b low_a low_b low_i =
      up_turn call (h.machine c) (with_content call.memory c) a b (suc i) i v (suc a) (suc b) (h.held c)
      (inside b (length c) in_b) (inside a (length c) in_a) (on_one a low_a) (on_one b low_b) (back_one i low_i)
      ∙ ap (λ (m : Machine). Some (copies call up_test m (suc a) (suc b) i (little_endian (bytes_at c b 1))))
      (h.put c (with_bytes c a (low_bytes 1 (little_endian (bytes_at c b 1)))) ∙ ap h.machine (byte_moved c a b in_a in_b all))

  up_run : (c : List ℕ) (a b i v : ℕ) → AreBytes c → a + suc i ≤ length c → b + suc i ≤ length c → a + suc i < 2 ^ 34 → b + suc i < 2 ^ 34
      → walk call.program (up_cost i) (Some (copies call up (h.machine c) a b (suc i) v))
      ≡ gives call (h.machine (copied_up c a b (suc i)))
  up_run c a b zero v all in_a in_b low_a low_b =
      ap (walk call.program 2) (up_moves c a b 0 v all (omega (arith, in_a)) (omega (arith, in_b)) (omega (arith, low_a))
      (omega (arith, low_b)) (omega arith))
      ∙ up_end call (h.machine (set c a (get_or c b 0))) (suc a) (suc b) (little_endian (bytes_at c b 1))
  up_run c a b (suc i) v all in_a in_b low_a low_b =
      let x : ℕ = get_or c b 0 in
      let w : ℕ = little_endian (bytes_at c b 1) in
      let as_long : length (set c a x) ≡ length c = length-set c a x in
      ap (walk call.program (suc (up_cost i))) (up_moves c a b (suc i) v all (omega (arith, in_a)) (omega (arith, in_b))
      (omega (arith, low_a)) (omega (arith, low_b)) (omega (arith, low_a)))
      ∙ (ap (walk call.program (up_cost i)) (up_again call (h.machine (set c a x)) (suc a) (suc b) (suc i) w (not_zero i))
      ∙ up_run (set c a x) (suc a) (suc b) i w (still_bytes c a x (byte_below c b all) all) (omega (arith, in_a, as_long))
      (omega (arith, in_b, as_long)) (omega (arith, low_a)) (omega (arith, low_b)))

  -- one byte of a copy downwards
  down_moves : (c : List ℕ) (a b i v : ℕ) → AreBytes c → a + i < length c → b + i < length c → a + i < 2 ^ 34 → b + i < 2 ^ 34
      → walk call.program 3 (Some (copies call down (h.machine c) a b (suc i) v))
      ≡ Some (copies call down_test (h.machine (set c (a + i) (get_or c (b + i) 0))) a b i (little_endian (bytes_at c (b + i) 1)))
  down_moves c a b i v all in_a in_b low_a low_b =
      down_turn call (h.machine c) (with_content call.memory c) a b (suc i) i v (a + i) (b + i) (h.held c)
      (back_one i (omega (arith, low_a))) (sum_fits a i low_a) (sum_fits b i low_b)
      (inside (b + i) (length c) in_b) (inside (a + i) (length c) in_a)
      ∙ ap (λ (m : Machine). Some (copies call down_test m a b i (little_endian (bytes_at c (b + i) 1))))
      (h.put c (with_bytes c (a + i) (low_bytes 1 (little_endian (bytes_at c (b + i) 1))))
      ∙ ap h.machine (byte_moved c (a + i) (b + i) in_a in_b all))

  down_run : (c : List ℕ) (a b i v : ℕ) → AreBytes c → a + i < length c → b + i < length c → a + i < 2 ^ 34 → b + i < 2 ^ 34
      → walk call.program (down_cost i) (Some (copies call down (h.machine c) a b (suc i) v))
      ≡ gives call (h.machine (copied_down c a b (suc i)))
  down_run c a b zero v all in_a in_b low_a low_b =
      ap (walk call.program 2) (down_moves c a b 0 v all in_a in_b low_a low_b)
      ∙ down_end call (h.machine (set c (a + 0) (get_or c (b + 0) 0))) a b (little_endian (bytes_at c (b + 0) 1))
  down_run c a b (suc i) v all in_a in_b low_a low_b =
      let x : ℕ = get_or c (b + suc i) 0 in
      let w : ℕ = little_endian (bytes_at c (b + suc i) 1) in
      let new : List ℕ = set c (a + suc i) x in
      let as_long : length new ≡ length c = length-set c (a + suc i) x in
      ap (walk call.program (suc (down_cost i))) (down_moves c a b (suc i) v all in_a in_b low_a low_b)
      ∙ (ap (walk call.program (down_cost i)) (down_again call (h.machine new) a b (suc i) w (not_zero i))
      ∙ down_run new a b i w (still_bytes c (a + suc i) x (byte_below c (b + suc i) all) all) (omega (arith, in_a, as_long))
      (omega (arith, in_b, as_long)) (omega (arith, low_a)) (omega (arith, low_b)))

-- the beginning
module _ (call : Call) (m : Machine) (is : memory_in m call.address ≡ Some call.memory) where
  module _ (fits_to : (call.to + call.count) % 18446744073709551616 ≡ call.to + call.count)
      (fits_from : (call.second + call.count) % 18446744073709551616 ≡ call.second + call.count)
      (within_to : nat_lt (length call.memory.bytes) (call.to + call.count) ≡ false)
      (within_from : nat_lt (length call.memory.bytes) (call.second + call.count) ≡ false) where
    copies_none : nat_eq call.count 0 ≡ true → walk call.program 8 (begun copy_helper call m) ≡ gives call m
    copies_none none = simp (on_memory, is, fits_to, fits_from, within_to, within_from, none)

    begins_up : nat_eq call.count 0 ≡ false → nat_le call.to call.second ≡ true
        → walk call.program 8 (begun copy_helper call m) ≡ Some (copies call up m call.to call.second call.count 0)
    begins_up some low = simp (on_memory, is, fits_to, fits_from, within_to, within_from, some, low)

    begins_down : nat_eq call.count 0 ≡ false → nat_le call.to call.second ≡ false
        → walk call.program 8 (begun copy_helper call m)
        ≡ Some (copies call (tree.Label (codes "D") ∷ down) m call.to call.second call.count 0)
    begins_down some high = simp (on_memory, is, fits_to, fits_from, within_to, within_from, some, high)

-- ---- the fill

abbrev fill_stmts : List tree.Stmt
fill_stmts = object_stmts 8 FILL

abbrev filling : Call → ℕ → ℕ → Vars
filling call a k =
    (codes "m", Pointer (Some call.address)) ∷ (codes "d", Number (I32 call.to)) ∷ (codes "v", Number (I32 call.second))
    ∷ (codes "n", Number (I32 call.count)) ∷ (codes "a", Number (I64 a)) ∷ (codes "k", Number (I64 k))
    ∷ (codes "l", Number (I64 (length call.memory.bytes))) ∷ []

abbrev fills : Call → List tree.Stmt → Machine → ℕ → ℕ → Progress
fills call rest m a k = standing call fill_stmts rest m (filling call a k)

abbrev fill : List tree.Stmt
fill = behind fill_stmts (codes "U")

abbrev fill_test : List tree.Stmt
fill_test = drop 3 fill

abbrev put_in : Call → Machine → Memory → ℕ → Machine
put_in call m memory a = with_memory m call.address (with_content memory (with_bytes memory.bytes a (low_bytes 1 call.second)))

fill_turn : (call : Call) (m : Machine) (memory : Memory) (a k i next_a : ℕ) → memory_in m call.address ≡ Some memory
    → nat_le (a + 1) (length memory.bytes) ≡ true → (a + 1) % 18446744073709551616 ≡ next_a
    → (k + 18446744073709551615) % 18446744073709551616 ≡ i
    → walk call.program 3 (Some (fills call fill m a k)) ≡ Some (fills call fill_test (put_in call m memory a) next_a i)
fill_turn call m memory a k i next_a is written on_a back = simp (on_memory, is, written, on_a, back)

fill_again : (call : Call) (m : Machine) (a i : ℕ) → nat_eq i 0 ≡ false
    → step_on call.program (Some (fills call fill_test m a i)) ≡ Some (fills call fill m a i)
fill_again call m a i some = simp some

fill_end : (call : Call) (m : Machine) (a : ℕ) → walk call.program 2 (Some (fills call fill_test m a 0)) ≡ gives call m
fill_end call m a = refl

-- ---- all bytes of a fill

module _ (call : Call) (first : Machine) (h : Holding first call.address call.memory) where
  fill_puts : (c : List ℕ) (a i : ℕ) → a < length c → a < 2 ^ 34 → i < 2 ^ 34
      → walk call.program 3 (Some (fills call fill (h.machine c) a (suc i)))
      ≡ Some (fills call fill_test (h.machine (set c a (call.second % 256))) (suc a) i)
  fill_puts c a i in_a low_a low_i =
      fill_turn call (h.machine c) (with_content call.memory c) a (suc i) i (suc a) (h.held c) (inside a (length c) in_a)
      (on_one a low_a) (back_one i low_i)
      ∙ ap (λ (m : Machine). Some (fills call fill_test m (suc a) i))
      (h.put c (with_bytes c a (low_bytes 1 call.second)) ∙ ap h.machine (put_byte c a call.second in_a))

  fill_run : (c : List ℕ) (a i : ℕ) → a + suc i ≤ length c → a + suc i < 2 ^ 34
      → walk call.program (down_cost i) (Some (fills call fill (h.machine c) a (suc i)))
      ≡ gives call (h.machine (filled c a (call.second % 256) (suc i)))
  fill_run c a zero in_a low =
      ap (walk call.program 2) (fill_puts c a 0 (omega (arith, in_a)) (omega (arith, low)) (omega arith))
      ∙ fill_end call (h.machine (set c a (call.second % 256))) (suc a)
  fill_run c a (suc i) in_a low =
      let new : List ℕ = set c a (call.second % 256) in
      let as_long : length new ≡ length c = length-set c a (call.second % 256) in
      ap (walk call.program (suc (down_cost i))) (fill_puts c a (suc i) (omega (arith, in_a)) (omega (arith, low)) (omega (arith, low)))
      ∙ (ap (walk call.program (down_cost i)) (fill_again call (h.machine new) (suc a) (suc i) (not_zero i))
      ∙ fill_run new (suc a) i (omega (arith, in_a, as_long)) (omega (arith, low)))

module _ (call : Call) (m : Machine) (is : memory_in m call.address ≡ Some call.memory)
    (fits : (call.to + call.count) % 18446744073709551616 ≡ call.to + call.count)
    (within : nat_lt (length call.memory.bytes) (call.to + call.count) ≡ false) where
  fills_none : nat_eq call.count 0 ≡ true → walk call.program 6 (begun fill_helper call m) ≡ gives call m
  fills_none none = simp (on_memory, is, fits, within, none)

  begins_fill : nat_eq call.count 0 ≡ false
      → walk call.program 5 (begun fill_helper call m) ≡ Some (fills call (tree.Label (codes "U") ∷ fill) m call.to call.count)
  begins_fill some = simp (on_memory, is, fits, within, some)

-- ---- the calls

abbrev call_of : Memory → ObjectAddress → ℕ → ℕ → ℕ → Program → Pending → ℕ → ℕ → List Frame → Call
call_of memory a to second count p pending unit item below = record {
  program = p;
  pending = pending;
  unit = unit;
  item = item;
  below = below;
  address = a;
  to = to;
  second = second;
  count = count;
  memory = memory;
}

abbrev given : ObjectAddress → ℕ → ℕ → ℕ → List CValue
given a to second count = Pointer (Some a) ∷ number type.I32 to ∷ number type.I32 second ∷ number type.I32 count ∷ []

-- a label that is run into costs nothing
at_down : (call : Call) (m : Machine) (a b k v : ℕ)
    → step_on call.program (Some (copies call (tree.Label (codes "D") ∷ down) m a b k v))
    ≡ step_on call.program (Some (copies call down m a b k v))
at_down call m a b k v = refl

into_down : (call : Call) (m : Machine) (a b k v i : ℕ)
    → walk call.program (down_cost i) (Some (copies call (tree.Label (codes "D") ∷ down) m a b k v))
    ≡ walk call.program (down_cost i) (Some (copies call down m a b k v))
into_down call m a b k v zero = ap (walk call.program 4) (at_down call m a b k v)
into_down call m a b k v (suc i) = ap (walk call.program (suc (suc (suc (down_cost i))))) (at_down call m a b k v)

at_fill : (call : Call) (m : Machine) (a k : ℕ)
    → step_on call.program (Some (fills call (tree.Label (codes "U") ∷ fill) m a k))
    ≡ step_on call.program (Some (fills call fill m a k))
at_fill call m a k = refl

into_fill : (call : Call) (m : Machine) (a k i : ℕ)
    → walk call.program (down_cost i) (Some (fills call (tree.Label (codes "U") ∷ fill) m a k))
    ≡ walk call.program (down_cost i) (Some (fills call fill m a k))
into_fill call m a k zero = ap (walk call.program 4) (at_fill call m a k)
into_fill call m a k (suc i) = ap (walk call.program (suc (suc (suc (down_cost i))))) (at_fill call m a k)

abbrev copied : List ℕ → ℕ → ℕ → ℕ → List ℕ
copied c to from count = with_bytes c to (bytes_at c from count)

module _ (m : Machine) (a : ObjectAddress) (memory : Memory) (is : memory_in m a ≡ Some memory) where
  -- the call of this function gives the machine with these bytes
  abbrev Writes : tree.Func → ℕ → ℕ → ℕ → List ℕ → Type 0
  Writes f to second count bytes = CallComesBetween (suc count) (390 + 20 * count) f (given a to second count) m
      (GivesBack (with_memory m a (with_content memory bytes)) None)

  -- what the machine is in the end
  unchanged : (c : List ℕ) → c ≡ memory.bytes → m ≡ with_memory m a (with_content memory c)
  unchanged c e =
      let h : Holding m a memory = holding m a memory is in
      h.first ∙ (ap h.machine (sym e) ∙ sym (put_first m a memory h c))

  module _ (all : AreBytes memory.bytes) (to from : ℕ) (low_to : to < 2 ^ 32) (low_from : from < 2 ^ 32) where
    copy_up : (i : ℕ) → suc i < 2 ^ 32 → to + suc i ≤ length memory.bytes → from + suc i ≤ length memory.bytes
        → nat_lt (length memory.bytes) (to + suc i) ≡ false → nat_lt (length memory.bytes) (from + suc i) ≡ false
        → nat_le to from ≡ true → to ≤ from → Writes copy_helper to from (suc i) (copied memory.bytes to from (suc i))
    copy_up i low in_to in_from within_to within_from test near =
        let h : Holding m a memory = holding m a memory is in
        let c : List ℕ = memory.bytes in
        computed_between (suc (suc (suc (suc (suc (suc (suc (suc (up_cost i))))))))) (omega (arith, up_costs i))
        (omega (arith, up_costs i))
        (λ p pending unit item below.
        let call : Call = call_of memory a to from (suc i) p pending unit item below in
        ap (walk p (up_cost i)) (begins_up call m is (no_wrap to (suc i) low_to low) (no_wrap from (suc i) low_from low)
        within_to within_from (not_zero i) test)
        ∙ (ap (λ (m : Machine). walk p (up_cost i) (Some (copies call up m to from (suc i) 0))) h.first
        ∙ (up_run call m h c to from i 0 all in_to in_from (omega (arith, low, low_to)) (omega (arith, low, low_from))
        ∙ ap (gives call) (ap h.machine (up_is c to from (suc i) near in_from)
        ∙ sym (put_first m a memory h (copied c to from (suc i)))))))

    copy_down : (i : ℕ) → suc i < 2 ^ 32 → to + suc i ≤ length memory.bytes → from + suc i ≤ length memory.bytes
        → nat_lt (length memory.bytes) (to + suc i) ≡ false → nat_lt (length memory.bytes) (from + suc i) ≡ false
        → nat_le to from ≡ false → from ≤ to → Writes copy_helper to from (suc i) (copied memory.bytes to from (suc i))
    copy_down i low in_to in_from within_to within_from test near =
        let h : Holding m a memory = holding m a memory is in
        let c : List ℕ = memory.bytes in
        computed_between (suc (suc (suc (suc (suc (suc (suc (suc (down_cost i))))))))) (omega (arith, down_costs i))
        (omega (arith, down_costs i))
        (λ p pending unit item below.
        let call : Call = call_of memory a to from (suc i) p pending unit item below in
        ap (walk p (down_cost i)) (begins_down call m is (no_wrap to (suc i) low_to low) (no_wrap from (suc i) low_from low)
        within_to within_from (not_zero i) test)
        ∙ (into_down call m to from (suc i) 0 i
        ∙ (ap (λ (m : Machine). walk p (down_cost i) (Some (copies call down m to from (suc i) 0))) h.first
        ∙ (down_run call m h c to from i 0 all (omega (arith, in_to)) (omega (arith, in_from)) (omega (arith, low, low_to))
        (omega (arith, low, low_from))
        ∙ ap (gives call) (ap h.machine (down_is c to from (suc i) near in_to)
        ∙ sym (put_first m a memory h (copied c to from (suc i))))))))

    copy_writes : (count : ℕ) → count < 2 ^ 32 → to + count ≤ length memory.bytes → from + count ≤ length memory.bytes
        → nat_lt (length memory.bytes) (to + count) ≡ false → nat_lt (length memory.bytes) (from + count) ≡ false
        → Writes copy_helper to from count (copied memory.bytes to from count)
    copy_writes zero low in_to in_from within_to within_from =
        computed_between 8 (omega arith) (omega arith) (λ p pending unit item below.
        let call : Call = call_of memory a to from 0 p pending unit item below in
        copies_none call m is (no_wrap to 0 low_to low) (no_wrap from 0 low_from low) within_to within_from refl
        ∙ ap (gives call) (unchanged (copied memory.bytes to from 0) (nothing_written memory.bytes to)))
    copy_writes (suc i) low in_to in_from within_to within_from =
        elim (sides to from) [
          | inl near ↦ copy_up i low in_to in_from within_to within_from near.0 near.2
          | inr near ↦ copy_down i low in_to in_from within_to within_from near.0 (le_of_lt near.2)
        ]

  fill_writes : (to second : ℕ) → to < 2 ^ 32 → (count : ℕ) → count < 2 ^ 32 → to + count ≤ length memory.bytes
      → nat_lt (length memory.bytes) (to + count) ≡ false
      → Writes fill_helper to second count (with_bytes memory.bytes to (replicate count (second % 256)))
  fill_writes to second low_to zero low in_to within =
      computed_between 6 (omega arith) (omega arith) (λ p pending unit item below.
      let call : Call = call_of memory a to second 0 p pending unit item below in
      fills_none call m is (no_wrap to 0 low_to low) within refl
      ∙ ap (gives call) (unchanged (with_bytes memory.bytes to []) (nothing_written memory.bytes to)))
  fill_writes to second low_to (suc i) low in_to within =
      let h : Holding m a memory = holding m a memory is in
      let c : List ℕ = memory.bytes in
      computed_between (suc (suc (suc (suc (suc (down_cost i)))))) (omega (arith, down_costs i)) (omega (arith, down_costs i))
      (λ p pending unit item below.
      let call : Call = call_of memory a to second (suc i) p pending unit item below in
      ap (walk p (down_cost i)) (begins_fill call m is (no_wrap to (suc i) low_to low) within (not_zero i))
      ∙ (into_fill call m to (suc i) i
      ∙ (ap (λ (m : Machine). walk p (down_cost i) (Some (fills call fill m to (suc i)))) h.first
      ∙ (fill_run call m h c to i in_to (omega (arith, low, low_to))
      ∙ ap (gives call) (ap h.machine (filled_is c to (second % 256) (suc i) in_to)
      ∙ sym (put_first m a memory h (with_bytes c to (replicate (suc i) (second % 256)))))))))

-- ---- what is asked first

chosen : (x y : Bool) (bytes : List ℕ) → x ≡ true → y ≡ true → (if x && y then Some bytes else None) ≡ Some bytes
chosen x y bytes e f = rw (e, f) refl

not_chosen : (x y : Bool) (bytes : List ℕ) → y ≡ false → (if x && y then Some bytes else None) ≡ None
not_chosen true y bytes e = rw e refl
not_chosen false y bytes e = refl

pub copy_right : DoesCopy copy_helper
copy_right m a memory is all to from count low_to low_from low =
    let c : List ℕ = memory.bytes in
    let new : List ℕ = copied c to from count in
    let read : Bool = nat_le (from + count) (length c) in
    let written : Bool = nat_le (to + count) (length c) in
    let Ends : Option (List ℕ) → Type 0 = ComesToBytes copy_helper (given a to from count) m a memory count in
    elim (sides (to + count) (length c)) [
      | inr past ↦ subst Ends (sym (not_chosen read written new past.0))
          (computed 6 (omega arith) (λ p pending unit item below. simp
          (on_memory, is, no_wrap to count low_to low, past.1)))
      | inl g ↦ elim (sides (from + count) (length c)) [
        | inr past ↦ subst Ends (sym (ap (λ b. if b && written then Some new else None) past.0))
            (computed 7 (omega arith) (λ p pending unit item below. simp
            (on_memory, is, no_wrap to count low_to low, no_wrap from count low_from low, g.1, past.1)))
        | inl h ↦ subst Ends (sym (chosen read written new h.0 g.0))
            (copy_writes m a memory is all to from low_to low_from count low g.2 h.2 g.1 h.1)
      ]
    ]

pub fill_right : DoesFill fill_helper
fill_right m a memory is all to second count low_to low_second low =
    let c : List ℕ = memory.bytes in
    let new : List ℕ = with_bytes c to (replicate count (second % 256)) in
    let Ends : Option (List ℕ) → Type 0 = ComesToBytes fill_helper (given a to second count) m a memory count in
    elim (sides (to + count) (length c)) [
      | inr past ↦ subst Ends (sym (ap (λ b. if b then Some new else None) past.0))
          (computed 5 (omega arith) (λ p pending unit item below. simp (on_memory, is, no_wrap to count low_to low, past.1)))
      | inl g ↦ subst Ends (sym (ap (λ b. if b then Some new else None) g.0))
          (fill_writes m a memory is to second low_to count low g.2 g.1)
    ]
