-- The helpers of loads and stores, and of a memory's size.
use Rattle.c_prelude.proofs.Common.{◌≡◌, ℕ, ◌+◌, ◌/◌, ◌%◌, ◌^◌, ◌<◌, ◌≤◌, true, List, [], ◌∷◌, length, if◌then◌else◌, nat_le, Some, None}
use Rattle.c_prelude.proofs.Common.{codes, Option, refl, ap, ◌∙◌, inl, inr, arith, bytes_at, little_endian, low_bytes, with_bytes}
use Rattle.c_prelude.proofs.Common.{equal_type, type_of, value, MemoryOut, ValType, Value, I32, I64, LoadOp, StoreOp, CType, Void, Answer}
use Rattle.c_prelude.proofs.Common.{Gives, Traps, walk, Program, memory_in, get, on_memory, primitive, put, Going, Pending, Progress}
use Rattle.c_prelude.proofs.Common.{CValue, Evaluated, Frame, Is, Machine, Memory, Name, Number, ObjectAddress, Pointer, Vars, evaluate_arg}
use Rattle.c_prelude.proofs.Common.{CallComesTo, call_begun, c_type_of, load_helper, size_helper, store_helper, DoesLoad, DoesSize}
use Rattle.c_prelude.proofs.Common.{DoesStore, answered, number, stored, trap}
use Rattle.w2c_base.specs.declared.value.ValType.TheVariants as type
use Rattle.wasm_tree.specs.declared.operators.LoadOp.TheVariants as load
use Rattle.wasm_tree.specs.declared.operators.StoreOp.TheVariants as store
use Rattle.wasm_meaning.specs.Memories.{extended}
use Rattle.wasm_tree.specs.Accesses.{load_access, store_access}
use Rattle.c_tree.specs.declared.tree.COp.TheVariants as op
use Rattle.c_tree.specs.declared.tree.Num.{Num}
use Rattle.c_tree.specs.declared.tree.Num.TheVariants.{N32, N64}
use Rattle.c_tree.specs.Tree as tree
use Rattle.c_prelude.proofs.Computed.{computed}
use Rattle.c_prelude.proofs.Widths.{widths, number_of-value, sides, seen}
use Rattle.c_prelude.proofs.Extensions.{c_extend8_32, c_extend16_32, c_extend8_64, c_extend16_64, c_extend32_64}

pub no_wrap : (b o : ℕ) → b < 2 ^ 32 → o < 2 ^ 32 → (b + o) % 18446744073709551616 ≡ b + o
no_wrap b o p q = omega arith

no_wrap_end : (b o k : ℕ) → b < 2 ^ 32 → o < 2 ^ 32 → k ≤ 8 → (b + o + k) % 18446744073709551616 ≡ b + o + k
no_wrap_end b o k p q r = omega arith

-- ---- the statements

abbrev named : List ℕ → tree.Arg
named name = tree.Value (tree.Name name)

-- the address, and the test of its end
abbrev access : ℕ → List tree.Stmt → List tree.Stmt
access k rest =
    tree.Set (codes "a") (tree.Value (tree.Op op.Add (tree.To64 (tree.Name (codes "b"))) (tree.To64 (tree.Name (codes "o")))))
    ∷ tree.Call (Some (codes "n")) (tree.Called (codes "w2c_mem_len")) (named (codes "m") ∷ [])
    ∷ tree.If op.Gt (tree.Op op.Add (tree.Name (codes "a")) (tree.Number (N64 k))) (tree.Name (codes "n")) (codes "T")
    ∷ rest

-- a load of k bytes by a primitive
abbrev load_stmts : ℕ → Name → tree.Expr → Num → List tree.Stmt
load_stmts k primitive e zero = access k (
    tree.Call (Some (codes "v")) (tree.Called primitive) (named (codes "m") ∷ named (codes "a") ∷ [])
    ∷ tree.Return (tree.Value e)
    ∷ tree.Label (codes "T")
    ∷ trap MemoryOut
    ∷ tree.Return (tree.Value (tree.Number zero))
    ∷ [])

-- a store of k bytes by a primitive
abbrev store_stmts : ℕ → Name → tree.Expr → List tree.Stmt
store_stmts k primitive e = access k (
    tree.Call None (tree.Called primitive) (named (codes "m") ∷ named (codes "a") ∷ tree.Value e ∷ [])
    ∷ tree.ReturnNone
    ∷ tree.Label (codes "T")
    ∷ trap MemoryOut
    ∷ [])

-- ---- loads

-- the variables of a load: its arguments, the address, the length, and what was read
abbrev loading : ObjectAddress → ℕ → ℕ → ℕ → ℕ → Value → Vars
loading at b o a n v =
    (codes "m", Pointer (Some at)) ∷ (codes "b", Number (I32 b)) ∷ (codes "o", Number (I32 o))
    ∷ (codes "a", Number (I64 a)) ∷ (codes "n", Number (I64 n)) ∷ (codes "v", Number v) ∷ []

-- what is read at an address and turned by f, or a trap
abbrev turned : ℕ → (ℕ → ℕ) → List ℕ → ℕ → Answer
turned k f bytes address = if nat_le (address + k) (length bytes) then Gives (f (little_endian (bytes_at bytes address k))) else Traps
    MemoryOut

-- the expression gives f of what was read as a u32 or u64, whatever the other variables hold
abbrev Turns : tree.Expr → ValType → ValType → (ℕ → ℕ) → Type 0
Turns e raw t f = (p : Program) (m : Machine) (unit : ℕ) (at : ObjectAddress) (b o a n v : ℕ)
    → evaluate_arg p m (seen unit (loading at b o a n (value raw v))) (tree.Value e) ≡ Is (number t (f v))

abbrev begun : Pending → Machine → ℕ → ℕ → List Frame → CType → List tree.Stmt → Vars → Progress
begun pending m unit item below result stmts vars = Going pending (record {
  machine = m;
  running = record { unit = unit; item = item; result = result; stmts = stmts; rest = stmts; vars = vars };
  below = below;
})

-- a call of the function begins with these statements and variables
abbrev Begins : tree.Func → CType → List CValue → Machine → List tree.Stmt → Vars → Type 0
Begins func result args m stmts vars = (p : Program) (pending : Pending) (unit item : ℕ) (below : List Frame)
    → call_begun p pending unit item func m args below ≡ begun pending m unit item below result stmts vars

-- how a load reads: k bytes by a primitive, as a u32 or u64 of which an expression makes f of it
record Reading (k : ℕ) (t : ValType) (f : ℕ → ℕ) : Type 0 where
  name : Name
  raw : ValType
  e : tree.Expr
  zero : Num
  short : k ≤ 8
  is_get : primitive name ≡ Some (get k raw)
  turns : Turns e raw t f

abbrev load_args : ObjectAddress → ℕ → ℕ → List CValue
load_args a b o = Pointer (Some a) ∷ number type.I32 b ∷ number type.I32 o ∷ []

-- a call of the helper begins with the statements of this reading
abbrev BeginsLoad : {k : ℕ} {t : ValType} {f : ℕ → ℕ} → tree.Func → Reading k t f → Type 0
BeginsLoad {k} {t} func r = (m : Machine) (a : ObjectAddress) (b o : ℕ)
    → Begins func (c_type_of t) (load_args a b o) m (load_stmts k r.name r.e r.zero) (loading a b o 0 0 (value r.raw 0))

loads : {k : ℕ} {t : ValType} {f : ℕ → ℕ} (func : tree.Func) (r : Reading k t f) → BeginsLoad func r
    → (m : Machine) (a : ObjectAddress) (memory : Memory) (b o : ℕ) → memory_in m a ≡ Some memory → b < 2 ^ 32 → o < 2 ^ 32
    → CallComesTo 390 func (load_args a b o) m (answered m t (turned k f memory.bytes (b + o)))
loads {k} {t} {f} func r begins m a memory b o is pb po =
    elim (sides (b + o + k) (length memory.bytes)) [
      | inl h ↦ computed 5 (omega arith) (λ p pending unit item below.
          ap (λ (from : Progress). walk p 5 (Some from)) (begins m a b o p pending unit item below)
          ∙ simp (
            widths,
            no_wrap b o pb po,
            no_wrap_end b o k pb po r.short,
            on_memory,
            is,
            h.0,
            h.1,
            r.is_get,
            r.turns p m unit a b o
                (b + o) (length memory.bytes) (little_endian (bytes_at memory.bytes (b + o) k)),
          ))
      | inr h ↦ computed 4 (omega arith) (λ p pending unit item below.
          ap (λ (from : Progress). walk p 4 (Some from)) (begins m a b o p pending unit item below)
          ∙ simp (widths, no_wrap b o pb po, no_wrap_end b o k pb po r.short, on_memory, is, h.0, h.1))
    ]

-- what was read as it is, and in 64 bits
abbrev read : tree.Expr
read = tree.Name (codes "v")

abbrev widened : tree.Expr
widened = tree.To64 read

-- the low bits of a number extended by their sign
abbrev sign_32 : ℕ → ℕ → tree.Expr
sign_32 block half = tree.Op op.Sub (tree.Op op.Xor (tree.Op op.Rem read (tree.Number (N32 block))) (tree.Number (N32 half)))
    (tree.Number (N32 half))

abbrev sign_64 : ℕ → ℕ → tree.Expr
sign_64 block half = tree.Op op.Sub (tree.Op op.Xor (tree.Op op.Rem widened (tree.Number (N64 block))) (tree.Number (N64 half)))
    (tree.Number (N64 half))

abbrev is_u32 : ℕ → Evaluated CValue
is_u32 n = Is (Number (I32 n))

abbrev is_u64 : ℕ → Evaluated CValue
is_u64 n = Is (Number (I64 n))

abbrev by_get1 : {t : ValType} {f : ℕ → ℕ} (e : tree.Expr) (zero : Num) → Turns e type.I32 t f → Reading 1 t f
by_get1 e zero turns = record {
  name = codes "w2c_get1";
  raw = type.I32;
  e = e;
  zero = zero;
  short = omega arith;
  is_get = refl;
  turns =
      turns;
}

abbrev by_get2 : {t : ValType} {f : ℕ → ℕ} (e : tree.Expr) (zero : Num) → Turns e type.I32 t f → Reading 2 t f
by_get2 e zero turns = record {
  name = codes "w2c_get2";
  raw = type.I32;
  e = e;
  zero = zero;
  short = omega arith;
  is_get = refl;
  turns =
      turns;
}

abbrev by_get4 : {t : ValType} {f : ℕ → ℕ} (e : tree.Expr) (zero : Num) → Turns e type.I32 t f → Reading 4 t f
by_get4 e zero turns = record {
  name = codes "w2c_get4";
  raw = type.I32;
  e = e;
  zero = zero;
  short = omega arith;
  is_get = refl;
  turns =
      turns;
}

abbrev by_get8 : {t : ValType} {f : ℕ → ℕ} (e : tree.Expr) (zero : Num) → Turns e type.I64 t f → Reading 8 t f
by_get8 e zero turns = record {
  name = codes "w2c_get8";
  raw = type.I64;
  e = e;
  zero = zero;
  short = omega arith;
  is_get = refl;
  turns =
      turns;
}

abbrev reading_of : (op : LoadOp) → Reading (load_access op).width (load_access op).ty (extended op)
reading_of load.I32Load = by_get4 read (N32 0) (λ p m unit at b o a n v. refl)
reading_of load.I64Load = by_get8 widened (N64 0) (λ p m unit at b o a n v. refl)
reading_of load.I32Load8S = by_get1 (sign_32 256 128) (N32 0) (λ p m unit at b o a n v. ap is_u32 (c_extend8_32 v))
reading_of load.I32Load8U = by_get1 read (N32 0) (λ p m unit at b o a n v. refl)
reading_of load.I32Load16S = by_get2 (sign_32 65536 32768) (N32 0) (λ p m unit at b o a n v. ap is_u32 (c_extend16_32 v))
reading_of load.I32Load16U = by_get2 read (N32 0) (λ p m unit at b o a n v. refl)
reading_of load.I64Load8S = by_get1 (sign_64 256 128) (N64 0) (λ p m unit at b o a n v. ap is_u64 (c_extend8_64 v))
reading_of load.I64Load8U = by_get1 widened (N64 0) (λ p m unit at b o a n v. refl)
reading_of load.I64Load16S = by_get2 (sign_64 65536 32768) (N64 0) (λ p m unit at b o a n v. ap is_u64 (c_extend16_64 v))
reading_of load.I64Load16U = by_get2 widened (N64 0) (λ p m unit at b o a n v. refl)
reading_of load.I64Load32S = by_get4 (sign_64 4294967296 2147483648) (N64 0) (λ p m unit at b o a n v. ap is_u64 (c_extend32_64 v))
reading_of load.I64Load32U = by_get4 widened (N64 0) (λ p m unit at b o a n v. refl)

begins_load : (op : LoadOp) → BeginsLoad (load_helper op) (reading_of op)
begins_load load.I32Load m a b o p pending unit item below = refl
begins_load _ m a b o p pending unit item below = refl

pub load_right : (op : LoadOp) → DoesLoad (load_helper op) op
load_right op m a memory is b o pb po = loads (load_helper op) (reading_of op) (begins_load op) m a memory b o is pb po

-- ---- stores

-- the variables of a store: its arguments, the address, and the length
abbrev storing : ObjectAddress → ℕ → ℕ → Value → ℕ → ℕ → Vars
storing at b o v a n =
    (codes "m", Pointer (Some at)) ∷ (codes "b", Number (I32 b)) ∷ (codes "o", Number (I32 o)) ∷ (codes "v", Number v)
    ∷ (codes "a", Number (I64 a)) ∷ (codes "n", Number (I64 n)) ∷ []

-- the expression gives g of the value as a u32 or u64, whatever the other variables hold
abbrev Passes : tree.Expr → ValType → ValType → (ℕ → ℕ) → Type 0
Passes e raw t g = (p : Program) (m : Machine) (unit : ℕ) (at : ObjectAddress) (b o v a n : ℕ)
    → evaluate_arg p m (seen unit (storing at b o (value t v) a n)) (tree.Value e) ≡ Is (number raw (g v))

same_type : (t : ValType) (n : ℕ) → equal_type t (type_of (value t n)) ≡ true
same_type type.I32 n = refl
same_type type.I64 n = refl

-- the memory with bytes of a number put at an address, or none
abbrev put_at : ℕ → List ℕ → ℕ → ℕ → Option (List ℕ)
put_at k bytes address n = if nat_le (address + k) (length bytes) then Some (with_bytes bytes address (low_bytes k n)) else None

-- how a store writes: k bytes by a primitive, of a u32 or u64 that an expression makes of the value.
-- Its low bytes are those of the value
record Writing (k : ℕ) (t : ValType) : Type 0 where
  name : Name
  raw : ValType
  e : tree.Expr
  g : ℕ → ℕ
  short : k ≤ 8
  is_put : primitive name ≡ Some (put k raw)
  passes : Passes e raw t g
  low : (v : ℕ) → low_bytes k (g v) ≡ low_bytes k v

abbrev store_args : ValType → ObjectAddress → ℕ → ℕ → ℕ → List CValue
store_args t a b o v = Pointer (Some a) ∷ number type.I32 b ∷ number type.I32 o ∷ number t v ∷ []

-- a call of the helper begins with the statements of this writing
abbrev BeginsStore : {k : ℕ} {t : ValType} → tree.Func → Writing k t → Type 0
BeginsStore {k} {t} func w = (m : Machine) (a : ObjectAddress) (b o v : ℕ)
    → Begins func Void (store_args t a b o v) m (store_stmts k w.name w.e) (storing a b o (value t v) 0 0)

stores : {k : ℕ} {t : ValType} (func : tree.Func) (w : Writing k t) → BeginsStore func w
    → (m : Machine) (a : ObjectAddress) (memory : Memory) (b o v : ℕ) → memory_in m a ≡ Some memory → b < 2 ^ 32 → o < 2 ^ 32
    → CallComesTo 390 func (store_args t a b o v) m (stored m a memory (put_at k memory.bytes (b + o) v))
stores {k} {t} func w begins m a memory b o v is pb po =
    elim (sides (b + o + k) (length memory.bytes)) [
      | inl h ↦ computed 5 (omega arith) (λ p pending unit item below.
          ap (λ (from : Progress). walk p 5 (Some from)) (begins m a b o v p pending unit item below)
          ∙ simp (
            widths,
            no_wrap b o pb po,
            no_wrap_end b o k pb po w.short,
            on_memory,
            is,
            h.0,
            h.1,
            w.is_put,
            w.passes p m unit a b o
                v (b + o) (length memory.bytes),
            same_type w.raw (w.g v),
            number_of-value w.raw (w.g v),
            w.low v,
          ))
      | inr h ↦ computed 4 (omega arith) (λ p pending unit item below.
          ap (λ (from : Progress). walk p 4 (Some from)) (begins m a b o v p pending unit item below)
          ∙ simp (widths, no_wrap b o pb po, no_wrap_end b o k pb po w.short, on_memory, is, h.0, h.1))
    ]

-- the low bytes of the low 32 bits
low_1 : (v : ℕ) → low_bytes 1 (v % 4294967296) ≡ low_bytes 1 v
low_1 v = let a : v % 4294967296 % 256 ≡ v % 256 = omega arith in cc

low_2 : (v : ℕ) → low_bytes 2 (v % 4294967296) ≡ low_bytes 2 v
low_2 v =
    let a : v % 4294967296 % 256 ≡ v % 256 = omega arith in
    let b : v % 4294967296 / 256 % 256 ≡ v / 256 % 256 = omega arith in
    cc

low_4 : (v : ℕ) → low_bytes 4 (v % 4294967296) ≡ low_bytes 4 v
low_4 v =
    let a : v % 4294967296 % 256 ≡ v % 256 = omega arith in
    let b : v % 4294967296 / 256 % 256 ≡ v / 256 % 256 = omega arith in
    let c : v % 4294967296 / 256 / 256 % 256 ≡ v / 256 / 256 % 256 = omega arith in
    let d : v % 4294967296 / 256 / 256 / 256 % 256 ≡ v / 256 / 256 / 256 % 256 = omega arith in
    cc

-- the value as it is
abbrev whole : (k : ℕ) (name : Name) (t : ValType) → k ≤ 8 → primitive name ≡ Some (put k t) → Writing k t
whole k name t short is_put = record {
  name = name;
  raw = t;
  e = read;
  g = λ v. v;
  short = short;
  is_put = is_put;
  passes = λ p m unit at b o v a n. refl;
  low = λ v. refl;
}

-- the low 32 bits of a u64
abbrev cut : (k : ℕ) (name : Name) → k ≤ 8 → primitive name ≡ Some (put k type.I32)
    → ((v : ℕ) → low_bytes k (v % 4294967296) ≡ low_bytes k v) → Writing k type.I64
cut k name short is_put low = record {
  name = name;
  raw = type.I32;
  e = tree.To32 read;
  g = λ v. v % 4294967296;
  short = short;
  is_put = is_put;
  passes = λ p m unit at b o v a n. refl;
  low = low;
}

abbrev writing_of : (op : StoreOp) → Writing (store_access op).width (store_access op).ty
writing_of store.I32Store = whole 4 (codes "w2c_put4") type.I32 (omega arith) refl
writing_of store.I64Store = whole 8 (codes "w2c_put8") type.I64 (omega arith) refl
writing_of store.I32Store8 = whole 1 (codes "w2c_put1") type.I32 (omega arith) refl
writing_of store.I32Store16 = whole 2 (codes "w2c_put2") type.I32 (omega arith) refl
writing_of store.I64Store8 = cut 1 (codes "w2c_put1") (omega arith) refl low_1
writing_of store.I64Store16 = cut 2 (codes "w2c_put2") (omega arith) refl low_2
writing_of store.I64Store32 = cut 4 (codes "w2c_put4") (omega arith) refl low_4

begins_store : (op : StoreOp) → BeginsStore (store_helper op) (writing_of op)
begins_store store.I32Store m a b o v p pending unit item below = refl
begins_store _ m a b o v p pending unit item below = refl

pub store_right : (op : StoreOp) → DoesStore (store_helper op) op
store_right op m a memory is b o v pb po = stores (store_helper op) (writing_of op) (begins_store op) m a memory b o v is pb po

-- ---- the size

pub size_right : DoesSize size_helper
size_right m a memory is small = computed 2 (omega arith) (λ p pending unit item below.
    let n = length memory.bytes in
    let e : n / 65536 % 4294967296 ≡ n / 65536 = omega (arith, small) in
    simp (on_memory, is, e))
