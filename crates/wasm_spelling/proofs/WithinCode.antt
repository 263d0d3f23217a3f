-- Code that is spelled keeps within the limits: its bytes, its depth and the numbers in it.
use Rattle.wasm_spelling.proofs.Common.{◌≡◌, ℕ, suc, ◌+◌, ◌-◌, ◌^◌, ◌<◌, ◌≤◌, max, false, not, ◌||◌, List, [], ◌∷◌, length, nat_lt, refl}
use Rattle.wasm_spelling.proofs.Common.{ap, arith, ltb-true, lt-ltb, or_from, AllByRecursion, opcode_of, Block, Br, BrIf, BrTable, Call}
use Rattle.wasm_spelling.proofs.Common.{CallIndirect, Code, GlobalGet, GlobalSet, I32Const, I64Const, If, Kind, Load, LocalGet, LocalSet}
use Rattle.wasm_spelling.proofs.Common.{LocalTee, Loop, MemoryCopy, MemoryFill, MemoryGrow, MemorySize, Store, else_code, end_code, no_else}
use Rattle.wasm_spelling.proofs.Common.{then_code, Fields, byte, here, number, provided, block_type_code, code_fields, each, end_byte}
use Rattle.wasm_spelling.proofs.Common.{immediates, instr_fields, block_depth, block_depth_of, has_wide, is_wide, least_bytes}
use Rattle.wasm_spelling.proofs.Common.{least_bytes_of, some_in, some_inside}
use Rattle.wasm_spelling.proofs.Behind.{Behind, behind_fewer, past_byte, past_number, past_signed, past_here, past_provided}

-- ---- vectors

-- fields take a byte at least, and P is so of what they spell
abbrev pub Tells : {A : Type 0} → (A → Fields → Fields) → (A → Type 0) → Type 0
Tells {A} fields P = (v : A) (rest : Fields) (taken : ℕ) → Behind taken (fields v rest) → P v × Behind (taken + 1) rest

pub each_within : {A : Type 0} (entry : A → Fields → Fields) (P : A → Type 0) → Tells entry P
    → (vs : List A) (rest : Fields) (taken : ℕ) → Behind taken (each entry vs rest) → AllByRecursion P vs × Behind (taken + length vs) rest
each_within entry P one [] rest taken h = (tt, behind_fewer taken (taken + 0) rest (omega arith) h)
each_within entry P one (v ∷ vs) rest taken h =
    let first = one v (each entry vs rest) taken h in
    let others = each_within entry P one vs rest (taken + 1) first.1 in
    ((first.0, others.0), behind_fewer (taken + 1 + length vs) (taken + suc (length vs)) rest (omega arith) others.1)

-- ---- instructions that are no blocks

pub not_wide : (n : ℕ) → n < 2 ^ 32 → is_wide n ≡ false
not_wide n less = ap not (lt-ltb n 4294967296 (omega (arith, less)))

abbrev table_labels : Kind → ℕ
table_labels (BrTable labels default) = length labels
table_labels _ = 0

one_index : (n : ℕ) (rest : Fields) (taken : ℕ) → Behind taken (number n rest) → Behind taken rest
one_index n rest taken h = behind_fewer (taken + 1) taken rest (omega arith) (past_number taken n rest h).1

-- what stands behind the opcode
immediates_within : (k : Kind) (rest : Fields) (taken : ℕ) → Behind taken (immediates k rest)
    → (has_wide k ≡ false) × Behind (taken + table_labels k) rest
immediates_within (Br label) rest taken h = (refl, behind_fewer taken (taken + 0) rest (omega arith) (one_index label rest taken h))
immediates_within (BrIf label) rest taken h = (refl, behind_fewer taken (taken + 0) rest (omega arith) (one_index label rest taken h))
immediates_within (Call func) rest taken h = (refl, behind_fewer taken (taken + 0) rest (omega arith) (one_index func rest taken h))
immediates_within (LocalGet index) rest taken h = (refl, behind_fewer taken (taken + 0) rest (omega arith) (one_index index rest taken h))
immediates_within (LocalSet index) rest taken h = (refl, behind_fewer taken (taken + 0) rest (omega arith) (one_index index rest taken h))
immediates_within (LocalTee index) rest taken h = (refl, behind_fewer taken (taken + 0) rest (omega arith) (one_index index rest taken h))
immediates_within (GlobalGet index) rest taken h = (refl, behind_fewer taken (taken + 0) rest (omega arith) (one_index index rest taken h))
immediates_within (GlobalSet index) rest taken h = (refl, behind_fewer taken (taken + 0) rest (omega arith) (one_index index rest taken h))
immediates_within (BrTable labels default) rest taken h =
    let count = past_number taken (length labels) (each number labels (number default rest)) h in
    let each_label = each_within number (λ (n : ℕ). n < 2 ^ 32) (λ n more t b. past_number t n more b) labels (number default rest)
    (taken + 1) count.1 in (
      not_wide (length labels) count.0,
      behind_fewer (taken + 1 + length labels) (taken + length labels) rest (omega arith)
          (one_index default rest (taken + 1 + length labels) each_label.1),
    )
immediates_within (CallIndirect type_index) rest taken h =
    (refl, behind_fewer taken (taken + 0) rest (omega arith) (one_index 0 rest taken (one_index type_index (number 0 rest) taken h)))
immediates_within (Load op arg) rest taken h =
    let offset = past_number taken arg.offset rest (one_index arg.align (number arg.offset rest) taken h) in
    (not_wide arg.offset offset.0, behind_fewer (taken + 1) (taken + 0) rest (omega arith) offset.1)
immediates_within (Store op arg) rest taken h =
    let offset = past_number taken arg.offset rest (one_index arg.align (number arg.offset rest) taken h) in
    (not_wide arg.offset offset.0, behind_fewer (taken + 1) (taken + 0) rest (omega arith) offset.1)
immediates_within MemorySize rest taken h = (refl, behind_fewer (taken + 1) (taken + 0) rest (omega arith) (past_byte taken 0x00 rest h))
immediates_within MemoryGrow rest taken h = (refl, behind_fewer (taken + 1) (taken + 0) rest (omega arith) (past_byte taken 0x00 rest h))
immediates_within MemoryCopy rest taken h =
    let first = past_byte taken 0x00 (byte 0x00 rest) (one_index 10 (byte 0x00 (byte 0x00 rest)) taken h) in
    (refl, behind_fewer (taken + 1 + 1) (taken + 0) rest (omega arith) (past_byte (taken + 1) 0x00 rest first))
immediates_within MemoryFill rest taken h =
    (refl, behind_fewer (taken + 1) (taken + 0) rest (omega arith) (past_byte taken 0x00 rest (one_index 11 (byte 0x00 rest) taken h)))
immediates_within (I32Const n) rest taken h =
    (refl, behind_fewer (taken + 1) (taken + 0) rest (omega arith) (past_signed taken 32 n rest h))
immediates_within (I64Const n) rest taken h =
    (refl, behind_fewer (taken + 1) (taken + 0) rest (omega arith) (past_signed taken 64 n rest h))
immediates_within kind rest taken h = (refl, behind_fewer taken (taken + 0) rest (omega arith) h)

-- ---- code

pub record CodeIsWithin (room : ℕ) (code : Code) : Type 0 where
  pub depth : block_depth code ≤ room
  pub numbers : some_in has_wide code ≡ false

record KindIsWithin (room : ℕ) (kind : Kind) : Type 0 where
  depth : block_depth_of kind ≤ room
  numbers : (has_wide kind || some_inside has_wide kind) ≡ false

-- a block's opcode, with room for what it opens, and its type
opened : (room opcode type_code taken : ℕ) (fields : Fields) → Behind taken (byte opcode (provided (nat_lt 0 room) (byte type_code fields)))
    → (0 < room) × Behind (taken + 2) fields
opened room opcode type_code taken fields h =
    let p = past_provided (taken + 1) (nat_lt 0 room) (byte type_code fields) (past_byte taken opcode _ h) in
    (ltb-true 0 room p.0, behind_fewer (taken + 1 + 1) (taken + 2) fields (omega arith) (past_byte (taken + 1) type_code fields p.1))

past_end : (end_place taken : ℕ) (rest : Fields) → Behind taken (end_byte end_place rest) → Behind (taken + 1) rest
past_end end_place taken rest h = past_byte taken 0x0B rest (past_here taken end_place (byte 0x0B rest) h)

inside_depth : (room n : ℕ) → 0 < room → n ≤ room - 1 → suc n ≤ room
inside_depth room n some le = omega (arith, some, le)

most_of_two : (m n room : ℕ) → m ≤ room → n ≤ room → max m n ≤ room
most_of_two m n room a b = omega (arith, a, b)

mutual
  pub code_within : (room : ℕ) (code : Code) (rest : Fields) (taken : ℕ) → Behind taken (code_fields room code rest)
      → CodeIsWithin room code × Behind (taken + least_bytes code) rest
  code_within room end_code rest taken h =
      (record { depth = omega arith; numbers = refl }, behind_fewer taken (taken + 0) rest (omega arith) h)
  code_within room (then_code place kind code) rest taken h =
      let first = kind_within room kind (code_fields room code rest) taken (past_here taken place _ h) in
      let others = code_within room code rest (taken + least_bytes_of kind) first.1 in (
        record {
          depth = most_of_two (block_depth_of kind) (block_depth code) room first.0.depth others.0.depth;
          numbers = or_from (has_wide kind || some_inside has_wide kind) (some_in has_wide code) first.0.numbers others.0.numbers;
        },
        behind_fewer (taken + least_bytes_of kind + least_bytes code) (taken + (least_bytes_of kind + least_bytes code)) rest
            (omega arith) others.1,
      )

  kind_within : (room : ℕ) (kind : Kind) (rest : Fields) (taken : ℕ) → Behind taken (instr_fields room kind rest)
      → KindIsWithin room kind × Behind (taken + least_bytes_of kind) rest
  kind_within room (Block result code end_place) rest taken h =
      let o = opened room 0x02 (block_type_code result) taken (code_fields (room - 1) code (end_byte end_place rest)) h in
      let inside = code_within (room - 1) code (end_byte end_place rest) (taken + 2) o.1 in (
        record { depth = inside_depth room (block_depth code) o.0 inside.0.depth; numbers = inside.0.numbers },
        behind_fewer (taken + 2 + least_bytes code + 1) (taken + (3 + least_bytes code)) rest (omega arith)
            (past_end end_place (taken + 2 + least_bytes code) rest inside.1),
      )
  kind_within room (Loop result code end_place) rest taken h =
      let o = opened room 0x03 (block_type_code result) taken (code_fields (room - 1) code (end_byte end_place rest)) h in
      let inside = code_within (room - 1) code (end_byte end_place rest) (taken + 2) o.1 in (
        record { depth = inside_depth room (block_depth code) o.0 inside.0.depth; numbers = inside.0.numbers },
        behind_fewer (taken + 2 + least_bytes code + 1) (taken + (3 + least_bytes code)) rest (omega arith)
            (past_end end_place (taken + 2 + least_bytes code) rest inside.1),
      )
  kind_within room (If result code no_else end_place) rest taken h =
      let o = opened room 0x04 (block_type_code result) taken (code_fields (room - 1) code (end_byte end_place rest)) h in
      let inside = code_within (room - 1) code (end_byte end_place rest) (taken + 2) o.1 in (
        record {
          depth =
              inside_depth room (max (block_depth code) 0) o.0 (most_of_two (block_depth code) 0 (room - 1) inside.0.depth (omega arith));
          numbers = or_from (some_in has_wide code) false inside.0.numbers refl;
        },
        behind_fewer (taken + 2 + least_bytes code + 1) (taken + (3 + least_bytes code + 0)) rest (omega arith)
            (past_end end_place (taken + 2 + least_bytes code) rest inside.1),
      )
  kind_within room (If result code (else_code else_place other) end_place) rest taken h =
      let behind = code_fields (room - 1) other (end_byte end_place rest) in
      let o = opened room 0x04 (block_type_code result) taken (code_fields (room - 1) code (here else_place (byte 0x05 behind))) h in
      let inside = code_within (room - 1) code (here else_place (byte 0x05 behind)) (taken + 2) o.1 in
      let between = past_byte (taken + 2 + least_bytes code) 0x05 behind
      (past_here (taken + 2 + least_bytes code) else_place (byte 0x05 behind) inside.1) in
      let others = code_within (room - 1) other (end_byte end_place rest) (taken + 2 + least_bytes code + 1) between in (
        record {
          depth = inside_depth room (max (block_depth code) (block_depth other)) o.0
              (most_of_two (block_depth code) (block_depth other) (room - 1) inside.0.depth others.0.depth);
          numbers = or_from (some_in has_wide code) (some_in has_wide other) inside.0.numbers others.0.numbers;
        },
        behind_fewer (taken + 2 + least_bytes code + 1 + least_bytes other + 1)
            (taken + (3 + least_bytes code + (1 + least_bytes other))) rest (omega arith)
            (past_end end_place (taken + 2 + least_bytes code + 1 + least_bytes other) rest others.1),
      )
  kind_within room kind rest taken h =
      let i = immediates_within kind rest (taken + 1) (past_byte taken (opcode_of kind) (immediates kind rest) h) in (
        record { depth = omega arith; numbers = or_from (has_wide kind) (some_inside has_wide kind) i.0 refl },
        behind_fewer (taken + 1 + table_labels kind) (taken + least_bytes_of kind) rest (omega arith) i.1,
      )
