-- Instructions: with some places they are the same but for places.
use Rattle.wasm_writing.proofs.Common.{◌≡◌, ℕ, ◌-◌, nat_lt, Option, sym, refl, ap, ◌∙◌, ValType, opcode_of, Block, Br, BrIf, BrTable, Call}
use Rattle.wasm_writing.proofs.Common.{CallIndirect, Code, GlobalGet, GlobalSet, I32Const, I64Const, If, Kind, Load, LocalGet, LocalSet}
use Rattle.wasm_writing.proofs.Common.{LocalTee, Loop, MemoryCopy, MemoryFill, MemoryGrow, MemorySize, Store, else_code, end_code, no_else}
use Rattle.wasm_writing.proofs.Common.{then_code, Fields, byte, here, provided, most_blocks, block_type_code, code_fields, end_byte}
use Rattle.wasm_writing.proofs.Common.{expression, immediates, bare_code}
use Rattle.wasm_writing.proofs.Fills.{Fills, Keeps, Like, fills_after, fills_as, fills_before, fills_both, fills_here, fills_none}
use Rattle.wasm_writing.proofs.Fills.{keeps_both, keeps_byte, keeps_none, keeps_number, keeps_provided, keeps_signed, keeps_vector}

pub keeps_immediates : (k : Kind) → Keeps (immediates k)
keeps_immediates (Br label) = keeps_number label
keeps_immediates (BrIf label) = keeps_number label
keeps_immediates (BrTable labels default) =
    keeps_both (keeps_vector keeps_number labels) (keeps_number default)
keeps_immediates (Call func) = keeps_number func
keeps_immediates (CallIndirect type_index) = keeps_both (keeps_number type_index) (keeps_number 0)
keeps_immediates (LocalGet index) = keeps_number index
keeps_immediates (LocalSet index) = keeps_number index
keeps_immediates (LocalTee index) = keeps_number index
keeps_immediates (GlobalGet index) = keeps_number index
keeps_immediates (GlobalSet index) = keeps_number index
keeps_immediates (Load op arg) = keeps_both (keeps_number arg.align) (keeps_number arg.offset)
keeps_immediates (Store op arg) = keeps_both (keeps_number arg.align) (keeps_number arg.offset)
keeps_immediates MemorySize = keeps_byte 0x00
keeps_immediates MemoryGrow = keeps_byte 0x00
keeps_immediates MemoryCopy = keeps_both (keeps_number 10) (keeps_both (keeps_byte 0x00) (keeps_byte 0x00))
keeps_immediates MemoryFill = keeps_both (keeps_number 11) (keeps_byte 0x00)
keeps_immediates (I32Const n) = keeps_signed 32 n
keeps_immediates (I64Const n) = keeps_signed 64 n
keeps_immediates kind = keeps_none

-- a block's opcode, the room for it and its type
unfoldable pub head : (room opcode : ℕ) → Option ValType → Fields → Fields
head room opcode ty rest = byte opcode (provided (nat_lt 0 room) (byte (block_type_code ty) rest))

pub keeps_head : (room opcode : ℕ) (ty : Option ValType) → Keeps (head room opcode ty)
unfolding head
keeps_head room opcode ty =
    keeps_both (keeps_byte opcode) (keeps_both (keeps_provided (nat_lt 0 room)) (keeps_byte (block_type_code ty)))

-- what closes a block, and the code behind it
fills_closed : (e room : ℕ) (c : Code) → Fills {R = Like bare_code c} (code_fields room c) (λ r. code_fields room r.0)
    → Fills {R = ℕ × Like bare_code c} (λ x. end_byte e (code_fields room c x)) (λ r x. end_byte r.0 (code_fields room r.1.0 x))
fills_closed e room c h = fills_here (fills_after (keeps_byte 0x0B) h)

-- a block of one piece of code, and the code behind it
abbrev One : Code → Code → Type 0
One b c = ℕ × (Like bare_code b × (ℕ × Like bare_code c))

fills_one : (place room opcode : ℕ) (ty : Option ValType) (b : Code) (e : ℕ) (c : Code)
    → Fills {R = Like bare_code b} (code_fields (room - 1) b) (λ r. code_fields (room - 1) r.0)
    → Fills {R = Like bare_code c} (code_fields room c) (λ r. code_fields room r.0)
    → Fills {R = One b c} (λ x. here place (head room opcode ty (code_fields (room - 1) b (end_byte e (code_fields room c x)))))
    (λ r x. here r.0 (head room opcode ty (code_fields (room - 1) r.1.0.0 (end_byte r.1.1.0 (code_fields room r.1.1.1.0 x)))))
fills_one place room opcode ty b e c h k =
    fills_here (fills_after (keeps_head room opcode ty) (fills_both h (fills_closed e room c k)))

-- an if with both branches, and the code behind it
abbrev Two : Code → Code → Code → Type 0
Two b d c = ℕ × (Like bare_code b × (ℕ × (Like bare_code d × (ℕ × Like bare_code c))))

fills_two : (place room : ℕ) (ty : Option ValType) (b : Code) (q : ℕ) (d : Code) (e : ℕ) (c : Code)
    → Fills {R = Like bare_code b} (code_fields (room - 1) b) (λ r. code_fields (room - 1) r.0)
    → Fills {R = Like bare_code d} (code_fields (room - 1) d) (λ r. code_fields (room - 1) r.0)
    → Fills {R = Like bare_code c} (code_fields room c) (λ r. code_fields room r.0)
    → Fills {R = Two b d c}
    (λ x. here place
    (head room 0x04 ty (code_fields (room - 1) b (here q (byte 0x05 (code_fields (room - 1) d (end_byte e (code_fields room c x)))))))
    ) (λ r x. here r.0
    (head room 0x04 ty (code_fields (room - 1) r.1.0.0
    (here r.1.1.0 (byte 0x05 (code_fields (room - 1) r.1.1.1.0.0 (end_byte r.1.1.1.1.0 (code_fields room r.1.1.1.1.1.0 x))))))))
fills_two place room ty b q d e c h i k =
    fills_here (fills_after (keeps_head room 0x04 ty)
    (fills_both h (fills_here (fills_after (keeps_byte 0x05) (fills_both i (fills_closed e room c k))))))

plain : (k : Kind) (place : ℕ) (room : ℕ) (c : Code) → Fills {R = Like bare_code c} (code_fields room c) (λ r. code_fields room r.0)
    → Fills {R = ℕ × Like bare_code c} (λ x. here place (byte (opcode_of k) (immediates k (code_fields room c x))))
    (λ r x. here r.0 (byte (opcode_of k) (immediates k (code_fields room r.1.0 x))))
plain k place room c h = fills_here (fills_after (keeps_byte (opcode_of k)) (fills_after (keeps_immediates k) h))

with_block : (make : Code → ℕ → Kind) (kind : Code → Kind)
    → ((b : Code) (e : ℕ) (c : Code) (place : ℕ)
    → bare_code (then_code place (make b e) c) ≡ then_code 0 (kind (bare_code b)) (bare_code c)) → (place e : ℕ) (b c : Code) → One b c
    → Like bare_code (then_code place (make b e) c)
with_block make kind is place e b c r = (
  then_code r.0 (make r.1.0.0 r.1.1.0) r.1.1.1.0,
  is r.1.0.0 r.1.1.0 r.1.1.1.0 r.0 ∙ ap (λ d. then_code 0 (kind d) (bare_code r.1.1.1.0)) r.1.0.1
      ∙ ap (λ d. then_code 0 (kind (bare_code b)) d) r.1.1.1.1 ∙ sym (is b e c place),
)

pub fills_code : (room : ℕ) (c : Code) → Fills {R = Like bare_code c} (code_fields room c) (λ r. code_fields room r.0)
unfolding head with_block
fills_code room end_code = fills_none (λ r. code_fields room r.0) (end_code, refl) (λ x. refl)
fills_code room (then_code place (Block ty b e) c) =
    fills_as (with_block (Block ty) (λ d. Block ty d 0) (λ b e c p. refl) place e b c) (λ r x. refl)
    (fills_one place room 0x02 ty b e c (fills_code (room - 1) b) (fills_code room c))
fills_code room (then_code place (Loop ty b e) c) =
    fills_as (with_block (Loop ty) (λ d. Loop ty d 0) (λ b e c p. refl) place e b c) (λ r x. refl)
    (fills_one place room 0x03 ty b e c (fills_code (room - 1) b) (fills_code room c))
fills_code room (then_code place (If ty b no_else e) c) =
    fills_as (with_block (λ b. If ty b no_else) (λ d. If ty d no_else 0) (λ b e c p. refl) place e b c) (λ r x. refl)
    (fills_one place room 0x04 ty b e c (fills_code (room - 1) b) (fills_code room c))
fills_code room (then_code place (If ty b (else_code q d) e) c) =
    fills_as two (λ r x. refl)
    (fills_two place room ty b q d e c (fills_code (room - 1) b) (fills_code (room - 1) d) (fills_code room c))
  where
    two : Two b d c → Like bare_code (then_code place (If ty b (else_code q d) e) c)
    two r = (
      then_code r.0 (If ty r.1.0.0 (else_code r.1.1.0 r.1.1.1.0.0) r.1.1.1.1.0) r.1.1.1.1.1.0,
      ap (λ x. then_code 0 (If ty x (else_code 0 (bare_code r.1.1.1.0.0)) 0) (bare_code r.1.1.1.1.1.0)) r.1.0.1
          ∙ ap (λ x. then_code 0 (If ty (bare_code b) (else_code 0 x) 0) (bare_code r.1.1.1.1.1.0)) r.1.1.1.0.1
          ∙ ap (λ x. then_code 0 (If ty (bare_code b) (else_code 0 (bare_code d)) 0) x) r.1.1.1.1.1.1,
    )
fills_code room (then_code place k c) =
    fills_as (λ r. (then_code r.0 k r.1.0, ap (λ d. then_code 0 k d) r.1.1)) (λ r x. refl)
    (plain k place room c (fills_code room c))

-- an expression, whose end is not kept
pub fills_expression : (c : Code) → Fills {R = Like bare_code c} (expression c) (λ r. expression r.0)
fills_expression c = fills_before (fills_code most_blocks c) (keeps_byte 0x0B)
