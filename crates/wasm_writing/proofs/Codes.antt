-- Blocks, and lists of instructions.
use Rattle.wasm_writing.proofs.Common.{◌≡◌, ℕ, zero, suc, ◌+◌, ◌-◌, ◌<◌, ◌≤◌, true, false, List, [], ◌∷◌, ◌++◌, length, get_or, take}
use Rattle.wasm_writing.proofs.Common.{nat_lt, Option, sym, refl, ap, ◌∙◌, subst, arith, lt-ltb, take_more, ValType, Block, BrTable}
use Rattle.wasm_writing.proofs.Common.{CallIndirect, Code, I32Const, I64Const, If, Kind, Loop, MemoryCopy, MemoryFill, MemoryGrow}
use Rattle.wasm_writing.proofs.Common.{MemorySize, code_tree, kind_tree, Fields, byte, here, number, provided, most_module_bytes}
use Rattle.wasm_writing.proofs.Common.{block_type_code, code_fields, end_byte, instr_fields, Puts, Refuses, Draft, false≢true}
use Rattle.wasm_tree.specs.declared.code.Instr.{Instr}
use Rattle.wasm_tree.specs.declared.code.MemArg.{MemArg}
use Rattle.wasm_tree.specs.declared.operators.Simple.{Simple}
use Rattle.wasm_tree.specs.declared.operators.IndexOp.{IndexOp}
use Rattle.wasm_tree.specs.declared.operators.AccessOp.{AccessOp}
use Rattle.wasm_tree.specs.declared.operators.Numeric.{Numeric}
use Rattle.wasm_tree.specs.declared.operators.Parts.{Parts}
use Rattle.wasm_tree.specs.declared.operators.Parts.TheVariants as parts
use Rattle.wasm_tree.specs.Parts.{parts_of, simple_opcode, index_opcode, access_opcode, numeric_opcode}
use Rattle.wasm_writing.specs.Aside.{SpelledAside, SpelledBy}
use Rattle.wasm_writing.specs.Codes.{mem_arg, block_fields, if_fields}
use Rattle.wasm_writing.proofs.Pieces.{fits_here, makes_here, puts_if, puts_none}
use Rattle.wasm_writing.proofs.Lists.{puts_both, puts_same}

pub puts_here : (place : ℕ) (fields : Fields → Fields) (a b : Draft) → Puts fields a b → Puts (λ rest. here place (fields rest)) a b
puts_here place fields a b p = (
  (λ file rest h. makes_here file a place (fields rest) (p.0 file rest h)),
  (λ written room rest h. p.1 written room rest (fits_here written room a place (fields rest) h)),
  p.2,
)

-- no block may be opened
pub no_room : (room : ℕ) (fields : Fields → Fields) → room ≡ 0 → (rest : Fields) (bytes : List ℕ) → length bytes ≤ most_module_bytes
    → SpelledAside (provided (nat_lt 0 room) (fields rest)) bytes → ⊥
unfolding SpelledBy
no_room zero fields e rest bytes _ s = false≢true s.0
no_room (suc room) fields e rest bytes _ s = omega (arith, e)

pub puts_no_room : (room : ℕ) (front back : Fields → Fields) (a b c : Draft) → room ≡ 0 → Puts front a b → Refuses b c
    → Puts (λ rest. front (provided (nat_lt 0 room) (back rest))) a c
puts_no_room room front back a b c e p r =
    puts_both front (λ rest. provided (nat_lt 0 room) (back rest)) a b c p
    (puts_none (λ rest. provided (nat_lt 0 room) (back rest)) b c (no_room room back e) r)

some_room : (room : ℕ) → (room ≡ 0 → ⊥) → nat_lt 0 room ≡ true
some_room room n = lt-ltb 0 room (omega (arith, n))

-- a block may be opened
puts_room : (room : ℕ) (fields : Fields → Fields) (a b : Draft) → (room ≡ 0 → ⊥) → Puts fields a b
    → Puts (λ rest. provided (nat_lt 0 room) (fields rest)) a b
puts_room room fields a b n p = puts_if (nat_lt 0 room) fields a b (some_room room n) p

pub puts_block : (room opcode : ℕ) (ty : Option ValType) (code : Code) (end_place : ℕ) (a b c d e : Draft) → (room ≡ 0 → ⊥)
    → Puts (byte opcode) a b → Puts (byte (block_type_code ty)) b c → Puts (code_fields (room - 1) code) c d → Puts (byte 0x0B) d e
    → Puts (block_fields room opcode ty code end_place) a e
puts_block room opcode ty code end_place a b c d e n first head inside last =
    let close = puts_both (code_fields (room - 1) code) (end_byte end_place) c d e inside (puts_here end_place (byte 0x0B) d e last) in
    let body = puts_both (byte (block_type_code ty)) (λ rest. code_fields (room - 1) code (end_byte end_place rest)) b c e head close in
    puts_both (byte opcode) (λ rest. provided (nat_lt 0 room)
    (byte (block_type_code ty) (code_fields (room - 1) code (end_byte end_place rest)))) a b e first
    (puts_room room (λ rest. byte (block_type_code ty) (code_fields (room - 1) code (end_byte end_place rest))) b e n body)

pub puts_branches : (room : ℕ) (ty : Option ValType) (code other : Code) (else_place end_place : ℕ) (a b c d e f g : Draft) → (room ≡ 0 → ⊥)
    → Puts (byte 0x04) a b → Puts (byte (block_type_code ty)) b c → Puts (code_fields (room - 1) code) c d → Puts (byte 0x05) d e
    → Puts (code_fields (room - 1) other) e f → Puts (byte 0x0B) f g → Puts (if_fields room ty code other else_place end_place) a g
puts_branches room ty code other else_place end_place a b c d e f g n first head inside middle second last =
    let closed : Fields → Fields = λ rest. code_fields (room - 1) other (end_byte end_place rest) in
    let halved : Fields → Fields = λ rest. here else_place (byte 0x05 (closed rest)) in
    let close = puts_both (code_fields (room - 1) other) (end_byte end_place) e f g second (puts_here end_place (byte 0x0B) f g last) in
    let half = puts_here else_place (λ rest. byte 0x05 (closed rest)) d g (puts_both (byte 0x05) closed d e g middle close) in
    let whole = puts_both (code_fields (room - 1) code) halved c d g inside half in
    let body = puts_both (byte (block_type_code ty)) (λ rest. code_fields (room - 1) code (halved rest)) b c g head whole in
    puts_both (byte 0x04) (λ rest. provided (nat_lt 0 room) (byte (block_type_code ty) (code_fields (room - 1) code (halved rest)))) a b g
    first
    (puts_room room (λ rest. byte (block_type_code ty) (code_fields (room - 1) code (halved rest))) b g n body)

-- an instruction that is no block
-- ---- instructions by their parts

-- what an instruction is spelled by, as far as its parts say
abbrev SpelledByParts : Kind → Parts → Type 0
SpelledByParts k (parts.Simple o) = (room : ℕ) (rest : Fields) → byte (simple_opcode o) rest ≡ instr_fields room k rest
SpelledByParts k (parts.Index o n) = (room : ℕ) (rest : Fields) → byte (index_opcode o) (number n rest) ≡ instr_fields room k rest
SpelledByParts k (parts.Access o arg) = (room : ℕ) (rest : Fields) → byte (access_opcode o) (mem_arg arg rest) ≡ instr_fields room k rest
SpelledByParts k (parts.Numeric o) = (room : ℕ) (rest : Fields) → byte (numeric_opcode o) rest ≡ instr_fields room k rest
SpelledByParts k parts.Other = Unit {0}

spelled_by_parts : (k : Kind) → SpelledByParts k (parts_of k)
spelled_by_parts MemorySize = tt
spelled_by_parts MemoryGrow = tt
spelled_by_parts MemoryCopy = tt
spelled_by_parts MemoryFill = tt
spelled_by_parts (BrTable labels default) = tt
spelled_by_parts (CallIndirect index) = tt
spelled_by_parts (I32Const z) = tt
spelled_by_parts (I64Const z) = tt
spelled_by_parts (Block result code end_place) = tt
spelled_by_parts (Loop result code end_place) = tt
spelled_by_parts (If result code otherwise end_place) = tt
spelled_by_parts _ = λ room rest. refl

spelled_as : (k : Kind) (p : Parts) → p ≡ parts_of k → SpelledByParts k p
spelled_as k p e = subst (SpelledByParts k) (sym e) (spelled_by_parts k)

pub puts_simple : (room : ℕ) (k : Kind) (o : Simple) (a b : Draft) → parts.Simple o ≡ parts_of k → Puts (byte (simple_opcode o)) a b
    → Puts (instr_fields room k) a b
puts_simple room k o a b e p = puts_same (byte (simple_opcode o)) (instr_fields room k) a b (spelled_as k (parts.Simple o) e room) p

pub puts_numeric : (room : ℕ) (k : Kind) (o : Numeric) (a b : Draft) → parts.Numeric o ≡ parts_of k → Puts (byte (numeric_opcode o)) a b
    → Puts (instr_fields room k) a b
puts_numeric room k o a b e p = puts_same (byte (numeric_opcode o)) (instr_fields room k) a b (spelled_as k (parts.Numeric o) e room) p

pub puts_index : (room : ℕ) (k : Kind) (o : IndexOp) (n : ℕ) (a b c : Draft) → parts.Index o n ≡ parts_of k
    → Puts (byte (index_opcode o)) a b → Puts (number n) b c → Puts (instr_fields room k) a c
puts_index room k o n a b c e p q =
    puts_same (λ rest. byte (index_opcode o) (number n rest)) (instr_fields room k) a c (spelled_as k (parts.Index o n) e room)
    (puts_both (byte (index_opcode o)) (number n) a b c p q)

pub puts_access : (room : ℕ) (k : Kind) (o : AccessOp) (arg : MemArg) (a b c : Draft) → parts.Access o arg ≡ parts_of k
    → Puts (byte (access_opcode o)) a b → Puts (mem_arg arg) b c → Puts (instr_fields room k) a c
puts_access room k o arg a b c e p q =
    puts_same (λ rest. byte (access_opcode o) (mem_arg arg rest)) (instr_fields room k) a c (spelled_as k (parts.Access o arg) e room)
    (puts_both (byte (access_opcode o)) (mem_arg arg) a b c p q)

-- ---- lists

instrs-append : (room : ℕ) (xs ys : List Instr) (rest : Fields)
    → code_fields room (code_tree (xs ++ ys)) rest ≡ code_fields room (code_tree xs) (code_fields room (code_tree ys) rest)
instrs-append room [] ys rest = refl
instrs-append room (x ∷ xs) ys rest =
    ap (λ (f : Fields). here x.place (instr_fields room (kind_tree x.kind) f)) (instrs-append room xs ys rest)

pub instrs_more : (room : ℕ) (xs : List Instr) (i : ℕ) (x : Instr) (a b c : Draft) → i < length xs → x ≡ get_or xs i x
    → Puts (code_fields room (code_tree (take i xs))) a b → Puts (instr_fields room (kind_tree x.kind)) b c
    → Puts (code_fields room (code_tree (take (i + 1) xs))) a c
instrs_more room xs i x a b c less is p q =
    let grown : take (i + 1) xs ≡ take i xs ++ x ∷ [] = take_more xs i x less ∙ ap (λ (y : Instr). take i xs ++ y ∷ []) (sym is) in
    let one : Fields → Fields = λ rest. here x.place (instr_fields room (kind_tree x.kind) rest) in
    puts_same (λ rest. code_fields room (code_tree (take i xs)) (one rest)) (code_fields room (code_tree (take (i + 1) xs))) a c
    (λ rest. sym (ap (λ (l : List Instr). code_fields room (code_tree l) rest) grown ∙ instrs-append room (take i xs) (x ∷ []) rest))
    (puts_both (code_fields room (code_tree (take i xs))) one a b c p (puts_here x.place (instr_fields room (kind_tree x.kind)) b c q))
