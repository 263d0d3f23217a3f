-- Instructions that are spelled are read, and what closes them stands behind them.
use Rattle.wasm_spelling.proofs.Common.{◌≡◌, ℕ, zero, suc, ◌-◌, ◌<◌, Bool, true, false, eqb, length, IsTrue, nat_lt, Some, None, Ok, Option}
use Rattle.wasm_spelling.proofs.Common.{Result, sym, refl, ap, ◌∙◌, subst, arith, eqb-true, ValType, has_row, form_in, form_of, Form}
use Rattle.wasm_spelling.proofs.Common.{opcode_of, row_of, Block, Code, If, Kind, Loop, else_code, end_code, no_else, then_code, At, Fields}
use Rattle.wasm_spelling.proofs.Common.{byte, here, provided, most_blocks, block_type_code, code_fields, end_byte, expression, immediates}
use Rattle.wasm_spelling.proofs.Common.{instr_fields, Head, Reader, a_block, a_form, a_loop, an_if, byte_at, checked, done, formed, head_of}
use Rattle.wasm_spelling.proofs.Common.{opened, the_else, the_end, ReadFault}
use Rattle.wasm_spelling.specs.Steps.{reads}
use Rattle.wasm_spelling.specs.Reading.{block_type_at, form_at, Ender, by_end, by_else, ender_place, Item, closed, one, as_one, item_of}
use Rattle.wasm_spelling.specs.Reading.{item_at, put_before, after_item, items_at, all_items_at, if_closed, block_of, block_at, code_at}
use Rattle.wasm_spelling.specs.Reading.{expression_at}
use Rattle.wasm_spelling.proofs.Tools.{none_some, reads_again, checked_again}
use Rattle.wasm_spelling.proofs.Took.{SpelledAt, Again, first_again}
use Rattle.wasm_spelling.proofs.Leaves.{byte_again, block_type_reads}
use Rattle.wasm_spelling.proofs.Forms.{form_again, plain_fields}
use Rattle.wasm_spelling.proofs.CodeTaken.{Inner, InnerTakes, body_fields, item_takes, block_takes}

-- ---- opcodes

not_this : (n b : ℕ) (f : Form) (t : Bool) → form_in (row_of n) ≡ None → eqb b n ≡ t → form_in (row_of b) ≡ Some f → t ≡ false
not_this n b f true none e is = none_some f (sym none ∙ ap (λ (m : ℕ). form_in (row_of m)) (sym (eqb-true b n e)) ∙ is)
not_this n b f false none e is = refl

pub form_head : (room : ℕ) (may_else : Bool) (place b : ℕ) (f : Form) → form_in (row_of b) ≡ Some f
    → head_of room may_else place b ≡ Ok (a_form f)
form_head room may_else place b f is =
    rw (
      not_this 0x0B b f (eqb b 0x0B) refl refl is,
      not_this 0x05 b f (eqb b 0x05) refl refl is,
      not_this 0x02 b f (eqb b 0x02) refl refl is,
      not_this 0x03 b f (eqb b 0x03) refl refl is,
      not_this 0x04 b f (eqb b 0x04) refl refl is,
    )
    (ap (formed place b) is)

pub block_head : (room place : ℕ) (h : Head) → IsTrue (nat_lt 0 room) → opened room place h ≡ Ok h
block_head zero place h t = absurd cc
block_head (suc room) place h t = refl

-- an opcode that is read, and what is read behind it
item_again_by : (room : ℕ) (may_else : Bool) (inner : Inner) (a : At) (op : ℕ) (h : Head) (b : At) (z : Result (Item × At) ReadFault)
    → byte_at a ≡ Ok (op, b) → head_of room may_else a.place op ≡ Ok h → item_of inner a.place h b ≡ z
    → item_at room may_else inner a ≡ z
unfolding item_at reads
item_again_by room may_else inner a op h b z e head is =
    reads_again (checked byte_at (head_of room may_else)) (item_of inner a.place) a h b z
    (checked_again byte_at (head_of room may_else) a op h b e head) is

-- ---- what stands behind a block's opcode

abbrev ReadsKind : Reader Kind → Kind → Fields → Fields → Type 0
ReadsKind read k fields rest = (a : At) → SpelledAt fields a → (b : At) × (read a ≡ Ok (k, b)) × SpelledAt rest b

abbrev ClosedAgain : ℕ → Reader Kind → (Option ValType → Code → ℕ → Kind) → Type 0
ClosedAgain room read make =
    (r : Option ValType) (c : Code) (e : ℕ) (rest : Fields) → ReadsKind read (make r c e) (body_fields room r c (end_byte e rest)) rest

pub record InnerAgain (room : ℕ) (inner : Inner) : Type 0 where
  pub block : ClosedAgain room (inner a_block) Block
  pub loops : ClosedAgain room (inner a_loop) Loop
  pub one_sided : ClosedAgain room (inner an_if) (λ r c e. If r c no_else e)
  pub two_sided : (r : Option ValType) (c : Code) (q : ℕ) (o : Code) (e : ℕ) (rest : Fields)
      → ReadsKind (inner an_if) (If r c (else_code q o) e)
      (body_fields room r c (here q (byte 0x05 (code_fields (room - 1) o (end_byte e rest))))) rest

-- ---- one instruction

abbrev ReadsOne : ℕ → Bool → Inner → At → ℕ → Kind → Fields → Type 0
ReadsOne room may_else inner a place k rest = (b : At) × (item_at room may_else inner a ≡ Ok (one place k, b)) × SpelledAt rest b

-- a block by its opcode
by_opcode : (room : ℕ) (may_else : Bool) (inner : Inner) (a : At) (op : ℕ) (h : Head) (k : Kind) (fields rest : Fields)
    → ((place : ℕ) → IsTrue (nat_lt 0 room) → head_of room may_else place op ≡ Ok h)
    → ((b : At) (p : ℕ) → item_of inner p h b ≡ reads (inner h) (as_one p) b) → ReadsKind (inner h) k (provided (nat_lt 0 room) fields) rest
    → SpelledAt (byte op (provided (nat_lt 0 room) fields)) a → ReadsOne room may_else inner a a.place k rest
by_opcode room may_else inner a op h k fields rest head as_item reads_kind s =
    first_again byte_at byte byte_again a op (provided (nat_lt 0 room) fields) s (λ b e t.
    let y = reads_kind b t in (
      y.0,
      item_again_by room may_else inner a op h b _ e (head a.place t.0)
          (as_item b a.place ∙ reads_again (inner h) (as_one a.place) b k y.0 _ y.1 refl),
      y.2,
    ))

plain_again : (room : ℕ) (may_else : Bool) (inner : Inner) (a : At) (k : Kind) (f : Form) (rest : Fields) → form_of k ≡ Some f
    → SpelledAt (instr_fields room k rest) a → ReadsOne room may_else inner a a.place k rest
plain_again room may_else inner a k f rest is s =
    first_again byte_at byte byte_again a (opcode_of k) (immediates k rest) (subst (λ x. SpelledAt x a) (plain_fields room k f rest is) s)
    (λ b e t.
    let y = form_again k f is b rest t in (
      y.0,
      item_again_by room may_else inner a (opcode_of k)
          (a_form f) b _ e (form_head room may_else a.place (opcode_of k) f (has_row k f is))
          (reads_again (form_at f) (as_one a.place) b k y.0 _ y.1 refl),
      y.2,
    ))

instr_again : (room : ℕ) (may_else : Bool) (inner : Inner) → InnerAgain room inner → (a : At) (k : Kind) (rest : Fields)
    → SpelledAt (instr_fields room k rest) a → ReadsOne room may_else inner a a.place k rest
instr_again room may_else inner h a (Block r c e) rest s =
    by_opcode room may_else inner a 0x02 a_block (Block r c e) (byte (block_type_code r) (code_fields (room - 1) c (end_byte e rest))) rest
    (λ place t. block_head room place a_block t) (λ b p. refl) (h.block r c e rest) s
instr_again room may_else inner h a (Loop r c e) rest s =
    by_opcode room may_else inner a 0x03 a_loop (Loop r c e) (byte (block_type_code r) (code_fields (room - 1) c (end_byte e rest))) rest
    (λ place t. block_head room place a_loop t) (λ b p. refl) (h.loops r c e rest) s
instr_again room may_else inner h a (If r c no_else e) rest s =
    by_opcode room may_else inner a 0x04 an_if (If r c no_else e)
    (byte (block_type_code r) (code_fields (room - 1) c (end_byte e rest))) rest (λ place t. block_head room place an_if t)
    (λ b p. refl) (h.one_sided r c e rest) s
instr_again room may_else inner h a (If r c (else_code q o) e) rest s =
    by_opcode room may_else inner a 0x04 an_if (If r c (else_code q o) e)
    (byte (block_type_code r) (code_fields (room - 1) c (here q (byte 0x05 (code_fields (room - 1) o (end_byte e rest)))))) rest
    (λ place t. block_head room place an_if t) (λ b p. refl)
    (h.two_sided r c q o e rest) s
instr_again room may_else inner h a k rest s = plain_again room may_else inner a k _ rest refl s

-- ---- lists of instructions

-- where the tail is spelled, something closes the instructions, and X holds of it and of the place behind it
abbrev pub Closes : ℕ → Bool → Inner → Fields → (Ender → At → Type 0) → Type 0
Closes room may_else inner tail X =
    (q : At) → SpelledAt tail q → (x : Ender) × (b : At) × (item_at room may_else inner q ≡ Ok (closed x, b)) × X x b

pub items_again : (room : ℕ) (may_else : Bool) (inner : Inner) → InnerTakes room inner → InnerAgain room inner
    → (c : Code) (tail : Fields) (X : Ender → At → Type 0) → Closes room may_else inner tail X → (k : ℕ) (a : At) → length a.left < k
    → SpelledAt (code_fields room c tail) a
    → (x : Ender) × (b : At) × (items_at room may_else inner k a ≡ Ok ((c, x), b)) × X x b
unfolding items_at
items_again room may_else inner t h c tail X closes zero a less s = absurd (omega (arith, less))
items_again room may_else inner t h end_code tail X closes (suc k) a less s =
    let y = closes a s in
    (y.0, y.1, reads_again (item_at room may_else inner) (after_item (items_at room may_else inner k)) a (closed y.0) y.1 _ y.2 refl, y.3)
items_again room may_else inner t h (then_code place kind c) tail X closes (suc k) a less s =
    let y = instr_again room may_else inner h a kind (code_fields room c tail) s.1 in
    let shorter = (item_takes room may_else inner t a (one a.place kind) y.0 y.1).1 in
    let z = items_again room may_else inner t h c tail X closes k y.0 (omega (arith, less, shorter)) y.2 in (
      z.0,
      z.1,
      reads_again (item_at room may_else inner) (after_item (items_at room may_else inner k)) a (one a.place kind) y.0 _ y.1
          (reads_again (items_at room may_else inner k) (put_before a.place kind) y.0
          (c, z.0) z.1 _ z.2 (ap (λ (p : ℕ). Ok ((then_code p kind c, z.0), z.1)) s.0)),
      z.3,
    )

-- an end closes them
pub ends_here : (room : ℕ) (may_else : Bool) (inner : Inner) (rest : Fields)
    → Closes room may_else inner (byte 0x0B rest) (λ x b. SpelledAt rest b)
ends_here room may_else inner rest q s =
    first_again byte_at byte byte_again q 0x0B rest s
    (λ b e t. (by_end q.place, b, item_again_by room may_else inner q 0x0B the_end b _ e refl refl, t))

pub ends_at : (room : ℕ) (may_else : Bool) (inner : Inner) (place : ℕ) (rest : Fields)
    → Closes room may_else inner (end_byte place rest) (λ x b. (x ≡ by_end place) × SpelledAt rest b)
ends_at room may_else inner place rest q s =
    first_again byte_at byte byte_again q 0x0B rest s.1
    (λ b e t. (by_end q.place, b, item_again_by room may_else inner q 0x0B the_end b _ e refl refl, (ap by_end s.0, t)))

-- and so does an `else`
else_at : (room : ℕ) (inner : Inner) (place : ℕ) (rest : Fields)
    → Closes room true inner (here place (byte 0x05 rest)) (λ x b. (x ≡ by_else place) × SpelledAt rest b)
else_at room inner place rest q s =
    first_again byte_at byte byte_again q 0x05 rest s.1
    (λ b e t. (by_else q.place, b, item_again_by room true inner q 0x05 the_else b _ e refl refl, (ap by_else s.0, t)))

-- ---- blocks

-- instructions in a block of which `room` more may be opened
abbrev ReadsCode : ℕ → (Bool → Reader (Code × Ender)) → Type 1
ReadsCode room code =
    (may_else : Bool) (c : Code) (tail : Fields) (X : Ender → At → Type 0) → Closes room may_else (block_at room) tail X → (a : At)
    → SpelledAt (code_fields room c tail) a
    → (x : Ender) × (b : At) × (code may_else a ≡ Ok ((c, x), b)) × X x b

lower : (room : ℕ) (c : Code) (tail : Fields) (a : At) → SpelledAt (code_fields (suc room - 1) c tail) a
    → SpelledAt (code_fields room c tail) a
lower room c tail a s = let less : suc room - 1 ≡ room = omega arith in subst (λ n. SpelledAt (code_fields n c tail) a) less s

-- a block's type, its body and what is read behind it, where an end closes the body
closed_reads : (room : ℕ) (code : Bool → Reader (Code × Ender)) → ReadsCode room code → (may_else : Bool)
    (make : Option ValType → Code → ℕ → Kind) (more : Option ValType → Code × Ender → Reader Kind)
    → ((r : Option ValType) (c : Code) (e : ℕ) (b : At) → more r (c, by_end e) b ≡ Ok (make r c e, b))
    → ClosedAgain (suc room) (reads block_type_at (λ r. reads (code may_else) (more r))) make
closed_reads room code h may_else make more is r c e rest a s =
    first_again block_type_at (λ r. byte (block_type_code r)) block_type_reads.again a r
    (code_fields (suc room - 1) c (end_byte e rest)) s.1 (λ b0 e0 s0.
    let y = h may_else c (end_byte e rest) (λ x b. (x ≡ by_end e) × SpelledAt rest b) (ends_at room may_else (block_at room) e rest) b0
    (lower room c (end_byte e rest) b0 s0) in (
      y.1,
      reads_again _ _ a r b0 _ e0
          (reads_again _ (more r) b0 (c, y.0) y.1 _ y.2 (ap (λ (x : Ender). more r (c, x) y.1) y.3.0 ∙ is r c e y.1)),
      y.3.1,
    ))

two_sided_reads : (room : ℕ) (code : Bool → Reader (Code × Ender)) → ReadsCode room code
    → (r : Option ValType) (c : Code) (q : ℕ) (o : Code) (e : ℕ) (rest : Fields)
    → ReadsKind (block_of code an_if) (If r c (else_code q o) e)
    (body_fields (suc room) r c (here q (byte 0x05 (code_fields (suc room - 1) o (end_byte e rest))))) rest
two_sided_reads room code h r c q o e rest a s =
    first_again block_type_at (λ r. byte (block_type_code r)) block_type_reads.again a r
    (code_fields (suc room - 1) c (here q (byte 0x05 (code_fields (suc room - 1) o (end_byte e rest))))) s.1 (λ b0 e0 s0.
    let more : Fields = code_fields (suc room - 1) o (end_byte e rest) in
    let y = h true c (here q (byte 0x05 more)) (λ x b. (x ≡ by_else q) × SpelledAt more b) (else_at room (block_at room) q more) b0
    (lower room c (here q (byte 0x05 more)) b0 s0) in
    let z = h false o (end_byte e rest) (λ x b. (x ≡ by_end e) × SpelledAt rest b) (ends_at room false (block_at room) e rest) y.1
    (lower room o (end_byte e rest) y.1 y.3.1) in (
      z.1,
      reads_again _ _ a r b0 _ e0 (reads_again _ (if_closed (code false) r) b0
          (c, y.0) y.1 _ y.2 (ap (λ (x : Ender). if_closed (code false) r (c, x) y.1) y.3.0
          ∙ reads_again (code false) (λ w. λ b. Ok (If r c (else_code q w.0) (ender_place w.1), b)) y.1
          (o, z.0) z.1 _ z.2 (ap (λ (x : Ender). Ok (If r c (else_code q o) (ender_place x), z.1)) z.3.0))),
      z.3.1,
    ))

pub block_again : (room : ℕ) → InnerAgain room (block_at room)
unfolding block_at
block_again zero =
    record {
      block = λ r c e rest a s. absurd cc;
      loops = λ r c e rest a s. absurd cc;
      one_sided = λ r c e rest a s. absurd cc;
      two_sided = λ r c q o e rest a s. absurd cc;
    }
block_again (suc room) =
    all room (λ may_else c tail X closes a s. items_again room may_else (block_at room) (block_takes room)
    (block_again room) c tail X closes (suc (length a.left)) a (omega arith) s)
  where
    all : (room : ℕ) → ReadsCode room (λ may_else. all_items_at room may_else (block_at room)) → InnerAgain (suc room) (block_at (suc room))
    all room h = record {
      block = closed_reads room (λ may_else. all_items_at room may_else (block_at room)) h false Block
          (λ r c. done (Block r c.0 (ender_place c.1))) (λ r c e b. refl);
      loops = closed_reads room (λ may_else. all_items_at room may_else (block_at room)) h false Loop
          (λ r c. done (Loop r c.0 (ender_place c.1))) (λ r c e b. refl);
      one_sided = closed_reads room (λ may_else. all_items_at room may_else (block_at room)) h true (λ r c e. If r c no_else e)
          (if_closed (all_items_at room false (block_at room))) (λ r c e b. refl);
      two_sided = two_sided_reads room (λ may_else. all_items_at room may_else (block_at room)) h;
    }

pub code_again : (room : ℕ) (may_else : Bool) (c : Code) (tail : Fields) (X : Ender → At → Type 0)
    → Closes room may_else (block_at room) tail X → (a : At) → SpelledAt (code_fields room c tail) a
    → (x : Ender) × (b : At) × (code_at room may_else a ≡ Ok ((c, x), b)) × X x b
code_again room may_else c tail X closes a s =
    items_again room may_else (block_at room) (block_takes room) (block_again room) c tail X closes (suc (length a.left)) a (omega arith) s

pub expression_again : Again expression_at expression
unfolding expression_at
expression_again a v rest s =
    let y = code_again most_blocks false v (byte 0x0B rest) (λ x b. SpelledAt rest b)
    (ends_here most_blocks false (block_at most_blocks) rest) a s in
    (y.1, reads_again (code_at most_blocks false) (λ c. λ b. Ok (c.0, b)) a (v, y.0) y.1 _ y.2 refl, y.3)

pub ended_code_again : (a : At) (c : Code) (place : ℕ) (rest : Fields) → SpelledAt (code_fields most_blocks c (end_byte place rest)) a
    → (b : At) × (code_at most_blocks false a ≡ Ok ((c, by_end place), b)) × SpelledAt rest b
ended_code_again a c place rest s =
    let y = code_again most_blocks false c (end_byte place rest) (λ x b. (x ≡ by_end place) × SpelledAt rest b)
    (ends_at most_blocks false (block_at most_blocks) place rest) a s in
    (y.1, y.2 ∙ ap (λ (x : Ender). Ok ((c, x), y.1)) y.3.0, y.3.1)
