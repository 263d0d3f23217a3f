-- Instructions that are read are spelled by the bytes that were taken.
use Rattle.wasm_spelling.proofs.Common.{◌≡◌, ℕ, zero, suc, ◌-◌, ◌<◌, Bool, true, false, ◌&&◌, eqb, length, IsTrue, nat_lt, Some, None, Ok}
use Rattle.wasm_spelling.proofs.Common.{Option, Result, sym, refl, ap, subst, arith, lt-ltb, eqb-true, and_parts, ValType, form_in, Form}
use Rattle.wasm_spelling.proofs.Common.{row_of, Block, Code, If, Kind, Loop, end_code, no_else, then_code, At, Fields, byte, here, provided}
use Rattle.wasm_spelling.proofs.Common.{most_blocks, block_type_code, code_fields, end_byte, expression, instr_fields, Head, Reader}
use Rattle.wasm_spelling.proofs.Common.{a_block, a_form, a_loop, an_if, byte_at, checked, done, formed, head_of, malformed, opened}
use Rattle.wasm_spelling.proofs.Common.{the_else, the_end, ReadFault, Float}
use Rattle.wasm_spelling.specs.declared.fault.Cause.TheVariants as cause
use Rattle.wasm_spelling.specs.Steps.{reads, is_float}
use Rattle.wasm_spelling.specs.Reading.{block_type_at, form_at, Ender, by_end, by_else, ender_place, Item, closed, one, as_one, item_of}
use Rattle.wasm_spelling.specs.Reading.{item_at, put_before, after_item, items_at, all_items_at, if_closed, block_of, block_at, code_at}
use Rattle.wasm_spelling.specs.Reading.{expression_at}
use Rattle.wasm_spelling.proofs.Tools.{bad, ok_is, not_ok, reads_ok, checked_ok, either_way}
use Rattle.wasm_spelling.proofs.Took.{SpelledAt, Took, took_none, took_as, took_then, Takes, first_taken}
use Rattle.wasm_spelling.proofs.Leaves.{byte_front, byte_takes, block_type_reads}
use Rattle.wasm_spelling.proofs.Forms.{row_spells, Behind, form_takes}

-- ---- opcodes

-- what an opcode that was read is
abbrev pub HeadIs : ℕ → Bool → ℕ → Head → Type 0
HeadIs room may_else b the_end = b ≡ 0x0B
HeadIs room may_else b the_else = (b ≡ 0x05) × (may_else ≡ true)
HeadIs room may_else b a_block = (b ≡ 0x02) × (0 < room)
HeadIs room may_else b a_loop = (b ≡ 0x03) × (0 < room)
HeadIs room may_else b an_if = (b ≡ 0x04) × (0 < room)
HeadIs room may_else b (a_form f) = form_in (row_of b) ≡ Some f

abbrev some_head : Head → Result Head ReadFault
some_head h = Ok h

opened_is : (room place : ℕ) (h g : Head) → opened room place h ≡ Ok g → (0 < room) × (h ≡ g)
opened_is zero place h g e = not_ok _ g e
opened_is (suc room) place h g e = (omega arith, ok_is h g e)

formed_is : (room : ℕ) (may_else : Bool) (place b : ℕ) (o : Option Form) (h : Head) → form_in (row_of b) ≡ o → formed place b o ≡ Ok h
    → HeadIs room may_else b h
formed_is room may_else place b (Some f) h row e = subst (HeadIs room may_else b) (ok_is (a_form f) h e) row
formed_is room may_else place b None h row e =
    either_way (is_float b) (bad (Float place)) (malformed place cause.BadOpcode) h e (λ _ x. not_ok _ h x) (λ _ x. not_ok _ h x)

pub head_is : (room : ℕ) (may_else : Bool) (place b : ℕ) (h : Head) → head_of room may_else place b ≡ Ok h → HeadIs room may_else b h
head_is room may_else place b h e =
    either_way (eqb b 0x0B) (some_head the_end) _ h e (λ t x. subst (HeadIs room may_else b) (ok_is the_end h x) (eqb-true b 0x0B t))
    (λ _ e.
    either_way (eqb b 0x05 && may_else) (some_head the_else) _ h e
    (λ t x. subst (HeadIs room may_else b) (ok_is the_else h x) (let p = and_parts _ _ t in (eqb-true b 0x05 p.0, p.1))) (λ _ e.
    either_way (eqb b 0x02) (opened room place a_block) _ h e
    (λ t x. let o = opened_is room place a_block h x in subst (HeadIs room may_else b) o.1 (eqb-true b 0x02 t, o.0)) (λ _ e.
    either_way (eqb b 0x03) (opened room place a_loop) _ h e
    (λ t x. let o = opened_is room place a_loop h x in subst (HeadIs room may_else b) o.1 (eqb-true b 0x03 t, o.0)) (λ _ e.
    either_way (eqb b 0x04) (opened room place an_if) _ h e
    (λ t x. let o = opened_is room place an_if h x in subst (HeadIs room may_else b) o.1 (eqb-true b 0x04 t, o.0)) (λ _ e.
    formed_is room may_else place b (form_in (row_of b)) h refl e)))))

-- ---- one instruction, or what closes them

abbrev pub ItemTaken : ℕ → Bool → At → Item → At → Type 0
ItemTaken room may_else a (closed (by_end place)) b = (place ≡ a.place) × Took a (byte 0x0B) b
ItemTaken room may_else a (closed (by_else place)) b = (place ≡ a.place) × (may_else ≡ true) × Took a (byte 0x05) b
ItemTaken room may_else a (one place k) b = Took a (λ rest. here place (instr_fields room k rest)) b × (length b.left < length a.left)

abbrev pub Inner : Type 0
Inner = Head → Reader Kind

pub record InnerTakes (room : ℕ) (inner : Inner) : Type 0 where
  pub block : (a : At) (k : Kind) (b : At) → inner a_block a ≡ Ok (k, b) → Behind room 0x02 k a b
  pub loops : (a : At) (k : Kind) (b : At) → inner a_loop a ≡ Ok (k, b) → Behind room 0x03 k a b
  pub branches : (a : At) (k : Kind) (b : At) → inner an_if a ≡ Ok (k, b) → Behind room 0x04 k a b

byte_shorter : (a : At) (op : ℕ) (b : At) → byte_at a ≡ Ok (op, b) → length b.left < length a.left
byte_shorter a op b e = let t = byte_front a.place a.left a.counts op b e in omega (arith, ap length t.bytes)

-- an opcode at a, and what was read behind it
one_taken : (room : ℕ) (may_else : Bool) (a : At) (op : ℕ) (c : At) (k : Kind) (b : At) → byte_at a ≡ Ok (op, c) → Behind room op k c b
    → ItemTaken room may_else a (one a.place k) b
one_taken room may_else a op c k b e (X, took, is) = (
  took_as (λ rest. here a.place (instr_fields room k rest)) a b (took_then a c b (byte_takes a op c e) took)
      (λ fields s. (refl, subst (λ f. SpelledAt f a) (sym (is fields)) s)),
  omega (arith, byte_shorter a op c e, took.taken.within),
)

as_ones : (room : ℕ) (may_else : Bool) (a : At) (op : ℕ) (c : At) (read : Reader Kind) (i : Item) (b : At) → byte_at a ≡ Ok (op, c)
    → ((k : Kind) (d : At) → read c ≡ Ok (k, d) → Behind room op k c d)
    → reads read (as_one a.place) c ≡ Ok (i, b) → ItemTaken room may_else a i b
as_ones room may_else a op c read i b e h is =
    let k = reads_ok read (as_one a.place) c (i, b) is in
    subst (λ (y : Item × At). ItemTaken room may_else a y.0 y.1) (ok_is _ (i, b) k.3)
    (one_taken room may_else a op c k.0 k.1 e (h k.0 k.1 k.2))

by_head : (room : ℕ) (may_else : Bool) (inner : Inner) → InnerTakes room inner → (a : At) (op : ℕ) (c : At) (h : Head) (i : Item) (b : At)
    → byte_at a ≡ Ok (op, c) → HeadIs room may_else op h → item_of inner a.place h c ≡ Ok (i, b) → ItemTaken room may_else a i b
by_head room may_else inner t a op c the_end i b e is r =
    subst (λ (y : Item × At). ItemTaken room may_else a y.0 y.1) (ok_is (closed (by_end a.place), c) (i, b) r)
    (refl, subst (λ x. Took a (byte x) c) is (byte_takes a op c e))
by_head room may_else inner t a op c the_else i b e is r =
    subst (λ (y : Item × At). ItemTaken room may_else a y.0 y.1) (ok_is (closed (by_else a.place), c) (i, b) r)
    (refl, is.1, subst (λ x. Took a (byte x) c) is.0 (byte_takes a op c e))
by_head room may_else inner t a op c a_block i b e is r =
    as_ones room may_else a op c (inner a_block) i b e (λ k d x. subst (λ n. Behind room n k c d) (sym is.0) (t.block c k d x)) r
by_head room may_else inner t a op c a_loop i b e is r =
    as_ones room may_else a op c (inner a_loop) i b e (λ k d x. subst (λ n. Behind room n k c d) (sym is.0) (t.loops c k d x)) r
by_head room may_else inner t a op c an_if i b e is r =
    as_ones room may_else a op c (inner an_if) i b e (λ k d x. subst (λ n. Behind room n k c d) (sym is.0) (t.branches c k d x)) r
by_head room may_else inner t a op c (a_form f) i b e is r =
    as_ones room may_else a op c (form_at f) i b e (λ k d x. form_takes room op f (row_spells op f is) c k d x) r

pub item_takes : (room : ℕ) (may_else : Bool) (inner : Inner) → InnerTakes room inner → (a : At) (i : Item) (b : At)
    → item_at room may_else inner a ≡ Ok (i, b) → ItemTaken room may_else a i b
unfolding item_at reads
item_takes room may_else inner t a i b e =
    let h = reads_ok (checked byte_at (head_of room may_else)) (item_of inner a.place) a (i, b) e in
    let op = checked_ok byte_at (head_of room may_else) a h.0 h.1 h.2 in
    by_head room may_else inner t a op.0 h.1 h.0 i b op.1 (head_is room may_else a.place op.0 h.0 op.2) h.3

-- ---- lists of instructions

-- the instructions stand up to q, and what closes them stands there
pub record CodeTaken (room : ℕ) (may_else : Bool) (a : At) (c : Code) (x : Ender) (b : At) : Type 0 where
  pub q : At
  pub code : Took a (code_fields room c) q
  pub ender : ItemTaken room may_else q (closed x) b

after_takes : (room : ℕ) (may_else : Bool) (more : Reader (Code × Ender))
    → ((a : At) (c : Code) (x : Ender) (b : At) → more a ≡ Ok ((c, x), b) → CodeTaken room may_else a c x b)
    → (a : At) (i : Item) (q : At) (c : Code) (x : Ender) (b : At) → ItemTaken room may_else a i q → after_item more i q ≡ Ok ((c, x), b)
    → CodeTaken room may_else a c x b
after_takes room may_else more h a (closed ender) q c x b t e =
    subst (λ (y : (Code × Ender) × At). CodeTaken room may_else a y.0.0 y.0.1 y.1) (ok_is ((end_code, ender), q) ((c, x), b) e)
    (record { q = a; code = took_none a; ender = t })
after_takes room may_else more h a (one place k) q c x b t e =
    let y = reads_ok more (put_before place k) q ((c, x), b) e in
    let rest = h q y.0.0 y.0.1 y.1 y.2 in
    subst (λ (z : (Code × Ender) × At). CodeTaken room may_else a z.0.0 z.0.1 z.1)
    (ok_is ((then_code place k y.0.0, y.0.1), y.1) ((c, x), b) y.3)
    (record { q = rest.q; code = took_then a q rest.q t.0 rest.code; ender = rest.ender })

pub items_takes : (room : ℕ) (may_else : Bool) (inner : Inner) → InnerTakes room inner → (k : ℕ) (a : At) (c : Code) (x : Ender) (b : At)
    → items_at room may_else inner k a ≡ Ok ((c, x), b) → CodeTaken room may_else a c x b
unfolding items_at
items_takes room may_else inner t zero a c x b e = not_ok _ ((c, x), b) e
items_takes room may_else inner t (suc k) a c x b e =
    let i = reads_ok (item_at room may_else inner) (after_item (items_at room may_else inner k)) a ((c, x), b) e in
    after_takes room may_else (items_at room may_else inner k) (items_takes room may_else inner t k) a i.0 i.1 c x b
    (item_takes room may_else inner t a i.0 i.1 i.2) i.3

-- where no `else` may stand, an end does
end_taken : {f : Fields → Fields} (a q b : At) (x : Ender) (room : ℕ) → Took a f q → ItemTaken room false q (closed x) b
    → Took a (λ rest. f (end_byte (ender_place x) rest)) b
end_taken {f} a q b (by_end place) room t i = took_then a q b t (took_as (end_byte place) q b i.1 (λ fields s. (sym i.0, s)))
end_taken a q b (by_else place) room t i = absurd cc

-- ---- blocks

true_room : (room : ℕ) → IsTrue (nat_lt 0 (suc room))
true_room room = lt-ltb 0 (suc room) (omega arith)

-- the type, and the fields of the body with what closes it
abbrev pub body_fields : ℕ → Option ValType → Code → Fields → Fields
body_fields room r c rest = provided (nat_lt 0 room) (byte (block_type_code r) (code_fields (room - 1) c rest))

typed : (f : Fields → Fields) (room : ℕ) (a : At) (r : Option ValType) (b : At) (c : Code) (d : At) → Took a (byte (block_type_code r)) b
    → Took b (λ rest. code_fields room c (f rest)) d → Took a (λ rest. body_fields (suc room) r c (f rest)) d
typed f room a r b c d t u =
    let less : suc room - 1 ≡ room = omega arith in
    took_as (λ rest. body_fields (suc room) r c (f rest)) a d (took_then a b d t u)
    (λ fields s. (true_room room, subst (λ n. SpelledAt (byte (block_type_code r) (code_fields n c (f fields))) a) (sym less) s))

abbrev Codes : ℕ → (Bool → Reader (Code × Ender)) → Type 0
Codes room code =
    (may_else : Bool) (a : At) (c : Code) (x : Ender) (b : At) → code may_else a ≡ Ok ((c, x), b) → CodeTaken room may_else a c x b

-- a block of one body
closed_taken : (room : ℕ) (code : Bool → Reader (Code × Ender)) → Codes room code → (op : ℕ) (make : Option ValType → Code → ℕ → Kind)
    → ((r : Option ValType) (c : Code) (place : ℕ) (rest : Fields)
    → instr_fields (suc room) (make r c place) rest ≡ byte op (body_fields (suc room) r c (end_byte place rest)))
    → (a : At) (k : Kind) (b : At)
    → reads block_type_at (λ r. reads (code false) (λ c. done (make r c.0 (ender_place c.1)))) a ≡ Ok (k, b) → Behind (suc room) op k a b
closed_taken room code h op make spells a k b e =
    first_taken _ _ (λ r. byte (block_type_code r)) block_type_reads.takes a (k, b) e (λ r b0 t0 e0.
    let y = reads_ok (code false) _ b0 (k, b) e0 in
    let t = h false b0 y.0.0 y.0.1 y.1 y.2 in
    subst (λ (z : Kind × At). Behind (suc room) op z.0 a z.1) (ok_is _ (k, b) y.3) (
      (λ rest. body_fields (suc room) r y.0.0 (end_byte (ender_place y.0.1) rest)),
      typed (end_byte (ender_place y.0.1)) room a r b0 y.0.0 y.1 t0 (end_taken b0 t.q y.1 y.0.1 room t.code t.ender),
      spells r y.0.0 (ender_place y.0.1),
    ))

-- behind the first branch stands its end, or an `else` and the second branch
if_taken : (room : ℕ) (other : Reader (Code × Ender))
    → ((a : At) (c : Code) (x : Ender) (b : At) → other a ≡ Ok ((c, x), b) → CodeTaken room false a c x b)
    → (a : At) (r : Option ValType) (b0 : At) → Took a (byte (block_type_code r)) b0
    → (c : Code) (x : Ender) (b1 : At) → CodeTaken room true b0 c x b1 → (k : Kind) (b : At) → if_closed other r (c, x) b1 ≡ Ok (k, b)
    → Behind (suc room) 0x04 k a b
if_taken room other h a r b0 t0 c (by_end place) b1 t k b e =
    subst (λ (z : Kind × At). Behind (suc room) 0x04 z.0 a z.1) (ok_is (If r c no_else place, b1) (k, b) e) (
      (λ rest. body_fields (suc room) r c (end_byte place rest)),
      typed (end_byte place) room a r b0 c b1 t0
          (took_then b0 t.q b1 t.code (took_as (end_byte place) t.q b1 t.ender.1 (λ fields s. (sym t.ender.0, s)))),
      λ rest. refl,
    )
if_taken room other h a r b0 t0 c (by_else place) b1 t k b e =
    let y = reads_ok other _ b1 (k, b) e in
    let u = h b1 y.0.0 y.0.1 y.1 y.2 in
    let less : suc room - 1 ≡ room = omega arith in
    let second : Took b1 (λ rest. code_fields (suc room - 1) y.0.0 (end_byte (ender_place y.0.1) rest)) y.1 =
    subst (λ n. Took b1 (λ rest. code_fields n y.0.0 (end_byte (ender_place y.0.1) rest)) y.1) (sym less)
    (end_taken b1 u.q y.1 y.0.1 room u.code u.ender) in
    let first : Took b0 (λ rest. code_fields room c (here place (byte 0x05 rest))) b1 =
    took_then b0 t.q b1 t.code (took_as (λ rest. here place (byte 0x05 rest)) t.q b1 t.ender.2 (λ fields s. (sym t.ender.0, s))) in
    subst (λ (z : Kind × At). Behind (suc room) 0x04 z.0 a z.1) (ok_is _ (k, b) y.3) (
      (λ rest. body_fields (suc room) r c (here place (byte 0x05 (code_fields (suc room - 1) y.0.0 (end_byte (ender_place y.0.1) rest))))),
      typed (λ rest. here place (byte 0x05 (code_fields (suc room - 1) y.0.0 (end_byte (ender_place y.0.1) rest)))) room a r b0 c y.1 t0
          (took_then b0 b1 y.1 first second),
      λ rest. refl,
    )

branch_taken : (room : ℕ) (code : Bool → Reader (Code × Ender)) → Codes room code → (a : At) (k : Kind) (b : At)
    → block_of code an_if a ≡ Ok (k, b) → Behind (suc room) 0x04 k a b
branch_taken room code h a k b e =
    first_taken _ _ (λ r. byte (block_type_code r)) block_type_reads.takes a (k, b) e (λ r b0 t0 e0.
    let y = reads_ok (code true) (if_closed (code false) r) b0 (k, b) e0 in
    if_taken room (code false) (h false) a r b0 t0 y.0.0 y.0.1 y.1 (h true b0 y.0.0 y.0.1 y.1 y.2) k b y.3)

pub block_takes : (room : ℕ) → InnerTakes room (block_at room)
unfolding block_at
block_takes zero =
    record { block = λ a k b e. not_ok _ (k, b) e; loops = λ a k b e. not_ok _ (k, b) e; branches = λ a k b e. not_ok _ (k, b) e }
block_takes (suc room) =
    all room (λ may_else a c x b e. items_takes room may_else (block_at room) (block_takes room) (suc (length a.left)) a c x b e)
  where
    all : (room : ℕ) → Codes room (λ may_else. all_items_at room may_else (block_at room)) → InnerTakes (suc room) (block_at (suc room))
    all room h = record {
      block = closed_taken room (λ may_else. all_items_at room may_else (block_at room)) h 0x02 Block (λ r c place rest. refl);
      loops = closed_taken room (λ may_else. all_items_at room may_else (block_at room)) h 0x03 Loop (λ r c place rest. refl);
      branches = branch_taken room (λ may_else. all_items_at room may_else (block_at room)) h;
    }

pub code_takes : (room : ℕ) (may_else : Bool) (a : At) (c : Code) (x : Ender) (b : At) → code_at room may_else a ≡ Ok ((c, x), b)
    → CodeTaken room may_else a c x b
code_takes room may_else a c x b e = items_takes room may_else (block_at room) (block_takes room) (suc (length a.left)) a c x b e

-- an expression, with its end's place and without
pub ended_code_takes : (a : At) (c : Code) (x : Ender) (b : At) → code_at most_blocks false a ≡ Ok ((c, x), b)
    → Took a (λ rest. code_fields most_blocks c (end_byte (ender_place x) rest)) b
ended_code_takes a c x b e = let t = code_takes most_blocks false a c x b e in end_taken a t.q b x most_blocks t.code t.ender

unplaced : {f : Fields → Fields} (a q b : At) (x : Ender) (room : ℕ) → Took a f q → ItemTaken room false q (closed x) b
    → Took a (λ rest. f (byte 0x0B rest)) b
unplaced a q b (by_end place) room t i = took_then a q b t i.1
unplaced a q b (by_else place) room t i = absurd cc

pub expression_takes : Takes expression_at expression
unfolding expression_at
expression_takes a v b e =
    let y = reads_ok (code_at most_blocks false) (λ c. λ b. Ok (c.0, b)) a (v, b) e in
    let t = code_takes most_blocks false a y.0.0 y.0.1 y.1 y.2 in
    subst (λ (z : Code × At). Took a (expression z.0) z.1) (ok_is _ (v, b) y.3) (unplaced a t.q y.1 y.0.1 most_blocks t.code t.ender)
