-- The loop over instructions, and one turn of it.
use Rattle.wasm_binary.proofs.Common.{◌≡◌, ℕ, zero, suc, ◌-◌, ◌<◌, Bool, true, false, cond, ◌&&◌, eqb, length, Some, None, Ok, Err, Option}
use Rattle.wasm_binary.proofs.Common.{Result, sym, refl, ap, ◌∙◌, subst, arith, eqb-true, form_in, Form, row_of, Code, Kind, end_code}
use Rattle.wasm_binary.proofs.Common.{nothing, then_code, block_takes, item_takes, At, Ender, block_of, by_else, by_end, code_at, Reader}
use Rattle.wasm_binary.proofs.Common.{a_block, a_loop, an_if, ◌>>=◌, ReadFault, Float, Limit, Malformed, Memory, opener_head, Fails}
use Rattle.std.proofs.lemmas.Bool.{and_parts}
use Rattle.wasm_tree.specs.Appended.{InstrTree, ◌+>◌}
use Rattle.wasm_spelling.specs.declared.fault.Cause.TheVariants as cause
use Rattle.wasm_spelling.specs.declared.fault.Which.TheVariants as which
use Rattle.wasm_spelling.specs.Steps.{reads, checked, byte_at, Head, opened, formed, is_float, head_of}
use Rattle.wasm_spelling.specs.Reading.{Item, closed, one, as_one, form_at, item_of, item_at, put_before, after_item, items_at, block_at}
use Rattle.wasm_binary.specs.Opcodes.{plain_at, by_form}

-- ---- the loop

-- the instructions so far, and those behind them
pub joined : Code → Code → Code
joined end_code code = code
joined (then_code place kind front) code = then_code place kind (joined front code)

abbrev pub after_front : Code → (Code × Ender) × At → Result ((Code × Ender) × At) ReadFault
after_front front x = Ok ((joined front x.0.0, x.0.1), x.1)

abbrev pub Ahead : ℕ → Bool → Code → At → Result ((Code × Ender) × At) ReadFault → Type 0
Ahead room may_else front a total =
    (k : ℕ) × (length a.left < k) × ((items_at room may_else (block_at room) k a >>= after_front front) ≡ total)

nothing_before : (r : Result ((Code × Ender) × At) ReadFault) → (r >>= after_front end_code) ≡ r
unfolding joined
nothing_before (Ok x) = refl
nothing_before (Err f) = refl

pub at_start : (room : ℕ) (may_else : Bool) (a : At) → Ahead room may_else end_code a (code_at room may_else a)
at_start room may_else a = (suc (length a.left), omega arith, nothing_before (code_at room may_else a))

joined-more : (front : Code) (instr : InstrTree) (code : Code)
    → joined (front +> instr) code ≡ joined front (then_code instr.place instr.kind code)
unfolding joined
joined-more end_code instr code = refl
joined-more (then_code place kind front) instr code = ap (then_code place kind) (joined-more front instr code)

joined-end : (front : Code) → joined front end_code ≡ front
unfolding joined
joined-end end_code = refl
joined-end (then_code place kind front) = ap (then_code place kind) (joined-end front)

regroup : (front : Code) (instr : InstrTree) (r : Result ((Code × Ender) × At) ReadFault)
    → ((r >>= λ x. put_before instr.place instr.kind x.0 x.1) >>= after_front front) ≡ (r >>= after_front (front +> instr))
regroup front instr (Ok x) = ap (λ (c : Code). Ok ((c, x.0.1), x.1)) (sym (joined-more front instr x.0.0))
regroup front instr (Err f) = refl

pub shorter : (room : ℕ) (may_else : Bool) (a : At) (instr : InstrTree) (b : At)
    → item_at room may_else (block_at room) a ≡ Ok (one instr.place instr.kind, b) → length b.left < length a.left
shorter room may_else a instr b e = (item_takes room may_else (block_at room) (block_takes room) a (one instr.place instr.kind) b e).1

pub goes_on : (room : ℕ) (may_else : Bool) (front : Code) (a : At) (instr : InstrTree) (b : At)
    (total : Result ((Code × Ender) × At) ReadFault) → item_at room may_else (block_at room) a ≡ Ok (one instr.place instr.kind, b)
    → Ahead room may_else front a total
    → Ahead room may_else (front +> instr) b total
unfolding items_at reads
goes_on room may_else front a instr b total e (zero, less, h) = absurd (omega (arith, less))
goes_on room may_else front a instr b total e (suc k, less, h) = (
  k,
  omega (arith, less, shorter room may_else a instr b e),
  sym (regroup front instr (items_at room may_else (block_at room) k b))
      ∙ ap (λ (r : Result (Item × At) ReadFault). (r >>= λ x. after_item (items_at room may_else (block_at room) k) x.0 x.1) >>= after_front
      front) (sym e) ∙ h,
)

failed : (room : ℕ) (may_else : Bool) (front : Code) (a : At) (f : ReadFault) (total : Result ((Code × Ender) × At) ReadFault)
    → item_at room may_else (block_at room) a ≡ Err f → Ahead room may_else front a total → total ≡ Err f
unfolding items_at reads
failed room may_else front a f total e (zero, less, h) = absurd (omega (arith, less))
failed room may_else front a f total e (suc k, less, h) =
    sym h ∙ ap (λ (r : Result (Item × At) ReadFault). (r >>= λ x. after_item (items_at room may_else (block_at room) k) x.0 x.1) >>=
    after_front front) e

pub stops : (room : ℕ) (may_else : Bool) (front : Code) (a : At) (f : ReadFault) (total : Result ((Code × Ender) × At) ReadFault)
    → Fails f (item_at room may_else (block_at room) a) → Ahead room may_else front a total → Fails f total
stops room may_else front a Memory total e w = tt
stops room may_else front a _ total e w = failed room may_else front a _ total e w

pub is_done : (room : ℕ) (may_else : Bool) (front : Code) (a : At) (x : Ender) (b : At) (total : Result ((Code × Ender) × At) ReadFault)
    → item_at room may_else (block_at room) a ≡ Ok (closed x, b) → Ahead room may_else front a total → total ≡ Ok ((front, x), b)
unfolding items_at reads
is_done room may_else front a x b total e (zero, less, h) = absurd (omega (arith, less))
is_done room may_else front a x b total e (suc k, less, h) =
    sym h ∙ ap (λ (r : Result (Item × At) ReadFault). (r >>= λ x. after_item (items_at room may_else (block_at room) k) x.0 x.1) >>=
    after_front front) e ∙ ap (λ (c : Code). Ok ((c, x), b)) (joined-end front)

-- ---- one turn

abbrev by_head : ℕ → ℕ → Head × At → Result (Item × At) ReadFault
by_head room place h = item_of (block_at room) place h.0 h.1

item_is : (room : ℕ) (may_else : Bool) (a : At) (op : ℕ) (b : At) → byte_at a ≡ Ok (op, b)
    → item_at room may_else (block_at room) a ≡ ((head_of room may_else a.place op >>= λ h. Ok (h, b)) >>= by_head room a.place)
unfolding item_at reads checked
item_is room may_else a op b e =
    ap (λ (r : Result (ℕ × At) ReadFault). (r >>= λ x. head_of room may_else a.place x.0 >>= λ v. Ok (v, x.1)) >>= by_head room a.place) e

no_byte : (room : ℕ) (may_else : Bool) (a : At) (f : ReadFault) → byte_at a ≡ Err f → item_at room may_else (block_at room) a ≡ Err f
unfolding item_at reads checked
no_byte room may_else a f e =
    ap (λ (r : Result (ℕ × At) ReadFault). (r >>= λ x. head_of room may_else a.place x.0 >>= λ v. Ok (v, x.1)) >>= by_head room a.place) e

pub byte_fails : (room : ℕ) (may_else : Bool) (a : At) (f : ReadFault) → Fails f (byte_at a)
    → Fails f (item_at room may_else (block_at room) a)
byte_fails room may_else a Memory e = tt
byte_fails room may_else a _ e = no_byte room may_else a _ e

pub end_item : (room : ℕ) (may_else : Bool) (a : At) (op : ℕ) (b : At) → byte_at a ≡ Ok (op, b) → op ≡ 0x0B
    → item_at room may_else (block_at room) a ≡ Ok (closed (by_end a.place), b)
end_item room may_else a op b e is = item_is room may_else a op b e ∙ rw is refl

pub else_item : (room : ℕ) (may_else : Bool) (a : At) (op : ℕ) (b : At) → byte_at a ≡ Ok (op, b) → eqb op 0x05 && may_else ≡ true
    → item_at room may_else (block_at room) a ≡ Ok (closed (by_else a.place), b)
else_item room may_else a op b e is =
    let p = and_parts _ _ is in
    item_is room may_else a op b e ∙ rw (eqb-true op 0x05 p.0, p.1) refl

-- a block's opcode
pub record Opens (op : ℕ) (h : Head) : Type 0 where
  pub head : (room place : ℕ) (may_else : Bool) → head_of room may_else place op ≡ opened room place h
  pub as_item : (inner : Head → Reader Kind) (place : ℕ) (b : At) → item_of inner place h b ≡ reads (inner h) (as_one place) b

pub opens_block : Opens 0x02 a_block
opens_block = record { head = λ room place may_else. refl; as_item = λ inner place b. refl }

pub opens_loop : Opens 0x03 a_loop
opens_loop = record { head = λ room place may_else. refl; as_item = λ inner place b. refl }

pub opens_if : Opens 0x04 an_if
opens_if = record { head = λ room place may_else. refl; as_item = λ inner place b. refl }

pub no_room : (room : ℕ) (may_else : Bool) (a : At) (op : ℕ) (h : Head) (b : At) → byte_at a ≡ Ok (op, b) → Opens op h → room ≡ 0
    → item_at room may_else (block_at room) a ≡ Err (Limit a.place which.BlockDepth)
no_room room may_else a op h b e o z =
    item_is room may_else a op b e ∙ ap (λ (r : Result Head ReadFault). (r >>= λ h. Ok (h, b)) >>= by_head room a.place)
    (o.head room a.place may_else ∙ ap (λ (n : ℕ). opened n a.place h) z)

opens_in : (room place : ℕ) (h : Head) → 0 < room → opened room place h ≡ Ok h
opens_in zero place h less = absurd (omega (arith, less))
opens_in (suc room) place h less = refl

block_is : (room : ℕ) (h : Head) (b : At) → 0 < room → block_at room h b ≡ block_of (λ m. code_at (room - 1) m) h b
unfolding block_at
block_is zero h b less = absurd (omega (arith, less))
block_is (suc room) h b less = let is : suc room - 1 ≡ room = omega arith in ap (λ n. block_of (λ m. code_at n m) h b) (sym is)

pub block_item : (room : ℕ) (may_else : Bool) (a : At) (op : ℕ) (h : Head) (b : At) → byte_at a ≡ Ok (op, b) → Opens op h → 0 < room
    → item_at room may_else (block_at room) a ≡ (block_of (λ m. code_at (room - 1) m) h b >>= λ x. Ok (one a.place x.0, x.1))
unfolding reads
block_item room may_else a op h b e o less =
    item_is room may_else a op b e ∙ ap (λ (r : Result Head ReadFault). (r >>= λ h. Ok (h, b)) >>= by_head room a.place)
    (o.head room a.place may_else ∙ opens_in room a.place h less)
    ∙ o.as_item (block_at room) a.place b
    ∙ ap (λ (r : Result (Kind × At) ReadFault). r >>= λ x. Ok (one a.place x.0, x.1)) (block_is room h b less)

-- an opcode that opens a block, or none
abbrev some_head : Head → Option Head
some_head h = Some h

head_same : (g h : Head) → some_head g ≡ Some h → g ≡ h
head_same g h e = cc

no_head : (A : Type 0) (h : Head) → ◌≡◌ {A = Option Head} None (Some h) → A
no_head A h e = absurd cc

choose : {X : Type 0} (b : Bool) (g : Head) (more : Option Head) (h : Head) → cond b (Some g) more ≡ Some h → (b ≡ true → g ≡ h → X)
    → (more ≡ Some h → X) → X
choose true g more h e x y = x refl (head_same g h e)
choose false g more h e x y = y e

pub opens_as : (op : ℕ) (h : Head) → some_head h ≡ opener_head op → Opens op h
opens_as op h e =
    choose (eqb op 2) a_block _ h (sym e) (λ t s. subst (λ (n : ℕ). Opens n h) (sym (eqb-true op 2 t)) (subst (Opens 2) s opens_block))
    (λ e.
    choose (eqb op 3) a_loop _ h e (λ t s. subst (λ (n : ℕ). Opens n h) (sym (eqb-true op 3 t)) (subst (Opens 3) s opens_loop)) (λ e.
    choose (eqb op 4) an_if None h e (λ t s. subst (λ (n : ℕ). Opens n h) (sym (eqb-true op 4 t)) (subst (Opens 4) s opens_if))
    (λ e. no_head _ h e)))

pub record OpensNone (op : ℕ) : Type 0 where
  pub no_block : eqb op 2 ≡ false
  pub no_loop : eqb op 3 ≡ false
  pub no_if : eqb op 4 ≡ false

missed : {X : Type 0} (b : Bool) (g : Head) (more : Option Head) → cond b (Some g) more ≡ None → (b ≡ false → more ≡ None → X) → X
missed true g more e h = absurd cc
missed false g more e h = h refl e

pub opens_none : (op : ℕ) → None ≡ opener_head op → OpensNone op
opens_none op e =
    missed (eqb op 2) a_block _ (sym e)
    (λ x e. missed (eqb op 3) a_loop _ e (λ y e. missed (eqb op 4) an_if None e
    (λ z e. record { no_block = x; no_loop = y; no_if = z })))

-- any other opcode
unequal : (m n : ℕ) (b : Bool) → eqb m n ≡ b → (m ≡ n → ⊥) → b ≡ false
unequal m n true e h = absurd (h (eqb-true m n e))
unequal m n false e h = refl

no_form_item : (room place op : ℕ) (b : At) (t : Bool)
    → (((cond t (Err (Float place)) (Err (Malformed place cause.BadOpcode))) >>= λ (h : Head). Ok (h, b)) >>= by_head room place)
    ≡ Err (cond t (Float place) (Malformed place cause.BadOpcode))
no_form_item room place op b true = refl
no_form_item room place op b false = refl

form_item : (room place op : ℕ) (b : At) (o : Option Form)
    → ((formed place op o >>= λ h. Ok (h, b)) >>= by_head room place) ≡ (by_form place op o b >>= λ x. Ok (one place x.0, x.1))
unfolding reads
form_item room place op b (Some f) = refl
form_item room place op b None = no_form_item room place op b (is_float op)

pub plain_item : (room : ℕ) (may_else : Bool) (a : At) (op : ℕ) (b : At) → byte_at a ≡ Ok (op, b) → (op ≡ 0x0B → ⊥)
    → eqb op 0x05 && may_else ≡ false → OpensNone op
    → item_at room may_else (block_at room) a ≡ (plain_at a.place op b >>= λ x. Ok (one a.place x.0, x.1))
unfolding plain_at
plain_item room may_else a op b e n11 n5 n =
    item_is room may_else a op b e
    ∙ ap (λ (r : Result Head ReadFault). (r >>= λ h. Ok (h, b)) >>= by_head room a.place)
    (rw (unequal op 0x0B (eqb op 0x0B) refl n11, n5, n.no_block, n.no_loop, n.no_if) refl)
    ∙ form_item room a.place op b (form_in (row_of op))

-- an opcode that nothing stands behind closes nothing and opens nothing
no_row : (A : Type 0) (op n : ℕ) (f : Form) → form_in (row_of op) ≡ Some f → form_in (row_of n) ≡ None → op ≡ n → A
no_row A op n f is none same = absurd cc

apart : (op n : ℕ) (f : Form) → form_in (row_of op) ≡ Some f → form_in (row_of n) ≡ None → eqb op n ≡ false
apart op n f is none = unequal op n (eqb op n) refl (no_row _ op n f is none)

pub alone_item : (room : ℕ) (may_else : Bool) (a : At) (op : ℕ) (kind : Kind) (b : At) → byte_at a ≡ Ok (op, b)
    → form_in (row_of op) ≡ Some (nothing kind)
    → item_at room may_else (block_at room) a ≡ Ok (one a.place kind, b)
unfolding plain_at form_at
alone_item room may_else a op kind b e is =
    let no_else : eqb op 0x05 && may_else ≡ false = ap (λ (t : Bool). t && may_else) (apart op 0x05 (nothing kind) is refl) in
    plain_item room may_else a op b e (no_row _ op 0x0B (nothing kind) is refl) no_else (record {
      no_block = apart op 2 (nothing kind) is refl;
      no_loop = apart op 3 (nothing kind) is refl;
      no_if = apart op 4 (nothing kind) is refl;
    })
    ∙ ap (λ (o : Option Form). by_form a.place op o b >>= λ x. Ok (one a.place x.0, x.1)) is
