-- The fields behind an opcode that is no block's, by the table of instructions.
use Rattle.wasm_spelling.proofs.Common.{◌≡◌, ℕ, zero, suc, eqb, List, [], ◌∷◌, length, replicate, ℤ, Some, None, Ok, Option, sym, refl, ap}
use Rattle.wasm_spelling.proofs.Common.{◌∙◌, subst, eqb-true, length-replicate, AllByRecursion, all_flat, ◌&◌, form_in, form_of, Form}
use Rattle.wasm_spelling.proofs.Common.{a_mem_arg, a_sub_opcode, a_type, a_zero, an_i32, an_i64, an_index, labels, nothing, opcode_of}
use Rattle.wasm_spelling.proofs.Common.{prefixed, prefixed_of, row_of, rows, Block, Br, BrIf, BrTable, Call, CallIndirect, GlobalGet}
use Rattle.wasm_spelling.proofs.Common.{GlobalSet, I32Const, I64Const, If, Kind, Load, LocalGet, LocalSet, LocalTee, Loop, MemoryCopy}
use Rattle.wasm_spelling.proofs.Common.{MemoryFill, MemoryGrow, MemorySize, Store, At, Fields, byte, number, signed, each, immediates}
use Rattle.wasm_spelling.proofs.Common.{instr_fields, vector, checked, number_at, sub_opcode_in, sub_opcode_of, form_fields, index}
use Rattle.wasm_spelling.proofs.Common.{of_indexes, of_class, times, Prefixed, Row}
use Rattle.wasm_tree.specs.declared.code.MemArg.{MemArg}
use Rattle.w2c_base.specs.declared.value.ValType.TheVariants.{I32, I64}
use Rattle.wasm_tree.specs.InstructionTable.{groups, load_row, store_row, extend_row, compare_row, unary_row, binary_row, loads, stores}
use Rattle.wasm_tree.specs.InstructionTable.{extensions, comparisons, unaries, binaries}
use Rattle.wasm_spelling.specs.declared.fault.Cause.TheVariants as cause
use Rattle.wasm_spelling.specs.Table as table
use Rattle.wasm_spelling.specs.Reading.{exactly_at, times_at, vector_at, mem_arg_at, form_at}
use Rattle.wasm_spelling.proofs.Tools.{ok_is, some, some_is, none_some, ok_or_is, found, found_passes, reads_ok, checked_ok, checked_again}
use Rattle.wasm_spelling.proofs.Tools.{reads_again}
use Rattle.wasm_spelling.proofs.Took.{SpelledAt, Took, took_as, took_then}
use Rattle.wasm_spelling.proofs.Runs.{Follows, follows_row, follows_from}
use Rattle.wasm_spelling.proofs.Readings.{Reads, ReadsAs, ReadsMany, then_done, onto, next, made, entry, in_order, in_order_as}
use Rattle.wasm_spelling.proofs.Leaves.{number_spelling, index_reads, signed32_reads, signed64_reads, zero_reads, exactly_reads}
use Rattle.wasm_spelling.proofs.Vectors.{times_reads, vector_reads}

-- so many bytes 00
abbrev pub zero_bytes : ℕ → Fields → Fields
zero_bytes zero rest = rest
zero_bytes (suc n) rest = byte 0x00 (zero_bytes n rest)

-- ---- what stands behind an opcode of each form

abbrev pub Value : Form → Type 0
Value (nothing kind) = Unit {0}
Value (an_index make) = ℕ
Value (a_mem_arg make) = MemArg
Value (labels make) = List ℕ × ℕ
Value (a_type make) = ℕ
Value (a_zero kind) = Unit {0}
Value (an_i32 make) = ℤ
Value (an_i64 make) = ℤ
Value a_sub_opcode = (r : Prefixed) × (prefixed_of r.sub_opcode ≡ Some r)

abbrev pub made_by : (f : Form) → Value f → Kind
made_by (nothing kind) v = kind
made_by (an_index make) v = make v
made_by (a_mem_arg make) v = make v
made_by (labels make) v = make v.0 v.1
made_by (a_type make) v = make v
made_by (a_zero kind) v = kind
made_by (an_i32 make) v = make v
made_by (an_i64 make) v = make v
made_by a_sub_opcode v = v.0.kind

abbrev pub value_fields : (f : Form) → Value f → Fields → Fields
value_fields (nothing kind) v rest = rest
value_fields (an_index make) v rest = number v rest
value_fields (a_mem_arg make) v rest = number v.align (number v.offset rest)
value_fields (labels make) v rest = vector number v.0 (number v.1 rest)
value_fields (a_type make) v rest = number v (number 0 rest)
value_fields (a_zero kind) v rest = byte 0x00 rest
value_fields (an_i32 make) v rest = signed 32 v rest
value_fields (an_i64 make) v rest = signed 64 v rest
value_fields a_sub_opcode v rest = number v.0.sub_opcode (zero_bytes v.0.zeros rest)

-- ---- each row makes instructions that its opcode and its immediates spell

abbrev pub SpellsRow : ℕ → Form → Type 0
SpellsRow op f = (v : Value f) (room : ℕ) (rest : Fields) → instr_fields room (made_by f v) rest ≡ byte op (value_fields f v rest)

abbrev SpellsPrefixed : ℕ → Prefixed → Type 0
SpellsPrefixed op r = (room : ℕ) (rest : Fields) → instr_fields room r.kind rest ≡ byte op (number r.sub_opcode (zero_bytes r.zeros rest))

prefixed_spells : (op : ℕ) → AllByRecursion (SpellsPrefixed op) prefixed → SpellsRow op a_sub_opcode
prefixed_spells op all v =
    (found (SpellsPrefixed op) (λ (r : Prefixed). eqb r.sub_opcode v.0.sub_opcode) prefixed v.0 all v.1).1

abbrev RowSpells : Row → Type 0
RowSpells r = SpellsRow r.opcode r.form

all_spell : AllByRecursion RowSpells rows
all_spell = all_flat RowSpells (λ group. group) groups
    (((λ v room rest. refl) & (λ v room rest. refl) & (λ v room rest. refl) & (λ v room rest. refl) & (λ v room rest. refl) &
    (λ v room rest. refl) & (λ v room rest. refl) & (λ v room rest. refl) & (λ v room rest. refl) & (λ v room rest. refl) &
    (λ v room rest. refl) & (λ v room rest. refl) & (λ v room rest. refl) & (λ v room rest. refl) & (λ v room rest. refl) &
    (λ v room rest. refl) & (λ v room rest. refl) & (λ v room rest. refl) & (λ v room rest. refl) & (λ v room rest. refl) &
    (λ v room rest. refl) & (λ v room rest. refl) & prefixed_spells 0xFC ((λ room rest. refl) & (λ room rest. refl) & tt) & tt) &
    of_class RowSpells load_row (λ o v room rest. refl) loads & of_class RowSpells store_row (λ o v room rest. refl) stores &
    of_class RowSpells extend_row (λ o v room rest. refl) extensions &
    ((λ v room rest. refl) & of_class RowSpells (compare_row I32) (λ o v room rest. refl) comparisons) &
    ((λ v room rest. refl) & of_class RowSpells (compare_row I64) (λ o v room rest. refl) comparisons) &
    of_class RowSpells (unary_row I32) (λ o v room rest. refl) unaries &
    of_class RowSpells (unary_row I64) (λ o v room rest. refl) unaries &
    of_class RowSpells (binary_row I32) (λ o v room rest. refl) binaries &
    of_class RowSpells (binary_row I64) (λ o v room rest. refl) binaries & tt)

pub row_spells : (op : ℕ) (f : Form) → form_in (row_of op) ≡ Some f → SpellsRow op f
row_spells op f is = of_row (row_of op) refl is
  where
    of_row : (o : Option Row) → row_of op ≡ o → form_in o ≡ Some f → SpellsRow op f
    of_row None e is = none_some f is
    of_row (Some r) e is =
        let row = found RowSpells (λ (r : Row). eqb r.opcode op) rows r all_spell e in
        subst (λ n. SpellsRow n f) (eqb-true r.opcode op row.0) (subst (λ (x : Form). SpellsRow r.opcode x) (some_is r.form f is) row.1)

each_zero : (us : List (Unit {0})) (rest : Fields) → each (λ u. byte 0x00) us rest ≡ zero_bytes (length us) rest
each_zero [] rest = refl
each_zero (u ∷ us) rest = ap (byte 0x00) (each_zero us rest)

-- ---- what is read behind an opcode

-- the fields of an instruction are the opcode and what was read
abbrev pub Behind : ℕ → ℕ → Kind → At → At → Type 0
Behind room op kind a b = (X : Fields → Fields) × Took a X b × ((rest : Fields) → instr_fields room kind rest ≡ byte op (X rest))

index_vector_reads : Reads (vector_at of_indexes number_at) (vector number) (table.vector of_indexes ∷ [])
index_vector_reads = vector_reads of_indexes number_spelling index_reads

mem_arg_reads : Reads mem_arg_at (λ m rest. number m.align (number m.offset rest)) (index ∷ index ∷ [])
unfolding mem_arg_at
mem_arg_reads = in_order (next _ (λ m. m.align) index_reads (next _ (λ m. m.offset) index_reads (entry (λ x. refl) (λ m. refl))))

zeros_reads : ReadsMany (times_at (exactly_at 0x00 cause.ZeroByteExpected)) (each (λ u. byte 0x00))
    (λ n. times n (table.exactly 0x00 cause.ZeroByteExpected ∷ []))
zeros_reads = times_reads (exactly_reads 0x00 cause.ZeroByteExpected)

sub_opcode_takes : (a : At) (k : Kind) (b : At) → form_at a_sub_opcode a ≡ Ok (k, b)
    → (v : Value a_sub_opcode) × Took a (value_fields a_sub_opcode v) b × (v.0.kind ≡ k)
unfolding form_at
sub_opcode_takes a k b e =
    let x = reads_ok (checked number_at sub_opcode_of) _ a (k, b) e in
    let n = checked_ok number_at sub_opcode_of a x.0 x.1 x.2 in
    let us = reads_ok (times_at (exactly_at 0x00 cause.ZeroByteExpected) x.0.zeros) _ x.1 (k, b) x.3 in
    let t = zeros_reads.takes x.0.zeros x.1 us.0 us.1 us.2 in
    let is : prefixed_of n.0 ≡ Some x.0 = ok_or_is (prefixed_of n.0) _ x.0 n.2 in
    let same : x.0.sub_opcode ≡ n.0 =
    eqb-true x.0.sub_opcode n.0 (found_passes (λ (r : Prefixed). eqb r.sub_opcode n.0) prefixed x.0 is) in
    let made : (x.0.kind, us.1) ≡ (k, b) = ok_is (x.0.kind, us.1) (k, b) us.3 in
    let took : Took a (λ rest. number x.0.sub_opcode (zero_bytes x.0.zeros rest)) us.1 =
    took_as (λ rest. number x.0.sub_opcode (zero_bytes x.0.zeros rest)) a us.1
    (took_then a x.1 us.1 (number_spelling.takes a n.0 x.1 n.1) t.0)
    (λ fields s. subst (λ (f : Fields). SpelledAt f a)
    (ap (λ m. number m (each (λ u. byte 0x00) us.0 fields)) (sym same)
    ∙ ap (number x.0.sub_opcode) (each_zero us.0 fields ∙ ap (λ m. zero_bytes m fields) t.1)) s) in (
      (x.0, subst (λ (m : ℕ). prefixed_of m ≡ Some x.0) (sym same) is),
      subst (λ (c : At). Took a (λ rest. number x.0.sub_opcode (zero_bytes x.0.zeros rest)) c) (ap (λ (y : Kind × At). y.1) made) took,
      ap (λ (y : Kind × At). y.0) made,
    )

sub_opcode_again : (a : At) (v : Value a_sub_opcode) (rest : Fields) → SpelledAt (value_fields a_sub_opcode v rest) a
    → (b : At) × (form_at a_sub_opcode a ≡ Ok (v.0.kind, b)) × SpelledAt rest b
unfolding form_at
sub_opcode_again a (r, is) rest s =
    let n = number_spelling.again a r.sub_opcode (zero_bytes r.zeros rest) s in
    let us : List (Unit {0}) = replicate r.zeros tt in
    let many : length us ≡ r.zeros = length-replicate r.zeros tt in
    let t = zeros_reads.again r.zeros n.0 us rest many
    (subst (λ (fields : Fields). SpelledAt fields n.0) (sym (each_zero us rest ∙ ap (λ k. zero_bytes k rest) many)) n.2) in (
      t.0,
      reads_again (checked number_at sub_opcode_of) _ a r n.0 _ (checked_again number_at sub_opcode_of a r.sub_opcode r n.0 n.1
          (ap (λ (o : Option Prefixed). sub_opcode_in o a.place) is)) (reads_again _ _ n.0 us t.0 _ t.1 refl),
      t.2,
    )

sub_opcode_follows : Follows (form_fields a_sub_opcode) (form_at a_sub_opcode)
unfolding form_at table.row
sub_opcode_follows =
    follows_from (table.sub_opcode ∷ []) (λ r. times r.zeros (table.exactly 0x00 cause.ZeroByteExpected ∷ []))
    (checked number_at sub_opcode_of) _
    (follows_row table.sub_opcode (checked number_at sub_opcode_of) (λ r. times r.zeros (table.exactly 0x00 cause.ZeroByteExpected ∷ []))
    (λ a outer fields. refl))
    (λ r. then_done (times r.zeros (table.exactly 0x00 cause.ZeroByteExpected ∷ []))
    (times_at (exactly_at 0x00 cause.ZeroByteExpected) r.zeros) (λ us. r.kind) (zeros_reads.follows r.zeros))

form_reads : (f : Form) → ReadsAs (made_by f) (form_at f) (value_fields f) (form_fields f)
unfolding form_at
form_reads (nothing kind) = in_order_as (made (λ x. tt) (λ x. refl) (λ x. refl) (λ v. refl))
form_reads (an_index make) = onto make index_reads
form_reads (a_mem_arg make) = onto make mem_arg_reads
form_reads (labels make) =
    in_order_as (next _ (λ v. v.0) index_vector_reads (next _ (λ v. v.1) index_reads
    (made (λ x. (x.0.1, x.1)) (λ x. refl) (λ x. refl) (λ v. refl))))
form_reads (a_type make) =
    in_order_as (next _ (λ v. v) index_reads (next _ (λ v. tt) zero_reads (made (λ x. x.0.1) (λ x. refl) (λ x. refl) (λ v. refl))))
form_reads (a_zero kind) = onto (λ u. kind) (exactly_reads 0x00 cause.ZeroByteExpected)
form_reads (an_i32 make) = onto make signed32_reads
form_reads (an_i64 make) = onto make signed64_reads
form_reads a_sub_opcode = record { takes = sub_opcode_takes; again = sub_opcode_again; follows = sub_opcode_follows }

pub form_takes : (room op : ℕ) (f : Form) → SpellsRow op f → (a : At) (k : Kind) (b : At) → form_at f a ≡ Ok (k, b) → Behind room op k a b
form_takes room op f spells a k b e =
    let t = (form_reads f).takes a k b e in
    subst (λ (x : Kind). Behind room op x a b) t.2 (value_fields f t.0, t.1, spells t.0 room)

pub form_follows : (f : Form) → Follows (form_fields f) (form_at f)
form_follows f = (form_reads f).follows

-- ---- what is spelled behind an opcode is read

abbrev ReadAs : Form → Kind → (Fields → Fields) → Type 0
ReadAs f k X = (a : At) (rest : Fields) → SpelledAt (X rest) a → (b : At) × (form_at f a ≡ Ok (k, b)) × SpelledAt rest b

again_as : (f : Form) (v : Value f) → ReadAs f (made_by f v) (value_fields f v)
again_as f v a rest s = (form_reads f).again a v rest s

with_form : (k : Kind) (f g : Form) (X : Fields → Fields) → some f ≡ Some g → ReadAs f k X → ReadAs g k X
with_form k f g X e h = subst (λ (x : Form). ReadAs x k X) (some_is f g e) h

pub form_again : (k : Kind) (f : Form) → form_of k ≡ Some f → ReadAs f k (immediates k)
form_again (Br n) f e = with_form (Br n) _ f (immediates (Br n)) e (again_as (an_index Br) n)
form_again (BrIf n) f e = with_form (BrIf n) _ f (immediates (BrIf n)) e (again_as (an_index BrIf) n)
form_again (Call n) f e = with_form (Call n) _ f (immediates (Call n)) e (again_as (an_index Call) n)
form_again (LocalGet n) f e = with_form (LocalGet n) _ f (immediates (LocalGet n)) e (again_as (an_index LocalGet) n)
form_again (LocalSet n) f e = with_form (LocalSet n) _ f (immediates (LocalSet n)) e (again_as (an_index LocalSet) n)
form_again (LocalTee n) f e = with_form (LocalTee n) _ f (immediates (LocalTee n)) e (again_as (an_index LocalTee) n)
form_again (GlobalGet n) f e = with_form (GlobalGet n) _ f (immediates (GlobalGet n)) e (again_as (an_index GlobalGet) n)
form_again (GlobalSet n) f e = with_form (GlobalSet n) _ f (immediates (GlobalSet n)) e (again_as (an_index GlobalSet) n)
form_again (BrTable ls d) f e = with_form (BrTable ls d) _ f (immediates (BrTable ls d)) e (again_as (labels BrTable) (ls, d))
form_again (CallIndirect n) f e = with_form (CallIndirect n) _ f (immediates (CallIndirect n)) e (again_as (a_type CallIndirect) n)
form_again (Load op m) f e = with_form (Load op m) _ f (immediates (Load op m)) e (again_as (a_mem_arg (Load op)) m)
form_again (Store op m) f e = with_form (Store op m) _ f (immediates (Store op m)) e (again_as (a_mem_arg (Store op)) m)
form_again MemorySize f e = with_form MemorySize _ f (immediates MemorySize) e (again_as (a_zero MemorySize) tt)
form_again MemoryGrow f e = with_form MemoryGrow _ f (immediates MemoryGrow) e (again_as (a_zero MemoryGrow) tt)
form_again (I32Const n) f e = with_form (I32Const n) _ f (immediates (I32Const n)) e (again_as (an_i32 I32Const) n)
form_again (I64Const n) f e = with_form (I64Const n) _ f (immediates (I64Const n)) e (again_as (an_i64 I64Const) n)
form_again MemoryCopy f e =
    with_form MemoryCopy _ f (immediates MemoryCopy) e
    (again_as a_sub_opcode (record { sub_opcode = 10; kind = MemoryCopy; zeros = 2 }, refl))
form_again MemoryFill f e =
    with_form MemoryFill _ f (immediates MemoryFill) e
    (again_as a_sub_opcode (record { sub_opcode = 11; kind = MemoryFill; zeros = 1 }, refl))
form_again (Block r c e) f h = none_some f h
form_again (Loop r c e) f h = none_some f h
form_again (If r c o e) f h = none_some f h
form_again k f e = with_form k _ f (immediates k) e (again_as (nothing k) tt)

pub plain_fields : (room : ℕ) (k : Kind) (f : Form) (rest : Fields) → form_of k ≡ Some f
    → instr_fields room k rest ≡ byte (opcode_of k) (immediates k rest)
plain_fields room (Block r c e) f rest h = none_some f h
plain_fields room (Loop r c e) f rest h = none_some f h
plain_fields room (If r c o e) f rest h = none_some f h
plain_fields room k f rest e = refl
