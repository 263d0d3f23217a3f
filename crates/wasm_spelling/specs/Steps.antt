-- Reading one field at a place of a window, with its first fault. A number's own fault comes before a fault of
-- its value (WebAssembly Core 1.0, 5.2 to 5.4; Core 2.0, 5.4.6 and 5.5.15).
use Rattle.std.specs.Prelude.{ℕ, zero, suc, ℤ, ◌+◌, List, [], ◌∷◌, length, take, drop, find, Bool, true, false, ◌||◌, ◌&&◌, not, Option}
use Rattle.std.specs.Prelude.{Some, None, ok_or, Result, Ok, Err, nat_lt, nat_le, ◌==◌, if◌then◌else◌}
use Rattle.std.specs.Str.{is_utf8}
use Rattle.leb_bytes.specs.declared.fault.LebFault.{LebFault}
use Rattle.leb_bytes.specs.declared.fault.LebFault.TheVariants as leb
use Rattle.leb_bytes.specs.Computed.{s32_of, s64_of, u32_of}
use Rattle.w2c_base.specs.declared.value.ValType.{ValType}
use Rattle.w2c_base.specs.declared.value.ValType.TheVariants.{I32, I64}
use Rattle.wasm_tree.specs.declared.entries.ExportKind.{ExportKind}
use Rattle.wasm_tree.specs.declared.entries.ExportKind.TheVariants as kind
use Rattle.wasm_tree.specs.InstructionTable.{Form, row_of, Prefixed, prefixed_of}
use Rattle.wasm_tree.specs.Forms.{form_in}
use Rattle.wasm_tree.specs.Limits.{most_locals, most_all_locals}
use Rattle.wasm_spelling.specs.declared.fault.ReadFault.{ReadFault}
use Rattle.wasm_spelling.specs.declared.fault.ReadFault.TheVariants.{Malformed, Float, Limit}
use Rattle.wasm_spelling.specs.declared.fault.Cause.{Cause}
use Rattle.wasm_spelling.specs.declared.fault.Cause.TheVariants as cause
use Rattle.wasm_spelling.specs.declared.fault.Which.{Which}
use Rattle.wasm_spelling.specs.declared.fault.Which.TheVariants as which
use Rattle.wasm_spelling.specs.At.{At, Counts}
use Rattle.wasm_spelling.specs.ModuleFields.{Part, parts, id_of, rank_of, type_code, block_type_code, export_code}

infixl 10 ◌>>=◌
abbrev pub ◌>>=◌ : {A B : Type 0} → Result A ReadFault → (A → Result B ReadFault) → Result B ReadFault
(Ok x) >>= f = f x
(Err e) >>= f = Err e

abbrev pub malformed : {A : Type 0} → ℕ → Cause → Result A ReadFault
malformed place c = Err (Malformed place c)

abbrev pub Reader : Type 0 → Type 0
Reader A = At → Result (A × At) ReadFault

abbrev pub done : {A : Type 0} → A → Reader A
done v a = Ok (v, a)

unfoldable pub reads : {A B : Type 0} → Reader A → (A → Reader B) → Reader B
reads read more a = read a >>= λ x. more x.0 x.1

-- a field whose value is looked at, with the field's place
unfoldable pub checked : {A B : Type 0} → Reader A → (ℕ → A → Result B ReadFault) → Reader B
checked read look a = read a >>= λ x. look a.place x.0 >>= λ v. Ok (v, x.1)

abbrev pub moved : ℕ → At → At
moved n a = record { place = a.place + n; left = drop n a.left; counts = a.counts }

-- ---- bytes and numbers

abbrev pub byte_of : ℕ → List ℕ → Counts → Result (ℕ × At) ReadFault
byte_of place [] counts = malformed place cause.UnexpectedEnd
byte_of place (b ∷ left) counts = Ok (b, record { place = place + 1; left = left; counts = counts })

abbrev pub byte_at : Reader ℕ
byte_at a = byte_of a.place a.left a.counts

abbrev pub cause_of : LebFault → Cause
cause_of leb.Ends = cause.UnexpectedEnd
cause_of leb.TooLong = cause.IntegerTooLong
cause_of leb.Unused = cause.UnusedBits

abbrev pub number_of : {N : Type 0} → At → Result (N × ℕ) LebFault → Result (N × At) ReadFault
number_of a (Ok x) = Ok (x.0, moved x.1 a)
number_of a (Err f) = malformed a.place (cause_of f)

unfoldable pub number_at : Reader ℕ
number_at a = number_of a (u32_of a.left)

unfoldable pub signed32_at : Reader ℤ
signed32_at a = number_of a (s32_of a.left)

unfoldable pub signed64_at : Reader ℤ
signed64_at a = number_of a (s64_of a.left)

unfoldable pub bytes_at : ℕ → Reader (List ℕ)
bytes_at n a = if nat_lt (length a.left) n then malformed a.place cause.UnexpectedEnd else Ok (take n a.left, moved n a)

-- all bytes of the window
abbrev pub rest_at : Reader (List ℕ)
rest_at a = Ok (a.left, record { place = a.place + length a.left; left = []; counts = a.counts })

-- ---- what a field's value is, or its fault

abbrev pub exactly : ℕ → Cause → ℕ → ℕ → Result (Unit {0}) ReadFault
exactly wanted c place b = if b == wanted then Ok tt else malformed place c

abbrev pub within : ℕ → Which → ℕ → ℕ → Result ℕ ReadFault
within most w place n = if nat_le n most then Ok n else Err (Limit place w)

abbrev pub utf8_of : ℕ → List ℕ → Result (List ℕ) ReadFault
utf8_of place t = if is_utf8 t then Ok t else malformed place cause.BadUTF8

-- of these values the one that has this code, or a fault
abbrev pub by_code : {A : Type 0} → (A → ℕ) → List A → ReadFault → ℕ → Result A ReadFault
by_code code values fault b = ok_or (find (λ v. b == code v) values) fault

-- a byte that is no type's code: a floating-point type's, or none at all
abbrev pub no_type : ℕ → ℕ → ReadFault
no_type place b = if (b == 0x7C) || (b == 0x7D) then Float place else Malformed place cause.BadTypeCode

abbrev pub type_of : ℕ → ℕ → Result ValType ReadFault
type_of place b = by_code type_code (I32 ∷ I64 ∷ []) (no_type place b) b

abbrev pub block_type_of : ℕ → ℕ → Result (Option ValType) ReadFault
block_type_of place b = by_code block_type_code (None ∷ Some I32 ∷ Some I64 ∷ []) (no_type place b) b

abbrev pub flag_of : Cause → ℕ → ℕ → Result Bool ReadFault
flag_of c place b = if b == 0x00 then Ok false else if b == 0x01 then Ok true else malformed place c

abbrev pub kind_of : ℕ → ℕ → Result ExportKind ReadFault
kind_of place b = by_code export_code (kind.Func ∷ kind.Table ∷ kind.Memory ∷ kind.Global ∷ []) (Malformed place cause.BadKind) b

abbrev pub zero_of : ℕ → ℕ → Result (Unit {0}) ReadFault
zero_of place n = if n == 0 then Ok tt else malformed place cause.ZeroByteExpected

-- ---- opcodes (5.4)

-- the instruction of a sub-opcode
abbrev pub sub_opcode_in : Option Prefixed → ℕ → Result Prefixed ReadFault
sub_opcode_in row place = ok_or row (Malformed place cause.BadOpcode)

abbrev pub sub_opcode_of : ℕ → ℕ → Result Prefixed ReadFault
sub_opcode_of place n = sub_opcode_in (prefixed_of n) place

abbrev pub among : ℕ → ℕ → ℕ → Bool
among low high b = nat_le low b && nat_le b high

-- floating-point instructions
abbrev pub is_float : ℕ → Bool
is_float b =
    among 0x2A 0x2B b
    || (among 0x38 0x39 b || (among 0x43 0x44 b
    || (among 0x5B 0x66 b || (among 0x8B 0xA6 b || (among 0xA8 0xAB b || among 0xAE 0xBF b)))))

-- what an opcode begins
pub data Head : Type 0 where
  the_end the_else a_block a_loop an_if : Head
  a_form : Form → Head

-- a block is opened, where so many may still be
abbrev pub opened : ℕ → ℕ → Head → Result Head ReadFault
opened zero place h = Err (Limit place which.BlockDepth)
opened (suc room) place h = Ok h

abbrev pub formed : ℕ → ℕ → Option Form → Result Head ReadFault
formed place b (Some f) = Ok (a_form f)
formed place b None = if is_float b then Err (Float place) else malformed place cause.BadOpcode

-- `may_else` says that an `else` may stand here
abbrev pub head_of : ℕ → Bool → ℕ → ℕ → Result Head ReadFault
head_of room may_else place b =
    if b == 0x0B then Ok the_end
    else if (b == 0x05) && may_else then Ok the_else
    else if b == 0x02 then opened room place a_block
    else if b == 0x03 then opened room place a_loop
    else if b == 0x04 then opened room place an_if
    else formed place b (form_in (row_of b))

-- ---- counts

-- of the function section
abbrev pub functions_counted : ℕ × At → Result (ℕ × At) ReadFault
functions_counted x = Ok (x.0, record x.1 { counts = record x.1.counts { functions = x.0 } })

abbrev pub no_locals : ℕ × At → Result (ℕ × At) ReadFault
no_locals x = Ok (x.0, record x.1 { counts = record x.1.counts { locals = 0 } })

abbrev pub locals_counted : ℕ → Counts → Counts
locals_counted n c = record c { locals = c.locals + n; all_locals = c.all_locals + n }

-- so many more locals, whose count stands at a place
abbrev pub more_locals : ℕ → ℕ × At → Result (ℕ × At) ReadFault
more_locals place x =
    if nat_le (x.1.counts.locals + x.0) most_locals
    then (if nat_le (x.1.counts.all_locals + x.0) most_all_locals
    then Ok (x.0, record x.1 { counts = locals_counted x.0 x.1.counts }) else Err (Limit place which.AllLocals))
    else Err (Limit place which.Locals)

abbrev pub run_count_at : Reader ℕ
run_count_at a = number_at a >>= more_locals a.place

-- of bodies: as many as function entries
abbrev pub bodies_counted : ℕ → ℕ × At → Result (ℕ × At) ReadFault
bodies_counted place x =
    if x.0 == x.1.counts.functions then Ok (x.0, record x.1 { counts = record x.1.counts { code_read = true } })
    else malformed place cause.CountDiffers

abbrev pub body_count_at : Reader ℕ
body_count_at a = number_at a >>= bodies_counted a.place

-- what the data count section says
abbrev pub data_counted : ℕ × At → Result (ℕ × At) ReadFault
data_counted x = Ok (x.0, record x.1 { counts = record x.1.counts { data_count = Some x.0 } })

abbrev pub data_count_at : Reader ℕ
data_count_at a = number_at a >>= data_counted

-- there is no such section, or it says this number
abbrev pub agrees_with : Option ℕ → ℕ → Bool
agrees_with None n = true
agrees_with (Some count) n = n == count

-- of data segments: as many as the data count section says
abbrev pub segments_counted : ℕ → ℕ × At → Result (ℕ × At) ReadFault
segments_counted place x =
    if agrees_with x.1.counts.data_count x.0
    then Ok (x.0, record x.1 { counts = record x.1.counts { data_read = true } }) else malformed place cause.CountDiffers

abbrev pub segment_count_at : Reader ℕ
segment_count_at a = number_at a >>= segments_counted a.place

-- ---- section ids (5.5.2)

-- a custom section, or another one
pub data SectionId : Type 0 where
  no_section : SectionId
  a_custom : SectionId
  a_part : Part → SectionId

abbrev pub part_of : ℕ → Option Part
part_of id = find (λ part. id == id_of part) parts

-- no function lacks its body
abbrev pub bodies_done : Counts → Bool
bodies_done c = c.code_read || (c.functions == 0)

-- the data section was read where there must be one
abbrev pub data_done : Counts → Bool
data_done c = c.data_read || agrees_with c.data_count 0

abbrev pub section_begins : ℕ → ℕ → List ℕ → Counts → Option Part → Result (SectionId × At) ReadFault
section_begins place id left c None =
    if id == 0 then Ok (a_custom, record { place = place + 1; left = left; counts = c }) else malformed place cause.BadSectionId
section_begins place id left c (Some part) =
    if nat_lt c.last_rank (rank_of part)
    then (if not (id == 11) || bodies_done c
    then Ok (a_part part, record { place = place + 1; left = left; counts = record c { last_rank = rank_of part } })
    else malformed place cause.CountDiffers)
    else malformed place cause.SectionOrder

-- the id of a section, or the end of the file
abbrev pub section_id_of : ℕ → List ℕ → Counts → Result (SectionId × At) ReadFault
section_id_of place [] c =
    if bodies_done c && data_done c then Ok (no_section, record { place = place; left = []; counts = c })
    else malformed place cause.CountDiffers
section_id_of place (id ∷ left) c = section_begins place id left c (part_of id)

abbrev pub section_id_at : Reader SectionId
section_id_at a = section_id_of a.place a.left a.counts
