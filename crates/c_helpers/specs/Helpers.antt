-- The helpers as trees (C11, 6.9.1 function definitions).
use Rattle.std.specs.Prelude.{ℕ, ◌*◌, ◌==◌, Bool, true, if◌then◌else◌, List, [], ◌∷◌, ◌++◌, map, codes, Some}
use Rattle.w2c_base.specs.declared.value.ValType.{ValType}
use Rattle.w2c_base.specs.declared.value.ValType.TheVariants.{I32, I64}
use Rattle.wasm_tree.specs.declared.operators.Access.{Access}
use Rattle.wasm_tree.specs.declared.operators.LoadOp.{LoadOp}
use Rattle.wasm_tree.specs.declared.operators.StoreOp.{StoreOp}
use Rattle.wasm_tree.specs.Accesses.{load_access, store_access}
use Rattle.c_tree.specs.declared.tree.CType.{CType}
use Rattle.c_tree.specs.declared.tree.CType.TheVariants as type
use Rattle.c_tree.specs.Tree as tree
use Rattle.c_tree.specs.Makers.{zero_number}
use Rattle.c_tree.specs.TypesInC.{c_type_of}
use Rattle.c_helpers.specs.declared.operation.Helper.{Helper}
use Rattle.c_helpers.specs.declared.operation.Helper.TheVariants as helper
use Rattle.c_helpers.specs.declared.operation.Form.{Form}
use Rattle.c_helpers.specs.declared.operation.Form.TheVariants.{DivS, DivU, RemS, RemU, ShrS, Rotl, Rotr, Clz, Ctz, Popcnt, LtS, GtS, LeS}
use Rattle.c_helpers.specs.declared.operation.Form.TheVariants.{GeS, ExtendS, Extend8S, Extend16S, Extend32S}
use Rattle.c_helpers.specs.declared.operation.Row.{Row}
use Rattle.c_helpers.specs.declared.piece.Piece.{Piece}
use Rattle.c_helpers.specs.declared.number_tables.TheConstants.{LT_S, GT_S, LE_S, GE_S, DIV_U, REM_U, DIV_S, REM_S, SHR_S, ROTL, ROTR}
use Rattle.c_helpers.specs.declared.number_tables.TheConstants.{CLZ_STAGE, CTZ_STAGE, COUNT_END, POPCNT_STAGE, POPCNT_END, EXTEND_S}
use Rattle.c_helpers.specs.declared.number_tables.TheConstants.{EXTEND_LOW_S}
use Rattle.c_helpers.specs.declared.object_tables.TheConstants.{ACCESS, LOAD, LOAD_S, STORE, SIZE, ELEMENT, COPY, FILL}
use Rattle.c_helpers.specs.Rows.{row_of, prefix_of, form_name, load_name, store_name}
use Rattle.c_helpers.specs.Pieces.{letter, nothing_made, all_placed, staged}

-- a parameter or a local variable: its type, and its name of one letter
abbrev pub Variable : Type 0
Variable = CType × ℕ

abbrev pub param : Variable → tree.Param
param v = (v.0, Some (letter v.1))

abbrev pub local : Variable → tree.Local
local v = (v.0, letter v.1, zero_number v.0)

abbrev pub static_function : List ℕ → CType → List Variable → List Variable → List tree.Stmt → tree.Func
static_function name result params locals stmts = record {
  is_static = true;
  result = result;
  name = name;
  params = map param params;
  body = Some (record { locals = map local locals; stmts = stmts });
}

-- variables of one type
abbrev pub all_of : CType → List ℕ → List Variable
all_of t names = map (λ c. (t, c)) names

-- ---- operators on numbers

abbrev pub operand_type : Row → CType
operand_type r = elim r.form [ ExtendS ↦ type.U32 | _ ↦ c_type_of r.ty ]

abbrev pub operand_names : Form → List ℕ
operand_names Clz = codes "x"
operand_names Ctz = codes "x"
operand_names Popcnt = codes "x"
operand_names ExtendS = codes "x"
operand_names Extend8S = codes "x"
operand_names Extend16S = codes "x"
operand_names Extend32S = codes "x"
operand_names _ = codes "xy"

abbrev pub local_names : Form → List ℕ
local_names Clz = codes "nt"
local_names Ctz = codes "n"
local_names _ = []

abbrev pub result_type : Row → CType
result_type r = elim r.form [ LtS ↦ type.U32 | GtS ↦ type.U32 | LeS ↦ type.U32 | GeS ↦ type.U32 | _ ↦ c_type_of r.ty ]

-- the sizes of the stages, in order
abbrev pub falling_sizes : ValType → List ℕ
falling_sizes I32 = 16 ∷ 8 ∷ 4 ∷ 2 ∷ 1 ∷ []
falling_sizes I64 = 32 ∷ 16 ∷ 8 ∷ 4 ∷ 2 ∷ 1 ∷ []

abbrev pub sizes_of : Row → List ℕ
sizes_of r = elim r.form [ Clz ↦ falling_sizes r.ty | Ctz ↦ falling_sizes r.ty | Popcnt ↦ 1 ∷ 2 ∷ 4 ∷ [] | _ ↦ [] ]

-- the pieces of a stage, and those behind the stages
abbrev pub stage_of : Form → List Piece
stage_of Clz = CLZ_STAGE
stage_of Ctz = CTZ_STAGE
stage_of Popcnt = POPCNT_STAGE
stage_of _ = []

abbrev pub end_of : Form → List Piece
end_of DivS = DIV_S
end_of DivU = DIV_U
end_of RemS = REM_S
end_of RemU = REM_U
end_of ShrS = SHR_S
end_of Rotl = ROTL
end_of Rotr = ROTR
end_of Clz = COUNT_END
end_of Ctz = COUNT_END
end_of Popcnt = POPCNT_END
end_of LtS = LT_S
end_of GtS = GT_S
end_of LeS = LE_S
end_of GeS = GE_S
end_of ExtendS = EXTEND_S
end_of Extend8S = EXTEND_LOW_S
end_of Extend16S = EXTEND_LOW_S
end_of Extend32S = EXTEND_LOW_S

-- how many bits what stands behind the stages is about: as many as are extended, or those of a byte
abbrev pub end_size : Form → ℕ
end_size Popcnt = 8
end_size Extend8S = 8
end_size Extend16S = 16
end_size _ = 32

-- the stages, and what stands behind them
abbrev pub number_stmts : Row → List tree.Stmt
number_stmts r = (all_placed r.ty (end_size r.form) (staged r.ty (sizes_of r) nothing_made (stage_of r.form)) (end_of r.form)).stmts

abbrev pub number_helper : Row → tree.Func
number_helper r = static_function
    (prefix_of r.ty ++ form_name r.form)
    (result_type r)
    (all_of (operand_type r) (operand_names r.form))
    (all_of (c_type_of r.ty) (local_names r.form))
    (number_stmts r)

-- ---- loads and stores: a memory, a base and an offset

abbrev pub address_params : List Variable
address_params = (type.PtrMem, 109) ∷ (type.U32, 98) ∷ (type.U32, 111) ∷ []

abbrev pub address_locals : List Variable
address_locals = (type.U64, 97) ∷ (type.U64, 110) ∷ []

-- what the runtime reads: fewer than 8 bytes are a u32
abbrev pub read_type : ℕ → CType
read_type width = if width == 8 then type.U64 else type.U32

abbrev pub access_stmts : Access → List Piece → List tree.Stmt
access_stmts a pieces = (all_placed a.ty (8 * a.width) (all_placed a.ty (8 * a.width) nothing_made ACCESS) pieces).stmts

abbrev pub load_pieces : Bool → List Piece
load_pieces is_signed = if is_signed then LOAD_S else LOAD

abbrev pub load_helper : LoadOp → tree.Func
load_helper op = static_function
    (load_name op)
    (c_type_of (load_access op).ty)
    address_params
    (address_locals ++ (read_type (load_access op).width, 118) ∷ [])
    (access_stmts (load_access op) (load_pieces (load_access op).is_signed))

abbrev pub store_helper : StoreOp → tree.Func
store_helper op = static_function
    (store_name op)
    type.Void
    (address_params ++ (c_type_of (store_access op).ty, 118) ∷ [])
    address_locals
    (access_stmts (store_access op) STORE)

-- ---- the size of a memory, and the element of a table with an index and a signature number

-- a body about accesses of so many bits
abbrev pub object_stmts : ℕ → List Piece → List tree.Stmt
object_stmts size pieces = (all_placed I32 size nothing_made pieces).stmts

abbrev pub size_helper : tree.Func
size_helper = static_function
    (codes "size_of_memory")
    type.U32
    ((type.PtrMem, 109) ∷ [])
    ((type.U64, 110) ∷ [])
    (object_stmts 32 SIZE)

abbrev pub element_helper : tree.Func
element_helper = static_function
    (codes "table_element")
    type.FnPtr
    ((type.PtrTab, 116) ∷ (type.U32, 105) ∷ (type.U64, 115) ∷ [])
    ((type.U64, 107) ∷ (type.U64, 110) ∷ (type.U64, 103) ∷ (type.FnPtr, 102) ∷ [])
    (object_stmts 32 ELEMENT)

-- ---- bytes copied and filled: a memory, where they are written, where they are read or what is written, and how many

abbrev pub bytes_params : ℕ → ℕ → List Variable
bytes_params first second = (type.PtrMem, 109) ∷ (type.U32, first) ∷ (type.U32, second) ∷ (type.U32, 110) ∷ []

abbrev pub copy_helper : tree.Func
copy_helper = static_function
    (codes "copy_memory")
    type.Void
    (bytes_params 100 115)
    (all_of type.U64 (codes "abkl") ++ (type.U32, 118) ∷ [])
    (object_stmts 8 COPY)

abbrev pub fill_helper : tree.Func
fill_helper = static_function
    (codes "fill_memory")
    type.Void
    (bytes_params 100 118)
    (all_of type.U64 (codes "akl"))
    (object_stmts 8 FILL)

abbrev pub helper_of : Helper → tree.Func
helper_of (helper.Num op) = number_helper (row_of op)
helper_of (helper.Load op) = load_helper op
helper_of (helper.Store op) = store_helper op
helper_of helper.Size = size_helper
helper_of helper.Element = element_helper
helper_of helper.Copy = copy_helper
helper_of helper.Fill = fill_helper
