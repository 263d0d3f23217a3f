-- The init function of a module's unit (WebAssembly Core 1.0, 4.5.4 instantiation): for each task of the
-- instantiation a statement at least, in the order of the tasks. A test that fails goes to a trap at the
-- end, where no object is changed. In the unit of a large module static functions make the globals, test the bounds and write
-- the segments, each for a hundred entries at most, and the init function calls them in order.
use Rattle.std.specs.Prelude.{ℕ, zero, suc, nat_lt, ◌+◌, ◌*◌, ◌/◌, not, ◌||◌, Bool, true, false, if◌then◌else◌, List, [], ◌∷◌, ◌++◌}
use Rattle.std.specs.Prelude.{map, filter, flat_map, length, take, drop, codes, decimal, is_some, Option, Some, None, unwrap_or}
use Rattle.std.specs.List.{list_any, range_with_len}
use Rattle.w2c_base.specs.declared.signature.FuncType.{FuncType}
use Rattle.w2c_base.specs.declared.trap.TrapKind.TheVariants as trap
use Rattle.w2c_base.specs.Lookup.{numbered}
use Rattle.w2c_base.specs.Signature.{sig_number_of}
use Rattle.w2c_base.specs.Values.{pattern_of}
use Rattle.w2c_mangle.specs.Symbols.{init_symbol_of}
use Rattle.wasm_tree.specs.Instructions.{Code, end_code, then_code, I32Const, I64Const, GlobalGet}
use Rattle.wasm_tree.specs.declared.tree.Module.{Module}
use Rattle.wasm_tree.specs.declared.entries.Import.{Import}
use Rattle.wasm_tree.specs.declared.entries.Limits.{Limits}
use Rattle.wasm_tree.specs.declared.entries.GlobalEntry.{GlobalEntry}
use Rattle.wasm_tree.specs.declared.entries.ElementEntry.{ElementEntry}
use Rattle.wasm_tree.specs.declared.entries.FuncRef.{FuncRef}
use Rattle.wasm_tree.specs.declared.entries.SegmentEntry.{SegmentEntry}
use Rattle.wasm_tree.specs.declared.entries.Start.{Start}
use Rattle.wasm_tree.specs.declared.entries.ImportKind.TheVariants.{Func as ImportFunc, Table as ImportTable, Memory as ImportMemory}
use Rattle.wasm_tree.specs.declared.entries.ImportKind.TheVariants.{Global as ImportGlobal}
use Rattle.wasm_tree.specs.IndexSpaces.{func_type_in, is_func_import, is_global_import, imported_globals}
use Rattle.wasm_tree.specs.NamedModule.{NamedModule}
use Rattle.c_tree.specs.declared.tree.CType.TheVariants as c_type
use Rattle.c_tree.specs.declared.tree.Num.TheVariants.{N32, N64}
use Rattle.c_tree.specs.declared.tree.COp.TheVariants as op
use Rattle.c_tree.specs.Tree as tree
use Rattle.c_tree.specs.Scope.{Name}
use Rattle.c_tree.specs.Makers as makers
use Rattle.c_tree.specs.DefinedNames.{memory_name, table_name, global_name, pointer_name, label_name, part_name}
use Rattle.c_symbols.specs.Symbols.{import_symbol, is_usable}
use Rattle.c_symbols.specs.Objects.{function_name, callee, memory_arg, table_arg, global_value}

-- ---- names: the labels of both traps, those of the loops over segments from 2 on, the local variables,
-- and the bytes of a segment by its number

abbrev pub limits_label : ℕ
limits_label = 0

abbrev pub bounds_label : ℕ
bounds_label = 1

abbrev pub loop_label : ℕ → ℕ
loop_label segment = segment + 2

-- a length or a maximum
abbrev pub size_name : Name
size_name = codes "n"

-- the number of the next byte of a segment
abbrev pub byte_name : Name
byte_name = codes "k"

abbrev pub data_name : ℕ → Name
data_name segment = codes "d" ++ decimal segment

-- ---- parts of statements

abbrev pub n32 : ℕ → tree.Expr
n32 n = tree.Number (N32 n)

abbrev pub n64 : ℕ → tree.Expr
n64 n = tree.Number (N64 n)

abbrev pub primitive : Option Name → List ℕ → List tree.Arg → tree.Stmt
primitive target name args = tree.Call target (tree.Called name) args

abbrev pub set : Name → tree.Expr → tree.Stmt
set name e = tree.Set name (tree.Value e)

-- 2 to the power of 32 is no maximum
abbrev pub max_number : Option ℕ → ℕ
max_number max = unwrap_or max 4294967296

-- an initial or offset expression of a valid module: a constant, or the value of a global
abbrev pub constant_expr : Module → Code → tree.Expr
constant_expr m (then_code place (I32Const z) end_code) = n32 (pattern_of 32 z)
constant_expr m (then_code place (I64Const z) end_code) = n64 (pattern_of 64 z)
constant_expr m (then_code place (GlobalGet index) end_code) = global_value m index
constant_expr m _ = n32 0

-- the place of something in a segment, as a u64
abbrev pub place_expr : Module → Code → tree.Expr → tree.Expr
place_expr m offset number = tree.Op op.Add (tree.To64 (constant_expr m offset)) number

-- ---- imports: the pointer is set, and then a table's or a memory's limits are tested

-- an import that may not be used comes in no linked set
abbrev pub set_pointer : NamedModule → Import → Name → tree.Stmt
set_pointer m i object =
    if is_usable m i then tree.Call (Some (pointer_name object)) (tree.Called (import_symbol i)) [] else tree.Null

-- the maximum is there and not greater
abbrev pub test_max : Name → List ℕ → Option ℕ → List tree.Stmt
test_max object max_of None = []
test_max object max_of (Some max) =
    primitive (Some size_name) max_of (tree.Value (tree.Name (pointer_name object)) ∷ [])
    ∷ tree.If op.Gt (tree.Name size_name) (n64 max) (label_name limits_label)
    ∷ []

-- the size, in units of so many, is at least the minimum; of 0 there is nothing to test
abbrev pub test_min : Name → List ℕ → ℕ → ℕ → List tree.Stmt
test_min object len_of unit zero = []
test_min object len_of unit (suc min) =
    primitive (Some size_name) len_of (tree.Value (tree.Name (pointer_name object)) ∷ [])
    ∷ tree.If op.Lt (tree.Op op.Div (tree.Name size_name) (n64 unit)) (n64 (suc min)) (label_name limits_label)
    ∷ []

abbrev pub test_limits : Name → List ℕ → List ℕ → ℕ → Limits → List tree.Stmt
test_limits object len_of max_of unit limits = test_min object len_of unit limits.min ++ test_max object max_of limits.max

-- an import, with its number among the imported globals
abbrev pub take_stmts : NamedModule → ℕ → Import → List tree.Stmt
take_stmts m number i = elim i.kind [
  | ImportFunc t ↦ []
  | ImportTable limits ↦ set_pointer m i table_name ∷ test_limits table_name (codes "w2c_tab_len") (codes "w2c_tab_max") 1 limits
  | ImportMemory limits ↦ set_pointer m i memory_name ∷ test_limits memory_name (codes "w2c_mem_len") (codes "w2c_mem_max") 65536 limits
  | ImportGlobal t mutable ↦ set_pointer m i (global_name number) ∷ []
]

-- imports in order, with so many imported globals before them
abbrev pub takes_from : NamedModule → ℕ → List Import → List tree.Stmt
takes_from m number [] = []
takes_from m number (i ∷ imports) = take_stmts m number i ++ takes_from m (if is_global_import i then suc number else number) imports

-- ---- what the module defines

abbrev pub make_table : Limits → tree.Stmt
make_table limits =
    primitive None (codes "w2c_tab_new")
    (tree.Address table_name ∷ tree.Value (n32 limits.min) ∷ tree.Value (n64 (max_number limits.max)) ∷ [])

abbrev pub make_memory : Limits → tree.Stmt
make_memory limits =
    primitive None (codes "w2c_mem_new")
    (tree.Address memory_name ∷ tree.Value (n32 limits.min) ∷ tree.Value (n64 (max_number limits.max)) ∷ [])

-- a global, with its number among those that the module defines
abbrev pub make_global : Module → ℕ × GlobalEntry → tree.Stmt
make_global m g = set (global_name (imported_globals m + g.0)) (constant_expr m g.1.code)

-- ---- segments: all bounds, then all writes

abbrev pub test_bounds : List ℕ → tree.Arg → tree.Expr → List tree.Stmt
test_bounds len_of object end_of_segment =
    primitive (Some size_name) len_of (object ∷ [])
    ∷ tree.If op.Gt end_of_segment (tree.Name size_name) (label_name bounds_label)
    ∷ []

abbrev pub test_elements : Module → ElementEntry → List tree.Stmt
test_elements m e = test_bounds (codes "w2c_tab_len") (table_arg m) (place_expr m e.offset (n64 (length e.funcs)))

abbrev pub test_data : Module → SegmentEntry → List tree.Stmt
test_data m d = test_bounds (codes "w2c_mem_len") (memory_arg m) (place_expr m d.offset (n64 (length d.bytes)))

-- of a function that may have no type: then a number of no type
abbrev pub signature : Option FuncType → ℕ
signature None = 1
signature (Some ty) = sig_number_of ty.params ty.result

-- the function with this index, at this number of a segment with this offset
abbrev pub write_element : Module → Code → ℕ → ℕ → tree.Stmt
write_element m offset number func =
    primitive None (codes "w2c_tab_set")
    (table_arg m ∷ tree.Value (place_expr m offset (n64 number)) ∷ tree.OfFunction (function_name m func)
    ∷ tree.Value (n64 (signature (func_type_in m func))) ∷ [])

abbrev pub write_elements : Module → ElementEntry → List tree.Stmt
write_elements m e = map (λ f. write_element m e.offset f.0 f.1.index) (numbered e.funcs)

-- the bytes of a segment: a loop over the constant array, of three statements a byte
abbrev pub write_data : Module → ℕ × SegmentEntry → List tree.Stmt
write_data m d = elim d.1.bytes [
  | [] ↦ []
  | b ∷ bytes ↦
      set byte_name (n64 0)
      ∷ tree.Label (label_name (loop_label d.0))
      ∷ primitive None (codes "w2c_put1")
      (memory_arg m ∷ tree.Value (place_expr m d.1.offset (tree.Name byte_name))
      ∷ tree.Value (tree.To32 (tree.At (data_name d.0) (tree.Name byte_name))) ∷ [])
      ∷ set byte_name (tree.Op op.Add (tree.Name byte_name) (n64 1))
      ∷ tree.If op.Lt (tree.Name byte_name) (n64 (suc (length bytes))) (label_name (loop_label d.0))
      ∷ []
]

-- a start function that may not be called comes in no linked set
abbrev pub call_start : Option Name → tree.Stmt
call_start None = tree.Null
call_start (Some name) = tree.Call None (tree.Called name) []

abbrev pub start_stmts : NamedModule → Option Start → List tree.Stmt
start_stmts m None = []
start_stmts m (Some start) = call_start (callee m start.index) ∷ []

-- ---- the function

-- limits, and bounds, are tested somewhere
abbrev pub asks_something : Limits → Bool
asks_something limits = nat_lt 0 limits.min || is_some limits.max

abbrev pub has_test : Import → Bool
has_test i = elim i.kind [
  | ImportFunc t ↦ false
  | ImportTable limits ↦ asks_something limits
  | ImportMemory limits ↦ asks_something limits
  | ImportGlobal t mutable ↦ false
]

abbrev pub tests_limits : Module → Bool
tests_limits m = list_any has_test m.imports

abbrev pub is_some_of : {A : Type 0} → List A → Bool
is_some_of [] = false
is_some_of (a ∷ items) = true

abbrev pub tests_bounds : Module → Bool
tests_bounds m = is_some_of m.elements || is_some_of m.segments

abbrev pub has_bytes : SegmentEntry → Bool
has_bytes d = elim d.bytes [ [] ↦ false | b ∷ bytes ↦ true ]

abbrev pub trap_if : Bool → ℕ → tree.Stmt → List tree.Stmt
trap_if named l trap = if named then tree.Label (label_name l) ∷ trap ∷ [] else []

abbrev pub local_if : Bool → Name → List tree.Local
local_if used name = if used then (c_type.U64, name, N64 0) ∷ [] else []

-- ---- parts of the init function of a large module

-- a function has statements for so many entries of a kind at most
abbrev pub most : ℕ
most = 100

-- a list in pieces of so many, of which the last may be shorter
abbrev pub piece : {A : Type 0} → List A → ℕ → List A
piece items k = take most (drop (most * k) items)

abbrev pub piece_count : ℕ → ℕ
piece_count n = (n + 99) / 100

abbrev pub pieces : {A : Type 0} → List A → List (List A)
pieces items = map (piece items) (range_with_len 0 (piece_count (length items)))

-- a function of an element segment, with its number there
abbrev pub Element : Type 0
Element = ElementEntry × (ℕ × FuncRef)

abbrev pub elements_in : ElementEntry → List Element
elements_in e = map (λ f. (e, f)) (numbered e.funcs)

abbrev pub elements_of : Module → List Element
elements_of m = flat_map elements_in m.elements

abbrev pub write_one : Module → Element → tree.Stmt
write_one m x = write_element m x.0.offset x.1.0 x.1.1.index

-- what a part does, and whether it tests bounds
pub record Part : Type 0 where
  pub stmts : List tree.Stmt
  pub tests : Bool

abbrev pub globals_part : Module → List (ℕ × GlobalEntry) → Part
globals_part m globals = record { stmts = map (make_global m) globals; tests = false }

abbrev pub element_tests_part : Module → List ElementEntry → Part
element_tests_part m elements = record { stmts = flat_map (test_elements m) elements; tests = true }

abbrev pub data_tests_part : Module → List SegmentEntry → Part
data_tests_part m segments = record { stmts = flat_map (test_data m) segments; tests = true }

abbrev pub elements_part : Module → List Element → Part
elements_part m elements = record { stmts = map (write_one m) elements; tests = false }

abbrev pub bytes_part : Module → List (ℕ × SegmentEntry) → Part
bytes_part m segments = record { stmts = flat_map (write_data m) segments; tests = false }

abbrev pub some_bytes : List (ℕ × SegmentEntry) → Bool
some_bytes segments = list_any (λ d. has_bytes d.1) segments

-- in the order of the tasks; a piece of segments without bytes has nothing to write
abbrev pub all_parts : Module → List Part
all_parts m =
    map (globals_part m) (pieces (numbered m.globals))
    ++ (map (element_tests_part m) (pieces m.elements)
    ++ (map (data_tests_part m) (pieces m.segments)
    ++ (map (elements_part m) (pieces (elements_of m))
    ++ map (bytes_part m) (filter some_bytes (pieces (numbered m.segments))))))

abbrev pub is_large : Module → Bool
is_large m =
    (nat_lt most (length m.globals) || nat_lt most (length m.elements))
    || (nat_lt most (length m.segments) || nat_lt most (length (elements_of m)))

abbrev pub parts_of : Module → List Part
parts_of m = if is_large m then all_parts m else []

-- ---- the functions: they take and give nothing, and have the same local variables

abbrev pub own_locals : Module → List tree.Local
own_locals m = local_if (tests_limits m || tests_bounds m) size_name ++ local_if (list_any has_bytes m.segments) byte_name

abbrev pub own_func : Bool → Name → Module → List tree.Stmt → tree.Func
own_func static name m stmts = record {
  is_static = static;
  result = c_type.Void;
  name = name;
  params = (c_type.Void, None) ∷ [];
  body = Some (record { locals = own_locals m; stmts = stmts });
}

-- a part, and its end
abbrev pub part_end : Part → List tree.Stmt
part_end p = tree.ReturnNone ∷ trap_if p.tests bounds_label (makers.trap trap.SegmentOut)

abbrev pub part_stmts : Part → List tree.Stmt
part_stmts p = p.stmts ++ part_end p

-- with its number
abbrev pub part_func : Module → ℕ × Part → tree.Func
part_func m p = own_func true (part_name p.0) m (part_stmts p.1)

abbrev pub call_part : ℕ → tree.Stmt
call_part k = tree.Call None (tree.Called (part_name k)) []

-- ---- the init function's statements

-- its beginning, the imports, the tables and the memories, before others
abbrev pub begun : NamedModule → List tree.Stmt → List tree.Stmt
begun m rest =
    (tree.Null ∷ [])
    ++ (takes_from m 0 (filter (λ i. not (is_func_import i)) m.tree.imports)
    ++ (map (λ t. make_table t.limits) m.tree.tables
    ++ (map (λ t. make_memory t.limits) m.tree.memories
    ++ rest)))

-- the start call, the end and the traps
abbrev pub ended : NamedModule → Bool → List tree.Stmt
ended m bounds =
    start_stmts m m.tree.start
    ++ (tree.ReturnNone ∷ []
    ++ (trap_if (tests_limits m.tree) limits_label (makers.trap trap.ImportLimits)
    ++ trap_if bounds bounds_label (makers.trap trap.SegmentOut)))

abbrev pub whole_stmts : NamedModule → List tree.Stmt
whole_stmts m = begun m
    (map (make_global m.tree) (numbered m.tree.globals)
    ++ (flat_map (test_elements m.tree) m.tree.elements
    ++ (flat_map (test_data m.tree) m.tree.segments
    ++ (flat_map (write_elements m.tree) m.tree.elements
    ++ (flat_map (write_data m.tree) (numbered m.tree.segments)
    ++ ended m (tests_bounds m.tree))))))

-- with so many parts that are called
abbrev pub calling_stmts : NamedModule → ℕ → List tree.Stmt
calling_stmts m parts = begun m (map call_part (range_with_len 0 parts) ++ ended m false)

abbrev pub stmts_with : NamedModule → ℕ → List tree.Stmt
stmts_with m zero = whole_stmts m
stmts_with m (suc parts) = calling_stmts m (suc parts)

abbrev pub init_stmts : NamedModule → List tree.Stmt
init_stmts m = stmts_with m (length (parts_of m.tree))

abbrev pub init_func : NamedModule → tree.Func
init_func m = own_func false (init_symbol_of m.name) m.tree (init_stmts m)
