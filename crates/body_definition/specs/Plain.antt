-- The statements of the instructions that hold no code and do not jump (WebAssembly Core 1.0, 2.4.1
-- to 2.4.4): one each, and two where a value is selected. An operator that C has stands in the
-- statement; the others are calls of helpers. A count of a shift is taken modulo the width first.
use Rattle.std.specs.Prelude.{ℕ, ◌+◌, List, [], ◌∷◌, length, slice_get, codes, Option, Some, None}
use Rattle.w2c_base.specs.declared.value.ValType.{ValType}
use Rattle.w2c_base.specs.declared.value.ValType.TheVariants as type
use Rattle.w2c_base.specs.Values.{bits, pattern_of}
use Rattle.wasm_tree.specs.declared.tree.Module.{Module}
use Rattle.wasm_tree.specs.Instructions as wasm
use Rattle.wasm_tree.specs.Accesses.{load_access, store_access, extend_type}
use Rattle.wasm_tree.specs.NamedModule.{NamedModule}
use Rattle.wasm_typing.specs.Context.{Context}
use Rattle.wasm_typing.specs.Typing.{Stack}
use Rattle.c_tree.specs.declared.tree.COp.TheVariants as op
use Rattle.c_tree.specs.Tree as tree
use Rattle.c_tree.specs.Scope.{Name}
use Rattle.c_tree.specs.Makers.{num as number}
use Rattle.c_helpers.specs.declared.operation.NumOp.TheVariants as num
use Rattle.c_helpers.specs.declared.operation.Helper.{Helper}
use Rattle.c_helpers.specs.declared.operation.Helper.TheVariants as helper
use Rattle.c_helpers.specs.Helpers.{helper_of}
use Rattle.c_helpers.specs.Ways.{unary_helper, binary_way, compare_way, extend_helper}
use Rattle.c_helpers.specs.declared.steps.Way.{Way}
use Rattle.c_helpers.specs.declared.steps.Way.TheVariants.{ByOperator, ByShift, ByHelper}
use Rattle.c_symbols.specs.Objects.{memory_arg, global_value, set_global}
use Rattle.body_forms.specs.Slots.{operand, set_slot, selected, under}
use Rattle.body_forms.specs.Names.{slot, local_name}

-- a module under its name, and the context of the body that is translated
pub record Setting : Type 0 where
  pub named : NamedModule
  pub context : Context

-- ---- statements

abbrev pub call_helper : Option Name → Helper → List tree.Arg → tree.Stmt
call_helper target which args = tree.Call target (tree.Called (helper_of which).name) args

-- two operands from the height h on give a value there, of a type of its own
abbrev pub by_way : Way → ValType → ValType → ℕ → (tree.Expr → tree.Expr) → tree.Stmt
by_way (ByOperator o) t result h as_value = set_slot result h (as_value (tree.Op o (operand t h) (operand t (1 + h))))
by_way (ByShift o) t result h as_value =
    set_slot result h (as_value (tree.Op o (operand t h) (tree.Op op.Rem (operand t (1 + h)) (number t (bits t)))))
by_way (ByHelper which) t result h as_value =
    call_helper (Some (slot result h)) (helper.Num which) (tree.Value (operand t h) ∷ tree.Value (operand t (1 + h)) ∷ [])

-- what is there of a type, where there is something
abbrev pub if_type : Option ValType → (ValType → List tree.Stmt) → List tree.Stmt
if_type None go = []
if_type (Some t) go = go t

-- a helper takes the memory and three numbers from a height on, and gives nothing
abbrev pub bytes_stmt : Module → Helper → ℕ → tree.Stmt
bytes_stmt m which h = call_helper
    None
    which
    (memory_arg m ∷ tree.Value (operand type.I32 h) ∷ tree.Value (operand type.I32 (1 + h)) ∷ tree.Value (operand type.I32 (2 + h)) ∷ [])

-- an instruction over a stack of these types; l is the number of its label, where it takes one
abbrev pub plain_stmts : Setting → Stack → ℕ → wasm.Kind → List tree.Stmt
plain_stmts c types l (wasm.I32Const z) = set_slot type.I32 (length types) (number type.I32 (pattern_of 32 z)) ∷ []
plain_stmts c types l (wasm.I64Const z) = set_slot type.I64 (length types) (number type.I64 (pattern_of 64 z)) ∷ []
plain_stmts c types l (wasm.Eqz t) =
    set_slot type.I32 (under 1 types) (tree.To32 (tree.Op op.Eq (operand t (under 1 types)) (number t 0))) ∷ []
plain_stmts c types l (wasm.Compare t o) = by_way (compare_way t o) t type.I32 (under 2 types) tree.To32 ∷ []
plain_stmts c types l (wasm.Unary t o) =
    call_helper (Some (slot t (under 1 types))) (helper.Num (unary_helper t o)) (tree.Value (operand t (under 1 types)) ∷ []) ∷ []
plain_stmts c types l (wasm.Binary t o) = by_way (binary_way t o) t t (under 2 types) (λ e. e) ∷ []
plain_stmts c types l wasm.I32WrapI64 = set_slot type.I32 (under 1 types) (tree.To32 (operand type.I64 (under 1 types))) ∷ []
plain_stmts c types l wasm.I64ExtendI32S =
    call_helper (Some (slot type.I64 (under 1 types))) (helper.Num num.I64ExtendI32S) (tree.Value (operand type.I32 (under 1 types)) ∷ [])
    ∷ []
plain_stmts c types l (wasm.Extend o) =
    call_helper
    (Some (slot (extend_type o) (under 1 types)))
    (helper.Num (extend_helper o))
    (tree.Value (operand (extend_type o) (under 1 types)) ∷ [])
    ∷ []
plain_stmts c types l wasm.I64ExtendI32U = set_slot type.I64 (under 1 types) (tree.To64 (operand type.I32 (under 1 types))) ∷ []
plain_stmts c types l wasm.Select = if_type (slice_get types 1) (selected l (under 3 types))
plain_stmts c types l (wasm.LocalGet index) = if_type (slice_get c.context.locals index) (λ t.
    set_slot t (length types) (tree.Name (local_name index)) ∷ [])
plain_stmts c types l (wasm.LocalSet index) = if_type (slice_get c.context.locals index) (λ t.
    tree.Set (local_name index) (tree.Value (operand t (under 1 types))) ∷ [])
plain_stmts c types l (wasm.LocalTee index) = if_type (slice_get c.context.locals index) (λ t.
    tree.Set (local_name index) (tree.Value (operand t (under 1 types))) ∷ [])
plain_stmts c types l (wasm.GlobalGet index) = elim (slice_get c.context.globals index) [
  | None ↦ []
  | Some global ↦ set_slot global.0 (length types) (global_value c.named.tree index) ∷ []
]
plain_stmts c types l (wasm.GlobalSet index) = elim (slice_get c.context.globals index) [
  | None ↦ []
  | Some global ↦ set_global c.named.tree index (operand global.0 (under 1 types)) ∷ []
]
plain_stmts c types l (wasm.Load o arg) =
    call_helper
    (Some (slot (load_access o).ty (under 1 types)))
    (helper.Load o)
    (memory_arg c.named.tree ∷ tree.Value (operand type.I32 (under 1 types)) ∷ tree.Value (number type.I32 arg.offset) ∷ [])
    ∷ []
plain_stmts c types l (wasm.Store o arg) =
    call_helper
    None
    (helper.Store o)
    (memory_arg c.named.tree ∷ tree.Value (operand type.I32 (under 2 types)) ∷ tree.Value (number type.I32 arg.offset)
    ∷ tree.Value (operand (store_access o).ty (1 + under 2 types)) ∷ [])
    ∷ []
plain_stmts c types l wasm.MemorySize = call_helper (Some (slot type.I32 (length types))) helper.Size (memory_arg c.named.tree ∷ []) ∷ []
plain_stmts c types l wasm.MemoryCopy = bytes_stmt c.named.tree helper.Copy (under 3 types) ∷ []
plain_stmts c types l wasm.MemoryFill = bytes_stmt c.named.tree helper.Fill (under 3 types) ∷ []
plain_stmts c types l wasm.MemoryGrow =
    tree.Call
    (Some (slot type.I32 (under 1 types)))
    (tree.Called (codes "w2c_mem_grow"))
    (memory_arg c.named.tree ∷ tree.Value (operand type.I32 (under 1 types)) ∷ [])
    ∷ []
plain_stmts c types l kind = []
