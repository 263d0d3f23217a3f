-- The statements of code (WebAssembly Core 1.0, 2.4.5). A block's code works on the slots above those
-- of the operands under it; a branch moves its value to the height of the block that it leaves. What
-- stands behind an instruction that never goes on is left out, up to the end of its block.
use Rattle.std.specs.Prelude.{ℕ, suc, ◌+◌, ◌||◌, Bool, if◌then◌else◌, List, [], ◌∷◌, ◌++◌, length, drop, slice_get, Option, Some, None}
use Rattle.w2c_base.specs.declared.value.ValType.{ValType}
use Rattle.w2c_base.specs.declared.value.ValType.TheVariants as type
use Rattle.w2c_base.specs.declared.signature.FuncType.{FuncType}
use Rattle.w2c_base.specs.declared.trap.TrapKind.TheVariants as trap
use Rattle.w2c_base.specs.Lookup.{at_index}
use Rattle.w2c_base.specs.Signature.{sig_number_of}
use Rattle.wasm_tree.specs.Instructions.{Code, end_code, then_code, Kind, Otherwise, no_else, else_code, Unreachable, Return, Block, Loop}
use Rattle.wasm_tree.specs.Instructions.{If, Br, BrIf, BrTable, Call, CallIndirect}
use Rattle.wasm_typing.specs.Typing.{Stack}
use Rattle.c_tree.specs.declared.tree.Num.TheVariants.{N64}
use Rattle.c_tree.specs.declared.tree.COp.TheVariants as op
use Rattle.c_tree.specs.Tree as tree
use Rattle.c_tree.specs.Scope.{Name}
use Rattle.c_tree.specs.Makers as makers
use Rattle.c_tree.specs.DefinedNames.{label_name}
use Rattle.c_helpers.specs.declared.operation.Helper.TheVariants as helper
use Rattle.c_helpers.specs.Translated.{ends}
use Rattle.c_symbols.specs.Symbols.{c_func_type}
use Rattle.c_symbols.specs.Objects.{callee, table_arg}
use Rattle.body_forms.specs.Branches.{Aim, exit_of, label_if, jump, if_aim, branch_if, case_label, cases_from, moving_case, jump_over}
use Rattle.body_forms.specs.Names.{slot, element_name}
use Rattle.body_forms.specs.Slots.{under, operand, jump_if}
use Rattle.body_definition.specs.Stack.{after}
use Rattle.body_definition.specs.Labels.{labels_in, labels_of, targets, targets_else, falls}
use Rattle.body_definition.specs.Plain.{Setting, call_helper, plain_stmts}

-- ---- branches

abbrev pub moving_cases : List Aim → Stack → ℕ → List ℕ → List tree.Stmt
moving_cases aims types l [] = []
moving_cases aims types l (k ∷ labels) = if_aim (slice_get aims k) (moving_case types l) ++ moving_cases aims types (suc l) labels

-- a branch by an index, which stood on a stack of these types
abbrev pub branch_table : List Aim → Stack → ℕ → List ℕ → ℕ → List tree.Stmt
branch_table aims types l labels default =
    tree.Switch
    (operand type.I32 (length types))
    (cases_from aims types 0 l labels)
    (case_label types (length labels + l) (slice_get aims default))
    ∷ moving_cases aims types l (labels ++ default ∷ [])

-- ---- calls

-- the operands from a height on
abbrev pub operands_from : ℕ → List ValType → List tree.Arg
operands_from h [] = []
operands_from h (t ∷ types) = tree.Value (operand t h) ∷ operands_from (suc h) types

abbrev pub result_slot : Option ValType → ℕ → Option Name
result_slot None height = None
result_slot (Some t) height = Some (slot t height)

abbrev pub call_of : tree.Callee → FuncType → Stack → tree.Stmt
call_of f ty types =
    tree.Call (result_slot ty.result (under (length ty.params) types)) f (operands_from (under (length ty.params) types) ty.params)

-- an import that may not be called comes in no linked set: nothing is done in its place
abbrev pub call_named : Option Name → FuncType → Stack → List tree.Stmt
call_named None ty types = tree.Null ∷ []
call_named (Some name) ty types = call_of (tree.Called name) ty types ∷ []

abbrev pub call_stmts : Setting → Stack → ℕ → List tree.Stmt
call_stmts c types index = elim (at_index c.context.funcs index) [ None ↦ [] | Some ty ↦ call_named (callee c.named index) ty types ]

-- the element is looked up by its index and its type's signature number, and then called
abbrev pub call_element : Setting → Stack → FuncType → List tree.Stmt
call_element c types ty =
    call_helper
    (Some element_name)
    helper.Element
    (table_arg c.named.tree ∷ tree.Value (operand type.I32 (length types))
    ∷ tree.Value (tree.Number (N64 (sig_number_of ty.params ty.result))) ∷ [])
    ∷ call_of (tree.Through (c_func_type ty) element_name) ty types
    ∷ []

abbrev pub call_indirect_stmts : Setting → Stack → ℕ → List tree.Stmt
call_indirect_stmts c types type_index = elim (slice_get c.context.types type_index) [ None ↦ [] | Some ty ↦ call_element c types ty ]

-- ---- code over a stack of these types, its labels numbered from l on

-- what stands behind an instruction, unless it never goes on
abbrev pub behind : Bool → List tree.Stmt → List tree.Stmt
behind ends stmts = if ends then [] else stmts

-- an `if` on the operand at a height: its first branch is jumped over to the label l, or to the end,
-- whose label is the next one, where there is no second branch. An end that nothing else jumps to is
-- named where the first branch comes to its end, or where a branch goes there
abbrev pub if_stmts : Otherwise → ℕ → ℕ → Bool → Bool → List tree.Stmt → List tree.Stmt → List tree.Stmt
if_stmts no_else height l falls named first second =
    jump_if op.Eq height (suc l) ∷ (first ++ tree.Label (label_name (suc l)) ∷ [])
if_stmts (else_code place code) height l falls named first second =
    jump_if op.Eq height l
    ∷ (first ++ (jump_over falls (suc l) ++ (tree.Label (label_name l) ∷ (second ++ label_if (falls || named) (suc l)))))

abbrev mutual
  pub emit : Setting → List Aim → Stack → ℕ → Code → List tree.Stmt
  emit c aims types l end_code = []
  emit c aims types l (then_code place kind code) =
      emit_kind c aims types l kind ++ behind (ends kind) (emit c aims (after c.context types kind) (labels_of kind + l) code)

  pub emit_kind : Setting → List Aim → Stack → ℕ → Kind → List tree.Stmt
  emit_kind c aims types l (Block t code end_place) =
      emit c (record { label = l; height = length types; value = t } ∷ aims) types (suc l) code ++ label_if (targets 0 code) l
  emit_kind c aims types l (Loop t code end_place) =
      label_if (targets 0 code) l ++ emit c (record { label = l; height = length types; value = None } ∷ aims) types (suc l) code
  emit_kind c aims types l (If t code otherwise end_place) =
      let inner : List Aim = record { label = suc l; height = under 1 types; value = t } ∷ aims in
      if_stmts
      otherwise
      (under 1 types)
      l
      (falls code)
      (targets 0 code || targets_else 0 otherwise)
      (emit c inner (drop 1 types) (suc (suc l)) code)
      (emit_else c inner (drop 1 types) (labels_in code + suc (suc l)) otherwise)
  emit_kind c aims types l (Br label) = if_aim (slice_get aims label) (λ aim. jump aim types)
  emit_kind c aims types l (BrIf label) = if_aim (slice_get aims label) (branch_if (drop 1 types) l)
  emit_kind c aims types l (BrTable labels default) = branch_table aims (drop 1 types) l labels default
  emit_kind c aims types l Return = jump (exit_of c.context.result) types
  emit_kind c aims types l Unreachable = makers.trap trap.Unreachable ∷ []
  emit_kind c aims types l (Call index) = call_stmts c types index
  emit_kind c aims types l (CallIndirect type_index) = call_indirect_stmts c (drop 1 types) type_index
  emit_kind c aims types l kind = plain_stmts c types l kind

  pub emit_else : Setting → List Aim → Stack → ℕ → Otherwise → List tree.Stmt
  emit_else c aims types l no_else = []
  emit_else c aims types l (else_code place code) = emit c aims types l code
