-- What else holds of helpers: their types, and that they are formed and keep the rules of the subset.
use Rattle.std.specs.Prelude.{◌≡◌, true, List, [], ◌∷◌, None}
use Rattle.wasm_tree.specs.Accesses.{load_access, store_access}
use Rattle.c_tree.specs.declared.tree.CType.{CType}
use Rattle.c_tree.specs.declared.tree.CType.TheVariants as type
use Rattle.c_tree.specs.Tree as tree
use Rattle.c_tree.specs.Scope.{func_type_of}
use Rattle.c_tree.specs.Spelled.{depth_limit}
use Rattle.c_tree.specs.Tests.{item_formed}
use Rattle.c_tree.specs.FirstBroken.{KeepsRules}
use Rattle.c_tree.specs.TypesInC.{c_type_of}
use Rattle.c_meaning.specs.Primitives.{primitive}
use Rattle.c_helpers.specs.declared.operation.Helper.{Helper}
use Rattle.c_helpers.specs.declared.operation.Helper.TheVariants as helper
use Rattle.c_helpers.specs.Rows.{Operator, Unary, Binary, Compare, ExtendI32S, Extend, operator_of, row_of}

abbrev signature : CType → List CType → tree.FuncType
signature result params = record { params = params; result = result }

-- the types of an operator's operands and result
abbrev pub operator_type : CType → Operator → tree.FuncType
operator_type t (Unary op) = signature t (t ∷ [])
operator_type t (Binary op) = signature t (t ∷ t ∷ [])
operator_type t (Compare op) = signature type.U32 (t ∷ t ∷ [])
operator_type t ExtendI32S = signature t (type.U32 ∷ [])
operator_type t (Extend width) = signature t (t ∷ [])

-- a memory, a base, an offset, and for a store the value; a memory; a table, an index and a signature
-- number; a memory and three numbers
abbrev pub helper_type : Helper → tree.FuncType
helper_type (helper.Num op) = operator_type (c_type_of (row_of op).ty) (operator_of (row_of op).form)
helper_type (helper.Load op) = signature (c_type_of (load_access op).ty) (type.PtrMem ∷ type.U32 ∷ type.U32 ∷ [])
helper_type (helper.Store op) = signature type.Void (type.PtrMem ∷ type.U32 ∷ type.U32 ∷ c_type_of (store_access op).ty ∷ [])
helper_type helper.Size = signature type.U32 (type.PtrMem ∷ [])
helper_type helper.Element = signature type.FnPtr (type.PtrTab ∷ type.U32 ∷ type.U64 ∷ [])
helper_type helper.Copy = signature type.Void (type.PtrMem ∷ type.U32 ∷ type.U32 ∷ type.U32 ∷ [])
helper_type helper.Fill = signature type.Void (type.PtrMem ∷ type.U32 ∷ type.U32 ∷ type.U32 ∷ [])

-- A static function of this type, formed as an item of a unit, that breaks no rule of the subset. Its
-- name is that of no primitive.
pub record IsStaticFunction (type : tree.FuncType) (f : tree.Func) : Type 0 where
  pub static : f.is_static ≡ true
  pub typed : func_type_of f ≡ type
  pub named : primitive f.name ≡ None
  pub formed : item_formed depth_limit (tree.Function f) ≡ true
  pub keeps_rules : KeepsRules (tree.Function f ∷ [])
