-- The types of instructions with an operator, as the table of instructions has them: one equation for each class.
use Rattle.std.proofs.Common.{◌≡◌, ℕ, [], ◌∷◌, refl}
use Rattle.w2c_base.specs.declared.value.ValType.{ValType}
use Rattle.w2c_base.specs.declared.value.ValType.TheVariants.{I32, I64}
use Rattle.wasm_tree.specs.Accesses.{extend_type, load_type, store_type}
use Rattle.wasm_tree.specs.InstructionTable.{by_rule, of_types}
use Rattle.wasm_tree.specs.Instructions.{Binary, Compare, Eqz, Extend, Load, Store, Unary}
use Rattle.wasm_tree.specs.Parts.{index_tree}
use Rattle.wasm_tree.specs.declared.operators.BinaryOp.TheVariants.{Add}
use Rattle.wasm_tree.specs.declared.operators.IndexOp.{IndexOp}
use Rattle.wasm_tree.specs.declared.operators.LoadOp.TheVariants.{I32Load}
use Rattle.wasm_tree.specs.declared.code.MemArg.{MemArg}
use Rattle.wasm_tree.specs.declared.operators.UnaryOp.{UnaryOp}
use Rattle.wasm_tree.specs.declared.operators.UnaryOp.TheVariants.{Clz}
use Rattle.wasm_tree.specs.declared.operators.BinaryOp.{BinaryOp}
use Rattle.wasm_tree.specs.declared.operators.CompareOp.{CompareOp}
use Rattle.wasm_tree.specs.declared.operators.CompareOp.TheVariants.{Eq}
use Rattle.wasm_tree.specs.declared.operators.ExtendOp.{ExtendOp}
use Rattle.wasm_tree.specs.declared.operators.ExtendOp.TheVariants.{I32Extend8S}
use Rattle.wasm_tree.specs.declared.operators.LoadOp.{LoadOp}
use Rattle.wasm_tree.specs.declared.operators.StoreOp.{StoreOp}
use Rattle.wasm_tree.specs.declared.operators.StoreOp.TheVariants.{I32Store}
use Rattle.wasm_tree.specs.declared.operators.IndexOp.TheVariants.{Br}
use Rattle.wasm_typing.specs.Typing.{table_type}

pub eqz_typing : (t : ValType) → table_type (Eqz t) ≡ of_types (t ∷ []) (I32 ∷ [])
eqz_typing I32 = refl
eqz_typing I64 = refl

pub compare_typing : (t : ValType) (o : CompareOp) → table_type (Compare t o) ≡ of_types (t ∷ t ∷ []) (I32 ∷ [])
compare_typing I32 Eq = refl
compare_typing I32 _ = refl
compare_typing I64 Eq = refl
compare_typing I64 _ = refl

pub unary_typing : (t : ValType) (o : UnaryOp) → table_type (Unary t o) ≡ of_types (t ∷ []) (t ∷ [])
unary_typing I32 Clz = refl
unary_typing I32 _ = refl
unary_typing I64 Clz = refl
unary_typing I64 _ = refl

pub binary_typing : (t : ValType) (o : BinaryOp) → table_type (Binary t o) ≡ of_types (t ∷ t ∷ []) (t ∷ [])
binary_typing I32 Add = refl
binary_typing I32 _ = refl
binary_typing I64 Add = refl
binary_typing I64 _ = refl

pub extend_typing : (o : ExtendOp) → table_type (Extend o) ≡ of_types (extend_type o ∷ []) (extend_type o ∷ [])
extend_typing I32Extend8S = refl
extend_typing _ = refl

pub load_typing : (o : LoadOp) (arg : MemArg) → table_type (Load o arg) ≡ of_types (I32 ∷ []) (load_type o ∷ [])
load_typing I32Load arg = refl
load_typing _ arg = refl

pub store_typing : (o : StoreOp) (arg : MemArg) → table_type (Store o arg) ≡ of_types (I32 ∷ store_type o ∷ []) []
store_typing I32Store arg = refl
store_typing _ arg = refl

-- what names something by its index has a rule of its own
pub index_typing : (o : IndexOp) (index : ℕ) → table_type (index_tree o index) ≡ by_rule
index_typing Br index = refl
index_typing _ index = refl
