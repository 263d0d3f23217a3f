-- The table of instructions is exact: each instruction stands in the row of its opcode, and each row makes
-- instructions of its opcode alone.
use Rattle.wasm_tree.proofs.Common.{◌≡◌, ℕ, Bool, true, false, cond, eqb, List, [], ◌∷◌, map, Some, None, Option, refl, subst, eqb-true}
use Rattle.wasm_tree.proofs.Common.{Binary, Block, Compare, Eqz, Extend, If, Kind, Load, Loop, Store, Unary}
use Rattle.std.specs.List.{AllByRecursion}
use Rattle.w2c_base.specs.declared.value.ValType.TheVariants as type
use Rattle.w2c_base.proofs.OfEach.{all_flat}
use Rattle.wasm_tree.specs.declared.operators.UnaryOp.TheVariants.{Clz}
use Rattle.wasm_tree.specs.declared.operators.BinaryOp.TheVariants.{Add}
use Rattle.wasm_tree.specs.declared.operators.CompareOp.TheVariants.{Eq}
use Rattle.wasm_tree.specs.declared.operators.LoadOp.TheVariants.{I32Load}
use Rattle.wasm_tree.specs.declared.operators.StoreOp.TheVariants.{I32Store}
use Rattle.wasm_tree.specs.declared.operators.ExtendOp.TheVariants.{I32Extend8S}
use Rattle.wasm_tree.specs.InstructionTable.{Form, Row, rows, first_row, row_of, groups, load_row, store_row, extend_row, compare_row}
use Rattle.wasm_tree.specs.InstructionTable.{unary_row, binary_row, loads, stores, extensions, comparisons, unaries, binaries}
use Rattle.wasm_tree.specs.Forms.{HasRow, Makes}

abbrev some_form : Form → Option Form
some_form f = Some f

absurd_form : (A : Type 0) (f : Form) → None ≡ some_form f → A
absurd_form A f e = absurd cc

pub has_row : (kind : Kind) → HasRow kind
has_row (Block r c e) f h = absurd_form _ f h
has_row (Loop r c e) f h = absurd_form _ f h
has_row (If r c o e) f h = absurd_form _ f h
has_row (Load I32Load m) f h = h
has_row (Store I32Store m) f h = h
has_row (Eqz type.I32) f h = h
has_row (Compare type.I32 Eq) f h = h
has_row (Compare type.I64 Eq) f h = h
has_row (Unary type.I32 Clz) f h = h
has_row (Binary type.I32 Add) f h = h
has_row (Unary type.I64 Clz) f h = h
has_row (Binary type.I64 Add) f h = h
has_row (Extend I32Extend8S) f h = h
has_row _ f h = h

-- what holds of a row, and what holds of those behind it
infixr 5 ◌&◌
abbrev pub ◌&◌ : {A B : Type 0} → A → B → A × B
a & b = (a, b)

-- what holds of the row of any operator holds of the rows of its class
pub of_class : {A : Type 0} (P : Row → Type 0) (f : A → Row) → ((o : A) → P (f o)) → (os : List A) → AllByRecursion P (map f os)
of_class P f each [] = tt
of_class P f each (o ∷ os) = (each o, of_class P f each os)

abbrev RowMakes : Row → Type 0
RowMakes r = Makes r.opcode r.form

all_make : AllByRecursion RowMakes rows
all_make = all_flat RowMakes (λ group. group) groups
    (((refl, refl) & (refl, refl) & (λ n. (refl, refl)) & (λ n. (refl, refl)) & (λ ls d. (refl, refl)) & (refl, refl) &
    (λ n. (refl, refl)) & (λ n. (refl, refl)) & (refl, refl) & (refl, refl) & (λ n. (refl, refl)) & (λ n. (refl, refl)) &
    (λ n. (refl, refl)) & (λ n. (refl, refl)) & (λ n. (refl, refl)) & (refl, refl) & (refl, refl) & (λ n. (refl, refl)) &
    (λ n. (refl, refl)) & (refl, refl) & (refl, refl) & (refl, refl) & ((refl, refl) & (refl, refl) & tt) & tt) &
    of_class RowMakes load_row (λ o m. (refl, refl)) loads & of_class RowMakes store_row (λ o m. (refl, refl)) stores &
    of_class RowMakes extend_row (λ o. (refl, refl)) extensions &
    ((refl, refl) & of_class RowMakes (compare_row type.I32) (λ o. (refl, refl)) comparisons) &
    ((refl, refl) & of_class RowMakes (compare_row type.I64) (λ o. (refl, refl)) comparisons) &
    of_class RowMakes (unary_row type.I32) (λ o. (refl, refl)) unaries &
    of_class RowMakes (unary_row type.I64) (λ o. (refl, refl)) unaries &
    of_class RowMakes (binary_row type.I32) (λ o. (refl, refl)) binaries &
    of_class RowMakes (binary_row type.I64) (λ o. (refl, refl)) binaries & tt)

chosen_row : (opcode : ℕ) (first r : Row) (more : Option Row) (b : Bool) → eqb first.opcode opcode ≡ b → RowMakes first
    → (more ≡ Some r → Makes opcode r.form) → cond b (Some first) more ≡ Some r → Makes opcode r.form
chosen_row opcode first r more true e m later is =
    let same : first ≡ r = cc in
    subst (λ n. Makes n r.form) (eqb-true first.opcode opcode e) (subst (λ x. Makes first.opcode x.form) same m)
chosen_row opcode first r more false e m later is = later is

no_row : (A : Type 0) (r : Row) → ◌≡◌ {A = Option Row} None (Some r) → A
no_row A r e = absurd cc

makes_of : (opcode : ℕ) (rs : List Row) (r : Row) → AllByRecursion RowMakes rs → first_row opcode rs ≡ Some r → Makes opcode r.form
makes_of opcode [] r all is = no_row _ r is
makes_of opcode (first ∷ rs) r all is =
    chosen_row opcode first r (first_row opcode rs) (eqb first.opcode opcode) refl all.0 (makes_of opcode rs r all.1) is

pub row_makes : (opcode : ℕ) (r : Row) → row_of opcode ≡ Some r → Makes opcode r.form
row_makes opcode r is = makes_of opcode rows r all_make is
