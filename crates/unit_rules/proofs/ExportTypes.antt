-- The types of functions that pass calls on, and of accessors that are imported.
use Rattle.unit_rules.proofs.Common.{◌≡◌, ℕ, suc, Bool, true, false, List, [], ◌∷◌, map, Some, None, Option, refl, ap, FuncType, ValType}
use Rattle.unit_rules.proofs.Common.{is_memory_import, is_table_import, NamedModule, Import, ImportKind, ImportGlobal, ImportMemory, Module}
use Rattle.unit_rules.proofs.Common.{ImportTable, is_void, proper_types, Name, func_type_of, is_object_type, c_params_of, c_type_of, CType}
use Rattle.unit_rules.proofs.Common.{accessor_type, c_func_type_if, import_type, pointer_type, accessor, named_params, params_from, I32}
use Rattle.unit_rules.proofs.Common.{passes_on, usable_symbol, I64, pointer_to}
use Rattle.c_tree.specs.declared.tree.CType.TheVariants as type
use Rattle.c_tree.specs.Tree as tree

-- ---- types of functions with names for their parameters

from_types : (k : ℕ) (types : List CType) → map (λ (p : tree.Param). p.0) (params_from k types) ≡ types
from_types k [] = refl
from_types k (t ∷ types) = ap (λ ts. t ∷ ts) (from_types (suc k) types)

-- types that come to themselves: one `void`, or no `void` in front
pub wrapper_types : (o : Option FuncType) → map (λ (p : tree.Param). p.0) (named_params (proper_types (c_func_type_if o).params)) ≡
    (c_func_type_if o).params
wrapper_types None = refl
wrapper_types (Some ty) = by ty.params
  where
    by : (params : List ValType) → map (λ (p : tree.Param). p.0) (named_params (proper_types (c_params_of params))) ≡ c_params_of params
    by [] = refl
    by (I32 ∷ params) = ap (λ ts. type.U32 ∷ ts) (from_types 1 (map c_type_of params))
    by (I64 ∷ params) = ap (λ ts. type.U64 ∷ ts) (from_types 1 (map c_type_of params))

-- ---- types of accessors that are imported

pub object_import_type : (m : Module) (i : Import) → (is_table_import i ≡ true → import_type m i ≡ accessor_type type.PtrTab)
    × (is_memory_import i ≡ true → import_type m i ≡ accessor_type type.PtrMem)
object_import_type m i = by i.kind
  where
    by : (kind : ImportKind) →
        (is_table_import (record i { kind = kind }) ≡ true → import_type m (record i { kind = kind }) ≡ accessor_type type.PtrTab)
        × (is_memory_import (record i { kind = kind }) ≡ true → import_type m (record i { kind = kind }) ≡ accessor_type type.PtrMem)
    by (ImportTable l) = ((λ e. refl), (λ e. absurd cc))
    by (ImportMemory l) = ((λ e. absurd cc), (λ e. refl))
    by _ = ((λ e. absurd cc), (λ e. absurd cc))

-- pointers to numbers
pub pointer_is : (ty : ValType) → (pointer_to (c_type_of ty) ≡ Some (pointer_type ty)) × (is_void (pointer_type ty) ≡ false) ×
    (is_object_type (pointer_type ty) ≡ false)
pointer_is I32 = (refl, refl, refl)
pointer_is I64 = (refl, refl, refl)

-- the type of an import that is a global
pub accessor_is : (t : Module) (i : Import) (ty : ValType) (mutable : Bool) → i.kind ≡ ImportGlobal ty mutable
    → import_type t i ≡ accessor_type (pointer_type ty)
accessor_is t i ty mutable e = rw (e, import_type) refl

-- ---- a function that passes a call on is external, and has its type

abbrev pub HasShape : tree.FuncType → tree.Func → Type 0
HasShape ty f = (f.is_static ≡ false) × (func_type_of f ≡ ty)

abbrev ty_of : List CType → CType → tree.FuncType
ty_of params result = record { params = params; result = result }

pub passes_shape : (ty : tree.FuncType) (n : Name) (o : Option Name)
    → map (λ (p : tree.Param). p.0) (named_params (proper_types ty.params)) ≡ ty.params → HasShape ty (passes_on ty n o)
passes_shape ty n o e = by ty.result
  where
    typed : (r : CType) → ty_of (map (λ (p : tree.Param). p.0) (named_params (proper_types ty.params))) r ≡ ty_of ty.params r
    typed r = ap (λ ps. ty_of ps r) e

    by : (r : CType) → HasShape (ty_of ty.params r) (passes_on (ty_of ty.params r) n o)
    by type.Void = (refl, typed type.Void)
    by r = (refl, typed r)

pub accessor_shape : (m : NamedModule) (pointer : CType) (n : Name) (o : Option Import) (object : Name)
    → HasShape (accessor_type pointer) (accessor m (accessor_type pointer) n o object)
accessor_shape m pointer n None object = (refl, refl)
accessor_shape m pointer n (Some i) object = passes_shape (accessor_type pointer) n (usable_symbol m i) refl
