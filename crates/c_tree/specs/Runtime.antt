-- The functions that the runtime header declares, with their types, and when two types are equal
-- (C11, 6.2.7 compatible type and composite type).
use Rattle.std.specs.Prelude.{ℕ, ◌==◌, ◌&&◌, Bool, true, false, List, [], ◌∷◌, codes}
use Rattle.c_tree.specs.declared.tree.CType.{CType}
use Rattle.c_tree.specs.declared.tree.CType.TheVariants as type
use Rattle.c_tree.specs.Tree as tree

abbrev type_number : CType → ℕ
type_number type.Void = 0
type_number type.U32 = 1
type_number type.U64 = 2
type_number type.PtrU32 = 3
type_number type.PtrU64 = 4
type_number type.Mem = 5
type_number type.PtrMem = 6
type_number type.Tab = 7
type_number type.PtrTab = 8
type_number type.FnPtr = 9

abbrev pub same_type : CType → CType → Bool
same_type t u = type_number t == type_number u

abbrev pub same_types : List CType → List CType → Bool
same_types [] [] = true
same_types (t ∷ types) (u ∷ others) = same_type t u && same_types types others
same_types _ _ = false

abbrev pub same_func_type : tree.FuncType → tree.FuncType → Bool
same_func_type f g = same_types f.params g.params && same_type f.result g.result

abbrev declares : List ℕ → CType → List CType → List ℕ × tree.FuncType
declares name result params = (name, record { params = params; result = result })

-- the runtime's functions
abbrev pub primitives : List (List ℕ × tree.FuncType)
primitives =
    declares (codes "w2c_trap") type.Void (type.U32 ∷ [])
    ∷ declares (codes "w2c_mem_new") type.Void (type.PtrMem ∷ type.U32 ∷ type.U64 ∷ [])
    ∷ declares (codes "w2c_mem_len") type.U64 (type.PtrMem ∷ [])
    ∷ declares (codes "w2c_mem_max") type.U64 (type.PtrMem ∷ [])
    ∷ declares (codes "w2c_mem_grow") type.U32 (type.PtrMem ∷ type.U32 ∷ [])
    ∷ declares (codes "w2c_get1") type.U32 (type.PtrMem ∷ type.U64 ∷ [])
    ∷ declares (codes "w2c_get2") type.U32 (type.PtrMem ∷ type.U64 ∷ [])
    ∷ declares (codes "w2c_get4") type.U32 (type.PtrMem ∷ type.U64 ∷ [])
    ∷ declares (codes "w2c_get8") type.U64 (type.PtrMem ∷ type.U64 ∷ [])
    ∷ declares (codes "w2c_put1") type.Void (type.PtrMem ∷ type.U64 ∷ type.U32 ∷ [])
    ∷ declares (codes "w2c_put2") type.Void (type.PtrMem ∷ type.U64 ∷ type.U32 ∷ [])
    ∷ declares (codes "w2c_put4") type.Void (type.PtrMem ∷ type.U64 ∷ type.U32 ∷ [])
    ∷ declares (codes "w2c_put8") type.Void (type.PtrMem ∷ type.U64 ∷ type.U64 ∷ [])
    ∷ declares (codes "w2c_tab_new") type.Void (type.PtrTab ∷ type.U32 ∷ type.U64 ∷ [])
    ∷ declares (codes "w2c_tab_len") type.U64 (type.PtrTab ∷ [])
    ∷ declares (codes "w2c_tab_max") type.U64 (type.PtrTab ∷ [])
    ∷ declares (codes "w2c_tab_sig") type.U64 (type.PtrTab ∷ type.U64 ∷ [])
    ∷ declares (codes "w2c_tab_fn") type.FnPtr (type.PtrTab ∷ type.U64 ∷ [])
    ∷ declares (codes "w2c_tab_set") type.Void (type.PtrTab ∷ type.U64 ∷ type.FnPtr ∷ type.U64 ∷ [])
    ∷ []

-- the runtime's variable, which counts how deep calls are
abbrev pub depth_name : List ℕ
depth_name = codes "w2c_depth"
