-- The runtime's functions one by one: their names and types, and the widths of accesses to a memory.
use Rattle.std.specs.Prelude.{ℕ, List, [], ◌∷◌, codes}
use Rattle.w2c_base.specs.declared.value.ValType.{ValType}
use Rattle.w2c_base.specs.declared.value.ValType.TheVariants.{I32, I64}
use Rattle.c_tree.specs.declared.primitive.Primitive.{Primitive}
use Rattle.c_tree.specs.declared.primitive.Primitive.TheVariants as primitive
use Rattle.c_tree.specs.declared.primitive.Width.{Width}
use Rattle.c_tree.specs.declared.primitive.Width.TheVariants.{One, Two, Four, Eight}
use Rattle.c_tree.specs.declared.tree.CType.{CType}
use Rattle.c_tree.specs.declared.tree.CType.TheVariants as type
use Rattle.c_tree.specs.Tree as tree
use Rattle.c_tree.specs.TypesInC.{c_type_of}

abbrev pub bytes_of : Width → ℕ
bytes_of One = 1
bytes_of Two = 2
bytes_of Four = 4
bytes_of Eight = 8

-- the type of what is read and written
abbrev pub type_at : Width → ValType
type_at One = I32
type_at Two = I32
type_at Four = I32
type_at Eight = I64

abbrev pub primitive_name : Primitive → List ℕ
primitive_name primitive.Trap = codes "w2c_trap"
primitive_name primitive.MemNew = codes "w2c_mem_new"
primitive_name primitive.MemLen = codes "w2c_mem_len"
primitive_name primitive.MemMax = codes "w2c_mem_max"
primitive_name primitive.MemGrow = codes "w2c_mem_grow"
primitive_name (primitive.Get One) = codes "w2c_get1"
primitive_name (primitive.Get Two) = codes "w2c_get2"
primitive_name (primitive.Get Four) = codes "w2c_get4"
primitive_name (primitive.Get Eight) = codes "w2c_get8"
primitive_name (primitive.Put One) = codes "w2c_put1"
primitive_name (primitive.Put Two) = codes "w2c_put2"
primitive_name (primitive.Put Four) = codes "w2c_put4"
primitive_name (primitive.Put Eight) = codes "w2c_put8"
primitive_name primitive.TabNew = codes "w2c_tab_new"
primitive_name primitive.TabLen = codes "w2c_tab_len"
primitive_name primitive.TabMax = codes "w2c_tab_max"
primitive_name primitive.TabSig = codes "w2c_tab_sig"
primitive_name primitive.TabFn = codes "w2c_tab_fn"
primitive_name primitive.TabSet = codes "w2c_tab_set"

abbrev takes : List CType → CType → tree.FuncType
takes params result = record { params = params; result = result }

abbrev pub primitive_type : Primitive → tree.FuncType
primitive_type primitive.Trap = takes (type.U32 ∷ []) type.Void
primitive_type primitive.MemNew = takes (type.PtrMem ∷ type.U32 ∷ type.U64 ∷ []) type.Void
primitive_type primitive.MemLen = takes (type.PtrMem ∷ []) type.U64
primitive_type primitive.MemMax = takes (type.PtrMem ∷ []) type.U64
primitive_type primitive.MemGrow = takes (type.PtrMem ∷ type.U32 ∷ []) type.U32
primitive_type (primitive.Get width) = takes (type.PtrMem ∷ type.U64 ∷ []) (c_type_of (type_at width))
primitive_type (primitive.Put width) = takes (type.PtrMem ∷ type.U64 ∷ c_type_of (type_at width) ∷ []) type.Void
primitive_type primitive.TabNew = takes (type.PtrTab ∷ type.U32 ∷ type.U64 ∷ []) type.Void
primitive_type primitive.TabLen = takes (type.PtrTab ∷ []) type.U64
primitive_type primitive.TabMax = takes (type.PtrTab ∷ []) type.U64
primitive_type primitive.TabSig = takes (type.PtrTab ∷ type.U64 ∷ []) type.U64
primitive_type primitive.TabFn = takes (type.PtrTab ∷ type.U64 ∷ []) type.FnPtr
primitive_type primitive.TabSet = takes (type.PtrTab ∷ type.U64 ∷ type.FnPtr ∷ type.U64 ∷ []) type.Void

-- in the order in which the runtime header declares them
abbrev pub all_primitives : List Primitive
all_primitives =
    primitive.Trap
    ∷ primitive.MemNew ∷ primitive.MemLen ∷ primitive.MemMax ∷ primitive.MemGrow
    ∷ primitive.Get One ∷ primitive.Get Two ∷ primitive.Get Four ∷ primitive.Get Eight
    ∷ primitive.Put One ∷ primitive.Put Two ∷ primitive.Put Four ∷ primitive.Put Eight
    ∷ primitive.TabNew ∷ primitive.TabLen ∷ primitive.TabMax ∷ primitive.TabSig ∷ primitive.TabFn ∷ primitive.TabSet
    ∷ []

abbrev pub by_name : Primitive → List ℕ × Primitive
by_name p = (primitive_name p, p)
