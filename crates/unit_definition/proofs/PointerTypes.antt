-- The types of pointers to objects: they are no numbers.
use Rattle.unit_definition.proofs.Common.{CType}
use Rattle.c_tree.specs.declared.tree.CType.TheVariants as c_type

-- the pointers to objects: their types are no numbers
pub data IsPointer : CType → Type 0 where
  of_table : IsPointer c_type.PtrTab
  of_memory : IsPointer c_type.PtrMem
  of_u32 : IsPointer c_type.PtrU32
  of_u64 : IsPointer c_type.PtrU64
