-- The objects of file scope that a machine holds (C11, 6.2.4 static storage duration, 6.7.9
-- initialisation), and how one of them is read and changed.
use Rattle.std.specs.Prelude.{ℕ, Bool, true, false, ◌||◌, List, [], map, filter_map, is_some, slice_get, slice_set, Option, Some, None}
use Rattle.std.specs.Prelude.{option_map}
use Rattle.w2c_base.specs.declared.value.Value.TheVariants.{I32, I64}
use Rattle.w2c_base.specs.Lookup.{if_found, named, with_named}
use Rattle.w2c_base.specs.Run.{Trail, Reply}
use Rattle.c_tree.specs.declared.tree.CType.{CType}
use Rattle.c_tree.specs.declared.tree.CType.TheVariants as type
use Rattle.c_tree.specs.declared.tree.Num.{Num}
use Rattle.c_tree.specs.declared.tree.Num.TheVariants.{N32, N64, Plain}
use Rattle.c_tree.specs.Tree as tree
use Rattle.c_meaning.specs.State.{Name, ObjectAddress, CValue, Number, Pointer, FuncPointer, Memory, Table, Objects, Machine}
use Rattle.c_meaning.specs.Linking.{Program}

-- what a variable of this type holds where nothing else is said
abbrev pub zero_of : CType → Option CValue
zero_of type.U32 = Some (Number (I32 0))
zero_of type.U64 = Some (Number (I64 0))
zero_of type.PtrU32 = Some (Pointer None)
zero_of type.PtrU64 = Some (Pointer None)
zero_of type.PtrMem = Some (Pointer None)
zero_of type.PtrTab = Some (Pointer None)
zero_of type.FnPtr = Some (FuncPointer None)
zero_of type.Void = None
zero_of type.Mem = None
zero_of type.Tab = None

-- a value of this type. What a pointer points to is looked at where it is used
abbrev pub of_type : CType → CValue → Bool
of_type type.U32 (Number (I32 n)) = true
of_type type.U64 (Number (I64 n)) = true
of_type type.PtrU32 (Pointer to) = true
of_type type.PtrU64 (Pointer to) = true
of_type type.PtrMem (Pointer to) = true
of_type type.PtrTab (Pointer to) = true
of_type type.FnPtr (FuncPointer to) = true
of_type _ _ = false

-- what it holds after its initialiser, which fits the type
abbrev pub initial_of : CType → Num → Option CValue
initial_of type.U32 (N32 n) = Some (Number (I32 n))
initial_of type.U64 (N64 n) = Some (Number (I64 n))
initial_of type.U32 _ = None
initial_of type.U64 _ = None
initial_of ty (Plain n) = zero_of ty
initial_of ty _ = None

abbrev pub file_var : tree.Item → Option (Name × CValue)
file_var (tree.Array name count bytes) = None
file_var (tree.Var ty name None) = option_map (λ v. (name, v)) (zero_of ty)
file_var (tree.Var ty name (Some number)) = option_map (λ v. (name, v)) (initial_of ty number)
file_var (tree.Function f) = None

-- a memory and a table that are not made
abbrev pub no_memory : Memory
no_memory = record { is_made = false; bytes = []; max = 0 }

abbrev pub no_table : Table
no_table = record { is_made = false; elements = []; max = 0 }

abbrev pub file_memory : tree.Item → Option (Name × Memory)
file_memory (tree.Var type.Mem name number) = Some (name, no_memory)
file_memory _ = None

abbrev pub file_table : tree.Item → Option (Name × Table)
file_table (tree.Var type.Tab name number) = Some (name, no_table)
file_table _ = None

abbrev pub objects_of : List tree.Item → Objects
objects_of items = record {
  vars = filter_map file_var items;
  memories = filter_map file_memory items;
  tables = filter_map file_table items;
}

-- before the first statement
abbrev pub fresh : Program → List Reply → Machine
fresh p replies = record { depth = 0; units = map objects_of p.units; trail = record { replies = replies; events = [] } }

abbrev pub with_depth : Machine → ℕ → Machine
with_depth m depth = record { depth = depth; units = m.units; trail = m.trail }

abbrev pub with_trail : Machine → Trail → Machine
with_trail m trail = record { depth = m.depth; units = m.units; trail = trail }

abbrev pub with_objects : Machine → ℕ → (Objects → Objects) → Machine
with_objects m u change = elim (slice_get m.units u) [
  | None ↦ m
  | Some o ↦ record { depth = m.depth; units = slice_set m.units u (change o); trail = m.trail }
]

abbrev pub var_in : Machine → ObjectAddress → Option CValue
var_in m a = if_found (slice_get m.units a.unit) (λ o. named a.name o.vars)

abbrev pub with_var : Machine → ObjectAddress → CValue → Machine
with_var m a v = with_objects m a.unit (λ o.
    record { vars = with_named a.name v o.vars; memories = o.memories; tables = o.tables })

abbrev pub memory_in : Machine → ObjectAddress → Option Memory
memory_in m a = if_found (slice_get m.units a.unit) (λ o. named a.name o.memories)

abbrev pub with_memory : Machine → ObjectAddress → Memory → Machine
with_memory m a new = with_objects m a.unit (λ o.
    record { vars = o.vars; memories = with_named a.name new o.memories; tables = o.tables })

abbrev pub table_in : Machine → ObjectAddress → Option Table
table_in m a = if_found (slice_get m.units a.unit) (λ o. named a.name o.tables)

abbrev pub with_table : Machine → ObjectAddress → Table → Machine
with_table m a new = with_objects m a.unit (λ o.
    record { vars = o.vars; memories = o.memories; tables = with_named a.name new o.tables })

-- an object stands there
abbrev pub is_object : Machine → ObjectAddress → Bool
is_object m a = is_some (var_in m a) || is_some (memory_in m a) || is_some (table_in m a)
