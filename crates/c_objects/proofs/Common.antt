-- What proofs of this crate cite of std, of the crates below and of specs/, passed on from one place. Declares nothing.
pub use Rattle.std.proofs.Common.{◌≡◌, ℕ, zero, suc, ◌<◌, ◌≤◌, Bool, true, false, ◌⊎◌, List, [], ◌∷◌, map, length, get_or, replicate}
pub use Rattle.std.proofs.Common.{if◌then◌else◌, nat_lt, ◌==◌, slice_get, slice_set, Some, None, Option, option_map, zip, bytes_eq, sym}
pub use Rattle.std.proofs.Common.{refl, ap, ◌∙◌, subst, inl, inr, arith, length-set, rules}
pub use Rattle.std.proofs.lemmas.Option.{slice_get_cases, slice_get_read, same_Some}
pub use Rattle.std.specs.List.{AllByRecursion}
pub use Rattle.w2c_base.specs.Lookup.{if_found, named, with_named}
pub use Rattle.c_meaning.specs.Machine.{memory_in, table_in, var_in, with_memory, with_objects, with_table, with_var}
pub use Rattle.c_meaning.specs.Primitives.{Effect, Gives, NoEffect, on_memory, on_table, set_element, tab_new, tab_set}
pub use Rattle.c_meaning.specs.State.{FuncPointer, Machine, Memory, Name, Number, ObjectAddress, Objects, Pointer, Table}
pub use Rattle.c_objects.specs.Calls.{memory_effect, table_effect}
pub use Rattle.c_objects.specs.Objects.{element_of, memory_of, table_of}
pub use Rattle.c_objects.specs.Stores.{AreApart, AreNames, AreStored, Differ, IsStored, machine_of, objects_of, units_of, var_at}
pub use Rattle.c_objects.specs.Views.{Keeps, Naming, UnitNames, address_of, effect_of, func_of, object_name, value_of}
pub use Rattle.c_objects.specs.declared.memory.MemoryCall.{MemoryCall}
pub use Rattle.c_objects.specs.declared.store.UnitObjects.{UnitObjects}
pub use Rattle.c_objects.specs.declared.table.TableCall.{TableCall}
