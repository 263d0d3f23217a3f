-- What proofs of this crate cite of std, of the crates below and of specs/, passed on from one place. Declares nothing.
pub use Rattle.std.proofs.Common.{◌≡◌, ℕ, zero, suc, ◌+◌, ◌-◌, ◌*◌, ◌/◌, ◌%◌, ◌<◌, ◌≤◌, min, Bool, true, false, cond, ◌&&◌, ◌||◌, ◌≢◌, ◌⊎◌}
pub use Rattle.std.proofs.Common.{List, [], ◌∷◌, ◌++◌, map, length, take, drop, is_some, if◌then◌else◌, nat_lt, nat_le, ◌==◌, slice_get}
pub use Rattle.std.proofs.Common.{slice_set, Some, None, codes, All, filter, Option, option_map, find, zip, flat_map, filter_map, bytes_eq}
pub use Rattle.std.proofs.Common.{sym, refl, ap, ◌∙◌, subst, inl, inr, append_assoc, append-nil, arith, length-append, take_at}
pub use Rattle.std.proofs.lemmas.Slice.Eq.{bytes_eq-Decides}
pub use Rattle.std.specs.List.{AllByRecursion, cons_option, list_all, list_any, position_from, range_with_len}
pub use Rattle.std.specs.Prelude.{⊤}
pub use Rattle.w2c_base.proofs.Events.{values_behind}
pub use Rattle.w2c_base.specs.Lookup.{if_found, named, numbered, with_named}
pub use Rattle.w2c_base.specs.Run.{Ask, Asked, Call, CallEnded, Event, Gave, Host, HostFunction, HostTrapped, Init, Phase, Reply, Trail}
pub use Rattle.w2c_base.specs.Run.{asked, values_in}
pub use Rattle.w2c_base.specs.Values.{equal_type, equal_types, is_result, number_of, type_of, types_of}
pub use Rattle.w2c_base.specs.declared.signature.FuncType.{FuncType}
pub use Rattle.w2c_base.specs.declared.value.Value.{Value}
pub use Rattle.w2c_base.specs.declared.value.Value.TheVariants.{I32, I64}
pub use Rattle.w2c_mangle.specs.Symbols.{export_symbol_of, init_symbol_of}
pub use Rattle.c_tree.specs.Runtime.{same_func_type}
pub use Rattle.c_tree.specs.TypesInC.{c_func_type_of, c_result_of, c_type_of}
pub use Rattle.c_meaning.specs.Linking.{Definition, HostSymbol, LinkRefusal, NotDefined, Program, SymbolCall, Twice, TypeDiffers}
pub use Rattle.c_meaning.specs.Linking.{called_func, defined, defined_for_all, definition_at, external_func, external_functions, first}
pub use Rattle.c_meaning.specs.Linking.{first_in, first_refusal, func_named, func_type, hexadecimal_value, host_symbol, host_symbols}
pub use Rattle.c_meaning.specs.Linking.{host_type, init_functions, is_init_symbol, is_module_name, link_refusal, symbols_of, twice}
pub use Rattle.c_meaning.specs.Linking.{type_found, typed, unescaped, unresolved}
pub use Rattle.c_meaning.specs.Machine.{fresh, memory_in, of_type, table_in, var_in, with_depth, with_memory, with_objects, with_table}
pub use Rattle.c_meaning.specs.Machine.{with_trail, with_var}
pub use Rattle.c_meaning.specs.Reaches.{Reaches}
pub use Rattle.c_meaning.specs.Run.{CRun, Ended, Entry, Going, IsGoing, OutOfSteps, Over, Pending, Progress, Stopped, after, begin_entry}
pub use Rattle.c_meaning.specs.Run.{begun, c_run, c_start, came_back, entries_of, go_on, over, run_of, told_end}
pub use Rattle.c_meaning.specs.State.{Bad, CValue, Evaluated, Frame, FuncAddress, FuncPointer, HostFunc, Is, Machine, Memory, Name, NoRule}
pub use Rattle.c_meaning.specs.State.{Number, ObjectAddress, Objects, Place, Pointer, Running, State, Stop, Stuck, Table, UnitFunc, found}
pub use Rattle.c_meaning.specs.State.{of_one_type, then_evaluate}
pub use Rattle.c_meaning.specs.Step.{Back, Next, Step, Stops, are_of_types, c_step, call, is_returned, put_in}
