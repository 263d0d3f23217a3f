-- What proofs of this crate cite of std, of the crates below and of specs/, passed on from one place. Declares nothing.
pub use Rattle.std.proofs.Common.{◌≡◌, ℕ, zero, suc, ◌+◌, ◌-◌, ◌*◌, ◌/◌, ◌%◌, ◌^◌, ◌<◌, min, Bool, true, false, not, ◌&&◌, ◌||◌, ◌≢◌, ◌⊎◌}
pub use Rattle.std.proofs.Common.{List, [], ◌∷◌, ◌++◌, map, length, take, drop, replicate, is_some, if◌then◌else◌, nat_lt, nat_le}
pub use Rattle.std.proofs.Common.{slice_get, slice_set, Some, None, filter, Option, option_map, zip, flat_map, filter_map, bytes_eq}
pub use Rattle.std.proofs.Common.{sym, refl, ap, ◌∙◌, subst, append_assoc, append-nil, arith, length-append}
pub use Rattle.std.proofs.lemmas.List.{length-map, map-append, map-set}
pub use Rattle.std.proofs.lemmas.List.Elements.{filter-append, filter_map-append}
pub use Rattle.std.proofs.lemmas.Option.{same_Some, slice_get-map}
pub use Rattle.std.proofs.lemmas.Slice.Eq.{bytes_eq-Decides}
pub use Rattle.std.specs.List.{cons_option, position_from, range_with_len}
pub use Rattle.std.specs.Option.{option_or}
pub use Rattle.std.specs.Prelude.{⊤}
pub use Rattle.w2c_base.proofs.Conjunctions.{both_hold, right_holds}
pub use Rattle.w2c_base.proofs.Options.{first-append, is_some_map, map_itself, option_itself, or_map, or_none}
pub use Rattle.w2c_base.specs.Lookup.{if_found, named, numbered, with_named}
pub use Rattle.w2c_base.specs.Run.{Ask, Call, Event, Gave, Host, HostTrapped, Init, Phase, Reply, Trail, asked, call_ended}
pub use Rattle.w2c_base.specs.Values.{equal_type, is_result, number_of, type_of, value}
pub use Rattle.w2c_base.specs.declared.value.Value.{Value}
pub use Rattle.w2c_base.specs.declared.value.Value.TheVariants.{I32, I64}
pub use Rattle.c_tree.specs.Runtime.{depth_name, same_func_type}
pub use Rattle.c_tree.specs.Scope.{func_type_of}
pub use Rattle.c_tree.specs.TypesInC.{c_func_type_of}
pub use Rattle.c_tree.specs.declared.tree.CType.TheVariants.{Void}
pub use Rattle.c_tree.specs.declared.tree.Num.{Num}
pub use Rattle.c_meaning.proofs.Lookups.{bytes_differ, bytes_equal, named-with_another, named-with_named}
pub use Rattle.c_meaning.specs.Linking.{Definition, HostSymbol, Program, SymbolCall, array_bytes, array_named, called_func, defined}
pub use Rattle.c_meaning.specs.Linking.{defined_for_all, definition_at, definition_of, definitions, external_func, fits, func_named}
pub use Rattle.c_meaning.specs.Linking.{func_type, host_symbol, host_symbols, init_functions, is_external, is_init, is_init_symbol, typed}
pub use Rattle.c_meaning.specs.Machine.{file_memory, file_table, file_var, fresh, initial_of, is_object, memory_in, objects_of, of_type}
pub use Rattle.c_meaning.specs.Machine.{table_in, var_in, with_depth, with_memory, with_objects, with_table, with_trail, with_var, zero_of}
pub use Rattle.c_meaning.specs.Primitives.{Effect, Gives, IsUndefined, NoEffect, Traps, primitive, primitives}
pub use Rattle.c_meaning.specs.Run.{Ended, Entry, Going, OutOfSteps, Outcome, Over, Pending, Progress, Stopped, after, begin_entry, begun}
pub use Rattle.c_meaning.specs.Run.{c_run, c_start, came_back, entries_of, go_on, over, run_of, told_end}
pub use Rattle.c_meaning.specs.State.{Asks, Bad, CValue, Element, Evaluated, Frame, FuncAddress, FuncPointer, HostFunc, Is, Machine, Memory}
pub use Rattle.c_meaning.specs.State.{Name, NoRule, Number, ObjectAddress, Objects, Place, Pointer, Running, State, Stuck, Table, Trapped}
pub use Rattle.c_meaning.specs.State.{Undefined, UnitFunc, Vars, found, then_evaluate}
pub use Rattle.c_meaning.specs.Step.{Back, Next, Step, Stops, act, after_label, are_of_types, as_object, ask, assign, assign_depth, at_rest}
pub use Rattle.c_meaning.specs.Step.{begin, bind, c_step, call, call_callee, call_named, call_through, element, evaluate, evaluate_arg}
pub use Rattle.c_meaning.specs.Step.{evaluate_args, first_vars, give, in_unit, jump, label_of, locals_of, next, number_in, numbers, put_in}
pub use Rattle.c_meaning.specs.Step.{param_names, param_types, place_of, replied, returned, take_effect, value_of, with_value, with_vars}
pub use Rattle.c_renaming.specs.Externals.{Elsewhere, Here, KeepsExternals, StandsFor, definer}
pub use Rattle.c_renaming.specs.Kept.{Each, Holds, KeptArg, KeptCallee, KeptDefinition, KeptFrames, KeptFunc, KeptRunning, KeptStmt}
pub use Rattle.c_renaming.specs.Kept.{KeptTable, KeptValue, KeptVars}
pub use Rattle.c_renaming.specs.Merging.{Foreign, IsDefinedOnce, KeepsSeen, MayMerge, MayUse, Own, TellsUnits, WhereDefined, joined, merged}
pub use Rattle.c_renaming.specs.Merging.{merging}
pub use Rattle.c_renaming.specs.ObjectNames.{AreDistinct, ObjectNames, declared_names, names_of}
pub use Rattle.c_renaming.specs.Parts.{IsApart, IsMadeOf, KeptItem, Numbered, Placed, PlacedAt, item_stays, part}
pub use Rattle.c_renaming.specs.Renames.{KeepsBegins, KeepsMeanings, KeepsNames, Renames}
pub use Rattle.c_renaming.specs.Renaming.{Renaming, address, place}
pub use Rattle.c_renaming.specs.Same.{SameMachine, SameRun, SameState, SameStep}
