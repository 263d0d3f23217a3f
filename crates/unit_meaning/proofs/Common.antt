-- What proofs of this crate cite of std, of the crates below and of specs/, passed on from one place. Declares nothing.
pub use Rattle.std.proofs.Common.{◌≡◌, ℕ, zero, suc, ◌+◌, ◌-◌, ◌*◌, ◌/◌, ◌%◌, ◌^◌, ◌<◌, ◌≤◌, Bool, true, false, cond, not, ◌&&◌, ◌||◌, ◌≢◌}
pub use Rattle.std.proofs.Common.{◌⊎◌, List, [], ◌∷◌, ◌++◌, map, reverse, length, take, drop, replicate, is_some, is_none, if◌then◌else◌}
pub use Rattle.std.proofs.Common.{IsSome, slice_get, slice_set, Some, None, codes, All, Contains, filter, Option, option_map, find, zip}
pub use Rattle.std.proofs.Common.{flat_map, filter_map, bytes_eq, sym, refl, ap, ◌∙◌, subst, inl, inr, append_assoc, arith, length-append}
pub use Rattle.std.proofs.lemmas.Bool.Decides.{nat_tests}
pub use Rattle.std.proofs.lemmas.Fmt.{decimal_injective}
pub use Rattle.std.proofs.lemmas.List.{length-map}
pub use Rattle.std.proofs.lemmas.List.Elements.{All-head, All-tail}
pub use Rattle.std.proofs.lemmas.List.FromFn.{length-range_with_len}
pub use Rattle.std.proofs.lemmas.Option.{none-some, same_Some, slice_get_past, slice_get_within}
pub use Rattle.std.proofs.lemmas.Slice.Eq.{bytes_eq-Decides}
pub use Rattle.std.specs.List.{AllByRecursion, cons_option, list_any, position_from, range_with_len}
pub use Rattle.std.specs.Option.{option_or}
pub use Rattle.std.specs.Prelude.{⊤}
pub use Rattle.w2c_base.proofs.Lists.{filter_few, get_behind, get_kept, get_mapped, get_numbered, get_unmapped}
pub use Rattle.w2c_base.proofs.Nothing.{append_none, none_at}
pub use Rattle.w2c_base.proofs.OfEach.{all_append, all_at}
pub use Rattle.w2c_base.proofs.Places.{get_within, some_first, right_behind, take_front, get_front}
pub use Rattle.w2c_base.specs.Lookup.{AreDistinct, at_index, if_found, named, numbered, with_named}
pub use Rattle.w2c_base.specs.Run.{Ask, Call, Event, Gave, Host, HostFunction, Init, Phase, Reply, Trail, asks_in}
pub use Rattle.w2c_base.specs.Run.{call_ended, values_in}
pub use Rattle.w2c_base.specs.Values.{IsNumber, bits, equal_func_types, equal_types, is_result, type_of, types_of, value, zeros}
pub use Rattle.w2c_base.specs.declared.signature.FuncType.{FuncType}
pub use Rattle.w2c_base.specs.declared.trap.TrapKind.{TrapKind}
pub use Rattle.w2c_base.specs.declared.value.ValType.{ValType}
pub use Rattle.w2c_base.specs.declared.value.Value.{Value}
pub use Rattle.w2c_base.specs.declared.value.Value.TheVariants.{I32, I64}
pub use Rattle.w2c_mangle.proofs.SymbolNames.{export_part, export_symbol_of-injective, export_symbol_of-parts, init_symbol_of-injective}
pub use Rattle.w2c_mangle.proofs.SymbolNames.{init_symbol_of-not_export, init_symbol_of-parts}
pub use Rattle.w2c_mangle.specs.Escaping.{escaped, escaped_byte, hexadecimal_digit}
pub use Rattle.w2c_mangle.specs.Symbols.{export_symbol_of, init_symbol_of, kind_letter}
pub use Rattle.w2c_mangle.specs.declared.symbol.SymbolKind.{SymbolKind}
pub use Rattle.w2c_mangle.specs.declared.symbol.SymbolKind.TheVariants.{Func}
pub use Rattle.wasm_tree.proofs.BehindImports.{defined_behind_imports}
pub use Rattle.wasm_tree.proofs.ImportCounts.{global_count}
pub use Rattle.wasm_tree.specs.IndexSpaces.{at_defined, declared_locals, func_of_import, func_space, func_type_in, global_of_import}
pub use Rattle.wasm_tree.specs.IndexSpaces.{global_space, global_type_in, imported_funcs, imported_global_space, imported_globals}
pub use Rattle.wasm_tree.specs.IndexSpaces.{is_func_import, is_global_import, is_memory_import, is_table_import, memory_of_import}
pub use Rattle.wasm_tree.specs.IndexSpaces.{memory_space, table_of_import, table_space, type_in}
pub use Rattle.wasm_tree.specs.Instructions.{Code, GlobalGet, I32Const, I64Const, Kind, end_code, then_code}
pub use Rattle.wasm_tree.specs.NamedModule.{NamedModule}
pub use Rattle.wasm_tree.specs.declared.entries.BodyEntry.{BodyEntry}
pub use Rattle.wasm_tree.specs.declared.entries.ElementEntry.{ElementEntry}
pub use Rattle.wasm_tree.specs.declared.entries.Export.{Export}
pub use Rattle.wasm_tree.specs.declared.entries.ExportKind.{ExportKind}
pub use Rattle.wasm_tree.specs.declared.entries.ExportKind.TheVariants.{Func as ExportFunc, Global as ExportGlobal, Memory as ExportMemory}
pub use Rattle.wasm_tree.specs.declared.entries.ExportKind.TheVariants.{Table as ExportTable}
pub use Rattle.wasm_tree.specs.declared.entries.FuncEntry.{FuncEntry}
pub use Rattle.wasm_tree.specs.declared.entries.GlobalEntry.{GlobalEntry}
pub use Rattle.wasm_tree.specs.declared.entries.Import.{Import}
pub use Rattle.wasm_tree.specs.declared.entries.ImportKind.{ImportKind}
pub use Rattle.wasm_tree.specs.declared.entries.ImportKind.TheVariants.{Func as ImportFunc, Global as ImportGlobal, Memory as ImportMemory}
pub use Rattle.wasm_tree.specs.declared.entries.ImportKind.TheVariants.{Table as ImportTable}
pub use Rattle.wasm_tree.specs.declared.entries.LimitsEntry.{LimitsEntry}
pub use Rattle.wasm_tree.specs.declared.entries.SegmentEntry.{SegmentEntry}
pub use Rattle.wasm_tree.specs.declared.entries.Start.{Start}
pub use Rattle.wasm_tree.specs.declared.tree.Module.{Module}
pub use Rattle.wasm_typing.specs.ModuleFaults.{duplicate_exports, fault_if}
pub use Rattle.wasm_typing.specs.Verdict.{IsValid, bodies_of}
pub use Rattle.c_tree.proofs.SameTypes.{same_c_func_type}
pub use Rattle.c_tree.specs.DefinedNames.{func_name, global_name, memory_name, table_name, pointer_name}
pub use Rattle.c_tree.specs.Makers.{zero_number}
pub use Rattle.c_tree.specs.Rules.{proper_types}
pub use Rattle.c_tree.specs.Runtime.{same_func_type}
pub use Rattle.c_tree.specs.Scope.{Name, func_type_of, is_among}
pub use Rattle.c_tree.specs.TypesInC.{c_params_of, c_result_of, c_type_of}
pub use Rattle.c_tree.specs.declared.tree.CType.{CType}
pub use Rattle.c_tree.specs.declared.tree.CType.TheVariants.{Void}
pub use Rattle.c_tree.specs.declared.tree.Num.TheVariants.{Plain}
pub use Rattle.wasm_meaning.specs.Execution.{Back, CallStops, Called}
pub use Rattle.wasm_meaning.specs.LinkedSet.{External, GlobalAddress, IndexSpaces, Instance, IsFunc, IsGlobal, IsLinked, IsMemory, IsTable}
pub use Rattle.wasm_meaning.specs.LinkedSet.{LinkedSet, ModuleFunc, Resolves, as_func, as_global, as_memory, as_table, export_of, exported}
pub use Rattle.wasm_meaning.specs.LinkedSet.{func_at, global_at, global_type, import_at, instance_of, instances, instances_behind}
pub use Rattle.wasm_meaning.specs.LinkedSet.{meaning_of, memory_at, module_at, offered, spaces_of, table_at, type_at}
pub use Rattle.wasm_meaning.specs.Run.{ListedCall, MakeGlobal, MakeMemory, MakeTable, Take, Task, TestData, TestElements, WriteByte}
pub use Rattle.wasm_meaning.specs.Run.{WriteElement, do_task, is_free, paid, start_tasks, tasks_of}
pub use Rattle.c_meaning.proofs.Lookups.{bytes_differ, bytes_equal, named-with_named}
pub use Rattle.c_meaning.proofs.Ways.{enough, join, stays, less_or_not}
pub use Rattle.c_meaning.specs.Linking.{Definition, HostSymbol, LinkRefusal, NotDefined, Program, SymbolCall, Twice, TypeDiffers}
pub use Rattle.c_meaning.specs.Linking.{array_bytes, array_named, called_func, defined, defined_for_all, definition_at, definition_of}
pub use Rattle.c_meaning.specs.Linking.{definitions, external_func, external_functions, func_named, func_type, host_symbol, host_symbols}
pub use Rattle.c_meaning.specs.Linking.{init_functions, is_init, is_init_symbol}
pub use Rattle.c_meaning.specs.Machine.{fresh, initial_of, is_object}
pub use Rattle.c_meaning.specs.Primitives.{primitive}
pub use Rattle.c_meaning.specs.Reaches.{Reaches}
pub use Rattle.c_meaning.specs.Run.{CRun, Entry, Going, IsGoing, Over, Pending, Progress, after, begin_entry, begun, c_run, c_start}
pub use Rattle.c_meaning.specs.Run.{entries_of, go_on, over, run_of, told_end}
pub use Rattle.c_meaning.specs.State.{CValue, Frame, FuncAddress, HostFunc, Is, Machine, Number, ObjectAddress, Objects, Pointer, Running}
pub use Rattle.c_meaning.specs.State.{State, Stuck, UnitFunc, Vars}
pub use Rattle.c_meaning.specs.Step.{Stops, begin, first_vars, next}
pub use Rattle.alike.specs.Agree.{ElementsAgree, IsCallable, IsDefined, MemoriesAgree, ObjectsAgree, StoresAgree, TablesAgree}
pub use Rattle.alike.specs.Alike.{Alike, AllElementsAlike, FunctionsAlike, MemoriesAlike, OutcomesAlike, StoresAlike, TablesAlike}
pub use Rattle.alike.specs.Alike.{first_global}
pub use Rattle.alike.specs.CallsFollow.{CallFollows, CallsFollow, EndsAlike, GoesOn, SameStop, StopsAlike, Together, call_spare}
pub use Rattle.alike.specs.Passing.{PassesOn, StandsFor, called, core, given}
pub use Rattle.c_helpers.specs.Helpers.{helper_of}
pub use Rattle.c_helpers.specs.Needed.{helpers_of}
pub use Rattle.c_helpers.specs.declared.operation.Helper.{Helper}
pub use Rattle.c_symbols.specs.Objects.{callee, function_name, pointers_of}
pub use Rattle.c_symbols.specs.Symbols.{Typed, accessor_type, c_func_type, c_func_type_if, declared_symbols, export_symbol, export_type}
pub use Rattle.c_symbols.specs.Symbols.{firsts, func_imports, global_accessor_type, global_imports, global_kind, import_symbol, import_type}
pub use Rattle.c_symbols.specs.Symbols.{imported_symbols, is_usable, memory_imports, pointer_type, symbol_type, table_imports}
pub use Rattle.body_forms.specs.Variables.{params_of}
pub use Rattle.body_definition.proofs.Bounds.{within_of}
pub use Rattle.body_definition.specs.Body.{body_of, defined_at, func_of}
pub use Rattle.body_definition.specs.Limits.{HasLimits}
pub use Rattle.body_definition.specs.Needs.{needs_of}
pub use Rattle.c_prelude.proofs.Functions.{made_static}
pub use Rattle.c_tree.specs.DeclaredNames.{vars_in}
pub use Rattle.body_meaning.proofs.Spaces.{ResolvesAs, behind_is, callable_later}
pub use Rattle.alike.specs.Objects.{global_object, memory_object, table_object}
pub use Rattle.body_meaning.specs.Bodies.{BodiesFollow}
pub use Rattle.body_meaning.specs.Serves.{AreServed, Reached}
pub use Rattle.alike.specs.Defines.{Defines}
pub use Rattle.unit_definition.specs.Exports.{accessor, args_from, export_func, external, named_params, param_name, params_from, passes_on}
pub use Rattle.unit_definition.specs.Exports.{result_name, usable_symbol}
pub use Rattle.c_init.specs.Init.{data_name, init_func}
pub use Rattle.init_meaning.specs.InitFollows.{InitFollows}
pub use Rattle.unit_meaning.specs.Instantiation.{IsUntouched, UnitsAreInstantiatedAlike, object_types}
pub use Rattle.init_meaning.specs.Tasks.{and_then, do_tasks}
pub use Rattle.init_meaning.specs.Zeros.{zero_like, zeroed}
pub use Rattle.unit_definition.specs.Items.{bodies, data_of, declaration, items, objects_of, prototype}
pub use Rattle.unit_meaning.specs.Sets.{Forward, IsAcceptedSet, IsListing, NeverStops, Paired, Pairing, UnitsArePaired, UnitsDoTheSame}
pub use Rattle.unit_meaning.specs.Sets.{UnitsLink, UnitsServe, c_run_of, program_of, symbol_call}
pub use Rattle.unit_definition.specs.Accepted.{IsAccepted}
