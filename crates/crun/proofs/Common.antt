-- What proofs of this crate cite of std, of the crates below and of specs/, passed on from one place. Declares nothing.
pub use Rattle.std.proofs.Common.{◌≡◌, ℕ, zero, suc, ◌+◌, ◌-◌, ◌<◌, ◌≤◌, Bool, true, false, not, ◌&&◌, ◌||◌, List, [], ◌∷◌, ◌++◌, map}
pub use Rattle.std.proofs.Common.{length, get_or, take, drop, is_some, if◌then◌else◌, slice_get, slice_index_or, Some, None, Err, Option}
pub use Rattle.std.proofs.Common.{MatchOption, option_map, zip, flat_map, option_copied, bytes_eq, sym, refl, ap, ◌∙◌, subst, append_assoc}
pub use Rattle.std.proofs.Common.{append-nil, arith, length-append, take-append-drop, take_all}
pub use Rattle.std.proofs.lemmas.List.{append_cancel_left, length-map, map-append, map_push}
pub use Rattle.std.proofs.lemmas.Option.{slice_get-get_or, slice_get-map}
pub use Rattle.std.specs.List.{range_with_len}
pub use Rattle.std.specs.Option.{option_or}
pub use Rattle.w2c_base.proofs.Events.{asks_behind, values_behind}
pub use Rattle.w2c_base.proofs.NumberedLists.{numbered_at, numbered_many, numbered_push}
pub use Rattle.w2c_base.proofs.OfEach.{all_at, all_from}
pub use Rattle.w2c_base.proofs.Places.{drop_front, take_next}
pub use Rattle.w2c_base.specs.Lookup.{if_found, named, numbered}
pub use Rattle.w2c_base.specs.Run.{Ask, Call, CallEnded, Event, Host, Init, Phase, Reply, Trail, asks_in, values_in}
pub use Rattle.w2c_base.specs.declared.value.Value.{Value}
pub use Rattle.c_tree.specs.Rules.{are_distinct, is_void}
pub use Rattle.c_tree.specs.TypesInC.{c_func_type_of}
pub use Rattle.c_tree.specs.View.{unit_of}
pub use Rattle.c_meaning.specs.Linking.{Definition, Program, SymbolCall, called_func, definition_at, init_functions, link_refusal}
pub use Rattle.c_meaning.specs.Linking.{symbols_of}
pub use Rattle.c_meaning.specs.Machine.{fresh}
pub use Rattle.c_meaning.specs.Run.{CRun, Ended, Entry, Going, OutOfSteps, Over, Pending, Progress, after, begin_entry, begun, c_run}
pub use Rattle.c_meaning.specs.Run.{c_start, came_back, entries_of, go_on, over, run_of}
pub use Rattle.c_meaning.specs.State.{CValue, FuncAddress, HostFunc, Machine, Name, Number, Objects, State, Stuck, UnitFunc, Vars}
pub use Rattle.c_meaning.specs.State.{Frame as Waiting}
pub use Rattle.c_meaning.specs.Step.{Step, Stops, begin, call, first_vars, next}
pub use Rattle.c_sound.proofs.Runs.{after_typed, all_inits_begin, call_fits, entry_typed}
pub use Rattle.c_sound.specs.Typed.{Begins, TypedMachine, TypedProgram, TypedRun, may_end}
pub use Rattle.c_objects.specs.Objects.{memory_of, table_of}
pub use Rattle.c_objects.specs.Stores.{AreStored, machine_of, objects_of, units_of}
pub use Rattle.c_objects.specs.Views.{Naming, UnitNames, item_name, value_of}
pub use Rattle.c_objects.specs.declared.store.UnitObjects.{UnitObjects}
pub use Rattle.c_machine.specs.Names.{Finds, found_at, number_in}
pub use Rattle.c_thread.specs.Linked.{HaveUnitTables, IsLinked, begun_in, below_in, items_at, machine_in, running_in, state_in}
pub use Rattle.c_thread.specs.declared.control.LinkedUnit.{LinkedUnit}
pub use Rattle.c_thread.specs.declared.linked.LinkedThread.{LinkedThread}
pub use Rattle.c_hosts.proofs.Offers.{answered_keep, asks_on}
pub use Rattle.c_hosts.specs.Asking.{function_of, host_of, hosts_of}
pub use Rattle.c_hosts.specs.Journals.{ask_of, event_in, events_in, replies_in, reply_in}
pub use Rattle.c_hosts.specs.Running.{Asks, IsThread, Runs, RunsPart, step_at, trail_before, trail_behind}
pub use Rattle.c_hosts.specs.declared.host.HostModule.{Ghosts as HostModule}
pub use Rattle.c_hosts.specs.declared.journal.Asked.{Asked}
pub use Rattle.crun_startup.specs.Called.{AreSymbols}
pub use Rattle.crun_startup.specs.Entries.{HaveCounts}
pub use Rattle.crun_startup.specs.Inits.{UnitItem, address_in}
pub use Rattle.crun_startup.specs.Names.{naming_of, unit_names}
pub use Rattle.crun.specs.Engines.{BeginsWith, Came, FunctionCame, FunctionCamePart, IfEnded, IsReady, IsStarted, SameProgram, begins_at}
pub use Rattle.crun.specs.Engines.{entry_in, machine_at, machine_with, naming_in, outcome_in, program_in, units_at}
pub use Rattle.crun.specs.HostSymbols.{AreKnown, IsFirstTwice, IsTwiceAt, symbol_in, symbols_of_host, symbols_of_hosts}
pub use Rattle.crun.specs.Sessions.{AreBegun, BehindAt, IfOver, IsFirst, IsOutcome, Keeps, Stands, init_count, last_value, phase_of}
pub use Rattle.crun.specs.Sessions.{program_of, standing_of, told_by, trail_of}
pub use Rattle.crun.specs.Shown.{AreFound, memories_of, object_in, tables_of, vars_of}
pub use Rattle.crun.specs.declared.engine.Engine.{Engine}
pub use Rattle.crun.specs.declared.outcome.Outcome.{Outcome}
pub use Rattle.crun.specs.declared.outcome.Standing.{Standing}
