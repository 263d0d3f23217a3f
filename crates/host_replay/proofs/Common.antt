-- What proofs of this crate cite of std, of the crates below and of specs/, passed on from one place. Declares nothing.
pub use Rattle.std.proofs.Common.{◌≡◌, ℕ, zero, suc, ◌+◌, ◌-◌, ◌/◌, ◌%◌, ◌^◌, ◌<◌, ◌≤◌, min, Bool, true, false, cond, not, ◌&&◌, ◌||◌, ◌⊎◌}
pub use Rattle.std.proofs.Common.{List, [], ◌∷◌, ◌++◌, map, length, get_or, take, drop, set, is_some, IfSome, IfOk, if◌then◌else◌, nat_lt}
pub use Rattle.std.proofs.Common.{nat_le, ◌==◌, slice_get, slice_index_or, slice_set, Some, None, Ok, Err, codes, Option, Result}
pub use Rattle.std.proofs.Common.{option_map, find, flat_map, bytes_eq, sym, refl, ap, ◌∙◌, subst, inl, inr, append_assoc, append-nil}
pub use Rattle.std.proofs.Common.{arith, lit<, length-append, length-set, take_all, w8, Fits, Bor, rules, eq-eqb, ne_eqb, eqb-true}
pub use Rattle.std.proofs.lemmas.Bool.{eqb-false, and_from, or_right, or_left}
pub use Rattle.std.proofs.lemmas.List.{length-map, map-append, map_push, same_from_push, take_more, nil_from_length}
pub use Rattle.std.proofs.lemmas.List.Elements.{All-from_recursion, filter-append}
pub use Rattle.std.proofs.lemmas.List.Splits.{length-slice_split}
pub use Rattle.std.proofs.lemmas.Option.{slice_get-get_or, slice_get-map, slice_get_within}
pub use Rattle.std.proofs.lemmas.Slice.Eq.{bytes_eq-Decides}
pub use Rattle.std.specs.List.{AllByRecursion, join_with_byte, list_all, onto_first}
pub use Rattle.w2c_base.proofs.Conjunctions.{both_hold, left_holds, right_holds}
pub use Rattle.w2c_base.proofs.OfEach.{all_append}
pub use Rattle.w2c_base.proofs.Places.{get_front, take_next, right_behind, beside}
pub use Rattle.w2c_base.proofs.Tests.{by_test}
pub use Rattle.w2c_base.specs.Lookup.{if_found, named}
pub use Rattle.w2c_base.specs.Run.{Ask, Call, CallEnded, Event, Gave, Host, HostFunction, HostTrapped, Init, Phase, Reply, Trail, asked}
pub use Rattle.w2c_base.specs.Run.{asks_in}
pub use Rattle.w2c_base.specs.Values.{IsNumber, equal_type, equal_types, is_number, is_result, number_of, type_of, types_of}
pub use Rattle.w2c_base.specs.declared.signature.FuncType.{FuncType}
pub use Rattle.w2c_base.specs.declared.value.ValType.{ValType}
pub use Rattle.w2c_base.specs.declared.value.Value.{Value}
pub use Rattle.name_table.proofs.Lookups.{among-append}
pub use Rattle.c_tree.specs.Rules.{are_distinct}
pub use Rattle.c_tree.specs.Scope.{Name, is_among}
pub use Rattle.c_meaning.proofs.Told.{machine_of}
pub use Rattle.c_meaning.specs.Linking.{Definition, Program, SymbolCall, array_named, definition_at, func_named, func_type, host_type}
pub use Rattle.c_meaning.specs.Machine.{fresh, memory_in, table_in, var_in, with_objects, with_trail, with_var}
pub use Rattle.c_meaning.specs.Run.{CRun, Entry, Going, Over, Pending, Progress, Stopped, after, begin_entry, begun, c_run, c_start}
pub use Rattle.c_meaning.specs.Run.{came_back, entries_of, go_on, over, run_of, told_end}
pub use Rattle.c_meaning.specs.State.{Asks, CValue, Frame, FuncAddress, FuncPointer, Machine, Number, Pointer, State, Stuck, Trapped}
pub use Rattle.c_meaning.specs.declared.reply.HostReply.{HostReply}
pub use Rattle.c_sound.specs.Events.{events_of}
pub use Rattle.crun_lines.specs.HostLines.{function_name, host_name}
pub use Rattle.crun_lines.specs.Views.{texts}
pub use Rattle.journal_lines.proofs.Cutting.{AllLack, cut, cut-first, lacks, lacks-append}
pub use Rattle.journal_lines.proofs.Joins.{joined, words_are_high}
pub use Rattle.journal_lines.proofs.Single.{one_line}
pub use Rattle.journal_lines.specs.Lines.{IsBytes, IsLine, line_text}
pub use Rattle.journal_lines.specs.Words.{function_words, host_words, line_words}
pub use Rattle.journal_lines.specs.declared.line.FunctionLine.{FunctionLine}
pub use Rattle.journal_lines.specs.declared.line.JournalLine.{JournalLine}
pub use Rattle.c_hosts.specs.Asking.{Answered, Answers, function_of, host_of, hosts_of}
pub use Rattle.c_hosts.specs.Journals.{ask_of, event_in, events_in, replies_in, reply_in, reply_of}
pub use Rattle.c_hosts.specs.declared.host.HostModule.{Ghosts as HostModule}
pub use Rattle.c_hosts.specs.declared.journal.Asked.{Asked}
pub use Rattle.host_replay.specs.Fitting.{fits, fits_function, function_at, is_reply}
pub use Rattle.host_replay.specs.Giving.{HasMore, IsGiven}
pub use Rattle.host_replay.specs.Knowing.{Knows}
pub use Rattle.host_replay.specs.Modules.{module_of, modules_of}
pub use Rattle.host_replay.specs.NewFunctions.{IsNewIn}
pub use Rattle.host_replay.specs.Reading.{Adds, AddsEntry, AddsFunction, AddsModule, IsJournal, IsOffered, IsRefused, IsRefusedAt, Read}
pub use Rattle.host_replay.specs.Reading.{Says, empty, ended, lines_of, named_function, symbol_at, symbol_of, with_function}
pub use Rattle.host_replay.specs.Recording.{recorded}
pub use Rattle.host_replay.specs.Replayed.{AreReplays, IsReplayOf, replaying}
pub use Rattle.host_replay.specs.Replaying.{Replays, calls_of, fits_own}
pub use Rattle.host_replay.specs.Runs.{IsAnsweredRun, asked_events, program_with, run_with}
pub use Rattle.host_replay.specs.Samples.{env, tick, ticks}
pub use Rattle.host_replay.specs.Texts.{Recorded, entry_text, function_texts, journal_text, module_text}
pub use Rattle.host_replay.specs.Writable.{AreDistinct, HasName, HasNames, HasNumbers, IsWritable, symbols_of}
pub use Rattle.host_replay.specs.declared.module.JournalModule.{JournalModule}
pub use Rattle.host_replay.specs.declared.replay.ReplayHost.{ReplayHost}
