-- What proofs of this crate cite of std, of the crates below and of specs/, passed on from one place. Declares nothing.
pub use Rattle.std.proofs.Common.{◌≡◌, ℕ, zero, suc, ◌+◌, ◌-◌, ◌<◌, ◌≤◌, Bool, true, false, not, ◌&&◌, ◌||◌, ◌⊎◌, List, [], ◌∷◌, ◌++◌, map}
pub use Rattle.std.proofs.Common.{length, get_or, take, drop, is_some, IfSome, if◌then◌else◌, slice_get, Some, None, Ok, Err, string_bytes}
pub use Rattle.std.proofs.Common.{codes, Option, MatchOption, option_map, option_and_then, bytes_eq, sym, refl, ap, ◌∙◌, subst, inl, inr}
pub use Rattle.std.proofs.Common.{append_assoc, append-nil, arith, length-take-le, take_all, drop_at, rules, leb-true, le_refl, le_trans}
pub use Rattle.std.proofs.Common.{le_of_eq}
pub use Rattle.std.proofs.lemmas.List.{length-map, map-append}
pub use Rattle.std.specs.FinMap.{get}
pub use Rattle.std.specs.List.{list_all, position_from}
pub use Rattle.w2c_base.proofs.Events.{asks_behind, values_behind}
pub use Rattle.w2c_base.specs.Run.{Ask, Call, CallEnded, Event, Host, HostFunction, Init, Phase, Reply, asks_in, values_in}
pub use Rattle.w2c_base.specs.declared.value.Value.{Value}
pub use Rattle.w2c_base.specs.declared.value.Value.TheVariants.{I32, I64}
pub use Rattle.w2c_base.proofs.Places.{mapped_next, front_next, front_split}
pub use Rattle.w2c_io.proofs.Passed.{both_passed, none_passed, passed_so}
pub use Rattle.w2c_io.specs.Causes.{Faulted, Rose}
pub use Rattle.w2c_io.specs.Contents.{Contents, Name, Told, extended, holding}
pub use Rattle.w2c_io.specs.Passed.{BreaksOff, Passes, WritesFile}
pub use Rattle.w2c_io.specs.Telling.{Says, SaysPart, Tells}
pub use Rattle.w2c_io.specs.declared.answers.WriteAnswer.{WriteAnswer}
pub use Rattle.w2c_files.proofs.InOrder.{first_in_order, longer}
pub use Rattle.w2c_files.specs.Passing.{FailsLast, ReadsInOrder, limited}
pub use Rattle.w2c_files.specs.Standing.{IsBegun, IsOneOf}
pub use Rattle.w2c_files.specs.Words.{names_of, texts}
pub use Rattle.c_tree.specs.Rules.{are_distinct}
pub use Rattle.c_tree.specs.Spelled.{CSpells}
pub use Rattle.c_tree.specs.View.{unit_of}
pub use Rattle.c_print.specs.Print.{print_of}
pub use Rattle.c_meaning.specs.Linking.{Program, SymbolCall, defined_for_all, definition_at}
pub use Rattle.c_meaning.specs.Run.{CRun, Ended, Entry, OutOfSteps, Over, Pending, Progress, Stopped, after, begin_entry, begun, c_run}
pub use Rattle.c_meaning.specs.Run.{entries_of, over, run_of}
pub use Rattle.c_meaning.specs.Samples.{call_with, division, env, host_call}
pub use Rattle.c_meaning.specs.State.{Machine, Number, Stuck, Trapped, Undefined, UnitFunc}
pub use Rattle.c_link.specs.Offers.{c_symbols}
pub use Rattle.c_link.specs.Resolved.{symbol_names}
pub use Rattle.c_link.specs.declared.host_symbol.HostSymbol.{HostSymbol}
pub use Rattle.crun_lines.proofs.Events.{event_lines_append}
pub use Rattle.crun_lines.specs.CallLines.{ended_line, last_line}
pub use Rattle.crun_lines.specs.RunLines.{event_lines, lines_of}
pub use Rattle.crun_lines.specs.Views.{phase_of}
pub use Rattle.c_hosts.specs.Asking.{Answered, Keeps, host_of, hosts_of}
pub use Rattle.c_hosts.specs.Journals.{ask_of, event_in, events_in, replies_in, reply_in}
pub use Rattle.c_hosts.specs.Running.{Asks}
pub use Rattle.c_hosts.specs.declared.host.HostModule.{Ghosts as HostModule}
pub use Rattle.c_hosts.specs.declared.journal.Asked.{Asked}
pub use Rattle.host_replay.proofs.Again.{asked-append, asks_again}
pub use Rattle.host_replay.proofs.Distinct.{symbols_distinct}
pub use Rattle.host_replay.proofs.Given.{hosts_same}
pub use Rattle.host_replay.proofs.Verdicts.{none_distinct, one_read, one_refused, read_distinct, read_or_refused}
pub use Rattle.host_replay.specs.Fitting.{fits}
pub use Rattle.host_replay.specs.Reading.{IsJournal, empty, lines_of as journal_lines_of, symbol_of}
pub use Rattle.host_replay.specs.Recording.{recorded}
pub use Rattle.host_replay.specs.Replayed.{AreReplays, replaying}
pub use Rattle.host_replay.specs.Runs.{IsAnsweredRun, asked_events, run_with}
pub use Rattle.host_replay.specs.Texts.{Recorded, journal_text}
pub use Rattle.host_replay.specs.Writable.{AreDistinct}
pub use Rattle.host_replay.specs.declared.file.JournalFile.{JournalFile}
pub use Rattle.host_replay.specs.declared.replay.ReplayHost.{ReplayHost}
pub use Rattle.crun.specs.Engines.{machine_with, place_of}
pub use Rattle.crun.specs.HostSymbols.{IsTwiceAt, symbol_in, symbols_of_host, symbols_of_hosts}
pub use Rattle.crun.specs.Sessions.{IsEnd, IsLast, IsOutcome, Stands, State, objects_of, program_of, standing_of, told_by, trail_of}
pub use Rattle.crun.specs.declared.outcome.Outcome.{Outcome}
pub use Rattle.program_words.proofs.Loops.{AreWritten, mapped_split, one_more, stopped_at}
pub use Rattle.program_words.proofs.Written.{line_as, part_behind, part_in_front, says_nothing, then_writes, whole_behind}
pub use Rattle.crun_words.proofs.InputStops.{one_journal_reading, one_reading}
pub use Rattle.crun_words.proofs.Passing.{inputs_in_order, journal_in_order, journal_read}
pub use Rattle.crun_words.specs.CommandLine.{Line, MergeLine, RunLine, TrimLine, line_of, merges, runs, trims}
pub use Rattle.crun_words.specs.Inputs.{AllRead, AreInputs, Held, IsInput, IsJournalReading, IsReading, IsUnitsReading, JournalReading}
pub use Rattle.crun_words.specs.Inputs.{LongCalls, LongJournal, LongUnit, NoJournal, NoUnit, NotThere, Reading, StopsInputs, UnitTooLong}
pub use Rattle.crun_words.specs.Inputs.{UnitsRead, UnitsReading, most_calls_bytes, most_journal_bytes, most_unit_bytes, most_units_bytes}
pub use Rattle.crun_words.specs.Passing.{GivesInputs, GivesJournal, ReadsFile, TriesInputs, TriesJournal}
pub use Rattle.crun_words.specs.Seen.{seen_line, seen_merge, seen_run, seen_trim}
pub use Rattle.crun_words.specs.declared.inputs.InputStop.{InputStop}
pub use Rattle.crun_job.specs.Job.{IsTextsJob, Job, Run, Stops, Write}
pub use Rattle.crun_job.specs.Lines.{CallsLine, CallsTooLong, JournalLine, JournalTooLong, Reason, Refused, Unread, Unwritten, Usage}
pub use Rattle.crun_job.specs.Lines.{WantOfMemory, error_line, status_of}
pub use Rattle.crun_job.specs.Seen.{call_seen, calls_seen, reason_of, stop_for}
pub use Rattle.crun_job.specs.Stopping.{StopsTexts}
pub use Rattle.crun_units.proofs.Passing.{by_so, units_so, units_wanting}
pub use Rattle.crun_units.specs.Files.{AreUntouched, FilesSeen, files_seen}
pub use Rattle.crun_units.specs.Jobs.{IsBehindUnits, IsMergeJob, IsMerged, IsTrimJob, IsTrimmedText, IsUnitsJob}
pub use Rattle.crun_units.specs.Passing.{IsUnitsJobOver, PassesUnits, WritesOutput, reason_for}
pub use Rattle.crun_units.specs.Stopping.{IsUnitPart, StopsWrite}
pub use Rattle.crun_units.specs.Trying.{done_by, stopped_by}
pub use Rattle.crun_cli.specs.Again.{AsksAgain, GainsTheSame, IsTheSame, ReplaysJournal, RunsAgain}
pub use Rattle.crun_cli.specs.Ends.{AreOffered, Begun, BegunIfAny, By_refusal, By_run, By_unit, Finished, HasAnswer, HasPlayed}
pub use Rattle.crun_cli.specs.Ends.{HasPlayedPart, IsAnswered, IsJobWith, IsJournaled, IsKept, IsRun, IsRunStatus, IsUnread, IsUnwritten}
pub use Rattle.crun_cli.specs.Ends.{Ran, RanPart, Refuses, WithHosts, WithHostsBy, WrotePart, journal_of}
pub use Rattle.crun_cli.specs.Files.{HasReading, IsReadBy, IsToRead, IsToWrite, IsUnitFile, IsUnitOf, IsWrittenBy}
pub use Rattle.crun_cli.specs.Jobs.{HoldsJournal, IsJob, IsJobBehind, IsJobBy, IsJobOfTexts, IsLineJob, IsReplayJob, IsRunJob, symbols_of}
pub use Rattle.crun_cli.specs.Outside.{IsUntouched, Outside, SinkSeen, outside}
pub use Rattle.crun_cli.specs.Passing.{BreaksJournal, IsReadLast, IsRunJobOver, PassesFor, PassesLine, PassesRun, PassesWords, ReadsMore}
pub use Rattle.crun_cli.specs.Passing.{StopsFor, StopsQuietly, WritesJournal, WritesOfRun, WritesRun, journal_to_read, run_reads}
pub use Rattle.crun_cli.specs.Recording.{AreToFill, HasAsked, HasPartLeaving, HasRecorded, HasTaken, IsBlank, IsBlankFor, IsFilled, IsNamed}
pub use Rattle.crun_cli.specs.Recording.{IsText, IsWritten, IsWrittenPart}
pub use Rattle.crun_cli.specs.Runs.{HasPart, HasRun, HasStatus}
pub use Rattle.crun_cli.specs.Stopping.{IsRunUnwritten, IsTextsPart, IsTextsRun, StopsReplay, StopsRun, StopsWork}
pub use Rattle.crun_cli.specs.Trying.{GivesReplays, PutsJournal, PutsJournalPart, TriesReplay, WritesOfTexts, WritesOfTextsJob, ended_by}
pub use Rattle.crun_cli.specs.Views.{asked_line, asks_lines, end_line, lines_behind, outcome_line, status_of_outcome}
