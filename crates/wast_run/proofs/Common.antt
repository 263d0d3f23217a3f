-- What proofs of this crate cite of std, of the crates below and of specs/, passed on from one place. Declares nothing.
pub use Rattle.std.proofs.Common.{◌≡◌, ℕ, zero, suc, ◌+◌, ◌<◌, ◌≤◌, Bool, true, false, ◌&&◌, ◌≢◌, ◌⊎◌, List, [], ◌∷◌, ◌++◌, map, length}
pub use Rattle.std.proofs.Common.{get_or, take, drop, IfSome, if◌then◌else◌, nat_le, ◌==◌, slice_get, Some, None, Ok, Err}
pub use Rattle.std.proofs.Common.{string_bytes, codes, Option, MatchOption, option_map, find, option_and_then, bytes_eq, sym, refl, ap, ◌∙◌}
pub use Rattle.std.proofs.Common.{subst, inl, inr, append_assoc, append-nil, add-one, arith, length-append, take-append-drop}
pub use Rattle.std.proofs.Common.{length-take-le, take_all, drop-cons, take-suc, Bor, leb-true}
pub use Rattle.std.proofs.lemmas.List.{get_or_default, length-map, map-append}
pub use Rattle.std.proofs.lemmas.Option.{none-some, same_Some}
pub use Rattle.std.specs.FinMap.{get}
pub use Rattle.std.specs.List.{AllByRecursion}
pub use Rattle.w2c_base.proofs.OfEach.{all_append, all_push}
pub use Rattle.w2c_base.specs.Run.{Host, Call as InCall, Reply, values_in}
pub use Rattle.w2c_base.specs.declared.trap.TrapKind.{TrapKind}
pub use Rattle.w2c_base.specs.declared.value.Value.{Value}
pub use Rattle.w2c_base.specs.declared.value.Value.TheVariants.{I32, I64}
pub use Rattle.w2c_io.proofs.Passed.{both_passed, none_passed, passed_so}
pub use Rattle.w2c_io.proofs.Telling.{file_told, long_file_told, no_file_told, rose_from}
pub use Rattle.w2c_io.specs.Causes.{Faulted, Rose}
pub use Rattle.w2c_io.specs.Contents.{Contents, HasFile, HasLongFile, HasNoFile, IsPrefix, Name, Told, extended}
pub use Rattle.w2c_io.specs.Events.{Event, Read}
pub use Rattle.w2c_io.specs.Passed.{Passes}
pub use Rattle.w2c_io.specs.Telling.{Says, SaysPart, Tells}
pub use Rattle.w2c_files.specs.Words.{texts}
pub use Rattle.wasm_tree.specs.Limits.{most_module_bytes}
pub use Rattle.wasm_tree.specs.declared.tree.Module.{Module}
pub use Rattle.wasm_tree.specs.NamedModule.{NamedModule}
pub use Rattle.wasm_typing.specs.Verdict.{Accepted, Invalid, IsValid}
pub use Rattle.wasm_valid.specs.FileVerdict.{FileVerdict}
pub use Rattle.c_tree.specs.View.{unit_of}
pub use Rattle.c_tree.specs.declared.tree.Item.{Item}
pub use Rattle.wasm_meaning.specs.LinkedSet.{External, FuncAddress, HostFunc, Instance, IsLinked, LinkedSet, ModuleFunc, as_func, exported}
pub use Rattle.wasm_meaning.specs.LinkedSet.{func_type, instance_of, instances, instances_behind}
pub use Rattle.wasm_meaning.specs.Run.{Ended, Fits, ListedCall, Stopped, WasmRun, wasm_run}
pub use Rattle.wasm_set.specs.Sets.{named_of, set_of}
pub use Rattle.wasm_set.specs.declared.set_module.SetModule.{SetModule}
pub use Rattle.c_meaning.specs.Linking.{Program, SymbolCall, fits, link_refusal}
pub use Rattle.c_meaning.specs.Run.{CRun, c_run}
pub use Rattle.c_sound.specs.NeverStuck.{AllFit}
pub use Rattle.unit_definition.specs.Items.{items}
pub use Rattle.unit_definition.specs.Accepted.{IsAccepted}
pub use Rattle.unit_meaning.specs.Sets.{IsAcceptedSet, IsListing, NeverStops, UnitsDoTheSame, UnitsLink, program_of, symbol_call}
pub use Rattle.program_words.proofs.Written.{extended_twice, line_cause, none_written, prefix_behind, prefix_in_front, prefix_of_itself}
pub use Rattle.program_words.proofs.Written.{whole_behind}
pub use Rattle.wast_script.specs.CommandLine.{Line, line_of}
pub use Rattle.wast_script.specs.Commands.{Command, ModuleFile}
pub use Rattle.wast_script.specs.Lines.{Reason, Refused, Unread, Unwritten, Usage, WantOfMemory, error_line, fault_status, status_of}
pub use Rattle.wast_script.specs.Scripts.{IsFault, IsScript, most_script_bytes}
pub use Rattle.wast_script.specs.Seen.{reason_of, seen_call, seen_command, seen_commands, seen_line, seen_module, seen_script}
pub use Rattle.wast_script.specs.declared.command.Call.{Call}
pub use Rattle.wast_script.specs.declared.fault.ScriptFault.{ScriptFault}
pub use Rattle.wast_run.specs.Jobs.{Answers, GainedPart, GainsPrefix, GivesFirst, HasReading, IsAnswered, IsJob, IsJobBehind, IsNotThere}
pub use Rattle.wast_run.specs.Jobs.{IsToRead, IsUnread, Job, Refuses, Reported, ReportedPart, Reports, Stops}
pub use Rattle.wast_run.specs.Joined.{HasNoHosts, units_in}
pub use Rattle.wast_run.specs.Judging.{Agrees, says_invalid, says_malformed, tree_of}
pub use Rattle.wast_run.specs.Parts.{GainsLinesBefore, HasItsFile, IsFirstMissing, IsNamed, IsPart, IsPartOfLines, file_of, lines_before}
pub use Rattle.wast_run.specs.Passing.{Answer, AreReadsFor, ComesOver, DoesJob, DoesLine, Ending, EndsSo, IsGiven, IsJobBy, IsNoFile}
pub use Rattle.wast_run.specs.Passing.{IsReadAs, IsReadOf, IsStatusOf, LastLines, LastReads, LeadOver, OnlyReads, PassesFor, ReadsNext}
pub use Rattle.wast_run.specs.Passing.{ReportsOver, StopsIn, WantsMemory, module_read, script_read}
pub use Rattle.wast_run.specs.Ran.{HasRan, StopsAt, alone, came_in, run_of, symbol_of, symbols_in, symbols_of}
pub use Rattle.wast_run.specs.Reading.{HasReportedOver, IsBehindOver, IsFaultBy, IsOfLine, IsStopBy, JudgesFile, JudgesSo, ReadsScript}
pub use Rattle.wast_run.specs.Reading.{StopsOver, StopsRead, StopsScriptOver, StopsTellingOver, TellsOver}
pub use Rattle.wast_run.specs.Report.{AreWords, AreWordsInTime, Asserts, Comes, ComesBy, EndsWith, IsFile, IsJudged, IsTimely, Joins, Keeps}
pub use Rattle.wast_run.specs.Report.{Lead, LeadInTime, Runs, Setting, TrapsIn, Where, accepted_tree, at_first, calls_with, command_line}
pub use Rattle.wast_run.specs.Report.{holds, is_invalid, is_malformed, is_ok, joined, lines_from, lines_of, listed, ok_count, report_of}
pub use Rattle.wast_run.specs.Report.{report_status, set_at, set_with, total_line}
pub use Rattle.wast_run.specs.Runs.{EnoughStepsEndRuns, HasCome, IsLong, IsOver, RunsAreAlike, listed_call, listed_calls, modules_run}
pub use Rattle.wast_run.specs.Runs.{units_run}
pub use Rattle.wast_run.specs.Stages.{HasModuleName, HasRun, IsEndWord, IsReady, IsSound, IsTrapWord, setting_of}
pub use Rattle.wast_run.specs.Stopping.{HasGained, IsUnreadFile, StopsCommand, StopsFile, StopsLine, StopsReport, StopsScript, StopsWords}
pub use Rattle.wast_run.specs.Stopping.{StopsWork}
pub use Rattle.wast_run.specs.Telling.{HasReported, IsBehind, StopsTelling, TellsCommand, TellsPart}
pub use Rattle.wast_run.specs.declared.judging.Judged.{Judged}
pub use Rattle.wast_run.specs.declared.runs.Came.{Came}
pub use Rattle.wast_run.specs.declared.stage.Stage.{Stage}
pub use Rattle.wast_run.specs.declared.word.Word.{Word}
