-- What proofs of this crate cite of std, of the crates below and of specs/, passed on from one place. Declares nothing.
pub use Rattle.std.proofs.Common.{◌≡◌, ℕ, zero, suc, ◌+◌, ◌-◌, ◌*◌, ◌≤◌, Bool, true, false, ◌&&◌, ◌≢◌, ◌⊎◌, List, [], ◌∷◌, ◌++◌, map}
pub use Rattle.std.proofs.Common.{length, get_or, take, drop, replicate, IfOk, IfErr, if◌then◌else◌, OnOk, OnErr, nat_le, slice_get}
pub use Rattle.std.proofs.Common.{Some, None, Ok, Err, string_bytes, codes, Option, Result, MatchOption, zip, option_and_then, bytes_eq}
pub use Rattle.std.proofs.Common.{unwrap_or, sym, refl, ap, ◌∙◌, subst, inl, inr, append_assoc, append-nil, arith, rules, leb-true}
pub use Rattle.std.proofs.lemmas.List.{append_cancel_left, length-map}
pub use Rattle.std.proofs.lemmas.Option.{same_Some}
pub use Rattle.std.proofs.lemmas.Result.{IfErr-weaker, IfOk-weaker, on_ok_weaker}
pub use Rattle.std.specs.List.{AllByRecursion, list_all, list_any, range_with_len}
pub use Rattle.w2c_base.proofs.Places.{take_next}
pub use Rattle.w2c_io.proofs.Passed.{both_passed, file_written, finished_in_vain, part_written, passed_so}
pub use Rattle.w2c_io.specs.Causes.{Faulted, Rose}
pub use Rattle.w2c_io.specs.Contents.{Contents, HasFile, Name, Told, holding}
pub use Rattle.w2c_io.specs.Events.{Begin, Event, Finish, Read}
pub use Rattle.w2c_io.specs.Honest.{AreHonest, Does}
pub use Rattle.w2c_io.specs.Passed.{BreaksOff, Passes, PutsText, WritesFile}
pub use Rattle.w2c_io.specs.Telling.{Says, SaysPart, Tells}
pub use Rattle.w2c_io.specs.declared.answers.ReadAnswer.{ReadAnswer}
pub use Rattle.w2c_io.specs.declared.answers.WriteAnswer.{WriteAnswer}
pub use Rattle.w2c_files.proofs.Passing.{all_some, behind_broken, both_written, broken_some, first_broken, longer_broken, one_written}
pub use Rattle.w2c_files.proofs.Standing.{all_stand, at_before, at_behind, at_first, is_one, one_at, put_part, put_whole, stand_whole}
pub use Rattle.w2c_files.proofs.Standing.{stands_before, stands_behind, whole_begun, written_joined}
pub use Rattle.w2c_files.specs.Passing.{BreaksOffAt, FailsLast, ReadsAll, ReadsSome, StopsBy, WritesFiles, limited}
pub use Rattle.w2c_files.specs.Reading.{AreRead, IsUnreadable, Missing as NotThere, Past, StopsReading, TooLong, Unreadable, total}
pub use Rattle.w2c_files.specs.Standing.{AreDistinct, HasText, IsBegun, IsOneOf, Stands, StandsAt, file_names, written}
pub use Rattle.w2c_files.specs.Words.{names_of, texts}
pub use Rattle.w2c_files.specs.declared.reading.ReadStop.{ReadStop}
pub use Rattle.wasm_tree.specs.Bytes.{AreBytes}
pub use Rattle.wasm_tree.specs.Limits.{most_module_bytes}
pub use Rattle.wasm_tree.specs.declared.tree.Module.{Module}
pub use Rattle.wasm_typing.specs.Verdict.{Accepted, Invalid as is_invalid}
pub use Rattle.wasm_spelling.proofs.Whole.{one_tree}
pub use Rattle.wasm_spelling.specs.declared.fault.Which.TheVariants.{ModuleBytes, SetBytes}
pub use Rattle.w2c_sim.specs.Refusals.{IsRefusal}
pub use Rattle.w2c_sim.specs.Selections.{File, IsTranslated as IsTranslatedFile, TranslationTheorem}
pub use Rattle.w2c_sim.specs.Translation.{IsModuleOf, header_text_of, text_of}
pub use Rattle.wasm2c_words.specs.CommandLine.{FileSet, Generation, Line, Translation, are_names, count_of, generate, generation}
pub use Rattle.wasm2c_words.specs.CommandLine.{in_range, is_set, line_by, line_of, line_of_values, line_with_dir, runtime, set, translate}
pub use Rattle.wasm2c_words.specs.CommandLine.{translation}
pub use Rattle.wasm2c_words.specs.Seen.{seen_generation, seen_line, seen_set, seen_translation}
pub use Rattle.wasm2c_cli.specs.Example.{two_c, two_call, two_files, two_h, two_run, two_wasm, two_words}
pub use Rattle.wasm2c_cli.specs.Job.{AreAccepted, AreReadOf, AreSourcesBy, IsJob, IsJobBy, IsJobOf, Job, Missing, Refused}
pub use Rattle.wasm2c_cli.specs.Job.{TranslatesBy, Usage, Write, Writes, WritesBy, files_of, module_files}
pub use Rattle.wasm2c_cli.specs.Lines.{IsLine, line_for, memory_line, read_line, refused_line, status_of, summary_line, usage_line}
pub use Rattle.wasm2c_cli.specs.Lines.{write_line}
pub use Rattle.wasm2c_cli.specs.Parts.{AreAllTaken, AreTaken, FinishesLine, FinishesWork, HasName, HasPassed, IsAtFile, IsGenerated}
pub use Rattle.wasm2c_cli.specs.Parts.{IsNamed, IsTakenFile, IsTranslated, StopsAccepting, StopsAtFile, StopsAtLimit, StopsAtRead}
pub use Rattle.wasm2c_cli.specs.Parts.{StopsAtRefused, StopsAtUnreadable, StopsReading as StopsByReading, StopsTranslating, StopsWriting}
pub use Rattle.wasm2c_cli.specs.Parts.{SumsUp, SumsUpPart, runtime_under, seen_target, seen_targets}
pub use Rattle.wasm2c_cli.specs.PartsPassing.{AllAccepted, EndsLine, EndsReading, EndsTranslating, EndsWriting, PassesWhole, PassesWork}
pub use Rattle.wasm2c_cli.specs.PartsPassing.{TranslatesAll, TriesLine, TriesReading, TriesTranslating, TriesWork}
pub use Rattle.wasm2c_cli.specs.Passing.{Follows, IsJobOver, IsUnitOf, PassesFor, PassesLine, PutsLinked, PutsLinkedUnits, ReadsFirst}
pub use Rattle.wasm2c_cli.specs.Passing.{ReadsWhole, StopsAfter, StopsByAnswer}
pub use Rattle.wasm2c_cli.specs.Plan.{Target, inputs_of, most_set_bytes, names_of_targets, outputs_of, target, target_in, targets_of}
pub use Rattle.wasm2c_cli.specs.Reasons.{IsAccepted, IsFirstRefused, IsRefused, PassesLimit, PassesLimitBy, reason_for, reason_of}
pub use Rattle.wasm2c_cli.specs.Runtime.{runtime_files, runtime_header, runtime_source}
pub use Rattle.wasm2c_cli.specs.Stops.{Done, Generates, IsInput, IsOutput, KeepsCurrent, StandsOfJob, StopsLine, StopsWork}
pub use Rattle.wasm2c_cli.specs.Top.{Answers, NamesModules}
pub use Rattle.wasm2c_cli.specs.Units.{DoTheSameWithOthers, HoldAll, HoldsText, HoldsUnit, Stand, StandAll, WritesLinkedUnits, WritesUnits}
pub use Rattle.wasm2c_cli.specs.Units.{texts_made}
pub use Rattle.wasm2c_cli.specs.declared.stop.Reason.{Reason}
pub use Rattle.wasm2c_cli.specs.declared.stop.Reason.TheVariants.{Limit}
pub use Rattle.wasm2c_cli.specs.declared.stop.Stop.{Stop}
pub use Rattle.wasm2c_cli.specs.declared.work.Finished.{Finished}
