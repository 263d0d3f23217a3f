-- What proofs of this crate cite of std, of the crates below and of specs/, passed on from one place. Declares nothing.
pub use Rattle.std.proofs.Common.{◌≡◌, ℕ, zero, suc, ◌+◌, ◌-◌, ◌*◌, ◌^◌, ◌<◌, ◌≤◌, Bool, true, false, ◌&&◌, ◌⊎◌, List, [], ◌∷◌, ◌++◌, map}
pub use Rattle.std.proofs.Common.{length, take, IfNone, IfOk, slice_get, slice_index_or, Some, None, Ok, Err, string_bytes, codes, All}
pub use Rattle.std.proofs.Common.{Option, Result, option_map, option_and_then, bytes_eq, sym, refl, ap, ◌∙◌, subst, inl, inr, append_assoc}
pub use Rattle.std.proofs.Common.{append-nil, arith, length-append, Bor, rules}
pub use Rattle.std.proofs.lemmas.List.{map_push}
pub use Rattle.std.proofs.lemmas.List.Elements.{All-from_recursion, All-head, All-nil, All-push, All-tail}
pub use Rattle.std.proofs.lemmas.Option.{same_Some, slice_get-get_or, slice_get_within}
pub use Rattle.std.specs.List.{AllByRecursion}
pub use Rattle.clap.specs.Words.{App, Row, app_of, found_of, is_simple_and_free, rows_of, with_rule}
pub use Rattle.w2c_base.proofs.Nothing.{same_parts}
pub use Rattle.w2c_base.proofs.Places.{take_next}
pub use Rattle.w2c_base.specs.declared.value.Value.{Value}
pub use Rattle.w2c_io.proofs.Passed.{both_passed, passed_so}
pub use Rattle.w2c_io.proofs.Telling.{no_file_told, rose_from}
pub use Rattle.w2c_io.specs.Contents.{Contents, HasNoFile, Name, Told}
pub use Rattle.w2c_io.specs.Events.{Event, Read}
pub use Rattle.w2c_io.specs.declared.answers.ReadAnswer.{ReadAnswer}
pub use Rattle.w2c_files.proofs.InOrder.{all_in_order, all_then, both_limited, last_read, longer, some_in_order, unto_last}
pub use Rattle.w2c_files.specs.Passing.{FailsLast, ReadsAll, ReadsInOrder, ReadsSome, StopsBy, limited}
pub use Rattle.w2c_files.specs.Reading.{AreRead, IsUnreadable, Missing, Past, StopsReading, TooLong, total}
pub use Rattle.w2c_files.specs.Words.{names_of, texts}
pub use Rattle.w2c_files.specs.declared.reading.ReadStop.{ReadStop}
pub use Rattle.c_tree.specs.Runtime.{same_type, same_types}
pub use Rattle.c_tree.specs.declared.tree.CType.{CType}
pub use Rattle.c_tree.specs.declared.tree.CType.TheVariants.{Void}
pub use Rattle.program_words.specs.Command.{rows_read, word_option, words_left}
pub use Rattle.crun_words.specs.Arguments.{AreArguments, IsArgument}
pub use Rattle.crun_words.specs.CallLine.{AreNumbers, Call, IsBytes, IsSymbolOf, SayCall, SaysCall, word_of_name, words_in}
pub use Rattle.crun_words.specs.CallsFile.{numbered}
pub use Rattle.crun_words.specs.CommandLine.{line_of, line_of_values}
pub use Rattle.crun_words.specs.Inputs.{AllRead, AreUnits, HasUnits, Held, IsJournalReading, IsLongUnit, IsReading, IsUnitsReading}
pub use Rattle.crun_words.specs.Inputs.{JournalReading, LongCalls, LongJournal, LongUnit, NoJournal, NoUnit, NotThere, Reading, StopsCalls}
pub use Rattle.crun_words.specs.Inputs.{StopsInputs, StopsUnits, UnitTooLong, UnitsRead, UnitsReading, most_calls_bytes, most_journal_bytes}
pub use Rattle.crun_words.specs.Inputs.{most_unit_bytes, most_units_bytes}
pub use Rattle.crun_words.specs.Passing.{GivesInputs, GivesJournal, GivesUnits, IsAway, IsOver, ReadsFile, ReadsUnto, TriesCalls}
pub use Rattle.crun_words.specs.Passing.{TriesInputs, TriesUnits}
pub use Rattle.crun_words.specs.Seen.{seen_line, seen_lines, seen_numbered}
pub use Rattle.crun_words.specs.declared.calls_file.NumberedLine.{NumberedLine}
pub use Rattle.crun_words.specs.declared.inputs.InputStop.{InputStop}
