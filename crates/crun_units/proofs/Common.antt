-- What proofs of this crate cite of std, of the crates below and of specs/, passed on from one place. Declares nothing.
pub use Rattle.std.proofs.Common.{◌≡◌, ℕ, zero, suc, ◌<◌, ◌⊎◌, List, [], ◌∷◌, ◌++◌, map, length, get_or, slice_get, Some, Ok, Err}
pub use Rattle.std.proofs.Common.{string_bytes, Option, sym, refl, ap, ◌∙◌, subst, inl, inr, append-nil, arith}
pub use Rattle.w2c_io.proofs.Passed.{both_passed, passed_so}
pub use Rattle.w2c_io.specs.Contents.{Contents, Name, Told, holding}
pub use Rattle.w2c_io.specs.Passed.{BreaksOff, Passes, WritesFile}
pub use Rattle.w2c_io.specs.Telling.{Tells}
pub use Rattle.c_tree.specs.View.{unit_of}
pub use Rattle.c_print.specs.Print.{print_of}
pub use Rattle.c_trim.specs.Trim.{IsTrimmed}
pub use Rattle.c_link.specs.Offers.{c_symbols}
pub use Rattle.crun_words.specs.CommandLine.{MergeLine, TrimLine}
pub use Rattle.crun_words.specs.Inputs.{AreUnits, NoUnit, StopsUnits, UnitTooLong, UnitsRead, UnitsReading, most_unit_bytes}
pub use Rattle.crun_words.specs.Passing.{GivesUnits, TriesUnits}
pub use Rattle.crun_words.specs.Seen.{seen_merge, seen_trim}
pub use Rattle.crun_words.specs.declared.inputs.InputStop.{InputStop}
pub use Rattle.crun_job.proofs.Each.{many_each, one_first}
pub use Rattle.crun_job.specs.Job.{Job, Run, Stops, Write}
pub use Rattle.crun_job.specs.Lines.{Reason, Refused, Unwritten, WantOfMemory}
pub use Rattle.crun_job.specs.Links.{AreLinked, Symbols}
pub use Rattle.crun_job.specs.Refusals.{RefusesTexts, RefusesUnits}
pub use Rattle.crun_job.specs.Seen.{reason_of, stop_for}
pub use Rattle.crun_job.specs.Stopping.{StopsUnit}
pub use Rattle.crun_job.specs.Texts.{AreUnitTexts, IsRefusedText, IsUnitText}
pub use Rattle.crun_job.specs.declared.refusal.UnitsRefusal.{UnitsRefusal}
pub use Rattle.crun_job.specs.declared.stop.Cause.{Cause}
pub use Rattle.crun_units.specs.Files.{AreUntouched, FilesSeen, files_seen}
pub use Rattle.crun_units.specs.Jobs.{IsBehindUnits, IsMergeJob, IsMerged, IsTrimJob, IsTrimmedText, IsUnitsJob}
pub use Rattle.crun_units.specs.Passing.{IsUnitsJobOver, PassesBy, PassesUnits, WritesOutput, WritesUnit, reason_for}
pub use Rattle.crun_units.specs.Stopping.{StopsWrite}
pub use Rattle.crun_units.specs.Trying.{TriesUnit, done_by, stopped_by}
