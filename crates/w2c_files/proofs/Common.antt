-- What proofs of this crate cite of std, of the crates below and of specs/, passed on from one place. Declares nothing.
pub use Rattle.std.proofs.Common.{◌≡◌, ℕ, zero, suc, ◌+◌, ◌-◌, ◌<◌, ◌≤◌, true, List, [], ◌∷◌, ◌++◌, length, take, drop, IsErrAnd, IfErr}
pub use Rattle.std.proofs.Common.{◌==◌, slice_get, slice_index_or, Some, None, Ok, Err, codes, Option, Result, sym, refl, ap, ◌∙◌, subst}
pub use Rattle.std.proofs.Common.{inl, inr, append_assoc, append-nil, arith, take-append-drop, Bor, rules}
pub use Rattle.std.specs.FinMap.{get, insert}
pub use Rattle.std.specs.List.{AllByRecursion}
pub use Rattle.w2c_base.proofs.Places.{around, take_next}
pub use Rattle.w2c_io.proofs.Names.{get_here, get_other, insert_again}
pub use Rattle.w2c_io.proofs.Passed.{begun_in_vain, both_put, file_written, finished_in_vain, nothing_put, one_put, part_behind}
pub use Rattle.w2c_io.proofs.Passed.{part_written, put_in_vain}
pub use Rattle.w2c_io.proofs.Telling.{file_told, no_file_told, rose_from}
pub use Rattle.w2c_io.specs.Contents.{AppendsPart, Contents, HasNoFile, Name, Told, appending, bytes_or_none, holding}
pub use Rattle.w2c_io.specs.Events.{Begin, Event, Finish, Put, Read}
pub use Rattle.w2c_io.specs.Passed.{BreaksOff, FailsOn, Finishes, Passes, PutsPart, PutsText, WritesFile, joined, puts}
pub use Rattle.w2c_io.specs.Telling.{Tells}
pub use Rattle.w2c_io.specs.declared.answers.ReadAnswer.{ReadAnswer}
pub use Rattle.w2c_io.specs.declared.answers.WriteAnswer.{WriteAnswer}
pub use Rattle.w2c_files.specs.Passing.{BreaksOffAt, ReadsAll, ReadsInOrder, ReadsOne, ReadsSome, StopsBy, WritesFiles, WritesSome, limited}
pub use Rattle.w2c_files.specs.Reading.{AreHeld, AreRead, IsUnreadable, Missing, Past, StopsReading, TooLong, Unreadable, total}
pub use Rattle.w2c_files.specs.Standing.{AreDistinct, HasText, IsBegun, IsOneOf, Stands, StandsAt, file_names, written}
pub use Rattle.w2c_files.specs.Stopping.{StopsAt, StopsFile}
pub use Rattle.w2c_files.specs.Words.{names_of}
pub use Rattle.w2c_files.specs.declared.reading.ReadStop.{ReadStop}
