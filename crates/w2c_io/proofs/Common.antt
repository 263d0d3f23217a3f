-- What proofs of this crate cite of std, of the crates below and of specs/, passed on from one place. Declares nothing.
pub use Rattle.std.proofs.Common.{◌≡◌, ℕ, ◌+◌, ◌-◌, ◌<◌, ◌≤◌, Bool, true, false, cond, List, [], ◌∷◌, ◌++◌, length, drop, IfErr, OnOk}
pub use Rattle.std.proofs.Common.{OnErr, IsSome, IsTrue, slice_index_or, slice_set, Some, None, Ok, Err, string_bytes, Option, Result}
pub use Rattle.std.proofs.Common.{nat_cmp, is_eq, sym, refl, ap, ◌∙◌, subst, inl, inr, append_assoc, append-nil, arith, rules}
pub use Rattle.std.proofs.lemmas.List.{drop_all, drop_more}
pub use Rattle.std.specs.Cmp.Lexicographic.{nat_list_cmp_total, slice_cmp}
pub use Rattle.std.specs.FinMap.{get, get-empty, get-insert, insert, nat_cmp-IsAntisymmetric, same_map, slice_cmp-IsAntisymmetric}
pub use Rattle.std.specs.Io.KnownBytes.{Appends, Consumes}
pub use Rattle.w2c_io.specs.Causes.{Rose, WriteCause, name_after_write}
pub use Rattle.w2c_io.specs.Contents.{AppendsPart, Contents, HasFile, HasLongFile, HasNoFile, IsPrefix, Name, Told, appending}
pub use Rattle.w2c_io.specs.Contents.{bytes_or_none, extended}
pub use Rattle.w2c_io.specs.Events.{Begin, Event, Finish, Put, Read}
pub use Rattle.w2c_io.specs.InMemory.{plan_of, sure_contents, sure_current}
pub use Rattle.w2c_io.specs.Stored.{open_name, stored}
pub use Rattle.w2c_io.specs.declared.answers.WriteAnswer.{WriteAnswer}
pub use Rattle.w2c_io.specs.declared.store.Entry.{Entry}
