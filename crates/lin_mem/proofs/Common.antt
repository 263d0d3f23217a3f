-- What proofs of this crate cite of std, of the crates below and of specs/, passed on from one place. Declares nothing.
pub use Rattle.std.proofs.Common.{◌≡◌, ℕ, zero, suc, ◌+◌, ◌-◌, ◌*◌, ◌/◌, ◌%◌, ◌<◌, ◌≤◌, List, [], ◌∷◌, ◌++◌, map, length, get_or, take}
pub use Rattle.std.proofs.Common.{drop, set, replicate, Some, None, All, Option, sym, refl, ap, ◌∙◌, subst, append_assoc, arith}
pub use Rattle.std.proofs.Common.{length-append, length-drop, take-append-drop, drop_of_length-le, length-take-le, take_all, drop-drop}
pub use Rattle.std.proofs.Common.{take-add, w32, w64, append-nil}
pub use Rattle.std.proofs.Math.Seq.{drop-append-add, take-append-add, take-append_seam}
pub use Rattle.std.proofs.lemmas.List.Elements.{All-append, All-cons, All-head, All-nil, All-same, All-tail, All-weaker}
pub use Rattle.std.specs.List.{concat}
pub use Rattle.w2c_base.specs.LittleEndian.{low_bytes, with_bytes}
pub use Rattle.lin_mem.specs.Places.{IsFull, somes}
