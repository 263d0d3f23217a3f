-- What proofs of this crate cite of std, of the crates below and of specs/, passed on from one place. Declares nothing.
pub use Rattle.std.proofs.Common.{◌≡◌, ℕ, zero, suc, ◌+◌, ◌-◌, ◌<◌, ◌≤◌, Bool, true, false, List, [], ◌∷◌, ◌++◌, map, length}
pub use Rattle.std.proofs.Common.{get_or, take, drop, set, Some, None, filter, Option, sym, refl, ap, ◌∙◌}
pub use Rattle.std.proofs.Common.{arith, length-drop, rules}
pub use Rattle.std.proofs.lemmas.List.{length-map, map-append, map-set}
pub use Rattle.c_tree.specs.View.{stmt_of}
pub use Rattle.c_tree.specs.declared.tree.Stmt.{Stmt}
pub use Rattle.packed_stmts.specs.Gaps.{gap, is_written, written}
