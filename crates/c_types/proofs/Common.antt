-- What proofs of this crate cite of std, of the crates below and of specs/, passed on from one place. Declares nothing.
pub use Rattle.std.proofs.Common.{◌≡◌, ℕ, suc, ◌+◌, ◌<◌, ◌≤◌, Bool, true, false, ◌&&◌, ◌≢◌, List, [], ◌∷◌, ◌++◌, map, length, get_or, drop}
pub use Rattle.std.proofs.Common.{flat_map, sym, refl, ap, ◌∙◌, arith}
pub use Rattle.std.specs.List.{list_all}
pub use Rattle.c_tree.specs.Rules.{arg_has_type, arg_suits, arg_uses, args_suit, is_known, proper_types}
pub use Rattle.c_tree.specs.View.{arg_of}
pub use Rattle.c_scope.specs.ScopeOf.{scope_of}
