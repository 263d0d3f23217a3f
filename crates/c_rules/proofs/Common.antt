-- What proofs of this crate cite of std, of the crates below and of specs/, passed on from one place. Declares nothing.
pub use Rattle.std.proofs.Common.{◌≡◌, ℕ, zero, suc, ◌+◌, ◌<◌, ◌≤◌, Bool, true, false, not, ◌&&◌, ◌||◌, ◌≢◌, List, [], ◌∷◌, ◌++◌, map}
pub use Rattle.std.proofs.Common.{length, get_or, take, drop, is_some, if◌then◌else◌, ◌==◌, slice_get, Some, None, filter, Option}
pub use Rattle.std.proofs.Common.{option_map, zip, flat_map, bytes_eq, sym, refl, ap, ◌∙◌, arith}
pub use Rattle.std.specs.List.{cons_option, list_all, list_any, range_with_len}
pub use Rattle.w2c_base.specs.Lookup.{named, numbered}
pub use Rattle.w2c_base.proofs.Tests.{bytes_eq-sym}
pub use Rattle.c_tree.specs.FirstBroken.{BrokenAt, broken_in_body, broken_in_item, broken_in_stmt, broken_of, first_broken}
pub use Rattle.c_tree.specs.Rules.{Place, are_alike, are_distinct, defines, has_body, is_declared_once, item_rules, may_both_stand}
pub use Rattle.c_tree.specs.Rules.{stmt_rules}
pub use Rattle.c_tree.specs.Runtime.{same_func_type, same_type, same_types}
pub use Rattle.c_tree.specs.Scope.{Scope, func_type_of, name_of}
pub use Rattle.c_tree.specs.declared.tree.CType.{CType}
pub use Rattle.c_rules.specs.UnitNames.{by_names, defined_of, none_clash, stands_behind}
