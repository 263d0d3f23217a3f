-- What proofs of this crate cite of std, of the crates below and of specs/, passed on from one place. Declares nothing.
pub use Rattle.std.proofs.Common.{◌≡◌, ℕ, ◌+◌, ◌<◌, ◌≤◌, Bool, true, false, ◌||◌, List, [], ◌∷◌, ◌++◌, map, length, get_or, take, drop}
pub use Rattle.std.proofs.Common.{is_some, if◌then◌else◌, Some, None, codes, Option, option_map, filter_map, bytes_eq, sym, refl, ap, ◌∙◌}
pub use Rattle.std.proofs.Common.{Bor}
pub use Rattle.std.specs.Option.{option_or}
pub use Rattle.w2c_base.specs.Lookup.{named}
pub use Rattle.w2c_base.proofs.Options.{or_none}
pub use Rattle.name_table.proofs.Lookups.{among-append, found_left, found_of_four, found_right, named-append}
pub use Rattle.c_tree.specs.Scope.{array_of, func_type_of, function_of, local_variables, param_variables, variable_of}
pub use Rattle.c_tree.specs.View.{body_of, func_of, item_of}
pub use Rattle.c_scope.specs.FileItems.{declared}
pub use Rattle.c_scope.specs.Own.{locals_of, params_of, variable_pair}
pub use Rattle.c_scope.specs.Tables.{functions_of, variables_of}
