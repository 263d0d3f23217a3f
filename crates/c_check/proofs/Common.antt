-- What proofs of this crate cite of std, of the crates below and of specs/, passed on from one place. Declares nothing.
pub use Rattle.std.proofs.Common.{◌≡◌, ℕ, zero, suc, ◌+◌, ◌-◌, ◌<◌, ◌≤◌, Bool, true, false, cond, not, ◌&&◌, ◌||◌, List, [], ◌∷◌, map}
pub use Rattle.std.proofs.Common.{length, get_or, take, drop, is_some, IfOk, ◌==◌, slice_get, Some, None, Option, option_map}
pub use Rattle.std.proofs.Common.{filter_map, bytes_eq, nat_cmp, is_eq, BTreeSet, sym, refl, ap, ◌∙◌, subst, arith, Bor}
pub use Rattle.std.proofs.lemmas.List.{drop_all, length-map}
pub use Rattle.std.specs.BTreeMap.{is_at}
pub use Rattle.std.specs.BTreeSet.{contains}
pub use Rattle.std.specs.List.{list_all, list_any}
pub use Rattle.w2c_base.specs.Lookup.{named}
pub use Rattle.w2c_base.proofs.Places.{mapped_next}
pub use Rattle.c_tree.specs.Rules.{are_alike, are_distinct, are_distinct_numbers, body_variables, case_value, defines, has_body, hides_none}
pub use Rattle.c_tree.specs.Rules.{is_defined_if_static, is_own_name, is_value_type, label_of, labels_of, number_suits}
pub use Rattle.c_tree.specs.Runtime.{same_type, same_types}
pub use Rattle.c_tree.specs.Scope.{name_of}
pub use Rattle.c_tree.specs.View.{body_of, func_of, item_of, maybe_body_of, stmt_of}
pub use Rattle.c_tree.specs.declared.tree.CType.{CType}
pub use Rattle.c_tree.specs.declared.tree.Item.{Item}
pub use Rattle.c_rules.proofs.Clashes.{first_named, none_clash_more, none_named}
pub use Rattle.c_rules.proofs.Onward.{body_none, body_some, declared_once, is_function, items_end, items_more, items_stop}
pub use Rattle.c_rules.proofs.Onward.{items_stop_inside, no_body, stmts_end, stmts_more, stmts_stop, whole_unit}
pub use Rattle.c_rules.specs.FirstRule.{first_in_body, first_in_items, first_in_stmts, item_breaks}
pub use Rattle.c_rules.specs.UnitNames.{FindsFirst, by_name, by_names, defined_name, defined_of, names_of, none_clash, some_name}
pub use Rattle.c_scope.proofs.NextItem.{finds_next, knows_next}
pub use Rattle.c_scope.specs.FileItems.{declared}
pub use Rattle.c_scope.specs.Own.{variable_pair}
pub use Rattle.c_scope.specs.ScopeOf.{scope_of}
pub use Rattle.c_scope.specs.Tables.{Knows}
pub use Rattle.c_scope.specs.declared.own.Variable.{Variable}
pub use Rattle.c_check.specs.Broken.{broken_at}
