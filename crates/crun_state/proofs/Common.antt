-- What proofs of this crate cite of std, of the crates below and of specs/, passed on from one place. Declares nothing.
pub use Rattle.std.proofs.Common.{◌≡◌, ℕ, zero, suc, ◌+◌, ◌-◌, ◌/◌, ◌<◌, ◌≤◌, List, [], ◌∷◌, ◌++◌, map, length, get_or, take, drop}
pub use Rattle.std.proofs.Common.{slice_get, Some, None, Ok, Err, Option, option_map, zip, flat_map, option_copied, sym, refl, ap, ◌∙◌}
pub use Rattle.std.proofs.Common.{subst, arith, rules, zero-add}
pub use Rattle.std.proofs.lemmas.List.{get_or-map, length-map}
pub use Rattle.std.proofs.lemmas.Option.{slice_get-map}
pub use Rattle.std.specs.List.{AllByRecursion, range_with_len}
pub use Rattle.w2c_base.specs.Run.{Host}
pub use Rattle.w2c_base.proofs.Places.{front_next, front_split, same_at}
pub use Rattle.c_tree.specs.View.{item_of, unit_of}
pub use Rattle.c_tree.specs.declared.tree.Item.{Item}
pub use Rattle.c_objects.specs.Objects.{element_of, memory_of, table_of}
pub use Rattle.c_objects.specs.Views.{Naming, UnitNames, item_name, value_of}
pub use Rattle.crun_lines.specs.StateLines.{element_line, element_lines, length_line, memory_lines, pages_line, row_line, row_lines}
pub use Rattle.crun_lines.specs.StateLines.{state_lines, table_lines, unit_lines, variable_lines}
pub use Rattle.crun_lines.specs.Views.{entry_of}
pub use Rattle.c_hosts.specs.Asking.{host_of, hosts_of}
pub use Rattle.crun_startup.specs.Names.{function_name as name_of_function, names_in, naming_of, unit_names}
pub use Rattle.program_words.proofs.Loops.{AreWritten, all_written, one_more, range_next, range_split, stopped_at}
pub use Rattle.program_words.proofs.Written.{line_as, stops_writing, then_writes, writes_text, wrote_nothing}
pub use Rattle.crun_state.specs.Showing.{cell_lines, entry_at, entry_lines, held_lines, items_at, length_and_elements, lines_at}
pub use Rattle.crun_state.specs.Showing.{lines_at_place, lines_if_made, lines_if_there, lines_in_order, lines_of_objects, lines_of_unit}
pub use Rattle.crun_state.specs.Showing.{name_among, pages_and_rows, table_cell_lines}
