-- What proofs of this crate cite of std, of the crates below and of specs/, passed on from one place. Declares nothing.
pub use Rattle.std.proofs.Common.{◌≡◌, ℕ, ◌+◌, ◌<◌, Bool, true, false, cond, ◌&&◌, List, [], ◌∷◌, ◌++◌, map, length, get_or, take, drop}
pub use Rattle.std.proofs.Common.{Contains, Option, option_to_list, Some, None, sym, refl, ap, ◌∙◌, subst, append_assoc, append-nil}
pub use Rattle.std.proofs.Common.{◌≤◌, add-one, arith, drop-cons, rules, inl, inr, Result, Ok, Err, IsSome, IfErr, OnOk, OnErr}
pub use Rattle.w2c_io.proofs.Passed.{front_passed, more_passed, none_passed, nothing_put, part_passed, vain_passed}
pub use Rattle.w2c_io.proofs.Passed.{whole_passed}
pub use Rattle.c_tree.specs.Layout.{laid}
pub use Rattle.c_tree.specs.Spelled.{CSpells, FitsItem, Formed, depth_limit}
pub use Rattle.c_tree.specs.Tokens.{Fixed, Named, Token, fixed_text, kind_of, token_text}
pub use Rattle.c_tree.specs.Tree.{Item}
pub use Rattle.c_tree.specs.Trees.{each, item_tokens, separated, unit_tokens}
pub use Rattle.c_tree.specs.View.{item_of, unit_of}
pub use Rattle.c_print.specs.Header.{line_text, next_type_text}
pub use Rattle.c_print.specs.Page.{ended, items_onto, printed, printed_onto}
pub use Rattle.c_print.specs.Print.{begins_list, closes, ends_block, ends_line, gap, gap_between, is_named, opens, print_item_of, print_of}
pub use Rattle.c_print.specs.declared.page.Page.{Page}
