-- What proofs of this crate cite of std, of the crates below and of specs/, passed on from one place. Declares nothing.
pub use Rattle.std.proofs.Common.{◌≡◌, ℕ, zero, suc, ◌+◌, ◌-◌, ◌*◌, ◌<◌, ◌≤◌, Bool, true, false, cond, not, ◌&&◌, List, [], ◌∷◌, ◌++◌}
pub use Rattle.std.proofs.Common.{length, get_or, take, drop, ◌==◌, slice_index, Some, None, Option, option_map, bytes_eq, sym, refl, ap}
pub use Rattle.std.proofs.Common.{◌∙◌, append_assoc, append-nil, add-one, arith, length-drop, length-take-le, drop-cons, rules}
pub use Rattle.std.specs.List.{list_all, list_any}
pub use Rattle.c_tree.specs.Grammar.{value_of}
pub use Rattle.c_tree.specs.Text.{Begins, Gap, and_then, are_digits, comment_end, comment_front, front, is_blank, is_comment_byte, is_digit}
pub use Rattle.c_tree.specs.Text.{is_letter, is_word_byte, key_word_among, key_words, lexeme, lexemes, long_signs, longer, number_token}
pub use Rattle.c_tree.specs.Text.{one_sign, other_words, past, run, run_token, short_signs, sign_among, sign_front, two_sign, word_token}
pub use Rattle.c_tree.specs.Tokens.{Fixed, Named, Number, Token, Wrong, fixed_text}
pub use Rattle.c_lex.specs.Fixed.{among, sign_of, word_of}
pub use Rattle.c_lex.specs.Front.{in_class, token_of}
