-- What proofs of this crate cite of std, of the crates below and of specs/, passed on from one place. Declares nothing.
pub use Rattle.std.proofs.Common.{◌≡◌, ℕ, zero, suc, ◌+◌, ◌-◌, ◌^◌, ◌<◌, ◌≤◌, Bool, true, false, cond, not, ◌&&◌, ◌||◌, ◌≢◌, ◌⊎◌, List, []}
pub use Rattle.std.proofs.Common.{◌∷◌, ◌++◌, map, length, get_or, take, drop, if◌then◌else◌, IsTrue, nat_lt, nat_le, ◌==◌, slice_get, Some}
pub use Rattle.std.proofs.Common.{None, codes, decimal, Contains, filter, Option, zip, flat_map, option_map, bytes_eq, sym, refl, ap, ◌∙◌}
pub use Rattle.std.proofs.Common.{subst, inl, inr, append_assoc, add-one, arith, lit<, drop-cons, w8, Fits, rules, ltb-true}
pub use Rattle.std.proofs.lemmas.Bool.{not-true, or_parts}
pub use Rattle.std.proofs.lemmas.Bool.Decides.{nat_tests}
pub use Rattle.std.proofs.lemmas.Fmt.{decimal_digit, decimal_injective, decimal_is_IsNumeral, digits_value-decimal, first_decimal}
pub use Rattle.std.proofs.lemmas.Str.Parse.{FoldsDigits, digit_from_value, numerals_by_fold, tells_digits}
pub use Rattle.std.specs.List.{AllByRecursion, list_all, list_any, range_with_len}
pub use Rattle.std.specs.Str.Parse.{AllDigits, IsNumeral}
pub use Rattle.w2c_base.proofs.OfEach.{all_append, always, of_contained, of_each}
pub use Rattle.w2c_base.specs.Lookup.{named}
pub use Rattle.c_tree.specs.FirstBroken.{BrokenAt, BrokenRule, IsFirstBroken, IsNotBehind, KeepsRules, broken_in_body, broken_in_item}
pub use Rattle.c_tree.specs.FirstBroken.{broken_in_stmt, broken_of, broken_rules, first_broken}
pub use Rattle.c_tree.specs.Grammar.{Becomes, Move, Of, One, OneByte, OneNumber, Stops, Symbol, Takes, first, here, move, opened, operation}
pub use Rattle.c_tree.specs.Grammar.{taken, value_of}
pub use Rattle.c_tree.specs.Layout.{laid}
pub use Rattle.c_tree.specs.Primitives.{all_primitives, by_name, primitive_name, primitive_type}
pub use Rattle.c_tree.specs.Spelled.{CSpells, CUpto, FitsArg, FitsBody, FitsCallee, FitsExpr, FitsItem, FitsNum, FitsStmt, FitsValue}
pub use Rattle.c_tree.specs.Spelled.{Formed, depth_limit}
pub use Rattle.c_tree.specs.Tests.{arg_formed, body_formed, bytes_formed, call_formed, call_room, callee_formed, case_formed, expr_formed}
pub use Rattle.c_tree.specs.Tests.{is_byte, item_formed, local_formed, named_if_any, number_fits, param_formed, stmt_formed, value_formed}
pub use Rattle.c_tree.specs.Text.{Begins, Front, Gap, Lexeme, and_then, are_digits, comment_end, comment_front, front, is_blank, is_digit}
pub use Rattle.c_tree.specs.Text.{is_include, is_letter, is_word_byte, key_word_among, key_words, lexeme, lexemes, long_signs, longer}
pub use Rattle.c_tree.specs.Text.{number_token, one_sign, other_words, past, run, run_token, short_signs, sign_among, sign_front, tokens}
pub use Rattle.c_tree.specs.Text.{two_sign, word_token}
pub use Rattle.c_tree.specs.Tokens.{Fixed, Named, Number, Token, Wrong, fixed_text, same_tok, suffix_text, token_text}
pub use Rattle.c_tree.specs.Trees.{arg_tokens, call_tokens, callee_tokens, case_tokens, close_tokens, each, expr_tokens, func_tokens}
pub use Rattle.c_tree.specs.Trees.{goto_tokens, item_tokens, local_tokens, maybe_name, num_token, op_token, param_tokens, separated}
pub use Rattle.c_tree.specs.Trees.{static_tokens, stmt_tokens, through_tokens, type_tokens, unit_tokens, value_tokens}
pub use Rattle.c_tree.specs.TypesInC.{c_params_of, c_type_of}
pub use Rattle.c_tree.specs.View.{arg_of, callee_of, expr_of, item_of, unit_of}
pub use Rattle.c_tree.specs.WellFormed.{IsName, IsNamedIfAny, IsWellFormed, NamedArg, NamedBody, NamedCallee, NamedExpr, NamedItem}
pub use Rattle.c_tree.specs.WellFormed.{NamedStmt, is_key_word, is_name}
pub use Rattle.c_tree.specs.declared.token.CReadFault.{CReadFault}
pub use Rattle.c_tree.specs.declared.token.Tok.{Tok}
pub use Rattle.c_tree.specs.declared.tree.COp.{COp}
pub use Rattle.c_tree.specs.declared.tree.CType.{CType}
pub use Rattle.c_tree.specs.declared.tree.Num.{Num}
pub use Rattle.c_tree.specs.declared.tree.Num.TheVariants.{N32, N64, Plain}
