-- What proofs of this crate cite of std, of the crates below and of specs/, passed on from one place. Declares nothing.
pub use Rattle.std.proofs.Common.{◌≡◌, ℕ, zero, suc, ◌+◌, ◌-◌, ◌^◌, ◌<◌, ◌≤◌, Bool, true, false, cond, not, ◌&&◌, ◌≢◌, ◌⊎◌, List, [], ◌∷◌}
pub use Rattle.std.proofs.Common.{◌++◌, map, length, IfOk, IfErr, nat_lt, ◌==◌, Some, None, Ok, Err, decimal, Option, Result, MatchResult}
pub use Rattle.std.proofs.Common.{IsErrOf, sym, refl, ap, ◌∙◌, subst, inl, inr, append_assoc, append-nil, arith, rules, ltb-true}
pub use Rattle.std.proofs.lemmas.List.{map_push}
pub use Rattle.std.proofs.lemmas.Result.{err_from_is_err_and}
pub use Rattle.std.specs.List.{AllByRecursion, list_all}
pub use Rattle.c_tree.specs.Grammar.{Becomes, Faulty, Move, Of, One, OneByte, OneNumber, Stops, Symbol, Takes, as_agroup, becoming}
pub use Rattle.c_tree.specs.Grammar.{begins_type, counted, counts, expansion, first, fits, here, is_byte, is_large, is_number, is_plain}
pub use Rattle.c_tree.specs.Grammar.{limit, move, opened, others, taken, taking, too_deep, value_of}
pub use Rattle.c_tree.specs.Spelled.{CSpells, CUpto, FitsArg, FitsBody, FitsCallee, FitsExpr, FitsItem, FitsNum, FitsStmt}
pub use Rattle.c_tree.specs.Text.{Begins, Front, Gap, Lexeme, are_digits, front, is_digit, lexeme, lexemes}
pub use Rattle.c_tree.specs.Tokens.{Fixed, Named, Number, Token, Wrong, kind_of}
pub use Rattle.c_tree.specs.Trees.{arg_tokens, callee_tokens, case_tokens, close_tokens, each, expr_tokens, goto_tokens, item_tokens}
pub use Rattle.c_tree.specs.Trees.{local_tokens, maybe_name, num_token, op_token, param_tokens, separated, static_tokens, stmt_tokens}
pub use Rattle.c_tree.specs.Trees.{type_tokens, unit_tokens}
pub use Rattle.c_tree.specs.View.{arg_of, item_of, stmt_of, unit_of}
pub use Rattle.c_tree.specs.declared.token.CReadFault.{CReadFault}
pub use Rattle.c_tree.specs.declared.token.CReadFault.TheVariants.{Memory, NumberTooLarge, Unexpected, UnitTooLong}
pub use Rattle.c_tree.specs.declared.token.Kind.{Kind}
pub use Rattle.c_tree.specs.declared.token.Part.{Part}
pub use Rattle.c_tree.specs.declared.token.Suffix.{Suffix}
pub use Rattle.c_tree.specs.declared.token.Suffix.TheVariants.{Of32, Of64, OfPlain}
pub use Rattle.c_tree.specs.declared.token.Tok.{Tok}
pub use Rattle.c_tree.specs.declared.tree.CType.{CType}
pub use Rattle.c_lex.specs.Cursor.{is_last}
pub use Rattle.c_lex.specs.Reading.{Outcome, Parser, Reads, and_then, expect, next_kind, num_of, number_at, plain_at}
pub use Rattle.c_read.specs.Items.{close_by, declaration, declarations, inner_by, item, item_by, items, more_bytes, more_params, next_byte}
pub use Rattle.c_read.specs.Items.{next_param, not_end, rest_by, unit}
pub use Rattle.c_read.specs.Lists.{all, and_more, behind_comma, is_comma}
pub use Rattle.c_read.specs.Statements.{after_by, assigned, cases, is_case, not_brace, one_case, return_of, returned_by, statement}
pub use Rattle.c_read.specs.Statements.{statement_by, statements}
