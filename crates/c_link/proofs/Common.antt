-- What proofs of this crate cite of std, of the crates below and of specs/, passed on from one place. Declares nothing.
pub use Rattle.std.proofs.Common.{◌≡◌, ℕ, zero, suc, ◌+◌, ◌<◌, ◌≤◌, Bool, true, false, cond, not, ◌&&◌, ◌||◌, ◌≢◌, List, [], ◌∷◌, ◌++◌, map}
pub use Rattle.std.proofs.Common.{length, get_or, take, drop, is_some, if◌then◌else◌, slice_get, Some, None, filter, Option, option_map}
pub use Rattle.std.proofs.Common.{zip, flat_map, filter_map, option_copied, bytes_eq, sym, refl, ap, ◌∙◌, subst, append_assoc, arith}
pub use Rattle.std.proofs.Common.{length-take-le, take_all, append-nil}
pub use Rattle.std.proofs.lemmas.Bool.Decides.{nat_tests}
pub use Rattle.std.proofs.lemmas.List.{drop_all, length-map, map-append}
pub use Rattle.std.proofs.lemmas.Option.{slice_get-get_or, slice_get-map}
pub use Rattle.std.proofs.lemmas.Slice.Eq.{bytes_eq-Decides}
pub use Rattle.std.specs.List.{cons_option, list_all, list_any, position_from, range_with_len}
pub use Rattle.std.specs.Option.{option_or}
pub use Rattle.w2c_base.proofs.Conjunctions.{left_holds, right_holds}
pub use Rattle.w2c_base.proofs.NumberedLists.{numbered_at, numbered_many, numbered_past, numbered_push}
pub use Rattle.w2c_base.proofs.Options.{first-append, or_assoc, or_none}
pub use Rattle.w2c_base.proofs.Places.{drop_front, mapped_at, take_next, beside}
pub use Rattle.w2c_base.specs.Lookup.{if_found, named, numbered}
pub use Rattle.w2c_base.specs.Values.{is_number, type_of, types_of}
pub use Rattle.w2c_base.specs.declared.value.Value.{Value}
pub use Rattle.name_table.proofs.Lookups.{among-append, named-append}
pub use Rattle.c_tree.specs.Rules.{are_alike, are_distinct, defines, item_rules}
pub use Rattle.c_tree.specs.Runtime.{same_func_type, same_type, same_types}
pub use Rattle.c_tree.specs.Scope.{Name, is_among, func_type_of as type_of_func}
pub use Rattle.c_tree.specs.TypesInC.{c_params_of, c_type_of}
pub use Rattle.c_tree.specs.View.{func_type_of, item_of, unit_of}
pub use Rattle.c_tree.specs.declared.tree.CType.{CType}
pub use Rattle.c_tree.specs.declared.tree.Item.{Item}
pub use Rattle.c_rules.specs.UnitNames.{none_clash, stands_behind}
pub use Rattle.c_meaning.specs.Linking.{Definition, LinkRefusal, NotDefined, Program, SymbolCall, Twice, TypeDiffers, defined}
pub use Rattle.c_meaning.specs.Linking.{defined_for_all, definition_of, external_func, external_functions, first, first_refusal, fits}
pub use Rattle.c_meaning.specs.Linking.{func_named, is_external, link_refusal, symbols_of, twice, type_found, unresolved}
pub use Rattle.c_meaning.specs.State.{FuncAddress, UnitFunc}
pub use Rattle.c_link.specs.Calls.{signature_of, takes, takes_if_any}
pub use Rattle.c_link.specs.Offers.{Holds, Offered, c_symbol, c_symbols, host_offer, host_offers, item_offer, offered_by, offers, owner_of}
pub use Rattle.c_link.specs.Offers.{told, unit_offers, unit_type_of}
pub use Rattle.c_link.specs.Own.{HaveOwn, Knows}
pub use Rattle.c_link.specs.Programs.{AllChecked, IsChecked, IsProgramOf, address_in}
pub use Rattle.c_link.specs.Refusals.{IsRefusal, first_twice, first_unresolved, in_item, types_in}
pub use Rattle.c_link.specs.declared.host_symbol.HostSymbol.{HostSymbol}
pub use Rattle.c_link.specs.declared.offers.Offer.{Offer}
pub use Rattle.c_link.specs.declared.offers.Owner.{Owner}
