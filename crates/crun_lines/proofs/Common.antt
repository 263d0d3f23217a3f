-- What proofs of this crate cite of std, of the crates below and of specs/, passed on from one place. Declares nothing.
pub use Rattle.std.proofs.Common.{◌≡◌, ℕ, suc, ◌+◌, ◌-◌, ◌*◌, ◌<◌, ◌&&◌, ◌≢◌, List, [], ◌∷◌, ◌++◌, map, length, get_or, take, drop, set}
pub use Rattle.std.proofs.Common.{◌==◌, slice_range, All, IsPermutation, zip, nat_cmp, sym, refl, ap, ◌∙◌, subst, append-nil, add-one}
pub use Rattle.std.proofs.Common.{arith, length-drop, get_or-drop, drop-cons, take-suc, drop-drop, take-suc-set, take-add, Bor}
pub use Rattle.std.specs.BTreeMap.{insert_entry}
pub use Rattle.std.specs.Cmp.Lexicographic.{nat_list_cmp_total, slice_cmp}
pub use Rattle.std.specs.List.{AllByRecursion, list_all}
pub use Rattle.std.specs.Map.{keys_of}
pub use Rattle.std.specs.Ordering.{match_ordering, ordering_reverse, ordering_then}
pub use Rattle.std.specs.declared.cmp.Ordering.{Ordering}
pub use Rattle.std.specs.declared.cmp.Ordering.TheVariants.{Equal, Greater, Less}
pub use Rattle.w2c_base.specs.LittleEndian.{bytes_at, little_endian}
pub use Rattle.c_meaning.specs.State.{Name}
pub use Rattle.crun_lines.specs.NameOrder.{in_order, name_order, numbered_from, put_in_order}
pub use Rattle.crun_lines.specs.Views.{entry_of, texts}
