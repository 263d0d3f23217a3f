-- What proofs of this crate cite of std, of the crates below and of specs/, passed on from one place. Declares nothing.
pub use Rattle.std.proofs.Common.{◌≡◌, ℕ, ◌+◌, ◌<◌, ◌≤◌, Bool, true, cond, not, ◌&&◌, leb, ◌≢◌, List, [], ◌∷◌, ◌++◌, map, length, get_or}
pub use Rattle.std.proofs.Common.{drop, is_some, Some, None, Err, codes, Option, Vec, option_map, find, option_and_then, bytes_eq, Global}
pub use Rattle.std.proofs.Common.{sym, refl, ap, ◌∙◌, append_assoc, arith, Bor, rules, le-leb, leb-true}
pub use Rattle.std.proofs.lemmas.List.{drop_more, length-map, map_push}
pub use Rattle.std.specs.List.{list_all, position_from}
pub use Rattle.serde_json.specs.Data.{Data, Items}
pub use Rattle.serde_json.specs.View.{items_of, items_view, view}
pub use Rattle.wast_script.specs.Forms.{command_of, kind_text}
pub use Rattle.wast_script.specs.Lists.{all_given, gives_nothing}
pub use Rattle.wast_script.specs.Scripts.{HasFault, IsFault, IsJson, IsScript, are_objects, is_formless, most_commands, most_script_bytes}
pub use Rattle.wast_script.specs.Scripts.{objects_in}
pub use Rattle.wast_script.specs.Seen.{seen_command, seen_commands, seen_line}
pub use Rattle.wast_script.specs.Values.{items_in, list_of, value_of}
