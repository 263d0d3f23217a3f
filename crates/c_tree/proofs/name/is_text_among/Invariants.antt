use Rattle.c_tree.proofs.Common.{◌≡◌, map, drop, bytes_eq, list_any, fixed_text}
use Rattle.c_tree.proofs.name.is_text_among.Given as goal

abbrev pub invariant-loop-tok : goal.invariant-loop-tok
invariant-loop-tok l =
    list_any (bytes_eq l.word) (map fixed_text (drop l.tok-index l.toks)) ≡ list_any (bytes_eq l.word) (map fixed_text l.toks)
