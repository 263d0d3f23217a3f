use Rattle.c_tree.proofs.Common.{◌≡◌, drop, list_all, is_word_byte}
use Rattle.c_tree.proofs.name.are_word_bytes.Given as goal

abbrev pub invariant-loop-byte : goal.invariant-loop-byte
invariant-loop-byte l = list_all is_word_byte (drop l.byte-index l.bytes) ≡ list_all is_word_byte l.bytes
