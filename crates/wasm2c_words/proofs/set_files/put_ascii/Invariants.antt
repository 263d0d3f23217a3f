use Rattle.std.proofs.Common.{◌≡◌, ◌++◌, drop, string_bytes}
use Rattle.wasm2c_words.proofs.set_files.put_ascii.Given as goal

abbrev pub invariant-loop-byte : goal.invariant-loop-byte
invariant-loop-byte l = string_bytes l.name ++ drop l.byte-index l.text ≡ string_bytes l.fn.name ++ l.text
