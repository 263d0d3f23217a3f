-- Each file of a generated module is accepted.
use Rattle.w2c_gen.proofs.Common.{ℕ, ◌≤◌, List, SpellsAside, short_file_spells, generated, IsAcceptedAs, IsGeneratedFile}
use Rattle.wasm_valid.proofs.Verdicts.{accepted}
use Rattle.w2c_gen.proofs.Formed.{file_is_small}
use Rattle.w2c_gen.proofs.Valid.{generated_valid}

pub generated_accepted : (n : ℕ) (bytes : List ℕ) → 1 ≤ n → SpellsAside (generated n) bytes → IsAcceptedAs (generated n) bytes
generated_accepted n bytes some s = (s.0, s.1, (s.2, accepted s.0 (generated_valid n s.0 some s.1)))

pub shortest_accepted : (n : ℕ) (bytes : List ℕ) → 1 ≤ n → n ≤ 20000 → IsGeneratedFile n bytes → IsAcceptedAs (generated n) bytes
shortest_accepted n bytes some few h =
    generated_accepted n bytes some (short_file_spells (generated n) bytes h.1 (file_is_small n bytes few h))
