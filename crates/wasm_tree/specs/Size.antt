-- A size of code, which falls from an instruction to the code inside it.
use Rattle.std.specs.Prelude.{ℕ, ◌+◌}
use Rattle.wasm_tree.specs.Instructions.{Code, end_code, then_code, Kind, Otherwise, no_else, else_code, Block, Loop, If}

abbrev mutual
  pub code_size : Code → ℕ
  code_size end_code = 0
  code_size (then_code place kind code) = kind_size kind + 1 + code_size code

  pub kind_size : Kind → ℕ
  kind_size (Block r c e) = code_size c + 1
  kind_size (Loop r c e) = code_size c + 1
  kind_size (If r c o e) = code_size c + otherwise_size o + 1
  kind_size _ = 0

  pub otherwise_size : Otherwise → ℕ
  otherwise_size no_else = 0
  otherwise_size (else_code place code) = code_size code
