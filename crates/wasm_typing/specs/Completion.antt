-- The tokens of a body, and the completion of its first k tokens. A token is an instruction's opcode with its
-- immediates, or `else`, or `end`.
use Rattle.std.specs.Prelude.{ℕ, zero, suc, ◌+◌, ◌-◌}
use Rattle.wasm_tree.specs.Instructions.{Code, end_code, then_code, Kind, Otherwise, no_else, else_code, Unreachable, Block, Loop, If}

-- how many tokens there are. The `end` behind the whole list is not counted
abbrev mutual
  pub token_count : Code → ℕ
  token_count end_code = 0
  token_count (then_code place kind code) = kind_token_count kind + token_count code

  pub kind_token_count : Kind → ℕ
  kind_token_count (Block t code end_place) = token_count code + 2
  kind_token_count (Loop t code end_place) = token_count code + 2
  kind_token_count (If t code otherwise end_place) = token_count code + else_token_count otherwise + 2
  kind_token_count _ = 1

  pub else_token_count : Otherwise → ℕ
  else_token_count no_else = 0
  else_token_count (else_code place code) = token_count code + 1

-- `unreachable`, in front of an `end` or an `else`
abbrev pub closing : Code
closing = then_code 0 Unreachable end_code

-- an `if` that is open and has no `else` yet is closed by `unreachable else unreachable end`
abbrev pub open_else : ℕ → Otherwise
open_else zero = else_code 0 closing
open_else (suc k) = no_else

-- The first k tokens of a list and of the `end` behind it, completed. An instruction takes what it can of them, its opcode
-- first, and what is left of them goes to what follows. Where none is left the list is closed by `unreachable end`, so the
-- open blocks are closed one by one, the innermost first.
abbrev mutual
  pub completed : ℕ → Code → Code
  completed zero code = closing
  completed (suc k) end_code = end_code
  completed (suc k) (then_code place kind code) = then_code place (completed_kind k kind) (completed (suc k - kind_token_count kind) code)

  -- k tokens behind the opcode
  pub completed_kind : ℕ → Kind → Kind
  completed_kind k (Block t code end_place) = Block t (completed k code) end_place
  completed_kind k (Loop t code end_place) = Loop t (completed k code) end_place
  completed_kind k (If t code otherwise end_place) = If t (completed k code) (completed_else (k - token_count code) otherwise) end_place
  completed_kind k kind = kind

  -- k tokens behind the first branch
  pub completed_else : ℕ → Otherwise → Otherwise
  completed_else k no_else = open_else k
  completed_else k (else_code place code) = else_code place (completed (k - 1) code)
