-- Which instructions of code are translated: what stands behind one that never goes on is not (WebAssembly Core 1.0, 2.4.5).
use Rattle.std.specs.Prelude.{Bool, true, false, ◌&&◌, ◌||◌, not}
use Rattle.wasm_tree.specs.Instructions.{Kind, Unreachable, Return, Br, BrTable, Code, end_code, then_code, Otherwise, no_else, else_code}
use Rattle.wasm_tree.specs.Instructions.{Block, Loop, If}

-- an instruction that never goes on
abbrev pub ends : Kind → Bool
ends Unreachable = true
ends (Br label) = true
ends (BrTable labels default) = true
ends Return = true
ends _ = false

abbrev mutual
  -- an instruction that is translated passes a test
  pub any_in : (Kind → Bool) → Code → Bool
  any_in test end_code = false
  any_in test (then_code place kind code) = (test kind || any_inside test kind) || (not (ends kind) && any_in test code)

  pub any_inside : (Kind → Bool) → Kind → Bool
  any_inside test (Block t code end_place) = any_in test code
  any_inside test (Loop t code end_place) = any_in test code
  any_inside test (If t code otherwise end_place) = any_in test code || any_in_else test otherwise
  any_inside test _ = false

  pub any_in_else : (Kind → Bool) → Otherwise → Bool
  any_in_else test no_else = false
  any_in_else test (else_code place code) = any_in test code
