-- Code as a list of marks, from which it comes back: an instruction's mark stands behind what is after it and
-- what is inside it.
use Rattle.std.specs.Prelude.{◌≡◌, ℕ, ℤ, List, [], ◌∷◌, ◌++◌, Option, refl}
use Rattle.std.proofs.Common.{ap, ◌∙◌}
use Rattle.w2c_base.specs.declared.value.ValType.{ValType}
use Rattle.wasm_tree.specs.declared.code.MemArg.{MemArg}
use Rattle.wasm_tree.specs.Instructions as tree
use Rattle.wasm_tree.specs.Instructions.{Code, Kind, end_code, then_code, no_else, else_code}
use Rattle.wasm_tree.specs.declared.operators.UnaryOp.{UnaryOp}
use Rattle.wasm_tree.specs.declared.operators.BinaryOp.{BinaryOp}
use Rattle.wasm_tree.specs.declared.operators.CompareOp.{CompareOp}
use Rattle.wasm_tree.specs.declared.operators.LoadOp.{LoadOp}
use Rattle.wasm_tree.specs.declared.operators.StoreOp.{StoreOp}
use Rattle.wasm_tree.specs.declared.operators.ExtendOp.{ExtendOp}

-- an instruction with no code inside it
pub data Plain : Type 0 where
  Unreachable Nop Return Drop Select MemorySize MemoryGrow MemoryCopy MemoryFill : Plain
  Br BrIf : ℕ → Plain
  BrTable : List ℕ → ℕ → Plain
  Call : ℕ → Plain
  CallIndirect : ℕ → Plain
  LocalGet LocalSet LocalTee GlobalGet GlobalSet : ℕ → Plain
  Load : LoadOp → MemArg → Plain
  Store : StoreOp → MemArg → Plain
  I32Const I64Const : ℤ → Plain
  Eqz : ValType → Plain
  Compare : ValType → CompareOp → Plain
  Unary : ValType → UnaryOp → Plain
  Binary : ValType → BinaryOp → Plain
  I32WrapI64 I64ExtendI32S I64ExtendI32U : Plain
  Extend : ExtendOp → Plain

abbrev pub kind_of : Plain → Kind
kind_of Unreachable = tree.Unreachable
kind_of Nop = tree.Nop
kind_of Return = tree.Return
kind_of Drop = tree.Drop
kind_of Select = tree.Select
kind_of MemorySize = tree.MemorySize
kind_of MemoryGrow = tree.MemoryGrow
kind_of MemoryCopy = tree.MemoryCopy
kind_of MemoryFill = tree.MemoryFill
kind_of (Br i) = tree.Br i
kind_of (BrIf i) = tree.BrIf i
kind_of (BrTable is d) = tree.BrTable is d
kind_of (Call i) = tree.Call i
kind_of (CallIndirect i) = tree.CallIndirect i
kind_of (LocalGet i) = tree.LocalGet i
kind_of (LocalSet i) = tree.LocalSet i
kind_of (LocalTee i) = tree.LocalTee i
kind_of (GlobalGet i) = tree.GlobalGet i
kind_of (GlobalSet i) = tree.GlobalSet i
kind_of (Load op m) = tree.Load op m
kind_of (Store op m) = tree.Store op m
kind_of (I32Const n) = tree.I32Const n
kind_of (I64Const n) = tree.I64Const n
kind_of (Eqz t) = tree.Eqz t
kind_of (Compare t op) = tree.Compare t op
kind_of (Unary t op) = tree.Unary t op
kind_of (Binary t op) = tree.Binary t op
kind_of I32WrapI64 = tree.I32WrapI64
kind_of I64ExtendI32S = tree.I64ExtendI32S
kind_of I64ExtendI32U = tree.I64ExtendI32U
kind_of (Extend op) = tree.Extend op

pub data Mark : Type 0 where
  ends : Mark
  is_plain : ℕ → Plain → Mark
  is_block : ℕ → Option ValType → ℕ → Mark
  is_loop : ℕ → Option ValType → ℕ → Mark
  is_one_sided : ℕ → Option ValType → ℕ → Mark
  is_two_sided : ℕ → Option ValType → ℕ → ℕ → Mark

abbrev pub marks : Code → List Mark
marks end_code = ends ∷ []
marks (then_code p tree.Unreachable c) = marks c ++ is_plain p Unreachable ∷ []
marks (then_code p tree.Nop c) = marks c ++ is_plain p Nop ∷ []
marks (then_code p tree.Return c) = marks c ++ is_plain p Return ∷ []
marks (then_code p tree.Drop c) = marks c ++ is_plain p Drop ∷ []
marks (then_code p tree.Select c) = marks c ++ is_plain p Select ∷ []
marks (then_code p tree.MemorySize c) = marks c ++ is_plain p MemorySize ∷ []
marks (then_code p tree.MemoryGrow c) = marks c ++ is_plain p MemoryGrow ∷ []
marks (then_code p tree.MemoryCopy c) = marks c ++ is_plain p MemoryCopy ∷ []
marks (then_code p tree.MemoryFill c) = marks c ++ is_plain p MemoryFill ∷ []
marks (then_code p (tree.Br i) c) = marks c ++ is_plain p (Br i) ∷ []
marks (then_code p (tree.BrIf i) c) = marks c ++ is_plain p (BrIf i) ∷ []
marks (then_code p (tree.BrTable is d) c) = marks c ++ is_plain p (BrTable is d) ∷ []
marks (then_code p (tree.Call i) c) = marks c ++ is_plain p (Call i) ∷ []
marks (then_code p (tree.CallIndirect i) c) = marks c ++ is_plain p (CallIndirect i) ∷ []
marks (then_code p (tree.LocalGet i) c) = marks c ++ is_plain p (LocalGet i) ∷ []
marks (then_code p (tree.LocalSet i) c) = marks c ++ is_plain p (LocalSet i) ∷ []
marks (then_code p (tree.LocalTee i) c) = marks c ++ is_plain p (LocalTee i) ∷ []
marks (then_code p (tree.GlobalGet i) c) = marks c ++ is_plain p (GlobalGet i) ∷ []
marks (then_code p (tree.GlobalSet i) c) = marks c ++ is_plain p (GlobalSet i) ∷ []
marks (then_code p (tree.Load op m) c) = marks c ++ is_plain p (Load op m) ∷ []
marks (then_code p (tree.Store op m) c) = marks c ++ is_plain p (Store op m) ∷ []
marks (then_code p (tree.I32Const n) c) = marks c ++ is_plain p (I32Const n) ∷ []
marks (then_code p (tree.I64Const n) c) = marks c ++ is_plain p (I64Const n) ∷ []
marks (then_code p (tree.Eqz t) c) = marks c ++ is_plain p (Eqz t) ∷ []
marks (then_code p (tree.Compare t op) c) = marks c ++ is_plain p (Compare t op) ∷ []
marks (then_code p (tree.Unary t op) c) = marks c ++ is_plain p (Unary t op) ∷ []
marks (then_code p (tree.Binary t op) c) = marks c ++ is_plain p (Binary t op) ∷ []
marks (then_code p tree.I32WrapI64 c) = marks c ++ is_plain p I32WrapI64 ∷ []
marks (then_code p tree.I64ExtendI32S c) = marks c ++ is_plain p I64ExtendI32S ∷ []
marks (then_code p tree.I64ExtendI32U c) = marks c ++ is_plain p I64ExtendI32U ∷ []
marks (then_code p (tree.Extend op) c) = marks c ++ is_plain p (Extend op) ∷ []
marks (then_code p (tree.Block r b e) c) = marks c ++ (marks b ++ is_block p r e ∷ [])
marks (then_code p (tree.Loop r b e) c) = marks c ++ (marks b ++ is_loop p r e ∷ [])
marks (then_code p (tree.If r b no_else e) c) = marks c ++ (marks b ++ is_one_sided p r e ∷ [])
marks (then_code p (tree.If r b (else_code q d) e) c) = marks c ++ (marks b ++ (marks d ++ is_two_sided p r q e ∷ []))

-- a mark at the lists so far, the newest first
abbrev pub mark_step : Mark → List Code → List Code
mark_step ends s = end_code ∷ s
mark_step (is_plain p k) (c ∷ s) = then_code p (kind_of k) c ∷ s
mark_step (is_block p r e) (b ∷ c ∷ s) = then_code p (tree.Block r b e) c ∷ s
mark_step (is_loop p r e) (b ∷ c ∷ s) = then_code p (tree.Loop r b e) c ∷ s
mark_step (is_one_sided p r e) (b ∷ c ∷ s) = then_code p (tree.If r b no_else e) c ∷ s
mark_step (is_two_sided p r q e) (d ∷ b ∷ c ∷ s) = then_code p (tree.If r b (else_code q d) e) c ∷ s
mark_step _ s = s

abbrev pub unmark : List Mark → List Code → List Code
unmark [] s = s
unmark (m ∷ ms) s = unmark ms (mark_step m s)

abbrev pub newest : List Code → Code
newest [] = end_code
newest (c ∷ s) = c

unmark-append : (a b : List Mark) (s : List Code) → unmark (a ++ b) s ≡ unmark b (unmark a s)
unmark-append [] b s = refl
unmark-append (m ∷ a) b s = unmark-append a b (mark_step m s)

then_one : (a b : List Mark) (c : Code) (s : List Code) → unmark a s ≡ c ∷ s → unmark (a ++ b) s ≡ unmark b (c ∷ s)
then_one a b c s h = unmark-append a b s ∙ ap (unmark b) h

unmark-marks : (c : Code) (s : List Code) → unmark (marks c) s ≡ c ∷ s
unmark-marks end_code s = refl
unmark-marks (then_code p tree.Unreachable c) s = then_one (marks c) _ c s (unmark-marks c s)
unmark-marks (then_code p tree.Nop c) s = then_one (marks c) _ c s (unmark-marks c s)
unmark-marks (then_code p tree.Return c) s = then_one (marks c) _ c s (unmark-marks c s)
unmark-marks (then_code p tree.Drop c) s = then_one (marks c) _ c s (unmark-marks c s)
unmark-marks (then_code p tree.Select c) s = then_one (marks c) _ c s (unmark-marks c s)
unmark-marks (then_code p tree.MemorySize c) s = then_one (marks c) _ c s (unmark-marks c s)
unmark-marks (then_code p tree.MemoryGrow c) s = then_one (marks c) _ c s (unmark-marks c s)
unmark-marks (then_code p tree.MemoryCopy c) s = then_one (marks c) _ c s (unmark-marks c s)
unmark-marks (then_code p tree.MemoryFill c) s = then_one (marks c) _ c s (unmark-marks c s)
unmark-marks (then_code p (tree.Br i) c) s = then_one (marks c) _ c s (unmark-marks c s)
unmark-marks (then_code p (tree.BrIf i) c) s = then_one (marks c) _ c s (unmark-marks c s)
unmark-marks (then_code p (tree.BrTable is d) c) s = then_one (marks c) _ c s (unmark-marks c s)
unmark-marks (then_code p (tree.Call i) c) s = then_one (marks c) _ c s (unmark-marks c s)
unmark-marks (then_code p (tree.CallIndirect i) c) s = then_one (marks c) _ c s (unmark-marks c s)
unmark-marks (then_code p (tree.LocalGet i) c) s = then_one (marks c) _ c s (unmark-marks c s)
unmark-marks (then_code p (tree.LocalSet i) c) s = then_one (marks c) _ c s (unmark-marks c s)
unmark-marks (then_code p (tree.LocalTee i) c) s = then_one (marks c) _ c s (unmark-marks c s)
unmark-marks (then_code p (tree.GlobalGet i) c) s = then_one (marks c) _ c s (unmark-marks c s)
unmark-marks (then_code p (tree.GlobalSet i) c) s = then_one (marks c) _ c s (unmark-marks c s)
unmark-marks (then_code p (tree.Load op m) c) s = then_one (marks c) _ c s (unmark-marks c s)
unmark-marks (then_code p (tree.Store op m) c) s = then_one (marks c) _ c s (unmark-marks c s)
unmark-marks (then_code p (tree.I32Const n) c) s = then_one (marks c) _ c s (unmark-marks c s)
unmark-marks (then_code p (tree.I64Const n) c) s = then_one (marks c) _ c s (unmark-marks c s)
unmark-marks (then_code p (tree.Eqz t) c) s = then_one (marks c) _ c s (unmark-marks c s)
unmark-marks (then_code p (tree.Compare t op) c) s = then_one (marks c) _ c s (unmark-marks c s)
unmark-marks (then_code p (tree.Unary t op) c) s = then_one (marks c) _ c s (unmark-marks c s)
unmark-marks (then_code p (tree.Binary t op) c) s = then_one (marks c) _ c s (unmark-marks c s)
unmark-marks (then_code p tree.I32WrapI64 c) s = then_one (marks c) _ c s (unmark-marks c s)
unmark-marks (then_code p tree.I64ExtendI32S c) s = then_one (marks c) _ c s (unmark-marks c s)
unmark-marks (then_code p tree.I64ExtendI32U c) s = then_one (marks c) _ c s (unmark-marks c s)
unmark-marks (then_code p (tree.Extend op) c) s = then_one (marks c) _ c s (unmark-marks c s)
unmark-marks (then_code p (tree.Block r b e) c) s =
    then_one (marks c) _ c s (unmark-marks c s) ∙ then_one (marks b) _ b (c ∷ s) (unmark-marks b (c ∷ s))
unmark-marks (then_code p (tree.Loop r b e) c) s =
    then_one (marks c) _ c s (unmark-marks c s) ∙ then_one (marks b) _ b (c ∷ s) (unmark-marks b (c ∷ s))
unmark-marks (then_code p (tree.If r b no_else e) c) s =
    then_one (marks c) _ c s (unmark-marks c s) ∙ then_one (marks b) _ b (c ∷ s) (unmark-marks b (c ∷ s))
unmark-marks (then_code p (tree.If r b (else_code q d) e) c) s =
    then_one (marks c) _ c s (unmark-marks c s)
    ∙ (then_one (marks b) _ b (c ∷ s) (unmark-marks b (c ∷ s)) ∙ then_one (marks d) _ d (b ∷ c ∷ s) (unmark-marks d (b ∷ c ∷ s)))

pub comes_back : (c : Code) → newest (unmark (marks c) []) ≡ c
comes_back c = ap newest (unmark-marks c [])
