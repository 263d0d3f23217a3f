-- What the checker of a body answers of code, as what the checker on trees says, and what it leaves as it was.
use Rattle.std.specs.Prelude.{◌≡◌, ℕ, ◌-◌, ◌++◌, [], ◌∷◌, reverse, take, vec_len, Option, Result, Ok, Err}
use Rattle.w2c_base.specs.declared.value.ValType.{ValType}
use Rattle.wasm_tree.specs.Instructions.{Code}
use Rattle.wasm_typing.specs.declared.fault.ValidRefusal.{ValidRefusal}
use Rattle.wasm_typing.specs.declared.fault.ValidRefusal.TheVariants as refused
use Rattle.wasm_typing.specs.Context.{Context, Labels}
use Rattle.wasm_typing.specs.BodyFault.{plain_token}
use Rattle.wasm_typing.specs.Completion.{token_count}
use Rattle.body_check.specs.declared.stop.Stop.{Stop}
use Rattle.body_check.specs.declared.stop.Stop.TheVariants as stop
use Rattle.body_check.specs.declared.operands.Height.{Height}
use Rattle.body_check.specs.declared.plain.Surroundings.{Surroundings}
use Rattle.body_check.specs.declared.body.OpenBlocks.{OpenBlocks}
use Rattle.body_check.specs.Seen.{context_seen}
use Rattle.body_check.specs.Checker.{Operands, nothing, Ran, refusal, or_refuse, and_then, later, closes, at_end, give, run}
use Rattle.body_check.specs.Shown.{shown, Keeps}

-- the context of a body
abbrev pub seen : Surroundings → Context
seen around = context_seen around.spaces.now around.locals.now around.result

-- the labels in reach, the innermost first
abbrev pub labels_of : OpenBlocks → Labels
labels_of blocks = reverse blocks.labels.items

-- it went on to these operands, or was refused at some token by this fault
abbrev pub RanTo : {A : Type 0} → Result A ValidRefusal → Ran → Operands → Type 0
RanTo (Ok a) ran new = ran ≡ Ok new
RanTo (Err (refused.Invalid place cause)) ran new = (token : ℕ) × (ran ≡ Err (refusal token (record { place = place; cause = cause })))
RanTo (Err refused.Memory) ran new = Unit {0}

-- the refusal at a place
abbrev pub placed : Stop → ℕ → ValidRefusal
placed (stop.Cause cause) place = refused.Invalid place cause
placed stop.Memory place = refused.Memory

abbrev pub all_placed : Result Unit Stop → ℕ → Result Unit ValidRefusal
all_placed (Ok u) place = Ok u
all_placed (Err stop) place = Err (placed stop place)

-- a block of its own, with its end
abbrev pub run_block : Context → Labels → Option ValType → Option ValType → ℕ → Code → Ran
run_block c labels label r end_place code = at_end (token_count code) end_place r (run c (label ∷ labels) code nothing)

-- behind the opcode of a block
abbrev pub run_nested : Context → Labels → Option ValType → Option ValType → ℕ → Code → Operands → Ran
run_nested c labels label r end_place code s = and_then (later 1 (run_block c labels label r end_place code)) (λ _. Ok (give r s))

-- an end: this token, at a place
abbrev pub end_ran : ℕ → ℕ → Option ValType → Operands → Ran
end_ran token place r s = or_refuse (refusal token (plain_token place)) (closes r s)

-- what is not changed where code went on
pub record Stays (old new : OpenBlocks) : Type 0 where
  pub labels : new.labels.items ≡ old.labels.items
  pub operands : Keeps old.operands new.operands

-- the operands are as they were, too
pub record Untouched (old new : OpenBlocks) : Type 0 where
  pub labels : new.labels.items ≡ old.labels.items
  pub slots : new.operands.slots.items ≡ old.operands.slots.items
  pub height : new.operands.height ≡ old.operands.height

-- the innermost block has ended, and the height around it is back
pub record Ended (outer : Height) (old new : OpenBlocks) : Type 0 where
  pub labels : new.labels.items ≡ take (vec_len old.labels - 1) old.labels.items
  pub slots : new.operands.slots.items ≡ take old.operands.height.below old.operands.slots.items
  pub height : new.operands.height ≡ outer

-- a block is open, and the height around it is kept
pub record Opened (label : Option ValType) (outer : Height) (old new : OpenBlocks) : Type 0 where
  pub labels : new.labels.items ≡ old.labels.items ++ label ∷ []
  pub slots : new.operands.slots.items ≡ old.operands.slots.items
  pub around : outer ≡ old.operands.height
  pub empty : shown new.operands ≡ nothing
  pub height : new.operands.height.below ≡ vec_len old.operands.slots
