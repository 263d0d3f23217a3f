-- Asks that hosts answer as their functions' types say.
use Rattle.host_replay.proofs.Common.{◌≡◌, true, Some, None, Ask, CallEnded, Event, Gave, HostTrapped, Reply, equal_types, is_result}
use Rattle.host_replay.proofs.Common.{types_of, FuncType, Program, host_type}
use Rattle.std.specs.Prelude.{⊤}
use Rattle.w2c_base.specs.Run.{Asked}

-- a value of a function's result type, none where it has none, or a trap
abbrev pub IsReplyOf : FuncType → Reply → Type 0
IsReplyOf ty (Gave v) = is_result ty.result v ≡ true
IsReplyOf ty HostTrapped = ⊤

-- the function is there, and arguments and reply are of its types
pub record IsAnswer (p : Program) (ask : Ask) (reply : Reply) : Type 0 where
  pub ty : FuncType
  pub type_is : host_type p ask.host ask.function ≡ Some ty
  pub takes : equal_types ty.params (types_of ask.args) ≡ true
  pub gives : IsReplyOf ty reply

-- where a host has replied, it has answered so
abbrev pub IsAnswered : Program → Event → Type 0
IsAnswered p (Asked ask None) = ⊤
IsAnswered p (Asked ask (Some reply)) = IsAnswer p ask reply
IsAnswered p (CallEnded value) = ⊤
