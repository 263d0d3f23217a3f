-- What a host's function takes and gives.
use Rattle.std.specs.Prelude.{◌≡◌, List, ⊤, true}
use Rattle.w2c_base.specs.declared.value.Value.{Value}
use Rattle.w2c_base.specs.Values.{types_of, is_result}
use Rattle.c_hosts.specs.declared.host.HostFunction.{HostFunction}
use Rattle.c_meaning.specs.declared.reply.HostReply.{HostReply}
use Rattle.c_meaning.specs.declared.reply.HostReply.TheVariants as reply

-- the arguments have the function's types
abbrev pub TakesArgs : HostFunction → List Value → Type 0
TakesArgs f args = types_of args ≡ f.ty.params

-- a value is of the function's result type, or none where it has none
abbrev pub IsReply : HostFunction → HostReply → Type 0
IsReply f (reply.Value v) = is_result f.ty.result v ≡ true
IsReply f reply.Trap = ⊤
