-- Calls that fit hosts: of functions that are there, with arguments and replies of their types.
use Rattle.std.specs.Prelude.{ℕ, Bool, true, false, ◌&&◌, List, slice_get, Option, Some, None}
use Rattle.w2c_base.specs.declared.value.ValType.{ValType}
use Rattle.w2c_base.specs.Lookup.{if_found}
use Rattle.w2c_base.specs.Run.{Host, HostFunction}
use Rattle.w2c_base.specs.Values.{equal_types, is_result, types_of}
use Rattle.c_meaning.specs.declared.reply.HostReply.{HostReply}
use Rattle.c_meaning.specs.declared.reply.HostReply.TheVariants as reply
use Rattle.c_hosts.specs.declared.journal.Asked.{Asked}

-- the function with a number of the module with a number, both from 0
abbrev pub function_at : List Host → ℕ → ℕ → Option HostFunction
function_at hosts h f = if_found (slice_get hosts h) (λ m. slice_get m.functions f)

-- a reply that a function of this result type can give: a value of it, none where it has none, or a trap
abbrev pub is_reply : Option ValType → HostReply → Bool
is_reply result (reply.Value v) = is_result result v
is_reply result reply.Trap = true

abbrev pub fits_function : Option HostFunction → Asked → Bool
fits_function None a = false
fits_function (Some f) a = equal_types f.ty.params (types_of a.args) && is_reply f.ty.result a.reply

abbrev pub fits : List Host → Asked → Bool
fits hosts a = fits_function (function_at hosts a.host a.function) a
