-- A journal, written by hand, whose text and lines closed cases compute: the host env was asked for two ticks.
use Rattle.std.specs.Prelude.{ℕ, List, [], ◌∷◌, codes, Option, Some, None}
use Rattle.w2c_base.specs.declared.value.ValType.{ValType}
use Rattle.w2c_base.specs.declared.value.ValType.TheVariants as type
use Rattle.w2c_base.specs.declared.value.Value.TheVariants.{I64}
use Rattle.w2c_base.specs.Run.{Host, HostFunction}
use Rattle.c_meaning.specs.declared.reply.HostReply.TheVariants as reply
use Rattle.c_hosts.specs.declared.journal.Asked.{Asked}
use Rattle.host_replay.specs.Texts.{Recorded}

abbrev pub function : List ℕ → List ValType → Option ValType → HostFunction
function name params result = record { name = name; ty = record { params = params; result = result } }

abbrev pub env : Host
env = record {
  name = codes "env";
  functions =
      function (codes "put_i32") (type.I32 ∷ []) None
      ∷ function (codes "put_i64") (type.I64 ∷ []) None
      ∷ function (codes "tick") [] (Some type.I64)
      ∷ [];
}

abbrev pub tick : ℕ → Asked
tick n = record { host = 0; function = 2; args = []; reply = reply.Value (Some (I64 n)) }

abbrev pub ticks : Recorded
ticks = record { hosts = env ∷ []; entries = tick 1 ∷ tick 2 ∷ [] }
