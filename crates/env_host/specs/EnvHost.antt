-- The host `env`, which crun offers: its functions take a number and give nothing, or tell how often they were called.
use Rattle.std.specs.Prelude.{◌≡◌, ℕ, zero, suc, ◌+◌, ◌%◌, ◌^◌, List, [], ◌∷◌, codes, Some, None}
use Rattle.w2c_base.specs.declared.value.ValType.TheVariants as type
use Rattle.w2c_base.specs.declared.value.Value.{Value}
use Rattle.w2c_base.specs.declared.value.Value.TheVariants.{I64}
use Rattle.c_hosts.specs.declared.host.HostFunction.{HostFunction}
use Rattle.c_meaning.specs.declared.reply.HostReply.{HostReply}
use Rattle.c_meaning.specs.declared.reply.HostReply.TheVariants as reply

abbrev pub env_name : List ℕ
env_name = codes "env"

abbrev pub put_i32 : HostFunction
put_i32 = record { name = codes "put_i32"; ty = record { params = type.I32 ∷ []; result = None } }

abbrev pub put_i64 : HostFunction
put_i64 = record { name = codes "put_i64"; ty = record { params = type.I64 ∷ []; result = None } }

abbrev pub tick : HostFunction
tick = record { name = codes "tick"; ty = record { params = []; result = Some type.I64 } }

-- put_i32: [i32] -> [], put_i64: [i64] -> [], tick: [] -> i64
abbrev pub env_functions : List HostFunction
env_functions = put_i32 ∷ put_i64 ∷ tick ∷ []

-- a count and one more, as numbers of 64 bits
abbrev pub ticked : ℕ → ℕ
ticked t = (t + 1) % 2 ^ 64

-- tick counts, and gives the new count; the others leave it. None traps. The state is the count
abbrev pub MayAnswer : List ℕ → ℕ → List Value → HostReply → List ℕ → Type 0
MayAnswer before zero args answer after = (after ≡ before) × (answer ≡ reply.Value None)
MayAnswer before (suc zero) args answer after = (after ≡ before) × (answer ≡ reply.Value None)
MayAnswer before (suc (suc k)) args answer after =
    (t : ℕ) × (before ≡ t ∷ []) × (after ≡ ticked t ∷ []) × (answer ≡ reply.Value (Some (I64 (ticked t))))
