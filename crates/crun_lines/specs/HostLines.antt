-- The lines of calls of hosts: which function was asked with which values, and what it replied.
use Rattle.std.specs.Prelude.{ℕ, List, [], ◌++◌, codes, slice_get, Option, Some, None}
use Rattle.w2c_base.specs.declared.value.Value.{Value}
use Rattle.w2c_base.specs.Run.{Ask, Host, Reply, Gave, HostTrapped}
use Rattle.crun_lines.specs.Words.{name_text, value_text, values_text}

-- names by number. A number past the end stands for the name of no letters
abbrev pub host_name : List Host → ℕ → List ℕ
host_name hosts h = elim (slice_get hosts h) [ None ↦ [] | Some host ↦ host.name ]

abbrev pub function_name : List Host → ℕ → ℕ → List ℕ
function_name hosts h f = elim (slice_get hosts h) [
  | None ↦ []
  | Some host ↦ elim (slice_get host.functions f) [ None ↦ [] | Some function ↦ function.name ]
]

abbrev pub reply_text : Reply → List ℕ
reply_text (Gave value) = value_text value
reply_text HostTrapped = codes "trap"

-- a call of a host's function by the names of both
abbrev pub replied_line : (host function : List ℕ) → List Value → Reply → List ℕ
replied_line host function args reply =
    codes "host " ++ name_text host ++ codes " " ++ name_text function ++ values_text args ++ codes " = " ++ reply_text reply ++ codes "\n"

-- an ask with its reply. An ask without one, at which the run stops, has no line
abbrev pub host_line : List Host → Ask → Option Reply → List ℕ
host_line hosts ask None = []
host_line hosts ask (Some reply) = replied_line (host_name hosts ask.host) (function_name hosts ask.host ask.function) ask.args reply
