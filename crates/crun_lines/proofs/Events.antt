-- The lines of what happened.
use Rattle.std.proofs.Common.{◌≡◌, ℕ, ◌+◌, List, [], ◌∷◌, ◌++◌, length, sym, ap, ◌∙◌, append_assoc, arith}
use Rattle.w2c_base.specs.Run.{Event, Asked, CallEnded, Host, values_in}
use Rattle.crun_lines.specs.CallLines.{ended_line}
use Rattle.crun_lines.specs.HostLines.{host_line}
use Rattle.crun_lines.specs.RunLines.{event_lines}

pub event_lines_append : (hosts : List Host) (k : ℕ) (events more : List Event) → event_lines hosts k (events ++ more)
    ≡ event_lines hosts k events ++ event_lines hosts (k + length (values_in events)) more
event_lines_append hosts k [] more = let e : k + 0 ≡ k = omega arith in ap (λ n. event_lines hosts n more) (sym e)
event_lines_append hosts k (Asked ask reply ∷ events) more =
    ap (λ text. host_line hosts ask reply ++ text) (event_lines_append hosts k events more)
    ∙ sym (append_assoc (host_line hosts ask reply) (event_lines hosts k events) (event_lines hosts (k + length (values_in events)) more))
event_lines_append hosts k (CallEnded value ∷ events) more =
    let count : ℕ = length (values_in events) in
    let e : (k + 1) + count ≡ k + length (value ∷ values_in events) = omega arith in
    ap (λ text. ended_line k value ++ text) (event_lines_append hosts (k + 1) events more)
    ∙ sym (append_assoc (ended_line k value) (event_lines hosts (k + 1) events) (event_lines hosts ((k + 1) + count) more))
    ∙ ap (λ n. (ended_line k value ++ event_lines hosts (k + 1) events) ++ event_lines hosts n more) e
