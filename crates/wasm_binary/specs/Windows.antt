-- A window and what is behind it, as the reader goes over them.
use Rattle.std.specs.Prelude.{◌==◌, ℕ, ◌+◌, length, take, drop, Result, Ok, nat_lt, if◌then◌else◌}
use Rattle.wasm_spelling.specs.declared.fault.ReadFault.{ReadFault}
use Rattle.wasm_spelling.specs.declared.fault.Cause.{Cause}
use Rattle.wasm_spelling.specs.declared.fault.Cause.TheVariants as cause
use Rattle.wasm_spelling.specs.At.{At}
use Rattle.wasm_spelling.specs.Steps.{◌>>=◌, malformed, number_at}

abbrev pub split_off : ℕ → ℕ × At → Result (At × At) ReadFault
split_off place n =
    if nat_lt (length n.1.left) n.0 then malformed place cause.SizePastEnd
    else Ok (record n.1 { left = take n.0 n.1.left }, record n.1 { place = n.1.place + n.0; left = drop n.0 n.1.left })

abbrev pub window_of : At → Result (At × At) ReadFault
window_of a = number_at a >>= split_off a.place

abbrev pub end_of : Cause → At → At → Result At ReadFault
end_of c inside behind = if length inside.left == 0 then Ok (record behind { counts = inside.counts }) else malformed inside.place c
