-- Faults that are entered one by one: the one with the least place is kept, and of several there the earliest.
use Rattle.std.specs.Prelude.{if◌then◌else◌, nat_lt, List, [], ◌∷◌, Option, Some, None}
use Rattle.wasm_typing.specs.declared.fault.Fault.{Fault}

abbrev pub kept : Option Fault → Fault → Fault
kept None fault = fault
kept (Some earlier) fault = if nat_lt fault.place earlier.place then fault else earlier

abbrev pub entered : Option Fault → List Fault → Option Fault
entered found [] = found
entered found (fault ∷ faults) = entered (Some (kept found fault)) faults
