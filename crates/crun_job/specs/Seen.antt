-- What the program keeps, without where it lies in memory.
use Rattle.std.specs.Prelude.{◌≡◌, true, All, List, map, string_bytes}
use Rattle.c_tree.specs.Tree as tree
use Rattle.c_meaning.specs.Linking.{fits, Program, SymbolCall}
use Rattle.crun_words.specs.declared.inputs.InputStop.{InputStop}
use Rattle.crun_words.specs.declared.inputs.InputStop.TheVariants as input
use Rattle.crun_job.specs.declared.calls_file.NamedCall.{NamedCall}
use Rattle.crun_job.specs.declared.stop.Cause.TheVariants as cause
use Rattle.crun_job.specs.declared.stop.Stop.{Stop}
use Rattle.crun_job.specs.declared.stop.Stop.TheVariants as stop
use Rattle.crun_job.specs.Lines as lines

abbrev pub call_seen : NamedCall → SymbolCall
call_seen call = record { symbol = call.symbol; args = call.args }

abbrev pub calls_seen : List NamedCall → List SymbolCall
calls_seen calls = map call_seen calls

-- each call fits these units, whatever hosts they are linked with
abbrev pub AllFit : List (List tree.Item) → List NamedCall → Type 0
AllFit units calls = (p : Program) → p.units ≡ units → All (λ call. fits p (call_seen call) ≡ true) calls

-- why the program stops, as a line says it
abbrev pub reason_of : Stop → lines.Reason
reason_of stop.Usage = lines.Usage
reason_of (stop.Unread name) = lines.Unread (string_bytes name)
reason_of (stop.Refused name why) = lines.Refused (string_bytes name) why
reason_of stop.CallsTooLong = lines.CallsTooLong
reason_of (stop.CallsLine number) = lines.CallsLine number
reason_of stop.JournalTooLong = lines.JournalTooLong
reason_of (stop.JournalLine number) = lines.JournalLine number
reason_of stop.Unwritten = lines.Unwritten
reason_of stop.Memory = lines.WantOfMemory

-- why files are not read, as why the program stops
abbrev pub stop_for : InputStop → Stop
stop_for (input.Unread name) = stop.Unread name
stop_for (input.UnitTooLong name) = stop.Refused name cause.TooLong
stop_for input.CallsTooLong = stop.CallsTooLong
stop_for input.JournalTooLong = stop.JournalTooLong
stop_for input.Memory = stop.Memory
