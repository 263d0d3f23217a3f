-- What the files and sinks in memory show.
use Rattle.std.specs.Prelude.{◌≡◌, ℕ, List, ◌∷◌, ◌++◌, [], Option, Some}
use Rattle.w2c_io.specs.Contents.{Contents, Name, Told}
use Rattle.w2c_io.specs.Events.{Event}
use Rattle.w2c_io.specs.Planned.{CountsOne}
use Rattle.w2c_io.specs.Stored.{stored, open_name, name_bytes}
use Rattle.w2c_io.specs.declared.plan.FaultPlan.{FaultPlan}
use Rattle.w2c_io.specs.declared.sure_files.SureFiles.{SureFiles}
use Rattle.w2c_io.specs.declared.sure_sink.SureSink.{SureSink}
use Rattle.w2c_io.specs.declared.mem_files.MemFiles.{MemFiles}
use Rattle.w2c_io.specs.declared.mem_files.FileCall.{FileCall}
use Rattle.w2c_io.specs.declared.mem_files.FileCall.TheVariants.{Read, Begin, Put, Finish}
use Rattle.w2c_io.specs.declared.mem_sink.MemSink.{MemSink}

-- the files, by name
abbrev pub sure_contents : SureFiles → Contents
sure_contents files = stored files.entries.items

abbrev pub sure_current : SureFiles → Option Name
sure_current files = open_name files.begun files.entries.items

abbrev pub sure_trace : SureFiles → List Event
sure_trace files = files.calls.events

abbrev pub mem_contents : MemFiles → Contents
mem_contents files = stored files.entries.items

abbrev pub mem_told : MemFiles → Told
mem_told files = Some (mem_contents files)

abbrev pub mem_current : MemFiles → Option Name
mem_current files = open_name files.begun files.entries.items

abbrev pub mem_read_faults : MemFiles → ℕ
mem_read_faults files = files.read_faults

abbrev pub mem_write_faults : MemFiles → ℕ
mem_write_faults files = files.write_faults

abbrev pub mem_fault_name : MemFiles → Option Name
mem_fault_name files = name_bytes files.fault_name

abbrev pub mem_trace : MemFiles → List Event
mem_trace files = files.calls.events

-- the plan for one kind of call
abbrev pub plan_of : FileCall → MemFiles → FaultPlan
plan_of Read files = files.reads
plan_of Begin files = files.begins
plan_of Put files = files.puts
plan_of Finish files = files.finishes

-- one call of this kind was made, and none of another
abbrev pub CountsCall : FileCall → MemFiles → MemFiles → Type 0
CountsCall Read old new = CountsOne old.reads new.reads × (new.begins ≡ old.begins) × (new.puts ≡ old.puts) × (new.finishes ≡ old.finishes)
CountsCall Begin old new = CountsOne old.begins new.begins × (new.reads ≡ old.reads) × (new.puts ≡ old.puts) × (new.finishes ≡ old.finishes)
CountsCall Put old new = CountsOne old.puts new.puts × (new.reads ≡ old.reads) × (new.begins ≡ old.begins) × (new.finishes ≡ old.finishes)
CountsCall Finish old new =
    CountsOne old.finishes new.finishes × (new.reads ≡ old.reads) × (new.begins ≡ old.begins) × (new.puts ≡ old.puts)

-- the nth call of one kind is planned to fail besides
pub record PlansOne (old new : FaultPlan) (nth : ℕ) : Type 0 where
  pub calls : new.calls ≡ old.calls
  pub planned : new.planned.items ≡ old.planned.items ++ nth ∷ []

-- this is so for this kind of call, and the other plans stay
abbrev pub PlansCall : FileCall → MemFiles → MemFiles → ℕ → Type 0
PlansCall Read old new nth =
    PlansOne old.reads new.reads nth × (new.begins ≡ old.begins) × (new.puts ≡ old.puts) × (new.finishes ≡ old.finishes)
PlansCall Begin old new nth =
    PlansOne old.begins new.begins nth × (new.reads ≡ old.reads) × (new.puts ≡ old.puts) × (new.finishes ≡ old.finishes)
PlansCall Put old new nth =
    PlansOne old.puts new.puts nth × (new.reads ≡ old.reads) × (new.begins ≡ old.begins) × (new.finishes ≡ old.finishes)
PlansCall Finish old new nth =
    PlansOne old.finishes new.finishes nth × (new.reads ≡ old.reads) × (new.begins ≡ old.begins) × (new.puts ≡ old.puts)

-- what a sink has gained
abbrev pub sure_bytes : SureSink → List ℕ
sure_bytes sink = sink.bytes.items

abbrev pub mem_bytes : MemSink → List ℕ
mem_bytes sink = sink.bytes.items

abbrev pub mem_faults : MemSink → ℕ
mem_faults sink = sink.faults

-- the plan for its puts
abbrev pub plan_of_puts : MemSink → FaultPlan
plan_of_puts sink = sink.puts
