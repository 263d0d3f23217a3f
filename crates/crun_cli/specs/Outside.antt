-- What is outside of the program, as the traits Files and Sink tell it: the files, and standard output.
use Rattle.std.specs.Prelude.{◌≡◌, ℕ, List, Option}
use Rattle.w2c_io.specs.declared.files.Files.{Ghosts as Files}
use Rattle.w2c_io.specs.declared.sink.Sink.{Ghosts as Sink}
use Rattle.crun_units.specs.Files.{AreUntouched, FilesSeen, files_seen}

-- what the stream was given, and how often writing on it failed
pub record SinkSeen : Type 0 where
  pub told : Option (List ℕ)
  pub faults : ℕ

pub record Outside : Type 0 where
  pub files : FilesSeen
  pub out : SinkSeen

abbrev pub sink_seen : {O : Type 0} → Sink O → O → SinkSeen
sink_seen o out = record { told = o.told out; faults = o.faults out }

abbrev pub outside : {F O : Type 0} → Files F → Sink O → F → O → Outside
outside f o files out = record { files = files_seen f files; out = sink_seen o out }

-- no file was written to, and nothing is on the stream
pub record IsUntouched (old new : Outside) : Type 0 where
  pub files : AreUntouched old.files new.files
  pub lines : new.out.told ≡ old.out.told
