-- What a journal says: hosts with their functions, and the calls that these answered, in order.
use Rattle.host_replay.specs.declared.file.JournalFile.{JournalFile}
use Rattle.host_replay.specs.Modules.{modules_of}
use Rattle.host_replay.specs.Texts.{Recorded}

abbrev pub recorded : JournalFile → Recorded
recorded f = record { hosts = modules_of f.modules.items; entries = f.entries.items }
