-- The modules of a journal, as host modules.
use Rattle.std.specs.Prelude.{List, map}
use Rattle.w2c_base.specs.Run.{Host}
use Rattle.c_hosts.specs.Asking.{function_of}
use Rattle.host_replay.specs.declared.module.JournalModule.{JournalModule}

abbrev pub module_of : JournalModule → Host
module_of m = record { name = m.name; functions = map function_of m.functions.items }

abbrev pub modules_of : List JournalModule → List Host
modules_of modules = map module_of modules
