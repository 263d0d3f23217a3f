-- What the code keeps, without where it lies in memory.
use Rattle.std.specs.Prelude.{List, map, string_bytes}
use Rattle.wast_script.specs.declared.command.ModuleFile.{ModuleFile}
use Rattle.wast_script.specs.declared.command.Call.{Call}
use Rattle.wast_script.specs.declared.command.Command.{Command}
use Rattle.wast_script.specs.declared.command.Command.TheVariants as command
use Rattle.wast_script.specs.declared.script.Script.{Script}
use Rattle.wast_script.specs.declared.stop.Stop.{Stop}
use Rattle.wast_script.specs.declared.stop.Stop.TheVariants as stop
use Rattle.wast_script.specs.declared.words.Line.{Line}
use Rattle.wast_script.specs.Commands as spec
use Rattle.wast_script.specs.CommandLine as line
use Rattle.wast_script.specs.Lines as lines

abbrev pub seen_module : ModuleFile → spec.ModuleFile
seen_module m = record { name = string_bytes m.name; filename = string_bytes m.filename }

abbrev pub seen_call : Call → spec.Call
seen_call c = record { module_name = string_bytes c.module_name; field_name = string_bytes c.field_name; args = c.args }

abbrev pub seen_command : Command → spec.Command
seen_command (command.Module file) = spec.Module (seen_module file)
seen_command (command.Call call) = spec.Invoke (seen_call call)
seen_command (command.AssertReturn call expected) = spec.AssertReturn (seen_call call) expected
seen_command (command.AssertTrap call cause) = spec.AssertTrap (seen_call call) cause
seen_command (command.AssertInvalid filename) = spec.AssertInvalid (string_bytes filename)
seen_command (command.AssertMalformed filename) = spec.AssertMalformed (string_bytes filename)

abbrev pub seen_commands : List Command → List spec.Command
seen_commands commands = map seen_command commands

abbrev pub seen_script : Script → List spec.Command
seen_script s = seen_commands s.commands.items

abbrev pub seen_line : Line → line.Line
seen_line l = record { steps = l.steps; script = l.script.now }

abbrev pub reason_of : Stop → lines.Reason
reason_of stop.Usage = lines.Usage
reason_of (stop.Unread name) = lines.Unread (string_bytes name)
reason_of (stop.Refused why) = lines.Refused why
reason_of stop.Unwritten = lines.Unwritten
reason_of stop.Memory = lines.WantOfMemory
