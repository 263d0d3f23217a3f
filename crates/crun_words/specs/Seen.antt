-- What the code keeps, without where it lies in memory.
use Rattle.std.specs.Prelude.{◌≤◌, List, map, option_map, vec_len}
use Rattle.w2c_files.specs.Words.{names_of}
use Rattle.crun_words.specs.declared.line.Line.{Line}
use Rattle.crun_words.specs.declared.line.Line.TheVariants as form
use Rattle.crun_words.specs.declared.line.RunLine.{RunLine}
use Rattle.crun_words.specs.declared.line.MergeLine.{MergeLine}
use Rattle.crun_words.specs.declared.line.TrimLine.{TrimLine}
use Rattle.crun_words.specs.declared.values.Values.{Values}
use Rattle.crun_words.specs.declared.calls_file.NumberedLine.{NumberedLine}
use Rattle.crun_words.specs.declared.call.CallLine.{CallLine}
use Rattle.crun_words.specs.CommandLine as line
use Rattle.crun_words.specs.Command as command
use Rattle.crun_words.specs.CallsFile as file
use Rattle.crun_words.specs.CallLine as call

abbrev pub seen_run : RunLine → line.RunLine
seen_run l = record {
  steps = l.steps;
  calls = l.calls.now;
  shows_state = l.shows_state;
  journal = option_map (λ name. name.now) l.journal;
  replayed = option_map (λ name. name.now) l.replayed;
  units = names_of l.units.items;
}

abbrev pub seen_merge : MergeLine → line.MergeLine
seen_merge l = record { output = l.output.now; units = names_of l.units.items }

abbrev pub seen_trim : TrimLine → line.TrimLine
seen_trim l = record { output = l.output.now; unit = l.unit.now }

abbrev pub seen_line : Line → line.Line
seen_line (form.Run l) = line.runs (seen_run l)
seen_line (form.Merge l) = line.merges (seen_merge l)
seen_line (form.Trim l) = line.trims (seen_trim l)

-- a line names 16 units at most
abbrev pub HasFewUnits : Line → Type 0
HasFewUnits (form.Run l) = vec_len l.units ≤ 16
HasFewUnits (form.Merge l) = vec_len l.units ≤ 16
HasFewUnits (form.Trim l) = Unit {0}

abbrev pub seen_values : Values → command.Values
seen_values v = record {
  steps = option_map (λ text. text.now) v.steps;
  calls = option_map (λ name. name.now) v.calls;
  shows_state = v.shows_state;
  journal = option_map (λ name. name.now) v.journal;
  replayed = option_map (λ name. name.now) v.replayed;
  merged = option_map (λ name. name.now) v.merged;
  trimmed = option_map (λ name. name.now) v.trimmed;
  units = names_of v.units.items;
}

abbrev pub seen_numbered : NumberedLine → file.NumberedLine
seen_numbered l = record { number = l.number; text = l.text.now }

abbrev pub seen_lines : List NumberedLine → List file.NumberedLine
seen_lines lines = map seen_numbered lines

abbrev pub seen_call : CallLine → call.Call
seen_call c = record { symbol = c.symbol; numbers = c.numbers }
