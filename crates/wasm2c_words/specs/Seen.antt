-- What the code keeps, without where it lies in memory.
use Rattle.std.specs.Prelude.{option_map}
use Rattle.w2c_files.specs.Words.{names_of}
use Rattle.wasm2c_words.specs.declared.line.Line.{Line}
use Rattle.wasm2c_words.specs.declared.line.Line.TheVariants as form
use Rattle.wasm2c_words.specs.declared.line.Translation.{Translation}
use Rattle.wasm2c_words.specs.declared.line.FileSet.{FileSet}
use Rattle.wasm2c_words.specs.declared.line.Generation.{Generation}
use Rattle.wasm2c_words.specs.declared.values.Values.{Values}
use Rattle.wasm2c_words.specs.CommandLine as line
use Rattle.wasm2c_words.specs.Command as command

abbrev pub seen_translation : Translation → line.Translation
seen_translation t = record { input = t.input.now; output = t.output.now; module_name = t.module_name.now }

abbrev pub seen_set : FileSet → line.FileSet
seen_set s = record { dir = s.dir.now; inputs = names_of s.inputs.items }

abbrev pub seen_generation : Generation → line.Generation
seen_generation g = record { count = g.count; output = g.output.now; module_name = g.module_name.now }

abbrev pub seen_line : Line → line.Line
seen_line (form.Translate t) = line.translate (seen_translation t)
seen_line (form.Set s) = line.set (seen_set s)
seen_line (form.Generate g) = line.generate (seen_generation g)
seen_line (form.Runtime dir) = line.runtime dir.now

abbrev pub seen_values : Values → command.Values
seen_values v = record {
  output = option_map (λ name. name.now) v.output;
  module_name = option_map (λ name. name.now) v.module_name;
  dir = option_map (λ name. name.now) v.dir;
  count = option_map (λ name. name.now) v.count;
  runtime = option_map (λ name. name.now) v.runtime;
  files = names_of v.files.items;
}
