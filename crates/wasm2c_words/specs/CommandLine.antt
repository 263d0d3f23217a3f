-- The readings of a command line: FILE -o OUT.c [-n NAME], --dir DIR FILE .., --gen N -o OUT.c [-n NAME] and --runtime DIR.
use Rattle.std.specs.Prelude.{ℕ, ◌&&◌, nat_le, Bool, List, [], ◌∷◌, length, map, Option, Some, None, if◌then◌else◌, unwrap_or}
use Rattle.std.specs.Prelude.{option_and_then, codes}
use Rattle.std.specs.List.{list_all}
use Rattle.std.specs.Str.Parse.{digits_value}
use Rattle.w2c_io.specs.Contents.{Name}
use Rattle.w2c_files.specs.CFile.{is_c_file}
use Rattle.program_words.specs.Tests.{is_decimal, is_module_name}
use Rattle.wasm2c_words.specs.Command.{Values, values_of}
use Rattle.wasm2c_words.specs.Names.{are_distinct, module_name_of}

-- FILE -o OUT.c [-n NAME]: the file to read, the file to write, and the module's name
pub record Translation : Type 0 where
  pub input : Name
  pub output : Name
  pub module_name : List ℕ

-- --dir DIR FILE ..: the files to read, and where to write
pub record FileSet : Type 0 where
  pub dir : Name
  pub inputs : List Name

-- --gen N -o OUT.c [-n NAME]: how many functions are generated, the file to write, and the module's name
pub record Generation : Type 0 where
  pub count : ℕ
  pub output : Name
  pub module_name : List ℕ

-- the four forms; --runtime DIR says where the runtime's texts are written
pub data Line : Type 0 where
  translate : Translation → Line
  set : FileSet → Line
  generate : Generation → Line
  runtime : Name → Line

-- ---- the tests of words

-- what the name of the file to write and the module's must be
abbrev pub are_names : Name → List ℕ → Bool
are_names output module_name = is_c_file output && is_module_name module_name

-- 1 to 16 files, whose modules' names are distinct names of modules
abbrev pub is_set : List Name → Bool
is_set inputs = (nat_le 1 (length inputs) && nat_le (length inputs) 16)
    && (list_all is_module_name (map module_name_of inputs) && are_distinct (map module_name_of inputs))

abbrev pub in_range : ℕ → Option ℕ
in_range count = if nat_le 1 count && nat_le count 20000 then Some count else None

-- the number that 1 to 5 decimal digits write, where it is 1 to 20,000
abbrev pub count_of : List ℕ → Option ℕ
count_of text = if is_decimal 5 text then in_range (digits_value 10 text) else None

-- ---- the forms

-- the line of a module with this name
abbrev pub translation : Name → Name → List ℕ → Option Line
translation input output module_name =
    if are_names output module_name then Some (translate (record { input = input; output = output; module_name = module_name })) else None

-- one file, and the module's name is NAME, else by the file's
abbrev pub line_with_output : Name → Option (List ℕ) → List Name → Option Line
line_with_output output name (input ∷ []) = translation input output (unwrap_or name (module_name_of input))
line_with_output output name _ = None

-- no name
abbrev pub line_with_dir : Name → Option (List ℕ) → List Name → Option Line
line_with_dir dir (Some name) files = None
line_with_dir dir None files = if is_set files then Some (set (record { dir = dir; inputs = files })) else None

-- the line of a generated module with this name
abbrev pub generation : Option ℕ → Name → List ℕ → Option Line
generation None output module_name = None
generation (Some count) output module_name =
    if are_names output module_name then Some (generate (record { count = count; output = output; module_name = module_name })) else None

-- no file, and the module's name is NAME, else gen
abbrev pub line_with_count : List ℕ → Name → Option (List ℕ) → List Name → Option Line
line_with_count count output name [] = generation (count_of count) output (unwrap_or name (codes "gen"))
line_with_count count output name (file ∷ files) = None

-- no name and no file
abbrev pub line_with_runtime : Name → Option (List ℕ) → List Name → Option Line
line_with_runtime dir None [] = Some (runtime dir)
line_with_runtime dir _ _ = None

-- the form by the options that stand: -o alone, --dir alone, -o and --gen, or --runtime alone
abbrev pub line_by : Option Name → Option Name → Option (List ℕ) → Option Name → Option (List ℕ) → List Name → Option Line
line_by (Some output) None None None name files = line_with_output output name files
line_by None (Some dir) None None name files = line_with_dir dir name files
line_by (Some output) None (Some count) None name files = line_with_count count output name files
line_by None None None (Some dir) name files = line_with_runtime dir name files
line_by _ _ _ _ _ _ = None

-- the line of values that fit one of the forms and pass its tests
abbrev pub line_of_values : Values → Option Line
line_of_values v = line_by v.output v.dir v.count v.runtime v.module_name v.files

-- the line of the words
abbrev pub line_of : List (List ℕ) → Option Line
line_of words = option_and_then line_of_values (values_of words)
