-- The readings of a command line: --steps N --calls FILE [--state] [--record J] [--replay J] UNIT.c .., --merge OUT.c UNIT.c .. and
-- --trim OUT.c UNIT.c.
use Rattle.std.specs.Prelude.{ℕ, ◌^◌, ◌&&◌, nat_le, Bool, true, false, not, List, [], ◌∷◌, length, Option, Some, None, if◌then◌else◌}
use Rattle.std.specs.Prelude.{option_and_then}
use Rattle.w2c_io.specs.Contents.{Name}
use Rattle.w2c_files.specs.CFile.{is_c_file}
use Rattle.crun_words.specs.Command.{Values, values_of}
use Rattle.crun_words.specs.Numbers.{number_below}

-- a run: how many statements are run in all, the file of the calls, whether the state is shown, the file that the journal of the run
-- is written to, the file of the journal that is replayed, and the units' files
pub record RunLine : Type 0 where
  pub steps : ℕ
  pub calls : Name
  pub shows_state : Bool
  pub journal : Option Name
  pub replayed : Option Name
  pub units : List Name

-- units that are merged into one: the file to write, and the units' files
pub record MergeLine : Type 0 where
  pub output : Name
  pub units : List Name

-- a unit that is trimmed: the file to write, and the unit's file
pub record TrimLine : Type 0 where
  pub output : Name
  pub unit : Name

-- the three forms
pub data Line : Type 0 where
  runs : RunLine → Line
  merges : MergeLine → Line
  trims : TrimLine → Line

-- ---- the tests of words

-- 1 to 16 units
abbrev pub are_units : List Name → Bool
are_units units = nat_le 1 (length units) && nat_le (length units) 16

abbrev pub is_absent : Option (List ℕ) → Bool
is_absent None = true
is_absent (Some text) = false

-- no option or flag that belongs to a run
abbrev pub is_no_run : Values → Bool
is_no_run v = (is_absent v.steps && is_absent v.calls) && (not v.shows_state && (is_absent v.journal && is_absent v.replayed))

-- ---- the forms

-- the run with so many statements, where --steps and --calls both stand
abbrev pub run_with : Option ℕ → Option Name → Values → Option Line
run_with (Some steps) (Some calls) v = if are_units v.units then Some (runs (record {
  steps = steps;
  calls = calls;
  shows_state = v.shows_state;
  journal = v.journal;
  replayed = v.replayed;
  units = v.units;
})) else None
run_with (Some steps) None v = None
run_with None calls v = None

-- N has 1 to 20 decimal digits and is below 2^64
abbrev pub line_of_run : Values → Option Line
line_of_run v = run_with (option_and_then (number_below (2 ^ 64)) v.steps) v.calls v

-- 1 to 16 units, and the file to write is a C file
abbrev pub merge_of : Name → List Name → Option Line
merge_of output units =
    if is_c_file output && are_units units then Some (merges (record { output = output; units = units })) else None

abbrev pub line_of_merge : Name → Values → Option Line
line_of_merge output v = if is_no_run v then merge_of output v.units else None

-- one unit, and the file to write is a C file
abbrev pub trim_of : Name → List Name → Option Line
trim_of output [] = None
trim_of output (unit ∷ []) = if is_c_file output then Some (trims (record { output = output; unit = unit })) else None
trim_of output (unit ∷ other ∷ units) = None

abbrev pub line_of_trim : Name → Values → Option Line
line_of_trim output v = if is_no_run v then trim_of output v.units else None

-- the form by the options --merge and --trim: a run without them, and with one of them no option of a run
abbrev pub line_by : Option Name → Option Name → Values → Option Line
line_by None None v = line_of_run v
line_by (Some output) None v = line_of_merge output v
line_by None (Some output) v = line_of_trim output v
line_by (Some output) (Some other) v = None

-- the line of values that fit one of the forms and pass its tests
abbrev pub line_of_values : Values → Option Line
line_of_values v = line_by v.merged v.trimmed v

-- the line of the words
abbrev pub line_of : List (List ℕ) → Option Line
line_of words = option_and_then line_of_values (values_of words)
