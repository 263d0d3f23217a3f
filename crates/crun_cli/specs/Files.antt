-- Which files a command line says are to be read, and which is to be written.
use Rattle.std.specs.Prelude.{◌≡◌, ◌≢◌, ◌⊎◌, List, Option, Some, None}
use Rattle.w2c_io.specs.Contents.{Name}
use Rattle.w2c_files.specs.Standing.{IsOneOf}
use Rattle.crun_words.specs.CommandLine.{Line, line_of, runs, merges, trims}

-- the words have a reading
abbrev pub HasReading : List Name → Type 0
HasReading words = line_of words ≢ None

-- one of the units that the words name
abbrev pub IsUnitOf : Name → Line → Type 0
IsUnitOf file (runs line) = IsOneOf file line.units
IsUnitOf file (merges line) = IsOneOf file line.units
IsUnitOf file (trims line) = file ≡ line.unit

abbrev pub IsUnitFile : Name → Option Line → Type 0
IsUnitFile file None = ⊥
IsUnitFile file (Some line) = IsUnitOf file line

-- one of the files that the words say are to be read: a unit, the calls file, and the journal that is replayed
abbrev pub IsReadBy : Name → Line → Type 0
IsReadBy file (runs line) = IsOneOf file line.units ⊎ ((file ≡ line.calls) ⊎ (line.replayed ≡ Some file))
IsReadBy file (merges line) = IsOneOf file line.units
IsReadBy file (trims line) = file ≡ line.unit

abbrev pub IsToRead : Name → Option Line → Type 0
IsToRead file None = ⊥
IsToRead file (Some line) = IsReadBy file line

-- the file that the words name for writing: the journal of the run, or the unit
abbrev pub IsWrittenBy : Name → Line → Type 0
IsWrittenBy file (runs line) = line.journal ≡ Some file
IsWrittenBy file (merges line) = file ≡ line.output
IsWrittenBy file (trims line) = file ≡ line.output

abbrev pub IsToWrite : Name → Option Line → Type 0
IsToWrite file None = ⊥
IsToWrite file (Some line) = IsWrittenBy file line

-- the words name no file for writing
abbrev pub WritesNothing : Option Line → Type 0
WritesNothing None = Unit {0}
WritesNothing (Some (runs line)) = line.journal ≡ None
WritesNothing (Some (merges line)) = ⊥
WritesNothing (Some (trims line)) = ⊥
