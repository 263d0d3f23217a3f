-- The files, as the trait Files tells them.
use Rattle.std.specs.Prelude.{◌≡◌, ℕ, Option}
use Rattle.w2c_io.specs.Contents.{Name, Told}
use Rattle.w2c_io.specs.declared.files.Files.{Ghosts as Files}

-- what the files hold, the file that is written to, how often reading and writing files failed, and the file of the last failure
pub record FilesSeen : Type 0 where
  pub told : Told
  pub current : Option Name
  pub read_faults : ℕ
  pub write_faults : ℕ
  pub fault_name : Option Name

abbrev pub files_seen : {F : Type 0} → Files F → F → FilesSeen
files_seen f files = record {
  told = f.told files;
  current = f.current files;
  read_faults = f.read_faults files;
  write_faults = f.write_faults files;
  fault_name = f.fault_name files;
}

-- no file was written to
pub record AreUntouched (old new : FilesSeen) : Type 0 where
  pub told : new.told ≡ old.told
  pub current : new.current ≡ old.current
