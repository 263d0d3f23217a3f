-- The status that a job is answered by, where nothing fails outside and memory is found.
use Rattle.std.specs.Prelude.{◌≡◌, ◌≢◌, ℕ, List, Some}
use Rattle.w2c_io.specs.Contents.{Name}
use Rattle.wasm2c_words.specs.CommandLine.{line_of, runtime}
use Rattle.wasm2c_cli.specs.Job.{Job, Usage, Missing, Refused, Write}

abbrev pub Answers : Job → ℕ → Type 0
Answers Usage status = status ≡ 2
Answers (Missing file) status = status ≡ 3
Answers (Refused file reason) status = status ≡ 1
Answers (Write files) status = status ≡ 0

-- the words name modules, and not the runtime
abbrev pub NamesModules : List Name → Type 0
NamesModules words = (dir : Name) → line_of words ≢ Some (runtime dir)
