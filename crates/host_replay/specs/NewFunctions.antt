-- A function that comes behind those of the last module.
use Rattle.std.specs.Prelude.{◌≡◌, List, [], ◌∷◌, ◌++◌, length}
use Rattle.w2c_base.specs.Run.{Host}
use Rattle.journal_lines.specs.declared.line.FunctionLine.{FunctionLine}
use Rattle.host_replay.specs.declared.place.NewFunction.{NewFunction}
use Rattle.host_replay.specs.Reading.{named_function, symbol_of}

pub record IsNewIn (hosts : List Host) (f : FunctionLine) (new : NewFunction) : Type 0 where
  pub front : List Host
  pub last : Host
  pub hosts_are : hosts ≡ front ++ last ∷ []
  pub symbol_is : new.symbol ≡ symbol_of last (named_function f)
  pub host_is : new.place.host ≡ length front
  pub function_is : new.place.function ≡ length last.functions
