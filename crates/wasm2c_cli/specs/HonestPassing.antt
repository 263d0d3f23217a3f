-- What passes for words over files that behave as files, which begin with some contents.
use Rattle.std.specs.Prelude.{ℕ, List, Option, Some}
use Rattle.w2c_io.specs.Contents.{Name, Contents, Told}
use Rattle.w2c_io.specs.Events.{Event}
use Rattle.w2c_io.specs.Honest.{AreHonest}
use Rattle.wasm2c_cli.specs.Passing.{PassesFor}

-- a call of this status was made on such files, and left them so
pub record PassesHonestly (words : List Name) (status : ℕ) (says : List ℕ → Type 0) (contents : Contents) (new : Told) : Type 0 where
  pub events : List Event
  pub current : Option Name
  pub after : Option Name
  pub passes : PassesFor words status says events
  pub honest : AreHonest events (Some contents) current new after
