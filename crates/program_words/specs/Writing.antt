-- What a call writes on a stream.
use Rattle.std.specs.Prelude.{◌≡◌, ℕ, List, Option, Result, OnErr, OnOk}
use Rattle.w2c_io.specs.declared.answers.WriteAnswer.{WriteAnswer}
use Rattle.w2c_io.specs.Contents.{extended}
use Rattle.w2c_io.specs.Causes.{WriteCause}
use Rattle.w2c_io.specs.Telling.{SaysPart}

-- the call has written this text, or a part of it where it answers otherwise: Failed only where the count rose
pub record Writes {A : Type 0} (old new : Option (List ℕ)) (before after : ℕ) (text : List ℕ) (result : Result A WriteAnswer) : Type 0 where
  pub whole : OnOk result (new ≡ extended old text)
  pub part : OnErr result (SaysPart old new text)
  pub cause : WriteCause before after result
