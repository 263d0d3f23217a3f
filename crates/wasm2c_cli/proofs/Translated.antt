-- What reading, accepting and writing say of a translation.
use Rattle.wasm2c_cli.proofs.Common.{◌≡◌, ℕ, List, IfOk, IfErr, OnOk, Ok, Err, string_bytes, Option, Result, ap, ◌∙◌, subst, inl, inr}
use Rattle.wasm2c_cli.proofs.Common.{IfErr-weaker, AllByRecursion, Rose, Name, Told, Tells, is_one, AreRead, Stands, StandsAt, written}
use Rattle.wasm2c_cli.proofs.Common.{Module, most_module_bytes, files_of, AreTaken, IsNamed, StopsAccepting, StopsTranslating, StopsWriting}
use Rattle.wasm2c_cli.proofs.Common.{most_set_bytes, Stop, Finished, AreAllTaken}
use Rattle.wasm2c_cli.specs.declared.stop.Stop.TheVariants as stops
use Rattle.wasm2c_cli.specs.declared.work.Finished.TheVariants as finished
use Rattle.wasm2c_cli.specs.Parts.{FinishesTranslating, StopsReading}
use Rattle.wasm2c_cli.specs.Plan as plan
use Rattle.wasm2c_cli.proofs.ModuleFiles.{one_of_targets}
use Rattle.wasm2c_cli.proofs.Taken.{refused_is_one, taken_accepted}

-- not all files are read
pub reading_stopped : (inputs : List Name) (targets : List plan.Target) (old new : Told) (r r' w w' : ℕ) (named : Option Name) (stop : Stop)
    → StopsReading old inputs r r' named stop → new ≡ old → StopsTranslating inputs targets old new r r' w w' named stop
reading_stopped inputs targets old new r r' w w' named (stops.Refused name reason) (one, limit) same =
    (one, λ contents tells. inl (limit contents tells), same)
reading_stopped inputs targets old new r r' w w' named (stops.Unread name) (one, why) same = (one, why, same)
reading_stopped inputs targets old new r r' w w' named stops.Memory why same = λ contents tells. inl same
reading_stopped inputs targets old new r r' w w' named _ why same = absurd why

module _ (inputs : List Name) (targets : List plan.Target) (old mid : Told) (sources : List (List ℕ)) (same : mid ≡ old)
    (read : Tells old (λ contents. AreRead most_module_bytes most_set_bytes contents inputs sources)) where
  pub accepting_stops : (r r' w w' : ℕ) (named : Option Name) (stop : Stop) → StopsAccepting inputs sources stop
      → StopsTranslating inputs targets old mid r r' w w' named stop
  accepting_stops r r' w w' named (stops.Refused name reason) why =
      (refused_is_one inputs sources (string_bytes name) reason why, λ contents tells. inr (sources, read contents tells, why), same)
  accepting_stops r r' w w' named stops.Memory why = λ contents tells. inl same
  accepting_stops r r' w w' named _ why = absurd why

  module _ (modules : List Module) (taken : AreTaken sources modules) where
    all_taken : Tells old (λ contents. AreAllTaken inputs contents modules)
    all_taken = λ contents tells.
        record { sources = sources; read = read contents tells; accepted = taken_accepted sources modules taken }

    writing_stops : (new : Told) (r r' w0 w w' : ℕ) (named : Option Name) (stop : Stop) → w ≡ w0
        → StopsWriting mid new (files_of targets modules) w w' named stop → StopsTranslating inputs targets old new r r' w0 w' named stop
    writing_stops new r r' w0 w w' named (stops.Unwritten name) count (faulted, stands) = (
      one_of_targets targets modules (string_bytes name) (is_one mid new (files_of targets modules) (string_bytes name) stands),
      record { rose = subst (λ n. Rose n w') count faulted.rose; named = faulted.named },
      λ contents tells.
          let files = files_of targets modules in
          (modules, all_taken contents tells, subst (λ (t : Told). StandsAt t new files (string_bytes name)) same stands),
    )
    writing_stops new r r' w0 w w' named stops.Memory count why = λ contents tells.
        inr (modules, all_taken contents tells, subst (λ (t : Told). Stands t new (files_of targets modules)) same why)
    writing_stops new r r' w0 w w' named _ count why = absurd why

    pub writing_stopped : {A : Type 0} (new : Told) (r r' w0 w w' : ℕ) (named : Option Name) (result : Result A Stop) → w ≡ w0
        → IfErr result (StopsWriting mid new (files_of targets modules) w w' named)
        → IfErr result (StopsTranslating inputs targets old new r r' w0 w' named)
    writing_stopped new r r' w0 w w' named result count =
        IfErr-weaker result _ _ (λ stop why. writing_stops new r r' w0 w w' named stop count why)

    pub translation_finished : (new : Told) (result : Result Finished Stop) → IfOk result (λ f. f ≡ finished.Written)
        → OnOk result (AllByRecursion IsNamed targets) → OnOk result (new ≡ written mid (files_of targets modules))
        → IfOk result (FinishesTranslating inputs targets old new)
    translation_finished new (Ok f) is named stand = (
      is,
      λ contents tells. record {
        sources = sources;
        modules = modules;
        read = read contents tells;
        taken = taken;
        named = named;
        stand = stand ∙ ap (λ (t : Told). written t (files_of targets modules)) same;
      },
    )
    translation_finished new (Err stop) is named stand = tt
