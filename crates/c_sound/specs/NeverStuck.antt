-- Runs for whose every statement the meaning of C has a rule (C11, 3.4.3 and 4 paragraph 2, behaviour that is not
-- defined: what is undefined has a kind of its own, and is no want of a rule).
use Rattle.std.specs.Prelude.{◌≡◌, ◌≢◌, ℕ, List, true}
use Rattle.std.specs.List.{AllByRecursion}
use Rattle.w2c_base.specs.Run.{Reply}
use Rattle.c_tree.specs.FirstBroken.{KeepsRules}
use Rattle.c_meaning.specs.State.{Stuck}
use Rattle.c_meaning.specs.Linking.{Program, SymbolCall, fits}
use Rattle.c_meaning.specs.Run.{Stopped, c_run}

-- Each unit of the program keeps the rules.
abbrev pub KeepRules : Program → Type 0
KeepRules p = AllByRecursion KeepsRules p.units

-- Each call is of a function that is there, with arguments of its parameters' types.
abbrev pub AllFit : Program → List SymbolCall → Type 0
AllFit p calls = AllByRecursion (λ c. fits p c ≡ true) calls

-- No run of the program is stuck, whichever calls are listed, as long as they fit, and whatever its hosts reply.
abbrev pub NeverStuck : Program → Type 0
NeverStuck p =
    (calls : List SymbolCall) (replies : List Reply) (m : ℕ)
    → AllFit p calls
    → (c_run p calls m replies).outcome ≢ Stopped Stuck
