-- What is refused of the line that a text says is refused of the text, which says no other.
use Rattle.host_replay.proofs.Common.{◌≡◌, ℕ, Bool, false, List, IfOk, Ok, Err, Result, subst, one_line, IsLine, JournalLine, Adds}
use Rattle.host_replay.proofs.Common.{Recorded}

pub refused_text : {E : Type 0} (text : List ℕ) (said : JournalLine) (before : Recorded) (r : Result Bool E) → IsLine text said
    → IfOk r (λ b. b ≡ false → (after : Recorded) → Adds before said after → ⊥)
    → IfOk r (λ b. b ≡ false → (l : JournalLine) (after : Recorded) → IsLine text l → Adds before l after → ⊥)
refused_text text said before (Ok b) is none = λ e l after other adds.
    none e after (subst (λ (l : JournalLine). Adds before l after) (one_line text l said other is) adds)
refused_text text said before (Err e) is none = tt
