-- No run of linked units that keep the rules is stuck.
use Rattle.c_sound.proofs.Common.{◌≡◌, None, Program, link_refusal, KeepRules, NeverStuck}
use Rattle.c_sound.proofs.Runs.{runs_well}
use Rattle.c_sound.proofs.Units.{typed_program}

pub never_stuck : (p : Program) → KeepRules p → link_refusal p ≡ None → NeverStuck p
never_stuck p keep links = runs_well p (typed_program p keep links)
