-- That the functions of C do what the modules' functions do.
use Rattle.std.specs.Prelude.{ℕ, ◌≤◌}
use Rattle.wasm_meaning.specs.LinkedSet.{LinkedSet}
use Rattle.wasm_meaning.specs.Execution.{call_within}
use Rattle.c_meaning.specs.Linking.{Program}
use Rattle.alike.specs.CallsFollow.{CallsFollow}
use Rattle.body_meaning.specs.Serves.{AreServed}

-- In a program whose units serve the modules of a linked set, each call is followed, however many modules
-- are ready and functions active.
abbrev pub BodiesFollow : Type 0
BodiesFollow =
    (p : Program) (s : LinkedSet) → AreServed p s → (count room : ℕ) → room ≤ 1024 → CallsFollow p s count room (call_within s room)
