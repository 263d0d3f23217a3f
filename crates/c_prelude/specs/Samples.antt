-- Calls of helpers with closed arguments, in a machine with a memory of a few bytes and a table.
use Rattle.std.specs.Prelude.{ℕ, true, List, [], ◌∷◌, codes, Some, None}
use Rattle.w2c_base.specs.Run.{Init}
use Rattle.c_meaning.specs.State.{CValue, Pointer, ObjectAddress, UnitFunc, Machine}
use Rattle.c_meaning.specs.Linking.{Program}
use Rattle.c_meaning.specs.Run.{Pending, Progress, after}
use Rattle.c_helpers.specs.declared.operation.Helper.{Helper}
use Rattle.c_helpers.specs.Helpers.{helper_of}
use Rattle.c_prelude.specs.Calls.{CallEnd, call_begun, call_ended}

abbrev pub program : Program
program = record { units = []; hosts = [] }

abbrev pub pending : Pending
pending = record { phase = Init 0; entries = [] }

abbrev pub object : List ℕ → ObjectAddress
object name = record { unit = 0; name = name }

-- a machine with a memory of these bytes
abbrev pub with_bytes : List ℕ → Machine
with_bytes bytes = record {
  depth = 0;
  units = record {
    vars = [];
    memories = (codes "m0", record { is_made = true; bytes = bytes; max = 1 }) ∷ [];
    tables = (
      codes "t0",
      record {
        is_made = true;
        elements = None ∷ Some (record { func = UnitFunc 0 (codes "f0"); signature = 7 }) ∷
            [];
        max = 2;
      },
    ) ∷ [];
  } ∷ [];
  trail = record { replies = []; events = [] };
}

abbrev pub sample_bytes : List ℕ
sample_bytes = 255 ∷ 2 ∷ 3 ∷ 4 ∷ 133 ∷ []

abbrev pub machine : Machine
machine = with_bytes sample_bytes

abbrev pub memory : CValue
memory = Pointer (Some (object (codes "m0")))

abbrev pub table : CValue
table = Pointer (Some (object (codes "t0")))

-- where the call stands after so many statements, also with other bytes in the memory, and a call that ended
abbrev pub called_with : List ℕ → Helper → List CValue → ℕ → Progress
called_with bytes which args n = after program n (call_begun program pending 0 0 (helper_of which) (with_bytes bytes) args [])

abbrev pub called : Helper → List CValue → ℕ → Progress
called which args n = called_with sample_bytes which args n

abbrev pub ended : CallEnd → Progress
ended end = call_ended program pending end []
