-- Hosts and objects, written by hand, whose lines closed cases compute.
use Rattle.std.specs.Prelude.{ℕ, true, List, [], ◌∷◌, ◌++◌, codes, replicate, Some, None}
use Rattle.w2c_base.specs.declared.value.ValType.TheVariants as type
use Rattle.w2c_base.specs.declared.value.Value.TheVariants.{I32, I64}
use Rattle.w2c_base.specs.Run.{Ask, Host}
use Rattle.c_meaning.specs.State.{Number, Pointer, UnitFunc, HostFunc, Table, Objects}

-- the hosts env, with tick and a function without a name, and one without a name and functions
abbrev pub hosts : List Host
hosts =
    record {
      name = codes "env";
      functions =
          record { name = codes "tick"; ty = record { params = []; result = Some type.I64 } }
          ∷ record { name = []; ty = record { params = []; result = None } }
          ∷ [];
    }
    ∷ record { name = []; functions = [] }
    ∷ []

abbrev pub tick : Ask
tick = record { host = 0; function = 0; args = [] }

-- three rows, of which the second has a byte 5 at its place 8, counted from 0
abbrev pub bytes : List ℕ
bytes = replicate 24 0 ++ 5 ∷ replicate 23 0

abbrev pub table : Table
table = record {
  is_made = true;
  elements =
      None
      ∷ Some (record { func = UnitFunc 0 (codes "f1"); signature = 4 })
      ∷ Some (record { func = HostFunc 0 1; signature = 3 })
      ∷ [];
  max = 3;
}

abbrev pub objects : Objects
objects = record {
  vars =
      (codes "g10", Number (I32 7))
      ∷ (codes "g9", Number (I64 18446744073709551615))
      ∷ (codes "p0", Pointer None)
      ∷ (codes "g0", Number (I32 66560))
      ∷ [];
  memories = (codes "m0", record { is_made = true; bytes = bytes; max = 1 }) ∷ [];
  tables = (codes "t0", table) ∷ [];
}
