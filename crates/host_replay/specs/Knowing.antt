-- A table of symbols finds the functions of modules.
use Rattle.std.specs.Prelude.{◌≡◌, ℕ, List, Some}
use Rattle.w2c_base.specs.Lookup.{named}
use Rattle.w2c_base.specs.Run.{Host}
use Rattle.host_replay.specs.declared.place.Place.{Place}
use Rattle.host_replay.specs.Reading.{symbol_at}

pub record Knows (table : List (List ℕ × Place)) (hosts : List Host) : Type 0 where
  pub found : (q : List ℕ) (p : Place) → named q table ≡ Some p → symbol_at hosts p.host p.function ≡ Some q
  pub every : (q : List ℕ) (h f : ℕ) → symbol_at hosts h f ≡ Some q → named q table ≡ Some (record { host = h; function = f })
