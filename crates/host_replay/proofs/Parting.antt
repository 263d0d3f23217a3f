-- What two runs tell that are the same as long as hosts reply the same.
use Rattle.std.specs.Prelude.{◌≡◌, ℕ, List, ◌∷◌, ◌++◌, length, Option}
use Rattle.w2c_base.specs.Run.{Ask, Asked, Event, Reply, asks_in}

-- so many asks are told alike, and one more, whatever is replied to it
pub record PartAt (n : ℕ) (events others : List Event) : Type 0 where
  pub front : List Event
  pub so_many : length (asks_in front) ≡ n
  pub ask : Ask
  pub reply : Option Reply
  pub other : Option Reply
  pub rest : List Event
  pub rest' : List Event
  pub events_are : events ≡ front ++ Asked ask reply ∷ rest
  pub others_are : others ≡ front ++ Asked ask other ∷ rest'
