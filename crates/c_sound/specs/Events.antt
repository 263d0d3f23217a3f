-- What a run of C has told when it stands somewhere: what hosts were asked, and the listed calls that ended, in order.
use Rattle.std.specs.Prelude.{List}
use Rattle.w2c_base.specs.Run.{Event}
use Rattle.c_meaning.specs.Run.{Progress, Going, Over}

abbrev pub events_of : Progress → List Event
events_of (Going pending s) = s.machine.trail.events
events_of (Over run) = run.events
