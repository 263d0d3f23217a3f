-- What passes in a call over files that behave as files, which begin with some contents.
use Rattle.std.specs.Prelude.{◌≡◌, ℕ, List, Some}
use Rattle.w2c_io.specs.Contents.{Name, Contents}
use Rattle.w2c_io.specs.Events.{Event}
use Rattle.w2c_io.specs.Honest.{AreHonest}
use Rattle.c_hosts.specs.declared.host.HostModule.{Ghosts as HostModule}
use Rattle.crun_cli.specs.Outside.{Outside}
use Rattle.crun_cli.specs.Passing.{PassesFor}

-- a call of this status was made on such files, and left what is outside so
pub record PassesHonestly {H : Type 0} (m : HostModule H) (hosts : List H) (words : List Name) (contents : Contents) (old new : Outside)
    (status : ℕ) (Said : List ℕ → Type 0) : Type 0 where
  pub events : List Event
  pub told : old.files.told ≡ Some contents
  pub passes : PassesFor m hosts words old.out.told new.out.told status Said events
  pub honest : AreHonest events old.files.told old.files.current new.files.told new.files.current
