use Rattle.crun_startup.proofs.First.{are_stored, is_fresh}
use Rattle.crun_startup.proofs.startup.fresh_store.Goals as goal

pub returns-clause-stored : goal.returns-clause-stored
returns-clause-stored c = are_stored _ _ c.unit_count.ensures.checked c.in_ok-store.ensures

pub returns-clause-fresh : goal.returns-clause-fresh
returns-clause-fresh c p replies same = is_fresh p _ _ c.in_ok-store.ensures same replies
