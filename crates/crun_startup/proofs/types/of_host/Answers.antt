use Rattle.crun_startup.proofs.Common.{[], map, Some, option_map, ap, func_type_of, host_type}
use Rattle.crun_startup.proofs.Collected.{gathered_more, maps, put_one}
use Rattle.crun_startup.proofs.types.of_host.Goals as goal

pub loop-host-preserved : goal.loop-host-preserved
loop-host-preserved c =
    gathered_more (map Some) (maps Some) host_type c.args.hosts.now [] _ _ c.loop-host.host-index c.host-item.result c.loop-host-test.true
    c.host-item.is
    (put_one (option_map func_type_of) _ (Some (host_type c.host-item.result)) c.loop-host.types.items _ c.in_ok-push.ensures.items
    (ap Some c.in_ok-c_func_type.ensures)) c.loop-host.invariant
