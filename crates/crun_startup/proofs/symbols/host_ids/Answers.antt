use Rattle.crun_startup.proofs.Common.{[], ◌++◌, flat_map, sym, ap, ◌∙◌, append-nil, slice_get-get_or, numbered_at, numbered_past, numbered}
use Rattle.crun_startup.proofs.Common.{ids_of}
use Rattle.crun_startup.proofs.Collected.{flats, gathered_all, gathered_next}
use Rattle.crun_startup.proofs.symbols.host_ids.Goals as goal

pub loop-host-preserved : goal.loop-host-preserved
loop-host-preserved c =
    let counts = c.args.counts.now in
    gathered_next (flat_map ids_of) (flats ids_of) (numbered counts) [] c.loop-host.ids.items _ c.loop-host.host _
    (numbered_at counts c.loop-host.host _ (slice_get-get_or counts c.loop-host.host _ c.loop-host-test.true))
    (c.in_ok-put_ids.ensures ∙ ap (λ l. c.loop-host.ids.items ++ l) (sym (append-nil _))) c.loop-host.invariant

pub returns : goal.returns
returns c =
    gathered_all (flat_map ids_of) (flats ids_of) (numbered c.args.counts.now) [] c.loop-host.ids.items c.loop-host.host
    (numbered_past 0 c.args.counts.now c.loop-host.host c.loop-host-test.false) c.loop-host.invariant
