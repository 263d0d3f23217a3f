use Rattle.host_replay.proofs.Common.{List, [], ◌∷◌, ◌++◌, take, sym, ap, ◌∙◌, subst, map-append, Host, Asked, fits, module_of, modules_of}
use Rattle.host_replay.proofs.Common.{AreReplays, ReplayHost}
use Rattle.host_replay.proofs.Given.{call_more, fits_its_host, module_more, next_item, test_passed}
use Rattle.host_replay.proofs.journal_hosts.replay_hosts.Goals as goal

pub loop-module-preserved : goal.loop-module-preserved
loop-module-preserved c =
    let k = c.loop-module.module-index in
    let modules = c.args.file.now.modules.items in
    let m = c.module-item.result in
    let next = ap modules_of (next_item modules c.as_slice-module-items.result.now k m c.as_slice-module-items.ensures.value
    c.loop-module-test.true c.module-item.is) ∙ map-append module_of (take k modules) (m ∷ []) in
    subst (λ (hosts : List Host). AreReplays (record { hosts = hosts; entries = [] }) c.push.new.self.items) (sym next)
    (subst (λ (replays : List ReplayHost).
    AreReplays (record { hosts = modules_of (take k modules) ++ module_of m ∷ []; entries = [] }) replays)
    (sym {A = List ReplayHost} c.in_ok-push.ensures.items)
    (module_more (modules_of (take k modules)) c.loop-module.hosts.items (module_of m) c.in_ok-of_module.field-0
    c.loop-module.invariant c.in_ok-of_module.ensures.module c.in_ok-of_module.ensures.no_calls c.in_ok-of_module.ensures.unused))

pub give-requires : goal.give-requires
give-requires c =
    let hosts = modules_of c.args.file.now.modules.items in
    let entries = c.args.file.now.entries.items in
    fits_its_host (record { hosts = hosts; entries = take c.loop-entry.entry-index entries }) c.entry-item.result c.loop-entry.hosts.items
    c.loop-entry.invariant
    (test_passed entries c.as_slice-entry-items.result.now c.loop-entry.entry-index c.entry-item.result c.as_slice-entry-items.ensures.value
    c.loop-entry-test.true c.entry-item.is (fits hosts) c.args.file.now.fitting)

pub loop-entry-preserved : goal.loop-entry-preserved
loop-entry-preserved c =
    let hosts = modules_of c.args.file.now.modules.items in
    let k = c.loop-entry.entry-index in
    let entries = c.args.file.now.entries.items in
    subst (λ (es : List Asked). AreReplays (record { hosts = hosts; entries = es }) c.give.new.hosts.items)
    (sym (next_item entries c.as_slice-entry-items.result.now k c.entry-item.result c.as_slice-entry-items.ensures.value
    c.loop-entry-test.true c.entry-item.is))
    (call_more (record { hosts = hosts; entries = take k entries }) c.entry-item.result c.loop-entry.hosts.items c.give.new.hosts.items
    c.loop-entry.invariant c.in_ok-give.ensures)
