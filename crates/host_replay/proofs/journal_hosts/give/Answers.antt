use Rattle.host_replay.proofs.Common.{◌<◌, [], ◌∷◌, length, Some, sym, refl, ap, ◌∙◌, subst, rules, slice_get-get_or, Asked, HasMore}
use Rattle.host_replay.proofs.Given.{given_at, none_given}
use Rattle.host_replay.proofs.journal_hosts.give.Goals as goal

pub returns-in_ok-push : goal.returns-in_ok-push
returns-in_ok-push c =
    let items = c.args.hosts.now.items in
    let host = c.args.entry.now.host in
    let within : host < length items = search rules in
    given_at items _ c.args.entry.now c.index_mut.result.now c.push.new.self
    (slice_get-get_or items host c.index_mut.result.now within ∙ ap Some (sym c.index_mut.ensures.value)) refl
    (subst (λ (a : Asked). HasMore c.index_mut.result.now (a ∷ []) c.push.new.self) c.in_ok-copy.ensures c.in_ok-push.ensures)

pub returns-else-entry-len : goal.returns-else-entry-len
returns-else-entry-len c = none_given c.args.hosts.now.items c.args.entry.now (search rules)
