use Rattle.c_hosts.proofs.Common.{◌≡◌, [], ◌∷◌, ◌++◌, length, sym, ap, ◌∙◌, with_reply}
use Rattle.c_hosts.proofs.Lasts.{last_is, last_set}
use Rattle.c_hosts.proofs.journal.Journal.put_reply.Goals as goal

pub returns : goal.returns
returns c front a is =
    let items = c.self.inside.asks.items in
    let are : items ≡ front ++ a ∷ [] = c.self.view_is ∙ is in
    let count = c.len-last.ensures ∙ ap length (sym c.self.view_is) in
    last_set items front a c.len-last.result are count (with_reply c.args.reply c.index_mut.result.now)
    ∙ ap (λ x. front ++ with_reply c.args.reply x ∷ [])
    (c.index_mut.ensures.value ∙ last_is items front a c.len-last.result are count c.index_mut.result.now)
