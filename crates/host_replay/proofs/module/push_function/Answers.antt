use Rattle.host_replay.proofs.Common.{◌≡◌, [], ◌∷◌, ◌++◌, map, length, ap, ◌∙◌, rules, map_push, Host, function_of, module_of}
use Rattle.host_replay.proofs.Common.{named_function, with_function}
use Rattle.host_replay.proofs.Lasts.{last_is, last_set}
use Rattle.host_replay.proofs.module.push_function.Goals as goal

pub returns : goal.returns
returns c = λ front last are.
    let count : c.len-last.result ≡ length c.args.modules.now.items = search rules in
    let there : module_of c.index_mut.result.now ≡ last =
    ap module_of c.index_mut.ensures.value ∙ last_is c.args.modules.now.items front last c.len-last.result _ are count in
    let more : map function_of c.push.new.self.items
    ≡ map function_of c.index_mut.result.now.functions.items ++ named_function c.args.f ∷ [] =
    ap (map function_of) c.in_ok-push.ensures.items ∙ map_push function_of c.index_mut.result.now.functions.items _ in
    last_set c.args.modules.now.items front last (with_function last (named_function c.args.f)) c.len-last.result _ are count
    ((λ i. record { name = c.index_mut.result.now.name; functions = more i })
    ∙ ap (λ (m : Host). with_function m (named_function c.args.f)) there)
