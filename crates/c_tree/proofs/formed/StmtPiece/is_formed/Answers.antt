use Rattle.c_tree.proofs.Common.{◌≡◌, true, map, ap, ◌∙◌, rules, call_formed, call_room, named_if_any, arg_of, callee_of}
use Rattle.c_tree.proofs.formed.StmtPiece.is_formed.Goals as goal

pub returns-then-is_named_if_any : goal.returns-then-is_named_if_any
returns-then-is_named_if_any c =
    let named : named_if_any c.in-Call.target ≡ true = search rules in
    let room : c.call_room.result ≡ call_room c.args.room c.in-Call.target = search rules in
    let call : c.is_call_formed.result
    ≡ call_formed (call_room c.args.room c.in-Call.target) (callee_of c.in-Call.callee) (map arg_of c.in-Call.args) =
    c.is_call_formed.ensures ∙ ap (λ d. call_formed d (callee_of c.in-Call.callee) (map arg_of c.in-Call.args)) room in
    rw (c.in-Call.is, named) call
