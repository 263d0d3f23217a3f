use Rattle.c_tree.proofs.Common.{◌≡◌, sym, expr_of}
use Rattle.c_tree.proofs.Tested.{no_room}
use Rattle.c_tree.proofs.formed.+is_expression_formed.Goals as goal

pub returns-then-room-eq0 : goal.returns-then-room-eq0
returns-then-room-eq0 t c = let e : c.args.room ≡ 0 = c.if-room-eq0.true in rw e (sym (no_room (expr_of c.args.e.now)))
