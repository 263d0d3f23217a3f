use Rattle.packed_stmts.proofs.Common.{◌≡◌, [], ◌∷◌, ◌++◌, map, ap, ◌∙◌}
use Rattle.std.proofs.lemmas.List.{map_push}
use Rattle.c_tree.specs.View.{arg_of}
use Rattle.packed_stmts.specs.Unpacked.{arg_at, list_at}
use Rattle.packed_stmts.proofs.Turns.{goes_on, is_done}
use Rattle.packed_stmts.proofs.unpacking.Source.args.Goals as goal

pub loop-preserved : goal.loop-preserved
loop-preserved c =
    let e : map arg_of c.push.new.self ≡ map arg_of c.loop.args ++ arg_of c.in_ok-arg.arg ∷ [] =
    ap (map arg_of) c.in_ok-push.ensures.ok ∙ map_push arg_of c.loop.args c.in_ok-arg.arg in
    rw e (goes_on arg_at (map arg_of c.loop.args) c.u64-count.result c.loop.counter c.loop.self c.arg.new.self (arg_of c.in_ok-arg.arg)
    (list_at arg_at c.args.self.now) c.loop-test.true c.in_ok-arg.ensures c.loop.invariant)

pub returns : goal.returns
returns c =
    is_done arg_at (map arg_of c.loop.args) c.u64-count.result c.loop.counter c.loop.self (list_at arg_at c.args.self.now)
    c.loop-test.false c.loop.invariant
