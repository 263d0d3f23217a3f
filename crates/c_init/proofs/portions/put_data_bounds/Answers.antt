use Rattle.std.proofs.Common.{take}
use Rattle.c_init.proofs.Common.{◌∷◌, ◌++◌, map, sym, ap, ◌∙◌}
use Rattle.c_init.specs.Init.{data_tests_part, most, pieces}
use Rattle.c_init.specs.Portions.{part_of}
use Rattle.c_init.proofs.PieceCounts.{pieces_first}
use Rattle.c_init.proofs.PieceLists.{is_none_left, is_some_left, no_pieces, own_push, part_put, parts_put}
use Rattle.c_init.proofs.portions.put_data_bounds.Goals as goal

pub loop-rest-init : goal.loop-rest-init
loop-rest-init c =
    let m = c.args.m.now in
    record {
      so_far = ap (λ es. map (part_of m) c.args.list.now.items ++ map (data_tests_part m) (pieces es)) c.as_slice-rest.ensures;
      own = λ all. all;
    }

pub loop-rest-preserved : goal.loop-rest-preserved
loop-rest-preserved c =
    let m = c.args.m.now in
    let rest = c.loop-rest.rest.now in
    let some = is_some_left rest c.is_empty.result c.is_empty.ensures c.loop-rest-test.true in
    record {
      so_far = part_put (part_of m) (data_tests_part m) c.loop-rest.list.items c.push.new.self.items _ (take most rest)
          (pieces rest) (pieces c.first_piece.result.1.now) _
          c.in_ok-push.ensures.items (ap (data_tests_part m) c.first_piece.ensures.piece)
          (pieces_first rest some ∙ ap (λ ys. take most rest ∷ pieces ys) (sym c.first_piece.ensures.after))
          c.loop-rest.invariant.so_far;
      own = own_push m _ c.loop-rest.list.items c.push.new.self.items _ c.in_ok-push.ensures.items tt c.loop-rest.invariant.own;
    }

pub returns-clause-parts : goal.returns-clause-parts
returns-clause-parts c =
    let none = is_none_left c.loop-rest.rest.now c.is_empty.result c.is_empty.ensures c.loop-rest-test.false in
    parts_put (part_of c.args.m.now) (data_tests_part c.args.m.now) c.loop-rest.list.items (pieces c.loop-rest.rest.now) _
    (no_pieces c.loop-rest.rest.now none) c.loop-rest.invariant.so_far
