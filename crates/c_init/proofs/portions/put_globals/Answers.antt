use Rattle.std.proofs.Common.{take, ◌-◌}
use Rattle.std.proofs.lemmas.List.{length-drop, length-take}
use Rattle.c_init.proofs.Common.{◌≡◌, ◌+◌, ◌∷◌, ◌++◌, map, length, drop, sym, ap, ◌∙◌, arith}
use Rattle.c_init.specs.Init.{globals_part, most, pieces}
use Rattle.c_init.specs.Portions.{numbered_from, part_of}
use Rattle.c_init.proofs.PieceCounts.{first_numbered, from_none}
use Rattle.c_init.proofs.PieceLists.{is_none_left, is_some_left, none_numbered, own_push, part_put, parts_put}
use Rattle.c_init.proofs.portions.put_globals.Goals as goal

pub loop-rest-init : goal.loop-rest-init
loop-rest-init c =
    let m = c.args.m.now in
    let all = c.as_slice-rest.ensures in
    let many = ap length all in
    record {
      so_far = ap (λ es. map (part_of m) c.args.list.now.items ++ map (globals_part m) (pieces es))
          (from_none m.globals c.as_slice-rest.result.now all);
      room = omega (arith, many);
      own = λ own. own;
    }

pub loop-rest-preserved : goal.loop-rest-preserved
loop-rest-preserved c =
    let m = c.args.m.now in
    let rest = c.loop-rest.rest.now in
    let all = c.len-count.ensures in
    let room = c.loop-rest.invariant.room in
    let piece = c.first_piece.ensures.piece in
    let behind = c.first_piece.ensures.after in
    let some = is_some_left rest c.is_empty.result c.is_empty.ensures c.loop-rest-test.true in
    let front = numbered_from (length m.globals - length rest) (take most rest) in
    let taken = length-take most rest in
    let dropped = length-drop most rest in
    let after = ap length behind in
    let size = ap length piece in
    let from : c.len-count.result - length rest ≡ length m.globals - length rest = omega (arith, all) in
    let next : length m.globals - length rest + length (take most rest) ≡ length m.globals - length c.first_piece.result.1.now =
    omega (arith, room, taken, dropped, after) in
    record {
      so_far = part_put (part_of m) (globals_part m) c.loop-rest.list.items c.push.new.self.items _
          (numbered_from (length m.globals - length rest) (take most rest))
          (pieces (numbered_from (length m.globals - length rest) rest))
          (pieces (numbered_from (length m.globals - length c.first_piece.result.1.now) c.first_piece.result.1.now)) _
          c.in_ok-push.ensures.items
          (ap (λ n. globals_part m (numbered_from n c.first_piece.result.0.now)) from
          ∙ ap (λ ys. globals_part m (numbered_from (length m.globals - length rest) ys)) piece)
          (first_numbered (length m.globals - length rest) rest some
          ∙ ap (λ n. front ∷ pieces (numbered_from n (drop most rest))) next
          ∙ ap (λ ys. front ∷ pieces (numbered_from (length m.globals - length c.first_piece.result.1.now) ys)) (sym behind))
          c.loop-rest.invariant.so_far;
      room = omega (arith, room, dropped, after);
      own = own_push m _ c.loop-rest.list.items c.push.new.self.items _ c.in_ok-push.ensures.items
          (omega (arith, room, from, size, taken)) c.loop-rest.invariant.own;
    }

pub returns-clause-parts : goal.returns-clause-parts
returns-clause-parts c =
    let m = c.args.m.now in
    let rest = c.loop-rest.rest.now in
    let none = is_none_left rest c.is_empty.result c.is_empty.ensures c.loop-rest-test.false in
    parts_put (part_of m) (globals_part m) c.loop-rest.list.items (pieces (numbered_from (length m.globals - length rest) rest)) _
    (none_numbered (length m.globals - length rest) rest none) c.loop-rest.invariant.so_far
