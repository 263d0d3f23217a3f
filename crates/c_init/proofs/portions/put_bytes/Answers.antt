use Rattle.std.proofs.Common.{take, ◌-◌}
use Rattle.std.proofs.lemmas.List.{length-drop, length-take}
use Rattle.c_init.proofs.Common.{◌≡◌, ◌+◌, ◌≤◌, ◌∷◌, ◌++◌, map, length, drop, filter, sym, ap, ◌∙◌, arith}
use Rattle.c_init.specs.Init.{bytes_part, most, pieces, some_bytes}
use Rattle.c_init.specs.Portions.{bytes_if, numbered_from, part_of}
use Rattle.c_init.proofs.PieceCounts.{first_numbered, from_none}
use Rattle.c_init.proofs.PieceLists.{bytes_put, is_none_left, is_some_left, none_numbered, own_bytes, parts_put}
use Rattle.c_init.proofs.portions.put_bytes.Goals as goal

pub loop-rest-init : goal.loop-rest-init
loop-rest-init c =
    let m = c.args.m.now in
    let all = c.as_slice-rest.ensures in
    let many = ap length all in
    record {
      so_far = ap (λ es. map (part_of m) c.args.list.now.items ++ map (bytes_part m) (filter some_bytes (pieces es)))
          (from_none m.segments c.as_slice-rest.result.now all);
      room = omega (arith, many);
      own = λ own. own;
    }

pub loop-rest-preserved : goal.loop-rest-preserved
loop-rest-preserved c =
    let m = c.args.m.now in
    let rest = c.loop-rest.rest.now in
    let all = c.len-count.ensures in
    let room = c.loop-rest.invariant.room in
    let piece = c.first_piece.ensures.piece in
    let behind = c.first_piece.ensures.after in
    let some = is_some_left rest c.is_empty.result c.is_empty.ensures c.loop-rest-test.true in
    let front = numbered_from (length m.segments - length rest) (take most rest) in
    let taken = length-take most rest in
    let dropped = length-drop most rest in
    let after = ap length behind in
    let size = ap length piece in
    let from : c.len-count.result - length rest ≡ length m.segments - length rest = omega (arith, all) in
    let next : length m.segments - length rest + length (take most rest) ≡ length m.segments - length c.first_piece.result.1.now =
    omega (arith, room, taken, dropped, after) in
    let grown = c.in_ok-put_bytes_of.ensures ∙ ap (λ n. c.loop-rest.list.items ++ bytes_if n c.first_piece.result.0) from in
    let within : length m.segments - length rest + length c.first_piece.result.0.now ≤ length m.segments =
    omega (arith, room, size, taken) in
    record {
      so_far = bytes_put m c.loop-rest.list.items c.put_bytes_of.new.list.items (length m.segments - length rest) c.first_piece.result.0
          (take most rest) (pieces (numbered_from (length m.segments - length rest) rest))
          (pieces (numbered_from (length m.segments - length c.first_piece.result.1.now) c.first_piece.result.1.now)) _
          grown piece
          (first_numbered (length m.segments - length rest) rest some
          ∙ ap (λ n. front ∷ pieces (numbered_from n (drop most rest))) next
          ∙ ap (λ ys. front ∷ pieces (numbered_from (length m.segments - length c.first_piece.result.1.now) ys)) (sym behind))
          c.loop-rest.invariant.so_far;
      room = omega (arith, room, dropped, after);
      own = own_bytes m _ c.loop-rest.list.items c.put_bytes_of.new.list.items (length m.segments - length rest) c.first_piece.result.0
          grown within c.loop-rest.invariant.own;
    }

pub returns-clause-parts : goal.returns-clause-parts
returns-clause-parts c =
    let m = c.args.m.now in
    let rest = c.loop-rest.rest.now in
    let none = is_none_left rest c.is_empty.result c.is_empty.ensures c.loop-rest-test.false in
    parts_put (part_of m) (bytes_part m) c.loop-rest.list.items
    (filter some_bytes (pieces (numbered_from (length m.segments - length rest) rest))) _
    (ap (filter some_bytes) (none_numbered (length m.segments - length rest) rest none)) c.loop-rest.invariant.so_far
