use Rattle.std.proofs.Common.{take}
use Rattle.std.proofs.lemmas.List.{length-drop}
use Rattle.c_init.proofs.Common.{◌∷◌, ◌++◌, map, length, refl, arith, sym, ap, ◌∙◌}
use Rattle.c_init.specs.Init.{elements_part, most, pieces}
use Rattle.c_init.specs.Portions.{elements_behind, part_of}
use Rattle.c_init.proofs.PieceCounts.{pieces_first, pieces_none}
use Rattle.c_init.proofs.PieceLists.{is_none_left, is_some_left, none_left, own_push, part_put, parts_put, some_left}
use Rattle.c_init.proofs.portions.put_elements.Goals as goal

pub loop-rest-init : goal.loop-rest-init
loop-rest-init c =
    let m = c.args.m.now in
    record {
      so_far = ap (λ es. map (part_of m) c.args.list.now.items ++ map (elements_part m) (pieces es))
          (c.behind-start.ensures.same ∙ ap (elements_behind 0) c.as_slice.ensures);
      starts = c.behind-start.ensures.starts;
      own = λ all. all;
    }

pub loop-rest-preserved : goal.loop-rest-preserved
loop-rest-preserved c =
    let m = c.args.m.now in
    let rest = c.loop-rest.rest.now in
    let number = c.loop-rest.number in
    let there = is_some_left rest c.is_empty.result c.is_empty.ensures c.loop-rest-test.true in
    let some = some_left rest number there c.loop-rest.invariant.starts in
    let after = c.behind-next in
    record {
      so_far = part_put (part_of m) (elements_part m) c.loop-rest.list.items c.push.new.self.items _
          (take most (elements_behind number rest)) (pieces (elements_behind number rest))
          (pieces (elements_behind after.result.1 after.result.0.now)) _
          c.in_ok-push.ensures.items refl
          (pieces_first (elements_behind number rest) some
          ∙ ap (λ ys. take most (elements_behind number rest) ∷ pieces ys) (sym after.ensures.same))
          c.loop-rest.invariant.so_far;
      starts = after.ensures.starts;
      own = own_push m _ c.loop-rest.list.items c.push.new.self.items _ c.in_ok-push.ensures.items tt c.loop-rest.invariant.own;
    }

pub loop-rest-smaller : goal.loop-rest-smaller
loop-rest-smaller c =
    let rest = c.loop-rest.rest.now in
    let number = c.loop-rest.number in
    let there = is_some_left rest c.is_empty.result c.is_empty.ensures c.loop-rest-test.true in
    let some = some_left rest number there c.loop-rest.invariant.starts in
    let same = ap length c.behind-next.ensures.same in
    let fewer = length-drop most (elements_behind number rest) in
    omega (arith, some, same, fewer)

pub returns-clause-parts : goal.returns-clause-parts
returns-clause-parts c =
    let none = is_none_left c.loop-rest.rest.now c.is_empty.result c.is_empty.ensures c.loop-rest-test.false in
    parts_put (part_of c.args.m.now) (elements_part c.args.m.now) c.loop-rest.list.items
    (pieces (elements_behind c.loop-rest.number c.loop-rest.rest.now)) _
    (ap pieces (none_left c.loop-rest.rest.now c.loop-rest.number none) ∙ pieces_none)
    c.loop-rest.invariant.so_far
