use Rattle.c_unit.specs.Left.{left_of}
use Rattle.c_unit.proofs.AllGiven.{put_next, fewer, all_put}
use Rattle.c_unit.proofs.whole_unit.unit_of_rest.Goals as goal

pub more-preserved : goal.more-preserved
more-preserved c =
    put_next c.more.unit c.push.new.self c.in-Some.item c.in_ok-item.field-0 (left_of c.more.items) (left_of c.next.new.self) _
    c.in-Some.is c.in_ok-item.ensures.given c.in_ok-push.ensures.ok c.more.invariant

pub more-smaller : goal.more-smaller
more-smaller c =
    fewer c.in-Some.item c.in_ok-item.field-0 (left_of c.more.items) (left_of c.next.new.self) c.in-Some.is c.in_ok-item.ensures.given

pub returns : goal.returns
returns c =
    all_put c.more.unit c.in_ok-item.field-0 (left_of c.more.items) (left_of c.next.new.self) _ c.in_default.not-Some
    c.in_ok-item.ensures.given c.more.invariant
