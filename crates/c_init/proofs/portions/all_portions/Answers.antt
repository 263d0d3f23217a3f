use Rattle.c_init.specs.Portions.{part_of}
use Rattle.c_init.proofs.PieceLists.{five_put, none_own}
use Rattle.c_init.proofs.portions.all_portions.Goals as goal

pub returns-clause-parts : goal.returns-clause-parts
returns-clause-parts c =
    five_put (part_of c.args.m.now) _ _ _ _ _ _ _ _ _ _ _ c.new-list.ensures.items
    c.in_ok-put_globals.ensures.parts c.in_ok-put_element_bounds.ensures.parts c.in_ok-put_data_bounds.ensures.parts
    c.in_ok-put_elements.ensures.parts c.in_ok-put_bytes.ensures.parts

pub returns-clause-own : goal.returns-clause-own
returns-clause-own c =
    c.in_ok-put_bytes.ensures.own (c.in_ok-put_elements.ensures.own (c.in_ok-put_data_bounds.ensures.own
    (c.in_ok-put_element_bounds.ensures.own (c.in_ok-put_globals.ensures.own
    (none_own c.args.m.now c.new-list.result.items c.new-list.ensures.items)))))
