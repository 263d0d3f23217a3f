use Rattle.c_print.proofs.Common.{append_assoc, rules, next_type_text}
use Rattle.c_tree.specs.declared.tree.CType.TheVariants as type
use Rattle.c_print.proofs.Onto.{each_text_more}
use Rattle.c_print.proofs.header.put_more_params.Goals as goal

pub loop-param-preserved : goal.loop-param-preserved
loop-param-preserved c =
    each_text_more next_type_text _ _ _ c.args.params.now c.loop-param.param-index type.Void c.loop-param-test.true
    (search (rules, append_assoc)) c.loop-param.invariant
