use Rattle.std.proofs.Common.{◌∙◌, arith}
use Rattle.c_merge.proofs.Decimal.{spelled}
use Rattle.c_merge.proofs.names.new_name.Goals as goal

pub returns : goal.returns
returns c =
    c.in_ok-made.ensures ∙ spelled c.args.unit c.args.name.now _ _ _ _ _ _ (omega (arith, c.ranges.unit.fits)) c.new-new.ensures
    (c.as_bytes.ensures.value ∙ c.format.ensures.text) c.in_ok-extend.ensures.ok c.in_ok-extend-2.ensures.ok c.in_ok-extend-3.ensures.ok
    c.in_ok-extend-4.ensures.ok
