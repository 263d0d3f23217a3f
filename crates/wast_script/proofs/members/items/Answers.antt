use Rattle.serde_json.specs.View.{view}
use Rattle.wast_script.proofs.Items.{array_items}
use Rattle.wast_script.proofs.members.items.Goals as goal

pub returns-in-Some : goal.returns-in-Some
returns-in-Some c =
    array_items (view c.args.array.now) c.as_array.result c.in-Some.items c.as_slice.result.now c.in-Some.is c.as_array.ensures
    c.as_slice.ensures.value
