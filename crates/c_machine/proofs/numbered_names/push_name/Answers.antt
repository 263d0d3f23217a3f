use Rattle.c_machine.proofs.FewNames.{named_pushed}
use Rattle.c_machine.proofs.numbered_names.push_name.Goals as goal

pub returns : goal.returns
returns c q =
    rw c.in_ok-push.ensures.items (named_pushed q c.args.name.now c.args.names.now.items
    (record { name = c.in_ok-from_slice.field-0; number = c.args.number }) c.in_ok-from_slice.ensures.items)
