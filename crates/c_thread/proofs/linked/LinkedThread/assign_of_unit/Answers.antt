use Rattle.c_thread.proofs.Common.{sym, ap, ◌∙◌, value_of, below_in, machine_in, put_at, running_in}
use Rattle.c_thread.proofs.Assigns.{named_so, unit_unassigned}
use Rattle.c_thread.proofs.linked.LinkedThread.assign_of_unit.Goals as goal

pub returns-in_default : goal.returns-in_default
returns-in_default c = record {
  step = λ naming p trail are stored.
      let t = c.args.self.now in
      unit_unassigned naming t.depth trail t.store.units.items c.args.value (running_in naming p t.top) (below_in naming p t.below.items)
      are.unit c.args.objects.now.vars c.args.name.now stored are.unit_is are.vars (sym c.in_default.ensures);
  stored = λ names s. s;
}

pub returns : goal.returns
returns c = record {
  step = λ naming p trail are stored.
      let t = c.args.self.now in
      let r = running_in naming p t.top in
      let name = c.args.name.now in
      let address =
      named_so naming r are.unit name c.in-Some.number are.unit_is (sym (are.vars name) ∙ sym c.in-Some.ensures) in
      ap (λ a. put_at (machine_in naming trail t) r a (value_of naming c.args.value) (below_in naming p t.below.items)) (sym address)
      ∙ c.put.ensures.step naming p trail stored;
  stored = c.put.ensures.stored;
}
