use Rattle.c_thread.proofs.Common.{is_some, sym, ap, ◌∙◌, below_in, running_in}
use Rattle.c_thread.proofs.Assigns.{put_nowhere, put_other_type, put_there}
use Rattle.c_thread.proofs.linked.LinkedThread.put.Goals as goal

pub returns-in_default : goal.returns-in_default
returns-in_default c = record {
  step = λ naming p trail stored.
      let t = c.args.self.now in
      put_nowhere naming t.depth trail t.store.units.items c.args.value (running_in naming p t.top) (below_in naming p t.below.items)
      c.args.at stored (sym c.in_default.ensures);
  stored = λ names s. s;
}

pub returns-then-not-are_of_one_type : goal.returns-then-not-are_of_one_type
returns-then-not-are_of_one_type c = record {
  step = λ naming p trail stored.
      let t = c.args.self.now in
      put_other_type naming t.depth trail t.store.units.items c.args.value (running_in naming p t.top) (below_in naming p t.below.items)
      c.args.at stored c.in-Some.held (sym c.in-Some.ensures) (c.are_of_one_type.ensures naming ∙ c.if-not-are_of_one_type.true);
  stored = λ names s. s;
}

pub returns : goal.returns
returns c = record {
  step = λ naming p trail stored.
      let t = c.args.self.now in
      put_there naming t.depth trail t.store.units.items c.args.value (running_in naming p t.top) (below_in naming p t.below.items)
      c.args.at stored c.in-Some.held c.set_var.new.self.units.items (sym c.in-Some.ensures)
      (c.are_of_one_type.ensures naming ∙ c.if-not-are_of_one_type.false)
      (c.set_var.ensures.effect naming t.depth trail stored (c.set_var.ensures.found ∙ ap is_some (sym c.in-Some.ensures)));
  stored = c.set_var.ensures.stored;
}
