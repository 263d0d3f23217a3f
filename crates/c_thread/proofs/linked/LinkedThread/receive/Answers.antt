use Rattle.c_thread.proofs.Common.{Some, None, option_map, ap, ◌∙◌, value_of, machine_in}
use Rattle.c_thread.proofs.Returns.{arrives, received}
use Rattle.c_thread.proofs.linked.LinkedThread.receive.Goals as goal

pub returns-in_default : goal.returns-in_default
returns-in_default c = record {
  step = λ names p trail are stored.
      let t = c.args.self.now in
      arrives names p (machine_in names trail t) (option_map (value_of names) c.args.value) t.below.items t.top None
      (c.in_default.ensures names p are);
  stored = λ names s. s;
}

pub returns-in_default-value : goal.returns-in_default-value
returns-in_default-value c = record {
  step = λ names p trail are stored.
      let t = c.args.self.now in
      let to = c.in-Some.to in
      arrives names p (machine_in names trail t) (option_map (value_of names) c.args.value) t.below.items t.top (Some to.name.now)
      (c.in-Some.ensures names p are).0
      ∙ ap (λ v. received names p (machine_in names trail t) (option_map (value_of names) v) t.top t.below.items
      (Some to.name.now)) c.in_default-value.is;
  stored = λ names s. s;
}

pub returns : goal.returns
returns c = record {
  step = λ names p trail are stored.
      let t = c.args.self.now in
      let to = c.in-Some.to in
      let facts = c.in-Some.ensures names p are in
      arrives names p (machine_in names trail t) (option_map (value_of names) c.args.value) t.below.items t.top (Some to.name.now) facts.0
      ∙ ap (λ v. received names p (machine_in names trail t) (option_map (value_of names) v) t.top t.below.items
      (Some to.name.now)) c.in-Some-value.is
      ∙ c.assign.ensures.step names p trail facts.1 facts.2 stored;
  stored = c.assign.ensures.stored;
}
