use Rattle.c_thread.proofs.Common.{◌≡◌, ◌<◌, length, slice_get, Some, sym, refl, ap, ◌∙◌, subst, slice_get-get_or, if_found, named}
use Rattle.c_thread.proofs.Common.{names_at, below_in, items_at, machine_in, running_in}
use Rattle.c_thread.proofs.Assigns.{local_assigned, local_other_type, not_local}
use Rattle.c_thread.proofs.linked.LinkedThread.assign.Goals as goal

pub returns-then-not-are_of_one_type : goal.returns-then-not-are_of_one_type
returns-then-not-are_of_one_type c = record {
  step = λ naming p trail finds are stored.
      let t = c.args.self.now in
      let less = subst (λ xs. c.in-Some.place < length xs) c.as_slice.ensures.value c.in-Some.ensures.1 in
      let held = slice_get-get_or t.top.values.items c.in-Some.place c.index.result.now less ∙ ap Some (sym c.index.ensures) in
      local_other_type naming (machine_in naming trail t) (names_at (items_at p t.top.unit) t.top.item) t.top.values.items
      c.args.name.now c.args.value (running_in naming p t.top) (below_in naming p t.below.items)
      c.in-Some.place c.index.result.now c.if-is_depth.ensures refl (sym (finds c.args.name.now) ∙ c.in-Some.ensures.0) held
      (c.are_of_one_type.ensures naming ∙ c.if-not-are_of_one_type.true);
  stored = λ names s. s;
}

pub returns-else-not-are_of_one_type : goal.returns-else-not-are_of_one_type
returns-else-not-are_of_one_type c = record {
  step = λ naming p trail finds are stored.
      let t = c.args.self.now in
      let less = subst (λ xs. c.in-Some.place < length xs) c.as_slice.ensures.value c.in-Some.ensures.1 in
      let held = slice_get-get_or t.top.values.items c.in-Some.place c.index.result.now less ∙ ap Some (sym c.index.ensures) in
      local_assigned naming (machine_in naming trail t) (names_at (items_at p t.top.unit) t.top.item) t.top.values.items
      c.args.name.now c.args.value (running_in naming p t.top) (below_in naming p t.below.items)
      c.in-Some.place c.index.result.now c.if-is_depth.ensures refl (sym (finds c.args.name.now) ∙ c.in-Some.ensures.0) held
      (c.are_of_one_type.ensures naming ∙ c.if-not-are_of_one_type.false);
  stored = λ names s. s;
}

pub returns-in-None : goal.returns-in-None
returns-in-None c = record {
  step = λ naming p trail finds are stored.
      let t = c.args.self.now in
      not_local naming (machine_in naming trail t)
      (names_at (items_at p t.top.unit) t.top.item) t.top.values.items c.args.name.now c.args.value (running_in naming p t.top)
      (below_in naming p t.below.items)
      c.if-is_depth.ensures refl (ap (λ o. if_found o (λ i. slice_get t.top.values.items i)) (sym (finds c.args.name.now)) ∙ ap
      (λ xs. if_found (named c.args.name.now c.args.names.now) (λ i. slice_get xs i)) (sym c.as_slice.ensures.value)
      ∙ c.in-None.ensures)
      ∙ c.assign_of_unit.ensures.step naming p trail are stored;
  stored = c.assign_of_unit.ensures.stored;
}
