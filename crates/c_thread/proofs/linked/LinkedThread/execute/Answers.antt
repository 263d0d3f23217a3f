use Rattle.c_thread.proofs.Common.{◌≡◌, ◌-◌, true, false, ◌∷◌, map, drop, slice_get, Some, option_map, sym, ap, ◌∙◌, subst, arg_of}
use Rattle.c_thread.proofs.Common.{callee_of, expr_of, stmt_of, Is, Step, act, assign, at_rest, call_callee, jump, label_of, Finds}
use Rattle.c_thread.proofs.Common.{number_in, names_at, result_at, stmts_at, target_of, assigned_to, below_in, items_at, machine_in}
use Rattle.c_thread.proofs.Common.{place_in, running_in, waiting_in, all_evaluated}
use Rattle.c_tree.specs.declared.tree.Stmt.{Stmt}
use Rattle.c_meaning.specs.Step.{value_of}
use Rattle.c_objects.specs.Views.{value_of as held_of}
use Rattle.c_thread.proofs.Units.{items_so}
use Rattle.c_thread.proofs.Acts.{same_fault, all_fault, acts_set, acts_set_badly, acts_return, acts_return_badly, acts_call}
use Rattle.c_thread.proofs.Acts.{acts_call_badly, acts_switch, acts_switch_badly, acts_star, acts_star_badly, acts_if, acts_if_badly}
use Rattle.c_thread.proofs.linked.LinkedThread.execute.Goals as goal

pub returns-in-Ok : goal.returns-in-Ok
returns-in-Ok c = record {
  step = λ names p trail rest are types stored.
      let t = c.args.self.now in
      let f = t.top in
      let m = machine_in names trail t in
      let own = items_so names p c.args.units.now f.unit c.args.own.now are c.requires.unit in
      let objects = are.objects f.unit c.args.own.now c.requires.unit in
      let finds = subst (λ its. Finds c.args.function.table.now.locals (λ q. number_in q (names_at its f.item)))
      (sym own) c.requires.function.locals in
      acts_set names p trail t rest (stmt_of c.args.stmt.now) c.requires.at _ own c.requires.here
      c.in-Set.name (arg_of c.in-Set.arg) (held_of names c.in-Ok.value) (ap stmt_of c.in-Set.is)
      (c.in-Ok.ensures names p m (at_rest (running_in names p f) rest) (c.scope_of-scope.ensures names p trail rest own objects stored))
      ∙ ap (λ n. assign m (running_in names p f) n (held_of names c.in-Ok.value) (below_in names p t.below.items)) (sym c.as_slice.ensures)
      ∙ c.assign.ensures.step names p trail finds objects stored;
  stored = c.assign.ensures.stored;
}

pub returns-in-Err : goal.returns-in-Err
returns-in-Err c = record {
  step = λ names p trail rest are types stored.
      let t = c.args.self.now in
      let f = t.top in
      let own = items_so names p c.args.units.now f.unit c.args.own.now are c.requires.unit in
      let sees = c.scope_of-scope.ensures names p trail rest own (are.objects f.unit c.args.own.now c.requires.unit) stored in
      acts_set_badly names p trail t rest (stmt_of c.args.stmt.now) c.requires.at _ own c.requires.here
      c.in-Set.name (arg_of c.in-Set.arg) c.in-Err.fault (ap stmt_of c.in-Set.is)
      (same_fault names c.in-Err.fault ∙ c.in-Err.ensures names p (machine_in names trail t) (at_rest (running_in names p f) rest) sees)
      ∙ c.faulted.ensures names p trail t;
  stored = λ names s. s;
}

pub returns-in-Ok-value : goal.returns-in-Ok-value
returns-in-Ok-value c = record {
  step = λ names p trail rest are types stored.
      let t = c.args.self.now in
      let f = t.top in
      let m = machine_in names trail t in
      let below = below_in names p t.below.items in
      let own = items_so names p c.args.units.now f.unit c.args.own.now are c.requires.unit in
      let r = at_rest (running_in names p f) rest in
      let sees = c.scope_of-scope.ensures names p trail rest own (are.objects f.unit c.args.own.now c.requires.unit) stored in
      acts_star names p trail t rest (stmt_of c.args.stmt.now) c.requires.at _ own c.requires.here
      c.in-SetStar.name (expr_of c.in-SetStar.e) c.in-Ok-value.value (ap stmt_of c.in-SetStar.is)
      (c.in-Ok-value.ensures names p m r sees)
      ∙ ap (λ n. assigned_to m (running_in names p f) (place_in f) (value_of m r n) c.in-Ok-value.value below)
      (sym c.as_slice-in-Ok-value.ensures)
      ∙ ap (λ o. assigned_to m (running_in names p f) (place_in f) o c.in-Ok-value.value below)
      (sees.values_are c.as_slice-in-Ok-value.result.now ∙ ap (option_map (held_of names)) (sym c.held-pointer.ensures))
      ∙ c.assign_to.ensures.step names p trail stored;
  stored = c.assign_to.ensures.stored;
}

pub returns-in-Err-value : goal.returns-in-Err-value
returns-in-Err-value c = record {
  step = λ names p trail rest are types stored.
      let t = c.args.self.now in
      let f = t.top in
      let own = items_so names p c.args.units.now f.unit c.args.own.now are c.requires.unit in
      let sees = c.scope_of-scope.ensures names p trail rest own (are.objects f.unit c.args.own.now c.requires.unit) stored in
      acts_star_badly names p trail t rest (stmt_of c.args.stmt.now) c.requires.at _ own c.requires.here
      c.in-SetStar.name (expr_of c.in-SetStar.e) c.in-Err-value.fault (ap stmt_of c.in-SetStar.is)
      (c.in-Err-value.ensures names p (machine_in names trail t) (at_rest (running_in names p f) rest) sees)
      ∙ c.faulted-in-Err-value.ensures names p trail t;
  stored = λ names s. s;
}

pub returns-in_ok-call-in-Ok-2 : goal.returns-in_ok-call-in-Ok-2
returns-in_ok-call-in-Ok-2 c = record {
  step = λ names p trail rest are types stored.
      let t = c.args.self.now in
      let f = t.top in
      let m = machine_in names trail t in
      let below = below_in names p t.below.items in
      let own = items_so names p c.args.units.now f.unit c.args.own.now are c.requires.unit in
      let objects = are.objects f.unit c.args.own.now c.requires.unit in
      let r = at_rest (running_in names p f) rest in
      let here = ap (λ its. slice_get (stmts_at its f.item) (f.at - 1)) own ∙ c.requires.here in
      let sees = c.scope_of-scope.ensures names p trail rest own objects stored in
      let evaluated = rw c.as_slice-in-Call.ensures at (c.in_ok-values-in-Call.ensures names p m r sees) in
      let values = map (held_of names) c.in-Ok-2.values.items in
      let callee = callee_of c.in-Call.callee in
      let target = ap target_of (here ∙ ap (λ s. Some (stmt_of s)) c.in-Call.is) in
      acts_call names p trail t rest (stmt_of c.args.stmt.now) c.requires.at _ own c.requires.here
      c.in-Call.field-0 callee (map arg_of c.in-Call.args) values (ap stmt_of c.in-Call.is)
      (evaluated ∙ ap (all_evaluated names (λ vs. vs.items)) c.in-Ok-2.is)
      ∙ ap (λ tg. call_callee p callee (place_in f) m r values (record { target = tg; running = running_in names p f } ∷ below))
      (sym target)
      ∙ c.pointer_called-pointer.ensures names p m r (place_in f) values (waiting_in names p f ∷ below) sees
      ∙ c.in_ok-call-in-Ok-2.ensures.step names p trail are types objects stored;
  stored = c.in_ok-call-in-Ok-2.ensures.stored;
}

pub returns-in-Err-2 : goal.returns-in-Err-2
returns-in-Err-2 c = record {
  step = λ names p trail rest are types stored.
      let t = c.args.self.now in
      let f = t.top in
      let own = items_so names p c.args.units.now f.unit c.args.own.now are c.requires.unit in
      let r = at_rest (running_in names p f) rest in
      let sees = c.scope_of-scope.ensures names p trail rest own (are.objects f.unit c.args.own.now c.requires.unit) stored in
      let evaluated = rw c.as_slice-in-Call.ensures at (c.in_ok-values-in-Call.ensures names p (machine_in names trail t) r sees) in
      acts_call_badly names p trail t rest (stmt_of c.args.stmt.now) c.requires.at _ own c.requires.here
      c.in-Call.field-0 (callee_of c.in-Call.callee) (map arg_of c.in-Call.args) c.in-Err-2.fault (ap stmt_of c.in-Call.is)
      (evaluated ∙ all_fault names (λ vs. vs.items) c.in_ok-values-in-Call.field-0 c.in-Err-2.fault c.in-Err-2.is)
      ∙ c.faulted-in-Err-2.ensures names p trail t;
  stored = λ names s. s;
}

pub returns-in-Goto : goal.returns-in-Goto
returns-in-Goto c = record {
  step = λ names p trail rest are types stored.
      let t = c.args.self.now in
      let f = t.top in
      let m = machine_in names trail t in
      let below = below_in names p t.below.items in
      let own = items_so names p c.args.units.now f.unit c.args.own.now are c.requires.unit in
      let behind = drop f.at (stmts_at (items_at p f.unit) f.item) in
      let is : Stmt → Step = λ s. act p m (at_rest (running_in names p f) rest) (stmt_of s ∷ behind) below in
      ap is c.in-Goto.is
      ∙ ap (λ n. jump m (running_in names p f) n below) (sym c.as_slice-in-Goto.ensures)
      ∙ c.go_to.ensures.step names p trail (ap (λ its. stmts_at its f.item) own ∙ c.requires.function.stmts_are);
  stored = c.go_to.ensures.stored;
}

pub returns-in-Ok-true : goal.returns-in-Ok-true
returns-in-Ok-true c = record {
  step = λ names p trail rest are types stored.
      let t = c.args.self.now in
      let f = t.top in
      let m = machine_in names trail t in
      let own = items_so names p c.args.units.now f.unit c.args.own.now are c.requires.unit in
      let sees = c.scope_of-scope.ensures names p trail rest own (are.objects f.unit c.args.own.now c.requires.unit) stored in
      acts_if names p trail t rest (stmt_of c.args.stmt.now) c.requires.at _ own c.requires.here
      c.in-If.op (expr_of c.in-If.left) (expr_of c.in-If.right) c.in-If.name true (ap stmt_of c.in-If.is)
      (ap Is (sym c.in-Ok-true.field-0-test) ∙ c.in-Ok-true.ensures names p m (at_rest (running_in names p f) rest) sees)
      ∙ ap (λ n. jump m (running_in names p f) n (below_in names p t.below.items)) (sym c.as_slice-in-Ok-true.ensures)
      ∙ c.go_to-in-Ok-true.ensures.step names p trail (ap (λ its. stmts_at its f.item) own ∙ c.requires.function.stmts_are);
  stored = c.go_to-in-Ok-true.ensures.stored;
}

pub returns-in-Ok-false : goal.returns-in-Ok-false
returns-in-Ok-false c = record {
  step = λ names p trail rest are types stored.
      let t = c.args.self.now in
      let f = t.top in
      let own = items_so names p c.args.units.now f.unit c.args.own.now are c.requires.unit in
      let r = at_rest (running_in names p f) rest in
      let sees = c.scope_of-scope.ensures names p trail rest own (are.objects f.unit c.args.own.now c.requires.unit) stored in
      acts_if names p trail t rest (stmt_of c.args.stmt.now) c.requires.at _ own c.requires.here
      c.in-If.op (expr_of c.in-If.left) (expr_of c.in-If.right) c.in-If.name false (ap stmt_of c.in-If.is)
      (ap Is (sym c.in-Ok-false.field-0-test) ∙ c.in-Ok-false.ensures names p (machine_in names trail t) r sees);
  stored = λ names s. s;
}

pub returns-in-Err-holds : goal.returns-in-Err-holds
returns-in-Err-holds c = record {
  step = λ names p trail rest are types stored.
      let t = c.args.self.now in
      let f = t.top in
      let own = items_so names p c.args.units.now f.unit c.args.own.now are c.requires.unit in
      let sees = c.scope_of-scope.ensures names p trail rest own (are.objects f.unit c.args.own.now c.requires.unit) stored in
      acts_if_badly names p trail t rest (stmt_of c.args.stmt.now) c.requires.at _ own c.requires.here
      c.in-If.op (expr_of c.in-If.left) (expr_of c.in-If.right) c.in-If.name c.in-Err-holds.fault (ap stmt_of c.in-If.is)
      (c.in-Err-holds.ensures names p (machine_in names trail t) (at_rest (running_in names p f) rest) sees)
      ∙ c.faulted-in-Err-holds.ensures names p trail t;
  stored = λ names s. s;
}

pub returns-in-Ok-value-2 : goal.returns-in-Ok-value-2
returns-in-Ok-value-2 c = record {
  step = λ names p trail rest are types stored.
      let t = c.args.self.now in
      let f = t.top in
      let m = machine_in names trail t in
      let own = items_so names p c.args.units.now f.unit c.args.own.now are c.requires.unit in
      let sees = c.scope_of-scope.ensures names p trail rest own (are.objects f.unit c.args.own.now c.requires.unit) stored in
      acts_switch names p trail t rest (stmt_of c.args.stmt.now) c.requires.at _ own c.requires.here
      (expr_of c.in-Switch.e) c.in-Switch.cases c.in-Switch.default c.in-Ok-value-2.value (ap stmt_of c.in-Switch.is)
      (c.in-Ok-value-2.ensures names p m (at_rest (running_in names p f) rest) sees)
      ∙ ap (λ n. jump m (running_in names p f) n (below_in names p t.below.items))
      (sym (c.label_for-name.ensures ∙ ap
      (λ cs. label_of c.in-Ok-value-2.value cs c.as_slice-in-Ok-value-2-2.result.now) c.as_slice-in-Ok-value-2.ensures
      ∙ ap (label_of c.in-Ok-value-2.value c.in-Switch.cases) c.as_slice-in-Ok-value-2-2.ensures))
      ∙ c.go_to-in-Ok-value-2.ensures.step names p trail (ap (λ its. stmts_at its f.item) own ∙ c.requires.function.stmts_are);
  stored = c.go_to-in-Ok-value-2.ensures.stored;
}

pub returns-in-Err-value-2 : goal.returns-in-Err-value-2
returns-in-Err-value-2 c = record {
  step = λ names p trail rest are types stored.
      let t = c.args.self.now in
      let f = t.top in
      let own = items_so names p c.args.units.now f.unit c.args.own.now are c.requires.unit in
      let sees = c.scope_of-scope.ensures names p trail rest own (are.objects f.unit c.args.own.now c.requires.unit) stored in
      acts_switch_badly names p trail t rest (stmt_of c.args.stmt.now) c.requires.at _ own c.requires.here
      (expr_of c.in-Switch.e) c.in-Switch.cases c.in-Switch.default c.in-Err-value-2.fault (ap stmt_of c.in-Switch.is)
      (c.in-Err-value-2.ensures names p (machine_in names trail t) (at_rest (running_in names p f) rest) sees)
      ∙ c.faulted-in-Err-value-2.ensures names p trail t;
  stored = λ names s. s;
}

pub returns-in-Ok-held_by : goal.returns-in-Ok-held_by
returns-in-Ok-held_by c = record {
  step = λ names p trail rest are types stored.
      let t = c.args.self.now in
      let f = t.top in
      let own = items_so names p c.args.units.now f.unit c.args.own.now are c.requires.unit in
      let r = at_rest (running_in names p f) rest in
      let sees = c.scope_of-scope.ensures names p trail rest own (are.objects f.unit c.args.own.now c.requires.unit) stored in
      let result = ap (λ its. result_at its f.item) own ∙ c.requires.function.result_is in
      acts_return names p trail t rest (stmt_of c.args.stmt.now) c.requires.at _ own c.requires.here
      (arg_of c.in-Return.arg) (held_of names c.in-Ok-held_by.value) (ap stmt_of c.in-Return.is)
      (c.in-Ok-held_by.ensures names p (machine_in names trail t) r sees)
      ∙ c.give_back-in-Ok-held_by.ensures.step names p trail r result are stored;
  stored = c.give_back-in-Ok-held_by.ensures.stored;
}

pub returns-in-ReturnNone : goal.returns-in-ReturnNone
returns-in-ReturnNone c = record {
  step = λ names p trail rest are types stored.
      let t = c.args.self.now in
      let f = t.top in
      let below = below_in names p t.below.items in
      let own = items_so names p c.args.units.now f.unit c.args.own.now are c.requires.unit in
      let r = at_rest (running_in names p f) rest in
      let is : Stmt → Step = λ s. act p (machine_in names trail t) r (stmt_of s ∷ drop f.at (stmts_at (items_at p f.unit) f.item)) below in
      ap is c.in-ReturnNone.is
      ∙ c.give_back.ensures.step names p trail r (ap (λ its. result_at its f.item) own ∙ c.requires.function.result_is) are stored;
  stored = c.give_back.ensures.stored;
}

pub returns-in-Err-held_by : goal.returns-in-Err-held_by
returns-in-Err-held_by c = record {
  step = λ names p trail rest are types stored.
      let t = c.args.self.now in
      let f = t.top in
      let own = items_so names p c.args.units.now f.unit c.args.own.now are c.requires.unit in
      let r = at_rest (running_in names p f) rest in
      let sees = c.scope_of-scope.ensures names p trail rest own (are.objects f.unit c.args.own.now c.requires.unit) stored in
      acts_return_badly names p trail t rest (stmt_of c.args.stmt.now) c.requires.at _ own c.requires.here
      (arg_of c.in-Return.arg) c.in-Err-held_by.fault (ap stmt_of c.in-Return.is)
      (same_fault names c.in-Err-held_by.fault ∙ c.in-Err-held_by.ensures names p (machine_in names trail t) r sees)
      ∙ c.faulted-in-Err-held_by.ensures names p trail t;
  stored = λ names s. s;
}
