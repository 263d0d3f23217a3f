use Rattle.c_thread.proofs.Common.{◌≡◌, map, drop, slice_get, sym, ap, ◌∙◌, subst, arith, length-map, slice_get_within, stmt_of}
use Rattle.c_thread.proofs.Common.{behind_labels, IsNext, stmts_at, items_at}
use Rattle.c_thread.proofs.Units.{items_so, no_items}
use Rattle.c_thread.proofs.Acts.{ends, goes, no_item, nothing}
use Rattle.c_thread.proofs.linked.LinkedThread.step.Goals as goal

pub returns-in_default : goal.returns-in_default
returns-in_default c = record {
  step = λ names p trail are types stored.
      let t = c.args.self.now in
      ends names p trail t (nothing t.top.at t.top.item (items_at p t.top.unit)
      (no_items names p c.args.units.now t.top.unit are c.in_default.ensures));
  stored = λ names s. s;
}

pub returns-in_default-function : goal.returns-in_default-function
returns-in_default-function c = record {
  step = λ names p trail are types stored.
      let t = c.args.self.now in
      let own = items_so names p c.args.units.now t.top.unit c.in-Some.own.now are c.in-Some.ensures in
      ends names p trail t (no_item t.top.at t.top.item (items_at p t.top.unit) (ap (λ its. slice_get its t.top.item) own
      ∙ c.in_default-function.ensures));
  stored = λ names s. s;
}

pub returns-in_default-statement_from : goal.returns-in_default-statement_from
returns-in_default-statement_from c = record {
  step = λ names p trail are types stored.
      let t = c.args.self.now in
      let own = items_so names p c.args.units.now t.top.unit c.in-Some.own.now are c.in-Some.ensures in
      ends names p trail t (ap (λ its. behind_labels (drop t.top.at (stmts_at its t.top.item))) own ∙ ap (λ ss. behind_labels
      (drop t.top.at ss)) c.in-Some-function.ensures.stmts_are ∙ c.in_default-statement_from.ensures.next);
  stored = λ names s. s;
}

pub overflow_add-self : goal.overflow_add-self
overflow_add-self c =
    let within = slice_get_within (map stmt_of c.in-Some-function.function.stmts.now) c.in-Some-statement_from.place
    (stmt_of c.in-Some-statement_from.stmt.now) c.in-Some-statement_from.ensures.next.here in
    omega (arith, within, length-map c.in-Some-function.function.stmts.now stmt_of, c.in-Some-statement_from.ensures.count)

pub returns : goal.returns
returns c = record {
  step = λ names p trail are types stored.
      let t = c.args.self.now in
      let own = items_so names p c.args.units.now t.top.unit c.in-Some.own.now are c.in-Some.ensures in
      let stmts : stmts_at (items_at p t.top.unit) t.top.item ≡ map stmt_of c.in-Some-function.function.stmts.now =
      ap (λ its. stmts_at its t.top.item) own ∙ c.in-Some-function.ensures.stmts_are in
      let is = subst (λ ss. IsNext ss t.top.at c.in-Some-statement_from.place (stmt_of c.in-Some-statement_from.stmt.now))
      (sym stmts) c.in-Some-statement_from.ensures.next in
      goes names p trail t c.in-Some-statement_from.place (stmt_of c.in-Some-statement_from.stmt.now) is
      ∙ c.in_ok-execute.ensures.step names p trail (drop t.top.at (stmts_at (items_at p t.top.unit) t.top.item)) are types stored;
  stored = c.in_ok-execute.ensures.stored;
}
