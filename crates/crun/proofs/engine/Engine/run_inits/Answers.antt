use Rattle.crun.proofs.Common.{◌≡◌, ℕ, ◌+◌, ◌-◌, ◌≤◌, [], map, length, slice_index_or, None, sym, refl, ◌∙◌, subst, arith, Init, unit_of}
use Rattle.crun.proofs.Common.{c_run, entries_of, AreStored, events_in, replies_in, naming_of, FunctionCame, IfEnded, IsReady, naming_in}
use Rattle.crun.proofs.Common.{program_in, units_at, BehindAt, IsOutcome}
use Rattle.crun.specs.declared.outcome.Outcome.TheVariants as outcome
use Rattle.crun.proofs.Functions.{asks_none, if_ended}
use Rattle.crun.proofs.InitsBehind.{
  all_behind,
  all_came,
  begins_as_call,
  both_asked,
  gives_none,
  init_at,
  inits_count,
  last_came,
  last_part,
  none_ran,
  one_ran,
  out_of,
  same_on,
  some_begun,
}
use Rattle.crun.proofs.engine.Engine.run_inits.Goals as goal

pub loop-k-init : goal.loop-k-init
loop-k-init g c = record { ran = none_ran g.H.HostModule c.args.self.now c.requires.ready c.requires.first; counted = c.requires.none }

pub run_function-requires-clause-ready : goal.run_function-requires-clause-ready
run_function-requires-clause-ready g c = c.loop-k.invariant.ran.ready

pub run_function-requires-clause-begins : goal.run_function-requires-clause-begins
run_function-requires-clause-begins g c =
    begins_as_call g.H.HostModule c.args.self.now c.loop-k.self c.loop-k.self c.loop-k.k c.loop-k.invariant.ran
    (slice_index_or c.args.inits.now c.loop-k.k (0, 0)).0 (slice_index_or c.args.inits.now c.loop-k.k (0, 0)).1
    (init_at (program_in g.H.HostModule c.args.self.now) (naming_in c.args.self.now) c.args.inits.now c.requires.inits c.loop-k.k
    c.loop-k-test.true)
    [] (asks_none g.H.HostModule c.loop-k.self) (omega arith)

pub returns-in-Err-clause-answered : goal.returns-in-Err-clause-answered
returns-in-Err-clause-answered g c =
    let came = c.in-Err.ensures.wanting in (
      _,
      both_asked g.H.HostModule c.args.self.now c.loop-k.self c.run_function.new.self c.loop-k.k c.loop-k.invariant.ran
          (slice_index_or c.args.inits.now c.loop-k.k (0, 0)).0 (slice_index_or c.args.inits.now c.loop-k.k (0, 0)).1
          (init_at (program_in g.H.HostModule c.args.self.now) (naming_in c.args.self.now) c.args.inits.now c.requires.inits c.loop-k.k
          c.loop-k-test.true)
          came.0 came.1 c.in-Err.ensures.fewer,
    )

pub returns-in-Err-clause-asked : goal.returns-in-Err-clause-asked
returns-in-Err-clause-asked g c rest =
    let came = c.in-Err.ensures.wanting in
    last_part g.H.HostModule c.args.self.now c.loop-k.self c.run_function.new.self c.loop-k.k c.loop-k.invariant.ran
    (slice_index_or c.args.inits.now c.loop-k.k (0, 0)).0 (slice_index_or c.args.inits.now c.loop-k.k (0, 0)).1
    (init_at (program_in g.H.HostModule c.args.self.now) (naming_in c.args.self.now) c.args.inits.now c.requires.inits c.loop-k.k
    c.loop-k-test.true)
    came.0 came.1 c.in-Err.ensures.fewer rest came.2

pub returns-in-Err-clause-most : goal.returns-in-Err-clause-most
returns-in-Err-clause-most g c =
    subst (λ n. c.loop-k.k + 1 ≤ n)
    (inits_count (program_in g.H.HostModule c.args.self.now) (naming_in c.args.self.now) c.args.inits.now c.requires.inits)
    (omega (arith, c.loop-k-test.true))

pub returns-in-Err-clause-same : goal.returns-in-Err-clause-same
returns-in-Err-clause-same g c = same_on g.H.HostModule c.args.self.now c.loop-k.invariant.ran.same c.in-Err.ensures.same

pub returns-in-Err-clause-fewer : goal.returns-in-Err-clause-fewer
returns-in-Err-clause-fewer g c = let less = c.in-Err.ensures.fewer in let fewer = c.loop-k.invariant.ran.fewer in omega
    (arith, less, fewer)

pub returns-in_default : goal.returns-in_default
returns-in_default g c =
    let came = c.in-Ok.ensures.came in
    let phase : c.loop-k.k + 1 - 1 ≡ c.loop-k.k = omega arith in
    record {
      ran = λ rest last_one. subst (λ k. IsOutcome c.in-Ok.outcome (Init k) c.run_function.new.self.hosts.journal
          (events_in c.run_function.new.self.hosts.journal) (units_at c.run_function.new.self)
          (c_run (program_in g.H.HostModule c.args.self.now) rest c.args.self.now.left (replies_in c.run_function.new.self.hosts.journal)))
          (sym phase)
          (last_came g.H.HostModule c.args.self.now c.loop-k.self c.run_function.new.self c.loop-k.k c.loop-k.invariant.ran
          (slice_index_or c.args.inits.now c.loop-k.k (0, 0)).0 (slice_index_or c.args.inits.now c.loop-k.k (0, 0)).1
          (init_at (program_in g.H.HostModule c.args.self.now) (naming_in c.args.self.now) c.args.inits.now c.requires.inits c.loop-k.k
          c.loop-k-test.true)
          came.0 came.1 c.in-Ok.ensures.fewer rest c.in-Ok.outcome c.in-Ok.ensures.spent c.in_default.not-Ended
          (out_of g.H.HostModule c.args.self.now c.loop-k.self c.run_function.new.self c.loop-k.k c.loop-k.invariant.ran
          (slice_index_or c.args.inits.now c.loop-k.k (0, 0)).0 (slice_index_or c.args.inits.now c.loop-k.k (0, 0)).1
          (init_at (program_in g.H.HostModule c.args.self.now) (naming_in c.args.self.now) c.args.inits.now c.requires.inits c.loop-k.k
          c.loop-k-test.true)
          came.0 came.1 c.in-Ok.ensures.fewer c.in-Ok.outcome (c.loop-k.self.left - c.run_function.new.self.left) came.2));
      most = subst (λ n. c.loop-k.k + 1 ≤ n)
          (inits_count (program_in g.H.HostModule c.args.self.now) (naming_in c.args.self.now) c.args.inits.now c.requires.inits)
          (let within = c.loop-k-test.true in omega (arith, within));
      begun = some_begun c.in-Ok.outcome (c.loop-k.k + 1) _ c.in_default.not-Ended (omega arith);
      ended = if_ended c.in-Ok.outcome _ (λ value is. absurd (c.in_default.not-Ended value is));
      ready = if_ended c.in-Ok.outcome _ (λ value is. absurd (c.in_default.not-Ended value is));
      stored = subst (λ l. AreStored (naming_of (map unit_of l.0)) c.run_function.new.self.startup.store.units.items)
          c.loop-k.invariant.ran.same.linked
          c.in-Ok.ensures.stored;
      answered = (
        _,
        both_asked g.H.HostModule c.args.self.now c.loop-k.self c.run_function.new.self c.loop-k.k c.loop-k.invariant.ran
            (slice_index_or c.args.inits.now c.loop-k.k (0, 0)).0 (slice_index_or c.args.inits.now c.loop-k.k (0, 0)).1
            (init_at (program_in g.H.HostModule c.args.self.now) (naming_in c.args.self.now) c.args.inits.now c.requires.inits c.loop-k.k
            c.loop-k-test.true)
            came.0 came.1 c.in-Ok.ensures.fewer,
      );
      asked = tt;
      same = same_on g.H.HostModule c.args.self.now c.loop-k.invariant.ran.same c.in-Ok.ensures.same;
      fewer = let less = c.in-Ok.ensures.fewer in let fewer = c.loop-k.invariant.ran.fewer in omega (arith, less, fewer);
    }

pub loop-k-preserved : goal.loop-k-preserved
loop-k-preserved g c =
    let came = c.in-Ok.ensures.came in
    let n : ℕ = c.loop-k.self.left - c.run_function.new.self.left in
    let ended : FunctionCame g.H.HostModule c.loop-k.self (slice_index_or c.args.inits.now c.loop-k.k (0, 0)).0
    (slice_index_or c.args.inits.now c.loop-k.k (0, 0)).1 [] came.0
    (outcome.Ended c.in-Ended.field-0) n c.run_function.new.self = rw c.in-Ended.is at came.2 in
    let none = gives_none g.H.HostModule c.args.self.now c.loop-k.self c.run_function.new.self c.loop-k.k c.loop-k.invariant.ran
    (slice_index_or c.args.inits.now c.loop-k.k (0, 0)).0 (slice_index_or c.args.inits.now c.loop-k.k (0, 0)).1
    (init_at (program_in g.H.HostModule c.args.self.now) (naming_in c.args.self.now) c.args.inits.now c.requires.inits c.loop-k.k
    c.loop-k-test.true)
    came.0 came.1 c.in-Ok.ensures.fewer c.in-Ended.field-0 n ended in
    record {
      ran = one_ran g.H.HostModule c.args.self.now c.loop-k.self c.run_function.new.self c.loop-k.k c.loop-k.invariant.ran
          (slice_index_or c.args.inits.now c.loop-k.k (0, 0)).0 (slice_index_or c.args.inits.now c.loop-k.k (0, 0)).1
          (init_at (program_in g.H.HostModule c.args.self.now) (naming_in c.args.self.now) c.args.inits.now c.requires.inits c.loop-k.k
          c.loop-k-test.true)
          came.0 came.1 c.in-Ok.ensures.fewer
          (out_of g.H.HostModule c.args.self.now c.loop-k.self c.run_function.new.self c.loop-k.k c.loop-k.invariant.ran
          (slice_index_or c.args.inits.now c.loop-k.k (0, 0)).0 (slice_index_or c.args.inits.now c.loop-k.k (0, 0)).1
          (init_at (program_in g.H.HostModule c.args.self.now) (naming_in c.args.self.now) c.args.inits.now c.requires.inits c.loop-k.k
          c.loop-k-test.true)
          came.0 came.1 c.in-Ok.ensures.fewer (outcome.Ended None) n (rw none at ended))
          (subst (λ o. IfEnded o (IsReady g.H.HostModule c.run_function.new.self)) c.in-Ended.is c.in-Ok.ensures.ready)
          c.in-Ok.ensures.same;
      counted = refl;
    }

pub returns-clause-ran : goal.returns-clause-ran
returns-clause-ran g c rest none =
    subst (λ calls. IsOutcome (outcome.Ended None) (Init (c.loop-k.inits_run - 1)) c.loop-k.self.hosts.journal
    (events_in c.loop-k.self.hosts.journal) (units_at c.loop-k.self)
    (c_run (program_in g.H.HostModule c.args.self.now) calls c.args.self.now.left (replies_in c.loop-k.self.hosts.journal))) (sym none)
    (subst (λ k. IsOutcome (outcome.Ended None) (Init (k - 1)) c.loop-k.self.hosts.journal
    (events_in c.loop-k.self.hosts.journal) (units_at c.loop-k.self)
    (c_run (program_in g.H.HostModule c.args.self.now) [] c.args.self.now.left (replies_in c.loop-k.self.hosts.journal)))
    (sym c.loop-k.invariant.counted)
    (all_came g.H.HostModule c.args.self.now c.loop-k.self c.loop-k.k c.loop-k.invariant.ran
    (subst (λ n. n ≤ c.loop-k.k)
    (inits_count (program_in g.H.HostModule c.args.self.now) (naming_in c.args.self.now) c.args.inits.now c.requires.inits)
    c.loop-k-test.false)))

pub returns-clause-most : goal.returns-clause-most
returns-clause-most g c =
    subst (λ n. c.loop-k.inits_run ≤ n)
    (inits_count (program_in g.H.HostModule c.args.self.now) (naming_in c.args.self.now) c.args.inits.now c.requires.inits)
    (omega (arith, c.loop-k.auto.k-end, c.loop-k.invariant.counted))

pub returns-clause-begun : goal.returns-clause-begun
returns-clause-begun g c =
    let counted = c.loop-k.invariant.counted in
    let all : c.loop-k.inits_run ≡ length c.args.inits.now = omega (arith, c.loop-k.auto.k-end, c.loop-k-test.false, counted) in
    all ∙ inits_count (program_in g.H.HostModule c.args.self.now) (naming_in c.args.self.now) c.args.inits.now c.requires.inits

pub returns-clause-ended : goal.returns-clause-ended
returns-clause-ended g c = (
  refl,
  subst (λ k. BehindAt (program_in g.H.HostModule c.args.self.now) c.loop-k.self.depth (units_at c.loop-k.self)
      c.loop-k.self.hosts.journal
      (c.args.self.now.left - c.loop-k.self.left) (entries_of (program_in g.H.HostModule c.args.self.now) []) (Init (k - 1))
      (events_in c.loop-k.self.hosts.journal)) (sym c.loop-k.invariant.counted)
      (all_behind g.H.HostModule c.args.self.now c.loop-k.self c.loop-k.k c.loop-k.invariant.ran
      (subst (λ n. n ≤ c.loop-k.k)
      (inits_count (program_in g.H.HostModule c.args.self.now) (naming_in c.args.self.now) c.args.inits.now c.requires.inits)
      c.loop-k-test.false)),
)

pub returns-clause-ready : goal.returns-clause-ready
returns-clause-ready g c = c.loop-k.invariant.ran.ready

pub returns-clause-stored : goal.returns-clause-stored
returns-clause-stored g c = subst (λ l. AreStored (naming_of (map unit_of l.0)) c.loop-k.self.startup.store.units.items)
    c.loop-k.invariant.ran.same.linked
    c.loop-k.invariant.ran.ready.stored

pub returns-clause-answered : goal.returns-clause-answered
returns-clause-answered g c = (c.loop-k.invariant.ran.asks, c.loop-k.invariant.ran.asked)

pub returns-clause-same : goal.returns-clause-same
returns-clause-same g c = c.loop-k.invariant.ran.same

pub returns-clause-fewer : goal.returns-clause-fewer
returns-clause-fewer g c = c.loop-k.invariant.ran.fewer
