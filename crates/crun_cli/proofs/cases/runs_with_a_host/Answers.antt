use Rattle.crun_cli.proofs.Common.{◌≡◌, ℕ, zero, suc, false, List, [], ◌∷◌, slice_get, Some, codes, Option, sym, refl, ap, subst, Host}
use Rattle.crun_cli.proofs.Common.{Value, I32, I64, extended, SymbolCall, CRun, c_run, call_with, env, host_call, lines_of, Answered, Keeps}
use Rattle.crun_cli.proofs.Common.{host_of, replies_in, HostModule, Asked, asked_events, HasRun, HasStatus}
use Rattle.std.specs.Fmt.{digits}
use Rattle.std.proofs.lemmas.Option.{none-some, same_Some}
use Rattle.c_tree.specs.declared.tree.CType.TheVariants.{U64}
use Rattle.c_meaning.specs.declared.reply.HostReply.{HostReply}
use Rattle.c_meaning.specs.declared.reply.HostReply.TheVariants as reply
use Rattle.crun_cli.proofs.cases.runs_with_a_host.Goals as goal

abbrev calls : List SymbolCall
calls = call_with (I32 3) (I32 0) ∷ []

-- the run with such a host
abbrev with_host : Host → List Asked → CRun
with_host host asks = c_run (record { units = host_call U64 ∷ []; hosts = host ∷ [] }) calls 2 (replies_in asks)

abbrev tick : Asked
tick = record { host = 0; function = 0; args = []; reply = reply.Value (Some (I64 1)) }

the_one : {A : Type 0} (a b : A) (number : ℕ) → slice_get (a ∷ []) number ≡ Some b → a ≡ b
the_one a b zero e = same_Some a b e
the_one a b (suc number) e = absurd (none-some b e)

module _ {H : Type 0} (m : HostModule H) (before : H) (is_env : host_of m before ≡ env) where
  answered : (after : H) → Keeps m before after → m.may before (m.state before) 0 [] (reply.Value (Some (I64 1))) (m.state after)
      → HasRun m (before ∷ []) (host_call U64 ∷ []) calls 2 false (Some []) (Some (codes "host env tick = i64:1\ncall 1 = i32:3\n")) 0
  unfolding digits
  answered after keeps may = record {
    asks = tick ∷ [];
    after = after ∷ [];
    answered = (after ∷ [], record { old = before; new = after; old_is = refl; new_is = refl; may = may; keeps = keeps }, refl);
    told = ap (λ (host : Host). asked_events (with_host host (tick ∷ [])).events) is_env;
    has_status = subst (λ (host : Host). HasStatus (with_host host (tick ∷ [])).outcome 0) (sym is_env) refl;
    lines = ap (λ (host : Host). extended (Some []) (lines_of (host ∷ []) false (with_host host (tick ∷ [])))) (sym is_env);
  }

  -- nothing may be answered, so nothing was
  no_asks : ((function : ℕ) (args : List Value) (answer : HostReply) (after : List ℕ)
      → m.may before (m.state before) function args answer after → ⊥)
      → (asks : List Asked) (after : List H) → Answered m (before ∷ []) asks after → asks ≡ []
  no_asks silent [] after is = refl
  no_asks silent (a ∷ asks) after (middle, answers, rest) = absurd (silent a.function a.args a.reply (m.state answers.new)
      (rw (the_one before answers.old a.host answers.old_is) answers.may))

  no_run : ((function : ℕ) (args : List Value) (answer : HostReply) (after : List ℕ)
      → m.may before (m.state before) function args answer after → ⊥)
      → (new : Option (List ℕ)) (status : ℕ)
      → HasRun m (before ∷ []) (host_call U64 ∷ []) calls 2 false (Some []) new status → ⊥
  no_run silent new status r =
      let waits = rw (no_asks silent r.asks r.after r.answered) at r.has_status in
      subst (λ (host : Host). HasStatus (with_host host []).outcome status) is_env waits

pub returns-clause-answered : goal.returns-clause-answered
returns-clause-answered g c before after is_env keeps may = answered g.H.HostModule before is_env after keeps may

pub returns-clause-silent : goal.returns-clause-silent
returns-clause-silent g c before is_env silent new status run = no_run g.H.HostModule before is_env silent new status run
