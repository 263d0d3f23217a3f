-- What hosts have answered fits their functions, where a run has told it.
use Rattle.host_replay.proofs.Common.{◌≡◌, ℕ, true, ◌&&◌, List, [], ◌∷◌, slice_get, Some, None, Option, option_map, sym, refl, ◌∙◌, subst}
use Rattle.host_replay.proofs.Common.{AllByRecursion, list_all, if_found, CallEnded, Event, Host, HostFunction, equal_types, types_of}
use Rattle.host_replay.proofs.Common.{FuncType, Program, SymbolCall, host_type, HostReply, hosts_of, event_in, events_in, replies_in}
use Rattle.host_replay.proofs.Common.{reply_in, reply_of, HostModule, Asked, fits, fits_function, function_at, is_reply, IsAnsweredRun}
use Rattle.host_replay.proofs.Common.{asked_events, program_with, run_with}
use Rattle.w2c_base.specs.Run as run
use Rattle.c_tree.specs.Tree as tree
use Rattle.c_meaning.specs.declared.reply.HostReply.TheVariants as reply
use Rattle.host_replay.proofs.Answering.{IsAnswered, IsReplyOf}
use Rattle.host_replay.proofs.Tellings.{run_answered}

module _ (p : Program) where
  asked_answered : (events : List Event) → AllByRecursion (IsAnswered p) events → AllByRecursion (IsAnswered p) (asked_events events)
  asked_answered [] h = tt
  asked_answered (run.Asked ask reply ∷ events) h = (h.0, asked_answered events h.1)
  asked_answered (CallEnded value ∷ events) h = asked_answered events h.1

  abbrev type_in : HostFunction → FuncType
  type_in f = f.ty

  found_type : (h f : ℕ) → host_type p h f ≡ option_map type_in (function_at p.hosts h f)
  found_type h f = by (slice_get p.hosts h)
    where
      by : (o : Option Host) → if_found o (λ host. option_map type_in (slice_get host.functions f))
          ≡ option_map type_in (if_found o (λ m. slice_get m.functions f))
      by None = refl
      by (Some host) = refl

  reply_fits : (ty : FuncType) (r : HostReply) → IsReplyOf ty (reply_of r) → is_reply ty.result r ≡ true
  reply_fits ty (reply.Value v) h = h
  reply_fits ty reply.Trap h = refl

  function_fits : (o : Option HostFunction) (a : Asked) (ty : FuncType) → option_map type_in o ≡ Some ty
      → equal_types ty.params (types_of a.args) ≡ true → IsReplyOf ty (reply_in a) → fits_function o a ≡ true
  function_fits None a ty is takes gives = absurd cc
  function_fits (Some f) a ty is takes gives =
      let same : f.ty ≡ ty = cc in
      (λ i. equal_types (same i).params (types_of a.args) && is_reply (same i).result a.reply)
      ∙ (λ i. takes i && reply_fits ty a.reply gives i)

  one_fits : (a : Asked) → IsAnswered p (event_in a) → fits p.hosts a ≡ true
  one_fits a h =
      function_fits (function_at p.hosts a.host a.function) a h.ty (sym (found_type a.host a.function) ∙ h.type_is) h.takes h.gives

  all_fit : (asks : List Asked) → AllByRecursion (IsAnswered p) (events_in asks) → list_all (fits p.hosts) asks ≡ true
  all_fit [] h = refl
  all_fit (a ∷ asks) h = (λ i. one_fits a h.0 i && all_fit asks h.1 i)

pub answered_fit : {H : Type 0} (m : HostModule H) (hosts : List H) (units : List (List tree.Item)) (calls : List SymbolCall) (steps : ℕ)
    (asks : List Asked) → IsAnsweredRun m hosts units calls steps asks → list_all (fits (hosts_of m hosts)) asks ≡ true
answered_fit m hosts units calls steps asks run =
    let p = program_with m hosts units in
    all_fit p asks (subst (AllByRecursion (IsAnswered p)) run.told
    (asked_answered p (run_with m hosts units calls steps asks).events (run_answered p calls steps (replies_in asks))))
