use Rattle.c_hosts.proofs.Common.{◌≡◌, List, [], ◌∷◌, ◌++◌, Some, sym, ap, ◌∙◌, subst, append-nil, Gave, Reply, Stuck, Stops, below_in}
use Rattle.c_hosts.proofs.Common.{machine_in, waiting_in, ask_of, asked, trail_before, trail_behind}
use Rattle.c_meaning.specs.declared.reply.HostReply.TheVariants as reply
use Rattle.std.proofs.lemmas.Option.{MatchOption-at_none, MatchOption-at_some}
use Rattle.c_hosts.proofs.Offers.{answered_once}
use Rattle.c_hosts.proofs.Replies.{is_offered, not_offered, settles, value_goes_on, GoesOn}
use Rattle.c_hosts.proofs.Runs.{behind_none}
use Rattle.c_hosts.proofs.running.answer.Goals as goal

pub returns-in_default-clause-ran : goal.returns-in_default-clause-ran
returns-in_default-clause-ran g c =
    let no = MatchOption-at_none _ _ c.in_default.is c.in-Ok.ensures.asked in (
      [],
      record {
        written = ap (λ h. h.journal) no.1 ∙ sym (append-nil c.args.hosts.now.journal);
        answered = ap (λ h. h.list.items) no.1;
      },
      λ names p later told linked are stored.
          not_offered g.H.HostModule p c.args.hosts.now.list.items c.args.call are
          (machine_in names (trail_before [] later told) c.args.thread.now)
          (waiting_in names p c.args.thread.now.top ∷ below_in names p c.args.thread.now.below.items) no.0
          ∙ ap (λ trail. Stops (machine_in names trail c.args.thread.now) Stuck) (sym (behind_none later told)),
    )

pub returns-in-Value-clause-ran : goal.returns-in-Value-clause-ran
returns-in-Value-clause-ran g c =
    let a = asked c.args.call (reply.Value c.in-Value.value) in
    let yes = MatchOption-at_some _ _ (reply.Value c.in-Value.value) (c.in-Some.is ∙ ap Some c.in-Value.is) c.in-Ok.ensures.asked in (
      a ∷ [],
      record {
        written = yes.4;
        answered = answered_once g.H.HostModule c.args.hosts.now.list.items a c.ask.new.self.list.items yes.3;
      },
      λ names p later told linked are stored.
          let machine = machine_in names (trail_before (a ∷ []) later told) c.args.thread.now in
          let below = waiting_in names p c.args.thread.now.top ∷ below_in names p c.args.thread.now.below.items in
          let taken = λ (replies : List Reply).
          c.take.ensures.step names p (trail_before (a ∷ []) later told) yes.0.ty replies told (ask_of a) linked stored yes.2 in
          let on = λ (replies : List Reply).
          subst GoesOn (taken replies) (value_goes_on yes.0.ty c.in-Value.value replies told (ask_of a) machine below yes.2) in
          is_offered g.H.HostModule p c.args.hosts.now.list.items c.args.call are machine below yes.0 yes.1
          ∙ taken later
          ∙ sym (settles names p told (ask_of a) (Some (Gave c.in-Value.value)) later c.take.result c.take.new.self on)
          ∙ sym (c.ending_of.ensures names p (trail_behind (a ∷ []) later told) c.take.new.self),
    )

pub returns-in-Trap-clause-ran : goal.returns-in-Trap-clause-ran
returns-in-Trap-clause-ran g c =
    let a = asked c.args.call reply.Trap in
    let yes = MatchOption-at_some _ _ reply.Trap (c.in-Some.is ∙ ap Some c.in-Trap.is) c.in-Ok.ensures.asked in (
      a ∷ [],
      record {
        written = yes.4;
        answered = answered_once g.H.HostModule c.args.hosts.now.list.items a c.ask.new.self.list.items yes.3;
      },
      λ names p later told linked are stored.
          is_offered g.H.HostModule p c.args.hosts.now.list.items c.args.call are
          (machine_in names (trail_before (a ∷ []) later told) c.args.thread.now)
          (waiting_in names p c.args.thread.now.top ∷ below_in names p c.args.thread.now.below.items) yes.0 yes.1,
    )
