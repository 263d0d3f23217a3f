use Rattle.c_hosts.proofs.Common.{◌≡◌, [], ◌∷◌, ◌++◌, sym, refl, ap, ◌∙◌, types_of, asked}
use Rattle.w2c_base.proofs.Types.{equal_types-eq}
use Rattle.c_meaning.specs.declared.reply.HostReply.TheVariants as reply
use Rattle.c_hosts.specs.Hosts.{IsReply, TakesArgs}
use Rattle.c_hosts.proofs.Called.{function_of_it, host_there, of_function}
use Rattle.c_hosts.proofs.asking.Hosts.ask.Goals as goal

pub call-reply-requires-clause-args : goal.call-reply-requires-clause-args
call-reply-requires-clause-args g c =
    let offer = c.offers.ensures.yes c.if-not-offers.false in
    let args = c.last_args.ensures c.args.self.now.journal (asked c.args.call reply.Trap) c.in_ok-open.ensures.ok in
    of_function g.H.HostModule c.args.self.now.list.items c.args.call offer.0 c.index_mut.result.now offer.1.0 c.index_mut.ensures.value
    (λ f. TakesArgs f c.last_args.result.now)
    (ap types_of args ∙ sym (equal_types-eq offer.0.ty.params (types_of c.args.call.args.items) offer.1.1))

pub returns-clause-asked : goal.returns-clause-asked
returns-clause-asked g c =
    let offer = c.offers.ensures.yes c.if-not-offers.false in
    let args = c.last_args.ensures c.args.self.now.journal (asked c.args.call reply.Trap) c.in_ok-open.ensures.ok in
    let there =
    host_there g.H.HostModule c.args.self.now.list.items c.args.call offer.0 c.index_mut.result.now offer.1.0
    c.index_mut.ensures.value in (
      offer.0,
      offer.1,
      function_of_it g.H.HostModule c.args.self.now.list.items c.args.call offer.0 c.index_mut.result.now offer.1.0
          c.index_mut.ensures.value
          (λ f. IsReply f c.call-reply.result) c.call-reply.ensures.value,
      record {
        old = c.index_mut.result.now;
        new = c.call-reply.new.self;
        old_is = there.0;
        new_is = refl;
        may = rw args at c.call-reply.ensures.answers;
        keeps = record { name = c.call-reply.ensures.name; functions = c.call-reply.ensures.functions; may = c.call-reply.ensures.may };
      },
      c.put_reply.ensures c.args.self.now.journal (asked c.args.call reply.Trap) c.in_ok-open.ensures.ok,
    )
