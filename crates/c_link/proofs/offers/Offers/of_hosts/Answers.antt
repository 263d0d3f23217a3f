use Rattle.c_link.proofs.Common.{◌≡◌, ◌≤◌, [], ◌∷◌, length, take, slice_get, Some, option_map, sym, ap, ◌∙◌, take_all, length-map}
use Rattle.c_link.proofs.Common.{slice_get-map, numbered_at, numbered_many, mapped_at, take_next, numbered, c_symbol, c_symbols, host_offer}
use Rattle.c_link.proofs.Common.{host_offers}
use Rattle.c_link.specs.declared.offers.Owner.TheVariants as owner
use Rattle.c_link.proofs.Tables.{adds_said, holds_as, holds_more}
use Rattle.c_link.proofs.offers.Offers.of_hosts.Goals as goal

pub loop-k-preserved : goal.loop-k-preserved
loop-k-preserved c =
    let host = c.index-hosts-k.result in
    let k = c.loop-k.k in
    let entries = host_offers (c_symbols c.args.hosts.now) in
    let at : slice_get entries k ≡ Some (host_offer (k, c_symbol host)) =
    slice_get-map host_offer (numbered (c_symbols c.args.hosts.now)) k
    ∙ ap (option_map host_offer) (numbered_at (c_symbols c.args.hosts.now) k (c_symbol host)
    (mapped_at c_symbol c.args.hosts.now k host c.loop-k-test.true c.index-hosts-k.is)) in
    holds_as c.enter.new.self _ _ (take_next entries k (host_offer (k, c_symbol host)) at)
    (holds_more c.loop-k.table c.enter.new.self (take k entries) (host_offer (k, c_symbol host) ∷ []) c.loop-k.invariant
    (adds_said c.loop-k.table c.enter.new.self _ _ (owner.Host k) _ _ c.as_slice.ensures c.in_ok-c_func_type.ensures
    c.in_ok-enter.ensures))

pub returns : goal.returns
returns c =
    let symbols = c_symbols c.args.hosts.now in
    let past : length (host_offers symbols) ≤ c.loop-k.k =
    rw length-map (rw (numbered_many 0 symbols) (rw length-map c.loop-k-test.false)) in
    holds_as c.loop-k.table _ _ (sym (take_all c.loop-k.k (host_offers symbols) past)) c.loop-k.invariant
