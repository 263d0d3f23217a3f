-- The calls of a module fit its functions.
use Rattle.host_replay.proofs.Common.{◌≡◌, ℕ, zero, suc, ◌+◌, ◌<◌, Bool, true, false, cond, ◌&&◌, List, [], ◌∷◌, map, length, IfSome, ◌==◌}
use Rattle.host_replay.proofs.Common.{slice_get, slice_index_or, Some, None, Option, option_map, sym, refl, ap, ◌∙◌, subst, inl, arith}
use Rattle.host_replay.proofs.Common.{eqb-true, slice_get-map, list_all, both_hold, if_found, Host, equal_types, types_of, Value, HostReply}
use Rattle.host_replay.proofs.Common.{function_of, Asked, fits, fits_function, is_reply, module_of, modules_of, Replays, calls_of, fits_own}
use Rattle.host_replay.proofs.Common.{JournalModule}
use Rattle.c_hosts.specs.declared.host.HostFunction.{HostFunction}
use Rattle.c_meaning.specs.declared.reply.HostReply.TheVariants as reply
use Rattle.c_hosts.specs.Hosts.{IsReply}

module _ (hosts : List Host) (k : ℕ) (name : List ℕ) (functions : List HostFunction)
    (at : slice_get hosts k ≡ Some (record { name = name; functions = map function_of functions })) where
  pub own : (a : Asked) → (a.host == k) ≡ true → fits hosts a ≡ true → fits_own functions a ≡ true
  own a here fit =
      let same : a.host ≡ k = eqb-true a.host k here in
      let there : slice_get hosts a.host
      ≡ Some (record { name = name; functions = map function_of functions }) = ap (slice_get hosts) same ∙ at in
      ap (λ o. fits_function o a) (sym (ap (λ (m : Option Host). if_found m (λ m. slice_get m.functions a.function)) there
      ∙ slice_get-map function_of functions a.function)) ∙ fit

  pub calls_fit : (entries : List Asked) → list_all (fits hosts) entries ≡ true → list_all (fits_own functions) (calls_of k entries) ≡ true
  calls_fit [] fit = refl
  calls_fit (a ∷ entries) fit =
      let parts = both_hold (fits hosts a) (list_all (fits hosts) entries) fit in
      by_test (a.host == k) refl parts.0 (calls_fit entries parts.1)
    where
      by_test : (b : Bool) → (a.host == k) ≡ b → fits hosts a ≡ true → list_all (fits_own functions) (calls_of k entries) ≡ true
          → list_all (fits_own functions) (cond b (a ∷ calls_of k entries) (calls_of k entries)) ≡ true
      by_test true here fit rest = (λ i. own a here fit i && rest i)
      by_test false other fit rest = rest

-- the reply of a call that fits
reply_fits : (f : HostFunction) (r : HostReply) → is_reply f.ty.result r ≡ true → IsReply f r
reply_fits f (reply.Value v) e = e
reply_fits f reply.Trap e = tt

pub reply_of_next : (functions : List HostFunction) (entries : List Asked) (used : ℕ) (e : Asked)
    → list_all (fits_own functions) entries ≡ true
    → slice_get entries used ≡ Some e → (i : ℕ) → e.function ≡ i → (r : HostReply) → r ≡ e.reply
    → IfSome (slice_get functions i) (λ f. IsReply f r)
reply_of_next functions [] used e fit at i is r reply_is = absurd cc
reply_of_next functions (x ∷ entries) zero e fit at i is r reply_is =
    let parts = both_hold (fits_own functions x) (list_all (fits_own functions) entries) fit in
    let same : x ≡ e = cc in
    by_found (slice_get functions i) refl (subst (λ (a : Asked). fits_own functions a ≡ true) same parts.0)
  where
    by_found : (o : Option HostFunction) → slice_get functions i ≡ o → fits_own functions e ≡ true → IfSome o (λ f. IsReply f r)
    by_found None none fit = tt
    by_found (Some f) some fit =
        let found : slice_get functions e.function ≡ Some f = ap (slice_get functions) is ∙ some in
        let here : fits_function (Some (function_of f)) e
        ≡ true = ap (λ (o : Option HostFunction). fits_function (option_map function_of o) e) (sym found) ∙ fit in
        let given = (both_hold (equal_types f.ty.params (types_of e.args)) (is_reply f.ty.result e.reply) here).1 in
        subst (IsReply f) (sym reply_is) (reply_fits f e.reply given)
reply_of_next functions (x ∷ entries) (suc used) e fit at i is r reply_is =
    let rest = (both_hold (fits_own functions x) (list_all (fits_own functions) entries) fit).1 in
    reply_of_next functions entries used e rest at i is r reply_is

pub module_at : (modules : List JournalModule) (k : ℕ) (m : JournalModule) → k < length (modules_of modules)
    → m ≡ slice_index_or modules k m
    → slice_get (modules_of modules) k ≡ Some (module_of m)
module_at [] k m within is = absurd (omega arith)
module_at (x ∷ modules) zero m within is = ap (λ (m : JournalModule). Some (module_of m)) (sym is)
module_at (x ∷ modules) (suc k) m within is = module_at modules k m (omega arith) is

abbrev Replied : List Asked → ℕ → ℕ → List Value → HostReply → Type 0
Replied entries used i args r = (e : Asked) × (slice_get entries used ≡ Some e) × (e.function ≡ i) × (e.args ≡ args) × (r ≡ e.reply)

pub again : (entries seen : List Asked) (used i : ℕ) (args : List Value) (r : HostReply) → seen ≡ entries → Replied seen used i args r
    → Replays entries (used ∷ []) i args r ((used + 1) ∷ [])
again entries seen used i args r same e = inl (record {
  entry = e.0;
  next = record {
    used = used;
    before_is = refl;
    entry_is = ap (λ (es : List Asked). slice_get es used) (sym same) ∙ e.1;
    function_is = e.2;
    args_are = e.3;
  };
  reply_is = e.4;
  after_is = refl;
})

pub reply_again : (functions : List HostFunction) (entries seen : List Asked) (used i : ℕ) (args : List Value) (r : HostReply)
    → seen ≡ entries
    → list_all (fits_own functions) entries ≡ true → Replied seen used i args r → IfSome (slice_get functions i) (λ f. IsReply f r)
reply_again functions entries seen used i args r same fit e =
    reply_of_next functions entries used e.0 fit (ap (λ (es : List Asked). slice_get es used) (sym same) ∙ e.1) i e.2 r e.4
