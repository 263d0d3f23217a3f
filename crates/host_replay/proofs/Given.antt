-- Hosts that reply again: what they offer, and that they stay such where one has a call more.
use Rattle.host_replay.proofs.Common.{◌≡◌, ℕ, zero, suc, ◌+◌, ◌<◌, ◌≤◌, Bool, true, false, ◌⊎◌, List, [], ◌∷◌, ◌++◌, map, length, get_or}
use Rattle.host_replay.proofs.Common.{take, IfSome, ◌==◌, slice_get, slice_set, Some, None, Option, option_map, sym, refl, ap, ◌∙◌, subst}
use Rattle.host_replay.proofs.Common.{inl, inr, append-nil, arith, length-append, length-set, eq-eqb, eqb-true, eqb-false, length-map}
use Rattle.host_replay.proofs.Common.{take_more, filter-append, slice_get-map, slice_get_within, list_all, get_front, by_test, Host}
use Rattle.host_replay.proofs.Common.{function_of, host_of, hosts_of, Asked, fits, HasMore, IsGiven, AreReplays, IsReplayOf, replaying}
use Rattle.host_replay.proofs.Common.{calls_of, fits_own, Recorded, ReplayHost, right_behind, beside}
use Rattle.std.proofs.lemmas.List.Folds.{list_all_at}
use Rattle.host_replay.proofs.Replays.{own}
use Rattle.host_replay.proofs.Used.{other_call, own_call, set_other, set_same}

-- ---- lists

list_same : {A : Type 0} (xs ys : List A) → length xs ≡ length ys
    → ((k : ℕ) (x : A) → slice_get xs k ≡ Some x → slice_get ys k ≡ Some x) → xs ≡ ys
list_same [] [] n h = refl
list_same (x ∷ xs) (y ∷ ys) n h =
    let first = h 0 x refl in
    let same : x ≡ y = cc in
    λ i. same i ∷ list_same xs ys (omega (arith, n)) (λ k a at. h (suc k) a at) i
list_same _ _ n h = absurd (omega (arith, n))

-- nothing more
stays : (r s : ReplayHost) → r ≡ s → HasMore r [] s
stays r s same = record {
  name = ap (λ (h : ReplayHost). h.name) (sym same);
  functions = ap (λ (h : ReplayHost). h.functions.items) (sym same);
  entries = ap (λ (h : ReplayHost). h.entries.items) (sym same) ∙ sym (append-nil r.entries.items);
  used = ap (λ (h : ReplayHost). h.used) (sym same);
}

-- ---- what they offer

pub hosts_same : (j : Recorded) (hosts : List ReplayHost) → AreReplays j hosts → hosts_of replaying hosts ≡ j.hosts
hosts_same j hosts are =
    list_same (hosts_of replaying hosts) j.hosts (length-map hosts (host_of replaying) ∙ are.so_many) (λ k x at.
    by k (slice_get hosts k) refl x (sym (slice_get-map (host_of replaying) hosts k) ∙ at))
  where
    by : (k : ℕ) (o : Option ReplayHost) → slice_get hosts k ≡ o → (x : Host) → option_map (host_of replaying) o ≡ Some x
        → slice_get j.hosts k ≡ Some x
    by k None none x is = absurd cc
    by k (Some r) some x is = (are.each k r some).module_is ∙ is

-- ---- a module more

last_get : {A : Type 0} (xs : List A) (y : A) (k : ℕ) (x : A) → slice_get (xs ++ y ∷ []) k ≡ Some x
    → (slice_get xs k ≡ Some x) ⊎ ((k ≡ length xs) × (y ≡ x))
last_get [] y zero x at = inr (refl, cc)
last_get [] y (suc k) x at = absurd cc
last_get (z ∷ xs) y zero x at = inl at
last_get (z ∷ xs) y (suc k) x at = elim (last_get xs y k x at) [
  | inl h ↦ inl h
  | inr h ↦ inr (ap suc h.0, h.1)
]

abbrev without_calls : List Host → Recorded
without_calls hosts = record { hosts = hosts; entries = [] }

pub module_more : (hosts : List Host) (replays : List ReplayHost) (h : Host) (r : ReplayHost) → AreReplays (without_calls hosts) replays
    → h ≡ record { name = r.name; functions = map function_of r.functions.items } → r.entries.items ≡ [] → r.used ≡ 0
    → AreReplays (without_calls (hosts ++ h ∷ [])) (replays ++ r ∷ [])
module_more hosts replays h r are is none unused = record {
  so_many = length-append replays (r ∷ []) ∙ ap (λ n. n + length (r ∷ [])) are.so_many ∙ sym (length-append hosts (h ∷ []));
  each = λ k x at. elim (last_get replays r k x at) [
    | inl before ↦ (let old = are.each k x before in record {
      module_is = get_front hosts (h ∷ []) k _ old.module_is;
      calls_are = old.calls_are;
      unused = old.unused;
    })
    | inr last ↦ subst (IsReplayOf (without_calls (hosts ++ h ∷ [])) k) last.1 (record {
      module_is = ap (slice_get (hosts ++ h ∷ [])) (last.0 ∙ are.so_many) ∙ right_behind hosts h [] ∙ ap Some is;
      calls_are = none;
      unused = unused;
    })
  ];
}

-- ---- a call more

pub call_more : (j : Recorded) (a : Asked) (before after : List ReplayHost) → AreReplays j before → IsGiven before a after
    → AreReplays (record { hosts = j.hosts; entries = j.entries ++ a ∷ [] }) after
call_more j a before after are given = record {
  so_many = given.so_many ∙ are.so_many;
  each = λ k new at.
      let found = beside after before k new given.so_many at in
      let old = are.each k found.0 found.1 in
      let more = given.each k found.0 new found.1 at in
      record {
        module_is = old.module_is ∙ (λ i. Some (record { name = sym more.name i; functions = map function_of (sym more.functions i) }));
        calls_are = more.entries ∙ ap (λ es. es ++ calls_of k (a ∷ [])) old.calls_are
            ∙ sym (filter-append (λ a. a.host == k) j.entries (a ∷ []));
        unused = more.used ∙ old.unused;
      };
}

-- a call that fits the journal's modules fits the functions of its host
pub fits_its_host : (j : Recorded) (a : Asked) (replays : List ReplayHost) → AreReplays j replays → fits j.hosts a ≡ true
    → IfSome (slice_get replays a.host) (λ h. fits_own h.functions.items a ≡ true)
fits_its_host j a replays are fit = by (slice_get replays a.host) refl
  where
    by : (o : Option ReplayHost) → slice_get replays a.host ≡ o → IfSome o (λ h. fits_own h.functions.items a ≡ true)
    by None none = tt
    by (Some r) some = own j.hosts a.host r.name r.functions.items (are.each a.host r some).module_is a (eq-eqb a.host a.host refl) fit

-- the host with this number has the call of its module behind its own
pub given_at : (before after : List ReplayHost) (a : Asked) (old new : ReplayHost) → slice_get before a.host ≡ Some old
    → after ≡ slice_set before a.host new → HasMore old (a ∷ []) new → IsGiven before a after
given_at before after a old new at is more = record {
  so_many = ap length is ∙ length-set before a.host new;
  each = λ k r s found found'. by_test (a.host == k)
      (λ here. (let same = eqb-true a.host k here in
      let r_is : Some old ≡ Some r = sym at ∙ ap (slice_get before) same ∙ found in
      let s_is : Some new ≡ Some s = sym (set_same before a.host old new at) ∙ ap (λ l. slice_get l a.host) (sym is)
      ∙ ap (slice_get after) same ∙ found' in
      let r_same : old ≡ r = cc in
      let s_same : new ≡ s = cc in
      subst (λ calls. HasMore r calls s) (sym (own_call k a [] same)) (rw r_same at (subst (λ s. HasMore old (a ∷ []) s) s_same more))))
      (λ other. (let apart = eqb-false a.host k other in
      let s_is : Some r ≡ Some s = sym found ∙ sym (set_other before a.host k new (λ e. apart (sym e)))
      ∙ ap (λ l. slice_get l k) (sym is) ∙ found' in
      let same : r ≡ s = cc in
      subst (λ calls. HasMore r calls s) (sym (other_call k a [] apart)) (stays r s same)));
}

-- no host has the number
pub none_given : (before : List ReplayHost) (a : Asked) → length before ≤ a.host → IsGiven before a before
none_given before a past = record {
  so_many = refl;
  each = λ k r s found found'.
      let both : Some r ≡ Some s = sym found ∙ found' in
      let same : r ≡ s = cc in
      let within = slice_get_within before k r found in
      subst (λ calls. HasMore r calls s) (sym (other_call k a [] (λ e. omega (arith, e, past, within)))) (stays r s same);
}

-- ---- items in order

module _ {A : Type 0} (xs seen : List A) (k : ℕ) (x : A) (same : seen ≡ xs) (within : k < length seen) (is : x ≡ get_or seen k x) where
  pub next_item : take (k + 1) xs ≡ take k xs ++ x ∷ []
  next_item = rw same at (take_more seen k x within ∙ ap (λ y. take k seen ++ y ∷ []) (sym is))

  pub test_passed : (test : A → Bool) → list_all test xs ≡ true → test x ≡ true
  test_passed test all = by_test (test x) (λ yes_. yes_) (λ no_.
      let none = list_all_at test seen k x within (ap test (sym is) ∙ no_) in
      let contrary : true ≡ false = sym all ∙ ap (list_all test) (sym same) ∙ none in
      absurd cc)
