-- Hosts that reply again what a journal says have, behind some calls, used up the calls of their modules among these.
use Rattle.host_replay.proofs.Common.{◌≡◌, ℕ, zero, suc, ◌+◌, cond, List, [], ◌∷◌, ◌++◌, length, set, ◌==◌, slice_get, Some, sym, refl, ap}
use Rattle.host_replay.proofs.Common.{◌∙◌, subst, inl, inr, append-nil, length-append, eq-eqb, ne_eqb, eqb-true, eqb-false, filter-append}
use Rattle.host_replay.proofs.Common.{by_test, Ask, Value, HostReply, Answers, ask_of, HostModule, Asked, Replays, calls_of, right_behind}

-- ---- lists

pub set_same : {A : Type 0} (xs : List A) (i : ℕ) (old new : A) → slice_get xs i ≡ Some old → slice_get (set xs i new) i ≡ Some new
set_same [] i old new at = absurd cc
set_same (x ∷ xs) zero old new at = refl
set_same (x ∷ xs) (suc i) old new at = set_same xs i old new at

pub set_other : {A : Type 0} (xs : List A) (i k : ℕ) (new : A) → (k ≡ i → ⊥) → slice_get (set xs i new) k ≡ slice_get xs k
set_other (x ∷ xs) zero zero new other = absurd (other refl)
set_other (x ∷ xs) (suc i) (suc k) new other = set_other xs i k new (λ e. other (ap suc e))
set_other _ _ _ new other = refl

-- ---- the calls of a module

pub own_call : (k : ℕ) (a : Asked) (rest : List Asked) → a.host ≡ k → calls_of k (a ∷ rest) ≡ a ∷ calls_of k rest
own_call k a rest is = ap (λ b. cond b (a ∷ calls_of k rest) (calls_of k rest)) (eq-eqb a.host k is)

pub other_call : (k : ℕ) (a : Asked) (rest : List Asked) → (a.host ≡ k → ⊥) → calls_of k (a ∷ rest) ≡ calls_of k rest
other_call k a rest other = ap (λ b. cond b (a ∷ calls_of k rest) (calls_of k rest)) (ne_eqb a.host k other)

calls-append : (k : ℕ) (xs ys : List Asked) → calls_of k (xs ++ ys) ≡ calls_of k xs ++ calls_of k ys
calls-append k = filter-append (λ a. a.host == k)

one_more : (k : ℕ) (seen : List Asked) (a : Asked) → a.host ≡ k
    → length (calls_of k seen) + 1 ≡ length (calls_of k (seen ++ a ∷ []))
one_more k seen a is =
    sym (ap length (calls-append k seen (a ∷ []) ∙ ap (λ l. calls_of k seen ++ l) (own_call k a [] is))
    ∙ length-append (calls_of k seen) (a ∷ []))

as_many : (k : ℕ) (seen : List Asked) (a : Asked) → (a.host ≡ k → ⊥)
    → length (calls_of k seen) ≡ length (calls_of k (seen ++ a ∷ []))
as_many k seen a other =
    sym (ap length (calls-append k seen (a ∷ []) ∙ ap (λ l. calls_of k seen ++ l) (other_call k a [] other) ∙ append-nil (calls_of k seen)))

-- ---- hosts

module _ {R : Type 0} (m : HostModule R) (entries : List Asked) where
  -- a host replies again what these entries say of the module with this number, of which it has used up what was seen
  pub record IsAt (k : ℕ) (seen : List Asked) (r : R) : Type 0 where
    pub may : (before : List ℕ) (i : ℕ) (args : List Value) (answer : HostReply) (after : List ℕ) → m.may r before i args answer after
        → Replays (calls_of k entries) before i args answer after
    pub used : m.state r ≡ length (calls_of k seen) ∷ []

  abbrev pub AreAt : List Asked → List R → Type 0
  AreAt seen hosts = (k : ℕ) (r : R) → slice_get hosts k ≡ Some r → IsAt k seen r

  -- the reply of the entry that comes next, to what this one asks
  abbrev RepliesNext : List Asked → Asked → HostReply → List ℕ → Type 0
  RepliesNext seen u answer after = (answer ≡ u.reply) × (after ≡ (length (calls_of u.host seen) + 1) ∷ [])

  next_reply : (seen rest : List Asked) (u : Asked) (r : R) (answer : HostReply) (after : List ℕ) → entries ≡ seen ++ u ∷ rest
      → IsAt u.host seen r → m.may r (m.state r) u.function u.args answer after → RepliesNext seen u answer after
  next_reply seen rest u r answer after are at may =
      by (at.may (m.state r) u.function u.args answer after may)
    where
      n : ℕ
      n = length (calls_of u.host seen)

      is_there : slice_get (calls_of u.host entries) n ≡ Some u
      is_there = ap (λ es. slice_get (calls_of u.host es) n) are
          ∙ ap (λ l. slice_get l n) (calls-append u.host seen (u ∷ rest)
          ∙ ap (λ l. calls_of u.host seen ++ l) (own_call u.host u rest refl))
          ∙ right_behind (calls_of u.host seen) u (calls_of u.host rest)

      by_used : (used : ℕ) (e : Asked) → used ≡ n → slice_get (calls_of u.host entries) used ≡ Some e → e ≡ u
      by_used used e same is = (let found : Some e ≡ Some u = sym is ∙ ap (slice_get (calls_of u.host entries)) same ∙ is_there in cc)

      by : Replays (calls_of u.host entries) (m.state r) u.function u.args answer after → RepliesNext seen u answer after
      by (inl again) =
          let lists : again.next.used ∷ [] ≡ n ∷ [] = sym again.next.before_is ∙ at.used in
          let same : again.next.used ≡ n = cc in
          let entry = by_used again.next.used again.entry same again.next.entry_is in
          (again.reply_is ∙ ap (λ a. a.reply) entry, again.after_is ∙ ap (λ k. (k + 1) ∷ []) same)
      by (inr other) = absurd (other.none u (record {
        used = n;
        before_is = at.used;
        entry_is = is_there;
        function_is = refl;
        args_are = refl;
      }))

  -- who asks the same as the entry that comes next is replied the same
  pub one_answer : (seen rest : List Asked) (u a : Asked) (before after : List R) → entries ≡ seen ++ u ∷ rest → AreAt seen before
      → Answers m before a after → ask_of a ≡ ask_of u → (a ≡ u) × AreAt (seen ++ u ∷ []) after
  one_answer seen rest u a before after are at x same =
      ((λ i. record { host = host_is i; function = function_is i; args = args_are i; reply = next.0 i }), still_at)
    where
      host_is : a.host ≡ u.host
      host_is = ap (λ (q : Ask). q.host) same

      function_is : a.function ≡ u.function
      function_is = ap (λ (q : Ask). q.function) same

      args_are : a.args ≡ u.args
      args_are = ap (λ (q : Ask). q.args) same

      at_old : IsAt u.host seen x.old
      at_old = at u.host x.old (ap (slice_get before) (sym host_is) ∙ x.old_is)

      next : RepliesNext seen u a.reply (m.state x.new)
      next = next_reply seen rest u x.old a.reply (m.state x.new) are at_old (rw (args_are, function_is) at x.may)

      asked_host : (k : ℕ) (r : R) → u.host ≡ k → slice_get after k ≡ Some r → IsAt k (seen ++ u ∷ []) r
      asked_host k r is found =
          let new : Some r ≡ Some x.new = sym found ∙ ap (slice_get after) (sym (host_is ∙ is)) ∙ ap (λ l. slice_get l a.host) x.new_is
          ∙ set_same before a.host x.old x.new x.old_is in
          let here : r ≡ x.new = cc in
          subst (IsAt k (seen ++ u ∷ [])) (sym here) (record {
            may = λ b i args answer aft may. rw is at (at_old.may b i args answer aft ((x.keeps.may b i args answer aft).0 may));
            used = next.1 ∙ ap (λ n. n ∷ []) (one_more u.host seen u refl ∙ ap (λ k. length (calls_of k (seen ++ u ∷ []))) is);
          })

      other_host : (k : ℕ) (r : R) → (u.host ≡ k → ⊥) → slice_get after k ≡ Some r → IsAt k (seen ++ u ∷ []) r
      other_host k r other found =
          let old = at k r (sym (set_other before a.host k x.new (λ is. other (sym host_is ∙ sym is)))
          ∙ ap (λ l. slice_get l k) (sym x.new_is) ∙ found) in
          record { may = old.may; used = old.used ∙ ap (λ n. n ∷ []) (as_many k seen u other) }

      still_at : AreAt (seen ++ u ∷ []) after
      still_at k r found = by_test (u.host == k)
          (λ yes_. asked_host k r (eqb-true u.host k yes_) found)
          (λ no_. other_host k r (eqb-false u.host k no_) found)
