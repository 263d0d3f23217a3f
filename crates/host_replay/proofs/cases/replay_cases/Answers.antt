use Rattle.host_replay.proofs.Common.{◌≡◌, [], ◌∷◌, slice_get, Some, None, sym, refl, ap, ◌∙◌, inl, inr, arith, Asked, tick, ticks}
use Rattle.host_replay.proofs.cases.replay_cases.Goals as goal

pub returns-clause-first : goal.returns-clause-first
returns-clause-first c = inl (record {
  entry = tick 1;
  next = record { used = 0; before_is = refl; entry_is = refl; function_is = refl; args_are = refl };
  reply_is = refl;
  after_is = refl;
})

pub returns-clause-second : goal.returns-clause-second
returns-clause-second c = inl (record {
  entry = tick 2;
  next = record { used = 1; before_is = refl; entry_is = refl; function_is = refl; args_are = refl };
  reply_is = refl;
  after_is = refl;
})

pub returns-clause-none_left : goal.returns-clause-none_left
returns-clause-none_left c = inr (record {
  none = λ e next.
      let used : next.used ≡ 1 = cc in
      let none : None ≡ Some e = ap (slice_get (tick 1 ∷ [])) (sym used) ∙ next.entry_is in
      cc;
  reply_is = refl;
  after_is = refl;
})

pub returns-clause-other_function : goal.returns-clause-other_function
returns-clause-other_function c = inr (record {
  none = λ e next.
      let used : next.used ≡ 0 = cc in
      let there : Some (tick 1) ≡ Some e = ap (slice_get ticks.entries) (sym used) ∙ next.entry_is in
      let same : tick 1 ≡ e = cc in
      let number : 2 ≡ 0 = ap (λ (a : Asked). a.function) same ∙ next.function_is in
      absurd (grind (arith, number));
  reply_is = refl;
  after_is = refl;
})
