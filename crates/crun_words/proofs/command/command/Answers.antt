use Rattle.crun_words.proofs.Common.{◌≡◌, IfOk, Ok, Err, codes, Result, ap, ◌∙◌, App, app_of, with_rule, word_option, words_left}
use Rattle.crun_words.specs.Command.{word_flag}
use Rattle.crun_words.proofs.command.command.Goals as goal

pub returns : goal.returns
returns c =
    let with_steps = c.in_ok-command.ensures ∙ ap (λ (app : App). with_rule app (word_option (codes "steps"))) c.bare.ensures in
    let with_calls = c.in_ok-command-2.ensures ∙ ap (λ (app : App). with_rule app (word_option (codes "calls"))) with_steps in
    let with_state = c.in_ok-command-3.ensures ∙ ap (λ (app : App). with_rule app (word_flag (codes "state"))) with_calls in
    let with_record = c.in_ok-command-4.ensures ∙ ap (λ (app : App). with_rule app (word_option (codes "record"))) with_state in
    let with_replay = c.in_ok-command-5.ensures ∙ ap (λ (app : App). with_rule app (word_option (codes "replay"))) with_record in
    let with_merge = c.in_ok-command-6.ensures ∙ ap (λ (app : App). with_rule app (word_option (codes "merge"))) with_replay in
    let with_trim = c.in_ok-command-7.ensures ∙ ap (λ (app : App). with_rule app (word_option (codes "trim"))) with_merge in
    last c.with_words_left.result app_of _ _ with_trim c.with_words_left.ensures
  where
    last : {C E : Type 0} (r : Result C E) (app : C → App) (before after : App) → before ≡ after
        → IfOk r (λ command. app command ≡ with_rule before (words_left (codes "units")))
        → IfOk r (λ command. app command ≡ with_rule after (words_left (codes "units")))
    last (Ok command) app before after same is = is ∙ ap (λ (a : App). with_rule a (words_left (codes "units"))) same
    last (Err e) app before after same is = tt
