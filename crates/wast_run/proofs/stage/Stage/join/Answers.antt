use Rattle.wast_run.proofs.Common.{◌≡◌, ◌++◌, ap, ◌∙◌, listed_calls}
use Rattle.wast_run.proofs.StageLaws.{joins_set, joins_not, ready_more}
use Rattle.wast_run.proofs.stage.Stage.join.Goals as goal

pub returns-in-Ok-true-clause-joins : goal.returns-in-Ok-true-clause-joins
returns-in-Ok-true-clause-joins c =
    let name = c.args.name.now in
    let same : c.extend.new.self ≡ name = c.in-Ok.ensures.ok ∙ ap (λ l. l ++ name) c.new-owned.ensures in
    let is = c.in-Ok-true.field-0-test in
    joins_set c.args.self.now.joined.set (listed_calls c.args.self.now.kept.items) name c.extend.new.self c.args.«module» same
    c.join.new.self.set (c.in-Ok-true.ensures.joined is) (c.in-Ok-true.ensures.linked is)

pub returns-in-Ok-true-clause-sound : goal.returns-in-Ok-true-clause-sound
returns-in-Ok-true-clause-sound c =
    let name = c.args.name.now in
    let same : c.extend.new.self ≡ name = c.in-Ok.ensures.ok ∙ ap (λ l. l ++ name) c.new-owned.ensures in
    let is = c.in-Ok-true.field-0-test in
    let ready = ready_more c.args.self.now.joined.set (listed_calls c.args.self.now.kept.items) name c.extend.new.self c.args.«module» same
    c.join.new.self.set (c.in-Ok-true.ensures.joined is) (c.in-Ok-true.ensures.linked is) c.requires.sound.ready in
    record { ready = ready; units = c.in-Ok-true.ensures.units }

pub returns-in-Ok-false-clause-joins : goal.returns-in-Ok-false-clause-joins
returns-in-Ok-false-clause-joins c =
    let name = c.args.name.now in
    let same : c.extend.new.self ≡ name = c.in-Ok.ensures.ok ∙ ap (λ l. l ++ name) c.new-owned.ensures in
    let is = c.in-Ok-false.field-0-test in
    joins_not c.args.self.now.joined.set (listed_calls c.args.self.now.kept.items) name c.extend.new.self c.args.«module» same
    c.join.new.self.set (c.in-Ok-false.ensures.unchanged is) (c.in-Ok-false.ensures.unlinked is)
