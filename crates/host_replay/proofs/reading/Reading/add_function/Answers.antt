use Rattle.host_replay.proofs.Common.{◌≡◌, true, false, List, [], length, is_some, subst, rules, named, modules_of, IsNewIn, recorded}
use Rattle.host_replay.proofs.Common.{JournalModule, nil_from_length}
use Rattle.host_replay.proofs.Known.{added, at_some, known_already, known_more}
use Rattle.host_replay.proofs.reading.Reading.add_function.Goals as goal

pub returns-then-has-clause-no : goal.returns-then-has-clause-no
returns-then-has-clause-no c = λ _.
    let is : IsNewIn (recorded c.args.self.now.file).hosts c.args.f c.in-Some.new =
    subst (λ (ms : List JournalModule). IsNewIn (modules_of ms) c.args.f c.in-Some.new) c.as_slice.ensures.value
    (at_some _ _ c.in-Some.new c.in-Some.is c.in_ok-new.ensures.some) in
    let there : is_some (named c.in-Some.new.symbol c.args.self.now.places) ≡ true = search rules in
    known_already (recorded c.args.self.now.file) c.args.f c.in-Some.new is c.args.self.now.places c.requires there

pub returns-clause-known : goal.returns-clause-known
returns-clause-known c = λ _.
    let is : IsNewIn (recorded c.args.self.now.file).hosts c.args.f c.in-Some.new =
    subst (λ (ms : List JournalModule). IsNewIn (modules_of ms) c.args.f c.in-Some.new) c.as_slice.ensures.value
    (at_some _ _ c.in-Some.new c.in-Some.is c.in_ok-new.ensures.some) in
    let none : is_some (named c.in-Some.new.symbol c.args.self.now.places) ≡ false = search rules in
    known_more (recorded c.args.self.now.file) c.args.f c.in-Some.new is c.args.self.now.places c.requires none
    (recorded c.push_function.new.self) c.enter.new.self
    c.in_ok-push_function.ensures (λ q. search (rules, c.in_ok-enter.ensures q))

pub returns-clause-yes : goal.returns-clause-yes
returns-clause-yes c = λ _.
    let is : IsNewIn (recorded c.args.self.now.file).hosts c.args.f c.in-Some.new =
    subst (λ (ms : List JournalModule). IsNewIn (modules_of ms) c.args.f c.in-Some.new) c.as_slice.ensures.value
    (at_some _ _ c.in-Some.new c.in-Some.is c.in_ok-new.ensures.some) in
    let none : is_some (named c.in-Some.new.symbol c.args.self.now.places) ≡ false = search rules in
    let none_there : length c.args.self.now.file.entries.items ≡ 0 = search rules in
    let empty : c.args.self.now.file.entries.items ≡ [] = nil_from_length c.args.self.now.file.entries.items none_there in
    added (recorded c.args.self.now.file) c.args.f c.in-Some.new is c.args.self.now.places c.requires none empty
    (recorded c.push_function.new.self)
    c.in_ok-push_function.ensures
