-- A run whose journal was written, and that is replayed, is the same run.
use Rattle.crun_cli.proofs.Common.{◌≡◌, ℕ, Bool, List, [], ◌∷◌, map, Some, None, Option, MatchOption, sym, ap, ◌∙◌, subst, inl, get, Name}
use Rattle.crun_cli.proofs.Common.{Contents, extended, holding, SymbolCall, CRun, Stopped, c_run, Stuck, lines_of, hosts_of, Asked, empty}
use Rattle.crun_cli.proofs.Common.{replies_in, HostModule, asks_again, hosts_same, none_distinct, one_read, IsJournal, AreReplays, run_with}
use Rattle.crun_cli.proofs.Common.{journal_lines_of, replaying, IsAnsweredRun, Recorded, journal_text, ReplayHost, Line, RunLine, line_of}
use Rattle.crun_cli.proofs.Common.{runs, AllRead, AreInputs, Held, IsJournalReading, JournalReading, IsTextsJob, Job, Run, Stops, Write}
use Rattle.crun_cli.proofs.Common.{Usage, AsksAgain, GainsTheSame, IsTheSame, ReplaysJournal, RunsAgain, By_refusal, By_run, By_unit, IsRun}
use Rattle.crun_cli.proofs.Common.{HasAnswer, HasPlayed, IsAnswered, IsJobWith, IsJournaled, Ran, WithHosts, HoldsJournal, IsLineJob, inr}
use Rattle.crun_cli.proofs.Common.{IsReplayJob, IsRunJob, symbols_of, Outside, HasStatus, HasRun, journal_of, Told}
use Rattle.w2c_io.proofs.Names.{get_here}
use Rattle.w2c_files.specs.Reading.{AreHeld}
use Rattle.c_tree.specs.Tree as tree
use Rattle.c_meaning.specs.Run.{Outcome}
use Rattle.c_meaning.specs.State.{Asks}
use Rattle.crun_cli.proofs.OneJob.{one_job}

same_journal : (text : List ℕ) (a b : Recorded) → IsJournal text a → IsJournal text b → a ≡ b
same_journal text a b first second = one_read empty a b (journal_lines_of text) none_distinct first second

-- a run has one status
one_status : (o : Outcome) (a b : ℕ) → HasStatus o a → HasStatus o b → a ≡ b
one_status (Stopped Asks) a b x y = absurd x
one_status (Stopped Stuck) a b x y = absurd x
one_status _ a b x y = x ∙ sym y

-- ---- files that hold the same

held_again : (m m' : Contents) (names names' : List Name) (texts : List (List ℕ)) → map (get m') names' ≡ map (get m) names
    → AreHeld m names texts → AreHeld m' names' texts
held_again m m' [] [] [] same held = tt
held_again m m' [] [] (t ∷ texts) same held = absurd held
held_again m m' [] (n' ∷ names') texts same held = cc
held_again m m' (n ∷ names) [] texts same held = cc
held_again m m' (n ∷ names) (n' ∷ names') [] same held = absurd held
held_again m m' (n ∷ names) (n' ∷ names') (t ∷ texts) same held =
    let first : get m' n' ≡ get m n = cc in
    let others : map (get m') names' ≡ map (get m) names = cc in
    (first ∙ held.0, held_again m m' names names' texts others held.1)

inputs_again : (line again : RunLine) (m m' : Contents) (texts : List (List ℕ)) (text : List ℕ) → AsksAgain line again m m'
    → AreInputs m line.units line.calls texts text → AreInputs m' again.units again.calls texts text
inputs_again line again m m' texts text same are = record {
  units_are = record {
    held = held_again m m' line.units again.units texts same.units are.units_are.held;
    fit = are.units_are.fit;
    together = are.units_are.together;
  };
  calls_are = same.calls ∙ are.calls_are;
  calls_fit = are.calls_fit;
}

-- the text that was left
left_text : (j : Recorded) (o : Option Name) (old new : Told) (m left : Contents) (name : Name) (text : List ℕ) → IsJournaled o j old new
    → old ≡ Some m → new ≡ Some left → o ≡ Some name → get left name ≡ Some text → (text ≡ journal_text j) × IsJournal text j
left_text j o old new m left name text journaled told told' named held =
    let written : IsJournaled (Some name) j old new = rw named at journaled in
    let files : Some left ≡ holding (Some m) name (journal_text j) =
    sym told' ∙ written.0 ∙ ap (λ t. holding t name (journal_text j)) told in
    let same : get left name ≡ Some (journal_text j) = ap (λ (o : Option Contents). got o) files ∙ get_here m name (journal_text j) in
    let is : text ≡ journal_text j = (let both = sym held ∙ same in cc) in
    (is, subst (λ t. IsJournal t j) (sym is) written.1)
  where
    got : Option Contents → Option (List ℕ)
    got None = None
    got (Some files) = get files name

-- ---- a run that was recorded, and one with hosts that reply the same

run_answered : {K : Type 0} {k : HostModule K} {ks : List K} {units : List (List tree.Item)} {calls : List SymbolCall} {steps : ℕ}
    {shown : Bool} {old new : Option (List ℕ)} {status : ℕ} (run : HasRun k ks units calls steps shown old new status)
    → IsAnsweredRun k ks units calls steps run.asks
run_answered run = record { after = run.after; answered = run.answered; told = run.told }

module _ {G : Type 0} (n : HostModule G) (gs : List G) (units : List (List tree.Item)) (calls : List SymbolCall) (steps : ℕ)
    {asks asks' : List Asked} {replays : List ReplayHost} (first : IsAnsweredRun n gs units calls steps asks)
    (are : AreReplays (journal_of n gs asks) replays) (second : IsAnsweredRun replaying replays units calls steps asks') where
  same_asks : asks' ≡ asks
  same_asks = asks_again n gs units calls steps asks asks' replays first are second

  same_hosts : hosts_of replaying replays ≡ hosts_of n gs
  same_hosts = hosts_same (journal_of n gs asks) replays are

  same_run : run_with replaying replays units calls steps asks' ≡ run_with n gs units calls steps asks
  same_run = λ i. c_run (record { units = units; hosts = same_hosts i }) calls steps (replies_in (same_asks i))

  same_status : (status other : ℕ) → HasStatus (run_with n gs units calls steps asks).outcome status
      → HasStatus (run_with replaying replays units calls steps asks').outcome other → other ≡ status
  same_status status other has has' =
      one_status _ other status (subst (λ (r : CRun). HasStatus r.outcome other) same_run has') has

  same_text : journal_text (journal_of replaying replays asks') ≡ journal_text (journal_of n gs asks)
  same_text = λ i. journal_text (record { hosts = same_hosts i; entries = same_asks i })

  same_lines : (shown : Bool) → lines_of (hosts_of replaying replays) shown (run_with replaying replays units calls steps asks')
      ≡ lines_of (hosts_of n gs) shown (run_with n gs units calls steps asks)
  same_lines shown = λ i. lines_of (same_hosts i) shown (same_run i)

-- ---- the second run, which replays a journal's text

same_held : (m : Contents) (name : Name) (a b : List ℕ) → get m name ≡ Some a → get m name ≡ Some b → a ≡ b
same_held m name a b x y = cc

module _ {H : Type 0} (hm : HostModule H) (hosts : List H) (words : List Name) (again : RunLine) (m : Contents)
    (is : line_of words ≡ Some (runs again)) (text : List ℕ) (from : Name) (replayed : again.replayed ≡ Some from)
    (held : IsJournalReading m from (Held text)) (j : Recorded) (is_journal : IsJournal text j)
    (units : List (List tree.Item)) (calls : List SymbolCall) where
  abbrev Job' : Job
  Job' = Run units calls again.steps again.shows_state

  second_job : (texts : List (List ℕ)) (calls_text : List ℕ) → AreInputs m again.units again.calls texts calls_text
      → IsTextsJob again (symbols_of j.hosts) texts calls_text Job' → IsJobWith hm hosts words m Job'
  second_job texts calls_text read of =
      let behind = subst (λ o. MatchOption o (IsTextsJob again (symbols_of (hosts_of hm hosts)) texts calls_text Job')
      (λ name. (r : JournalReading) × IsJournalReading m name r × IsReplayJob again name texts calls_text r Job')) (sym replayed)
      (Held text, held, inl (j, is_journal, of)) in
      subst (λ o. MatchOption o (Job' ≡ Stops Usage) (λ l. IsLineJob (hosts_of hm hosts) m l Job')) (sym is)
      (AllRead texts calls_text, read, behind)

  -- its line, units and calls, and its hosts
  module _ (asked : IsJobWith hm hosts words m Job')
      (Q : (K : Type 0) → HostModule K → List K → RunLine → List (List tree.Item) → List SymbolCall → Type 0) where
    abbrev Second : Type 0
    Second = (replays : List ReplayHost) × AreReplays j replays × Q ReplayHost replaying replays again units calls

    by_hosts : (o : Option Name) → o ≡ Some from → WithHosts hm hosts o m (λ K k ks. Q K k ks again units calls) → Second
    by_hosts None none with = cc
    by_hosts (Some name) named (j', replays, holds, are, q) =
        let names : name ≡ from = (let both : ◌≡◌ {A = Option Name} (Some name) (Some from) = named in cc) in
        let texts_are : holds.0 ≡ text = same_held m from holds.0 text (ap (get m) (sym names) ∙ holds.1.0) held.0 in
        let js : j' ≡ j = same_journal text j' j (subst (λ t. IsJournal t j') texts_are holds.2) is_journal in
        (replays, subst (λ x. AreReplays x replays) js are, q)

    second_of : IsRun hm hosts words m Q → Second
    second_of (line', units', calls', is', job', with) =
        let lines : line' ≡ again = (let both : ◌≡◌ {A = Option Line} (Some (runs line')) (Some (runs again)) = sym is' ∙ is in cc) in
        let jobs : Run units' calls' line'.steps line'.shows_state ≡ Run units calls again.steps again.shows_state =
        one_job words (hosts_of hm hosts) m (Run units' calls' line'.steps line'.shows_state) Job' job' asked in
        let units_are : units' ≡ units = cc in
        let calls_are : calls' ≡ calls = cc in
        by_hosts again.replayed replayed
        (subst (λ l. WithHosts hm hosts l.replayed m (λ K k ks. Q K k ks l units calls)) lines
        (subst (λ us. WithHosts hm hosts line'.replayed m (λ K k ks. Q K k ks line' us calls)) units_are
        (subst (λ cs. WithHosts hm hosts line'.replayed m (λ K k ks. Q K k ks line' units' cs)) calls_are with)))

-- ---- both

-- the second line, which asks for as many statements, and for the state, as the first
abbrev as_asked : RunLine → RunLine → RunLine
as_asked line again = record again { steps = line.steps; shows_state = line.shows_state }

module _ {H : Type 0} (hm : HostModule H) (words' : List Name) (line again : RunLine) (m m' left : Contents) (hosts' : List H)
    (text : List ℕ) (is' : line_of words' ≡ Some (runs (as_asked line again))) (same : AsksAgain line again m m')
    (r : ReplaysJournal line again left m' text) (old new : Outside) (status : ℕ) (told : old.files.told ≡ Some m)
    (told' : new.files.told ≡ Some left) (units : List (List tree.Item)) (calls : List SymbolCall) (texts : List (List ℕ))
    (calls_text : List ℕ) (read : AreInputs m line.units line.calls texts calls_text) where
  module _ {G : Type 0} (n : HostModule G) (gs : List G) (played : HasPlayed n gs line units calls old new status)
      (of : IsTextsJob line (symbols_of (hosts_of n gs)) texts calls_text (Run units calls line.steps line.shows_state)) where
    abbrev journal : Recorded
    journal = journal_of n gs played.run.asks

    the_text : (text ≡ journal_text journal) × IsJournal text journal
    the_text = left_text journal line.journal old.files.told new.files.told m left r.name text played.written told told' r.written r.left_is

    asked : IsJobWith hm hosts' words' m' (Run units calls line.steps line.shows_state)
    asked = second_job hm hosts' words' (as_asked line again) m' is' text r.from r.replayed (r.read_is, r.short) journal the_text.1 units
        calls texts calls_text (inputs_again line again m m' texts calls_text same read) of

    second : (Q : (K : Type 0) → HostModule K → List K → RunLine → List (List tree.Item) → List SymbolCall → Type 0)
        → IsRun hm hosts' words' m' Q → (replays : List ReplayHost) × AreReplays journal replays
        × Q ReplayHost replaying replays (as_asked line again) units calls
    second = second_of hm hosts' words' (as_asked line again) m' is' text r.from r.replayed (r.read_is, r.short) journal the_text.1 units
        calls asked

    of_answer : (other : ℕ) → IsAnswered hm hosts' words' m' other → other ≡ status
    of_answer other (By_refusal why job is) =
        (let apart : Stops why ≡ Run units calls line.steps line.shows_state =
        one_job words' (hosts_of hm hosts') m' (Stops why) (Run units calls line.steps line.shows_state) job asked in cc)
    of_answer other (By_unit output unit job is) =
        (let apart : Write output unit ≡ Run units calls line.steps line.shows_state =
        one_job words' (hosts_of hm hosts') m' (Write output unit) (Run units calls line.steps line.shows_state) job asked in cc)
    of_answer other (By_run run) =
        let s = second (λ K k ks l us cs. HasAnswer K k ks l us cs other) run in
        let answered : IsAnsweredRun replaying s.0 units calls line.steps s.2.0 =
        record { after = s.2.1; answered = s.2.2; told = s.2.3 } in
        same_status n gs units calls line.steps (run_answered played.run) s.1 answered status other played.run.has_status s.2.4

    module _ (old' new' : Outside) (other : ℕ) (replays : List ReplayHost) (are : AreReplays journal replays)
        (p : HasPlayed replaying replays (as_asked line again) units calls old' new' other) where
      status_again : other ≡ status
      status_again = same_status n gs units calls line.steps (run_answered played.run) are (run_answered p.run) status other
          played.run.has_status p.run.has_status

      gains_again : GainsTheSame old new old' new'
      gains_again = record {
        gained = lines_of (hosts_of n gs) line.shows_state (run_with n gs units calls line.steps played.run.asks);
        first = played.run.lines;
        second = p.run.lines ∙ ap (extended old'.out.told)
            (same_lines n gs units calls line.steps (run_answered played.run) are (run_answered p.run) line.shows_state);
      }

      journal_again : (to : Name) → again.journal ≡ Some to → new'.files.told ≡ holding old'.files.told to text
      journal_again to named =
          let written = subst (λ (o : Option Name). IsJournaled o (journal_of replaying replays p.run.asks) old'.files.told new'.files.told)
          named p.written in
          written.0 ∙ ap (holding old'.files.told to)
          (same_text n gs units calls line.steps (run_answered played.run) are (run_answered p.run) ∙ sym the_text.0)

    is_the_same : IsTheSame hm hosts' words' (as_asked line again) m' text old new status
    is_the_same = record {
      answered = of_answer;
      status_is = λ old' new' other ran. let s = second (λ K k ks l us cs. HasPlayed k ks l us cs old' new' other) ran in
          status_again old' new' other s.0 s.1 s.2;
      lines = λ old' new' other ran. let s = second (λ K k ks l us cs. HasPlayed k ks l us cs old' new' other) ran in
          gains_again old' new' other s.0 s.1 s.2;
      journal = λ old' new' other to ran named. let s = second (λ K k ks l us cs. HasPlayed k ks l us cs old' new' other) ran in
          journal_again old' new' other s.0 s.1 s.2 to named;
    }

  replay_texts : (name : Name) (reading : JournalReading) (j : Recorded)
      → IsReplayJob line name texts calls_text reading (Run units calls line.steps line.shows_state) → IsJournalReading m name reading
      → HoldsJournal m name j → IsTextsJob line (symbols_of j.hosts) texts calls_text (Run units calls line.steps line.shows_state)
  replay_texts name (Held t) j (inl (j', is, of)) reading holds =
      let texts_are : t ≡ holds.0 = same_held m name t holds.0 reading.0 holds.1.0 in
      subst (λ x. IsTextsJob line (symbols_of x.hosts) texts calls_text (Run units calls line.steps line.shows_state))
      (same_journal holds.0 j' j (subst (λ t. IsJournal t j') texts_are is) holds.2) of
  replay_texts name (Held t) j (inr (k, refused, is)) reading holds = cc
  replay_texts name _ j of reading holds = cc

  by_hosts_of : (hosts : List H) (o : Option Name)
      → MatchOption o (IsTextsJob line (symbols_of (hosts_of hm hosts)) texts calls_text (Run units calls line.steps line.shows_state))
      (λ name. (reading : JournalReading) × IsJournalReading m name reading
      × IsReplayJob line name texts calls_text reading (Run units calls line.steps line.shows_state))
      → WithHosts hm hosts o m (λ K k ks. HasPlayed k ks line units calls old new status)
      → IsTheSame hm hosts' words' (as_asked line again) m' text old new status
  by_hosts_of hosts None of played = is_the_same hm hosts played of
  by_hosts_of hosts (Some name) (reading, is, of) (j, replays, holds, are, played) = is_the_same replaying replays played
      (rw (hosts_same j replays are) (replay_texts name reading j of is holds))

module _ {H : Type 0} (hm : HostModule H) (hosts : List H) (words : List Name) where
  pub runs_again : (m left : Contents) (old new : Outside) (status : ℕ) → old.files.told ≡ Some m → new.files.told ≡ Some left
      → Ran hm hosts words m old new status → RunsAgain hm words m left old new status
  runs_again m left old new status told told' (line, units, calls, is, job, with) line' again words' m' hosts' text is_line is' same r =
      by (rw is at job)
    where
      lines : line' ≡ line
      lines = (let both : ◌≡◌ {A = Option Line} (Some (runs line')) (Some (runs line)) = sym is_line ∙ is in cc)

      asks : AsksAgain line again m m'
      asks = subst (λ l. AsksAgain l again m m') lines same

      as_line : again ≡ as_asked line again
      as_line = λ i. record again { steps = asks.steps i; shows_state = asks.shows_state i }

      by : IsRunJob line (hosts_of hm hosts) m (Run units calls line.steps line.shows_state)
          → IsTheSame hm hosts' words' again m' text old new status
      by (AllRead texts calls_text, read, of) = subst (λ (a : RunLine). IsTheSame hm hosts' words' a m' text old new status) (sym as_line)
          (by_hosts_of hm words' line again m m' left hosts' text (is' ∙ ap (λ (a : RunLine). Some (runs a)) as_line) asks
          (subst (λ l. ReplaysJournal l again left m' text) lines r) old new status told told' units calls texts calls_text read hosts
          line.replayed of with)
      by (_, read, of) = absurd cc
