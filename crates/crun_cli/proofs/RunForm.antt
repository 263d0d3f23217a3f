-- The run form: from what its steps say over texts and hosts to what the words ask for.
use Rattle.crun_cli.proofs.Common.{◌≡◌, ℕ, ◌≤◌, List, Some, None, string_bytes, Option, MatchOption, sym, refl, ap, ◌∙◌, subst, inl, inr}
use Rattle.crun_cli.proofs.Common.{Faulted, Contents, Name, Told, Tells, IsOneOf, SymbolCall, hosts_of, HostModule, hosts_same, AreReplays}
use Rattle.crun_cli.proofs.Common.{replaying, Recorded, ReplayHost, Line, RunLine, line_of, runs, AllRead, AreInputs, Held, IsInput, Job}
use Rattle.crun_cli.proofs.Common.{IsJournalReading, JournalReading, LongCalls, LongJournal, LongUnit, NoJournal, NotThere, StopsInputs}
use Rattle.crun_cli.proofs.Common.{InputStop, IsTextsJob, Stops, CallsLine, CallsTooLong, JournalLine, JournalTooLong, Reason, Refused, Ran}
use Rattle.crun_cli.proofs.Common.{Unread, Unwritten, Usage, WantOfMemory, reason_of, stop_for, FilesSeen, HasPlayed, HasPlayedPart, ◌⊎◌}
use Rattle.crun_cli.proofs.Common.{IsJobWith, IsUnwritten, RanPart, WithHosts, HasReading, IsReadBy, IsToRead, IsToWrite, IsUnitFile}
use Rattle.crun_cli.proofs.Common.{HoldsJournal, IsJobOfTexts, IsLineJob, IsReplayJob, IsRunJob, symbols_of, IsUntouched, Outside, StopsRun}
use Rattle.crun_cli.proofs.Common.{IsRunUnwritten, IsTextsPart, IsTextsRun, StopsReplay, StopsWork, holding}
use Rattle.w2c_io.proofs.Telling.{rose_from}
use Rattle.c_tree.specs.Tree as tree
use Rattle.crun_words.specs.declared.inputs.InputStop.TheVariants as input
use Rattle.crun_words.specs.Inputs.{StopsJournal}
use Rattle.crun_job.specs.declared.stop.Cause.TheVariants as cause
use Rattle.w2c_files.proofs.Standing.{one_at}

-- the file that a run writes, behind reading that wrote none
pub kept_from : {journal : Option Name} {start middle new : Told} → middle ≡ start
    → (new ≡ middle) ⊎ ((file : Name) × (text : List ℕ) × (journal ≡ Some file) × (new ≡ holding middle file text))
    → (new ≡ start) ⊎ ((file : Name) × (text : List ℕ) × (journal ≡ Some file) × (new ≡ holding start file text))
kept_from told kept = rw told at kept

-- the journal's file is not read
pub journal_stop : (name : Name) (old new : FilesSeen) (stop : InputStop)
    → StopsJournal old.told name old.read_faults new.read_faults new.fault_name stop → StopsReplay name old new (reason_of (stop_for stop))
journal_stop name old new (input.Unread file) unread = unread
journal_stop name old new input.JournalTooLong long = long
journal_stop name old new input.Memory stop = stop
journal_stop name old new _ stop = absurd stop

-- ---- words that ask for a run

module _ {H : Type 0} (hm : HostModule H) (hosts : List H) (line : RunLine) (words : List Name)
    (is : line_of words ≡ Some (runs line)) where
  job_there : (m : Contents) (job : Job) → IsRunJob line (hosts_of hm hosts) m job → IsJobWith hm hosts words m job
  job_there m job of = subst (λ o. MatchOption o (job ≡ Stops Usage) (λ l. IsLineJob (hosts_of hm hosts) m l job)) (sym is) of

  pub has_reading : HasReading words
  has_reading none = (let both : ◌≡◌ {A = Option Line} None (Some (runs line)) = sym none ∙ is in cc)

  unit_file : (file : Name) → IsOneOf file line.units → IsUnitFile file (line_of words)
  unit_file file one = subst (IsUnitFile file) (sym is) one

  to_read : (file : Name) → IsReadBy file (runs line) → IsToRead file (line_of words)
  to_read file one = subst (IsToRead file) (sym is) one

  -- the units and the calls file are not all read
  module _ (old new : Outside) (untouched : IsUntouched old new) where
    by_input : (file : Name) → IsInput file line.units line.calls → IsReadBy file (runs line)
    by_input file (inl one) = inl one
    by_input file (inr calls) = inr (inl calls)

    pub inputs_stop : (stop : InputStop) → StopsInputs old.files.told line.units line.calls old.files.read_faults new.files.read_faults
        new.files.fault_name stop → StopsWork hm hosts words old new (reason_of (stop_for stop))
    inputs_stop (input.Unread name) (one, inl faulted) =
        (record { to_read = to_read (string_bytes name) (by_input (string_bytes name) one); cause = inl faulted }, untouched)
    inputs_stop (input.Unread name) (one, inr (m, tells, missing)) =
        let asks = job_there m (Stops (Unread (string_bytes name))) (NotThere (string_bytes name), missing, refl) in
        (record { to_read = to_read (string_bytes name) (by_input (string_bytes name) one); cause = inr (m, tells, asks) }, untouched)
    inputs_stop (input.UnitTooLong name) (one, long) =
        let file = string_bytes name in
        ((unit_file file one, λ m tells. job_there m (Stops (Refused file cause.TooLong)) (LongUnit file, long m tells, refl)), untouched)
    inputs_stop input.CallsTooLong long =
        ((has_reading, λ m tells. job_there m (Stops CallsTooLong) (LongCalls, long m tells, refl)), untouched)
    inputs_stop input.Memory stops = λ m tells. inl untouched
    inputs_stop _ stops = absurd stops

  -- all are read
  module _ (old new : Outside) (texts : List (List ℕ)) (text : List ℕ)
      (read : Tells old.files.told (λ m. AreInputs m line.units line.calls texts text)) where
    texts_job : (m : Contents) → old.files.told ≡ Some m → (job : Job) → IsJobOfTexts line (hosts_of hm hosts) m texts text job
        → IsJobWith hm hosts words m job
    texts_job m tells job of = job_there m job (AllRead texts text, read m tells, of)

    replay_job : (name : Name) → line.replayed ≡ Some name → (m : Contents) → old.files.told ≡ Some m → (reading : JournalReading)
        → IsJournalReading m name reading → (job : Job) → IsReplayJob line name texts text reading job → IsJobWith hm hosts words m job
    replay_job name named m tells reading is_reading job of = texts_job m tells job
        (subst (λ o. MatchOption o (IsTextsJob line (symbols_of (hosts_of hm hosts)) texts text job)
        (λ n. (r : JournalReading) × IsJournalReading m n r × IsReplayJob line n texts text r job)) (sym named) (reading, is_reading, of))

    -- what is done behind the reads, which wrote nothing
    module _ (middle : FilesSeen) (told : middle.told ≡ old.files.told) where
      abbrev Mid : Outside
      Mid = record { files = middle; out = old.out }

      untouched_from : middle.current ≡ old.files.current → IsUntouched Mid new → IsUntouched old new
      untouched_from current u =
          record { files = record { told = u.files.told ∙ told; current = u.files.current ∙ current }; lines = u.lines }

      -- the journal is not read, or refused
      pub replay_stop : (name : Name) → line.replayed ≡ Some name → old.files.read_faults ≤ middle.read_faults → IsUntouched old new
          → (why : Reason) → StopsReplay name middle new.files why → StopsWork hm hosts words old new why
      replay_stop name named later untouched (Unread file) (file_is, inl faulted) =
          let there = to_read file (inr (inr (named ∙ ap Some (sym file_is)))) in
          let rose = rose_from old.files.read_faults middle.read_faults new.files.read_faults later faulted.rose in
          (record { to_read = there; cause = inl (record { rose = rose; named = faulted.named }) }, untouched)
      replay_stop name named later untouched (Unread file) (file_is, inr (m, tells, none)) =
          let there = to_read file (inr (inr (named ∙ ap Some (sym file_is)))) in
          let tells' = sym told ∙ tells in
          let asks = replay_job name named m tells' NoJournal none (Stops (Unread file)) (ap (λ f. Stops (Unread f)) file_is) in
          (record { to_read = there; cause = inr (m, tells', asks) }, untouched)
      replay_stop name named later untouched JournalTooLong long = (
        (has_reading, λ m tells. replay_job name named m tells LongJournal (long m (told ∙ tells)) (Stops JournalTooLong) refl),
        untouched,
      )
      replay_stop name named later untouched (JournalLine number) line_is = (
        (
          has_reading,
          λ m tells. let found = line_is m (told ∙ tells) in
              replay_job name named m tells (Held found.0) found.1 (Stops (JournalLine number)) (inr (number, found.2, refl)),
        ),
        untouched,
      )
      replay_stop name named later untouched WantOfMemory stop = λ m tells. inl untouched
      replay_stop name named later untouched _ stop = absurd stop

      -- a run with hosts, which are those that the line's runs are with
      module _ {G : Type 0} (n : HostModule G) (gs : List G)
          (jobs : (m : Contents) → old.files.told ≡ Some m → (job : Job) → IsTextsJob line (symbols_of (hosts_of n gs)) texts text job
          → IsJobWith hm hosts words m job)
          (with_hosts : (m : Contents) → old.files.told ≡ Some m → (P : (K : Type 0) → HostModule K → List K → Type 0) → P G n gs
          → WithHosts hm hosts line.replayed m P) where
        run_ran : (status : ℕ) → IsTextsRun n gs line texts text (λ units calls. HasPlayed n gs line units calls Mid new status)
            → (m : Contents) → old.files.told ≡ Some m → Ran hm hosts words m old new status
        run_ran status (units, calls, job, played) m tells =
            let done = with_hosts m tells (λ K k ks. HasPlayed k ks line units calls old new status)
            (record { run = played.run; written = rw told at played.written }) in
            (line, units, calls, is, jobs m tells _ job, done)

        part_from : (units : List (List tree.Item)) (calls : List SymbolCall) → HasPlayedPart n gs line units calls Mid new
            → HasPlayedPart n gs line units calls old new
        part_from units calls (inl (part, files)) = inl (part, files ∙ told)
        part_from units calls (inr j) =
            inr (record { status = j.status; run = j.run; name = j.name; named = j.named; begun = rw told at j.begun })

        run_part : IsTextsPart n gs line texts text Mid new → (m : Contents) → old.files.told ≡ Some m → RanPart hm hosts words m old new
        run_part (units, calls, job, part) m tells =
            let begun = with_hosts m tells (λ K k ks. HasPlayedPart k ks line units calls old new) (part_from units calls part) in
            (line, units, calls, is, jobs m tells _ job, begun)

        run_stop : middle.current ≡ old.files.current → middle.write_faults ≡ old.files.write_faults → (why : Reason)
            → StopsRun n gs line texts text Mid new why → StopsWork hm hosts words old new why
        run_stop current writes (Refused file why) (stop, same) =
            ((unit_file file (one_at line.units stop.0 file stop.1), λ m tells. jobs m tells _ stop), untouched_from current same)
        run_stop current writes (CallsLine number) (stop, same) =
            ((has_reading, λ m tells. jobs m tells _ stop), untouched_from current same)
        run_stop current writes Unwritten (unwritten, part) = (cause unwritten, has_reading, λ m tells. inl (run_part part m tells))
          where
            cause : IsRunUnwritten line Mid new → IsUnwritten words old new
            cause (inl rose) = inl rose
            cause (inr (file, named, faulted)) =
                let later = subst (λ w. Faulted file w new.files.write_faults new.files.fault_name) writes faulted in
                inr (file, subst (IsToWrite file) (sym is) named, later)
        run_stop current writes WantOfMemory (inl same) = λ m tells. inl (untouched_from current same)
        run_stop current writes WantOfMemory (inr part) = λ m tells. inr (inl (run_part part m tells))
        run_stop current writes _ stop = absurd stop

      -- the hosts that were handed in
      module _ (none : line.replayed ≡ None) where
        handed_job : (m : Contents) → old.files.told ≡ Some m → (job : Job)
            → IsTextsJob line (symbols_of (hosts_of hm hosts)) texts text job → IsJobWith hm hosts words m job
        handed_job m tells job of = texts_job m tells job (rw none of)

        with_handed : (m : Contents) → old.files.told ≡ Some m → (P : (K : Type 0) → HostModule K → List K → Type 0) → P H hm hosts
            → WithHosts hm hosts line.replayed m P
        with_handed m tells P of = subst (λ o. WithHosts hm hosts o m P) (sym none) of

        pub handed_ran : (status : ℕ)
            → IsTextsRun hm hosts line texts text (λ units calls. HasPlayed hm hosts line units calls Mid new status)
            → (m : Contents) → old.files.told ≡ Some m → Ran hm hosts words m old new status
        handed_ran = run_ran hm hosts handed_job with_handed

        pub handed_stop : middle.current ≡ old.files.current → middle.write_faults ≡ old.files.write_faults → (why : Reason)
            → StopsRun hm hosts line texts text Mid new why → StopsWork hm hosts words old new why
        handed_stop = run_stop hm hosts handed_job with_handed

      -- hosts that reply again what the journal says
      module _ (name : Name) (named : line.replayed ≡ Some name) (replays : List ReplayHost)
          (held : Tells old.files.told (λ m. (j : Recorded) × HoldsJournal m name j × AreReplays j replays)) where
        replayed_job : (m : Contents) → old.files.told ≡ Some m → (job : Job)
            → IsTextsJob line (symbols_of (hosts_of replaying replays)) texts text job → IsJobWith hm hosts words m job
        replayed_job m tells job of =
            let (j, holds, are) = held m tells in
            replay_job name named m tells (Held holds.0) holds.1 job
            (inl (j, holds.2, subst (λ hs. IsTextsJob line (symbols_of hs) texts text job) (hosts_same j replays are) of))

        with_replays : (m : Contents) → old.files.told ≡ Some m → (P : (K : Type 0) → HostModule K → List K → Type 0)
            → P ReplayHost replaying replays → WithHosts hm hosts line.replayed m P
        with_replays m tells P of =
            let (j, holds, are) = held m tells in subst (λ o. WithHosts hm hosts o m P) (sym named) (j, replays, holds, are, of)

        pub replayed_ran : (status : ℕ)
            → IsTextsRun replaying replays line texts text (λ units calls. HasPlayed replaying replays line units calls Mid new status)
            → (m : Contents) → old.files.told ≡ Some m → Ran hm hosts words m old new status
        replayed_ran = run_ran replaying replays replayed_job with_replays

        pub replayed_run_stop : middle.current ≡ old.files.current → middle.write_faults ≡ old.files.write_faults → (why : Reason)
            → StopsRun replaying replays line texts text Mid new why → StopsWork hm hosts words old new why
        replayed_run_stop = run_stop replaying replays replayed_job with_replays
