-- A run whose journal was written, and that is replayed: it comes to the same status, the same lines and the same journal.
use Rattle.std.specs.Prelude.{◌≡◌, ◌≤◌, ℕ, List, length, map, Some}
use Rattle.std.specs.FinMap.{get}
use Rattle.w2c_io.specs.Contents.{Name, Contents, extended, holding}
use Rattle.c_hosts.specs.declared.host.HostModule.{Ghosts as HostModule}
use Rattle.crun_words.specs.CommandLine.{RunLine, line_of, runs}
use Rattle.crun_words.specs.Inputs.{most_journal_bytes}
use Rattle.crun_cli.specs.Ends.{IsAnswered, Ran}
use Rattle.crun_cli.specs.Outside.{Outside}

-- a line asks for the run of another: of the same units with the same calls, by the bytes of their files, the same number of
-- statements, and the state where the other shows it
pub record AsksAgain (line again : RunLine) (contents contents' : Contents) : Type 0 where
  pub steps : again.steps ≡ line.steps
  pub shows_state : again.shows_state ≡ line.shows_state
  pub units : map (get contents') again.units ≡ map (get contents) line.units
  pub calls : get contents' again.calls ≡ get contents line.calls

-- and it replays the journal that the other has left, whose text is no longer than a journal's may be
pub record ReplaysJournal (line again : RunLine) (left contents' : Contents) (text : List ℕ) : Type 0 where
  pub name : Name
  pub from : Name
  pub written : line.journal ≡ Some name
  pub replayed : again.replayed ≡ Some from
  pub left_is : get left name ≡ Some text
  pub read_is : get contents' from ≡ Some text
  pub short : length text ≤ most_journal_bytes

-- the stream has gained the same lines
pub record GainsTheSame (old new old' new' : Outside) : Type 0 where
  pub gained : List ℕ
  pub first : new.out.told ≡ extended old.out.told gained
  pub second : new'.out.told ≡ extended old'.out.told gained

-- what a run comes to that asks again
pub record IsTheSame {H : Type 0} (m : HostModule H) (hosts : List H) (words : List Name) (again : RunLine) (contents' : Contents)
    (text : List ℕ) (old new : Outside) (status : ℕ) : Type 0 where
  pub answered : (other : ℕ) → IsAnswered m hosts words contents' other → other ≡ status
  pub status_is : (old' new' : Outside) (other : ℕ) → Ran m hosts words contents' old' new' other → other ≡ status
  pub lines : (old' new' : Outside) (other : ℕ) → Ran m hosts words contents' old' new' other → GainsTheSame old new old' new'
  pub journal : (old' new' : Outside) (other : ℕ) (to : Name) → Ran m hosts words contents' old' new' other → again.journal ≡ Some to
      → new'.files.told ≡ holding old'.files.told to text

-- each run that asks again for this one, with any hosts handed in
abbrev pub RunsAgain : {H : Type 0} → HostModule H → List Name → Contents → Contents → Outside → Outside → ℕ → Type 0
RunsAgain {H} m words contents left old new status =
    (line again : RunLine) (words' : List Name) (contents' : Contents) (hosts : List H) (text : List ℕ)
    → line_of words ≡ Some (runs line) → line_of words' ≡ Some (runs again)
    → AsksAgain line again contents contents' → ReplaysJournal line again left contents' text
    → IsTheSame m hosts words' again contents' text old new status
