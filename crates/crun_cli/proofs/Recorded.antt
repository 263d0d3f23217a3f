-- The journal of a run, which a file takes.
use Rattle.crun_cli.proofs.Common.{◌≡◌, ℕ, Bool, true, List, [], ◌++◌, map, Some, None, Option, sym, ap, ◌∙◌, append-nil, list_all}
use Rattle.crun_cli.proofs.Common.{SymbolCall, lines_of, hosts_of, ask_of, HostModule, Asked, fits, run_with, Recorded, JournalFile}
use Rattle.crun_cli.proofs.Common.{AreToFill, HasPartLeaving, HasTaken, IsBlank, IsFilled, HasRun}
use Rattle.c_tree.specs.Tree as tree
use Rattle.host_replay.proofs.Fits.{answered_fit}
use Rattle.crun_cli.proofs.Lines.{asks_are}

-- calls that fit the hosts can be taken by a file that has their modules
pub to_fill : {H : Type 0} (m : HostModule H) (hosts : List H) (file : Option JournalFile) (asks : List Asked) → IsBlank m hosts file
    → list_all (fits (hosts_of m hosts)) asks ≡ true → AreToFill file asks
to_fill m hosts None asks blank fit = tt
to_fill m hosts (Some file) asks blank fit = ap (λ (j : Recorded). list_all (fits j.hosts) asks) blank ∙ fit

pub is_filled : {H : Type 0} (m : HostModule H) (hosts : List H) (file filled : Option JournalFile) (asks : List Asked)
    → IsBlank m hosts file → HasTaken file asks filled → IsFilled m hosts asks file filled
is_filled m hosts (Some file) (Some filled) asks blank taken =
    taken ∙ ap (λ (j : Recorded). record { hosts = j.hosts; entries = j.entries ++ asks }) blank
is_filled m hosts _ _ asks blank taken = taken

module _ {H : Type 0} (m : HostModule H) (hosts : List H) (units : List (List tree.Item)) (calls : List SymbolCall) (steps : ℕ)
    (shown : Bool) (old new : Option (List ℕ)) (status : ℕ) where
  -- what was asked fits the hosts' functions
  pub asks_fit : (run : HasRun m hosts units calls steps shown old new status) → list_all (fits (hosts_of m hosts)) run.asks ≡ true
  asks_fit run = answered_fit m hosts units calls steps run.asks (record { after = run.after; answered = run.answered; told = run.told })

  -- a whole run is a part of it, and leaves the same hosts
  pub part_leaving : (run : HasRun m hosts units calls steps shown old new status) (left : List H) → run.after ≡ left
      → HasPartLeaving m hosts units calls steps shown old new left
  part_leaving run left is = record {
    part = record {
      asks = run.asks;
      after = run.after;
      answered = run.answered;
      more = [];
      first = asks_are (run_with m hosts units calls steps run.asks).events run.asks run.told ∙ sym (append-nil (map ask_of run.asks));
      part = (lines, ([], sym (append-nil lines)), run.lines);
    };
    hosts_are = is;
  }
    where
      lines : List ℕ
      lines = lines_of (hosts_of m hosts) shown (run_with m hosts units calls steps run.asks)
