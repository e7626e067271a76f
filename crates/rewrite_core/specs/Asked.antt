-- What `rewrite` is asked. Theorems cite it.
use Rattle.std.specs.Prelude.{ℕ, ◌<◌, ◌≤◌, List, length, slice_index}
use Rattle.std.specs.List.Sorted.{IsStrictlyIncreasing}
use Rattle.pun_base.specs.declared.action.Action.{Action}
use Rattle.pun_base.specs.declared.range.Range.{Range}
use Rattle.pun_base.specs.Limits.{most_sites}
use Rattle.start_entries.specs.Entries.{entries_of}
use Rattle.site_turns.specs.Planning.{Request}

-- What a rewriting is asked: a file, its starts, the sites among them, the action, and the ranges
-- that are reserved.
pub record Asked : Type 0 where
  pub file : List ℕ
  pub starts : List ℕ
  pub sites : List ℕ
  pub action : Action
  pub reserves : List Range

-- What is asked is in order: the file is bytes, starts and sites ascend, and there are at most
-- 65,536 sites.
pub record IsInOrder (a : Asked) : Type 0 where
  pub bytes : (k : ℕ) → slice_index a.file k < 256
  pub starts : IsStrictlyIncreasing a.starts
  pub sites : IsStrictlyIncreasing a.sites
  pub few : length a.sites ≤ most_sites

-- The request for the turns: what is asked, with the entries of the starts in place of the starts.
abbrev pub request_of : Asked → Request
request_of a = record {
  file = a.file;
  listed = entries_of a.file a.starts;
  sites = a.sites;
  action = a.action;
  reserves = a.reserves;
}
