-- What was patched for threads, as a report tells it, and that a sound image runs with threads as the original does. Theorems cite it.
use Rattle.std.specs.Prelude.{◌≡◌, flat_map}
use Rattle.start_entries.specs.Standing.{AreEntries}
use Rattle.patch_report.specs.Grammar.{IsTold}
use Rattle.sound_images.specs.Reports.{lines}
use Rattle.sound_images.specs.Rules.{Case}
use Rattle.thread_runs.specs.Theorem.{AreFollowed, GetOut}
use Rattle.thread_runs.specs.TheoremWithDeliveries.{AreFollowedWith, GetOutWith}
use Rattle.thread_runs.specs.Building.{kind_of}
use Rattle.thread_runs.specs.Threading.{Threading, ring_of, IsThreadSound}
use Rattle.guest_threads.specs.FromTurns.{site_of}
use Rattle.thread_check.specs.ThreadRules.{IsThreadCaseSound}

-- What a case says was patched for threads: one site for each trampoline of its report.
abbrev pub threading_of : Case → Threading
threading_of c = record {
  original = c.original;
  patched = c.patched;
  entry = c.entry;
  listed = c.listed;
  sites = flat_map (site_of c.report.action c.listed) (lines c.report);
  private = c.report.private.0;
  ring = ring_of (kind_of c.report.action);
}

-- The patched file starts where the original does, and runs with any number of threads as the
-- original does, and counts or covers, under a condition where the report tells one, or keeps a ring, with deliveries and without.
pub record IsThreadCaseFollowed (c : Case) : Type 0 where
  pub entry : c.patched_entry ≡ c.entry
  pub sound : IsThreadSound (threading_of c)
  pub followed : AreFollowed (threading_of c)
  pub out : GetOut (threading_of c)
  pub followed_with : AreFollowedWith (threading_of c)
  pub out_with : GetOutWith (threading_of c)

-- Where no rule fails anywhere, the patched image is followed: for entries of the original's image,
-- and a report that a text spells.
abbrev pub ThreadCaseIsFollowed : Type 0
ThreadCaseIsFollowed = (c : Case) → AreEntries c.original c.listed → IsTold c.report → IsThreadCaseSound c → IsThreadCaseFollowed c
