-- Each run of a guest is one that is watched. Theorems cite it.
use Rattle.std.specs.Prelude.{◌≡◌, ℕ, List, map}
use Rattle.thread_runs.specs.Guest.{Guest, IsInterleaved}
use Rattle.thread_runs.specs.Threading.{Threading}
use Rattle.thread_runs.specs.Watching.{Watch, guest_of, watch_of}
use Rattle.thread_runs.specs.Theorem.{IsWatched}

-- watching adds nothing: the guests of a run over a schedule are those of a watched one
abbrev pub EachRunIsWatched : Type 0
EachRunIsWatched = (r : Threading) (schedule : List ℕ) (g : Guest) (gs : List Guest) → IsInterleaved schedule g gs
    → (ws : List Watch) × IsWatched r schedule (watch_of g) ws × (map guest_of ws ≡ gs)
