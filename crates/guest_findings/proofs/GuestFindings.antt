-- What is found of a guest is true of the guest of its seed.
use Rattle.std.proofs.Common.{◌≡◌, ◌↔◌, ℕ, ◌≤◌, true, List, length, refl, sym, ap, ◌∙◌, subst}
use Rattle.cpu_state.specs.declared.script.Script.{Script}
use Rattle.elf_read.specs.Entries.{segments}
use Rattle.insn_form.specs.Machine.{Machine}
use Rattle.insn_form.specs.Runs.{last_of}
use Rattle.patch_report.specs.Values.{ReportValue}
use Rattle.image_runs.specs.Starting.{start_machine}
use Rattle.sound_images.specs.Rules.{Case, IsSound}
use Rattle.sound_images.specs.Cases.{case_of}
use Rattle.image_check.specs.Verdict.{IsVerdict}
use Rattle.image_check.specs.declared.verdict.Verdict.{Verdict}
use Rattle.image_check.specs.declared.verdict.Verdict.TheVariants.{Yes, No}
use Rattle.rewrite_core.specs.Judging.{Job}
use Rattle.rewrite_core.specs.Rewrites.{file_of}
use Rattle.rewrite_core.specs.Followed.{IsFollowed}
use Rattle.guest_gen.specs.Files.{guest_file}
use Rattle.guest_gen.specs.Texts.{guest_starts, guest_sites}
use Rattle.guest_gen.specs.Views.{GuestParts}
use Rattle.guest_gen.specs.Worlds.{AnswersRun, IsGuestScript}
use Rattle.guest_gen.proofs.StartsAndSites.{guests_listed}
use Rattle.guest_findings.specs.Findings.{guest_listed, guest_case, RunsUntil, counters, AreRuns, AreFindings, most_guest_steps, most_patched_steps}
use Rattle.guest_findings.specs.Tallies.{Tally}
use Rattle.guest_findings.specs.SeenAlike.{SeenAlike}
use Rattle.guest_findings.specs.Generating.{IsReady, IsFound, findings_of}
use Rattle.guest_findings.proofs.GuestRuns.{GuestRan}
use Rattle.guest_findings.specs.declared.guest_findings.Found.{Found}
use Rattle.command_words.specs.Words.{most_blocks}
use Rattle.guest_findings.proofs.GuestStarts.{guest_starts_stand}
use Rattle.guest_findings.proofs.GuestAcceptance.{no_guest_refused, guest_out_accepted, guest_entries}
use Rattle.guest_findings.proofs.GuestViews.{alike_shown, shown_alike, quiet_alike}

-- ---- the guest of a seed

-- Its parts, with a script.
abbrev pub parts_of : ℕ → ℕ → Script → GuestParts
parts_of seed blocks script = record {
  file = guest_file seed blocks;
  starts = guest_starts seed blocks;
  sites = guest_sites seed blocks;
  script = script;
}

-- What was made is the guest of a seed.
pub record IsMade (seed blocks : ℕ) (g : GuestParts) : Type 0 where
  pub some : 1 ≤ blocks
  pub most : blocks ≤ most_blocks
  pub file : g.file ≡ guest_file seed blocks
  pub starts : g.starts ≡ guest_starts seed blocks
  pub sites : g.sites ≡ guest_sites seed blocks
  pub is_script : IsGuestScript g.script
  pub answers : AnswersRun most_guest_steps g.file g.script

-- What has the parts of a seed's guest was made as that guest.
pub is_made : (seed blocks : ℕ) (g : GuestParts) → 1 ≤ blocks → blocks ≤ most_blocks → g.file ≡ guest_file seed blocks
    → g.starts ≡ guest_starts seed blocks → g.sites ≡ guest_sites seed blocks → IsGuestScript g.script
    → AnswersRun most_guest_steps g.file g.script → IsMade seed blocks g
is_made seed blocks g n m f st si s a =
    record { some = n; most = m; file = f; starts = st; sites = si; is_script = s; answers = a }

-- so it has these parts
made_parts : (seed blocks : ℕ) (g : GuestParts) → IsMade seed blocks g → parts_of seed blocks g.script ≡ g
made_parts seed blocks g m = λ i. record { file = sym m.file i; starts = sym m.starts i; sites = sym m.sites i; script = g.script }

-- it can be patched and run
ready : (seed blocks : ℕ) (script : Script) → 1 ≤ blocks → blocks ≤ most_blocks → IsGuestScript script
    → IsReady (parts_of seed blocks script)
ready seed blocks script some most is =
    let l = guests_listed seed blocks some most in
    record {
      starts_ascend = l.starts_ascend;
      sites_ascend = l.sites_ascend;
      few_sites = l.few;
      stands = guest_starts_stand seed blocks some most;
      unrefused = no_guest_refused seed blocks some most;
      accepted = guest_out_accepted seed blocks some most;
      bare = is.regions;
    }

-- what was made as a guest is ready to be planned for
pub made_ready : (seed blocks : ℕ) (g : GuestParts) → IsMade seed blocks g → IsReady g
made_ready seed blocks g m = subst IsReady (made_parts seed blocks g m) (ready seed blocks g.script m.some m.most m.is_script)

-- ---- what is found

-- no rule fails in a sound image
yes_of : (c : Case) (v : Verdict) → IsSound c → IsVerdict c v → v ≡ Yes
yes_of c Yes s h = refl
yes_of c (No addr rule) s h = absurd (s rule addr h.fails)

module _ (seed blocks : ℕ) (script : Script) (some : 1 ≤ blocks) (most : blocks ≤ most_blocks) (is_script : IsGuestScript script)
    (answers : AnswersRun most_guest_steps (guest_file seed blocks) script) (f : Found) (x : IsFound (parts_of seed blocks script) f) where
  -- its job
  abbrev job : Job
  job = x.patch.job

  -- the tally of its run
  abbrev tally : Tally
  tally = x.runs.original

  -- the states of its patched file's
  abbrev states : List Machine
  states = x.runs.states

  -- and the last of them
  abbrev last_in : List ℕ → Machine
  last_in out = last_of (start_machine out script) states

  -- the patched file follows it
  followed : IsFollowed (guest_file seed blocks) (guest_starts seed blocks) (file_of job) job.report
  followed =
      subst (λ (y : List ℕ × ReportValue). IsFollowed (guest_file seed blocks) (guest_starts seed blocks) y.0 y.1)
      (λ i. (x.patch.out_is i, x.patch.report_is i)) x.patch.followed

  -- the verdict is true of the job's file and report
  judged : IsVerdict (guest_case seed blocks (file_of job) job.report) f.verdict
  judged =
      subst (λ (c : Case). IsVerdict c f.verdict)
      (λ i. case_of (guest_file seed blocks) (x.patch.out_is i) (guest_listed seed blocks) (x.patch.report_is i).body) x.verdict

  -- both ran
  ran : AreRuns seed blocks (file_of job) script tally states
  ran = record {
    original = x.runs.tallied;
    patched = subst
        (λ (out : List ℕ). RunsUntil (guest_listed seed blocks) tally.outside most_patched_steps (start_machine out script) states)
        x.patch.out_is x.runs.until;
  }

  -- and their last states are compared
  alike : (f.runs.agree ≡ true) ↔ SeenAlike (last_in (file_of job)) tally.last
  alike = subst (λ (out : List ℕ). (f.runs.agree ≡ true) ↔ SeenAlike (last_in out) tally.last) x.patch.out_is x.runs.agree

  -- all that is known of the runs
  guest_ran : GuestRan seed blocks job script tally states
  guest_ran = record {
    some = some;
    most = most;
    judged = x.patch.judged;
    followed = followed;
    is_script = is_script;
    answers = answers;
    runs = ran;
  }

  -- all of it is true
  findings_are : AreFindings seed blocks (findings_of f)
  findings_are = record {
    job = job;
    patched = record {
      judged = x.patch.judged;
      rows = ap (λ (r : ReportValue). r.body.rows) x.patch.report_is;
      entries = x.entries ∙ ap (λ (out : List ℕ). length (segments out)) x.patch.out_is
          ∙ guest_entries seed blocks some most job x.patch.judged;
      verdict = judged;
    };
    ran = record {
      script = script;
      is_script = is_script;
      answers = answers;
      tally = tally;
      states = states;
      runs = ran;
      last = last_in (file_of job);
      last_is = refl;
      steps = x.runs.steps;
      patched_steps = x.runs.patched_steps;
      events = x.runs.events
          ∙ (λ i. counters (last_in (x.patch.out_is i)) ((x.patch.report_is i).body.private.0) (length (guest_sites seed blocks)));
      quiet = x.runs.quiet;
      agree = (
        λ h. alike_shown seed blocks job script tally states guest_ran (alike.0 h),
        λ e. alike.1 (shown_alike seed blocks job script tally states guest_ran e),
      );
    };
    sound = yes_of (guest_case seed blocks (file_of job) job.report) f.verdict followed.sound judged;
    quiet_agree = λ q.
        alike.1 (shown_alike seed blocks job script tally states guest_ran
        (quiet_alike seed blocks job script tally states guest_ran (sym x.runs.quiet ∙ q)));
  }

-- what is found of a guest that was made
pub findings_true : (seed blocks : ℕ) (g : GuestParts) (f : Found) → IsMade seed blocks g → IsFound g f
    → AreFindings seed blocks (findings_of f)
findings_true seed blocks g f m x =
    let answers = subst (λ (file : List ℕ). AnswersRun most_guest_steps file g.script) m.file m.answers in
    let found = subst (λ (h : GuestParts). IsFound h f) (sym (made_parts seed blocks g m)) x in
    findings_are seed blocks g.script m.some m.most m.is_script answers f found
