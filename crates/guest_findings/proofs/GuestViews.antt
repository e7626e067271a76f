-- What the last states of a guest and of its patched file show.
use Rattle.std.proofs.Common.{◌≡◌, ℕ, ◌+◌, ◌<◌, ◌≤◌, true, Some, List, refl, sym, ap, ◌∙◌, subst, arith}
use Rattle.pun_base.specs.Memory.{Bytes}
use Rattle.cpu_state.specs.declared.script.Script.{Script}
use Rattle.cpu_state.specs.Bytes.{allows}
use Rattle.elf_read.specs.Image.{image_of}
use Rattle.insn_form.specs.Machine.{Machine}
use Rattle.insn_form.specs.Runs.{last_of}
use Rattle.start_entries.proofs.ImageEntries.{built_are_entries}
use Rattle.image_runs.specs.Starting.{start_machine}
use Rattle.sound_images.specs.Rewriting.{Rewriting, shown}
use Rattle.sound_images.specs.Soundness.{rewriting_of}
use Rattle.guest_gen.specs.Files.{guest_file}
use Rattle.guest_gen.specs.Instructions.{data_start}
use Rattle.guest_gen.specs.Starting.{start_memory}
use Rattle.guest_gen.specs.Texts.{guest_starts, guest_text}
use Rattle.guest_gen.proofs.StartStates.{data_allows}
use Rattle.guest_gen.proofs.StartsAndSites.{guests_listed}
use Rattle.guest_gen.proofs.GuestImages.{image-file}
use Rattle.guest_gen.proofs.TextSizes.{text_size}
use Rattle.rewrite_core.specs.Judging.{Job}
use Rattle.rewrite_core.specs.Rewrites.{file_of}
use Rattle.guest_findings.specs.Findings.{guest_case}
use Rattle.guest_findings.proofs.GuestRuns.{GuestRan}
use Rattle.guest_findings.specs.SeenAlike.{SeenAlike}
use Rattle.guest_findings.specs.Tallies.{Tally}
use Rattle.command_words.specs.Words.{most_blocks}
use Rattle.guest_findings.proofs.GuestCells.{CellAt, start_cell}
use Rattle.guest_findings.proofs.LastStates.{ArePaired, alike_last, last_alike, quiet_last}

-- the image of a guest's file
guest_image : (seed blocks : ℕ) → blocks ≤ most_blocks → image_of (guest_file seed blocks) ≡ start_memory (guest_text seed blocks)
guest_image seed blocks most = let size = text_size seed blocks in image-file (guest_text seed blocks) size.0 (omega arith)

-- a byte of its page of data
guest_page : (seed blocks p x : ℕ) → blocks ≤ most_blocks → data_start ≤ x → x < data_start + 0x1000
    → allows p (Some (record { byte = 0; perms = 6 })) ≡ true → allows p (image_of (guest_file seed blocks) x) ≡ true
guest_page seed blocks p x most low high a =
    let size = text_size seed blocks in
    ap (λ (m : Bytes). allows p (m x)) (guest_image seed blocks most) ∙ data_allows p (guest_text seed blocks) x (omega arith) low high a

-- a guest that ran
guest_paired : (seed blocks : ℕ) (j : Job) (script : Script) (original : Tally) (states : List Machine)
    → GuestRan seed blocks j script original states
    → ArePaired (guest_file seed blocks) (guest_starts seed blocks) (file_of j) j.report script
guest_paired seed blocks j script original states g = record {
  entries = built_are_entries 0x20000 (guest_file seed blocks) (guest_starts seed blocks) (record {
    accepted = g.judged.0.accepted;
    ascending = (guests_listed seed blocks g.some g.most).starts_ascend;
    none = g.judged.0.none;
  });
  followed = g.followed;
  is_script = g.is_script;
  nothing = g.answers.nothing;
  cells = λ x. subst (λ (m : Bytes). CellAt x (m x)) (sym (guest_image seed blocks g.most)) (start_cell (guest_text seed blocks) x);
  page = λ x low high. (guest_page seed blocks 4 x g.most low high refl, guest_page seed blocks 2 x g.most low high refl);
}

module _ (seed blocks : ℕ) (j : Job) (script : Script) (original : Tally) (states : List Machine)
    (g : GuestRan seed blocks j script original states) where
  -- what was rewritten
  abbrev R : Rewriting
  R = rewriting_of (guest_case seed blocks (file_of j) j.report)

  -- the patched file's last state
  abbrev U : Machine
  U = last_of (start_machine (file_of j) script) states

  -- last states that are alike show the same
  pub alike_shown : SeenAlike U original.last → shown R U ≡ shown R original.last
  alike_shown h =
      alike_last (guest_file seed blocks) (guest_starts seed blocks) (file_of j) j.report script
      (guest_paired seed blocks j script original states g) original states g.runs.original g.runs.patched h

  -- last states that show the same are alike
  pub shown_alike : shown R U ≡ shown R original.last → SeenAlike U original.last
  shown_alike e =
      last_alike (guest_file seed blocks) (guest_starts seed blocks) (file_of j) j.report script
      (guest_paired seed blocks j script original states g) original states g.runs.original g.runs.patched e

  -- after a quiet run of the original they show the same
  pub quiet_alike : original.quiet ≡ true → shown R U ≡ shown R original.last
  quiet_alike h =
      quiet_last (guest_file seed blocks) (guest_starts seed blocks) (file_of j) j.report script
      (guest_paired seed blocks j script original states g) original states g.runs.original g.runs.patched h
