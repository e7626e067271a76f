-- One image that is sound: MOV eax, 60 and two NOP, of which the MOV is displaced under cover. Worked examples alone cite it.
use Rattle.std.specs.Prelude.{ℕ, true, false, List, [], ◌∷◌, ◌++◌, replicate, Some, None}
use Rattle.pun_base.specs.Memory.{Bytes, joined}
use Rattle.pun_base.specs.declared.action.Action.TheVariants.{Cover}
use Rattle.pun_base.specs.declared.scheme.Scheme.TheVariants.{B1}
use Rattle.length_decode.specs.declared.escape_bytes.Escape.TheVariants.{OneByte}
use Rattle.length_decode.specs.Spelling.{Fields, spelling}
use Rattle.insn_form.specs.Instruction.{insn_of}
use Rattle.insn_form.specs.Machine.{Machine}
use Rattle.insn_form.specs.Step.{Step}
use Rattle.relocate_insn.specs.Pieces.{jump_code}
use Rattle.relocate_insn.specs.Worked.{spread}
use Rattle.trampoline.specs.Worked.{mov_sixty, no_flags, sixty_code}
use Rattle.start_entries.specs.declared.entry.StartEntry.{StartEntry}
use Rattle.start_entries.specs.Rows.{mov_nop_nop}
use Rattle.start_entries.specs.Standing.{AreEntries}
use Rattle.patch_report.specs.Values.{BodyValue, patched}
use Rattle.patch_report.specs.Grammar.{IsTold}
use Rattle.image_runs.specs.Quiet.{IsQuiet, IsStartPair}
use Rattle.sound_images.specs.Rules.{Case, IsSound}

-- 90: NOP
abbrev pub nop : Fields
nop = record {
  prefixes = [];
  escape = OneByte;
  opcode = 0x90;
  modrm = None;
  sib = None;
  disp = [];
  imm = [];
}

-- The jump to the trampoline, and the two NOP.
abbrev pub patched_bytes : List ℕ
patched_bytes = jump_code 0x401000 0x21000 ++ (0x90 ∷ 0x90 ∷ [])

-- The text alone, R-X.
abbrev pub original_image : Bytes
original_image = spread 0x401000 0x401007 5 mov_nop_nop

-- The text, the private range, and the trampoline's page.
abbrev pub patched_image : Bytes
patched_image =
    joined (spread 0x401000 0x401007 5 patched_bytes)
    (joined (spread 0x20000 0x21000 6 []) (spread 0x21000 0x22000 5 sixty_code))

-- The MOV and the two NOP.
abbrev pub entries : List StartEntry
entries =
    record { addr = 0x401000; len = 5; form = Some (insn_of mov_sixty); shared = false }
    ∷ record { addr = 0x401005; len = 1; form = Some (insn_of nop); shared = false }
    ∷ record { addr = 0x401006; len = 1; form = Some (insn_of nop); shared = false } ∷ []

-- The MOV is a site, patched by B1.
abbrev pub report : BodyValue
report = record {
  action = Cover;
  private = (0x20000, 0x21000);
  rows = record {
    site = 0x401000;
    number = 0;
    outcome = patched (record {
      scheme = B1;
      tramps = record { place = 0x21000; start = 0x401000; event = true } ∷ [];
      writes = record {
        addr = 0x401000;
        was = spelling mov_sixty;
        now = jump_code 0x401000 0x21000;
      } ∷ [];
      puns = [];
    });
  } ∷ [];
  pages = (0x21000, 0) ∷ [];
}

-- What is checked: both images, the entries and the report.
abbrev pub one_mov : Case
one_mov = record {
  original = original_image;
  patched = patched_image;
  entry = 0x401000;
  patched_entry = 0x401000;
  listed = entries;
  report = report;
}

-- A state with a number in rax and zeros in the other registers.
abbrev pub state_at : Bytes → ℕ → ℕ → Machine
state_at m rax rip =
    record {
      core = record { regs = rax ∷ replicate 15 0; flags = no_flags; fs = 0; gs = 0 };
      rip = rip;
      mem = m;
      world = [];
    }

-- The premises of the theorem are met: by the entries, the report and the images, by a start pair,
-- and by a quiet run of two steps.
pub record OneMovIsSound : Type 0 where
  pub listed : AreEntries original_image entries
  pub told : IsTold report
  pub sound : IsSound one_mov
  pub pair : IsStartPair original_image patched_image 0x401000
      (state_at original_image 7 0x401000) (state_at patched_image 7 0x401000)
  pub quiet : IsQuiet Step entries (state_at original_image 7 0x401000)
      (state_at original_image 60 0x401005 ∷ state_at original_image 60 0x401006 ∷ [])
