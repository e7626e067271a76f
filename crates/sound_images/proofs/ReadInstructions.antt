-- The instruction that stands at a listed start.
use Rattle.std.proofs.Common.{◌≡◌, ℕ, suc, ◌+◌, ◌^◌, ◌<◌, ◌≤◌, true, List, [], ◌∷◌, length, take, slice_index, Some, None, is_some, refl, sym, ap, ◌∙◌, subst, arith}
use Rattle.std.specs.Prelude.{◌==◌, option_map}
use Rattle.std.specs.List.{AllByRecursion}
use Rattle.std.proofs.lemmas.Bool.{eqb-true}
use Rattle.std.proofs.lemmas.List.{get_or_append_left}
use Rattle.pun_base.specs.Memory.{Cell}
use Rattle.cpu_state.specs.Bytes.{advanced, allows, byte_of, Stands}
use Rattle.elf_read.specs.Code.{window}
use Rattle.elf_read.specs.Image.{image_of}
use Rattle.elf_read.specs.Laws.{IsCodeAt}
use Rattle.elf_read.specs.Refusals.{refusal}
use Rattle.elf_read.proofs.LoadedCode.{window_is_loaded}
use Rattle.length_decode.specs.Spelling.{Fields, IsInstruction, spelling}
use Rattle.insn_form.specs.declared.form.Insn.{Insn}
use Rattle.insn_form.specs.Instruction.{insn_of}
use Rattle.start_entries.specs.declared.entry.StartEntry.{StartEntry}
use Rattle.start_entries.specs.Finding.{addresses, entry_at}
use Rattle.start_entries.specs.Laws.{AreStarts, IsBuilt, IsOneInstruction}
use Rattle.start_entries.specs.Standing.{IsEntry, AreEntries}
use Rattle.start_entries.proofs.ImageEntries.{built_are_entries, executes}
use Rattle.insn_form.proofs.SpelledFronts.{front_len, front_taken, front_within}
use Rattle.start_entries.proofs.StandingInstructions.{all_instructions}
use Rattle.patch_report.proofs.ListPlaces.{contains_at, finds, all_in}

-- bytes of code, one after the other, stand
code_stands : (file : List ℕ) (a : ℕ) (bs : List ℕ) → a + length bs < 2 ^ 64
    → ((k : ℕ) → k < length bs → IsCodeAt file (a + k) (slice_index bs k)) → Stands (image_of file) a bs
code_stands file a [] l h = tt
code_stands file a (b ∷ bs) l h =
    let z : a + 0 ≡ a = omega arith in
    let n : a + 1 ≡ advanced a 1 = omega arith in
    let f : IsCodeAt file a b = subst (λ (y : ℕ). IsCodeAt file y b) z (h 0 (omega arith)) in
    let rest = code_stands file (a + 1) bs (omega arith) (λ k j. let e : a + suc k ≡ a + 1 + k = omega arith in subst
    (λ (y : ℕ). IsCodeAt file y (slice_index bs k)) e (h (suc k) (omega arith))) in
    (ap (allows 1) f.1 ∙ executes b f.0 f.2, ap byte_of f.1, subst (λ (y : ℕ). Stands (image_of file) y bs) n rest)

-- at an entry stands the instruction of its form, whose bytes are the first of the window
pub record IsReadAt (file : List ℕ) (e : StartEntry) (i : Insn) : Type 0 where
  pub fields : Fields
  pub is : IsInstruction fields
  pub bytes : take e.len (window file e.addr) ≡ spelling fields
  pub size : length (spelling fields) ≡ e.len
  pub within : e.len ≤ length (window file e.addr)
  pub insn : i ≡ insn_of fields
  pub stands : Stands (image_of file) e.addr (spelling fields)
  pub low : e.addr + e.len ≤ 0x7FFF0000

-- equal options hold equal instructions
insn_is : (i j : Insn) → Some i ≡ Some j → i ≡ j
insn_is i j e = cc

-- what an entry of the image tells as one instruction of the file is read there
read_by : (file : List ℕ) (e : StartEntry) (i : Insn) → refusal 0x10000 file ≡ None → IsOneInstruction file e
    → IsEntry (image_of file) e → e.form ≡ Some i → IsReadAt file e i
read_by file e i r one entry h =
    let known : is_some e.form ≡ true = ap is_some h in
    let s = one.spelled known in
    let b = s.1 in
    let f = b.spelled.fields in
    let long : length b.front ≡ e.len = front_len (window file e.addr) s.0 b ∙ s.2 in
    let size : length (spelling f) ≡ e.len = sym (ap length b.spelled.spelled) ∙ long in
    let within : e.len ≤ length (window file e.addr) = omega (arith, s.2, front_within (window file e.addr) s.0 b) in
    let low : e.addr + e.len ≤ 0x7FFF0000 = entry.low in
    let byte : (k : ℕ) → k < length (spelling f) → IsCodeAt file (e.addr + k) (slice_index (spelling f) k) = λ k l.
    subst (λ (z : ℕ). IsCodeAt file (e.addr + k) z)
    (ap (λ (z : List ℕ). slice_index z k) b.joined ∙ get_or_append_left b.front b.rest 0 k (omega (arith, size, long, l))
    ∙ ap (λ (z : List ℕ). slice_index z k) b.spelled.spelled)
    (window_is_loaded 0x10000 file e.addr k r (omega (arith, size, within, l))).1 in
    let form : e.form ≡ Some (insn_of f) =
    one.form_is known (image_of file) (λ k l. refl) f b.spelled.is (λ k l. ap (option_map (λ (c : Cell). c.byte))
    {y = Some (record { byte = slice_index (spelling f) k; perms = (byte k l).0 })} (byte k l).1) in
    record {
      fields = f;
      is = b.spelled.is;
      bytes = front_taken (window file e.addr) s.0 e.len b (sym s.2) ∙ b.spelled.spelled;
      size = size;
      within = within;
      insn = insn_is i (insn_of f) (sym h ∙ form);
      stands = code_stands file e.addr (spelling f) (omega (arith, size, low)) byte;
      low = low;
    }

-- what was built are entries of the image
pub entries_built : (file : List ℕ) (es : List StartEntry) → refusal 0x10000 file ≡ None → IsBuilt file es
    → AreEntries (image_of file) es
entries_built file es r b =
    let s : AreStarts 0x10000 file (addresses es) = record { accepted = r; ascending = b.ascending; none = b.none } in
    subst (λ (xs : List StartEntry). AreEntries (image_of file) xs) (sym b.entries) (built_are_entries 0x10000 file (addresses es) s)

-- at an entry that is found the file has its instruction
pub read_at : (file : List ℕ) (es : List StartEntry) (a : ℕ) (e : StartEntry) (i : Insn) → refusal 0x10000 file ≡ None
    → IsBuilt file es → entry_at es a ≡ Some e → e.form ≡ Some i → IsReadAt file e i
read_at file es a e i r b h f =
    let s : AreStarts 0x10000 file (addresses es) = record { accepted = r; ascending = b.ascending; none = b.none } in
    let q = finds (λ (x : StartEntry). x.addr == a) es e h in
    let one : AllByRecursion (IsOneInstruction file) es =
    subst (λ (xs : List StartEntry). AllByRecursion (IsOneInstruction file) xs) (sym b.entries)
    (all_instructions 0x10000 file (addresses es) s) in
    read_by file e i r (all_in (IsOneInstruction file) es e one (q.place, q.at)) ((entries_built file es r b).each e (contains_at es q.place e q.at)) f

-- the entry that is found at an address has it
pub found_address : (es : List StartEntry) (a : ℕ) (e : StartEntry) → entry_at es a ≡ Some e → e.addr ≡ a
found_address es a e h = eqb-true e.addr a (finds (λ (x : StartEntry). x.addr == a) es e h).passes
