-- The state from which a guest runs.
use Rattle.std.proofs.Common.{◌≡◌, ℕ, zero, suc, ◌+◌, ◌-◌, ◌<◌, ◌≤◌, Bool, true, false, ◌&&◌, cond, eqb, nat_le, nat_lt, List, [], ◌∷◌, ◌++◌, length, replicate, slice_index, Option, Some, refl, sym, ap, ◌∙◌, subst, arith, append_assoc}
use Rattle.std.proofs.lemmas.Bool.Decides.{nat_tests}
use Rattle.std.proofs.lemmas.List.{length-replicate}
use Rattle.std.specs.List.{AllByRecursion}
use Rattle.pun_base.specs.Memory.{Cell, Bytes, joined, or_else}
use Rattle.cpu_alu.specs.FlagWord.{unpacked}
use Rattle.cpu_state.specs.declared.script.Script.{Script}
use Rattle.cpu_state.specs.declared.state.State.{State}
use Rattle.cpu_state.specs.declared.world.Entry.{Entry}
use Rattle.cpu_state.specs.Adding.{laid}
use Rattle.cpu_state.specs.Bytes.{advanced, allows, byte_of}
use Rattle.cpu_state.specs.Fixed.{IsFixed}
use Rattle.insn_form.specs.Machine.{Machine}
use Rattle.cpu_step.specs.Stepping.{machine_of}
use Rattle.relocate_insn.proofs.FixedCode.{next_address, fixed_front, fixed_back}
use Rattle.guest_gen.specs.declared.instruction.GuestInsn.{GuestInsn}
use Rattle.guest_gen.specs.declared.instruction.GuestInsn.TheVariants.{Ret, JmpBack, MovRaxRbx, AddRbxRax, MovEax, AddRbx, AddRcxOne, PushRax, PopRax, CmpRaxRbx, JeOverInc, IncRdx, LoadRax, StoreRax, CallRet, LeaData, XorRaxRcx, Nop, Cpuid, LeaRcx, CallRsi}
use Rattle.guest_gen.specs.Instructions.{text_start, blocks_start, data_start, stack_top}
use Rattle.guest_gen.specs.Blocks.{block, block_at, after_block, blocks_from, kind_at, number_at}
use Rattle.guest_gen.specs.Files.{file_of}
use Rattle.guest_gen.specs.Texts.{text_from, all_of, guest_blocks, guest_text}
use Rattle.guest_gen.specs.Worlds.{AnswersRun, IsGuestScript, SetsNothing, UsesWorld, start_of}
use Rattle.guest_gen.specs.Starting.{IsStartState, start_memory}
use Rattle.guest_gen.specs.Running.{Answered, CanRun, StandsAt, AtInsn, is_tail}
use Rattle.guest_gen.proofs.GuestImages.{past_text, image-file, entry-file}

-- ---- blocks can be run

-- by a test of the kind
by_kind : (b : Bool) (xs ys is : List GuestInsn) → is_tail false (xs ++ is) ≡ is_tail false is
    → is_tail false (ys ++ is) ≡ is_tail false is
    → is_tail false (cond b xs ys ++ is) ≡ is_tail false is
by_kind true xs ys is h k = h
by_kind false xs ys is h k = k

-- behind a block whatever can be run
block_tail : (kind n : ℕ) (is : List GuestInsn) → is_tail false (block kind n ++ is) ≡ is_tail false is
unfolding block
block_tail kind n is =
    by_kind (eqb kind 0) (MovRaxRbx ∷ []) _ is refl
    (by_kind (eqb kind 1) (AddRbxRax ∷ []) _ is refl
    (by_kind (eqb kind 2) (MovEax n ∷ []) _ is refl
    (by_kind (eqb kind 3) (AddRbx n ∷ []) _ is refl
    (by_kind (eqb kind 4) (AddRcxOne ∷ []) _ is refl
    (by_kind (eqb kind 5) (PushRax ∷ PopRax ∷ []) _ is refl
    (by_kind (eqb kind 6) (CmpRaxRbx ∷ JeOverInc ∷ IncRdx ∷ []) _ is refl
    (by_kind (eqb kind 7) (LoadRax ∷ []) _ is refl
    (by_kind (eqb kind 8) (StoreRax ∷ []) _ is refl
    (by_kind (eqb kind 9) (CallRet ∷ []) _ is refl
    (by_kind (eqb kind 10) (LeaData ∷ []) _ is refl
    (by_kind (eqb kind 11) (XorRaxRcx ∷ []) _ is refl
    (by_kind (eqb kind 12) (Nop ∷ []) _ is refl
    (by_kind (eqb kind 13) (Cpuid ∷ []) _ is refl
    (by_kind (eqb kind 14) (LeaRcx ∷ []) (CallRsi ∷ []) is refl refl))))))))))))))

-- and behind blocks
pub blocks_tail : (x n : ℕ) (is : List GuestInsn) → is_tail false is ≡ true → is_tail false (all_of (blocks_from x n) ++ is) ≡ true
blocks_tail x zero is h = h
blocks_tail x (suc n) is h =
    let b = block_at x in
    let bs = all_of (blocks_from (after_block x) n) in
    ap (is_tail false) (append_assoc b bs is) ∙ (block_tail (kind_at x) (number_at x) (bs ++ is) ∙ blocks_tail (after_block x) n is h)

-- ---- the text stands

-- a byte of code
abbrev code_cell : List ℕ → ℕ → Option Cell
code_cell bs k = Some (record { byte = slice_index bs k; perms = 5 })

-- bytes of code stand
fixed_from : (m : Bytes) (a : ℕ) (bs : List ℕ) → a + length bs ≤ 0x600000 → ((k : ℕ) → k < length bs → m (a + k) ≡ code_cell bs k)
    → IsFixed m a bs
fixed_from m a [] l h = tt
fixed_from m a (b ∷ bs) l h =
    let z : a + 0 ≡ a = omega arith in
    let first : m a ≡ code_cell (b ∷ bs) 0 = ap m (sym z) ∙ h 0 (omega arith) in
    let n : advanced a 1 ≡ a + 1 = next_address a 1 (omega arith) in
    let later : (k : ℕ) → k < length bs → m (a + 1 + k) ≡ code_cell bs k =
    λ k j. (let e : a + 1 + k ≡ a + suc k = omega arith in ap m e ∙ h (suc k) (omega arith)) in (
      ap (allows 1) first,
      ap (allows 2) first,
      ap byte_of first,
      subst (λ (y : ℕ). IsFixed m y bs) (sym n) (fixed_from m (a + 1) bs (omega arith) later),
    )

-- the memory at the start holds the text
text_cell : (text : List ℕ) (k : ℕ) → k < length text → start_memory text (text_start + k) ≡ code_cell text k
unfolding start_memory
text_cell text k h =
    let f : (nat_le text_start (text_start + k) && nat_lt (text_start + k - text_start) (length text)) ≡ true = grind
    (arith, nat_tests) in
    let e : text_start + k - text_start ≡ k = omega arith in
    rw f (ap (code_cell text) e)

-- ---- the page of data

-- an address of the page of data
data_test : (zs : List ℕ) (x : ℕ) → length zs ≡ 0x1000 → data_start ≤ x → x < data_start + 0x1000
    → (nat_le data_start x && nat_lt (x - data_start) (length zs)) ≡ true
data_test zs x e h k = grind (arith, nat_tests)

-- zeros there can be read and written
zeros_allow : (p : ℕ) (zs text : List ℕ) (x : ℕ) → length zs ≡ 0x1000 → length text ≤ 1048576 → data_start ≤ x → x < data_start + 0x1000
    → allows p (Some (record { byte = 0; perms = 6 })) ≡ true → allows p (joined (laid text_start 5 text) (laid data_start 6 zs) x) ≡ true
zeros_allow p zs text x e l h k a =
    let t = past_text text x l h in
    let f = data_test zs x e h k in
    let d : laid data_start 6 zs x ≡ Some (record { byte = slice_index zs (x - data_start); perms = 6 }) = rw f refl in
    ap (λ (o : Option Cell). allows p (or_else o (laid data_start 6 zs x))) t ∙ ap (allows p) d ∙ a

-- so in the memory at the start
pub data_allows : (p : ℕ) (text : List ℕ) (x : ℕ) → length text ≤ 1048576 → data_start ≤ x → x < data_start + 0x1000
    → allows p (Some (record { byte = 0; perms = 6 })) ≡ true → allows p (start_memory text x) ≡ true
unfolding start_memory
data_allows p text x l h k a = zeros_allow p (replicate 0x1000 0) text x (length-replicate {A = ℕ} 0x1000 0) l h k a

-- ---- the start

-- a guest can run from its start
start_memory_runs : (seed n : ℕ) (text : List ℕ) (s : Machine) → text ≡ guest_text seed n → length text ≤ 1048576
    → s.core.regs ≡ 0 ∷ 0 ∷ 0 ∷ 0 ∷ stack_top ∷ data_start ∷ text_start ∷ replicate 9 0 → s.rip ≡ blocks_start → s.mem ≡ start_memory text
    → CanRun s
start_memory_runs seed n text s e l r i m =
    let is = all_of (guest_blocks seed n) ++ JmpBack ∷ [] in
    let size : length text ≡ length (text_from text_start (Ret ∷ is)) = ap length e in
    let code : IsFixed s.mem text_start text = fixed_from s.mem text_start text (omega arith)
    (λ k j. ap (λ (f : Bytes). f (text_start + k)) m ∙ text_cell text k j) in
    let all : IsFixed s.mem text_start ((0xc3 ∷ []) ++ text_from blocks_start is) = subst
    (λ (z : List ℕ). IsFixed s.mem text_start z) e code in
    let blocks : StandsAt false blocks_start s.mem = record {
      insns = is;
      tail = blocks_tail seed n (JmpBack ∷ []) refl;
      code = fixed_back s.mem text_start (0xc3 ∷ []) (text_from blocks_start is) (omega arith) all;
      low = omega arith;
    } in
    record {
      ret = fixed_front s.mem text_start (0xc3 ∷ []) (text_from blocks_start is) all;
      blocks = blocks;
      read = λ x h k. ap (λ (f : Bytes). allows 4 (f x)) m ∙ data_allows 4 text x l h k refl;
      written = λ x h k. ap (λ (f : Bytes). allows 2 (f x)) m ∙ data_allows 2 text x l h k refl;
      place = AtInsn (record { rax = 0; rcx = 0; rdx = 0; rbx = 0; behind = replicate 9 0; regs = r })
          (subst (λ (a : ℕ). StandsAt false a s.mem) (sym i) blocks);
    }

-- so it can as the code makes it
pub start_runs : (seed n : ℕ) (text : List ℕ) (s : State) → text ≡ guest_text seed n → length text ≤ 1048576 → IsStartState text s
    → CanRun (machine_of s [])
start_runs seed n text s e l h = start_memory_runs seed n text (machine_of s []) e l h.regs h.rip h.mem

-- it is where the script starts the file
start_is : (file text : List ℕ) (s : State) (script : Script) (es : List Entry) → file ≡ file_of text → 1 ≤ length text
    → length text ≤ 1048576
    → IsStartState text s → IsGuestScript script → script.world.entries ≡ es → machine_of s es ≡ start_of file script
start_is file text s script es e some few h g w =
    let regs = h.regs ∙ sym g.regs in
    let flags = h.flags ∙ ap unpacked (sym g.flags) in
    let fs = h.fs ∙ sym g.fs in
    let gs = h.gs ∙ sym g.gs in
    let rip = h.rip ∙ sym (entry-file text) in
    let mem = h.mem ∙ sym (image-file text some (omega arith)) in
    let at : machine_of s es ≡ start_of (file_of text) script =
    λ i. record { core = record { regs = regs i; flags = flags i; fs = fs i; gs = gs i }; rip = rip i; mem = mem i; world = sym w i } in
    at ∙ ap (λ (z : List ℕ). start_of z script) (sym e)

-- what answers the run from there is the world of the script
pub world_answers : (n : ℕ) (file text : List ℕ) (s : State) (script : Script) (es : List Entry) → file ≡ file_of text → 1 ≤ length text
    → length text ≤ 1048576 → IsStartState text s → IsGuestScript script → script.world.entries ≡ es → Answered n s es
    → AnswersRun n file script
world_answers n file text s script es e some few h g w a = record {
  nothing = subst (AllByRecursion SetsNothing) (sym w) a.nothing;
  states = a.states;
  uses = subst (λ (z : Machine). UsesWorld z n a.states) (start_is file text s script es e some few h g w) a.uses;
}

-- a text has a byte
pub text_some : (seed n : ℕ) (text : List ℕ) → text ≡ guest_text seed n → 1 ≤ length text
text_some seed n text e =
    let size : length text ≡ suc (length (text_from blocks_start (all_of (guest_blocks seed n) ++ JmpBack ∷ []))) = ap length e in
    omega arith
