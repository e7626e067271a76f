-- A jump after pads that are REX bytes is the jump without them.
use Rattle.std.proofs.Common.{◌≡◌, ◌⊎◌, inl, inr, ℕ, ℤ, pos, zero, suc, ◌+◌, ◌^◌, ◌<◌, ◌≤◌, Bool, true, false, not, ◌&&◌, ◌||◌, eqb, leb, List, [], length, replicate, Ok, refl, sym, ap, ◌∙◌, subst, arith}
use Rattle.std.specs.List.{list_all}
use Rattle.std.proofs.lemmas.Bool.{and_from, or_right, le-leb}
use Rattle.std.proofs.lemmas.Bool.Decides.{nat_tests}
use Rattle.pun_base.specs.Memory.{Bytes}
use Rattle.length_decode.specs.declared.escape_bytes.Escape.TheVariants.{OneByte}
use Rattle.length_decode.specs.declared.instruction_parts.Prefixes.{Prefixes}
use Rattle.length_decode.specs.Prefix.{is_prefix, has, prefixes_of}
use Rattle.length_decode.specs.Rules.{is_branch}
use Rattle.length_decode.specs.Spelling.{Fields, IsInstruction, spelling, parts_of}
use Rattle.cpu_state.specs.declared.world.Question.{Question}
use Rattle.cpu_state.specs.Bytes.{advanced, Stands}
use Rattle.cpu_state.specs.Fixed.{IsFixed}
use Rattle.insn_form.specs.declared.form.Target.TheVariants.{Rel}
use Rattle.insn_form.specs.declared.form.Op.TheVariants.{Jmp}
use Rattle.insn_form.specs.declared.form.Insn.{Insn}
use Rattle.insn_form.specs.declared.form.Insn.TheVariants.{Exact}
use Rattle.insn_form.specs.Classes.{template}
use Rattle.insn_form.specs.Filling.{filled, integer_of}
use Rattle.insn_form.specs.Instruction.{insn_of}
use Rattle.insn_form.specs.Machine.{Machine, act, leaves, standing_at}
use Rattle.insn_form.specs.Meaning.{effect}
use Rattle.insn_form.specs.Moved.{rel_bytes}
use Rattle.insn_form.specs.Operands.{word_of}
use Rattle.insn_form.specs.Resolving.{resolved_insn}
use Rattle.insn_form.specs.Step.{next_after, question_of, StepsBy}
use Rattle.insn_form.proofs.TaskCopies.{names_it}
use Rattle.start_entries.specs.Leading.{JumpsTo}
use Rattle.start_list.specs.PlanJumps.{padded_jump}
use Rattle.start_list.proofs.StandingJumps.{padded}
use Rattle.scheme_search.specs.Spelled.{LeadsTo, SpelledJumpsLead}
use Rattle.scheme_search.proofs.OneJumpBytes.{jump_length}
use Rattle.scheme_search.proofs.WrittenBytes.{spelled_is}

-- A byte that is no REX byte isn't among the pads.
none_has : (b q pad : ℕ) → 0x40 ≤ pad → pad ≤ 0x4F → (b < 0x40) ⊎ (0x4F < b) → has b (replicate q pad) ≡ false
none_has b zero pad lo hi o = refl
none_has b (suc q) pad lo hi o = ap (λ z. z || has b (replicate q pad)) (differs o) ∙ none_has b q pad lo hi o
  where
    differs : (b < 0x40) ⊎ (0x4F < b) → eqb pad b ≡ false
    differs (inl l) = grind (arith, nat_tests)
    differs (inr l) = grind (arith, nat_tests)

-- No legacy prefix at all.
abbrev none : Prefixes
none = record { lock = false; repne = false; rep = false; opsize = false; addrsize = false; fs = false; gs = false }

module _ (q pad : ℕ) (lo : 0x40 ≤ pad) (hi : pad ≤ 0x4F) where
  abbrev pads : List ℕ
  pads = replicate q pad

  -- Pads say nothing.
  no_prefix : prefixes_of pads ≡ none
  no_prefix =
      let lock = none_has 0xf0 q pad lo hi (inr (omega arith)) in
      let repne = none_has 0xf2 q pad lo hi (inr (omega arith)) in
      let rep = none_has 0xf3 q pad lo hi (inr (omega arith)) in
      let opsize = none_has 0x66 q pad lo hi (inr (omega arith)) in
      let addrsize = none_has 0x67 q pad lo hi (inr (omega arith)) in
      let fs = none_has 0x64 q pad lo hi (inr (omega arith)) in
      let gs = none_has 0x65 q pad lo hi (inr (omega arith)) in
      λ i. record { lock = lock i; repne = repne i; rep = rep i; opsize = opsize i; addrsize = addrsize i; fs = fs i; gs = gs i }

  -- Each pad is a prefix.
  are_prefixes : (n : ℕ) → list_all is_prefix (replicate n pad) ≡ true
  are_prefixes zero = refl
  are_prefixes (suc n) = and_from (is_prefix pad) (list_all is_prefix (replicate n pad))
      (or_right _ (leb 0x40 pad && leb pad 0x4F) (and_from (leb 0x40 pad) (leb pad 0x4F) (le-leb 0x40 pad lo) (le-leb pad 0x4F hi))) (are_prefixes n)

  module _ (next t : ℕ) where
    -- The fields of the jump after the pads.
    abbrev f : Fields
    f = padded pads (rel_bytes next t)

    -- The fields of the jump have five bytes after the pads.
    long : length (spelling f) ≡ q + 5
    long = jump_length q pad next t

    -- The fields of the jump with its pads are those of an instruction.
    is : q ≤ 10 → IsInstruction f
    unfolding template filled
    is few = record {
      formed = record {
        prefixes = are_prefixes q;
        escape = refl;
        opcode = ap (λ (z : Prefixes). not (is_branch OneByte 0xE9 && z.opsize)) no_prefix;
        known = refl;
        modrm = refl;
        operand = refl;
        imm = refl;
      };
      short = omega (arith, few, long);
    }

    -- The jump with its pads is a jump by its four bytes.
    jump : insn_of f ≡ Exact (Jmp (Rel (integer_of (rel_bytes next t))))
    unfolding template filled
    jump = ap (λ (z : Prefixes). filled (template (record (parts_of f) { prefixes = z })) (record (parts_of f) { prefixes = z }) [] (rel_bytes next t)) no_prefix

module _ (at q pad t : ℕ) (lo : 0x40 ≤ pad) (hi : pad ≤ 0x4F) (few : q ≤ 10) (l : at + q + 5 < 2 ^ 31) (h : t < 2 ^ 31) where
  abbrev fields : Fields
  fields = f q pad lo hi (at + q + 5) t

  -- Behind the jump its four bytes name the target.
  names : advanced (next_after at fields) (word_of (integer_of (rel_bytes (at + q + 5) t))) ≡ t
  names = ap (λ x. advanced x (word_of (integer_of (rel_bytes (at + q + 5) t)))) next ∙ names_it (at + q + 5) t l h
    where
      next : next_after at fields ≡ at + q + 5
      next = let k = long q pad lo hi (at + q + 5) t in omega (arith, k)

  -- Where the jump's bytes stand, executable and not writable, a jump to the target stands.
  stands_there : (m : Bytes) → IsFixed m at (spelling fields) → JumpsTo m at t
  stands_there m s = record {
    fields = fields;
    spelled = is q pad lo hi (at + q + 5) t few;
    stands = s;
    rel = integer_of (rel_bytes (at + q + 5) t);
    jump = jump q pad lo hi (at + q + 5) t;
    leads = names;
  }

-- A jump that stands after at most ten REX bytes leads to its target.
pub rex_leads : (m : Bytes) (at room q pad target : ℕ) → q ≤ 10 → 0x40 ≤ pad → pad ≤ 0x4F → at + q + 5 < 2 ^ 31 → target < 2 ^ 31
    → IsFixed m at (padded_jump at room q pad target).bytes → JumpsTo m at target
rex_leads m at room q pad target few lo hi l h s = stands_there at q pad target lo hi few l h m s

-- A number below 2^64 is its own word.
own_word : (n : ℕ) → n < 2 ^ 64 → word_of (pos n) ≡ n
own_word n l = omega (arith, l)

-- A direct jump acts by going to its target alone.
jump_acts : (s : Machine) (next target : ℕ) (i : Insn) (q : Question) (rel : ℤ) → i ≡ Exact (Jmp (Rel rel)) → advanced next (word_of rel) ≡ target
    → act (record { insn = resolved_insn next i; asks = q }) next s ≡ Ok (standing_at target s)
unfolding effect
jump_acts s next target i q rel e f =
    let w : word_of (pos (advanced next (word_of rel))) ≡ target = own_word (advanced next (word_of rel)) (omega arith) ∙ f in
    subst (λ (i : Insn). act (record { insn = resolved_insn next i; asks = q }) next s ≡ Ok (standing_at target s)) (sym e)
    (ap (λ n. Ok (standing_at n s)) w)

-- A direct jump reads and writes no data.
jump_leaves : (set : ℕ → Bool) (s : Machine) (next : ℕ) (i : Insn) (q : Question) (rel : ℤ) → i ≡ Exact (Jmp (Rel rel))
    → leaves set (record { insn = resolved_insn next i; asks = q }) next s ≡ true
unfolding effect
jump_leaves set s next i q rel e = subst (λ (i : Insn). leaves set (record { insn = resolved_insn next i; asks = q }) next s ≡ true) (sym e) refl

module _ (at q pad t : ℕ) (lo : 0x40 ≤ pad) (hi : pad ≤ 0x4F) (few : q ≤ 10) (l : at + q + 5 < 2 ^ 31) (h : t < 2 ^ 31) where
  abbrev g : Fields
  g = f q pad lo hi (at + q + 5) t

  abbrev rel : ℤ
  rel = integer_of (rel_bytes (at + q + 5) t)

  abbrev jmp : insn_of g ≡ Exact (Jmp (Rel rel))
  jmp = jump q pad lo hi (at + q + 5) t

  -- Where the jump's bytes stand, executable, its step leads to the target.
  steps_there : (set : ℕ → Bool) (s : Machine) → s.rip ≡ at → Stands s.mem at (spelling g) → StepsBy set g s (standing_at t s)
  steps_there set s r stand =
      let next : ℕ = next_after s.rip g in
      let away = ap (λ (a : ℕ). advanced (next_after a g) (word_of rel)) r ∙ names at q pad t lo hi few l h in
      record {
        at = record { spelled = is q pad lo hi (at + q + 5) t few; here = subst (λ (a : ℕ). Stands s.mem a (spelling g)) (sym r) stand };
        apart = jump_leaves set s next (insn_of g) (question_of g next) rel jmp;
        acts = jump_acts s next t (insn_of g) (question_of g next) rel jmp away;
      }

  -- The spelling of the jump leads to the target.
  leads_there : LeadsTo at t (spelling g)
  leads_there = record {
    parts = parts_of g;
    spelled = record { fields = g; is = is q pad lo hi (at + q + 5) t few; spelled = refl; divided = refl };
    steps = steps_there;
    jumps = stands_there at q pad t lo hi few l h;
  }

-- What is spelled as a jump after pads is an instruction that leads to its target.
pub spelled_jumps_lead : SpelledJumpsLead
spelled_jumps_lead at q pad t bytes l h j =
    subst (λ (xs : List ℕ). LeadsTo at t xs) (sym (spelled_is at q pad t bytes l h j)) (leads_there at q pad t j.rex.0 j.rex.1 j.few l h)
