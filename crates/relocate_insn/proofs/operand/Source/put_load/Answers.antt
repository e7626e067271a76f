use Rattle.std.proofs.Common.{ℕ, ◌+◌, ◌%◌, ◌++◌, eqb, option_to_list, sym, ap, ◌∙◌, arith}
use Rattle.length_decode.specs.declared.instruction_parts.Parts.{Parts}
use Rattle.length_decode.specs.Spelling.{spelling}
use Rattle.insn_form.specs.Classes.{mod_of, modrm_of}
use Rattle.insn_form.proofs.SpellingSlices.{disp_small}
use Rattle.relocate_insn.specs.Relocating.{load_prefixes, load_modrm, load_bytes, load_of}
use Rattle.relocate_insn.proofs.InstructionParts.{one_parts}
use Rattle.relocate_insn.proofs.WrittenCopies.{loaded}
use Rattle.relocate_insn.proofs.RelocatedLengths.{load_long}
use Rattle.relocate_insn.proofs.operand.Source.put_load.Goals as goal

pub load_size-requires : goal.load_size-requires
load_size-requires c = let s = c.requires.spelled in omega (arith, ap (λ (z : Parts). z.disp_len) s.divided, disp_small s.fields s.is)

pub returns-clause-code : goal.returns-clause-code
returns-clause-code c = λ f i b.
    let next = c.args.self.now.next in
    let q = c.args.self.now.parts in
    let p = one_parts f c.args.self.now.bytes.now q c.requires.spelled i b in
    let prefixes = load_prefixes (eqb (mod_of q) 3) q.prefixes.fs q.prefixes.gs q.prefixes.addrsize (q.rex % 4) in
    let ep = ap (λ (z : Parts). load_prefixes (eqb (mod_of z) 3) z.prefixes.fs z.prefixes.gs z.prefixes.addrsize (z.rex % 4)) p in
    let em = c.load_modrm.ensures ∙ ap (λ (z : Parts). load_modrm (modrm_of z)) p in
    let es = ap (λ (z : Parts). option_to_list z.sib) p in
    loaded f c.args.code.now prefixes (option_to_list q.sib) c.put_load_prefixes.new.code c.put.new.self c.put_sib.new.code c.put_displacement.new.code c.load_modrm.result next (c.args.place + c.from.result) ep em es c.put_load_prefixes.ensures.code c.put.ensures c.put_sib.ensures.code (c.put_displacement.ensures.code f i b)
    ∙ ap (λ (n : ℕ). c.args.code.now ++ spelling (load_of f next (c.args.place + n))) (c.from.ensures ∙ c.load_size.ensures.value ∙ ap load_bytes p ∙ sym (load_long f next 0 i))
