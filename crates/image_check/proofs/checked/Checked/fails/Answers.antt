use Rattle.std.proofs.Common.{refl, sym, subst, ◌∙◌, List}
use Rattle.std.specs.List.Sorted.{IsNonDecreasingBy}
use Rattle.image_check.specs.declared.placed_code.PlacedCode.{PlacedCode}
use Rattle.sound_images.specs.Cases.{case_of}
use Rattle.image_check.proofs.CodeRule.{code_is}
use Rattle.image_check.proofs.RuleTests.{decides, write_is, range_is}
use Rattle.image_check.proofs.NearCode.{code_moved}
use Rattle.image_check.proofs.RowRule.{told}
use Rattle.image_check.proofs.checked.Checked.fails.Goals as goal

pub returns-in-Byte : goal.returns-in-Byte
returns-in-Byte c = rw (c.in-Byte.is, ← c.self.view_is) (decides _ _ c.byte_fails.ensures)

pub returns-in-Write : goal.returns-in-Write
returns-in-Write c =
    let k = case_of c.self.inside.orig.now.bytes c.self.inside.patched.now.bytes c.self.inside.starts.now c.self.inside.flat in
    rw (c.in-Write.is, ← c.self.view_is) (told _ _ _ c.write_fails.ensures (write_is k c.args.addr))

pub returns-in-Range : goal.returns-in-Range
returns-in-Range c =
    let k = case_of c.self.inside.orig.now.bytes c.self.inside.patched.now.bytes c.self.inside.starts.now c.self.inside.flat in
    rw (c.in-Range.is, ← c.self.view_is) (told _ _ _ (c.range_fails.ensures.value c.self.inside.starts.now) (range_is k c.self.inside.orig.now.bytes c.args.addr refl c.range_fails.ensures.accepted))

pub returns-in-Entry : goal.returns-in-Entry
returns-in-Entry c = rw (c.in-Entry.is, ← c.self.view_is) (c.entry_fails.ensures c.self.inside.orig.now.bytes)

pub returns-in-Code : goal.returns-in-Code
returns-in-Code c =
    let k = case_of c.self.inside.orig.now.bytes c.self.inside.patched.now.bytes c.self.inside.starts.now c.self.inside.flat in
    let ready = c.self.invariant in
    let test = (rw c.deref.ensures.value at (c.code_fails.ensures c.self.inside.orig.now.bytes c.self.inside.starts.now))
    ∙ code_moved k c.args.addr ready.turns c.self.inside.codes.items ready.moved in
    rw (c.in-Code.is, ← c.self.view_is) (told _ _ _ test (code_is k ready.turns ready.placed c.args.addr))

pub code_fails-requires : goal.code_fails-requires
code_fails-requires c = record {
  rises = subst (λ (z : List PlacedCode). IsNonDecreasingBy (λ (p : PlacedCode). p.line.tramp.place) z) (sym c.deref.ensures.value) c.self.invariant.rise;
}

pub write_fails-requires : goal.write_fails-requires
write_fails-requires c = c.self.invariant.short
