use Rattle.std.proofs.Common.{◌+◌, ◌++◌}
use Rattle.length_decode.specs.Spelling.{spelling}
use Rattle.relocate_insn.specs.Pieces.{store_rax, load_rax, push_code, jump_through}
use Rattle.relocate_insn.specs.Relocating.{load_of, load_size}
use Rattle.relocate_insn.proofs.InstructionParts.{grown}
use Rattle.relocate_insn.proofs.operand.Source.put_call_through.Goals as goal

pub returns : goal.returns
returns c = λ f i b.
    let next = c.args.self.now.next in
    let p = c.args.private in
    let load = spelling (load_of f next (c.args.place + 8 + load_size f next)) in
    let d = push_code next ++ jump_through (p + 16) in
    let u = load_rax p ++ d in
    let v = store_rax (p + 16) ++ u in
    let end = c.put_jump_through.new.self in
    grown c.args.code.now (store_rax p) (load ++ v) c.put_store.new.self end c.put_store.ensures
    (grown c.put_store.new.self load v c.put_load.new.code end (c.put_load.ensures.code f i b)
    (grown c.put_load.new.code (store_rax (p + 16)) u c.put_store-2.new.self end c.put_store-2.ensures
    (grown c.put_store-2.new.self (load_rax p) d c.put_load-2.new.self end c.put_load-2.ensures
    (grown c.put_load-2.new.self (push_code next) (jump_through (p + 16)) c.put_push.new.self end c.put_push.ensures c.put_jump_through.ensures))))
