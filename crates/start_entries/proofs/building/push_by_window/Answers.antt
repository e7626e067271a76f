use Rattle.std.proofs.Common.{◌≡◌, ℕ, List, Some, None, false}
use Rattle.elf_read.specs.Code.{window}
use Rattle.start_entries.specs.declared.entry.StartEntry.{StartEntry}
use Rattle.start_entries.specs.Entries.{start_entry}
use Rattle.start_entries.proofs.EntriesByWindow.{known_entry, unknown_entry, told_none, entry_pushed, entry_reached}
use Rattle.start_entries.proofs.building.push_by_window.Goals as goal

pub front_form-requires : goal.front_form-requires
front_form-requires c = (c.decode.ensures.known c.in-Known.parts).0 c.in-Known.is

pub returns-in-Known : goal.returns-in-Known
returns-in-Known c =
    let e : StartEntry = record { addr = c.args.addr; len = c.in-Known.parts.len; form = Some c.front_form.result; shared = false } in
    let is : (file : List ℕ) → c.args.window.now ≡ window file c.args.addr → e ≡ start_entry file c.args.addr c.args.next =
    λ file at. known_entry file c.args.addr c.args.next c.args.window.now c.in-Known.parts c.front_form.result at
    ((c.decode.ensures.known c.in-Known.parts).0 c.in-Known.is) c.front_form.ensures in
    record {
      reached = entry_reached _ c.args.window.now c.args.addr c.args.reached c.args.next e is c.push_marked.ensures.reached;
      pushed = entry_pushed _ _ _ c.args.window.now c.args.addr c.args.reached c.args.next e is c.push_marked.ensures.pushed;
    }

pub returns-in-Unknown : goal.returns-in-Unknown
returns-in-Unknown c =
    let e : StartEntry = record { addr = c.args.addr; len = c.reach-len.result; form = None; shared = false } in
    let is : (file : List ℕ) → c.args.window.now ≡ window file c.args.addr → e ≡ start_entry file c.args.addr c.args.next =
    λ file at. unknown_entry file c.args.addr c.args.next c.args.window.now c.reach-len.result at
    (told_none c.args.window.now c.decode.result c.decode.ensures.unknown c.decode.ensures.short c.in-Unknown.is) c.reach-len.ensures in
    record {
      reached = entry_reached _ c.args.window.now c.args.addr c.args.reached c.args.next e is c.push_marked-in-Unknown.ensures.reached;
      pushed = entry_pushed _ _ _ c.args.window.now c.args.addr c.args.reached c.args.next e is c.push_marked-in-Unknown.ensures.pushed;
    }
