use Rattle.std.proofs.Common.{◌≡◌, ◌≤◌, length, insert, rules}
use Rattle.byte_locks.specs.Pages.{IsMissing}
use Rattle.byte_locks.proofs.PageUpdates.{page_inserted}
use Rattle.byte_locks.proofs.pages.place_page.Goals as goal

pub returns-in-Err : goal.returns-in-Err
returns-in-Err c =
    let ps = c.args.pages.now.items in
    let place = c.in-Err.place in
    let within : place ≤ length ps = rw (← c.deref.ensures.value) c.in-Err.ensures.bound in
    let missing : IsMissing ps c.args.number place = rw (← c.deref.ensures.value) c.in-Err.ensures.place in
    let items : c.insert.new.self.items ≡ insert ps place c.numbered-page.result = search rules in
    let after =
    page_inserted ps c.insert.new.self.items place c.args.number c.numbered-page.result
    c.requires.ascending within missing c.numbered-page.ensures.number c.numbered-page.ensures.free items in
    record {
      locks = after.0;
      ascending = after.1;
      room = search rules;
      spare = search rules;
      place = after.2;
    }
