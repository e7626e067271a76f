use Rattle.pun_base.proofs.JoinedPuts.{begun_and_put, fills_broken, fills_ended, is_written}
use Rattle.elf_emit.specs.Frames.{layout}
use Rattle.elf_emit.specs.Plans.{planned}
use Rattle.elf_emit.proofs.emit.write_pages.Goals as goal

pub returns-in-Err-put_pages : goal.returns-in-Err-put_pages
returns-in-Err-put_pages g c =
    let file = layout (planned c.args.plan.now) in
    let h = begun_and_put c.args.name.now file _ _ _ _ _ _ c.in-Ok.is c.in-Err-put_pages.is c.begin.ensures c.put_pages.ensures in
    fills_broken c.args.name.now file _ _ _ c.in-Err-put_pages.error h.0 h.1

pub end-requires : goal.end-requires
end-requires g c =
    let h = begun_and_put c.args.name.now (layout (planned c.args.plan.now)) _ _ _ _ _ _ c.in-Ok.is c.in-Ok-put_pages.is c.begin.ensures c.put_pages.ensures in
    is_written c.args.name.now _ h.1.writing

pub returns : goal.returns
returns g c =
    let file = layout (planned c.args.plan.now) in
    let h = begun_and_put c.args.name.now file _ _ _ _ _ _ c.in-Ok.is c.in-Ok-put_pages.is c.begin.ensures c.put_pages.ensures in
    fills_ended c.args.name.now file _ _ _ _ c.end.result h.0 h.1 c.end.ensures
