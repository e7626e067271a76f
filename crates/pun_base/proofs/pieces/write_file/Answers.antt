use Rattle.pun_base.proofs.JoinedPuts.{begun_and_put, fills_broken, fills_ended, is_written}
use Rattle.pun_base.proofs.pieces.write_file.Goals as goal

pub returns-in-Err-put_all : goal.returns-in-Err-put_all
returns-in-Err-put_all g c =
    let h = begun_and_put c.args.name.now c.args.bytes.now _ _ _ _ _ _ c.in-Ok.is c.in-Err-put_all.is c.begin.ensures c.put_all.ensures in
    fills_broken c.args.name.now c.args.bytes.now _ _ _ c.in-Err-put_all.error h.0 h.1

pub end-requires : goal.end-requires
end-requires g c =
    let h = begun_and_put c.args.name.now c.args.bytes.now _ _ _ _ _ _ c.in-Ok.is c.in-Ok-put_all.is c.begin.ensures c.put_all.ensures in
    is_written c.args.name.now _ h.1.writing

pub returns : goal.returns
returns g c =
    let h = begun_and_put c.args.name.now c.args.bytes.now _ _ _ _ _ _ c.in-Ok.is c.in-Ok-put_all.is c.begin.ensures c.put_all.ensures in
    fills_ended c.args.name.now c.args.bytes.now _ _ _ _ c.end.result h.0 h.1 c.end.ensures
