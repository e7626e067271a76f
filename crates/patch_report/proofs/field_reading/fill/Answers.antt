use Rattle.std.proofs.Common.{◌≡◌, length, sym, arith}
use Rattle.patch_report.proofs.BytesSoFar.{goes_on, stops, is_done}
use Rattle.patch_report.proofs.field_reading.fill.Goals as goal

pub returns-in-None : goal.returns-in-None
returns-in-None c =
    let l : length c.loop-place.buffer ≡ 16 = omega arith in
    let d = stops c.loop-place.buffer c.args.text.now c.loop-place.left.now c.loop-place.place c.loop-place-test.true l
    (sym c.in-None.ensures) c.loop-place.invariant in
    record { bytes = d.bytes; count = d.count_is; later = d.later; fits = d.fits }

pub loop-place-preserved : goal.loop-place-preserved
loop-place-preserved c =
    let l : length c.loop-place.buffer ≡ 16 = omega arith in
    goes_on c.loop-place.buffer c.loop-place.place c.in-Some.byte c.loop-place.left.now c.in-Some.later.now _ c.loop-place-test.true l
    (sym c.in-Some.ensures) c.loop-place.invariant

pub returns : goal.returns
returns c =
    let l : length c.loop-place.buffer ≡ 16 = omega arith in
    let d = is_done c.loop-place.buffer c.args.text.now c.loop-place.left.now c.loop-place.place c.loop-place-test.false
    c.loop-place.auto.place-end l c.loop-place.invariant in
    record { bytes = d.bytes; count = d.count_is; later = d.later; fits = d.fits }
