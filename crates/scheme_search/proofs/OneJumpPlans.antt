-- What a plan of one jump on a site tells.
use Rattle.std.proofs.Common.{◌≡◌, ℕ, pos, ◌+◌, ◌^◌, ◌<◌, min, false, ◌||◌, List, ◌∷◌, ◌++◌, take, replicate, sym, ap, ◌∙◌, arith, length-take}
use Rattle.std.proofs.lemmas.List.{get_or-take}
use Rattle.std.proofs.Math.Bool.{or-false}
use Rattle.pun_base.specs.Ranges.{is_within}
use Rattle.cpu_state.specs.Fixed.{IsFixed}
use Rattle.jump_form.specs.Jumps.{IsJump}
use Rattle.start_entries.specs.declared.entry.StartEntry.{StartEntry}
use Rattle.start_list.specs.TurnViews.{TurnView, memory_now}
use Rattle.start_list.specs.PlanJumps.{is_written, after_writes}
use Rattle.start_list.specs.Plans.{bytes_from}
use Rattle.scheme_search.specs.Padded.{jumps}
use Rattle.scheme_search.proofs.ConsecutiveBytes.{length-bytes_from, get_or-bytes_from, same_list}
use Rattle.scheme_search.proofs.CodeCells.{from_fixed}
use Rattle.scheme_search.proofs.OneJumpBytes.{jump_length, code, room, written_is}
use Rattle.scheme_search.proofs.Displacements.{one_displacement}

-- What is spelled for the jump is its bytes.
pub spelled_code : (site : StartEntry) (p t : ℕ) (bytes : List ℕ) → site.addr + p + 5 < 2 ^ 31 → t < 2 ^ 31 → IsJump site.addr p 0x40 (pos t) bytes → bytes ≡ code site p t
spelled_code site p t bytes l h j =
    j.spelled ∙ ap (λ (ds : List ℕ). replicate p 0x40 ++ 0xE9 ∷ ds) (one_displacement (site.addr + p + 5) t j.displacement (omega arith) l h j.leads)

-- The bytes that the jump writes are those that stand there afterwards.
pub after_is : (v : TurnView) (site : StartEntry) (p t n : ℕ) → n ≡ min site.len (p + 5) → site.addr + p + 5 < 2 ^ 31 → IsFixed (after_writes (memory_now v) (jumps site p t)) site.addr (code site p t)
    → take n (code site p t) ≡ bytes_from (after_writes (memory_now v) (jumps site p t)) site.addr n
after_is v site p t n e l h =
    let m = after_writes (memory_now v) (jumps site p t) in
    let long = jump_length p 0x40 (site.addr + p + 5) t in
    let some = length-take n (code site p t) in
    same_list (take n (code site p t)) (bytes_from m site.addr n) (omega (arith, some, long, length-bytes_from m site.addr n))
    (λ i k.
    let few : i < n = omega (arith, some) in
    let f = from_fixed m site.addr (code site p t) (omega (arith, long)) h i (omega (arith, long)) in
    get_or-take n (code site p t) i 0 few ∙ sym f.byte ∙ sym (get_or-bytes_from m site.addr n i few))

-- The jump writes one run: the site's bytes, or its own where these are fewer.
pub written_run : (site : StartEntry) (p t n : ℕ) → n ≡ min site.len (p + 5) → (x : ℕ) → (is_within site.addr n x || false) ≡ is_written (jumps site p t) x
written_run site p t n e x =
    let long = jump_length p 0x40 (site.addr + p + 5) t in
    let same : n ≡ room site p t = omega (arith, long) in
    or-false (is_within site.addr n x) ∙ ap (λ k. is_within site.addr k x) same ∙ sym (written_is site p t x)
