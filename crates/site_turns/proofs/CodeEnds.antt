-- Code of what was planned has bytes, and ends where addresses of a program end at the latest.
use Rattle.std.proofs.Common.{◌≡◌, ℕ, ◌+◌, ◌-◌, ◌≤◌, true, List, [], ◌∷◌, length, Option, Some, unwrap_or, ap, ◌∙◌, arith}
use Rattle.std.specs.List.{AllByRecursion}
use Rattle.pun_base.specs.Ranges.{is_within}
use Rattle.elf_emit.specs.declared.built.Built.{Built}
use Rattle.elf_emit.proofs.StayingSegments.{all_map}
use Rattle.scheme_search.proofs.OneJumpBytes.{within_true}
use Rattle.start_entries.specs.Standing.{AreEntries}
use Rattle.sound_images.specs.Reports.{Line}
use Rattle.site_turns.specs.Modes.{TurnRules, event_rules}
use Rattle.site_turns.specs.Folded.{Done, IsNewlyTaken, done_by, in_code, code_size}
use Rattle.site_turns.specs.Laws.{SchemeLeads}
use Rattle.site_turns.specs.Planning.{Request, Turns, AreTurnsUnder, IsPlanned, scene_under, end_under}
use Rattle.site_turns.specs.PlannedState.{EndsLow, PlannedState}
use Rattle.site_turns.specs.PlanLaws.{IsAsked}
use Rattle.site_turns.specs.States.{Scene}
use Rattle.site_turns.proofs.LoadedJobs.{five_lead}
use Rattle.site_turns.proofs.RequestScene.{entries_are, folded}
use Rattle.site_turns.proofs.CodeAddresses.{AreSized, code_some}
use Rattle.site_turns.proofs.PlannedJobs.{sizes_so}

-- code at a place has bytes, and ends so
pub record Fits (place : ℕ) (code : List ℕ) : Type 0 where
  pub some : 1 ≤ length code
  pub low : place + length code ≤ 0x7FFF0000

-- the code of a piece has bytes, and ends so
abbrev pub IsFitting : Built → Type 0
IsFitting b = Fits b.place b.code.bytes

-- such code ends among addresses of 32 bits
pub fitting_end_low : (bs : List Built) → AllByRecursion IsFitting bs → AllByRecursion EndsLow bs
fitting_end_low bs = all_map IsFitting EndsLow bs (λ b f. let l = f.low in record { some = f.some; low = omega (arith, l) })

module _ (g : Scene) (d : Done) (A : AreEntries g.image g.entries) where
  -- a trampoline's code is taken, byte by byte
  abbrev IsTaken : Line → Type 0
  IsTaken l = (x : ℕ) → in_code g x l ≡ true → IsNewlyTaken g d x

  -- where a line's code is taken so, it has bytes, and ends among a program's addresses
  pub line_fits : (l : Line) → IsTaken l → (n : ℕ) → code_size g l ≡ Some n → (1 ≤ n) × (l.tramp.place + n ≤ 0x7FFF0000)
  line_fits l taken n size =
      let some = code_some g A l n size in
      let last : ℕ = l.tramp.place + (n - 1) in
      let within : is_within l.tramp.place n last ≡ true =
      within_true l.tramp.place n last (omega arith) (omega arith) in
      let high = (taken last (ap (λ (o : Option ℕ). is_within l.tramp.place (unwrap_or o 0) last) size ∙ within)).high in
      (some, omega (arith, high))

  -- each piece of lines whose code is taken has bytes, and ends among a program's addresses
  pub all_fit : (ls : List Line) (bs : List Built) → AllByRecursion IsTaken ls → AreSized g ls bs → AllByRecursion IsFitting bs
  all_fit [] [] k s = tt
  all_fit [] (b ∷ bs) k s = absurd s
  all_fit (l ∷ ls) [] k s = absurd s
  all_fit (l ∷ ls) (b ∷ bs) k s =
      let f = line_fits l k.0 (length b.code.bytes) s.1 in
      (record { some = f.0; low = omega (arith, s.0, f.1) }, all_fit ls bs k.1 s.2)

-- all code of the sizes that turns took has bytes and ends low enough, by any rules whose schemes' plans lead
pub fits_under : (r : TurnRules) → AllByRecursion SchemeLeads r.schemes → (q : Request) (t : Turns) (a : IsAsked q) → AreTurnsUnder r q t
    → (bs : List Built) → AreSized (scene_under r q t) (done_by (end_under r q t)).lines bs → AllByRecursion IsFitting bs
fits_under r lead q t a h bs s =
    all_fit (scene_under r q t) (done_by (end_under r q t)) (entries_are q a) (done_by (end_under r q t)).lines bs
    (folded r q t h lead (entries_are q a)).kept.taken s

-- all code of what was planned has bytes, and ends among a program's addresses
pub built_fits : (q : Request) (t : Turns) (p : PlannedState) → IsAsked q → IsPlanned q t p → AllByRecursion IsFitting p.built
built_fits q t p a h = fits_under (event_rules q.action) five_lead q t a h.turns p.built (sizes_so q t p a h)
