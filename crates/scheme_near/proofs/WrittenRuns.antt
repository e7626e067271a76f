-- What the plan of a good choice of scheme T3 writes, by which of its jumps touch.
use Rattle.std.proofs.Common.{◌≡◌, ℕ, ◌+◌, ◌-◌, ◌<◌, ◌≤◌, min, Bool, List, [], ◌∷◌, ◌++◌, length, sym, ◌∙◌, subst}
use Rattle.pun_base.specs.Memory.{Bytes}
use Rattle.pun_base.specs.declared.plan.Write.{Write}
use Rattle.start_list.specs.PlanJumps.{is_written, after_writes}
use Rattle.start_list.specs.TurnViews.{memory_now}
use Rattle.start_list.specs.Turning.{view_of}
use Rattle.start_list.specs.Plans.{AreRuns, Run, bytes_from}
use Rattle.scheme_search.specs.declared.site_turn.SiteTurn.{SiteTurn}
use Rattle.scheme_search.proofs.WrittenBytes.{told_write}
use Rattle.scheme_near.specs.declared.choice.Choice.{Choice}
use Rattle.scheme_near.specs.Choices.{jumps}
use Rattle.scheme_near.specs.Written.{IsReady, IsWritten, short_jump_bytes, outer_jump_bytes, inner_jump_bytes}
use Rattle.scheme_near.proofs.ChosenPlans.{IsTold, is_told, outer_inner, short_outer, short_all}

module _ (here : SiteTurn) (d : Choice) (r : IsReady here d) where
  -- Memory before the writes, and after them.
  abbrev before : Bytes
  before = memory_now (view_of here.turn)

  abbrev after : Bytes
  after = after_writes before (jumps here.site d)

  -- The addresses that are written.
  abbrev set : ℕ → Bool
  set = is_written (jumps here.site d)

  -- How many bytes the victim's own jump has before the jump inside, and that one in the victim.
  abbrev outer_count : ℕ
  outer_count = min d.offset 5

  abbrev inner_count : ℕ
  inner_count = min (d.victim.len - d.offset) 5

  -- What the choice tells.
  k : IsTold here d r.good
  k = is_told here d r.good

  -- A write of these bytes from an address on, over those that stand there.
  pub record Puts (a : ℕ) (bs : List ℕ) (w : Write) : Type 0 where
    pub at : w.addr ≡ a
    pub was : w.was ≡ bytes_from before a (length bs)
    pub now : w.now ≡ bs

  -- A write from an equal address on, of equal bytes, is one.
  pub puts : (a b : ℕ) (bs cs : List ℕ) (w : Write) → b ≡ a → cs ≡ bs → w.addr ≡ b → w.was ≡ bytes_from before b (length cs)
      → w.now ≡ cs → Puts a bs w
  puts a b bs cs w p q at was now = record { at = at ∙ p; was = was ∙ (λ i. bytes_from before (p i) (length (q i))); now = now ∙ q }

  -- One write is the plan's where the victim begins after the short jump and its jumps touch.
  pub one_put : here.site.addr + 2 ≡ d.victim.addr → d.offset ≤ 5 → (w : Write)
      → Puts here.site.addr (short_jump_bytes here.site d ++ (outer_jump_bytes d ++ inner_jump_bytes d)) w → IsWritten here d (w ∷ [])
  one_put touch near w p =
      let f = told_write before after here.site.addr (2 + (outer_count + inner_count)) _ w p.at p.was p.now
      (short_all here d r.good k touch near) in
      record {
        runs = subst (λ (rs : List Run). AreRuns set rs) (λ i. sym f.run i ∷ []) (k.one touch near);
        tells = (f.tells, tt);
      }

  -- Two are where the victim begins after the short jump and its jumps don't touch.
  pub front_put : here.site.addr + 2 ≡ d.victim.addr → 5 < d.offset → (w x : Write)
      → Puts here.site.addr (short_jump_bytes here.site d ++ outer_jump_bytes d) w → Puts (d.victim.addr + d.offset) (inner_jump_bytes d) x
      → IsWritten here d (w ∷ x ∷ [])
  front_put touch far w x p q =
      let f = told_write before after here.site.addr (2 + outer_count) _ w p.at p.was p.now
      (short_outer here d r.good k touch) in
      let g = told_write before after (d.victim.addr + d.offset) inner_count _ x q.at q.was q.now k.inners in
      record {
        runs = subst (λ (rs : List Run). AreRuns set rs) (λ i. sym f.run i ∷ sym g.run i ∷ []) (k.front touch far);
        tells = (f.tells, (g.tells, tt));
      }

  -- Two are where the victim begins above the short jump and its jumps touch.
  pub back_put : here.site.addr + 2 < d.victim.addr → d.offset ≤ 5 → (w x : Write) → Puts here.site.addr (short_jump_bytes here.site d) w
      → Puts d.victim.addr (outer_jump_bytes d ++ inner_jump_bytes d) x → IsWritten here d (w ∷ x ∷ [])
  back_put apart near w x p q =
      let f = told_write before after here.site.addr 2 _ w p.at p.was p.now k.shorts in
      let g = told_write before after d.victim.addr (outer_count + inner_count) _ x q.at q.was q.now
      (outer_inner here d r.good k near) in
      record {
        runs = subst (λ (rs : List Run). AreRuns set rs) (λ i. sym f.run i ∷ sym g.run i ∷ []) (k.back apart near);
        tells = (f.tells, (g.tells, tt));
      }

  -- Three are where no two jumps touch.
  pub apart_put : here.site.addr + 2 < d.victim.addr → 5 < d.offset → (w x y : Write) → Puts here.site.addr (short_jump_bytes here.site d) w
      → Puts d.victim.addr (outer_jump_bytes d) x → Puts (d.victim.addr + d.offset) (inner_jump_bytes d) y
      → IsWritten here d (w ∷ x ∷ y ∷ [])
  apart_put apart far w x y p q s =
      let f = told_write before after here.site.addr 2 _ w p.at p.was p.now k.shorts in
      let g = told_write before after d.victim.addr outer_count _ x q.at q.was q.now k.outers in
      let h = told_write before after (d.victim.addr + d.offset) inner_count _ y s.at s.was s.now k.inners in
      record {
        runs = subst (λ (rs : List Run). AreRuns set rs) (λ i. sym f.run i ∷ sym g.run i ∷ sym h.run i ∷ []) (k.apart apart far);
        tells = (f.tells, (g.tells, (h.tells, tt)));
      }
