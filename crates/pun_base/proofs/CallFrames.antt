-- What a desk keeps through its calls.
use Rattle.std.proofs.Common.{◌≡◌, ℕ, List, Option, Some, None, sym, subst, arith}
use Rattle.pun_base.specs.Shown.{Files, DeskState, Told}
use Rattle.pun_base.specs.Desk.{PutResult, Fills, Filled, Stays}
use Rattle.pun_base.proofs.ToldChanges.{told_then, told_map}

-- what is told goes on being told where nothing changes
pub told_on : (s : Option Files) → Told (λ was is. Unit {0}) s s
told_on None = tt
told_on (Some f) = tt

-- a desk that shows the same keeps what it keeps
pub stays_same : (s t : DeskState) → t ≡ s → Stays s t
stays_same s t e = subst (λ (x : DeskState). Stays s x) (sym e) (record { reads = omega arith; writes = omega arith; sure = λ h. h; tells = told_on s.held })

-- so it does through one call and then another
pub stays_then : (s t u : DeskState) → Stays s t → Stays t u → Stays s u
stays_then s t u a b = record {
  reads = let p = a.reads in let q = b.reads in omega arith;
  writes = let p = a.writes in let q = b.writes in omega arith;
  sure = λ h. b.sure (a.sure h);
  tells = told_then (λ was is. Unit {0}) (λ was is. Unit {0}) (λ was is. Unit {0}) s.held t.held u.held (λ f g h p q. tt) a.tells b.tells;
}

-- so through the writing of a whole file
pub stays_filled : (name bytes : List ℕ) (s t : DeskState) (r : PutResult) → Fills name bytes s t r → Stays s t
stays_filled name bytes s t r p = record {
  reads = let e = p.counts.reads in omega arith;
  writes = p.counts.later;
  sure = λ h. (p.counts.sure h).0;
  tells = told_map (Filled name bytes r) (λ was is. Unit {0}) s.held t.held (λ f g q. tt) p.held;
}
