use Rattle.std.proofs.Common.{◌≡◌, ◌↔◌, ℕ, List, length, sym, ap, ◌∙◌, subst}
use Rattle.length_decode.specs.declared.instruction_parts.Shape.{Shape}
use Rattle.length_decode.specs.declared.instruction_parts.Shape.TheVariants.{Known, Unknown, Short}
use Rattle.length_decode.specs.Spelling.{BeginsWith, BeginsWithNone, IsShort}
use Rattle.length_decode.specs.Parse.{parse, shape_from}
use Rattle.length_decode.proofs.ShapeAnswers.{is_known, is_short, is_unknown}
use Rattle.length_decode.proofs.decoding.decode.Goals as goal

pub returns : goal.returns
returns c =
    let bytes = c.args.bytes.now in
    let read = c.shape_in.ensures ∙ ap (λ (w : List ℕ). shape_from (length w) (parse w)) c.window.ensures in
    let e = sym read in
    record {
      known = λ p. subst (λ (z : Shape). (z ≡ Known p) ↔ BeginsWith bytes p) e (is_known bytes p);
      short = subst (λ (z : Shape). (z ≡ Short) ↔ IsShort bytes) e (is_short bytes);
      unknown = subst (λ (z : Shape). (z ≡ Unknown) ↔ (BeginsWithNone bytes × (IsShort bytes → ⊥))) e (is_unknown bytes);
      read = read;
    }
