-- The tables by one byte are the rules, byte by byte.
use Rattle.std.proofs.Common.{◌≡◌, ℕ, ◌<◌, List, map, get_or, None, refl, ap, ◌∙◌, arith}
use Rattle.std.specs.List.{range_with_len}
use Rattle.std.proofs.lemmas.List.FromFn.{get_or-map-range_with_len}
use Rattle.length_decode.specs.Prefix.{is_prefix}
use Rattle.length_decode.specs.Rules.{needs_sib, disp_size}
use Rattle.length_decode.specs.declared.byte_tables.Layout.{Layout}
use Rattle.length_decode.specs.declared.byte_tables.TheConstants.{PREFIXES, LAYOUTS}

-- what follows a ModRM byte
abbrev pub layout_of : ℕ → Layout
layout_of m = record { sib = needs_sib m; disp = disp_size m None }

-- the table of prefix bytes is the rule at each byte
pub prefixes : PREFIXES ≡ map is_prefix (range_with_len 0 256)
prefixes = refl

-- the table of what follows a ModRM byte is the rule at each byte
pub layouts : LAYOUTS ≡ map layout_of (range_with_len 0 256)
layouts = refl

-- a table that lists a rule holds it at each byte
pub held_at : {X : Type 0} (f : ℕ → X) (table : List X) (b i : ℕ) (d : X) → table ≡ map f (range_with_len 0 256) → i ≡ b → b < 256 → get_or table i d ≡ f b
held_at f table b i d e p l = ap (λ z. get_or z i d) e ∙ ap (λ (z : ℕ). get_or (map f (range_with_len 0 256)) z d) p ∙ get_or-map-range_with_len f 0 256 b b d l (omega arith)
