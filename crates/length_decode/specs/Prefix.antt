-- Prefix bytes, and what they say (Intel SDM volume 2, sections 2.1.1 and 2.2.1). Theorems cite it.
use Rattle.std.specs.Prelude.{ℕ, ◌+◌, Bool, ◌||◌, ◌==◌, if◌then◌else◌, List, [], ◌∷◌, length}
use Rattle.std.specs.List.{list_any}
use Rattle.insn_tables.specs.Rows.{within, among}
use Rattle.length_decode.specs.declared.instruction_parts.Prefixes.{Prefixes}
use Rattle.length_decode.specs.declared.prefix_bytes.Lead.{Lead}

-- a REX byte
abbrev pub is_rex : ℕ → Bool
is_rex b = within 0x40 0x4f b

-- operand and address size, lock, repne, rep, the six segments, and REX
abbrev pub is_prefix : ℕ → Bool
is_prefix b = among (0x66 ∷ 0x67 ∷ 0xf0 ∷ 0xf2 ∷ 0xf3 ∷ 0x26 ∷ 0x2e ∷ 0x36 ∷ 0x3e ∷ 0x64 ∷ 0x65 ∷ []) b || is_rex b

-- the byte stands among the prefixes
abbrev pub has : ℕ → List ℕ → Bool
has b ps = list_any (λ p. p == b) ps

-- which prefix bytes stand there; the segments 26, 2E, 36 and 3E are not told
abbrev pub prefixes_of : List ℕ → Prefixes
prefixes_of ps =
    record { lock = has 0xf0 ps; repne = has 0xf2 ps; rep = has 0xf3 ps; opsize = has 0x66 ps; addrsize = has 0x67 ps; fs = has 0x64 ps; gs = has 0x65 ps }

-- the effective REX byte is the last prefix byte where that is a REX byte, else 0; earlier REX bytes are ignored
abbrev pub rex_of : List ℕ → ℕ
rex_of [] = 0
rex_of (p ∷ []) = if is_rex p then p else 0
rex_of (p ∷ q ∷ ps) = rex_of (q ∷ ps)

-- what the prefix bytes say
abbrev pub lead_of : List ℕ → Lead
lead_of ps = record { count = length ps; prefixes = prefixes_of ps; rex = rex_of ps; any_rex = list_any is_rex ps }

-- with one more prefix byte, behind the others
abbrev pub prefixes_after : Prefixes → ℕ → Prefixes
prefixes_after ps p =
    record {
      lock = ps.lock || p == 0xf0;
      repne = ps.repne || p == 0xf2;
      rep = ps.rep || p == 0xf3;
      opsize = ps.opsize || p == 0x66;
      addrsize = ps.addrsize || p == 0x67;
      fs = ps.fs || p == 0x64;
      gs = ps.gs || p == 0x65;
    }

-- what they say with one more
abbrev pub lead_after : Lead → ℕ → Lead
lead_after lead p = record { count = lead.count + 1; prefixes = prefixes_after lead.prefixes p; rex = if is_rex p then p else 0; any_rex = lead.any_rex || is_rex p }
