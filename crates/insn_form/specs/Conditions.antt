-- When a condition code is met by the flags (Intel SDM, volume 1, appendix B, table B-1). Theorems cite it.
use Rattle.std.specs.Prelude.{ℕ, Bool, not, ◌&&◌, ◌||◌, ◌==◌, if◌then◌else◌}
use Rattle.cpu_alu.specs.declared.flag_word.Flags.{Flags}
use Rattle.cpu_alu.specs.Arithmetic.{differ}

unfoldable pub is_met : ℕ → Flags → Bool
is_met cc f =
    if cc == 0x0 then f.of
    else (if cc == 0x1 then not f.of
    else (if cc == 0x2 then f.cf
    else (if cc == 0x3 then not f.cf
    else (if cc == 0x4 then f.zf
    else (if cc == 0x5 then not f.zf
    else (if cc == 0x6 then f.cf || f.zf
    else (if cc == 0x7 then not f.cf && not f.zf
    else (if cc == 0x8 then f.sf
    else (if cc == 0x9 then not f.sf
    else (if cc == 0xa then f.pf
    else (if cc == 0xb then not f.pf
    else (if cc == 0xc then differ f.sf f.of
    else (if cc == 0xd then not (differ f.sf f.of)
    else (if cc == 0xe then f.zf || differ f.sf f.of
    else not f.zf && not (differ f.sf f.of)))))))))))))))
