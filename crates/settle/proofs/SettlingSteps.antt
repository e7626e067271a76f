-- What settling finds, step by step, is the first refusal, or the settled file.
use Rattle.std.proofs.Common.{◌≡◌, ℕ, ◌+◌, ◌%◌, ◌^◌, ◌<◌, ◌≤◌, List, ◌++◌, length, Option, Some, None, option_map, sym, ap, ◌∙◌, subst, arith}
use Rattle.elf_read.specs.declared.refusal.ElfError.{ElfError}
use Rattle.elf_read.specs.declared.refusal.ElfError.TheVariants as elf
use Rattle.elf_read.specs.Refusals as files
use Rattle.elf_read.specs.Entries.{table_place, table_count, entry_of, segments}
use Rattle.elf_emit.proofs.OriginalFacts.{fits_from}
use Rattle.settle.specs.declared.error.SettleError.{SettleError}
use Rattle.settle.specs.declared.error.SettleError.TheVariants.{Settled, Memory}
use Rattle.settle.specs.Settled.{front_with, own_table, settled_table, settled}
use Rattle.settle.specs.Refusals.{header_refusal, or_later, entries_refusal, settled_refusal, places_refusal, settle_refusal, Refused}
use Rattle.settle.specs.Laws.{IsReadable}
use Rattle.settle.specs.Settling.{IsJudged, settled_error}
use Rattle.settle.proofs.TakenFiles.{refused_with, length_with, unrefused_is_taken}

module _ (b : ℕ) (file : List ℕ) where
  -- the first refusal is told
  refused_as : (e : SettleError) → settle_refusal b file ≡ Some e → Refused b file e
  refused_as Memory h = tt
  refused_as e h = h

  -- want of memory may come in place of any
  pub lost : (e : SettleError) → e ≡ Memory → Refused b file e
  lost e h = subst (Refused b file) (sym h) tt

  -- a rule of the header is broken
  pub by_header : (e : SettleError) → header_refusal file ≡ Some e → Refused b file e
  by_header e h = refused_as e (ap (λ (o : Option SettleError). or_later o (or_later (entries_refusal b (length file) (segments file)) (or_later (settled_refusal b file) (places_refusal file)))) h)

  module _ (n : header_refusal file ≡ None) where
    behind_header : settle_refusal b file ≡ or_later (entries_refusal b (length file) (segments file)) (or_later (settled_refusal b file) (places_refusal file))
    behind_header = ap (λ (o : Option SettleError). or_later o (or_later (entries_refusal b (length file) (segments file)) (or_later (settled_refusal b file) (places_refusal file)))) n

    -- or one of the entries
    pub by_entries : (e : SettleError) → entries_refusal b (length file) (segments file) ≡ Some e → Refused b file e
    by_entries e h = refused_as e (behind_header ∙ ap (λ (o : Option SettleError). or_later o (or_later (settled_refusal b file) (places_refusal file))) h)

    module _ (m : entries_refusal b (length file) (segments file) ≡ None) where
      behind_entries : settle_refusal b file ≡ or_later (settled_refusal b file) (places_refusal file)
      behind_entries = behind_header ∙ ap (λ (o : Option SettleError). or_later o (or_later (settled_refusal b file) (places_refusal file))) m

      module _ (readable : IsReadable file) (base : b < 2 ^ 64) (few : length (segments file) ≤ 1023) (phdr entry : ℕ) (out : List ℕ) (is : out ≡ front_with b file (segments file) phdr entry ++ file) where
        -- what the written file breaks the settled file breaks
        same_refusal : files.refusal 0x20000 out ≡ files.entry_refusal 0x20000 (length (settled b file)) (settled_table b (segments file))
        same_refusal =
            let ss = segments file in
            let more : length ss + 1 < 2 ^ 16 = omega (arith, few) in
            let fits = fits_from (table_count file) (table_place file) file readable.bytes in
            let one = length_with b file ss phdr entry in let other = length_with b file ss (own_table b file) (b + entry_of file) in
            ap (files.refusal 0x20000) is ∙ refused_with b file ss phdr entry base more fits
            ∙ ap (λ (l : ℕ). files.entry_refusal 0x20000 l (settled_table b ss)) (one ∙ sym other)

        -- or one of the settled file
        pub by_judging : (e : SettleError) → IsJudged out (Some e) → Refused b file e
        by_judging e h = step h.0 h.1 h.2
          where
            step : (error : ElfError) → e ≡ settled_error error → files.Refused 0x20000 out error → Refused b file e
            step elf.Memory q r = lost e q
            step error q r =
                refused_as e (behind_entries ∙ ap (λ (o : Option ElfError). or_later (option_map Settled o) (places_refusal file)) (sym same_refusal ∙ r) ∙ ap Some (sym q))

        module _ (j : IsJudged out None) where
          behind_judging : settle_refusal b file ≡ places_refusal file
          behind_judging = behind_entries ∙ ap (λ (o : Option ElfError). or_later (option_map Settled o) (places_refusal file)) (sym same_refusal ∙ j)

          -- or the last ones
          pub by_places : (e : SettleError) → places_refusal file ≡ Some e → Refused b file e
          by_places e h = refused_as e (behind_judging ∙ h)

          -- where none is broken, the written file is the settled one
          pub done : places_refusal file ≡ None → phdr ≡ own_table b file % 2 ^ 32 → entry ≡ (b + entry_of file) % 2 ^ 32
              → (settle_refusal b file ≡ None) × (out ≡ settled b file)
          done h p q =
              let k = behind_judging ∙ h in
              let t = (unrefused_is_taken b file readable k).placeable in
              let t0 = t.table in let t1 = t.entry in
              let p' : phdr ≡ own_table b file = omega (arith, p, t0) in
              let q' : entry ≡ b + entry_of file = omega (arith, q, t1) in
              (k, is ∙ (λ i. front_with b file (segments file) (p' i) (q' i) ++ file))
