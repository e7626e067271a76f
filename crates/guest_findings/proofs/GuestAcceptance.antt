-- No guest is refused, and its patched file is accepted.
use Rattle.std.proofs.Common.{◌≡◌, inl, ℕ, suc, ◌+◌, ◌*◌, ◌^◌, ◌<◌, ◌≤◌, true, List, [], ◌∷◌, ◌++◌, length, map, filter, Some, None, Ok, refl, sym, ap, ◌∙◌, subst, arith}
use Rattle.std.specs.Prelude.{Contains}
use Rattle.std.specs.List.{AllByRecursion}
use Rattle.std.specs.Option.{is_some}
use Rattle.std.proofs.lemmas.Bool.{cond-true}
use Rattle.std.proofs.lemmas.List.{length-map}
use Rattle.std.proofs.lemmas.List.Elements.{All-from_recursion}
use Rattle.pun_base.specs.declared.action.Action.TheVariants.{Count}
use Rattle.elf_read.specs.declared.segment.Segment.{Segment}
use Rattle.elf_read.specs.Entries.{segments, is_load, loads}
use Rattle.elf_read.specs.Refusals.{refusal}
use Rattle.elf_read.proofs.ChunkImages.{filter-is_load}
use Rattle.elf_read.proofs.PlainImages.{is_load-text_segment}
use Rattle.page_group.specs.Pages.{IsPageList}
use Rattle.page_group.specs.Grouping.{pages}
use Rattle.address_space.specs.declared.extent.Extent.{Extent}
use Rattle.pun_base.specs.Least.{Least}
use Rattle.address_space.specs.Fit.{FitsPages}
use Rattle.address_space.specs.Free.{Misses, whole_pages}
use Rattle.elf_emit.specs.declared.built.Built.{Built}
use Rattle.elf_emit.specs.declared.emit.EmitError.TheVariants as emit
use Rattle.elf_emit.specs.Emits.{range_of, page_of_home}
use Rattle.elf_emit.specs.Frames.{entries}
use Rattle.elf_emit.specs.Layout.{is_other, frame_of, count, layout}
use Rattle.elf_emit.proofs.JobImageParts.{layout_loads}
use Rattle.elf_emit.proofs.PageRuns.{job_frame}
use Rattle.elf_emit.proofs.OriginalFacts.{facts_of}
use Rattle.elf_emit.proofs.WrittenTable.{reads_back, length_entries}
use Rattle.start_entries.specs.declared.entry.StartEntry.{StartEntry}
use Rattle.start_entries.specs.Finding.{entry_at}
use Rattle.start_entries.proofs.EntrySearch.{listed_found}
use Rattle.start_entries.proofs.StartsSoFar.{addresses-entries}
use Rattle.site_turns.specs.declared.error.TurnError.TheVariants as turn
use Rattle.site_turns.specs.PrivateRange.{pages_of, pages_for}
use Rattle.site_turns.specs.Planning.{first_unlisted, taken_at_first, private_pages}
use Rattle.site_turns.specs.PlanLaws.{IsAsked, job_for}
use Rattle.site_turns.proofs.PlannedJobs.{planned_is_job}
use Rattle.rewrite_core.specs.declared.rewrite.RewriteError.TheVariants as rewrite
use Rattle.rewrite_core.specs.Asked.{IsInOrder, request_of}
use Rattle.rewrite_core.specs.Judging.{Job, IsJobFor, Judges}
use Rattle.rewrite_core.specs.Rewrites.{file_of}
use Rattle.rewrite_core.proofs.OneVerdict.{asked_of}
use Rattle.guest_gen.specs.Files.{guest_file}
use Rattle.guest_gen.specs.Texts.{guest_text, guest_starts, guest_sites}
use Rattle.guest_gen.proofs.StartsAndSites.{guests_listed}
use Rattle.guest_gen.proofs.GuestImages.{both, length_file, segments-file}
use Rattle.guest_gen.proofs.TextSizes.{text_size}
use Rattle.guest_findings.specs.Findings.{guest_asked, guest_listed, NoGuestIsRefused}
use Rattle.guest_findings.specs.GuestLaws.{GuestOutsAreAccepted, GuestTablesAreShort}
use Rattle.command_words.specs.Words.{most_blocks}
use Rattle.guest_findings.proofs.CodeBounds.{built_few}
use Rattle.guest_findings.proofs.PageBounds.{IsShort, pages_few, count_few}
use Rattle.guest_findings.proofs.GuestBytes.{guest_bytes}
use Rattle.guest_findings.proofs.GuestStarts.{guest_starts_stand}

-- ---- what is asked of a guest

-- it is in order
pub guest_in_order : (seed n : ℕ) → 1 ≤ n → n ≤ most_blocks → IsInOrder (guest_asked seed n)
guest_in_order seed n some most =
    let l = guests_listed seed n some most in
    record {
      bytes = guest_bytes seed n;
      starts = l.starts_ascend;
      sites = l.sites_ascend;
      few = let k = l.few in omega arith;
    }

-- so a guest can be planned for
pub guest_is_asked : (seed n : ℕ) → 1 ≤ n → n ≤ most_blocks → IsAsked (request_of (guest_asked seed n))
guest_is_asked seed n some most =
    asked_of (guest_asked seed n) (guest_in_order seed n some most) (guest_starts_stand seed n some most)

-- the text is short
short_text : (seed n : ℕ) → n ≤ most_blocks → length (guest_text seed n) ≤ 480016
short_text seed n most = let s = (text_size seed n).1 in omega arith

-- and so is the file
pub guest_size : (seed n : ℕ) → n ≤ most_blocks → length (guest_file seed n) < 2 ^ 63
guest_size seed n most =
    let l = short_text seed n most in
    let e : length (guest_file seed n) ≡ 4096 + length (guest_text seed n) = length_file (guest_text seed n) in
    omega arith

-- the file has two entries
guest_segments : (seed n : ℕ) → n ≤ most_blocks → segments (guest_file seed n) ≡ both (length (guest_text seed n))
guest_segments seed n most = let l = short_text seed n most in segments-file (guest_text seed n) (omega arith)

-- which are loaded
guest_loads : (seed n : ℕ) → n ≤ most_blocks → loads (segments (guest_file seed n)) ≡ both (length (guest_text seed n))
guest_loads seed n most =
    let k = length (guest_text seed n) in
    ap (filter is_load) (guest_segments seed n most)
    ∙ filter-is_load (both k) (is_load-text_segment k (text_size seed n).0, (refl, tt))

-- ---- each site is listed

-- sites that are found are listed
none_unlisted : (es : List StartEntry) (ss : List ℕ) → ((s : ℕ) → Contains ss s → is_some (entry_at es s) ≡ true)
    → first_unlisted es ss ≡ None
none_unlisted es [] h = refl
none_unlisted es (s ∷ ss) h =
    cond-true (is_some (entry_at es s)) (first_unlisted es ss) (Some s) (h s (0, omega arith, refl))
    ∙ none_unlisted es ss (λ x c. h x (suc c.0, (let l = c.1 in omega arith), c.2))

-- so are those of a guest
sites_are_listed : (seed n : ℕ) → 1 ≤ n → n ≤ most_blocks → first_unlisted (guest_listed seed n) (guest_sites seed n) ≡ None
sites_are_listed seed n some most =
    let l = guests_listed seed n some most in
    let same = addresses-entries (guest_file seed n) (guest_starts seed n) in
    none_unlisted (guest_listed seed n) (guest_sites seed n)
    (λ s c. listed_found (guest_listed seed n) s (subst (λ (xs : List ℕ). Contains xs s) (sym same) (l.sites_listed s c)))

-- ---- there is a private range

-- counters of so few sites take one page
one_page : (k : ℕ) → k ≤ 250 → pages_for Count k ≡ 1
one_page k l = omega arith

-- the pages of segments, where none is reserved
abbrev loaded_pages : List Segment → List Extent
loaded_pages ss = map (λ (s : Segment). pages_of s.vaddr s.memsz) ss ++ map whole_pages []

-- the page at 0x20000 is apart from those of the file
page_missed : (n : ℕ) → AllByRecursion (Misses 0x20000 4096) (loaded_pages (both n))
page_missed n = (inl (omega arith), (inl (omega arith), tt))

-- so it is free
page_fits : (taken : List Extent) → AllByRecursion (Misses 0x20000 4096) taken → FitsPages taken 1 0x20000
page_fits taken h = record {
  page = (32, refl);
  free = record { above = omega arith; below = omega arith; misses = All-from_recursion (Misses 0x20000 4096) taken h };
}

-- and it can be the private range
has_private : (seed n : ℕ) → 1 ≤ n → n ≤ most_blocks
    → Least (FitsPages (taken_at_first (request_of (guest_asked seed n))) (private_pages (request_of (guest_asked seed n)))) None → ⊥
has_private seed n some most none =
    let taken = taken_at_first (request_of (guest_asked seed n)) in
    let size : private_pages (request_of (guest_asked seed n)) ≡ 1 =
    one_page (length (guest_sites seed n)) (guests_listed seed n some most).few in
    let missed : AllByRecursion (Misses 0x20000 4096) taken =
    subst (λ (ss : List Segment). AllByRecursion (Misses 0x20000 4096) (loaded_pages ss)) (sym (guest_loads seed n most))
    (page_missed (length (guest_text seed n))) in
    none 0x20000 (subst (λ (k : ℕ). FitsPages taken k 0x20000) (sym size) (page_fits taken missed))

-- ---- the table has room

-- short code has short ranges
ranges_short : (bs : List Built) → AllByRecursion (λ (b : Built). length b.code.bytes ≤ 131) bs → AllByRecursion IsShort (map range_of bs)
ranges_short [] h = tt
ranges_short (b ∷ bs) h = let l = h.0 in (omega arith, ranges_short bs h.1)

-- a job of a guest has few entries
entries_few : (seed n : ℕ) → 1 ≤ n → n ≤ most_blocks → (j : Job) → IsJobFor (request_of (guest_asked seed n)) j → count j.emit ≤ 1004
entries_few seed n some most j h =
    let q = request_of (guest_asked seed n) in
    let built = h.planned.built in
    let homes = h.groups.homes in
    let job = job_for q h.planned h.groups in
    let b = built_few q h.turns h.planned (guest_is_asked seed n some most) tt h.is_planned in
    let sites : length q.sites ≤ 250 = (guests_listed seed n some most).few in
    let pieces : length built ≤ 2 * length q.sites = b.1 in
    let list : IsPageList (map range_of built) (pages homes) =
    subst (λ (ps : List (ℕ × ℕ)). IsPageList ps (pages homes)) h.are_groups.0 h.are_groups.1.listed in
    let few = pages_few (map range_of built) (pages homes) (ranges_short built b.0) list in
    let as_built = length-map built range_of in
    let as_homes = length-map homes (λ (home : ℕ × ℕ). home.0) in
    let as_pages = length-map homes page_of_home in
    let other : length (filter is_other (segments q.file)) ≡ 0 =
    ap (λ (ss : List Segment). length (filter is_other ss)) (guest_segments seed n most) in
    let old : length (loads (segments q.file)) ≡ 2 = ap (λ (ss : List Segment). length ss) (guest_loads seed n most) in
    let small : count job ≤ 1004 = count_few job 1000 other old (omega arith) in
    subst (λ (z : Job). count z.emit ≤ 1004) (sym h.is) small

-- ---- the laws

-- each refusal contradicts what a guest is
pub no_guest_refused : NoGuestIsRefused
no_guest_refused seed n some most (rewrite.Elf e) h = let k = (guest_starts_stand seed n some most).accepted in absurd cc
no_guest_refused seed n some most (rewrite.Start e) h =
    let k = (guest_starts_stand seed n some most).none in let l = h.1 in absurd cc
no_guest_refused seed n some most (rewrite.Turn (turn.NotListed site)) h =
    let k = sites_are_listed seed n some most in let l = h.1 in absurd cc
no_guest_refused seed n some most (rewrite.Turn (turn.NoPrivate p)) h = has_private seed n some most h.1.2
no_guest_refused seed n some most (rewrite.Turn turn.Memory) h = h
no_guest_refused seed n some most (rewrite.Emit (emit.TooManySegments m)) h =
    let many = h.1.many in let few = entries_few seed n some most h.1.job h.1.is_job in omega arith
no_guest_refused seed n some most (rewrite.Emit emit.WriteFault) h = h
no_guest_refused seed n some most (rewrite.Emit emit.Memory) h = h
no_guest_refused seed n some most rewrite.Memory h = h

-- the job of a guest writes a file that is accepted
pub guest_out_accepted : GuestOutsAreAccepted
guest_out_accepted seed n some most j h =
    let q = request_of (guest_asked seed n) in
    let b = h.1.is_job in
    let asked = guest_is_asked seed n some most in
    let job = planned_is_job q b.turns b.planned b.groups asked b.is_planned b.are_groups (guest_size seed n most) in
    let few : count (job_for q b.planned b.groups) ≤ 1024 = subst (λ (z : Job). count z.emit ≤ 1024) b.is h.1.few in
    subst (λ (z : Job). refusal 0x10000 (file_of z) ≡ None) (sym b.is) (layout_loads (job_for q b.planned b.groups) job few).accepted

-- the table of a guest's job is short
pub guest_tables_short : GuestTablesAreShort
guest_tables_short seed n some most j h = entries_few seed n some most j h.1.is_job

-- the patched file has the table that the job counts
pub guest_entries : (seed blocks : ℕ) → 1 ≤ blocks → blocks ≤ most_blocks → (j : Job) → Judges (guest_asked seed blocks) (Ok j)
    → length (segments (file_of j)) ≡ count j.emit
guest_entries seed n some most j h =
    let q = request_of (guest_asked seed n) in
    let b = h.1.is_job in
    let asked = guest_is_asked seed n some most in
    let made = job_for q b.planned b.groups in
    let is_job = planned_is_job q b.turns b.planned b.groups asked b.is_planned b.are_groups (guest_size seed n most) in
    let few : count made ≤ 1024 = subst (λ (z : Job). count z.emit ≤ 1024) b.is h.1.few in
    let framed = job_frame made is_job in
    let back : segments (layout made) ≡ entries (frame_of made) = reads_back (frame_of made) (facts_of (frame_of made) framed few) framed in
    subst (λ (z : Job). length (segments (file_of z)) ≡ count z.emit) (sym b.is)
    (ap (λ (ss : List Segment). length ss) back ∙ length_entries (frame_of made))
