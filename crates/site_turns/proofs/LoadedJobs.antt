-- What a written file loads is what the turns have done, and so it is sound and followed.
use Rattle.std.proofs.Common.{◌≡◌, inl, inr, ℕ, ◌+◌, ◌-◌, ◌/◌, ◌<◌, ◌≤◌, Bool, true, false, cond, ◌&&◌, ◌||◌, leb, ltb, List, [], ◌∷◌, map, length, Option, Some, None, refl, sym, ap, ap₂, ◌∙◌, subst, arith}
use Rattle.std.specs.Prelude.{Contains}
use Rattle.std.specs.Option.{is_some, option_map}
use Rattle.std.specs.List.{AllByRecursion, list_any}
use Rattle.std.proofs.lemmas.Bool.{and_parts, and_from, or_cases, or_left, or_right, cond-true, leb-true, ltb-true, le-leb, lt-ltb, false_from_ne_true, false≢true, true≢false}
use Rattle.pun_base.specs.Memory.{Cell, Bytes, or_else}
use Rattle.pun_base.specs.declared.scheme.Scheme.{Scheme}
use Rattle.elf_read.specs.Entries.{entry_of, segments}
use Rattle.elf_read.specs.Image.{image, image_of}
use Rattle.elf_emit.specs.declared.runs.Page.{Page}
use Rattle.elf_emit.specs.Job.{Job}
use Rattle.elf_emit.specs.Layout.{in_patch}
use Rattle.elf_emit.specs.Laws.{IsJob, IsPage, Shows, is_on, is_claimed, with_writes, private_image, page_chunk, pages_image, IsPlacedIn}
use Rattle.elf_emit.proofs.JobImageParts.{originals_stand, code_stands}
use Rattle.patch_report.proofs.ListPlaces.{found, place_of, all_in, any_at, all_from, In}
use Rattle.start_entries.specs.declared.entry.StartEntry.{StartEntry}
use Rattle.start_entries.specs.Standing.{AreEntries}
use Rattle.start_entries.proofs.ImageEntries.{built_are_entries}
use Rattle.address_space.specs.declared.extent.Extent.{Extent}
use Rattle.sound_images.specs.Reports.{Line, lines, on_page, in_private, private_len}
use Rattle.sound_images.specs.Rules.{HasCode, SharesPage}
use Rattle.sound_images.proofs.StartPairs.{sound_followed}
use Rattle.scheme_search.proofs.OneJumpBytes.{within_parts}
use Rattle.site_turns.specs.States.{Scene, HasEvents, State, first_state, report_of, memory_at}
use Rattle.site_turns.specs.Choices.{Choice, state_after}
use Rattle.site_turns.specs.Folded.{IsFolded, done_by}
use Rattle.site_turns.specs.Loaded.{case_of, zeros, AreShown, IsClaimed, IsLoaded}
use Rattle.site_turns.specs.Jobs.{patch_of, page_of, HasRows, IsJobOf, JobLoads, scene_of, AreTurnsOf, IsLoadFollowed, WrittenIsFollowed, SinglesAreFollowed, AllAreFollowed}
use Rattle.site_turns.proofs.KeptLocks.{within}
use Rattle.site_turns.proofs.PlanRuns.{same_test}
use Rattle.site_turns.proofs.WrittenMemory.{written_is}
use Rattle.site_turns.proofs.SoundImages.{folded_is_sound}
use Rattle.site_turns.specs.Laws.{single, five, SchemeLeads}
use Rattle.site_turns.specs.PrivateRange.{taken_first}
use Rattle.site_turns.proofs.PlansWithOneJump.{singles_lead}
use Rattle.site_turns.proofs.PlansOfT2.{behind_leads}
use Rattle.site_turns.proofs.PlansOfT3.{near_leads}
use Rattle.site_turns.proofs.PrivateRoom.{private_has_room}
use Rattle.site_turns.proofs.TurnFold.{turns_keep, rows_long_after}

-- pages of a job are those of the report
same_pages : (ps : List Page) (x : ℕ)
    → list_any (λ (p : ℕ × ℕ). leb p.0 x && ltb x (p.0 + 4096)) (map page_of ps) ≡ list_any (λ p. is_on p x) ps
same_pages [] x = refl
same_pages (p ∷ ps) x = ap₂ (λ b c. b || c) (same_test p.addr 4096 x) (same_pages ps x)

-- what a page shows
shown_at : (j : Job) (ps : List Page) (x : ℕ) (c : Cell) → image (map (page_chunk j) ps) x ≡ Some c
    → (list_any (λ p. is_on p x) ps ≡ true) × (c.perms ≡ 5)
shown_at j [] x c h = absurd cc
shown_at j (p ∷ ps) x c h = by_test (is_on p x) (image (map (page_chunk j) ps) x) _ h (shown_at j ps x c)
  where
    by_test : (b : Bool) (rest : Option Cell) (v : ℕ) → cond b (Some (record { byte = v; perms = 5 })) rest ≡ Some c
        → (rest ≡ Some c → (list_any (λ p. is_on p x) ps ≡ true) × (c.perms ≡ 5))
        → ((b || list_any (λ p. is_on p x) ps) ≡ true) × (c.perms ≡ 5)
    by_test true rest v e go = let k : record { byte = v; perms = 5 } ≡ c = cc in (refl, sym (ap (λ (z : Cell). z.perms) k))
    by_test false rest v e go = go e

-- a page shows each of its addresses
shows : (j : Job) (ps : List Page) (x : ℕ) → list_any (λ p. is_on p x) ps ≡ true → is_some (image (map (page_chunk j) ps) x) ≡ true
shows j [] x h = absurd (false≢true h)
shows j (p ∷ ps) x h = by_test (is_on p x) (image (map (page_chunk j) ps) x) _ h (shows j ps x)
  where
    by_test : (b : Bool) (rest : Option Cell) (v : ℕ) → (b || list_any (λ p. is_on p x) ps) ≡ true
        → (list_any (λ p. is_on p x) ps ≡ true → is_some rest ≡ true) → is_some (cond b (Some (record { byte = v; perms = 5 })) rest) ≡ true
    by_test true rest v e go = refl
    by_test false rest v e go = go e

-- the second or a later map holds an address
held_second : (t z s m : Option Cell) → is_some z ≡ true → is_some (or_else t (or_else z (or_else s m))) ≡ true
held_second (Some t) z s m h = refl
held_second None (Some z) s m h = refl
held_second None None s m h = absurd (false≢true h)

-- an address that the third of four joined maps holds, their join holds
held_third : (t z s m : Option Cell) → is_some s ≡ true → is_some (or_else t (or_else z (or_else s m))) ≡ true
held_third (Some t) z s m h = refl
held_third None (Some z) s m h = refl
held_third None None (Some s) m h = refl
held_third None None None m h = absurd (false≢true h)

module _ (g : Scene) (t : State) (pages : List (ℕ × ℕ)) (m : Bytes) (j : Job) (f : IsFolded g t) (is : IsJob j) (loads : Shows j m)
    (o : IsJobOf g t pages m j) (fits : HasRows g t) where
  -- the private range, by its ends
  private_is : (x : ℕ) → in_private (report_of g t pages) x ≡ (leb j.private_lo x && ltb x j.private_hi)
  private_is x = ap₂ (λ lo hi. leb lo x && ltb x hi) (sym o.lo) (sym o.hi)

  -- the report's pages are the job's
  page_is : (x : ℕ) → on_page (report_of g t pages) x ≡ list_any (λ p. is_on p x) j.pages
  page_is x = ap (λ ps. list_any (λ (p : ℕ × ℕ). leb p.0 x && ltb x (p.0 + 4096)) ps) (sym o.shown) ∙ same_pages j.pages x

  -- the job's private range is zeros
  zeros_are : (x : ℕ) → private_image j x ≡ zeros g x
  zeros_are x =
      let some = is.private_some in
      let end : j.private_lo + (j.private_hi - j.private_lo) ≡ j.private_hi = omega arith in
      ap (λ b. cond b (Some (record { byte = 0; perms = 6 })) None)
      (sym (same_test j.private_lo (j.private_hi - j.private_lo) x) ∙ ap (λ n. leb j.private_lo x && ltb x n) end ∙ sym (private_is x))

  -- the original with the job's writes is memory as it stands
  writes_are : (x : ℕ) → with_writes j.writes (image_of j.orig) x ≡ memory_at g t x
  writes_are x =
      ap (λ ws. with_writes ws (image_of j.orig) x) o.writes
      ∙ ap (λ (m : Bytes). with_writes (map patch_of (done_by t).runs) m x) (λ i y. o.orig y i)
      ∙ written_is g (done_by t) f.kept x

  -- the map is the table, the private range, the pages for code and memory as it stands
  image_is : (x : ℕ) → m x ≡ or_else (loads.table x) (or_else (zeros g x) (or_else (pages_image j x) (memory_at g t x)))
  image_is x = loads.image x
      ∙ ap₂ (λ z y. or_else (loads.table x) (or_else z (or_else (pages_image j x) y))) (zeros_are x) (writes_are x)

  -- what the pages for code load lies on pages of the report, R-X
  page : (x : ℕ) (c : Cell) → pages_image j x ≡ Some c → (on_page (report_of g t pages) x ≡ true) × (c.perms ≡ 5)
  page x c h = let q = shown_at j j.pages x c h in (page_is x ∙ q.0, q.1)

  -- the original's bytes are loaded as they stand
  originals : (x : ℕ) → is_some (g.image x) ≡ true → m x ≡ memory_at g t x
  originals x h = by_cell (g.image x) refl h
    where
      by_cell : (c : Option Cell) → g.image x ≡ c → is_some c ≡ true → m x ≡ memory_at g t x
      by_cell None e h = absurd (false≢true h)
      by_cell (Some c) e h = originals_stand j m is loads x c (o.orig x ∙ e) ∙ sym (ap (option_map _) (o.orig x ∙ e)) ∙ writes_are x

  -- the code of each line is loaded, R-X, at its place
  code : (l : Line) → In (lines (report_of g t pages)) l → (entry : ℕ) (bytes : List ℕ)
      → HasCode (case_of g t pages m entry) l bytes → AreShown m l.tramp.place bytes
  code l i entry bytes h =
      let c = all_in (λ l. (entry : ℕ) (code : List ℕ) → HasCode (case_of g t pages m entry) l code
      → Contains j.pieces (record { addr = l.tramp.place; now = code })) (lines (report_of g t pages)) l o.pieces i entry bytes h in
      all_in (IsPlacedIn m) j.pieces (record { addr = l.tramp.place; now = bytes }) (code_stands j m is loads) (place_of j.pieces _ c)

  -- the code of each line lies on pages of the report
  covered : (l : Line) → In (lines (report_of g t pages)) l → (entry : ℕ) (bytes : List ℕ)
      → HasCode (case_of g t pages m entry) l bytes
      → (x : ℕ) → l.tramp.place ≤ x → x < l.tramp.place + length bytes → on_page (report_of g t pages) x ≡ true
  covered l i entry bytes h x lo hi =
      let c = all_in (λ l. (entry : ℕ) (code : List ℕ) → HasCode (case_of g t pages m entry) l code
      → Contains j.pieces (record { addr = l.tramp.place; now = code })) (lines (report_of g t pages)) l o.pieces i entry bytes h in
      let p = place_of j.pieces (record { addr = l.tramp.place; now = bytes }) c in
      page_is x ∙ is.on_pages x (any_at (λ w. in_patch w x) j.pieces p.0 (record { addr = l.tramp.place; now = bytes }) p.1
      (within l.tramp.place (length bytes) x lo hi))

  -- the private range and the pages for code are claimed
  claims : (x : ℕ) → (in_private (report_of g t pages) x || on_page (report_of g t pages) x) ≡ true → is_claimed j x ≡ true
  claims x h = sym (ap₂ (λ a b. a || b) (private_is x) (page_is x)) ∙ h

  -- a page for code at which an address lies
  on_one : (x : ℕ) → list_any (λ p. is_on p x) j.pages ≡ true → (p : Page) × (is_on p x ≡ true) × IsPage j.private_lo j.private_hi j.groups p
  on_one x h = let q = found (λ p. is_on p x) j.pages h in (q.is, q.passes, all_in (IsPage j.private_lo j.private_hi j.groups) j.pages q.is is.pages (q.place, q.at))

  -- what is claimed is claimed in whole pages
  whole : (x y : ℕ) → y / 4096 ≡ x / 4096 → is_claimed j x ≡ true → is_claimed j y ≡ true
  whole x y e h = elim (or_cases (leb j.private_lo x && ltb x j.private_hi) (list_any (λ p. is_on p x) j.pages) h) [
    | inl a ↦ (let k = and_parts (leb j.private_lo x) (ltb x j.private_hi) a in
        let lo = leb-true j.private_lo x k.0 in let hi = ltb-true x j.private_hi k.1 in
        let w = is.private_whole in
        or_left _ _ (and_from (leb j.private_lo y) (ltb y j.private_hi) (le-leb j.private_lo y (omega (arith, e, lo, w.0)))
        (lt-ltb y j.private_hi (omega (arith, e, hi, w.1)))))
    | inr a ↦ (let q = found (λ p. is_on p x) j.pages a in
        let p = all_in (IsPage j.private_lo j.private_hi j.groups) j.pages q.is is.pages (q.place, q.at) in
        let w = p.whole in
        let k = within_parts q.is.addr 4096 x q.passes in
        or_right _ _ (any_at (λ p. is_on p y) j.pages q.place q.is q.at (within q.is.addr 4096 y (omega (arith, w, k.0, k.1, e)) (omega (arith, w, k.0, k.1, e)))))
  ]

  -- no claimed address shares a page with the original
  not_shared : (x : ℕ) → is_claimed j x ≡ true → SharesPage g.image x → ⊥
  not_shared x h (y, e, s) = true≢false (sym s ∙ ap is_some (sym (o.orig y) ∙ is.new y (whole x y e h)))

  -- no address is in the private range and on a page for code
  not_both : (x : ℕ) → (in_private (report_of g t pages) x && on_page (report_of g t pages) x) ≡ true → ⊥
  not_both x h =
      let k = and_parts (in_private (report_of g t pages) x) (on_page (report_of g t pages) x) h in
      let a = and_parts (leb j.private_lo x) (ltb x j.private_hi) (sym (private_is x) ∙ k.0) in
      let lo = leb-true j.private_lo x a.0 in
      let hi = ltb-true x j.private_hi a.1 in
      let p = on_one x (sym (page_is x) ∙ k.1) in
      let b = within_parts p.0.addr 4096 x p.1 in
      elim p.2.apart [
        | inl m ↦ omega (arith, m, b.1, lo)
        | inr m ↦ omega (arith, m, b.0, hi)
      ]

  -- claimed addresses are a program's
  low : (x : ℕ) → is_claimed j x ≡ true → 0x20000 ≤ x
  low x h = elim (or_cases (leb j.private_lo x && ltb x j.private_hi) (list_any (λ p. is_on p x) j.pages) h) [
    | inl a ↦ (let k = and_parts (leb j.private_lo x) (ltb x j.private_hi) a in
        let lo = leb-true j.private_lo x k.0 in let w = is.private_low in omega (arith, lo, w))
    | inr a ↦ (let p = on_one x a in let b = within_parts p.0.addr 4096 x p.1 in let w = p.2.low in omega (arith, b.0, w))
  ]

  -- the private range and the pages for code are loaded
  held : (x : ℕ) → (in_private (report_of g t pages) x || on_page (report_of g t pages) x) ≡ true → is_some (m x) ≡ true
  held x h = ap is_some (image_is x) ∙ elim (or_cases (in_private (report_of g t pages) x) (on_page (report_of g t pages) x) h) [
    | inl a ↦ held_second (loads.table x) (zeros g x) (pages_image j x) (memory_at g t x)
        (ap is_some (cond-true (in_private (report_of g t pages) x) (Some (record { byte = 0; perms = 6 })) None a))
    | inr a ↦ held_third (loads.table x) (zeros g x) (pages_image j x) (memory_at g t x) (shows j j.pages x (sym (page_is x) ∙ a))
  ]

  -- the private range and the pages for code are claimed, as the turns have it
  claimed : (x : ℕ) → (in_private (report_of g t pages) x || on_page (report_of g t pages) x) ≡ true
      → IsClaimed g (report_of g t pages) m x
  claimed x h = record {
    loaded = held x h;
    new = not_shared x (claims x h);
    one = false_from_ne_true (in_private (report_of g t pages) x && on_page (report_of g t pages) x) (not_both x);
    low = low x (claims x h);
  }

  -- what shows the job loads what the turns have done
  pub loaded_by : IsLoaded g t pages m
  loaded_by = record {
    table = loads.table;
    shown = pages_image j;
    image = image_is;
    header = loads.header;
    page = page;
    originals = originals;
    code = all_from _ (lines (report_of g t pages)) code;
    covered = all_from _ (lines (report_of g t pages)) covered;
    claimed = claimed;
    room = fits;
  }

-- whatever shows the job of the turns loads what they have done
pub job_loads : JobLoads
job_loads g t pages m j f is shown o r = loaded_by g t pages m j f is shown o r

module _ (g : Scene) (taken : List Extent) (ss : List Scheme) (sites : List StartEntry) (choices : List Choice)
    (pages : List (ℕ × ℕ)) (m : Bytes) (j : Job) (S : AllByRecursion SchemeLeads ss) (A : AreEntries g.image g.entries) (E : HasEvents g)
    (h : AreTurnsOf g taken ss sites choices) (is : IsJob j) (shown : Shows j m) where
  abbrev t : State
  t = state_after g (first_state g) sites choices

  -- there are as many rows as sites
  rows_are : length t.rows ≡ length sites
  rows_are = rows_long_after g ss sites choices h.turns

  -- the private range has room for all rows
  has_rows : HasRows g t
  has_rows = subst (λ (n : ℕ). g.private.lo + private_len g.action n ≤ g.private.hi) (sym rows_are)
      (private_has_room taken g.action (length sites) g.private h.private).room

  -- what shows the job of the turns is sound, and runs as the original does
  pub followed : IsJobOf g t pages m j → IsLoadFollowed g t pages m j
  followed o =
      let f = turns_keep g ss sites choices S A h.sites h.turns in
      let sound = folded_is_sound g t pages m (entry_of j.orig) A f E (loaded_by g t pages m j f is shown o has_rows) in
      record {
        sound = sound;
        headline = λ r. (sound_followed (case_of g t pages m (entry_of j.orig)) A r sound).1;
      }

-- the file that is written for turns by schemes whose plans lead is sound, and runs as the original does
pub written_is_followed : WrittenIsFollowed
written_is_followed ss L low file starts action reserves private sites choices pages m j S h is shown o =
    let g = scene_of file starts action reserves private in
    followed g (taken_first (segments file) reserves) ss sites choices pages m j L (built_are_entries low file starts S) refl h is shown o

-- a file patched with B1, B2 and T1 is sound and follows the original
pub singles_are_followed : SinglesAreFollowed
singles_are_followed = written_is_followed single singles_lead

-- all five schemes lead
pub five_lead : AllByRecursion SchemeLeads five
five_lead = (singles_lead.0, (singles_lead.1.0, (singles_lead.1.1.0, (behind_leads, (near_leads, tt)))))

-- a file patched with all five schemes is sound and follows the original
pub all_are_followed : AllAreFollowed
all_are_followed = written_is_followed five five_lead
