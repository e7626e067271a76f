-- The first worked row of `threads` is judged to be the job of its file, and the theorem holds of that file.
use Rattle.std.proofs.Common.{◌≡◌, inl, inr, ℕ, ◌+◌, ◌*◌, ◌≤◌, Bool, true, false, cond, leb, ltb, eqb, List, [], ◌∷◌, ◌++◌, length, get_or, slice_index, map, filter, replicate, Some, None, Ok, refl, sym, ap, ◌∙◌, subst, arith, length-append, eqb-true}
use Rattle.std.specs.Option.{is_some}
use Rattle.std.specs.List.{list_any, find}
use Rattle.std.proofs.Math.Bool.{or-false}
use Rattle.std.proofs.lemmas.Bool.{and_parts, ltb-true, leb-true, le-ltb, cases_lt}
use Rattle.std.proofs.lemmas.List.{drop_at, get_or-drop, length-replicate}
use Rattle.std.proofs.lemmas.List.Elements.{All-from_recursion}
use Rattle.hex.specs.Hex.{IsBytes}
use Rattle.pun_base.specs.Memory.{Bytes}
use Rattle.pun_base.specs.Ranges.{is_within}
use Rattle.pun_base.specs.declared.action.Action.TheVariants.{Count}
use Rattle.pun_base.specs.declared.outcome.Plan.{Plan}
use Rattle.pun_base.specs.declared.outcome.Outcome.TheVariants.{Patched}
use Rattle.pun_base.specs.declared.scheme.Scheme.TheVariants as scheme
use Rattle.cpu_state.specs.Bytes.{Stands}
use Rattle.length_decode.specs.Parse.{parse}
use Rattle.length_decode.specs.Spelling.{IsInstruction, spelling}
use Rattle.insn_form.specs.Classes.{template}
use Rattle.insn_form.specs.Filling.{filled}
use Rattle.insn_form.specs.Moved.{rel_bytes}
use Rattle.elf_read.specs.declared.segment.Segment.{Segment}
use Rattle.elf_read.specs.Entries.{segments, loads, spelled, table_place, table_count, entry_of}
use Rattle.elf_read.specs.Code.{is_exec_in, code_from, code_of, window}
use Rattle.elf_read.specs.Image.{image_of}
use Rattle.elf_read.specs.Plain.{header, text_segment, plain_front, text_image, IsText}
use Rattle.elf_read.specs.Refusals.{header_rules, header_refusal, entry_refusal, refusal}
use Rattle.elf_read.proofs.AcceptedFiles.{or_none, none_broken}
use Rattle.elf_read.proofs.PlainFronts.{plain_file_parts, length-plain_front}
use Rattle.elf_read.proofs.PlainImages.{segments-plain_file, plain_image, plain_entry}
use Rattle.elf_emit.specs.Layout.{count}
use Rattle.elf_emit.specs.Frames as frames
use Rattle.elf_emit.specs.Laws.{IsJob, Loads}
use Rattle.elf_emit.proofs.JobImages.{file_shows}
use Rattle.elf_emit.proofs.JobImageParts.{layout_loads}
use Rattle.address_space.specs.Free.{Misses}
use Rattle.page_group.specs.Grouping.{GroupsState, IsGrouping, group_of}
use Rattle.page_group.specs.Pages.{holds, MeetsPage}
use Rattle.patch_report.proofs.ListPlaces.{some_is}
use Rattle.patch_report.proofs.ByteLists.{bytes_append, bytes_all, bytes_zeros}
use Rattle.patch_report.specs.declared.origin.Origin.{Origin}
use Rattle.patch_report.specs.Values.{written}
use Rattle.trampoline.specs.Worked.{jump_to_itself}
use Rattle.start_entries.specs.declared.entry.StartEntry.{StartEntry}
use Rattle.start_entries.specs.declared.refusal.StartError.TheVariants.{NotExecutable}
use Rattle.start_list.specs.Admissible.{size_of, IsAllowed, IsAdmissible, IsNoLater, tuple_of, IsFirst}
use Rattle.start_entries.specs.Entries.{reading_at, entry_by, start_entry, entries_of}
use Rattle.start_list.specs.Forms.{Candidate, B1, B2, T1, T2, T3, scheme_of, for_site}
use Rattle.start_entries.specs.Laws.{IsBuilt}
use Rattle.start_list.specs.Plans.{IsPlanOf}
use Rattle.start_entries.specs.Refusals.{refusal_of, first_refusal, or_later}
use Rattle.start_entries.specs.SharedBytes.{is_shared, marked}
use Rattle.start_entries.specs.Standing.{AreEntries}
use Rattle.start_list.specs.TurnViews.{TurnView}
use Rattle.scheme_search.proofs.OneJumpBytes.{within_true, within_parts, written_is, punned_is}
use Rattle.sound_images.proofs.WorkedImage.{only}
use Rattle.site_turns.specs.Choices.{Choice, Apply}
use Rattle.site_turns.specs.Jobs.{AreTurnsOf}
use Rattle.site_turns.specs.Laws.{five}
use Rattle.site_turns.specs.Modes.{can_in_threads, thread_rules}
use Rattle.site_turns.specs.PlanLaws.{IsAsked, AreGroups}
use Rattle.site_turns.specs.PlannedState.{PlannedState}
use Rattle.site_turns.specs.Planning.{Request, Turns, scene_under, taken_at_first}
use Rattle.site_turns.specs.PrivateRange.{taken_first, pages_for, IsPrivate}
use Rattle.site_turns.specs.States.{Scene, view_at, first_state}
use Rattle.site_turns.proofs.RequestScene.{entries_are}
use Rattle.site_turns.proofs.PlannedJobs.{writing_is_job}
use Rattle.rewrite_core.specs.Asked.{request_of}
use Rattle.rewrite_core.specs.Origins.{origin_of}
use Rattle.thread_runs.specs.ThreadCode.{thread_code}
use Rattle.guest_threads.specs.ThreadPlanning.{IsThreadPlanned}
use Rattle.guest_threads.specs.ThreadRewriting.{job_of, IsFollowedInThreads}
use Rattle.guest_threads.specs.WorkedFile.{row_text, row_file, row_starts, row_asked, row_entry, row_private, row_value, row_code, row_job, row_written, RowIsThreaded}
use Rattle.guest_threads.proofs.ThreadPlans.{writable, threaded}

-- ---- the file

-- the header is bytes
header_bytes : IsBytes (header 64 1)
unfolding header
header_bytes = bytes_all (header 64 1) refl

-- the program header is bytes
table_bytes : IsBytes (spelled (text_segment 5))
unfolding spelled
table_bytes = bytes_all (spelled (text_segment 5)) refl

-- the row's file is bytes
file_bytes : IsBytes row_file
file_bytes = subst IsBytes (sym (plain_file_parts 5 row_text))
    (bytes_append (header 64 1) (spelled (text_segment 5) ++ (replicate 3976 0 ++ row_text)) header_bytes
    (bytes_append (spelled (text_segment 5)) (replicate 3976 0 ++ row_text) table_bytes
    (bytes_append (replicate 3976 0) row_text (bytes_zeros 3976) (bytes_all row_text refl))))

-- the row's file has 4,101 bytes
file_long : length row_file ≡ 4101
file_long = length-append (plain_front 5) row_text ∙ ap (λ n. n + 5) (length-plain_front 5)

-- the row's file has one segment, its text
segments_are : segments row_file ≡ text_segment 5 ∷ []
segments_are = segments-plain_file row_text (omega arith)

-- the header breaks no rule of a file
header_kept : (rest : List ℕ) → 56 ≤ length rest → header_refusal (header 64 1 ++ rest) ≡ None
unfolding header_refusal header table_place table_count
header_kept rest l =
    let size : length (header 64 1 ++ rest) ≡ 64 + length rest = length-append (header 64 1) rest in
    none_broken (header_rules (header 64 1 ++ rest)) (
      le-ltb (length (header 64 1 ++ rest)) 64 (omega arith),
      (refl, (refl, (refl, (refl, (refl, (refl, (le-ltb (length (header 64 1 ++ rest)) 120 (omega arith), tt))))))),
    )

-- the program header breaks no rule of a file
entries_kept : entry_refusal 0x20000 4101 (text_segment 5 ∷ []) ≡ None
unfolding entry_refusal
entries_kept = refl

-- the row's file is accepted
accepted : refusal 0x20000 row_file ≡ None
accepted =
    let rest : List ℕ = spelled (text_segment 5) ++ (replicate 3976 0 ++ row_text) in
    let zeros = length-replicate {A = ℕ} 3976 0 in
    let few = length-append (replicate 3976 0) row_text in
    let size = length-append (spelled (text_segment 5)) (replicate 3976 0 ++ row_text) in
    let head : header_refusal row_file ≡ None = ap header_refusal (plain_file_parts 5 row_text) ∙ header_kept rest (omega (arith, zeros, few, size)) in
    let table : entry_refusal 0x20000 (length row_file) (segments row_file) ≡ None =
    (λ i. entry_refusal 0x20000 (file_long i) (segments_are i)) ∙ entries_kept in
    or_none (header_refusal row_file) (entry_refusal 0x20000 (length row_file) (segments row_file)) head table

-- the header says that the table stands at 64
place_in : (rest : List ℕ) → table_place (header 64 1 ++ rest) ≡ 64
unfolding header table_place
place_in rest = refl

-- the header says that the table has one entry
count_in : (rest : List ℕ) → table_count (header 64 1 ++ rest) ≡ 1
unfolding header table_count
count_in rest = refl

-- the row's file as the original that its report tells
abbrev origin : Origin
origin = record { len = 4101; phoff = 64; phnum = 1; entry = 0x401000 }

-- its numbers are those of the row's file
origin_is : origin ≡ origin_of row_file
origin_is =
    let rest : List ℕ = spelled (text_segment 5) ++ (replicate 3976 0 ++ row_text) in
    let place : table_place row_file ≡ 64 = ap table_place (plain_file_parts 5 row_text) ∙ place_in rest in
    let number : table_count row_file ≡ 1 = ap table_count (plain_file_parts 5 row_text) ∙ count_in rest in
    let entry : entry_of row_file ≡ 0x401000 = plain_entry row_text in
    λ i. record { len = sym file_long i; phoff = sym place i; phnum = sym number i; entry = sym entry i }

-- the row's text is a text of a plain file
is_text : IsText row_text
is_text = (omega arith, omega arith)

-- each byte that the row's file loads is that of the plain file's text
pub original_is : (x : ℕ) → image_of row_file x ≡ text_image row_text x
original_is = plain_image row_text is_text

-- ---- its start

-- the bytes of the file from 4,096 on are the text's
byte_at : (k : ℕ) → slice_index row_file (4096 + k) ≡ slice_index row_text k
byte_at k = sym (get_or-drop 4096 row_file k 0) ∙ ap (λ (z : List ℕ). slice_index z k) (drop_at (plain_front 5) row_text 4096 (length-plain_front 5))

-- what can be executed from 0x401000 on is the text
window_is : window row_file 0x401000 ≡ row_text
unfolding code_from
window_is =
    ap (λ (ss : List Segment). code_of row_file 0x401000 (find (is_exec_in 0x401000) ss)) segments_are
    ∙ (λ i. byte_at 0 i ∷ byte_at 1 i ∷ byte_at 2 i ∷ byte_at 3 i ∷ byte_at 4 i ∷ [])

-- at 0x401000 the jump to itself is read
reading_is : reading_at row_file 0x401000 ≡ Ok jump_to_itself
unfolding reading_at
reading_is = ap parse window_is

-- the entry of the start at 0x401000 is the row's
start_is : start_entry row_file 0x401000 None ≡ row_entry
unfolding start_entry
start_is = ap (entry_by row_file 0x401000 None) reading_is

-- the row's only listed start is an entry of two bytes that shares none
pub entries_are_row : entries_of row_file row_starts ≡ row_entry ∷ []
unfolding is_shared
entries_are_row = ap (λ (e : StartEntry). map (marked (e ∷ [])) (e ∷ [])) start_is

-- the only start isn't refused
none_refused : first_refusal row_file row_starts ≡ None
unfolding refusal_of
none_refused = ap (λ (ss : List Segment). or_later (cond (list_any (is_exec_in 0x401000) ss) None (Some (NotExecutable 0x401000))) None) segments_are

-- the entries of the only start are built
built : IsBuilt row_file (entries_of row_file row_starts)
built = subst (IsBuilt row_file) (sym entries_are_row)
    (record { ascending = λ k l. absurd (omega (arith, l)); entries = sym entries_are_row; none = none_refused })

-- ---- its turn

-- JMP 0x2401005 over EB FE, whose last three bytes are those after the site
abbrev row_plan : Plan
row_plan = record {
  scheme = scheme.B2;
  tramps = record { place = 0x2401005; start = 0x401000; event = true } ∷ [];
  writes = record { addr = 0x401000; was = 0xeb ∷ 0xfe ∷ []; now = 0xe9 ∷ 0x00 ∷ []; equal = refl; some = omega arith; fits = omega arith } ∷ [];
  puns = record { addr = 0x401002; bytes = 0x00 ∷ 0x00 ∷ 0x02 ∷ [] } ∷ [];
}

abbrev choices : List Choice
choices = Apply (B2 0x2401005) row_plan ∷ []

-- the scene by what the file holds
abbrev scene : Scene
scene = record {
  image = text_image row_text;
  segments = text_segment 5 ∷ [];
  entries = row_entry ∷ [];
  action = Count;
  event_size = 32;
  can = can_in_threads;
  private = row_private;
  shut = row_private ∷ taken_first (text_segment 5 ∷ []) [];
}

abbrev turn : TurnView
turn = view_at scene (first_state scene)

-- the jump to itself can be displaced where threads share memory
can_move : is_some (can_in_threads row_entry) ≡ true
unfolding template filled
can_move = refl

-- B1 has no plan for two bytes
no_b1 : (c : Candidate) → scheme_of c ≡ scheme.B1 → IsAdmissible turn row_entry c → ⊥
no_b1 (B1 t) e h = let f = h.allowed.form in omega (arith, f)
no_b1 (B2 t) e h = cc
no_b1 (T1 p t) e h = cc
no_b1 (T2 v p q pad x t u) e h = cc
no_b1 (T3 v i x t u) e h = cc

-- the plan of B2 with the trampoline at 0x2401005 is allowed
b2_allowed : IsAllowed turn row_entry (B2 0x2401005)
b2_allowed = record {
  form = omega arith;
  free = λ a h. refl;
  punned = λ a h. (let k = within_parts 0x401002 3 a (sym (punned_is row_entry 0 0x2401005 a) ∙ h) in within_true 0x401000 5 a (omega (arith, k.0)) (omega (arith, k.1)));
  stands = ((refl, refl, refl, (refl, refl, refl, (refl, refl, refl, (refl, refl, refl, (refl, refl, refl, tt))))), tt);
}

-- the trampoline of the plan has 37 bytes
b2_size : size_of turn (for_site row_entry 0x2401005) ≡ Some 37
unfolding template filled
b2_size = refl

-- the plan of B2 with the trampoline at 0x2401005 is admissible
b2_admissible : IsAdmissible turn row_entry (B2 0x2401005)
b2_admissible = record {
  site_may = refl;
  allowed = b2_allowed;
  placed = ((37, b2_size, record { above = omega arith; below = omega arith; misses = All-from_recursion (Misses 0x2401005 37) turn.taken (inr (omega arith), (inr (omega arith), tt)) }), tt, tt);
  least = λ l. absurd (omega (arith, l));
}

-- with the last three bytes as they stand a jump leads there or further up
b2_least : (t : ℕ) → IsAllowed turn row_entry (B2 t) → 0x2401005 ≤ t
b2_least t h =
    let f = h.stands.0 in
    let one : get_or (rel_bytes 0x401005 t) 1 0 ≡ 0 = sym f.3.3.2 in
    let two : get_or (rel_bytes 0x401005 t) 2 0 ≡ 0 = sym f.3.3.3.2 in
    let three : get_or (rel_bytes 0x401005 t) 3 0 ≡ 2 = sym f.3.3.3.3.2 in
    omega (arith, one, two, three)

-- the plan of B2 with the trampoline at 0x2401005 is the first of its scheme
b2_first : IsFirst turn row_entry scheme.B2 (B2 0x2401005)
b2_first = record { scheme = refl; admissible = b2_admissible; first = first }
  where
    first : (d : Candidate) → scheme_of d ≡ scheme.B2 → IsAdmissible turn row_entry d → IsNoLater (0x2401005 ∷ []) (tuple_of d)
    first (B1 t) e h = cc
    first (B2 t) e h = let l = b2_least t h.allowed in elim (cases_lt 0x2401005 t) [ inl m ↦ inl m | inr m ↦ inr (omega (arith, l, m), tt) ]
    first (T1 p t) e h = cc
    first (T2 v p q pad x t u) e h = cc
    first (T3 v i x t u) e h = cc

-- the row's plan is the one of B2 with the trampoline at 0x2401005
plan_is : IsPlanOf turn row_entry (B2 0x2401005) row_plan
plan_is = record {
  scheme = refl;
  tramps = refl;
  written = record { ascend = (omega arith, tt, tt); told = λ a. or-false (is_within 0x401000 2 a) ∙ sym (written_is row_entry 0 0x2401005 a) };
  writes = ((refl, refl), tt);
  punned = record { ascend = (omega arith, tt, tt); told = λ a. or-false (is_within 0x401002 3 a) ∙ sym (punned_is row_entry 0 0x2401005 a) };
  puns = (refl, tt);
}

-- one counter needs one page
one_page : pages_for Count 1 ≡ 1
one_page = refl

-- the private range is the least free page
private_is : IsPrivate (taken_first scene.segments []) Count 1 row_private
private_is = record {
  least = record {
    good = record {
      page = (32, refl);
      free = record {
        above = omega arith;
        below = omega (arith, one_page);
        misses = All-from_recursion (Misses 0x20000 (pages_for Count 1 * 4096)) (taken_first scene.segments []) (inl (omega (arith, one_page)), tt);
      };
    };
    least = λ s h. h.free.above;
  };
  size = refl;
}

-- the row's turns are those of the rules, in a scene that is written out
turns_told : AreTurnsOf scene (taken_first scene.segments []) five (row_entry ∷ []) choices
turns_told = record { private = private_is; sites = (refl, tt, tt); turns = ((can_move, inr (no_b1, inl (b2_first, plan_is))), tt) }

-- ---- what is planned

abbrev q : Request
q = request_of row_asked

abbrev turns : Turns
turns = record { entries = row_entry ∷ []; private = row_private; choices = choices }

-- the row's file loads the plain file's text
pub original_path : text_image row_text ≡ image_of row_file
original_path = λ i x. sym (original_is x) i

-- the scene is the file's
scene_is : scene ≡ scene_under (thread_rules Count) q turns
scene_is = λ i. record {
  image = original_path i;
  segments = sym segments_are i;
  entries = sym entries_are_row i;
  action = Count;
  event_size = 32;
  can = can_in_threads;
  private = row_private;
  shut = row_private ∷ taken_first (sym segments_are i) [];
}

-- the row's turns are those of the rules for threads
turns_are : AreTurnsOf (scene_under (thread_rules Count) q turns) (taken_at_first q) five (row_entry ∷ []) choices
turns_are = subst (λ (g : Scene). AreTurnsOf g (taken_first g.segments []) five (row_entry ∷ []) choices) scene_is turns_told

abbrev planned : PlannedState
planned = record {
  private = record { lo = 0x20000; hi = 0x21000; nonempty = omega arith };
  rows = record { site = 0x401000; number = 0; outcome = Patched row_plan } ∷ [];
  built = record { place = 0x2401005; code = record { bytes = row_code; falls = false } } ∷ [];
}

-- the jump to itself is an instruction
pub itself_is : IsInstruction jump_to_itself
itself_is = record {
  formed = record { prefixes = refl; escape = refl; opcode = refl; known = refl; modrm = refl; operand = refl; imm = refl };
  short = omega arith;
}

-- the jump to itself stands at 0x401000 in what the row's file loads
pub itself_stands : Stands (text_image row_text) 0x401000 (spelling jump_to_itself)
itself_stands = (refl, refl, (refl, refl, tt))

-- the row's code is that of its trampoline
code_same : row_code ≡ thread_code 0x20000 0 jump_to_itself 0x401002 0x2401005
unfolding template filled
code_same = refl

-- the row is what is planned for threads
planned_is : IsThreadPlanned q turns planned
planned_is = record {
  turned = record { turns = record { sites = refl; turns = turns_are }; private = refl; rows = refl; few = ((omega arith, omega arith), tt) };
  built = (
    refl,
    record { fields = jump_to_itself; spelled = itself_is; stands = subst (λ (m : Bytes). Stands m 0x401000 (spelling jump_to_itself)) original_path itself_stands; is = code_same },
    refl,
    tt,
  );
}

-- its code has one page
abbrev groups : GroupsState
groups = record { pieces = (0x2401005, 0x240102a) ∷ []; homes = (0x2401000, 0) ∷ [] }

-- the only page for code shows the only group
home_is : (page g : ℕ) → group_of groups.homes page ≡ Some g → (page ≡ 0x2401000) × (0 ≡ g)
home_is page g e = by_test (eqb page 0x2401000) refl e
  where
    by_test : (b : Bool) → eqb page 0x2401000 ≡ b → cond b (Some 0) None ≡ Some g → (page ≡ 0x2401000) × (0 ≡ g)
    by_test true h e = (eqb-true page 0x2401000 h, some_is 0 g e)
    by_test false h e = cc

-- the groups are a grouping of the row's code
one_group : IsGrouping groups.pieces groups.homes
one_group = record {
  listed = record { ascending = λ k l. absurd (omega (arith, l)); exact = λ page. (λ c. (0x2401005, refl, only 0x2401000 page c), λ m. (0, omega arith, met page m)) };
  first = λ page g e. record {
    good = λ lower l h meet. (let a = (home_is page g e).0 in let b = (home_is lower g h).0 in omega (arith, a, b, l));
    least = λ m o. (let z = (home_is page g e).1 in omega (arith, z));
  };
}
  where
    met : (page : ℕ) → MeetsPage groups.pieces page → 0x2401000 ≡ page
    met page m =
        let k = and_parts (leb 0x2401005 m.0) (ltb m.0 0x240102a) (sym (or-false (holds m.0 (0x2401005, 0x240102a))) ∙ m.1) in
        let l = leb-true 0x2401005 m.0 k.0 in
        let h = ltb-true m.0 0x240102a k.1 in
        let e = m.2 in
        omega (arith, l, h, e)

-- the groups are those of the row's plan
are_groups : AreGroups planned groups
are_groups = (refl, one_group)

-- the row's job is that of what was planned
job_same : row_job ≡ job_of q turns planned groups
job_same = λ i. record {
  emit = row_job.emit;
  private = row_private;
  rows = row_value ∷ [];
  report = written row_job.report.body (origin_is i);
}

-- the row's request can be asked
asked_is : IsAsked q
asked_is = record { bytes = file_bytes; accepted = accepted; built = built; few = omega arith }

-- ---- what is written

-- the row's job is one that can be written
pub job_is : IsJob row_job.emit
job_is = writing_is_job q planned groups asked_is (writable q turns planned asked_is planned_is) are_groups (omega (arith, file_long))

-- the written file's table has four entries
pub count_is : count row_job.emit ≡ 4
count_is = ap (λ (ss : List Segment). length (filter frames.is_other ss) + (2 + (1 + length (loads ss)))) segments_are

-- the written file's table has room
table_fits : count row_job.emit ≤ 1024
table_fits = omega (arith, count_is)

-- the written file loads what its job says
pub written_loads : Loads row_job.emit
written_loads = layout_loads row_job.emit job_is table_fits

-- the row's written file follows the original, for threads
followed : IsFollowedInThreads Count row_file row_starts row_written row_private (row_value ∷ [])
followed =
    let h = threaded q turns planned asked_is planned_is groups tt refl job_is (image_of row_written) (file_shows row_job.emit job_is table_fits) in
    record { entry = h.entry table_fits; sound = h.sound; followed = h.followed; out = h.out; followed_with = h.followed_with; out_with = h.out_with }

-- the row's entries are those of what its file loads
pub listed_are : AreEntries (image_of row_file) (entries_of row_file row_starts)
listed_are = entries_are q asked_is

-- the row's input is judged to be its job, and the theorem holds of the written file
pub row_is_threaded : RowIsThreaded
row_is_threaded = record {
  judged = (
    record { accepted = accepted; none = none_refused },
    record { is_job = record { turns = turns; planned = planned; groups = groups; is_planned = planned_is; are_groups = are_groups; is = job_same }; few = table_fits },
  );
  followed = followed;
}
