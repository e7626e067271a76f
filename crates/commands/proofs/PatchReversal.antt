-- A patch is taken back.
use Rattle.std.proofs.Common.{◌≡◌, ℕ, ◌^◌, ◌<◌, ◌≤◌, Bool, true, false, nat_lt, if◌then◌else◌, List, [], ◌∷◌, length, Option, Some, None, Result, Ok, Err, IsSomeAnd, refl, sym, ap, ◌∙◌, subst, arith}
use Rattle.std.proofs.lemmas.Bool.Decides.{nat_tests}
use Rattle.pun_base.specs.Shown.{Files, DeskState, SinkState, with_file, Told}
use Rattle.pun_base.proofs.HeldFiles.{with_file-same}
use Rattle.list_text.specs.declared.refusal.ListError.{ListError}
use Rattle.patch_report.specs.Grammar.{IsReport}
use Rattle.rewrite_core.specs.Asked.{Asked, IsInOrder}
use Rattle.commands.specs.Planned.{IsReversed}
use Rattle.commands.proofs.ReversedPlans.{judged_is_reversed}
use Rattle.command_words.specs.Words.{UnpatchNames}
use Rattle.command_io.specs.Inputs.{most, Gathered, TooLong, All, with_first, first_of, gathered, IsWithin}
use Rattle.command_io.specs.Endings.{Delivers}
use Rattle.command_io.specs.Writing.{Verdict, Accepted, OfGathered, IsInputVerdict, KeepsRest, files_after, Writes}
use Rattle.command_io.specs.Verdict.{Patching, Form, reported_text, plain, rewriting_in, starts_of, sites_of, asked, OfLists, OfTexts, HoldsBytes}
use Rattle.patch_commands.specs.Answers.{patch_inputs, form_outputs, TextsFollowed, form_writing}
use Rattle.command_io.specs.declared.report_mode.Mode.{Mode}
use Rattle.command_io.specs.Failing.{Failed, Answer, end_message}
use Rattle.command_io.specs.Works.{IsOnly, AreApart, Ends}
use Rattle.patch_commands.specs.UnpatchAnswers.{unpatch_inputs, unpatch_outputs, OfBoth, restored_text, unpatch_writing}
use Rattle.commands.specs.Reversal.{HoldsPatch, ComesBack, Unpatches, IsReversedAfter, PatchIsReversed}
use Rattle.command_io.proofs.NamedFiles.{with_file-other}
use Rattle.command_io.proofs.GatheredInputs.{first_read}
use Rattle.command_io.proofs.DeliveredTexts.{HasOwnHead}
use Rattle.command_io.proofs.WritingEnds.{IsApart, writes}
use Rattle.patch_commands.proofs.TextVerdicts.{in_order}
use Rattle.patch_commands.proofs.UnpatchVerdicts.{of_undoing}

-- ---- the original comes back

-- an input that is held and within the limit
one_gathered : (o : Option (List ℕ)) (bytes : List ℕ) (x : _) (g : Gathered) → o ≡ Some bytes → length bytes ≤ most → first_of o x g ≡ with_first bytes g
one_gathered o bytes x g e l =
    ap (λ (z : Option (List ℕ)). first_of z x g) e ∙ ap (λ (b : Bool). if b then TooLong x.0 else with_first bytes g) (within (nat_lt most (length bytes)) refl)
  where
    within : (b : Bool) → nat_lt most (length bytes) ≡ b → nat_lt most (length bytes) ≡ false
    within false q = q
    within true q = absurd (let k : most < length bytes = grind (arith, nat_tests) in omega arith)

both_gathered : (files : Files) (n : UnpatchNames) (orig : List ℕ) (m : Mode) (h : HoldsPatch m files n orig)
    → gathered files (unpatch_inputs n) ≡ All (h.patched ∷ h.text ∷ [])
both_gathered files n orig m h =
    one_gathered (files n.patched) h.patched _ _ h.held_patched h.few_patched
    ∙ ap (with_first h.patched) (one_gathered (files n.report) h.text _ _ h.held_report h.few_report)

-- what is to be said of them
only_back : (files : Files) (n : UnpatchNames) (orig : List ℕ) (m : Mode) (h : HoldsPatch m files n orig) → IsOnly (Accepted orig) (IsInputVerdict (unpatch_writing n) files)
only_back files n orig m h =
    subst (λ (g : Gathered). IsOnly (Accepted orig) (OfGathered OfBoth g)) (sym (both_gathered files n orig m h))
    (of_undoing h.patched h.text m h.report h.told h.reversed.loads None (Accepted orig) h.reversed.undone.accepted h.reversed.undone.undone)

-- one job
same_bytes : (a b : List ℕ) → ◌≡◌ {A = Verdict (List ℕ)} (Accepted a) (Accepted b) → a ≡ b
same_bytes a b e = cc

comes_back : (n : UnpatchNames) (orig : List ℕ) (files : Files) (s t : DeskState) (k l : SinkState) (status : ℕ) → Writes (unpatch_writing n) s t k l status
    → s.held ≡ Some files → (m : Mode) → HoldsPatch m files n orig → ComesBack n orig files s t k l status
comes_back n orig files s t k l status w e m h =
    let v = only_back files n orig m h in
    let d = w.held files e in
    record {
      answer = d.answer (Accepted orig) v.so;
      faultless = d.faultless orig v.so;
      given = λ z.
          let x = d.done z in
          let i : IsInputVerdict (unpatch_writing n) files (Accepted x.0) =
          subst (λ (g : Gathered). OfGathered OfBoth g (Accepted x.0)) (sym x.1.read) x.1.judged in
          let same = same_bytes x.0 orig (v.alone (Accepted x.0) i) in
          x.1.outputs ∙ ap (λ (b : List ℕ). Some (with_file files n.new b)) same;
    }

-- ---- what `unpatch` does

restored_head : (len : ℕ) → HasOwnHead (restored_text len)
unfolding restored_text
restored_head len = record { first = 114; rest = _; is = refl; own = λ e. omega arith }

-- its text and status are its own
is_apart : (n : UnpatchNames) → IsApart (unpatch_writing n)
is_apart n = record { own = λ bytes. refl; odd = λ status o q. (let z = q.0 in omega arith); head = λ bytes. restored_head (length bytes) }

-- an end that was printed
pub unpatch_ended : (n : UnpatchNames) (s t : DeskState) (k l : SinkState) (r : Result Answer Failed) (status : ℕ)
    → Told (KeepsRest (unpatch_outputs n)) s.held t.held → Ends (unpatch_writing n) s t r → Delivers (end_message r) k l status
    → Unpatches n s t k l status
unpatch_ended n s t k l r status rest e d =
    let apart : AreApart (unpatch_outputs n) = (λ b. b, tt) in
    let w = writes (unpatch_writing n) (is_apart n) apart s t k l r status rest e d in
    record { writes = w; back = λ files h orig m p. comes_back n orig files s t k l status w h m p }

-- ---- what `patch` wrote

-- a text that was read is within the limit
pub first_few : (o : Option (List ℕ)) (x : _) (b : List ℕ) (bs : List (List ℕ)) (g : Gathered) → first_of o x g ≡ All (b ∷ bs) → length b ≤ most
first_few o x b bs g e = few (nat_lt most (length b)) refl (ap (λ (z : Option (List ℕ)). first_of z x g) (sym (first_read o x b bs g e).0) ∙ e)
  where
    few : (c : Bool) → nat_lt most (length b) ≡ c → (if nat_lt most (length b) then TooLong x.0 else with_first b g) ≡ All (b ∷ bs) → length b ≤ most
    few false q h = grind (arith, nat_tests)
    few true q h = absurd (let k : (if true then TooLong x.0 else with_first b g) ≡ All (b ∷ bs) = ap (λ (c : Bool). if c then TooLong x.0 else with_first b g) (sym q) ∙ h in cc)

-- Each job of a form is undone by its report, and a text tells the report.
pub record IsTakenBack {J : Type 0} (f : Form J) : Type 0 where
  pub undone : (a : Asked) (job : J) → IsInOrder a → length a.file < 2 ^ 63 → f.Judged a (Accepted job) → IsReversed a.file (f.file job) (f.report job)
  pub told : (file starts : List ℕ) (job : J) → f.Follows file starts job → IsReport (f.report job)

-- the job of lists is undone
lists_reversed : {J : Type 0} → (f : Form J) → IsTakenBack f → (p : Patching) (file : List ℕ) (starts sites : Result (List ℕ) ListError) (job : J)
    → length file < 2 ^ 63
    → ((ns ms : List ℕ) (reserves : _) → starts ≡ Ok ns → sites ≡ Ok ms → IsInOrder (asked p.action reserves file ns ms))
    → OfLists (rewriting_in f p) file starts sites (Accepted job) → IsReversed file (f.file job) (f.report job)
lists_reversed f back p file (Err error) sites job size o h = absurd cc
lists_reversed f back p file (Ok ns) (Err error) job size o h = absurd cc
lists_reversed f back p file (Ok ns) (Ok ms) job size o h = back.undone (asked p.action h.0 file ns ms) job (o ns ms h.0 refl refl) size h.2

within : (files : Files) (name bytes : List ℕ) → files name ≡ Some bytes → IsWithin files name → length bytes ≤ most
within files name bytes e w = subst (λ (o : Option (List ℕ)). IsSomeAnd o (λ b. length b ≤ most)) e w

-- of the texts and what stands then
texts_reversed : {J : Type 0} → (f : Form J) → IsTakenBack f → (p : Patching) (files new : Files) (texts : List (List ℕ)) (job : J) (orig : List ℕ)
    → (p.names.out ≡ p.names.report → ⊥)
    → HoldsBytes files p.names.file → files p.names.file ≡ Some orig → gathered files (patch_inputs p.names) ≡ All texts → OfTexts (rewriting_in f p) texts (Accepted job)
    → TextsFollowed f.Follows texts job → files_after files (form_outputs f p.names) job ≡ new → IsWithin new p.names.out → IsWithin new p.names.report
    → (n : UnpatchNames) → n.patched ≡ p.names.out → n.report ≡ p.names.report → HoldsPatch f.mode new n orig
texts_reversed f back p files new (file ∷ starts ∷ sites ∷ []) job orig apart bytes held e j h same w x n a b =
    let first = (first_read (files p.names.file) _ file _ _ e).0 in
    let few = first_few (files p.names.file) _ file _ _ e in
    let is : file ≡ orig = cc in
    let out : new p.names.out ≡ Some (f.file job) =
    ap (λ (z : Files). z p.names.out) (sym same)
    ∙ (with_file-other (with_file files p.names.out (f.file job)) p.names.report p.names.out (reported_text f job) (λ q. apart (sym q))
    ∙ with_file-same files p.names.out (f.file job)) in
    let report : new p.names.report ≡ Some (reported_text f job) =
    ap (λ (z : Files). z p.names.report) (sym same)
    ∙ with_file-same (with_file files p.names.out (f.file job)) p.names.report (reported_text f job) in
    record {
      patched = f.file job;
      text = reported_text f job;
      report = f.report job;
      held_patched = ap new a ∙ out;
      held_report = ap new b ∙ report;
      few_patched = within new p.names.out (f.file job) out w;
      few_report = within new p.names.report (reported_text f job) report x;
      told = record { holds = back.told file h.list job h.followed; spelled = refl };
      reversed = subst (λ (o : List ℕ). IsReversed o (f.file job) (f.report job)) is
          (lists_reversed f back p file (starts_of starts) (sites_of sites) job (omega arith)
          (λ ns ms rs c d. in_order p.action rs file starts sites ns ms (bytes file first) c d) j);
    }
texts_reversed f back p files new other job orig apart bytes held e j h same w x n a b = absurd h

-- what was written in a form
pub form_is_reversed : {J : Type 0} → (f : Form J) → IsTakenBack f → IsReversedAfter f.mode (λ p. Writes (form_writing f p))
form_is_reversed f back p files new s t k l status orig apart h bytes held w o g i x n a b =
    let d = (w.held files h).done o in
    let z = d.1.outputs in
    let q : files_after files (form_outputs f p.names) d.0 ≡ new = cc in
    texts_reversed f back p files new d.1.texts d.0 orig apart bytes held d.1.read d.1.judged d.1.promised q i x n a b

-- after a patch that answered 0 or 1, OUT and REPORT hold what gives FILE back
pub patch_is_reversed : PatchIsReversed
patch_is_reversed p files new s t k l status orig apart h bytes held w =
    form_is_reversed plain (record { undone = judged_is_reversed; told = λ file starts job f. f.told }) p files new s t k l status orig apart h bytes held
    w.writes
