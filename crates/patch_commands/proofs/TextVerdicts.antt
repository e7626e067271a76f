-- What is to be said of FILE, STARTS and SITES: what their texts say, and that there is one verdict at most.
use Rattle.std.proofs.Common.{◌≡◌, inl, inr, ℕ, ◌<◌, List, [], ◌∷◌, map, slice_index, Result, Ok, Err, refl, sym, ap, ap₂, ◌∙◌, subst}
use Rattle.std.proofs.Math.Bridge.{le_prop}
use Rattle.pun_base.specs.Shown.{Files}
use Rattle.pun_base.specs.declared.action.Action.{Action}
use Rattle.pun_base.specs.declared.action.Action.{Action}
use Rattle.pun_base.specs.declared.range.Range.{Range}
use Rattle.pun_base.specs.Ranges.{ends}
use Rattle.pun_base.specs.Limits.{most_sites}
use Rattle.list_text.specs.declared.refusal.ListError.{ListError}
use Rattle.list_text.proofs.ListGrammar.{lists_are_grammar}
use Rattle.rewrite_core.specs.Asked.{Asked, IsInOrder}
use Rattle.rewrite_core.specs.Judging as core
use Rattle.rewrite_core.specs.Judging.{Job}
use Rattle.rewrite_core.specs.Laws.{AreJudgedOnce}
use Rattle.rewrite_core.proofs.OneVerdict as core_verdicts
use Rattle.rewrite_loader.specs.Judging as loader
use Rattle.rewrite_loader.specs.Judging.{LoaderJob}
use Rattle.rewrite_loader.proofs.LoaderVerdicts as loader_verdicts
use Rattle.guest_threads.specs.ThreadRewriting as threads
use Rattle.guest_threads.specs.ThreadRewriting.{ThreadJob}
use Rattle.guest_threads.proofs.ThreadVerdicts as thread_verdicts
use Rattle.thread_loader.specs.Followed.{ThreadLoaderJob}
use Rattle.thread_loader.specs.Rewriting as thread_loader
use Rattle.thread_loader.proofs.LoaderVerdicts as thread_loader_verdicts
use Rattle.command_io.specs.Refusals.{Refusal, BadList, Rewrite}
use Rattle.command_io.specs.Inputs.{Gathered, Missing, TooLong, All, gathered}
use Rattle.command_io.specs.Writing.{Verdict, Refused, Accepted, Writing, OfGathered}
use Rattle.command_io.specs.Verdict.{Patching, Form, Rewriting, rewriting_in, starts_of, sites_of, asked, plain, IsJudgedAs, OfRewriting, OfLists, OfTexts, HoldsBytes}
use Rattle.patch_commands.specs.Answers.{listed_inputs, HasOneVerdict}
use Rattle.patch_commands.specs.LoadAnswers.{refusal_told, with_stub}
use Rattle.patch_commands.specs.ThreadsAnswers.{for_threads, for_threads_with_stub}
use Rattle.command_io.specs.Failing as failing
use Rattle.command_io.specs.Failing.{Failed, Unread, Unwritten, NoMemory}
use Rattle.command_io.specs.Works.{IsOnly, EndsEarly}
use Rattle.patch_commands.specs.Patching.{patch_texts, ListsRefused, ReadsLists}
use Rattle.patch_commands.specs.declared.patch.Inputs.{Inputs}
use Rattle.command_io.specs.declared.ends.Input.TheVariants as input
use Rattle.command_io.proofs.GatheredInputs.{first_read}

-- ---- there is one verdict at most

-- ranges of the same ends are the same
abbrev IsRange : Range → ℕ → ℕ → Type 0
IsRange x lo hi = (e : lo < hi) → x ≡ record { lo = lo; hi = hi; nonempty = e }

own_range : (x : Range) → IsRange x x.lo x.hi
own_range x e = λ i. record { lo = x.lo; hi = x.hi; nonempty = le_prop x.nonempty e i }

same_range : (x y : Range) → ends x ≡ ends y → x ≡ y
same_range x y e =
    let p : x.lo ≡ y.lo = ap (λ (z : ℕ × ℕ). z.0) e in
    let q : x.hi ≡ y.hi = ap (λ (z : ℕ × ℕ). z.1) e in
    subst (λ (l : ℕ). IsRange x l y.hi) p (subst (λ (h : ℕ). IsRange x x.lo h) q (own_range x)) y.nonempty

first_is : (a b : ℕ × ℕ) (us vs : List (ℕ × ℕ)) → a ∷ us ≡ b ∷ vs → (a ≡ b) × (us ≡ vs)
first_is a b us vs e = (cc, cc)

same_ranges : (xs ys : List Range) → map ends xs ≡ map ends ys → xs ≡ ys
same_ranges [] [] e = refl
same_ranges [] (y ∷ ys) e = absurd cc
same_ranges (x ∷ xs) [] e = absurd cc
same_ranges (x ∷ xs) (y ∷ ys) e =
    let p = first_is (ends x) (ends y) (map ends xs) (map ends ys) e in
    ap₂ (λ (a : Range) (rs : List Range). a ∷ rs) (same_range x y p.0) (same_ranges xs ys p.1)

-- a result of judging, as a verdict
abbrev as_verdict : {J E : Type 0} → (E → Refusal) → Result J E → Verdict J
as_verdict told (Ok job) = Accepted job
as_verdict told (Err error) = Refused (told error)

-- what is judged so is judged by the rewriting
of_judged : {J E : Type 0} → (told : E → Refusal) (Judges : Asked → Result J E → Type 0) (a : Asked) (v : Verdict J) → IsJudgedAs told Judges a v
    → (w : Result J E) × (v ≡ as_verdict told w) × Judges a w
of_judged told Judges a (Accepted job) h = (Ok job, refl, h)
of_judged told Judges a (Refused r) h = (Err h.0, ap Refused h.1, h.2)
of_judged told Judges a other h = absurd h

-- an input in order has one verdict at most, where it is judged in one way at most
one_judged : {J E : Type 0} → (told : E → Refusal) (Judges : Asked → Result J E → Type 0) → AreJudgedOnce Judges → (a : Asked) (v w : Verdict J)
    → IsInOrder a → IsJudgedAs told Judges a v → IsJudgedAs told Judges a w → v ≡ w
one_judged told Judges once a v w o h k =
    let x = of_judged told Judges a v h in
    let y = of_judged told Judges a w k in
    x.1 ∙ ap (as_verdict told) (once a x.0 y.0 o x.2 y.2) ∙ sym y.1

-- an input in order has one verdict at most for `patch`
pub one_plain : (a : Asked) (v w : Verdict Job) → IsInOrder a → plain.Judged a v → plain.Judged a w → v ≡ w
one_plain = one_judged Rewrite core.Judges core_verdicts.judged_once

-- an input in order has one verdict at most for `load`
pub one_with_stub : (a : Asked) (v w : Verdict LoaderJob) → IsInOrder a → with_stub.Judged a v → with_stub.Judged a w → v ≡ w
one_with_stub = one_judged refusal_told loader.Judges loader_verdicts.judged_once

-- an input in order has one verdict at most for `threads`
pub one_for_threads : (action : Action) (a : Asked) (v w : Verdict ThreadJob) → IsInOrder a → (for_threads action).Judged a v
    → (for_threads action).Judged a w → v ≡ w
one_for_threads action = one_judged Rewrite threads.Judges thread_verdicts.judged_once

-- an input in order has one verdict at most for `threads` in the loader form
pub one_for_threads_with_stub : (action : Action) (a : Asked) (v w : Verdict ThreadLoaderJob) → IsInOrder a
    → (for_threads_with_stub action).Judged a v → (for_threads_with_stub action).Judged a w → v ≡ w
one_for_threads_with_stub action = one_judged refusal_told thread_loader.Judges thread_loader_verdicts.judged_once

-- Of what is asked in order there is one verdict at most.
abbrev pub IsOnce : {J : Type 0} → Rewriting J → Type 0
IsOnce {J = J} w = (a : Asked) (u v : Verdict J) → IsInOrder a → w.Judged a u → w.Judged a v → u ≡ v

one_rewriting : {J : Type 0} → (w : Rewriting J) → IsOnce w → (file starts sites : List ℕ) (u v : Verdict J)
    → ((reserves : List Range) → IsInOrder (asked w.action reserves file starts sites))
    → OfRewriting w file starts sites u → OfRewriting w file starts sites v → u ≡ v
one_rewriting w once file starts sites u v o h k =
    let same = same_ranges h.0 k.0 (h.1 ∙ sym k.1) in
    let g = subst (λ (rs : List Range). w.Judged (asked w.action rs file starts sites) u) same h.2 in
    once (asked w.action k.0 file starts sites) u v (o k.0) g k.2

-- by what both lists are read as
only_of : {J : Type 0} → (w : Rewriting J) (v : Verdict J) (file starts sites : List ℕ) (o q : Result (List ℕ) ListError) → starts_of starts ≡ o
    → sites_of sites ≡ q → IsOnly v (OfLists w file o q) → IsOnly v (OfTexts w (file ∷ starts ∷ sites ∷ []))
only_of w v file starts sites o q d e h =
    subst (λ (z : Result (List ℕ) ListError). IsOnly v (OfLists w file z (sites_of sites))) (sym d)
    (subst (λ (z : Result (List ℕ) ListError). IsOnly v (OfLists w file o z)) (sym e) h)

-- so a refused list is all that is to be said
pub only_lists : {J : Type 0} → (w : Rewriting J) (x : Inputs) (r : Refusal) → ListsRefused x r
    → IsOnly (Refused r) (OfTexts w (patch_texts x))
only_lists {J = J} w x r (inl h) =
    subst (λ (z : Refusal). IsOnly {J = J} (Refused z) (OfTexts w (patch_texts x))) (sym h.2)
    (only_of w (Refused (BadList input.Starts h.0)) x.file.items x.starts.items x.sites.items (Err h.0) (sites_of x.sites.items) h.1 refl
    (record { so = refl; alone = λ v k. k }))
only_lists {J = J} w x r (inr h) =
    subst (λ (z : Refusal). IsOnly {J = J} (Refused z) (OfTexts w (patch_texts x))) (sym h.4)
    (only_of w (Refused (BadList input.Sites h.1)) x.file.items x.starts.items x.sites.items (Ok h.0) (Err h.1) h.2 h.3
    (record { so = refl; alone = λ v k. k }))

-- a list that is refused, or want of memory before both are read, ends the command before anything is written
pub lists_end : {J : Type 0} → (w : Writing J) (x : Inputs) (e : Failed)
    → ((r : Refusal) → ListsRefused x r → IsOnly (Refused r) (w.Judges (patch_texts x))) → ReadsLists x (Err e) → EndsEarly w (patch_texts x) (Err e)
lists_end w x (failing.Refused r) only h = only r h
lists_end w x NoMemory only h = tt
lists_end w x (Unread name) only h = absurd h
lists_end w x (Unwritten name) only h = absurd h

-- lists ascend, and there aren't too many sites
pub in_order : (action : Action) (reserves : List Range) (file starts sites ns ms : List ℕ) → ((k : ℕ) → slice_index file k < 256)
    → starts_of starts ≡ Ok ns → sites_of sites ≡ Ok ms → IsInOrder (asked action reserves file ns ms)
in_order action reserves file starts sites ns ms bytes e f =
    let a = (lists_are_grammar 4194304 starts ns).0 e in
    let b = (lists_are_grammar most_sites sites ms).0 f in
    record { bytes = bytes; starts = a.ascending; sites = b.ascending; few = b.count }

-- what a rewriting is judged to be
pub only_judged : {J : Type 0} → (w : Rewriting J) → IsOnce w → (file starts sites : List ℕ) (reserves : List Range) (ns ms : List ℕ)
    → (v : Verdict J) → ((k : ℕ) → slice_index file k < 256)
    → starts_of starts ≡ Ok ns → sites_of sites ≡ Ok ms → map ends reserves ≡ w.reserves
    → w.Judged (asked w.action reserves file ns ms) v → IsOnly v (OfTexts w (file ∷ starts ∷ sites ∷ []))
only_judged w once file starts sites reserves ns ms v bytes d e r h =
    let order = λ (rs : List Range). in_order w.action rs file starts sites ns ms bytes d e in
    let here : OfRewriting w file ns ms v = (reserves, r, h) in
    only_of w v file starts sites (Ok ns) (Ok ms) d e (record { so = here; alone = λ u g. one_rewriting w once file ns ms u v order g here })

one_lists : {J : Type 0} → (w : Rewriting J) → IsOnce w → (file : List ℕ) (starts sites : Result (List ℕ) ListError) (u v : Verdict J)
    → ((ns ms : List ℕ) (reserves : List Range) → starts ≡ Ok ns → sites ≡ Ok ms → IsInOrder (asked w.action reserves file ns ms))
    → OfLists w file starts sites u → OfLists w file starts sites v → u ≡ v
one_lists w once file (Err error) sites u v o h k = h ∙ sym k
one_lists w once file (Ok ns) (Err error) u v o h k = h ∙ sym k
one_lists w once file (Ok ns) (Ok ms) u v o h k = one_rewriting w once file ns ms u v (λ rs. o ns ms rs refl refl) h k

one_texts : {J : Type 0} → (w : Rewriting J) → IsOnce w → (file starts sites : List ℕ) (u v : Verdict J)
    → ((k : ℕ) → slice_index file k < 256)
    → OfTexts w (file ∷ starts ∷ sites ∷ []) u → OfTexts w (file ∷ starts ∷ sites ∷ []) v → u ≡ v
one_texts w once file starts sites u v bytes h k =
    one_lists w once file (starts_of starts) (sites_of sites) u v (λ ns ms rs e g. in_order w.action rs file starts sites ns ms bytes e g) h k

-- by what reading comes to
pub one_gathered : {J : Type 0} → (w : Rewriting J) → IsOnce w → (files : Files) (file starts sites : List ℕ) (u v : Verdict J) (g : Gathered)
    → HoldsBytes files file → gathered files (listed_inputs file starts sites) ≡ g → OfGathered (OfTexts w) g u → OfGathered (OfTexts w) g v → u ≡ v
one_gathered w once files file starts sites u v (Missing name) b e h k = h ∙ sym k
one_gathered w once files file starts sites u v (TooLong which) b e h k = h ∙ sym k
one_gathered w once files file starts sites u v (All (x ∷ y ∷ z ∷ [])) b e h k =
    one_texts w once x y z u v (b x (first_read (files file) _ x _ _ e).0) h k
one_gathered w once files file starts sites u v (All other) b e h k = absurd h

-- of the inputs of a desk
pub one_verdict : {J : Type 0} → (f : Form J) → ((p : Patching) → IsOnce (rewriting_in f p)) → HasOneVerdict f
one_verdict f once files p u v b h k =
    one_gathered (rewriting_in f p) (once p) files p.names.file p.names.starts p.names.sites u v
    (gathered files (listed_inputs p.names.file p.names.starts p.names.sites)) b refl h k
