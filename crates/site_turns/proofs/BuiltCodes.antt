-- The codes of a report's trampolines, made one after the other, row by row.
use Rattle.std.proofs.Common.{◌≡◌, ℕ, ◌+◌, ◌<◌, ◌≤◌, false, List, [], ◌∷◌, ◌++◌, length, take, drop, get_or, map, sym, ap, ◌∙◌, subst, append_assoc, append-nil}
use Rattle.std.specs.Option.{is_some}
use Rattle.std.specs.List.{AllByRecursion, flat_map}
use Rattle.std.proofs.lemmas.List.{map-append, drop_more, take_more, take_all}
use Rattle.pun_base.specs.Memory.{Bytes}
use Rattle.pun_base.specs.declared.tramp.Tramp.{Tramp}
use Rattle.cpu_state.specs.Bytes.{Stands}
use Rattle.length_decode.specs.Spelling.{spelling}
use Rattle.insn_form.specs.Step.{next_after}
use Rattle.trampoline.specs.Trampolines.{code_of}
use Rattle.elf_emit.specs.declared.built.Built.{Built}
use Rattle.patch_report.specs.declared.row.ReportRow.{ReportRow}
use Rattle.patch_report.specs.Values.{row_value}
use Rattle.start_entries.specs.declared.entry.StartEntry.{StartEntry}
use Rattle.sound_images.specs.Reports.{Line, row_lines, event_of}
use Rattle.sound_images.specs.Rules.{Case, HasCode, displaced_at}
use Rattle.site_turns.specs.Planning.{lines_of, AreCodesBy}
use Rattle.site_turns.specs.Turned.{line_at, AddsCodes}
use Rattle.site_turns.proofs.JoinedLists.{left_at, gathered}

-- codes of trampolines are codes with one more trampoline and its code appended
codes_more : (C : Line → List ℕ → Type 0) (ls : List Line) (bs : List Built) (l : Line) (b : Built) → AreCodesBy C ls bs → b.place ≡ l.tramp.place
    → C l b.code.bytes → b.code.falls ≡ false → AreCodesBy C (ls ++ l ∷ []) (bs ++ b ∷ [])
codes_more C [] [] l b h p k f = (p, k, f, tt)
codes_more C [] (a ∷ bs) l b h p k f = absurd h
codes_more C (m ∷ ls) [] l b h p k f = absurd h
codes_more C (m ∷ ls) (a ∷ bs) l b h p k f = (h.0, h.1, h.2, codes_more C ls bs l b h.3 p k f)

-- what holds of all elements of two joined lists holds of all of each
all_parts : {X : Type 0} (P : X → Type 0) (xs ys : List X) → AllByRecursion P (xs ++ ys) → AllByRecursion P xs × AllByRecursion P ys
all_parts P [] ys h = (tt, h)
all_parts P (x ∷ xs) ys h = let k = all_parts P xs ys h.1 in ((h.0, k.0), k.1)

-- a trampoline at address 0
abbrev pub blank : Tramp
blank = record { place = 0; start = 0; event = false }

-- the trampolines of a site so far have their code; that of the others can be made
pub record IsPushing (P : Line → Type 0) (C : Line → List ℕ → Type 0) (number : ℕ) (done left : List Tramp) (old built : List Built) : Type 0 where
  pub can : AllByRecursion P (map (line_at number) left)
  pub codes : AddsCodes C (map (line_at number) done) old built

-- before the first code of a site is made, no trampoline has its code, and all codes can be made
pub none_pushed : (P : Line → Type 0) (C : Line → List ℕ → Type 0) (number : ℕ) (ts : List Tramp) (old : List Built)
    → AllByRecursion P (map (line_at number) ts) → IsPushing P C number [] ts old old
none_pushed P C number ts old h = record { can = h; codes = λ ls k. subst (λ (xs : List Line). AreCodesBy C xs old) (sym (append-nil ls)) k }

-- the code of the next one can be made
pub can_next : (P : Line → Type 0) (C : Line → List ℕ → Type 0) (number : ℕ) (ts : List Tramp) (i : ℕ) (old built : List Built)
    → i < length ts → IsPushing P C number (take i ts) (drop i ts) old built → P (line_at number (get_or ts i blank))
can_next P C number ts i old built l h =
    (subst (λ (xs : List Tramp). AllByRecursion P (map (line_at number) xs)) (drop_more ts i blank l) h.can).0

-- the trampolines of a site so far have their code after the code of the next one is made
pub codes_next : (P : Line → Type 0) (C : Line → List ℕ → Type 0) (number : ℕ) (ts : List Tramp) (i : ℕ) (old built most : List Built) (b : Built)
    → i < length ts → b.place ≡ (get_or ts i blank).place → C (line_at number (get_or ts i blank)) b.code.bytes → b.code.falls ≡ false
    → most ≡ built ++ b ∷ [] → IsPushing P C number (take i ts) (drop i ts) old built
    → IsPushing P C number (take (i + 1) ts) (drop (i + 1) ts) old most
codes_next P C number ts i old built most b l place has falls m h =
    let line = line_at number in
    let t : Tramp = get_or ts i blank in
    record {
      can = (subst (λ (xs : List Tramp). AllByRecursion P (map line xs)) (drop_more ts i blank l) h.can).1;
      codes = λ ls q.
          subst (λ (xs : List Line). AreCodesBy C xs most)
          (append_assoc ls (map line (take i ts)) (line t ∷ [])
          ∙ ap (λ (xs : List Line). ls ++ xs) (sym (ap (map line) (take_more ts i blank l) ∙ map-append line (take i ts) (t ∷ []))))
          (subst (λ (bs : List Built). AreCodesBy C ((ls ++ map line (take i ts)) ++ line t ∷ []) bs) (sym m)
          (codes_more C (ls ++ map line (take i ts)) built (line t) b (h.codes ls q) place has falls));
    }

-- where none is left, each has its code
pub codes_pushed : (P : Line → Type 0) (C : Line → List ℕ → Type 0) (number : ℕ) (ts : List Tramp) (i : ℕ) (old built : List Built) → length ts ≤ i
    → IsPushing P C number (take i ts) (drop i ts) old built → AddsCodes C (map (line_at number) ts) old built
codes_pushed P C number ts i old built l h = subst (λ (xs : List Tramp). AddsCodes C (map (line_at number) xs) old built) (take_all i ts l) h.codes

-- the rows so far have their code; that of the others can be made
pub record IsBuilding (P : Line → Type 0) (C : Line → List ℕ → Type 0) (done left : List ReportRow) (built : List Built) : Type 0 where
  pub can : AllByRecursion P (lines_of left)
  pub codes : AreCodesBy C (lines_of done) built

-- before the first row none has its code, and all codes can be made
pub none_built : (P : Line → Type 0) (C : Line → List ℕ → Type 0) (rows : List ReportRow) (built : List Built) → built ≡ []
    → AllByRecursion P (lines_of rows) → IsBuilding P C [] rows built
none_built P C rows built e h = record { can = h; codes = subst (λ (bs : List Built). AreCodesBy C [] bs) (sym e) tt }

-- the code of the next row can be made
pub can_row : (P : Line → Type 0) (C : Line → List ℕ → Type 0) (rows : List ReportRow) (i : ℕ) (row : ReportRow) (built : List Built) → i < length rows
    → row ≡ get_or rows i row → IsBuilding P C (take i rows) (drop i rows) built → AllByRecursion P (row_lines (row_value row))
can_row P C rows i row built l e h =
    (all_parts P (row_lines (row_value row)) (lines_of (drop (i + 1) rows))
    (subst (λ (xs : List ReportRow). AllByRecursion P (lines_of xs)) (left_at rows i row l e) h.can)).0

-- the rows so far have their code after the code of the next row is made
pub row_built : (P : Line → Type 0) (C : Line → List ℕ → Type 0) (rows : List ReportRow) (i : ℕ) (row : ReportRow) (built most : List Built)
    → i < length rows → row ≡ get_or rows i row → AddsCodes C (row_lines (row_value row)) built most → IsBuilding P C (take i rows) (drop i rows) built
    → IsBuilding P C (take (i + 1) rows) (drop (i + 1) rows) most
row_built P C rows i row built most l e k h =
    let done = take i rows in
    let m : take (i + 1) rows ≡ done ++ row ∷ [] = take_more rows i row l ∙ ap (λ (y : ReportRow). done ++ y ∷ []) (sym e) in
    record {
      can = (all_parts P (row_lines (row_value row)) (lines_of (drop (i + 1) rows))
          (subst (λ (xs : List ReportRow). AllByRecursion P (lines_of xs)) (left_at rows i row l e) h.can)).1;
      codes = subst (λ (ls : List Line). AreCodesBy C ls most)
          (sym (ap (flat_map row_lines) (ap (map row_value) m ∙ map-append row_value done (row ∷ [])) ∙ gathered row_lines (map row_value done) (row_value row)))
          (k (lines_of done) h.codes);
    }

-- after the last row each trampoline has its code
pub all_built : (P : Line → Type 0) (C : Line → List ℕ → Type 0) (rows : List ReportRow) (i : ℕ) (built : List Built) → length rows ≤ i
    → IsBuilding P C (take i rows) (drop i rows) built → AreCodesBy C (lines_of rows) built
all_built P C rows i built l h = subst (λ (xs : List ReportRow). AreCodesBy C (lines_of xs) built) (take_all i rows l) h.codes

-- codes that meet a relation meet each one that follows from it
pub codes_by : (C D : Line → List ℕ → Type 0) (ls : List Line) (bs : List Built) → ((l : Line) (code : List ℕ) → C l code → D l code)
    → AreCodesBy C ls bs → AreCodesBy D ls bs
codes_by C D [] [] f h = h
codes_by C D [] (b ∷ bs) f h = h
codes_by C D (l ∷ ls) [] f h = h
codes_by C D (l ∷ ls) (b ∷ bs) f h = (h.0, f l b.code.bytes h.1, h.2, codes_by C D ls bs f h.3)

-- the code of a trampoline is the same in cases with one original, list, action and private range, whichever turns are done
pub case_same : (c d : Case) (l : Line) (code : List ℕ) → c.original ≡ d.original → c.listed ≡ d.listed → c.report.action ≡ d.report.action
    → c.report.private ≡ d.report.private → HasCode c l code → HasCode d l code
case_same c d l code o s a p h = record {
  fields = h.fields;
  spelled = h.spelled;
  stands = subst (λ (m : Bytes). Stands m l.tramp.start (spelling h.fields)) o h.stands;
  displaced = ap (λ (es : List StartEntry). is_some (displaced_at es l.tramp.start)) (sym s) ∙ h.displaced;
  is = h.is ∙ (λ i. code_of (event_of (a i) l) (p i).0 h.fields (next_after l.tramp.start h.fields) l.tramp.place);
}
