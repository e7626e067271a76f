-- What is judged, by what the code finds out.
use Rattle.std.proofs.Common.{◌≡◌, ℕ, ◌≤◌, true, false, eqb, List, [], ◌∷◌, ◌++◌, length, take, drop, Option, Result, Ok, Err, IfErr, refl, sym, ap, ◌∙◌, subst, arith, append-nil, length-append, length-take}
use Rattle.std.proofs.lemmas.Bool.{eqb-true}
use Rattle.std.proofs.lemmas.List.{take_at, take_all, take-append-drop}
use Rattle.pun_base.specs.Memory.{Bytes}
use Rattle.length_decode.specs.declared.instruction_parts.Parts.{Parts}
use Rattle.length_decode.specs.declared.instruction_parts.Shape.{Shape}
use Rattle.length_decode.specs.declared.instruction_parts.Shape.TheVariants.{Known, Unknown, Short}
use Rattle.length_decode.specs.declared.field_bytes.Stop as reading
use Rattle.length_decode.specs.Spelling.{Fields, IsInstruction, IsSpelling, BeginsWith, spelling}
use Rattle.length_decode.specs.Parse.{parse, shape_from, shape_of}
use Rattle.length_decode.proofs.SpelledFields.{parse_again}
use Rattle.length_decode.proofs.ShapeAnswers.{begins_known, shape_known}
use Rattle.cpu_state.specs.declared.state.Core.{Core}
use Rattle.cpu_state.specs.declared.state.State.{State}
use Rattle.cpu_state.specs.declared.world.Question.{Question}
use Rattle.cpu_state.specs.declared.world.Entry.{Entry}
use Rattle.cpu_state.specs.Bytes.{advanced, code_at}
use Rattle.cpu_state.specs.Regions.{cell_at}
use Rattle.cpu_state.specs.Parts.{core_of}
use Rattle.insn_form.specs.declared.form.Insn.{Insn}
use Rattle.insn_form.specs.Step.{next_after, task_of, question_of}
use Rattle.insn_form.specs.Instruction.{insn_of}
use Rattle.cpu_step.specs.declared.stop.Stop.{Stop}
use Rattle.cpu_step.specs.declared.stop.Stop.TheVariants.{NoByte, UnknownInsn}
use Rattle.cpu_step.specs.declared.step_info.StepFacts.{StepFacts}
use Rattle.cpu_step.specs.declared.step_info.StepInfo.{StepInfo}
use Rattle.cpu_step.specs.Facts.{told_info}
use Rattle.cpu_step.specs.Stepping.{Taken, machine_of, world_after, moved_or_stop, insn_in, fields_in, judged_in, judged_task, judged_reading, judged_code, judged, unread}
use Rattle.cpu_step.specs.Steps.{told, info_of, Moved, Steps}
use Rattle.cpu_step.specs.Kept.{IsFront, asked_from, asked_of}
use Rattle.cpu_step.proofs.Windows.{code_length}
use Rattle.cpu_step.proofs.JudgedSteps.{judged_at, ok_is_step, step_is_ok, err_ok}

-- the instruction of a spelling, as the code finds it out
pub same_task : (f : Fields) (i : Insn) (q : Question) (next : ℕ) (s : State) (entry : Option Entry) → i ≡ insn_of f
    → next ≡ next_after s.rip f → q ≡ question_of f next → insn_in i q next s entry ≡ fields_in f s entry
same_task f i q next s entry e a b =
    let b' = b ∙ ap (question_of f) a in
    λ j. insn_in (e j) (b' j) (a j) s entry

-- bytes that no instruction begins
unknown_reading : (n : ℕ) (r : Result Fields reading.Stop) (c : Core) (rip : ℕ) (m : Bytes) (entry : Option Entry)
    → shape_from n r ≡ Unknown → judged_reading n r c rip m entry ≡ Err (UnknownInsn rip)
unknown_reading n (Ok f) c rip m entry h = absurd cc
unknown_reading n (Err e) c rip m entry h = ap (λ (s : Shape). Err (unread rip n s)) h

short_reading : (n : ℕ) (r : Result Fields reading.Stop) (c : Core) (rip : ℕ) (m : Bytes) (entry : Option Entry)
    → shape_from n r ≡ Short → judged_reading n r c rip m entry ≡ Err (NoByte (advanced rip n))
short_reading n (Ok f) c rip m entry h = absurd cc
short_reading n (Err e) c rip m entry h = ap (λ (s : Shape). Err (unread rip n s)) h

read_all : (bs : List ℕ) (s : Shape) → length bs ≤ 15 → shape_of bs ≡ s → shape_from (length bs) (parse bs) ≡ s
read_all bs s l h = ap (λ (z : List ℕ). shape_from (length z) (parse z)) (sym (take_all 15 bs l)) ∙ h

unknown_code : (bs : List ℕ) (c : Core) (rip : ℕ) (m : Bytes) (entry : Option Entry) → length bs ≤ 15 → eqb (length bs) 0 ≡ false
    → shape_of bs ≡ Unknown → judged_code bs c rip m entry ≡ Err (UnknownInsn rip)
unknown_code [] c rip m entry l n h = absurd cc
unknown_code (b ∷ bs) c rip m entry l n h = unknown_reading (length (b ∷ bs)) (parse (b ∷ bs)) c rip m entry (read_all (b ∷ bs) Unknown l h)

short_code : (bs : List ℕ) (c : Core) (rip : ℕ) (m : Bytes) (entry : Option Entry) → length bs ≤ 15 → eqb (length bs) 0 ≡ false
    → shape_of bs ≡ Short → judged_code bs c rip m entry ≡ Err (NoByte (advanced rip (length bs)))
short_code [] c rip m entry l n h = absurd cc
short_code (b ∷ bs) c rip m entry l n h = short_reading (length (b ∷ bs)) (parse (b ∷ bs)) c rip m entry (read_all (b ∷ bs) Short l h)

few : (bs : List ℕ) (m : Bytes) (rip : ℕ) → bs ≡ code_at m rip 15 → length bs ≤ 15
few bs m rip w = let e = ap length w in let l = code_length m rip 15 in omega (arith, e, l)

-- Where the executable bytes begin no instruction, the stop is an unknown one.
pub unknown : (bs : List ℕ) (c : Core) (rip : ℕ) (m : Bytes) (entry : Option Entry) → bs ≡ code_at m rip 15
    → eqb (length bs) 0 ≡ false → shape_of bs ≡ Unknown → judged c rip m entry ≡ Err (UnknownInsn rip)
unknown bs c rip m entry w n h = ap (λ (z : List ℕ). judged_code z c rip m entry) (sym w)
    ∙ unknown_code bs c rip m entry (few bs m rip w) n h

-- Where they are too few of one, the stop is the missing byte behind them.
pub short : (bs : List ℕ) (c : Core) (rip : ℕ) (m : Bytes) (entry : Option Entry) → bs ≡ code_at m rip 15
    → eqb (length bs) 0 ≡ false → shape_of bs ≡ Short → (k : ℕ) → k ≡ length bs
    → judged c rip m entry ≡ Err (NoByte (advanced rip k))
short bs c rip m entry w n h k e = ap (λ (z : List ℕ). judged_code z c rip m entry) (sym w)
    ∙ short_code bs c rip m entry (few bs m rip w) n h ∙ ap (λ (x : ℕ). Err (NoByte (advanced rip x))) (sym e)

no_bytes : (bs : List ℕ) → eqb (length bs) 0 ≡ true → bs ≡ []
no_bytes [] e = refl
no_bytes (b ∷ bs) e = let k = eqb-true (length (b ∷ bs)) 0 e in absurd (omega (arith, k))

-- Where there is none, the stop is the missing byte at the instruction pointer.
pub nothing : (bs : List ℕ) (c : Core) (rip : ℕ) (m : Bytes) (entry : Option Entry) → bs ≡ code_at m rip 15
    → eqb (length bs) 0 ≡ true → judged c rip m entry ≡ Err (NoByte rip)
nothing bs c rip m entry w n = ap (λ (z : List ℕ). judged_code z c rip m entry) (sym w ∙ no_bytes bs n)

-- bytes that an instruction of these parts begins
pub taken_len : (bs : List ℕ) (p : Parts) → BeginsWith bs p → p.len ≤ length bs
taken_len bs p h =
    let a = ap (λ (z : Parts). z.len) h.spelled.divided in
    let b = ap length h.spelled.spelled in
    let e = ap length h.joined ∙ length-append h.front h.rest in
    omega (arith, a, b, e)

-- As many first bytes as the instruction has are its spelling.
pub taken_spelling : (bs : List ℕ) (p : Parts) (n : ℕ) → n ≡ p.len → BeginsWith bs p → IsSpelling (take n bs) p
taken_spelling bs p n l h =
    let a : length h.front ≡ n = ap length h.spelled.spelled ∙ sym (ap (λ (z : Parts). z.len) h.spelled.divided) ∙ sym l in
    let e : take n bs ≡ h.front = ap (take n) h.joined ∙ take_at h.front h.rest n a in
    subst (λ (z : List ℕ). IsSpelling z p) (sym e) h.spelled

-- Where the executable bytes begin with an instruction, what is judged is its task.
pub known : (bs : List ℕ) (p : Parts) (n : ℕ) (c : Core) (rip : ℕ) (m : Bytes) (entry : Option Entry) (w : bs ≡ code_at m rip 15) (l : n ≡ p.len) (h : BeginsWith bs p)
    → judged_task (task_of h.spelled.fields (next_after rip h.spelled.fields)) (next_after rip h.spelled.fields) c rip m entry ≡ judged c rip m entry
known bs p n c rip m entry w l h =
    let f = h.spelled.fields in
    let e : bs ≡ spelling f ++ h.rest = h.joined ∙ ap (λ z. z ++ h.rest) h.spelled.spelled in
    let r : parse (code_at m rip 15) ≡ Ok f = ap parse (sym w ∙ e) ∙ parse_again f h.rest h.spelled.is.formed in
    sym (judged_at (code_at m rip 15) f c rip m entry r)

-- What is told isn't both a step and a stop.
pub ok_err : (i : StepInfo) (e : Stop) → ◌≡◌ {A = Result StepInfo Stop} (Ok i) (Err e) → ⊥
ok_err i e h = cc

-- What two steps told is the same where the answers are.
pub same_info : (i j : StepInfo) → ◌≡◌ {A = Result StepInfo Stop} (Ok i) (Ok j) → i ≡ j
same_info i j h = cc

-- A call that tells and does what is judged makes a step of the relation, or there is none.
pub steps_by : (next : Option Entry) (old new : State) (r : Result StepInfo Stop) (j : Result Taken Stop)
    → judged (core_of old) old.rip (cell_at old.mem) next ≡ j → r ≡ told j → Moved j old new → Steps next old new r
steps_by next old new (Ok i) (Ok t) e h k = λ world w.
    let m = cell_at old.mem in
    let u = ap (λ (z : StepInfo). z.used) (sym (same_info i (info_of t) h)) in
    let a = sym k.0 in
    let b = sym k.1 in
    let d = sym k.2 in
    ok_is_step (machine_of old world) (machine_of new (world_after i.used world))
    (ap (λ (o : Option Entry). moved_or_stop m world (judged (core_of old) old.rip m o)) w ∙ ap (moved_or_stop m world) e ∙ (λ x. Ok (record { core = a x; rip = b x; mem = d x; world = world_after (u x) world })))
steps_by next old new (Ok i) (Err s) e h k = absurd (ok_err i s h)
steps_by next old new (Err s) (Ok t) e h k = absurd (ok_err (info_of t) s (sym h))
steps_by next old new (Err s) (Err q) e h k = λ world w t x.
    let m = cell_at old.mem in
    err_ok q t (sym (ap (λ (o : Option Entry). moved_or_stop m world (judged (core_of old) old.rip m o)) w ∙ ap (moved_or_stop m world) e) ∙ step_is_ok (machine_of old world) t x)

-- After a stop the state is as it was.
pub stays_by : (old new : State) (r : Result StepInfo Stop) (j : Result Taken Stop) → r ≡ told j → Moved j old new
    → IfErr r (λ (e : Stop). new ≡ old)
stays_by old new (Ok i) j h k = tt
stays_by old new (Err s) (Ok t) h k = absurd (ok_err (info_of t) s (sym h))
stays_by old new (Err s) (Err q) h k = k

-- A stop is told as it is.
pub stop_kept : (r : Result StepFacts Stop) (P : Type 0) → IfErr (told_info r) (λ (e : Stop). P) → IfErr r (λ (e : Stop). P)
stop_kept (Ok f) P h = tt
stop_kept (Err s) P h = h

-- There are as many bytes as are taken.
pub taken_count : (bs : List ℕ) (p : Parts) (n : ℕ) → n ≡ p.len → BeginsWith bs p → n ≡ length (take n bs)
taken_count bs p n l h = let e = length-take n bs in let k = taken_len bs p h in omega (arith, e, k, l)

-- Bytes with which the code at rip begins are those of the instruction that is judged there.
pub judged_front : (bytes : List ℕ) (p : Parts) (s : State) (entry : Option Entry) (h : IsSpelling bytes p) → IsFront bytes (code_at (cell_at s.mem) s.rip 15)
    → fields_in h.fields s entry ≡ judged_in s entry
judged_front bytes p s entry h f =
    let code = code_at (cell_at s.mem) s.rip 15 in
    let joined : code ≡ bytes ++ drop (length bytes) code = sym (take-append-drop (length bytes) code) ∙ ap (λ (z : List ℕ). z ++ drop (length bytes) code) f in
    known code p p.len (core_of s) s.rip (cell_at s.mem) entry refl refl (record { front = bytes; rest = drop (length bytes) code; joined = joined; spelled = h })

-- Bytes that are read as one instruction, no byte more, are its spelling.
pub whole_spelling : (bs : List ℕ) (p : Parts) → shape_of bs ≡ Known p → p.len ≡ length bs → IsSpelling bs p
whole_spelling bs p e l = subst (λ (z : List ℕ). IsSpelling z p) (take_all (length bs) bs (omega arith)) (taken_spelling bs p (length bs) (sym l) (shape_known bs p e))

-- And a spelling is read as that instruction.
pub spelling_read : (bs : List ℕ) (p : Parts) → IsSpelling bs p → shape_of bs ≡ Known p
spelling_read bs p h = begins_known bs p (record { front = bs; rest = []; joined = sym (append-nil bs); spelled = h })

-- What the bytes of an instruction ask is what it asks.
pub asked_is : (f : Fields) (bytes : List ℕ) (next : ℕ) → IsInstruction f → bytes ≡ spelling f → asked_of bytes next ≡ question_of f next
unfolding asked_of
asked_is f bytes next i e =
    ap (λ (r : Result Fields reading.Stop). asked_from r next) (ap parse (e ∙ sym (append-nil (spelling f))) ∙ parse_again f [] i.formed)

-- an instruction of kept bytes is judged as what is read of them
pub kept_task : (f : Fields) (x : Insn) (bytes : List ℕ) (s : State) (entry : Option Entry) (len : ℕ) → IsInstruction f → bytes ≡ spelling f
    → x ≡ insn_of f → len ≡ length bytes
    → insn_in x (asked_of bytes (advanced s.rip len)) (advanced s.rip len) s entry ≡ fields_in f s entry
kept_task f x bytes s entry len i b e n =
    let after = advanced s.rip len in
    same_task f x (asked_of bytes after) after s entry e (ap (advanced s.rip) (n ∙ ap length b)) (asked_is f bytes after i b)
