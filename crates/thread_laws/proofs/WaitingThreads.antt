-- A thread that begins is one that waits at the entry until a delivery leads it to its first address. So runs in which threads begin are
-- runs with deliveries of guests that have all their threads from the start, and the theorem on these holds of them.
use Rattle.std.proofs.Common.{◌≡◌, ◌≢◌, ℕ, zero, suc, ◌+◌, ◌^◌, ◌<◌, Bool, true, false, not, ◌&&◌, cond, List, [], ◌∷◌, ◌++◌, length, map, Some, refl, sym, ap, ◌∙◌, subst, arith}
use Rattle.std.specs.Prelude.{slice_get, slice_set, slice_index}
use Rattle.std.specs.List.{AllByRecursion}
use Rattle.std.proofs.lemmas.Bool.{true≢false}
use Rattle.std.proofs.lemmas.List.{append-nil, map-append, length-set, set-append_left}
use Rattle.std.proofs.lemmas.Option.{slice_get_within}
use Rattle.cpu_state.specs.declared.world.Entry.{Entry}
use Rattle.cpu_state.specs.Processor.{IsProcessorCore, GiveWords}
use Rattle.insn_form.specs.Operands.{rax, rsp}
use Rattle.insn_form.specs.Machine.{put_all, avoids_writes}
use Rattle.insn_form.specs.Runs.{nowhere}
use Rattle.insn_form.specs.Processor.{IsProcessorState}
use Rattle.start_entries.specs.Standing.{AreEntries}
use Rattle.image_runs.specs.declared.delivery.Delivery.{Delivery}
use Rattle.image_runs.specs.Listed.{is_start}
use Rattle.patch_report.proofs.ListPlaces.{some_is}
use Rattle.thread_runs.specs.Guest.{Thread, Guest, machine_of, thread_of, last_guest}
use Rattle.thread_runs.specs.Threading.{Threading, has_saved, is_saved_by, IsThreadSound}
use Rattle.thread_runs.specs.Threading.Part.{Saved}
use Rattle.thread_runs.specs.Watching.{Watched, Watch, is_effect, projection, watched_after}
use Rattle.thread_runs.specs.Premises.{StandAtStarts, touches_none}
use Rattle.thread_runs.specs.Relation.{IsBeside}
use Rattle.thread_runs.specs.Theorem.{AreStartGuests, LiesBeside, AreCounted, AreCovered, CanGo, GetsOut}
use Rattle.thread_runs.specs.Ring.{AreKept}
use Rattle.thread_runs.specs.GuestDeliveries.{GuestItem, Goes, Takes, given, Receives, LeadsBy, IsInterleavedWith}
use Rattle.thread_runs.specs.WatchedDeliveries.{WatchWith, watch_with, watched_given, made_after, IsProperItem, IsProperRunWith, last_with}
use Rattle.thread_runs.specs.TheoremWithDeliveries.{IsGuestFollowedWith}
use Rattle.thread_runs.proofs.AllStepLaws.{step_laws}
use Rattle.thread_runs.proofs.ThreadPlaces.{start_old, part_never}
use Rattle.thread_runs.proofs.ThreadsTheorem.{threads_followed_with}
use Rattle.thread_laws.specs.Beginning.{BirthItem, Does, Begins, CanBegin, child_of, with_thread, IsGrowing, GrowingWatch, growing_watch, IsDone, IsBegun, IsProperBirthItem, IsProperGrowing, last_growing}
use Rattle.thread_laws.specs.ThreadsBegin.{IsGrowingFollowed, ThreadsMayBegin}

-- ---- lists

-- what holds of all elements of two lists holds of all of both
all_both : {X : Type 0} (P : X → Type 0) (xs ys : List X) → AllByRecursion P xs → AllByRecursion P ys → AllByRecursion P (xs ++ ys)
all_both P [] ys h k = k
all_both P (x ∷ xs) ys h k = (h.0, all_both P xs ys h.1 k)

-- an element of a list is one of that list and more
get_left : {X : Type 0} (xs ys : List X) (k : ℕ) (x : X) → slice_get xs k ≡ Some x → slice_get (xs ++ ys) k ≡ Some x
get_left [] ys k x e = absurd cc
get_left (z ∷ zs) ys zero x e = e
get_left (z ∷ zs) ys (suc k) x e = get_left zs ys k x e

-- an element of both is one of the first, where its index is below its length
get_below : {X : Type 0} (xs ys : List X) (k : ℕ) (x : X) → k < length xs → slice_get (xs ++ ys) k ≡ Some x → slice_get xs k ≡ Some x
get_below [] ys k x l e = absurd (omega (arith, l))
get_below (z ∷ zs) ys zero x l e = e
get_below (z ∷ zs) ys (suc k) x l e = get_below zs ys k x (omega (arith, l)) e

-- the first element of the second
get_seam : {X : Type 0} (xs ys : List X) (y : X) (n : ℕ) → length xs ≡ n → slice_get (xs ++ y ∷ ys) n ≡ Some y
get_seam [] ys y zero l = refl
get_seam [] ys y (suc n) l = absurd (omega (arith, l))
get_seam (x ∷ xs) ys y zero l = absurd (omega (arith, l))
get_seam (x ∷ xs) ys y (suc n) l = get_seam xs ys y n (omega (arith, l))

-- it is set
set_seam : {X : Type 0} (xs ys : List X) (y z : X) (n : ℕ) → length xs ≡ n → slice_set (xs ++ y ∷ ys) n z ≡ (xs ++ z ∷ []) ++ ys
set_seam [] ys y z zero l = refl
set_seam [] ys y z (suc n) l = absurd (omega (arith, l))
set_seam (x ∷ xs) ys y z zero l = absurd (omega (arith, l))
set_seam (x ∷ xs) ys y z (suc n) l = ap (λ t. x ∷ t) (set_seam xs ys y z n (omega (arith, l)))

-- one element more
length_more : {X : Type 0} (xs : List X) (y : X) → length (xs ++ y ∷ []) ≡ length xs + 1
length_more [] y = omega arith
length_more (x ∷ xs) y = omega (arith, length_more xs y)

-- three lists
append_three : {X : Type 0} (xs ys zs : List X) → (xs ++ ys) ++ zs ≡ xs ++ (ys ++ zs)
append_three [] ys zs = refl
append_three (x ∷ xs) ys zs = ap (λ t. x ∷ t) (append_three xs ys zs)

-- a property of all elements is one of each
all_get : {X : Type 0} (P : X → Type 0) (xs : List X) (k : ℕ) (x : X) → AllByRecursion P xs → slice_get xs k ≡ Some x → P x
all_get P [] k x h e = absurd cc
all_get P (z ∷ zs) zero x h e = subst P (some_is z x e) h.0
all_get P (z ∷ zs) (suc k) x h e = all_get P zs k x h.1 e

-- numbers stay below a bound where one below it is set
set_small : (xs : List ℕ) (k v r n : ℕ) → ((r : ℕ) → slice_index xs r < n) → v < n → slice_index (slice_set xs k v) r < n
set_small [] k v r n h l = h r
set_small (x ∷ xs) zero v zero n h l = l
set_small (x ∷ xs) zero v (suc r) n h l = h (suc r)
set_small (x ∷ xs) (suc k) v zero n h l = h 0
set_small (x ∷ xs) (suc k) v (suc r) n h l = set_small xs k v r n (λ q. h (suc q)) l

-- ---- items

-- the delivery by which a thread begins
abbrev born : Thread → Delivery
born t = record { core = t.core; rip = t.rip; writes = [] }

-- the threads that begin, in order
abbrev begun : List BirthItem → List Thread
begun [] = []
begun (Does i ∷ is) = begun is
begun (Begins t ∷ is) = t ∷ begun is

-- the items of a guest that has all threads from the start, after those that n threads there are
abbrev reduced : ℕ → List BirthItem → List GuestItem
reduced n [] = []
reduced n (Does i ∷ is) = i ∷ reduced n is
reduced n (Begins t ∷ is) = Takes n (born t) ∷ reduced (suc n) is

-- the thread of an item
abbrev thread_in : GuestItem → ℕ
thread_in (Goes k) = k
thread_in (Takes k d) = k

-- each item is one of a thread that has begun, and each thread that begins can
abbrev AreInRange : Threading → ℕ → List BirthItem → Type 0
AreInRange r n [] = Unit {0}
AreInRange r n (Does i ∷ is) = (thread_in i < n) × AreInRange r n is
AreInRange r n (Begins t ∷ is) = CanBegin r.listed t × AreInRange r (suc n) is

-- items of threads behind others
reduced_own : (n : ℕ) (own : List GuestItem) → reduced n (map Does own) ≡ own
reduced_own n [] = refl
reduced_own n (i ∷ own) = ap (λ l. i ∷ l) (reduced_own n own)

reduced_does : (n : ℕ) (is : List BirthItem) (own : List GuestItem) → reduced n (is ++ map Does own) ≡ reduced n is ++ own
reduced_does n [] own = reduced_own n own
reduced_does n (Does j ∷ is) own = ap (λ l. j ∷ l) (reduced_does n is own)
reduced_does n (Begins t ∷ is) own = ap (λ l. Takes n (born t) ∷ l) (reduced_does (suc n) is own)

begun_own : (own : List GuestItem) → begun (map Does own) ≡ []
begun_own [] = refl
begun_own (i ∷ own) = begun_own own

begun_does : (is : List BirthItem) (own : List GuestItem) → begun (is ++ map Does own) ≡ begun is
begun_does [] own = begun_own own
begun_does (Does j ∷ is) own = begun_does is own
begun_does (Begins t ∷ is) own = ap (λ l. t ∷ l) (begun_does is own)

begun_begins : (is : List BirthItem) (t : Thread) → begun (is ++ Begins t ∷ []) ≡ begun is ++ t ∷ []
begun_begins [] t = refl
begun_begins (Does j ∷ is) t = begun_begins is t
begun_begins (Begins u ∷ is) t = ap (λ l. u ∷ l) (begun_begins is t)

-- one more thread that begins
reduced_begins : (n m : ℕ) (is : List BirthItem) (t : Thread) → n + length (begun is) ≡ m → reduced n (is ++ Begins t ∷ []) ≡ reduced n is ++ Takes m (born t) ∷ []
reduced_begins n m [] t e = ap (λ z. Takes z (born t) ∷ []) (omega (arith, e))
reduced_begins n m (Does j ∷ is) t e = ap (λ l. j ∷ l) (reduced_begins n m is t e)
reduced_begins n m (Begins u ∷ is) t e = ap (λ l. Takes n (born u) ∷ l) (reduced_begins (suc n) m is t (omega (arith, e)))

range_own : (r : Threading) (n : ℕ) (own : List GuestItem) → AllByRecursion (λ i. thread_in i < n) own → AreInRange r n (map Does own)
range_own r n [] h = tt
range_own r n (i ∷ own) h = (h.0, range_own r n own h.1)

range_does : (r : Threading) (n m : ℕ) (is : List BirthItem) (own : List GuestItem) → n + length (begun is) ≡ m → AreInRange r n is → AllByRecursion (λ i. thread_in i < m) own → AreInRange r n (is ++ map Does own)
range_does r n m [] own e h l = range_own r n own (subst (λ z. AllByRecursion (λ (i : GuestItem). thread_in i < z) own) (omega (arith, e)) l)
range_does r n m (Does j ∷ is) own e h l = (h.0, range_does r n m is own e h.1 l)
range_does r n m (Begins u ∷ is) own e h l = (h.0, range_does r (suc n) m is own (omega (arith, e)) h.1 l)

range_begins : (r : Threading) (n : ℕ) (is : List BirthItem) (t : Thread) → AreInRange r n is → CanBegin r.listed t → AreInRange r n (is ++ Begins t ∷ [])
range_begins r n [] t h c = (c, tt)
range_begins r n (Does j ∷ is) t h c = (h.0, range_begins r n is t h.1 c)
range_begins r n (Begins u ∷ is) t h c = (h.0, range_begins r (suc n) is t h.1 c)

-- ---- guests with threads that wait

-- the thread that waits at the entry until it begins
abbrev waits : Threading → Thread → Thread
waits r t = record { core = t.core; rip = r.entry; world = t.world }

abbrev waiting : Threading → Thread → Watched
waiting r t = record { now = waits r t; projected = waits r t }

-- a guest with threads that wait
abbrev padded : Threading → Guest → List Thread → Guest
padded r g ts = record { threads = g.threads ++ map (waits r) ts; mem = g.mem }

abbrev padded_watch : Threading → Watch → List Thread → Watch
padded_watch r w ts = record { threads = w.threads ++ map (waiting r) ts; mem = w.mem; stale = w.stale; log = w.log; claims = w.claims; fills = w.fills }

-- with its items
abbrev padded_with : Threading → ℕ → GrowingWatch → List Thread → WatchWith
padded_with r n x ts = record { watch = padded_watch r x.watch ts; made = reduced n x.made }

-- the run of the guest with all threads
abbrev padded_run : Threading → ℕ → List BirthItem → List GrowingWatch → List WatchWith
padded_run r n [] ys = []
padded_run r n (i ∷ is) [] = []
padded_run r n (i ∷ is) (y ∷ ys) = padded_with r n y (begun is) ∷ padded_run r n is ys

-- a thread that counts as itself
abbrev itself : Thread → Watched
itself t = record { now = t; projected = t }

-- what waits becomes a watched thread that waits
map_watched : (r : Threading) (ts : List Thread) → map itself (map (waits r) ts) ≡ map (waiting r) ts
map_watched r [] = refl
map_watched r (t ∷ ts) = ap (λ l. waiting r t ∷ l) (map_watched r ts)

-- with none that waits it is the guest itself
padded_none : (r : Threading) (w : Watch) → padded_watch r w [] ≡ w
padded_none r w = let p = append-nil w.threads in λ i. record { threads = p i; mem = w.mem; stale = w.stale; log = w.log; claims = w.claims; fills = w.fills }

guest_none : (r : Threading) (g : Guest) → padded r g [] ≡ g
guest_none r g = let p = append-nil g.threads in λ i. record { threads = p i; mem = g.mem }

-- nothing written makes nothing fresh
stale_same : (p : ℕ → Bool) → (λ x. p x && not (not true)) ≡ p
stale_same p = λ i x. and_true (p x) i
  where
    and_true : (b : Bool) → (b && not (not true)) ≡ b
    and_true true = refl
    and_true false = refl

-- ---- the original's runs

-- a thread's item in the guest with those that wait is one without them
lead_back : (r : Threading) (i : GuestItem) (g h : Guest) (ts : List Thread) → thread_in i < length g.threads → LeadsBy r.listed i (padded r g ts) h
    → (h' : Guest) × LeadsBy r.listed i g h' × (h ≡ padded r h' ts) × (length h'.threads ≡ length g.threads)
lead_back r (Goes k) g h ts l m = (
  record { threads = slice_set g.threads k (thread_of m.to); mem = m.to.mem },
  record { thread = m.thread; there = get_below g.threads (map (waits r) ts) k m.thread l m.there; to = m.to; steps = m.steps; after = refl },
  m.after ∙ ap (λ (z : List Thread). record { threads = z; mem = m.to.mem }) (set-append_left g.threads (map (waits r) ts) k (thread_of m.to) l),
  length-set g.threads k (thread_of m.to),
)
lead_back r (Takes k d) g h ts l m = (
  record { threads = slice_set g.threads k (given d m.thread); mem = put_all g.mem d.writes },
  record { thread = m.thread; there = get_below g.threads (map (waits r) ts) k m.thread l m.there; fits = m.fits; after = refl },
  m.after ∙ ap (λ (z : List Thread). record { threads = z; mem = put_all g.mem d.writes }) (set-append_left g.threads (map (waits r) ts) k (given d m.thread) l),
  length-set g.threads k (given d m.thread),
)

-- and the other way round
lead_on : (r : Threading) (i : GuestItem) (g h : Guest) (ts : List Thread) → LeadsBy r.listed i g h → LeadsBy r.listed i (padded r g ts) (padded r h ts)
lead_on r (Goes k) g h ts m = record {
  thread = m.thread;
  there = get_left g.threads (map (waits r) ts) k m.thread m.there;
  to = m.to;
  steps = m.steps;
  after = ap (λ (z : Guest). padded r z ts) m.after
      ∙ ap (λ (z : List Thread). record { threads = z; mem = m.to.mem }) (sym (set-append_left g.threads (map (waits r) ts) k (thread_of m.to) (slice_get_within g.threads k m.thread m.there)));
}
lead_on r (Takes k d) g h ts m = record {
  thread = m.thread;
  there = get_left g.threads (map (waits r) ts) k m.thread m.there;
  fits = m.fits;
  after = ap (λ (z : Guest). padded r z ts) m.after
      ∙ ap (λ (z : List Thread). record { threads = z; mem = put_all g.mem d.writes }) (sym (set-append_left g.threads (map (waits r) ts) k (given d m.thread) (slice_get_within g.threads k m.thread m.there)));
}

-- after the delivery by which it begins a thread that waited has begun
after_birth : (r : Threading) (g : Guest) (t : Thread) (ts : List Thread) (n : ℕ) → length g.threads ≡ n
    → record { threads = slice_set (padded r g (t ∷ ts)).threads n (given (born t) (waits r t)); mem = put_all g.mem [] } ≡ padded r (with_thread t g) ts
after_birth r g t ts n l = ap (λ (z : List Thread). record { threads = z; mem = g.mem }) (set_seam g.threads (map (waits r) ts) (waits r t) t n l)

-- a run of the guest with all threads is one of the guest whose threads begin
run_back : (r : Threading) (n : ℕ) (made : List BirthItem) (g : Guest) (hs : List Guest) → length g.threads ≡ n → AreInRange r n made
    → IsInterleavedWith r.listed (reduced n made) (padded r g (begun made)) hs
    → (gs : List Guest) × IsGrowing r.listed made g gs × (last_guest (padded r g (begun made)) hs ≡ last_guest g gs)
run_back r n [] g [] l R P = ([], tt, guest_none r g)
run_back r n [] g (h ∷ hs) l R P = absurd P
run_back r n (Does i ∷ is) g [] l R P = absurd P
run_back r n (Does i ∷ is) g (h ∷ hs) l R P =
    let q = lead_back r i g h (begun is) (omega (arith, l, R.0)) P.0 in
    let rest = run_back r n is q.0 hs (q.3 ∙ l) R.1 (subst (λ z. IsInterleavedWith r.listed (reduced n is) z hs) q.2 P.1) in
    (q.0 ∷ rest.0, (q.1, rest.1), ap (λ z. last_guest z hs) q.2 ∙ rest.2)
run_back r n (Begins t ∷ is) g [] l R P = absurd P
run_back r n (Begins t ∷ is) g (h ∷ hs) l R P =
    let m : Receives r.listed n (born t) (padded r g (t ∷ begun is)) h = P.0 in
    let same : m.thread ≡ waits r t = some_is m.thread (waits r t) (sym m.there ∙ get_seam g.threads (map (waits r) (begun is)) (waits r t) n l) in
    let e : h ≡ padded r (with_thread t g) (begun is) =
    m.after ∙ ap (λ (u : Thread). record { threads = slice_set (padded r g (t ∷ begun is)).threads n (given (born t) u); mem = put_all g.mem [] }) same ∙ after_birth r g t (begun is) n l in
    let long : length (with_thread t g).threads ≡ suc n = (let z = length_more g.threads t in omega (arith, z, l)) in
    let rest = run_back r (suc n) is (with_thread t g) hs long R.1 (subst (λ z. IsInterleavedWith r.listed (reduced (suc n) is) z hs) e P.1) in
    (with_thread t g ∷ rest.0, ((R.0, refl), rest.1), ap (λ z. last_guest z hs) e ∙ rest.2)

-- an item leaves the number of threads
same_length : (r : Threading) (i : GuestItem) (g h : Guest) → LeadsBy r.listed i g h → length h.threads ≡ length g.threads
same_length r (Goes k) g h m = ap (λ (z : Guest). length z.threads) m.after ∙ length-set g.threads k (thread_of m.to)
same_length r (Takes k d) g h m = ap (λ (z : Guest). length z.threads) m.after ∙ length-set g.threads k (given d m.thread)

-- a thread that can begin takes the delivery by which it does
birth : (r : Threading) (g : Guest) (t : Thread) (ts : List Thread) (n : ℕ) → is_start r.listed r.entry ≡ true → length g.threads ≡ n → CanBegin r.listed t
    → Receives r.listed n (born t) (padded r g (t ∷ ts)) (padded r (with_thread t g) ts)
birth r g t ts n E l C = record {
  thread = waits r t;
  there = get_seam g.threads (map (waits r) ts) (waits r t) n l;
  fits = record { here = E; there = C.start; core = C.core; held = refl; apart = refl };
  after = sym (after_birth r g t ts n l);
}

-- a run of the guest whose threads begin is one of the guest with all threads
run_on : (r : Threading) (n : ℕ) (made : List BirthItem) (g : Guest) (gs : List Guest) → is_start r.listed r.entry ≡ true → length g.threads ≡ n → IsGrowing r.listed made g gs
    → (hs : List Guest) × IsInterleavedWith r.listed (reduced n made) (padded r g (begun made)) hs × (last_guest (padded r g (begun made)) hs ≡ last_guest g gs)
run_on r n [] g [] E l P = ([], tt, guest_none r g)
run_on r n [] g (h ∷ hs) E l P = absurd P
run_on r n (Does i ∷ is) g [] E l P = absurd P
run_on r n (Does i ∷ is) g (h ∷ hs) E l P =
    let rest = run_on r n is h hs E (same_length r i g h P.0 ∙ l) P.1 in
    (padded r h (begun is) ∷ rest.0, (lead_on r i g h (begun is) P.0, rest.1), rest.2)
run_on r n (Begins t ∷ is) g [] E l P = absurd P
run_on r n (Begins t ∷ is) g (h ∷ hs) E l P =
    let e : h ≡ with_thread t g = P.0.1 in
    let long : length (with_thread t g).threads ≡ suc n = (let z = length_more g.threads t in omega (arith, z, l)) in
    let rest = run_on r (suc n) is (with_thread t g) hs E long (subst (λ z. IsGrowing r.listed is z hs) e P.1) in
    (padded r (with_thread t g) (begun is) ∷ rest.0, (birth r g t (begun is) n E l P.0.0, rest.1), rest.2 ∙ ap (λ z. last_guest z hs) (sym e))

-- ---- the patched guest's runs

module _ (r : Threading) (A : AreEntries r.original r.listed) (S : IsThreadSound r) (E : is_start r.listed r.entry ≡ true) where
  -- what waits at the entry stands in no event
  no_event : has_saved r r.entry ≡ false
  no_event = part_never r A S step_laws.long r.entry Saved (start_old r A S step_laws.long r.entry E)

  -- what waits stands at a listed start
  all_wait : (ts : List Thread) → StandAtStarts r (map (waiting r) ts)
  all_wait [] = tt
  all_wait (t ∷ ts) = (E, all_wait ts)

  -- what holds of each thread in its event holds of each with those that wait
  in_events : (Q : ℕ → Watched → Type 0) (us : List Watched) (ts : List Thread) → ((j : ℕ) (o : Watched) → slice_get us j ≡ Some o → has_saved r o.now.rip ≡ true → Q j o)
      → (j : ℕ) (o : Watched) → slice_get (us ++ map (waiting r) ts) j ≡ Some o → has_saved r o.now.rip ≡ true → Q j o
  in_events Q [] [] h j o e s = absurd cc
  in_events Q [] (t ∷ ts) h zero o e s = absurd (true≢false (sym s ∙ ap (λ (z : Watched). has_saved r z.now.rip) (sym (some_is (waiting r t) o e)) ∙ no_event))
  in_events Q [] (t ∷ ts) h (suc j) o e s = in_events (λ k. Q (suc k)) [] ts (λ k p g. absurd cc) j o e s
  in_events Q (u ∷ us) ts h zero o e s = h zero o e s
  in_events Q (u ∷ us) ts h (suc j) o e s = in_events (λ k. Q (suc k)) us ts (λ k. h (suc k)) j o e s

  -- an item of the original's run behind those that were made
  made_more : (k : ℕ) (one : Watched) (made : List GuestItem) → made ++ made_after r k one [] ≡ made_after r k one made
  made_more k one made = by_effect (is_effect r one.now.rip)
    where
      by_effect : (b : Bool) → made ++ cond b (Goes k ∷ []) [] ≡ cond b (made ++ Goes k ∷ []) made
      by_effect true = refl
      by_effect false = append-nil made

  -- a proper item is one beside threads that wait
  item_on : (i : GuestItem) (w v : Watch) (own made : List GuestItem) (ts : List Thread) → IsProperItem r i (record { watch = w; made = [] }) (record { watch = v; made = own })
      → StandAtStarts r v.threads → IsProperItem r i (record { watch = padded_watch r w ts; made = made }) (record { watch = padded_watch r v ts; made = made ++ own })
  item_on (Goes k) w v own made ts g stand =
      let s = g.step in
      let u = watched_after r k w s.one s.fields s.to in
      let l = slice_get_within w.threads k s.one s.there in
      record {
        step = record {
          one = s.one;
          there = get_left w.threads (map (waiting r) ts) k s.one s.there;
          fields = s.fields;
          to = s.to;
          steps = s.steps;
          after = ap (λ (z : Watch). padded_watch r z ts) s.after
              ∙ ap (λ (z : List Watched). record { threads = z; mem = s.to.mem; stale = u.stale; log = u.log; claims = u.claims; fills = u.fills })
              (sym (set-append_left w.threads (map (waiting r) ts) k (record { now = thread_of s.to; projected = projection r s.one w.mem s.to }) l));
        };
        proper = record {
          quiet = g.proper.quiet;
          stand = all_both (λ t. is_start r.listed t.projected.rip ≡ true) v.threads (map (waiting r) ts) stand (all_wait ts);
          fresh = g.proper.fresh;
          saved = g.proper.saved;
          apart = λ j o n e h. in_events (λ j o. j ≢ k → touches_none (is_saved_by r o.now.core) s.fields (machine_of w.mem s.one.now) ≡ true) w.threads ts (λ j o e h n. g.proper.apart j o n e h) j o e h n;
        };
        made = ap (λ z. made ++ z) g.made ∙ made_more k s.one made;
      }
  item_on (Takes k d) w v own made ts g stand =
      let l = slice_get_within w.threads k g.one g.there in
      let u = watched_given k g.one d w in
      record {
        one = g.one;
        there = get_left w.threads (map (waiting r) ts) k g.one g.there;
        fits = g.fits;
        old = g.old;
        apart = λ j o n e h. in_events (λ j o. j ≢ k → avoids_writes (is_saved_by r o.now.core) d.writes ≡ true) w.threads ts (λ j o e h n. g.apart j o n e h) j o e h n;
        after = ap (λ (z : Watch). padded_watch r z ts) g.after
            ∙ ap (λ (z : List Watched). record { threads = z; mem = u.mem; stale = u.stale; log = u.log; claims = u.claims; fills = u.fills })
            (sym (set-append_left w.threads (map (waiting r) ts) k (record { now = given d g.one.now; projected = given d g.one.projected }) l));
        made = ap (λ z. made ++ z) g.made;
      }

  -- so is a thread that begins, where it waited
  birth_on : (t : Thread) (x y : GrowingWatch) (ts : List Thread) (n : ℕ) (made : List GuestItem) → length x.watch.threads ≡ n → IsBegun r t x y
      → IsProperItem r (Takes n (born t)) (record { watch = padded_watch r x.watch (t ∷ ts); made = made }) (record { watch = padded_watch r y.watch ts; made = made ++ Takes n (born t) ∷ [] })
  birth_on t x y ts n made l B =
      let w = x.watch in
      record {
        one = waiting r t;
        there = get_seam w.threads (map (waiting r) ts) (waiting r t) n l;
        fits = record { here = E; there = B.can.start; core = B.can.core; held = refl; apart = refl };
        old = refl;
        apart = λ j o n e h. refl;
        after = ap (λ (z : Watch). padded_watch r z ts) B.after
            ∙ (let p = sym (set_seam w.threads (map (waiting r) ts) (waiting r t) (record { now = t; projected = t }) n l) in
            let q = sym (stale_same w.stale) in
            λ i. record { threads = p i; mem = w.mem; stale = q i; log = w.log; claims = w.claims; fills = w.fills });
        made = refl;
      }

  -- what holds of how many threads there are, and of the items so far, where there were n threads at the start
  record Counted (n m : ℕ) (x : GrowingWatch) : Type 0 where
    long : length x.watch.threads ≡ m
    count : n + length (begun x.made) ≡ m
    range : AreInRange r n x.made

  -- an item that is done is one of a thread that there is
  done_range : (i : GuestItem) (x y : GrowingWatch) (m : ℕ) (D : IsDone r i x y) → length x.watch.threads ≡ m → AllByRecursion (λ i. thread_in i < m) D.own × (length y.watch.threads ≡ m)
  done_range (Goes k) x y m D l =
      let s = D.item.step in
      let h = slice_get_within x.watch.threads k s.one s.there in (
        subst (λ own. AllByRecursion (λ (i : GuestItem). thread_in i < m) own) (sym D.item.made) (by_effect (is_effect r s.one.now.rip) (omega (arith, h, l))),
        ap (λ (z : Watch). length z.threads) s.after ∙ length-set x.watch.threads k (record { now = thread_of s.to; projected = projection r s.one x.watch.mem s.to }) ∙ l,
      )
    where
      by_effect : (b : Bool) → k < m → AllByRecursion (λ (i : GuestItem). thread_in i < m) (cond b (Goes k ∷ []) [])
      by_effect true h = (h, tt)
      by_effect false h = tt
  done_range (Takes k d) x y m D l =
      let g = D.item in
      let h = slice_get_within x.watch.threads k g.one g.there in (
        subst (λ own. AllByRecursion (λ (i : GuestItem). thread_in i < m) own) (sym g.made) (omega (arith, h, l), tt),
        ap (λ (z : Watch). length z.threads) g.after ∙ length-set x.watch.threads k (record { now = given d g.one.now; projected = given d g.one.projected }) ∙ l,
      )

  done_counted : (n m : ℕ) (i : GuestItem) (x y : GrowingWatch) → Counted n m x → IsDone r i x y → Counted n m y
  done_counted n m i x y C D =
      let q = done_range i x y m D C.long in
      record {
        long = q.1;
        count = ap (λ (z : List BirthItem). n + length (begun z)) D.made ∙ ap (λ (z : List Thread). n + length z) (begun_does x.made D.own) ∙ C.count;
        range = subst (AreInRange r n) (sym D.made) (range_does r n m x.made D.own C.count C.range q.0);
      }

  begun_counted : (n m : ℕ) (t : Thread) (x y : GrowingWatch) → Counted n m x → IsBegun r t x y → Counted n (suc m) y
  begun_counted n m t x y C B =
      let a = length_more x.watch.threads (record { now = t; projected = t }) in
      let b = length_more (begun x.made) t in
      let l = C.long in
      let c = C.count in
      record {
        long = ap (λ (z : Watch). length z.threads) B.after ∙ omega (arith, a, l);
        count = ap (λ (z : List BirthItem). n + length (begun z)) B.made ∙ ap (λ (z : List Thread). n + length z) (begun_begins x.made t) ∙ omega (arith, b, c);
        range = subst (AreInRange r n) (sym B.made) (range_begins r n x.made t C.range B.can);
      }

  -- a run begins where all stand at listed starts
  stand_of : (is : List BirthItem) (x : GrowingWatch) (xs : List GrowingWatch) → IsProperGrowing r is x xs → StandAtStarts r x.watch.threads
  stand_of [] x [] P = P
  stand_of [] x (y ∷ ys) P = absurd P
  stand_of (i ∷ is) x [] P = absurd P
  stand_of (i ∷ is) x (y ∷ ys) P = P.0

  -- a proper run in which threads begin is one of the guest with all threads
  run_padded : (n m : ℕ) (is : List BirthItem) (x : GrowingWatch) (xs : List GrowingWatch) → Counted n m x → IsProperGrowing r is x xs
      → IsProperRunWith r (reduced m is) (padded_with r n x (begun is)) (padded_run r n is xs)
  run_padded n m [] x [] C P = all_both (λ t. is_start r.listed t.projected.rip ≡ true) x.watch.threads [] P tt
  run_padded n m [] x (y ∷ ys) C P = absurd P
  run_padded n m (i ∷ is) x [] C P = absurd P
  run_padded n m (Does i ∷ is) x (y ∷ ys) C P =
      let D : IsDone r i x y = P.1 in
      let made : reduced n x.made ++ D.own ≡ reduced n y.made = sym (reduced_does n x.made D.own) ∙ ap (reduced n) (sym D.made) in (
        all_both (λ t. is_start r.listed t.projected.rip ≡ true) x.watch.threads (map (waiting r) (begun is)) P.0 (all_wait (begun is)),
        subst (λ (z : List GuestItem). IsProperItem r i (padded_with r n x (begun is)) (record { watch = padded_watch r y.watch (begun is); made = z })) made
            (item_on i x.watch y.watch D.own (reduced n x.made) (begun is) D.item (stand_of is y ys P.2)),
        run_padded n m is y ys (done_counted n m i x y C D) P.2,
      )
  run_padded n m (Begins t ∷ is) x (y ∷ ys) C P =
      let B : IsBegun r t x y = P.1 in
      let made : reduced n x.made ++ Takes m (born t) ∷ [] ≡ reduced n y.made = sym (reduced_begins n m x.made t C.count) ∙ ap (reduced n) (sym B.made) in (
        all_both (λ t. is_start r.listed t.projected.rip ≡ true) x.watch.threads (map (waiting r) (t ∷ begun is)) P.0 (all_wait (t ∷ begun is)),
        subst (λ (z : List GuestItem). IsProperItem r (Takes m (born t)) (padded_with r n x (t ∷ begun is)) (record { watch = padded_watch r y.watch (begun is); made = z })) made
            (birth_on t x y (begun is) m (reduced n x.made) C.long B),
        run_padded n (suc m) is y ys (begun_counted n m t x y C B) P.2,
      )

  -- where it ends none waits
  last_padded : (n : ℕ) (is : List BirthItem) (x : GrowingWatch) (xs : List GrowingWatch) → IsProperGrowing r is x xs
      → last_with (padded_with r n x (begun is)) (padded_run r n is xs) ≡ padded_with r n (last_growing x xs) []
  last_padded n [] x [] P = refl
  last_padded n [] x (y ∷ ys) P = absurd P
  last_padded n (i ∷ is) x [] P = absurd P
  last_padded n (Does i ∷ is) x (y ∷ ys) P = last_padded n is y ys P.2
  last_padded n (Begins t ∷ is) x (y ∷ ys) P = last_padded n is y ys P.2

  -- what holds where it ends
  last_counted : (n m : ℕ) (is : List BirthItem) (x : GrowingWatch) (xs : List GrowingWatch) → Counted n m x → IsProperGrowing r is x xs
      → AreInRange r n (last_growing x xs).made × (begun (last_growing x xs).made ≡ begun x.made ++ begun is) × AllByRecursion (CanBegin r.listed) (begun is)
  last_counted n m [] x [] C P = (C.range, sym (append-nil (begun x.made)), tt)
  last_counted n m [] x (y ∷ ys) C P = absurd P
  last_counted n m (i ∷ is) x [] C P = absurd P
  last_counted n m (Does i ∷ is) x (y ∷ ys) C P =
      let D : IsDone r i x y = P.1 in
      let q = last_counted n m is y ys (done_counted n m i x y C D) P.2 in
      (q.0, q.1 ∙ ap (λ (z : List BirthItem). begun z ++ begun is) D.made ∙ ap (λ (z : List Thread). z ++ begun is) (begun_does x.made D.own), q.2)
  last_counted n m (Begins t ∷ is) x (y ∷ ys) C P =
      let B : IsBegun r t x y = P.1 in
      let q = last_counted n (suc m) is y ys (begun_counted n m t x y C B) P.2 in
      (q.0, q.1 ∙ ap (λ (z : List BirthItem). begun z ++ begun is) B.made ∙ ap (λ (z : List Thread). z ++ begun is) (begun_begins x.made t) ∙ append_three (begun x.made) (t ∷ []) (begun is), (B.can, q.2))

  -- a proper run with one more item
  run_then : (is : List BirthItem) (x : GrowingWatch) (xs : List GrowingWatch) (i : BirthItem) (y : GrowingWatch) → IsProperGrowing r is x xs
      → IsProperBirthItem r i (last_growing x xs) y → StandAtStarts r y.watch.threads → IsProperGrowing r (is ++ i ∷ []) x (xs ++ y ∷ [])
  run_then [] x [] i y P m e = (P, m, e)
  run_then [] x (z ∷ zs) i y P m e = absurd P
  run_then (j ∷ js) x [] i y P m e = absurd P
  run_then (j ∷ js) x (z ∷ zs) i y P m e = (P.0, P.1, run_then js z zs i y P.2 m e)

  last_then : (x : GrowingWatch) (xs : List GrowingWatch) (y : GrowingWatch) → last_growing x (xs ++ y ∷ []) ≡ y
  last_then x [] y = refl
  last_then x (z ∷ zs) y = last_then z zs y

  -- what holds of all holds of the last
  all_last : (Q : WatchWith → Type 0) (x : WatchWith) (xs : List WatchWith) → AllByRecursion Q (x ∷ xs) → Q (last_with x xs)
  all_last Q x [] h = h.0
  all_last Q x (y ∷ ys) h = all_last Q y ys h.1

  module _ (a b : Guest) (G : AreStartGuests r a b) where
    -- how many threads there are at the start
    abbrev some : ℕ
    some = length b.threads

    own_some : length a.threads ≡ some
    own_some = sym (ap (λ (z : List Thread). length z) G.threads)

    start_counted : Counted some some (growing_watch b)
    start_counted = record { long = map_length b.threads; count = omega arith; range = tt }
      where
        map_length : (ts : List Thread) → length (map itself ts) ≡ length ts
        map_length [] = refl
        map_length (t ∷ ts) = ap suc (map_length ts)

    -- with those that wait both guests are start guests
    all_started : (ts : List Thread) → AllByRecursion (CanBegin r.listed) ts → AreStartGuests r (padded r a ts) (padded r b ts)
    all_started ts h = record {
      threads = ap (λ (z : List Thread). z ++ map (waits r) ts) G.threads;
      each = all_both (λ t. IsProcessorState (machine_of a.mem t) × (t.rip ≡ r.entry)) a.threads (map (waits r) ts) G.each (each_waits ts h);
      further = G.further;
      apart = G.apart;
      original = G.original;
      patched = G.patched;
    }
      where
        each_waits : (ts : List Thread) → AllByRecursion (CanBegin r.listed) ts → AllByRecursion (λ t. IsProcessorState (machine_of a.mem t) × (t.rip ≡ r.entry)) (map (waits r) ts)
        each_waits [] h = tt
        each_waits (t ∷ ts) h = ((record { core = h.0.core; world = h.0.words }, refl), each_waits ts h.1)

    -- they are watched from the start
    watch_started : (ts : List Thread) → padded_with r some (growing_watch b) ts ≡ watch_with (padded r b ts)
    watch_started ts =
        let p = sym (map-append itself b.threads (map (waits r) ts) ∙ ap (λ z. map itself b.threads ++ z) (map_watched r ts)) in
        λ i. record { watch = record { threads = p i; mem = b.mem; stale = nowhere; log = []; claims = []; fills = [] }; made = [] }

    module _ (is : List BirthItem) (xs : List GrowingWatch) (P : IsProperGrowing r is (growing_watch b) xs) where
      abbrev last : GrowingWatch
      last = last_growing (growing_watch b) xs

      -- the last watched guest of the run of all threads
      abbrev plain_last : WatchWith
      plain_last = record { watch = last.watch; made = reduced some last.made }

      abbrev ts : List Thread
      ts = begun is

      ends : AreInRange r some last.made × (begun last.made ≡ ts) × AllByRecursion (CanBegin r.listed) ts
      ends = last_counted some some is (growing_watch b) xs start_counted P

      guests : AreStartGuests r (padded r a ts) (padded r b ts)
      guests = all_started ts ends.2

      proper : IsProperRunWith r (reduced some is) (watch_with (padded r b ts)) (padded_run r some is xs)
      proper = subst (λ (z : WatchWith). IsProperRunWith r (reduced some is) z (padded_run r some is xs)) (watch_started ts) (run_padded some some is (growing_watch b) xs start_counted P)

      last_is : last_with (watch_with (padded r b ts)) (padded_run r some is xs) ≡ plain_last
      last_is = ap (λ (z : WatchWith). last_with z (padded_run r some is xs)) (sym (watch_started ts)) ∙ last_padded some is (growing_watch b) xs P
          ∙ ap (λ (z : Watch). record { watch = z; made = reduced some last.made }) (padded_none r last.watch)

      -- the last moment
      at_last : IsGrowingFollowed r a last × AreCounted r last.watch × AreCovered r last.watch × AreKept r last.watch
      at_last =
          let all = (threads_followed_with r A S).0 (padded r a ts) (padded r b ts) (reduced some is) (padded_run r some is xs) guests proper in
          let q = subst (λ (z : WatchWith). IsGuestFollowedWith r (padded r a ts) z × AreCounted r z.watch × AreCovered r z.watch × AreKept r z.watch) last_is
          (all_last (λ z. IsGuestFollowedWith r (padded r a ts) z × AreCounted r z.watch × AreCovered r z.watch × AreKept r z.watch) (watch_with (padded r b ts)) (padded_run r some is xs) all) in
          let f = subst (λ (z : List Thread). IsGuestFollowedWith r (padded r a z) plain_last) (sym ends.1) q.0 in
          let back = run_back r some last.made a f.states own_some ends.0 f.run in
          (record { states = back.0; run = back.1; beside = subst (λ (g : Guest). LiesBeside r g last.watch) back.2 f.beside }, q.1, q.2, q.3)

      -- what each run with deliveries shows where it ends, of the watched guest and the original's, this run shows
      pub shown_at_last : (Q : Watch → Guest → Type 0)
          → ((a' b' : Guest) (js : List GuestItem) (ys : List WatchWith) → AreStartGuests r a' b' → IsProperRunWith r js (watch_with b') ys
          → (f : IsGuestFollowedWith r a' (last_with (watch_with b') ys)) → Q (last_with (watch_with b') ys).watch (last_guest a' f.states))
          → (f : IsGrowingFollowed r a last) → Q last.watch (last_guest a f.states)
      shown_at_last Q H f =
          let on = run_on r some last.made a f.states E own_some f.run in
          let g : IsGuestFollowedWith r (padded r a (begun last.made)) plain_last = record { states = on.0; run = on.1; beside = subst (λ (g : Guest). LiesBeside r g last.watch) (sym on.2) f.beside } in
          let J = subst (λ (z : WatchWith). (f : IsGuestFollowedWith r (padded r a ts) z) → Q z.watch (last_guest (padded r a ts) f.states)) last_is
          (H (padded r a ts) (padded r b ts) (reduced some is) (padded_run r some is xs) guests proper) in
          let I = subst (λ (z : List Thread). (f : IsGuestFollowedWith r (padded r a z) plain_last) → Q last.watch (last_guest (padded r a z) f.states)) (sym ends.1) J in
          subst (λ (g : Guest). Q last.watch g) on.2 (I g)

      -- what clone makes of a thread can begin
      clone_at_last : (k : ℕ) (parent : Watched) → slice_get last.watch.threads k ≡ Some parent → is_start r.listed parent.now.rip ≡ true
          → (stack base : ℕ) (world : List Entry) → stack < 2 ^ 64 → GiveWords world → CanBegin r.listed (child_of parent.now stack base world)
      clone_at_last k parent e start stack base world l h =
          let z = at_last.0.beside in
          let one = all_get (λ t. IsBeside r last.watch.mem t) last.watch.threads k parent z.each e in
          let same : parent.now ≡ parent.projected = all_get (λ t. is_start r.listed t.now.rip ≡ true → t.now ≡ t.projected) last.watch.threads k parent z.outside e start in
          let c : IsProcessorCore parent.now.core = subst (λ (t : Thread). IsProcessorCore t.core) (sym same) one.processor in
          record {
            start = start;
            core = record {
              count = length-set (slice_set parent.now.core.regs rax 0) rsp stack ∙ length-set parent.now.core.regs rax 0 ∙ c.count;
              small = λ q. set_small (slice_set parent.now.core.regs rax 0) rsp stack q (2 ^ 64) (λ p. set_small parent.now.core.regs rax 0 p (2 ^ 64) c.small (omega arith)) l;
            };
            words = h;
          }

    -- each moment of a proper run is the last of one
    abbrev Holds : GrowingWatch → Type 0
    Holds x = IsGrowingFollowed r a x × AreCounted r x.watch × AreCovered r x.watch × AreKept r x.watch

    each_moment : (js : List BirthItem) (ys : List GrowingWatch) (x : GrowingWatch) (is : List BirthItem) (xs : List GrowingWatch) → IsProperGrowing r js (growing_watch b) ys
        → last_growing (growing_watch b) ys ≡ x → IsProperGrowing r is x xs → AllByRecursion Holds (x ∷ xs)
    each_moment js ys x [] [] D e P = (subst Holds e (at_last js ys D), tt)
    each_moment js ys x [] (y ∷ xs) D e P = absurd P
    each_moment js ys x (i ∷ is) [] D e P = absurd P
    each_moment js ys x (i ∷ is) (y ∷ xs) D e P = (
      subst Holds e (at_last js ys D),
      each_moment (js ++ i ∷ []) (ys ++ y ∷ []) y is xs (run_then js (growing_watch b) ys i y D (subst (λ z. IsProperBirthItem r i z y) (sym e) P.1) (stand_of is y xs P.2))
          (last_then (growing_watch b) ys y) P.2,
    )

-- runs in which threads begin are followed, threads get out, and what clone makes of a thread can begin
pub threads_may_begin : ThreadsMayBegin
threads_may_begin r A S = (
  λ a b is xs G E P. each_moment r A S E a b G [] [] (growing_watch b) is xs (stand_of r A S E is (growing_watch b) xs P) refl P,
  λ a b is xs G E P. shown_at_last r A S E a b G is xs P (λ w g. (k : ℕ) (one : Watched) → slice_get w.threads k ≡ Some one → (c : CanGo r w one g) → GetsOut r k w one c.to)
      (threads_followed_with r A S).1,
  λ a b is xs G E P. clone_at_last r A S E a b G is xs P,
)
