-- A core that keeps its keys by places: what is seen of an attempt and of a reply, and what each call leaves.
use Rattle.std.proofs.Common.{arith, ℕ, zero, suc, List, ◌≡◌, ◌⊎◌, inl, inr, ⊎_elim, ◌+◌, ◌-◌, ◌<◌, ◌≤◌, true, false, nat_lt, [], ◌∷◌, ◌++◌, refl, sym, ap, ◌∙◌, subst, length, drop, slice_get, slice_set, append_assoc, append-nil, Some, None, option_map, Result, Ok, Err}
use Rattle.std.specs.Result.{OnErr}
use Rattle.std.specs.List.{Contains, range_with_len}
use Rattle.std.proofs.lemmas.Bool.{cases_Bool}
use Rattle.std.proofs.lemmas.List.{map-append, map-set, length-append}
use Rattle.std.proofs.lemmas.List.Elements.{Contains-append_cases, Contains-push_cases}
use Rattle.std.proofs.lemmas.Option.{slice_get-map}
use Rattle.linear_laws.proofs.Members.{Contains-first, Contains-nil, Contains-later, Contains-cons_cases}
use Rattle.row_printer.specs.Rows.{counted}
use Rattle.work_core.specs.declared.budget.Budget.{Budget}
use Rattle.job_text.specs.declared.reply.Reply.{Reply}
use Rattle.search_laws.specs.Shares.{ListsAll}
use Rattle.run_state.specs.KeyLists.{KnownKeys, StandApart, are_new}
use Rattle.run_state.specs.Stops.{IsRefused}
use Rattle.run_state.specs.declared.stops.AcceptStop.{AcceptStop}
use Rattle.run_state.specs.declared.stops.AcceptStop.TheVariants.{Clash, Done, Stranger}
use Rattle.run_state.specs.KeyLists.{key_at}
use Rattle.run_state.specs.Runs.{Run, run_after}
use Rattle.run_state.proofs.TableLemmas.{key_at-append, keys_at-append}
use Rattle.run_state.proofs.PlacedElements.{member-at}
use Rattle.run_state.proofs.PlaceLemmas.{key_at-seam}
use Rattle.coordinator_core.specs.declared.options.Options.{Options}
use Rattle.coordinator_core.specs.declared.sent.Sent.{Sent}
use Rattle.coordinator_core.specs.Machine.{AreOptions, Attempt, State, after_loss, handed, keys_out, sent_at, recorded_at}
use Rattle.coordinator_core.specs.Places.{IsDueAt, IsKept, IsSound, attempt_at, attempts_at, gone, keys_at, sent_numbered, state_of}
use Rattle.coordinator_core.proofs.SoundLemmas.{Sound, clash_is_old, due_accepted, sound_by_counts, sound_by_members, sound-handed, sound-lost, sound-taken}
use Rattle.coordinator_core.proofs.AttemptLemmas.{length-keys_out-ended, length-keys_out-push}

-- ---- the attempt of a number
pub sent-view : (options : Options) (run : Run) (queue : List ℕ) (sent : List Sent) (losses strays attempt : ℕ) →
    sent_at (state_of options run queue sent losses strays) attempt ≡ option_map (attempt_at run.came) (sent_numbered sent attempt)
sent-view options run queue sent losses strays attempt = elim (cases_Bool (nat_lt 0 attempt)) [
  | inl y ↦ rw y (slice_get-map (attempt_at run.came) sent (attempt - 1))
  | inr n ↦ rw n refl
]

pub sent-some : (options : Options) (run : Run) (queue : List ℕ) (sent : List Sent) (losses strays attempt : ℕ) (s : Sent) →
    sent_numbered sent attempt ≡ Some s → sent_at (state_of options run queue sent losses strays) attempt ≡ Some (attempt_at run.came s)
sent-some options run queue sent losses strays attempt s e =
    sent-view options run queue sent losses strays attempt ∙ ap (option_map (attempt_at run.came)) e

pub sent-none : (options : Options) (run : Run) (queue : List ℕ) (sent : List Sent) (losses strays attempt : ℕ) →
    sent_numbered sent attempt ≡ None → sent_at (state_of options run queue sent losses strays) attempt ≡ None
sent-none options run queue sent losses strays attempt e =
    sent-view options run queue sent losses strays attempt ∙ ap (option_map (attempt_at run.came)) e

pub place-member : (sent : List Sent) (attempt : ℕ) (s : Sent) → sent_numbered sent attempt ≡ Some s → Contains sent s
place-member sent attempt s e = elim (cases_Bool (nat_lt 0 attempt)) [
  | inl y ↦ member-at sent (attempt - 1) s (rw y at e)
  | inr n ↦ let q : None ≡ Some s = rw n at e in absurd (cc)
]

pub place-at : (sent : List Sent) (attempt : ℕ) (s : Sent) → sent_numbered sent attempt ≡ Some s → slice_get sent (attempt - 1) ≡ Some s
place-at sent attempt s e = elim (cases_Bool (nat_lt 0 attempt)) [
  | inl y ↦ rw y at e
  | inr n ↦ let q : None ≡ Some s = rw n at e in absurd (cc)
]

-- ---- an attempt more
dropped : (queue : List ℕ) (i : ℕ) → Contains (drop 1 queue) i → Contains queue i
dropped [] i c = c
dropped (p ∷ queue) i c = Contains-later i p queue c

abbrev pub sent_out : ℕ → Budget → Sent
sent_out place budget = record { place = place; budget = budget; is_out = true }

abbrev pub SameState : State → State → Type 0
SameState a b = a ≡ b

-- what is seen of the queue and the attempts
abbrev pub SoundAt : Run → List ℕ → List Sent → Type 0
SoundAt run queue sent = IsSound run (keys_at run.came queue) (attempts_at run.came sent)

map-drop : (came : List (List ℕ)) (queue : List ℕ) → keys_at came (drop 1 queue) ≡ drop 1 (keys_at came queue)
map-drop came [] = refl
map-drop came (p ∷ queue) = refl

pub handed-view : (options : Options) (run : Run) (queue : List ℕ) (sent : List Sent) (losses strays place : ℕ) (budget : Budget) →
    SameState (state_of options run (drop 1 queue) (sent ++ sent_out place budget ∷ []) losses strays)
    (handed (state_of options run queue sent losses strays) (key_at run.came place) budget)
handed-view options run queue sent losses strays place budget =
    rw (map-drop run.came queue) (rw (map-append (attempt_at run.came) sent (sent_out place budget ∷ [])) refl)

first-of : (queue : List ℕ) (place : ℕ) → slice_get queue 0 ≡ Some place → queue ≡ place ∷ drop 1 queue
first-of [] place e = absurd (cc)
first-of (p ∷ queue) place e = let same : p ≡ place = cc in ap (λ (i : ℕ). i ∷ queue) same

sound-one_more : (options : Options) (run : Run) (queue : List ℕ) (sent : List Sent) (place : ℕ) (budget : Budget) → slice_get queue 0 ≡ Some place →
    SoundAt run queue sent → SoundAt run (drop 1 queue) (sent ++ sent_out place budget ∷ [])
sound-one_more options run queue sent place budget e sound =
    let s = state_of options run queue sent 0 0 in
    let keys : s.queue ≡ key_at run.came place ∷ keys_at run.came (drop 1 queue) = ap (keys_at run.came) (first-of queue place e) in
    let then = sound-handed s (key_at run.came place) budget (keys_at run.came (drop 1 queue)) keys (sound_by_counts s sound) in
    sound_by_members (state_of options run (drop 1 queue) (sent ++ sent_out place budget ∷ []) 0 0)
    (subst Sound (sym (handed-view options run queue sent 0 0 place budget)) then)

pub kept-handed : (options : Options) (run : Run) (queue : List ℕ) (sent : List Sent) (out capacity place : ℕ) (budget : Budget) →
    IsKept options run queue sent out capacity → slice_get queue 0 ≡ Some place → out < options.workers →
    IsKept options run (drop 1 queue) (sent ++ sent_out place budget ∷ []) (out + 1) capacity
kept-handed options run queue sent out capacity place budget k e h =
    let s : Sent = sent_out place budget in
    let more : length (keys_out (attempts_at run.came (sent ++ s ∷ []))) ≡ length (keys_out (attempts_at run.came sent)) + 1 =
    ap (λ (l : List Attempt). length (keys_out l)) (map-append (attempt_at run.came) sent (s ∷ []))
    ∙ length-keys_out-push (attempts_at run.came sent) (key_at run.came place) budget in
    record {
      in_range = k.in_range;
      sound = sound-one_more options run queue sent place budget e k.sound;
      queued = λ i c. k.queued i (dropped queue i c);
      handed = λ t c. ⊎_elim (k.handed t)
          (λ (q : s ≡ t). subst (λ (u : Sent). u.place < length run.came) q (k.queued place (member-at queue 0 place e)))
          (Contains-push_cases sent s t c);
      count = ap (λ (n : ℕ). n + 1) k.count ∙ sym more;
      few = omega (arith, h);
      room = omega (arith, k.room, h, length-append sent (s ∷ []));
    }

-- ---- an attempt that ends
fewer : (came : List (List ℕ)) (sent : List Sent) (i : ℕ) (s : Sent) → slice_get sent i ≡ Some s → s.is_out ≡ true →
    length (keys_out (attempts_at came (slice_set sent i (gone s)))) + 1 ≡ length (keys_out (attempts_at came sent))
fewer came sent i s e y =
    ap (λ (l : List Attempt). length (keys_out l) + 1) (map-set (attempt_at came) sent i (gone s))
    ∙ length-keys_out-ended (attempts_at came sent) i (attempt_at came s)
    (slice_get-map (attempt_at came) sent i ∙ ap (option_map (attempt_at came)) e) y

pub some-out : (options : Options) (run : Run) (queue : List ℕ) (sent : List Sent) (out capacity attempt : ℕ) (s : Sent) →
    IsKept options run queue sent out capacity → sent_numbered sent attempt ≡ Some s → s.is_out ≡ true → 1 ≤ out
some-out options run queue sent out capacity attempt s k e y =
    omega (arith, k.count, fewer run.came sent (attempt - 1) s (place-at sent attempt s e) y)

set-member : (xs : List Sent) (i : ℕ) (v x : Sent) → Contains (slice_set xs i v) x → Contains xs x ⊎ (v ≡ x)
set-member [] i v x c = inl c
set-member (y ∷ xs) zero v x c = ⊎_elim (λ (e : v ≡ x). inr e) (λ (d : Contains xs x). inl (Contains-later x y xs d)) (Contains-cons_cases x v xs c)
set-member (y ∷ xs) (suc i) v x c = ⊎_elim
    (λ (e : y ≡ x). inl (subst (λ (z : Sent). Contains (y ∷ xs) z) e (Contains-first y xs)))
    (λ (d : Contains (slice_set xs i v) x). ⊎_elim (λ (a : Contains xs x). inl (Contains-later x y xs a)) (λ (b : v ≡ x). inr b) (set-member xs i v x d))
    (Contains-cons_cases x y (slice_set xs i v) c)

pub lost-none : (options : Options) (run : Run) (queue : List ℕ) (sent : List Sent) (losses strays attempt : ℕ) → sent_numbered sent attempt ≡ None →
    SameState (state_of options run queue sent (counted losses 1) strays) (after_loss (state_of options run queue sent losses strays) attempt)
lost-none options run queue sent losses strays attempt e = rw (sent-none options run queue sent losses strays attempt e) refl

pub lost-idle : (options : Options) (run : Run) (queue : List ℕ) (sent : List Sent) (losses strays attempt : ℕ) (s : Sent) →
    sent_numbered sent attempt ≡ Some s → s.is_out ≡ false →
    SameState (state_of options run queue sent (counted losses 1) strays) (after_loss (state_of options run queue sent losses strays) attempt)
lost-idle options run queue sent losses strays attempt s e n =
    let there = sent-some options run queue sent losses strays attempt s e in
    rw there (rw n refl)

pub lost-out : (options : Options) (run : Run) (queue : List ℕ) (sent : List Sent) (losses strays attempt : ℕ) (s : Sent)
    (queue1 : List ℕ) (sent1 : List Sent) →
    sent_numbered sent attempt ≡ Some s → s.is_out ≡ true → queue1 ≡ queue ++ s.place ∷ [] → sent1 ≡ slice_set sent (attempt - 1) (gone s) →
    SameState (state_of options run queue1 sent1 (counted losses 1) strays) (after_loss (state_of options run queue sent losses strays) attempt)
lost-out options run queue sent losses strays attempt s queue1 sent1 e y q l =
    let there = sent-some options run queue sent losses strays attempt s e in
    let keys : keys_at run.came queue1 ≡ keys_at run.came queue ++ key_at run.came s.place ∷ [] =
    ap (keys_at run.came) q ∙ map-append (key_at run.came) queue (s.place ∷ []) in
    let table : attempts_at run.came sent1 ≡ slice_set (attempts_at run.came sent) (attempt - 1) (attempt_at run.came (gone s)) =
    ap (attempts_at run.came) l ∙ map-set (attempt_at run.came) sent (attempt - 1) (gone s) in
    rw there (rw y (rw keys (rw table refl)))

sound-one_lost : (options : Options) (run : Run) (queue : List ℕ) (sent : List Sent) (attempt : ℕ) (s : Sent) (queue1 : List ℕ) (sent1 : List Sent) →
    sent_numbered sent attempt ≡ Some s → s.is_out ≡ true → queue1 ≡ queue ++ s.place ∷ [] → sent1 ≡ slice_set sent (attempt - 1) (gone s) →
    SoundAt run queue sent → SoundAt run queue1 sent1
sound-one_lost options run queue sent attempt s queue1 sent1 e y q l sound =
    let old = state_of options run queue sent 0 0 in
    let then = sound-lost old attempt (sound_by_counts old sound) in
    sound_by_members (state_of options run queue1 sent1 (counted 0 1) 0)
    (subst Sound (sym (lost-out options run queue sent 0 0 attempt s queue1 sent1 e y q l)) then)

pub kept-ended : (options : Options) (run : Run) (queue : List ℕ) (sent : List Sent) (out capacity attempt : ℕ) (s : Sent)
    (queue1 : List ℕ) (sent1 : List Sent) (capacity1 : ℕ) →
    IsKept options run queue sent out capacity → sent_numbered sent attempt ≡ Some s → s.is_out ≡ true →
    queue1 ≡ queue ++ s.place ∷ [] → sent1 ≡ slice_set sent (attempt - 1) (gone s) → length sent1 + (options.workers - out + 1) ≤ capacity1 →
    IsKept options run queue1 sent1 (out - 1) capacity1
kept-ended options run queue sent out capacity attempt s queue1 sent1 capacity1 k e y q l room =
    let at = place-at sent attempt s e in
    let here : s.place < length run.came = k.handed s (member-at sent (attempt - 1) s at) in
    let one = some-out options run queue sent out capacity attempt s k e y in
    let less : length (keys_out (attempts_at run.came sent1)) + 1 ≡ length (keys_out (attempts_at run.came sent)) =
    ap (λ (z : List Sent). length (keys_out (attempts_at run.came z)) + 1) l ∙ fewer run.came sent (attempt - 1) s at y in
    record {
      in_range = k.in_range;
      sound = sound-one_lost options run queue sent attempt s queue1 sent1 e y q l k.sound;
      queued = λ i c. ⊎_elim (k.queued i) (λ (z : s.place ≡ i). subst (λ (n : ℕ). n < length run.came) z here)
          (Contains-push_cases queue s.place i (subst (λ (z : List ℕ). Contains z i) q c));
      handed = λ t c. ⊎_elim (k.handed t) (λ (z : gone s ≡ t). subst (λ (u : Sent). u.place < length run.came) z here)
          (set-member sent (attempt - 1) (gone s) t (subst (λ (z : List Sent). Contains z t) l c));
      count = omega (arith, k.count, less, one);
      few = omega (arith, k.few);
      room = omega (arith, room, one, k.few);
    }

pub kept-same : (options : Options) (run : Run) (queue : List ℕ) (sent : List Sent) (out capacity : ℕ) (queue1 : List ℕ) (sent1 : List Sent) (capacity1 : ℕ) →
    IsKept options run queue sent out capacity → queue1 ≡ queue → sent1 ≡ sent → capacity ≤ capacity1 → IsKept options run queue1 sent1 out capacity1
kept-same options run queue sent out capacity queue1 sent1 capacity1 k q l h =
    let more : IsKept options run queue sent out capacity1 =
    record { in_range = k.in_range; sound = k.sound; queued = k.queued; handed = k.handed; count = k.count; few = k.few; room = omega (arith, k.room, h) } in
    let a = subst (λ (z : List ℕ). IsKept options run z sent out capacity1) (sym q) more in
    subst (λ (z : List Sent). IsKept options run queue1 z out capacity1) (sym l) a

-- ---- an accepted reply
range-push : (a n : ℕ) → range_with_len a (suc n) ≡ range_with_len a n ++ (a + n) ∷ []
range-push a zero = ap (λ (k : ℕ). k ∷ []) (omega arith)
range-push a (suc n) =
    let last : a + 1 + n ≡ a + suc n = omega arith in
    ap (λ (l : List ℕ). a ∷ l) (range-push (a + 1) n ∙ ap (λ (k : ℕ). range_with_len (a + 1) n ++ k ∷ []) last)

-- one place more
pub range-more : (old : List ℕ) (queue queue1 : List ℕ) (first place : ℕ) → first ≤ place → queue ≡ old ++ range_with_len first (place - first) →
    queue1 ≡ queue ++ place ∷ [] → queue1 ≡ old ++ range_with_len first (place + 1 - first)
range-more old queue queue1 first place h e q =
    let n : place + 1 - first ≡ suc (place - first) = omega arith in
    let at : first + (place - first) ≡ place = omega arith in
    q ∙ ap (λ (l : List ℕ). l ++ place ∷ []) e ∙ append_assoc old (range_with_len first (place - first)) (place ∷ [])
    ∙ ap (λ (l : List ℕ). old ++ l) (ap (λ (k : ℕ). range_with_len first (place - first) ++ k ∷ []) (sym at) ∙ sym (range-push first (place - first)))
    ∙ ap (λ (k : ℕ). old ++ range_with_len first k) (sym n)

range-within : (a n j : ℕ) → Contains (range_with_len a n) j → j < a + n
range-within a zero j c = absurd (Contains-nil j c)
range-within a (suc n) j c = ⊎_elim (λ (e : a ≡ j). omega (arith, e))
    (λ (d : Contains (range_with_len (a + 1) n) j). let p = range-within (a + 1) n j d in omega (arith, p))
    (Contains-cons_cases j a (range_with_len (a + 1) n) c)

range-keys : (front keys : List (List ℕ)) → keys_at (front ++ keys) (range_with_len (length front) (length keys)) ≡ keys
range-keys front [] = refl
range-keys front (k ∷ keys) =
    let long : length (front ++ k ∷ []) ≡ length front + 1 = length-append front (k ∷ []) in
    let whole : (front ++ k ∷ []) ++ keys ≡ front ++ k ∷ keys = append_assoc front (k ∷ []) keys in
    let rest0 = range-keys (front ++ k ∷ []) keys in
    let rest1 = subst (λ (n : ℕ). keys_at ((front ++ k ∷ []) ++ keys) (range_with_len n (length keys)) ≡ keys) long rest0 in
    let rest = subst (λ (l : List (List ℕ)). keys_at l (range_with_len (length front + 1) (length keys)) ≡ keys) whole rest1 in
    let here = key_at-seam front keys k in
    ap (λ (z : List ℕ). z ∷ keys_at (front ++ k ∷ keys) (range_with_len (length front + 1) (length keys))) here
    ∙ ap (λ (l : List (List ℕ)). k ∷ l) rest

attempts-grown : (came keys : List (List ℕ)) (sent : List Sent) → ((s : Sent) → Contains sent s → s.place < length came) →
    attempts_at (came ++ keys) sent ≡ attempts_at came sent
attempts-grown came keys [] h = refl
attempts-grown came keys (s ∷ sent) h =
    let here = key_at-append came keys s.place (h s (Contains-first s sent)) in
    ap (λ (k : List ℕ). record { key = k; budget = s.budget; is_out = s.is_out } ∷ attempts_at (came ++ keys) sent) here
    ∙ ap (λ (l : List Attempt). attempt_at came s ∷ l) (attempts-grown came keys sent (λ t c. h t (Contains-later t s sent c)))

-- the attempts, of which one is out no more
handed-still : (came : List (List ℕ)) (sent : List Sent) (attempt : ℕ) (s : Sent) (sent1 : List Sent) →
    ((t : Sent) → Contains sent t → t.place < length came) → sent_numbered sent attempt ≡ Some s →
    sent1 ≡ slice_set sent (attempt - 1) (gone s) → (t : Sent) → Contains sent1 t → t.place < length came
handed-still came sent attempt s sent1 handed e l t c =
    let here : s.place < length came = handed s (member-at sent (attempt - 1) s (place-at sent attempt s e)) in
    ⊎_elim (handed t) (λ (z : gone s ≡ t). subst (λ (u : Sent). u.place < length came) z here)
    (set-member sent (attempt - 1) (gone s) t (subst (λ (z : List Sent). Contains z t) l c))

-- the places that are added are those of the keys that came
pub queue-taken : (run run1 : Run) (r : Reply) (queue mid queue1 : List ℕ) (first end : ℕ) → run1 ≡ run_after run r →
    first ≡ length run.came → end ≡ length run1.came → mid ≡ queue → queue1 ≡ mid ++ range_with_len first (end - first) →
    queue1 ≡ queue ++ range_with_len (length run.came) (length r.keys)
queue-taken run run1 r queue mid queue1 first end g f e m q =
    let long : length run1.came ≡ length run.came + length r.keys = ap (λ (z : Run). length z.came) g ∙ length-append run.came r.keys in
    let n : end - first ≡ length r.keys = omega (arith, long, f, e) in
    q ∙ ap (λ (l : List ℕ). l ++ range_with_len first (end - first)) m
    ∙ ap (λ (k : ℕ). queue ++ range_with_len k (end - first)) f
    ∙ ap (λ (k : ℕ). queue ++ range_with_len (length run.came) k) n

pub taken-view : (options : Options) (run : Run) (queue : List ℕ) (sent : List Sent) (losses strays attempt out capacity : ℕ) (r : Reply) (s : Sent)
    (run1 : Run) (queue1 : List ℕ) (sent1 : List Sent) →
    IsKept options run queue sent out capacity → sent_numbered sent attempt ≡ Some s → run1 ≡ run_after run r →
    queue1 ≡ queue ++ range_with_len (length run.came) (length r.keys) → sent1 ≡ slice_set sent (attempt - 1) (gone s) →
    SameState (state_of options run1 queue1 sent1 losses strays)
    (recorded_at (state_of options run queue sent losses strays) attempt r (sent_at (state_of options run queue sent losses strays) attempt))
taken-view options run queue sent losses strays attempt out capacity r s run1 queue1 sent1 k e g q l =
    let came = run.came in
    let there = sent-some options run queue sent losses strays attempt s e in
    let keys : keys_at (came ++ r.keys) queue1 ≡ keys_at came queue ++ r.keys =
    ap (keys_at (came ++ r.keys)) q ∙ map-append (key_at (came ++ r.keys)) queue (range_with_len (length came) (length r.keys))
    ∙ ap (λ (l : List (List ℕ)). l ++ keys_at (came ++ r.keys) (range_with_len (length came) (length r.keys))) (keys_at-append came r.keys queue k.queued)
    ∙ ap (λ (l : List (List ℕ)). keys_at came queue ++ l) (range-keys came r.keys) in
    let table : attempts_at (came ++ r.keys) sent1 ≡ slice_set (attempts_at came sent) (attempt - 1) (attempt_at came (gone s)) =
    attempts-grown came r.keys sent1 (handed-still came sent attempt s sent1 k.handed e l) ∙ ap (attempts_at came) l
    ∙ map-set (attempt_at came) sent (attempt - 1) (gone s) in
    let first : SameState (state_of options run1 queue1 sent1 losses strays) (state_of options (run_after run r) queue1 sent1 losses strays) =
    ap (λ (z : Run). state_of options z queue1 sent1 losses strays) g in
    first ∙ rw there (rw keys (rw table refl))

sound-one_taken : (options : Options) (run : Run) (queue : List ℕ) (sent : List Sent) (out capacity attempt : ℕ) (r : Reply) (s : Sent)
    (run1 : Run) (queue1 : List ℕ) (sent1 : List Sent) →
    IsKept options run queue sent out capacity → sent_numbered sent attempt ≡ Some s → run1 ≡ run_after run r →
    queue1 ≡ queue ++ range_with_len (length run.came) (length r.keys) → sent1 ≡ slice_set sent (attempt - 1) (gone s) →
    IsDueAt (state_of options run queue sent 0 0) attempt r → are_new (run.keys.waiting ++ run.keys.done) r.keys ≡ true → SoundAt run1 queue1 sent1
sound-one_taken options run queue sent out capacity attempt r s run1 queue1 sent1 k e g q l due new =
    let old = state_of options run queue sent 0 0 in
    let then = sound-taken old attempt r (due_accepted old attempt r due new) (sound_by_counts old k.sound) in
    sound_by_members (state_of options run1 queue1 sent1 0 0)
    (subst Sound (sym (taken-view options run queue sent 0 0 attempt out capacity r s run1 queue1 sent1 k e g q l)) then)

pub kept-taken : (options : Options) (run : Run) (queue : List ℕ) (sent : List Sent) (out capacity attempt : ℕ) (r : Reply) (s : Sent)
    (run1 : Run) (queue1 : List ℕ) (sent1 : List Sent) (capacity1 : ℕ) →
    IsKept options run queue sent out capacity → sent_numbered sent attempt ≡ Some s → s.is_out ≡ true → run1 ≡ run_after run r →
    queue1 ≡ queue ++ range_with_len (length run.came) (length r.keys) → sent1 ≡ slice_set sent (attempt - 1) (gone s) →
    length sent1 + (options.workers - out + 1) ≤ capacity1 →
    IsDueAt (state_of options run queue sent 0 0) attempt r → are_new (run.keys.waiting ++ run.keys.done) r.keys ≡ true →
    IsKept options run1 queue1 sent1 (out - 1) capacity1
kept-taken options run queue sent out capacity attempt r s run1 queue1 sent1 capacity1 k e y after q l room due new =
    let keys = r.keys in
    let g : run1.came ≡ run.came ++ keys = ap (λ (z : Run). z.came) after in
    let still = handed-still run.came sent attempt s sent1 k.handed e l in
    let one = some-out options run queue sent out capacity attempt s k e y in
    let long : length run1.came ≡ length run.came + length keys = ap length g ∙ length-append run.came keys in
    let same : attempts_at run1.came sent1 ≡ attempts_at run.came sent1 =
    ap (λ (z : List (List ℕ)). attempts_at z sent1) g ∙ attempts-grown run.came keys sent1 still in
    let less : length (keys_out (attempts_at run.came sent1)) + 1 ≡ length (keys_out (attempts_at run.came sent)) =
    ap (λ (z : List Sent). length (keys_out (attempts_at run.came z)) + 1) l ∙ fewer run.came sent (attempt - 1) s (place-at sent attempt s e) y in
    record {
      in_range = k.in_range;
      sound = sound-one_taken options run queue sent out capacity attempt r s run1 queue1 sent1 k e after q l due new;
      queued = λ i c. ⊎_elim (λ (a : Contains queue i). let p = k.queued i a in omega (arith, p, long))
          (λ (b : Contains (range_with_len (length run.came) (length keys)) i). let p = range-within (length run.came) (length keys) i b in omega (arith, p, long))
          (Contains-append_cases queue (range_with_len (length run.came) (length keys)) i (subst (λ (z : List ℕ). Contains z i) q c));
      handed = λ t c. let p = still t c in omega (arith, p, long);
      count = omega (arith, k.count, less, one, ap (λ (z : List Attempt). length (keys_out z)) same);
      few = omega (arith, k.few);
      room = omega (arith, room, one, k.few);
    }

-- ---- where a call begins
pub kept-new : (options : Options) (run : Run) (queue : List ℕ) (sent : List Sent) (capacity : ℕ) → AreOptions options →
    keys_at run.came queue ≡ run.keys.waiting → ((i : ℕ) → Contains queue i → i < length run.came) → StandApart run.keys →
    sent ≡ [] → options.workers ≤ capacity →
    IsKept options run queue sent 0 capacity
kept-new options run queue sent capacity o e within apart none room =
    let all : keys_at run.came queue ++ [] ≡ run.keys.waiting = append-nil (keys_at run.came queue) ∙ e in
    subst (λ (l : List Sent). IsKept options run queue l 0 capacity) (sym none) (record {
      in_range = o;
      sound = record {
        known = apart;
        placed = subst (ListsAll (λ k. Contains run.keys.waiting k)) (sym all) (record { once = apart.once; only = λ k c. c; each = λ k c. c });
      };
      queued = within;
      handed = λ s c. absurd (Contains-nil s c);
      count = refl;
      few = omega arith;
      room = omega (arith, room);
    })

-- the same with other counts
pub due_still : (options : Options) (run : Run) (queue : List ℕ) (sent : List Sent) (losses strays attempt : ℕ) (r : Reply) →
    IsDueAt (state_of options run queue sent losses strays) attempt r → IsDueAt (state_of options run queue sent 0 0) attempt r
due_still options run queue sent losses strays attempt r d = record { which = d.which; is_sent = d.is_sent; due = d.due }

-- what is known of an attempt whose reply is due
pub due-means : (options : Options) (run : Run) (queue : List ℕ) (sent : List Sent) (losses strays attempt : ℕ) (r : Reply) (s : Sent) →
    sent_numbered sent attempt ≡ Some s → IsDueAt (state_of options run queue sent losses strays) attempt r →
    (r.key ≡ key_at run.came s.place) × (s.is_out ≡ true)
due-means options run queue sent losses strays attempt r s e d =
    let both : Some d.which ≡ Some (attempt_at run.came s) = sym d.is_sent ∙ sent-some options run queue sent losses strays attempt s e in
    let same : d.which ≡ attempt_at run.came s = cc in
    (d.due.key ∙ ap (λ (a : Attempt). a.key) same, subst (λ (a : Attempt). a.is_out ≡ true) same d.due.is_out)

-- ---- refusals
pub on_err : {T E : Type 0} {P : Type 0} (r : Result T E) → P → OnErr r P
on_err (Ok x) p = tt
on_err (Err e) p = p

pub refused-clash : (keys : KnownKeys) (job : List ℕ) (more : List (List ℕ)) (stop : AcceptStop) (k : List ℕ) → stop ≡ Clash k →
    IsRefused keys job more stop → are_new (keys.waiting ++ keys.done) more ≡ false
refused-clash keys job more stop k e h = clash_is_old (keys.waiting ++ keys.done) more k (subst (IsRefused keys job more) e h).1

pub refused-done : (keys : KnownKeys) (job : List ℕ) (more : List (List ℕ)) (stop : AcceptStop) → stop ≡ Done →
    IsRefused keys job more stop → Contains keys.done job
refused-done keys job more stop e h = (subst (IsRefused keys job more) e h).0

pub refused-stranger : (keys : KnownKeys) (job : List ℕ) (more : List (List ℕ)) (stop : AcceptStop) → stop ≡ Stranger →
    IsRefused keys job more stop → Contains keys.waiting job → ⊥
refused-stranger keys job more stop e h = (subst (IsRefused keys job more) e h).0
