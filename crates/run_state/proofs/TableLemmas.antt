-- What the table of known keys is seen as, and what a job that is done makes of it.
use Rattle.std.proofs.Common.{arith, ℕ, zero, suc, List, ◌≡◌, ◌≢◌, inl, inr, ⊎_elim, ◌+◌, ◌<◌, Bool, true, false, not, [], ◌∷◌, ◌++◌, refl, sym, ap, ◌∙◌, subst, length, map, slice_get, slice_set, slice_index_or, replicate, Some, None, Result, Ok, Err, OnOk, OnErr}
use Rattle.std.specs.List.{Contains}
use Rattle.std.proofs.lemmas.Bool.{cases_Bool}
use Rattle.std.proofs.lemmas.List.{map-append, length-append, length-replicate}
use Rattle.std.proofs.lemmas.List.Elements.{Contains-append_left, Contains-append_right, Contains-append_cases, Contains-push, Contains-push_cases, filter-append}
use Rattle.std.proofs.lemmas.Option.{slice_get_within, slice_get-get_or, get_or_from_slice_get}
use Rattle.std.proofs.Math.ListN.{length-set}
use Rattle.linear_laws.specs.Distinct.{AreDistinct}
use Rattle.linear_laws.proofs.Members.{Contains-nil, Contains-first, Contains-later, Contains-cons_cases}
use Rattle.poly_model.specs.Keys.{IsKey}
use Rattle.linear_laws.proofs.Distinct.{distinct_append}
use Rattle.run_state.specs.declared.stops.AcceptStop.{AcceptStop}
use Rattle.run_state.specs.declared.stops.AcceptStop.TheVariants.{Clash, Done, Memory, Stranger}
use Rattle.run_state.specs.KeyLists.{IsFirstClash, KnownKeys, are_new, is_same_key, key_at, keys_with, without_key}
use Rattle.run_state.specs.Known.{HasMark, IsKeyTable, IsTaken, RefusesJob, RefusesKeys, KeyTable, keys_in, key_table, unmarked}
use Rattle.run_state.specs.Stops.{IsRefused}
use Rattle.run_state.proofs.KeyListLemmas.{are_new_from, held, holds_it, new_are_unknown, new_stand_once, other_keys, same_keys, without-none}
use Rattle.run_state.proofs.PlacedElements.{all-false, get-append, get-append_cases, get-set, member-at, place-of, set-here, set-keeps}

-- ---- the keys without a mark
unmarked-none : (more : List (List ℕ)) → unmarked more (replicate (length more) false) ≡ more
unmarked-none [] = refl
unmarked-none (k ∷ more) = ap (λ (l : List (List ℕ)). k ∷ l) (unmarked-none more)

unmarked-append : (keys more : List (List ℕ)) (marks : List Bool) → length marks ≡ length keys →
    unmarked (keys ++ more) (marks ++ replicate (length more) false) ≡ unmarked keys marks ++ more
unmarked-append [] more [] h = unmarked-none more
unmarked-append [] more (m ∷ marks) h = absurd (omega (arith, h))
unmarked-append (k ∷ keys) more [] h = absurd (omega (arith, h))
unmarked-append (k ∷ keys) more (m ∷ marks) h = elim (cases_Bool m) [
  | inl y ↦ rw y (unmarked-append keys more marks (omega (arith, h)))
  | inr n ↦ rw n (ap (λ (l : List (List ℕ)). k ∷ l) (unmarked-append keys more marks (omega (arith, h))))
]

pub unmarked-in : (keys : List (List ℕ)) (marks : List Bool) (k : List ℕ) → Contains (unmarked keys marks) k → Contains keys k
unmarked-in [] marks k c = absurd (Contains-nil k c)
unmarked-in (x ∷ keys) [] k c = absurd (Contains-nil k c)
unmarked-in (x ∷ keys) (m ∷ marks) k c = elim (cases_Bool m) [
  | inl y ↦ let d : Contains (unmarked keys marks) k = rw y at c in Contains-later k x keys (unmarked-in keys marks k d)
  | inr n ↦
      let d : Contains (x ∷ unmarked keys marks) k = rw n at c in
      ⊎_elim (λ (e : x ≡ k). subst (λ (z : List ℕ). Contains (x ∷ keys) z) e (Contains-first x keys))
      (λ (f : Contains (unmarked keys marks) k). Contains-later k x keys (unmarked-in keys marks k f)) (Contains-cons_cases k x (unmarked keys marks) d)
]

unmarked-has : (keys : List (List ℕ)) (marks : List Bool) (i : ℕ) (k : List ℕ) → slice_get keys i ≡ Some k → slice_get marks i ≡ Some false → Contains (unmarked keys marks) k
unmarked-has [] marks i k e m = absurd (cc)
unmarked-has (x ∷ keys) [] i k e m = absurd (cc)
unmarked-has (x ∷ keys) (b ∷ marks) zero k e m =
    let q : x ≡ k = cc in
    let f : b ≡ false = cc in
    rw f (subst (λ (z : List ℕ). Contains (x ∷ unmarked keys marks) z) q (Contains-first x (unmarked keys marks)))
unmarked-has (x ∷ keys) (b ∷ marks) (suc i) k e m = elim (cases_Bool b) [
  | inl y ↦ rw y (unmarked-has keys marks i k e m)
  | inr n ↦ rw n (Contains-later k x (unmarked keys marks) (unmarked-has keys marks i k e m))
]

unmarked-not : (keys : List (List ℕ)) (marks : List Bool) (i : ℕ) (k : List ℕ) → AreDistinct keys → slice_get keys i ≡ Some k → slice_get marks i ≡ Some true →
    Contains (unmarked keys marks) k → ⊥
unmarked-not [] marks i k o e m c = absurd (cc)
unmarked-not (x ∷ keys) [] i k o e m c = absurd (cc)
unmarked-not (x ∷ keys) (b ∷ marks) zero k o e m c =
    let q : x ≡ k = cc in
    let y : b ≡ true = cc in
    let d : Contains (unmarked keys marks) k = rw y at c in
    o.0 (subst (λ (z : List ℕ). Contains keys z) (sym q) (unmarked-in keys marks k d))
unmarked-not (x ∷ keys) (b ∷ marks) (suc i) k o e m c = elim (cases_Bool b) [
  | inl y ↦ let d : Contains (unmarked keys marks) k = rw y at c in unmarked-not keys marks i k o.1 e m d
  | inr n ↦
      let d : Contains (x ∷ unmarked keys marks) k = rw n at c in
      ⊎_elim (λ (q : x ≡ k). o.0 (subst (λ (z : List ℕ). Contains keys z) (sym q) (member-at keys i k e)))
      (λ (f : Contains (unmarked keys marks) k). unmarked-not keys marks i k o.1 e m f) (Contains-cons_cases k x (unmarked keys marks) d)
]

unmarked-set : (keys : List (List ℕ)) (marks : List Bool) (i : ℕ) (k : List ℕ) → AreDistinct keys → slice_get keys i ≡ Some k →
    length marks ≡ length keys → unmarked keys (slice_set marks i true) ≡ without_key k (unmarked keys marks)
unmarked-set [] marks i k o e h = refl
unmarked-set (x ∷ keys) [] i k o e h = absurd (omega (arith, h))
unmarked-set (x ∷ keys) (b ∷ marks) zero k o e h =
    let q : x ≡ k = cc in
    let gone : without_key k (unmarked keys marks) ≡ unmarked keys marks =
    without-none k (unmarked keys marks) (λ c. o.0 (subst (λ (z : List ℕ). Contains keys z) (sym q) (unmarked-in keys marks k c))) in
    elim (cases_Bool b) [
      | inl y ↦ rw y (sym gone)
      | inr n ↦ rw n (rw (same_keys k x (sym q)) (sym gone))
    ]
unmarked-set (x ∷ keys) (b ∷ marks) (suc i) k o e h =
    let other : k ≢ x = λ (q : k ≡ x). o.0 (subst (λ (z : List ℕ). Contains keys z) q (member-at keys i k e)) in
    let rest = unmarked-set keys marks i k o.1 e (omega (arith, h)) in
    elim (cases_Bool b) [
      | inl y ↦ rw y rest
      | inr n ↦ rw n (rw (other_keys k x other) (ap (λ (l : List (List ℕ)). x ∷ l) rest))
    ]

-- one mark more leaves one key less
unmarked-count : (keys : List (List ℕ)) (marks : List Bool) (i : ℕ) → slice_get marks i ≡ Some false → length marks ≡ length keys →
    length (unmarked keys (slice_set marks i true)) + 1 ≡ length (unmarked keys marks)
unmarked-count [] [] i e h = absurd (cc)
unmarked-count [] (m ∷ marks) i e h = absurd (omega (arith, h))
unmarked-count (x ∷ keys) [] i e h = absurd (omega (arith, h))
unmarked-count (x ∷ keys) (b ∷ marks) zero e h = let f : b ≡ false = cc in rw f (omega arith)
unmarked-count (x ∷ keys) (b ∷ marks) (suc i) e h =
    let rest = unmarked-count keys marks i e (omega (arith, h)) in
    elim (cases_Bool b) [
      | inl y ↦ rw y rest
      | inr n ↦ rw n (omega (arith, rest))
    ]

-- ---- the keys at places
pub key_at-append : (keys more : List (List ℕ)) (i : ℕ) → i < length keys → key_at (keys ++ more) i ≡ key_at keys i
key_at-append keys more i h =
    get_or_from_slice_get (keys ++ more) i (key_at keys i) [] (get-append keys more i (key_at keys i) (slice_get-get_or keys i [] h))

pub keys_at-append : (keys more : List (List ℕ)) (places : List ℕ) → ((i : ℕ) → Contains places i → i < length keys) →
    map (key_at (keys ++ more)) places ≡ map (key_at keys) places
keys_at-append keys more [] h = refl
keys_at-append keys more (i ∷ places) h =
    let here = key_at-append keys more i (h i (Contains-first i places)) in
    let rest = keys_at-append keys more places (λ j c. h j (Contains-later j i places c)) in
    cc

pub keys_at-in : (keys : List (List ℕ)) (places : List ℕ) (k : List ℕ) → Contains (map (key_at keys) places) k → (i : ℕ) × Contains places i × (key_at keys i ≡ k)
keys_at-in keys [] k c = absurd (Contains-nil k c)
keys_at-in keys (i ∷ places) k c = ⊎_elim (λ (e : key_at keys i ≡ k). (i, Contains-first i places, e))
    (λ (d : Contains (map (key_at keys) places) k). let p = keys_at-in keys places k d in (p.0, Contains-later p.0 i places p.1, p.2))
    (Contains-cons_cases k (key_at keys i) (map (key_at keys) places) c)

keys_at-has : (keys : List (List ℕ)) (places : List ℕ) (i : ℕ) → Contains places i → Contains (map (key_at keys) places) (key_at keys i)
keys_at-has keys [] i c = absurd (Contains-nil i c)
keys_at-has keys (j ∷ places) i c = ⊎_elim
    (λ (e : j ≡ i). subst (λ (z : ℕ). Contains (key_at keys j ∷ map (key_at keys) places) (key_at keys z)) e (Contains-first (key_at keys j) (map (key_at keys) places)))
    (λ (d : Contains places i). Contains-later (key_at keys i) (key_at keys j) (map (key_at keys) places) (keys_at-has keys places i d))
    (Contains-cons_cases i j places c)

-- ---- a table
module _ (keys : List (List ℕ)) (marks : List Bool) (places : List ℕ) (t : IsKeyTable keys marks places) where
  abbrev pub waiting : List (List ℕ)
  waiting = unmarked keys marks

  abbrev pub done : List (List ℕ)
  done = map (key_at keys) places

  pub place_within : (i : ℕ) → Contains places i → i < length keys
  place_within i c = omega (arith, slice_get_within marks i true (t.marked i c), t.size)

  pub is_done : (key : List ℕ) → HasMark keys marks key true → Contains done key
  is_done key m =
      subst (λ (z : List ℕ). Contains done z) (get_or_from_slice_get keys m.place key [] m.at) (keys_at-has keys places m.place (t.listed m.place m.mark_is))

  pub done_only : (key : List ℕ) → HasMark keys marks key true → Contains waiting key → ⊥
  done_only key m c = unmarked-not keys marks m.place key t.once m.at m.mark_is c

  pub is_waiting : (key : List ℕ) → HasMark keys marks key false → Contains waiting key
  is_waiting key m = unmarked-has keys marks m.place key m.at m.mark_is

  pub waiting_in : (key : List ℕ) → Contains waiting key → Contains keys key
  waiting_in key c = unmarked-in keys marks key c

  pub done_in : (key : List ℕ) → Contains done key → Contains keys key
  done_in key c =
      let p = keys_at-in keys places key c in
      subst (λ (z : List ℕ). Contains keys z) p.2 (member-at keys p.0 (key_at keys p.0) (slice_get-get_or keys p.0 [] (place_within p.0 p.1)))

  known_of : (key : List ℕ) → Contains (waiting ++ done) key → Contains keys key
  known_of key c = ⊎_elim (waiting_in key) (done_in key) (Contains-append_cases waiting done key c)

  pub of_known : (key : List ℕ) → Contains keys key → Contains (waiting ++ done) key
  of_known key c =
      let p = place-of keys key c in
      let within : p.0 < length marks = omega (arith, slice_get_within keys p.0 key p.1, t.size) in
      let m = slice_get-get_or marks p.0 false within in
      elim (cases_Bool (slice_index_or marks p.0 false)) [
        | inl y ↦ Contains-append_right waiting done key (is_done key (record { place = p.0; at = p.1; mark_is = m ∙ ap Some y }))
        | inr n ↦ Contains-append_left waiting done key (is_waiting key (record { place = p.0; at = p.1; mark_is = m ∙ ap Some n }))
      ]

  -- the tests on what is known, in either order
  pub new-known : (more : List (List ℕ)) → are_new keys more ≡ true → are_new (waiting ++ done) more ≡ true
  new-known more e = are_new_from (waiting ++ done) more (new_stand_once keys more e) (λ k c d. new_are_unknown keys more e k c (known_of k d))

  pub first_clash : (more : List (List ℕ)) (k : List ℕ) → IsFirstClash keys more k → IsFirstClash (waiting ++ done) more k
  first_clash more k c = record {
    before = c.before;
    behind = c.behind;
    split = c.split;
    new_before = new-known c.before c.new_before;
    clashes = holds_it ((waiting ++ done) ++ c.before) k (⊎_elim
        (λ (a : Contains keys k). Contains-append_left (waiting ++ done) c.before k (of_known k a))
        (λ (b : Contains c.before k). Contains-append_right (waiting ++ done) c.before k b)
        (Contains-append_cases keys c.before k (held (keys ++ c.before) k c.clashes)));
  }

  -- why a job is not taken, by the keys that wait and those that are done
  pub refused : (job : List ℕ) (more : List (List ℕ)) (stop : AcceptStop) → RefusesJob keys marks job more stop →
      IsRefused (keys_in keys marks places) job more stop
  refused job more Done m = (is_done job m, done_only job m)
  refused job more Stranger n = (λ c. n (waiting_in job c), λ c. n (done_in job c))
  refused job more (Clash key) h = (is_waiting job h.0, first_clash more key h.1)
  refused job more Memory h = tt

  module _ (key : List ℕ) (more : List (List ℕ)) (m : HasMark keys marks key false) (n : are_new keys more ≡ true)
      (are_keys : (k : List ℕ) → Contains more k → IsKey k) where
    abbrev keys' : List (List ℕ)
    keys' = keys ++ more

    abbrev marks' : List Bool
    marks' = slice_set (marks ++ replicate (length more) false) m.place true

    abbrev places' : List ℕ
    places' = places ++ m.place ∷ []

    once' : AreDistinct keys'
    once' = distinct_append keys more t.once (new_stand_once keys more n) (λ k a b. new_are_unknown keys more n k b a)

    long : length (marks ++ replicate (length more) false) ≡ length keys'
    long = omega (arith, length-append marks (replicate (length more) false), length-append keys more, length-replicate (length more) false, t.size)

    job_there : slice_get (marks ++ replicate (length more) false) m.place ≡ Some false
    job_there = get-append marks (replicate (length more) false) m.place false m.mark_is

    marked' : (i : ℕ) → Contains places' i → slice_get marks' i ≡ Some true
    marked' i c = ⊎_elim
        (λ (a : Contains places i). set-keeps (marks ++ replicate (length more) false) m.place true i (get-append marks (replicate (length more) false) i true (t.marked i a)))
        (λ (e : m.place ≡ i). subst (λ (z : ℕ). slice_get marks' z ≡ Some true) e (set-here (marks ++ replicate (length more) false) m.place true false job_there))
        (Contains-push_cases places m.place i c)

    listed' : (i : ℕ) → slice_get marks' i ≡ Some true → Contains places' i
    listed' i e = elim (get-set (marks ++ replicate (length more) false) m.place true i true e) [
      | inl a ↦ elim (get-append_cases marks (replicate (length more) false) i true a) [
        | inl b ↦ Contains-append_left places (m.place ∷ []) i (t.listed i b)
        | inr b ↦ let q : true ≡ false = all-false (length more) true b in absurd (cc)
      ]
      | inr q ↦ subst (λ (z : ℕ). Contains places' z) (sym q) (Contains-push places m.place)
    ]

    count' : length (unmarked keys' marks') + length places' ≡ length keys'
    count' =
        let set = unmarked-count keys' (marks ++ replicate (length more) false) m.place job_there long in
        let front = ap (λ (l : List (List ℕ)). length l) (unmarked-append keys more marks t.size) in
        omega (arith, set, front, length-append waiting more, length-append keys more, length-append places (m.place ∷ []), t.count)

    table' : IsKeyTable keys' marks' places'
    table' = record {
      once = once';
      size = length-set (marks ++ replicate (length more) false) m.place true ∙ long;
      marked = marked';
      listed = listed';
      count = count';
      are_keys = λ k c. ⊎_elim (t.are_keys k) (are_keys k) (Contains-append_cases keys more k c);
    }

    waiting' : unmarked keys' marks' ≡ without_key key waiting ++ more
    waiting' =
        unmarked-set keys' (marks ++ replicate (length more) false) m.place key once' (get-append keys more m.place key m.at) long
        ∙ ap (without_key key) (unmarked-append keys more marks t.size)
        ∙ filter-append (λ (k : List ℕ). not (is_same_key key k)) waiting more
        ∙ ap (λ (l : List (List ℕ)). without_key key waiting ++ l) (without-none key more (λ c. new_are_unknown keys more n key c (member-at keys m.place key m.at)))

    done' : map (key_at keys') places' ≡ done ++ key ∷ []
    done' =
        let front = keys_at-append keys more places place_within in
        let last : key_at keys' m.place ≡ key = get_or_from_slice_get keys' m.place key [] (get-append keys more m.place key m.at) in
        let parts = map-append (key_at keys') places (m.place ∷ []) in
        cc

    pub taken_then : (keys_in keys' marks' places' ≡ keys_with (keys_in keys marks places) key more) × IsKeyTable keys' marks' places' × (are_new (waiting ++ done) more ≡ true)
    taken_then = (cc (waiting', done'), table', new-known more n)

-- what a call that took a job in leaves
pub table_taken : (keys : List (List ℕ)) (marks : List Bool) (places : List ℕ) (keys' : List (List ℕ)) (marks' : List Bool) (places' : List ℕ) (key : List ℕ) (more : List (List ℕ)) →
    IsKeyTable keys marks places → IsTaken keys marks places keys' marks' places' key more →
    (keys_in keys' marks' places' ≡ keys_with (keys_in keys marks places) key more) × IsKeyTable keys' marks' places'
    × Contains (unmarked keys marks) key × (are_new (unmarked keys marks ++ map (key_at keys) places) more ≡ true)
table_taken keys marks places keys1 marks1 places1 key more t h =
    let r = taken_then keys marks places t key more h.waits h.new_keys h.are_keys in
    let P : List (List ℕ) → List Bool → List ℕ → Type 0 = λ k m p. (keys_in k m p ≡ keys_with (keys_in keys marks places) key more) × IsKeyTable k m p in
    let a : P (keys ++ more) (slice_set (marks ++ replicate (length more) false) h.waits.place true) (places ++ h.waits.place ∷ []) = (r.0, r.1) in
    let b = subst (λ (k : List (List ℕ)). P k (slice_set (marks ++ replicate (length more) false) h.waits.place true) (places ++ h.waits.place ∷ [])) (sym h.keys_then) a in
    let c = subst (λ (m : List Bool). P keys1 m (places ++ h.waits.place ∷ [])) (sym h.marks_then) b in
    let d = subst (λ (p : List ℕ). P keys1 marks1 p) (sym h.places_then) c in
    (d.0, d.1, is_waiting keys marks places t key h.waits, r.2)

abbrev Same : KeyTable → KeyTable → Type 0
Same t u = t ≡ u

pub table_same : (keys : List (List ℕ)) (marks : List Bool) (places : List ℕ) (keys1 : List (List ℕ)) (marks1 : List Bool) (places1 : List ℕ) (key : List ℕ) (more : List (List ℕ)) →
    IsKeyTable keys marks places → IsTaken keys marks places keys1 marks1 places1 key more →
    key_table keys1 marks1 places1 ≡ record { came = keys ++ more; keys = keys_with (keys_in keys marks places) key more }
table_same keys marks places keys1 marks1 places1 key more t h =
    let r = (table_taken keys marks places keys1 marks1 places1 key more t h).0 in
    both (keys1) (keys ++ more) (keys_in keys1 marks1 places1) (keys_with (keys_in keys marks places) key more) h.keys_then r
  where
    both : (a b : List (List ℕ)) (u v : KnownKeys) → a ≡ b → u ≡ v → Same (record { came = a; keys = u }) (record { came = b; keys = v })
    both a b u v e f = (λ i. record { came = e i; keys = f i })

-- one key that waits
pub table_first : (key : List ℕ) → IsKey key → IsKeyTable (key ∷ []) (false ∷ []) []
table_first key is = record {
  are_keys = λ k c. ⊎_elim (λ (e : key ≡ k). subst IsKey e is) (λ d. absurd (Contains-nil k d)) (Contains-cons_cases k key [] c);
  once = (Contains-nil key, tt);
  size = refl;
  count = omega arith;
  marked = λ i c. absurd (Contains-nil i c);
  listed = λ i e. absurd (let q = get-append_cases [] (false ∷ []) i true e in ⊎_elim (λ (a : slice_get [] i ≡ Some true). let z : None ≡ Some true = a in absurd (cc)) (λ b. let z : true ≡ false = all-false 1 true b in absurd (cc)) q);
}

-- ---- answers
pub stops_by_keys : (keys : List (List ℕ)) (marks : List Bool) (job : List ℕ) (more : List (List ℕ)) (stop : AcceptStop) →
    HasMark keys marks job false → RefusesKeys keys more stop → RefusesJob keys marks job more stop
stops_by_keys keys marks job more Done m h = absurd h
stops_by_keys keys marks job more Stranger m h = absurd h
stops_by_keys keys marks job more (Clash key) m h = (m, h)
stops_by_keys keys marks job more Memory m h = tt

-- a key that stands where there is no mark
pub waits_at : (keys : List (List ℕ)) (marks seen : List Bool) (key : List ℕ) (place : ℕ) → slice_get keys place ≡ Some key → seen ≡ marks →
    slice_get seen place ≡ Some false → HasMark keys marks key false
waits_at keys marks seen key place at is m = record {
  place = place;
  at = at;
  mark_is = subst (λ (l : List Bool). slice_get l place ≡ Some false) is m;
}

-- whatever the answer, a table is left
pub table_then : {T E : Type 0} (r : Result T E) (keys : List (List ℕ)) (marks : List Bool) (places : List ℕ) (keys1 : List (List ℕ)) (marks1 : List Bool) (places1 : List ℕ)
    (key : List ℕ) (more : List (List ℕ)) → IsKeyTable keys marks places → OnOk r (IsTaken keys marks places keys1 marks1 places1 key more) →
    OnErr r ((keys1 ≡ keys) × (marks1 ≡ marks) × (places1 ≡ places)) → IsKeyTable keys1 marks1 places1
table_then (Ok x) keys marks places keys1 marks1 places1 key more t a b = (table_taken keys marks places keys1 marks1 places1 key more t a).1
table_then (Err e) keys marks places keys1 marks1 places1 key more t a b =
    let s1 = subst (λ (k : List (List ℕ)). IsKeyTable k marks places) (sym b.0) t in
    let s2 = subst (λ (m : List Bool). IsKeyTable keys1 m places) (sym b.1) s1 in
    subst (λ (p : List ℕ). IsKeyTable keys1 marks1 p) (sym b.2) s2
