-- Places of keys: those without a mark, and the mark of a key that is done.
use Rattle.std.proofs.Common.{arith, ℕ, List, ◌≡◌, inl, inr, ⊎_elim, ◌+◌, ◌<◌, Bool, true, false, [], ◌∷◌, ◌++◌, refl, sym, ap, ◌∙◌, subst, length, map, drop, get_or, append_assoc, slice_get, Some, Vec, vec_items, option_map, add-one}
use Rattle.std.specs.List.{Contains}
use Rattle.std.proofs.lemmas.Bool.{cases_Bool}
use Rattle.std.proofs.lemmas.List.{length-append}
use Rattle.std.proofs.lemmas.Option.{slice_get-map, slice_get-get_or}
use Rattle.std.proofs.Math.Seq.{drop-cons}
use Rattle.linear_laws.proofs.Members.{Contains-nil, Contains-cons_cases}
use Rattle.run_state.specs.KeyLists.{holds, key_at}
use Rattle.run_state.specs.Known.{IsKeyTable, labels_in, places_without, unmarked}
use Rattle.run_state.proofs.KeyListLemmas.{holds_it, holds_not}
use Rattle.run_state.proofs.PlacedElements.{member-at}
use Rattle.run_state.proofs.TableLemmas.{done_only, is_done, is_waiting, keys_at-in, place_within}

step-drop : {X : Type 0} (xs : List X) (i : ℕ) (d : X) → i < length xs → drop i xs ≡ get_or xs i d ∷ drop (i + 1) xs
step-drop xs i d h = rw (add-one, drop-cons xs i d) refl

-- ---- the places without a mark
pub places-left : (marks : List Bool) (i : ℕ) → i < length marks → get_or marks i false ≡ false →
    places_without i (drop i marks) ≡ i ∷ places_without (i + 1) (drop (i + 1) marks)
places-left marks i h m = ap (places_without i) (step-drop marks i false h) ∙ rw m refl

pub places-done : (marks : List Bool) (i : ℕ) → i < length marks → get_or marks i false ≡ true →
    places_without i (drop i marks) ≡ places_without (i + 1) (drop (i + 1) marks)
places-done marks i h m = ap (places_without i) (step-drop marks i false h) ∙ rw m refl

pub key_at-seam : (front keys : List (List ℕ)) (k : List ℕ) → key_at (front ++ k ∷ keys) (length front) ≡ k
key_at-seam [] keys k = refl
key_at-seam (x ∷ front) keys k = key_at-seam front keys k

pub unmarked-places : (front keys : List (List ℕ)) (marks : List Bool) → length marks ≡ length keys →
    map (key_at (front ++ keys)) (places_without (length front) marks) ≡ unmarked keys marks
unmarked-places front [] [] h = refl
unmarked-places front [] (m ∷ marks) h = absurd (omega (arith, h))
unmarked-places front (k ∷ keys) [] h = absurd (omega (arith, h))
unmarked-places front (k ∷ keys) (m ∷ marks) h =
    let long : length (front ++ k ∷ []) ≡ length front + 1 = length-append front (k ∷ []) in
    let whole : (front ++ k ∷ []) ++ keys ≡ front ++ k ∷ keys = append_assoc front (k ∷ []) keys in
    let rest0 = unmarked-places (front ++ k ∷ []) keys marks (omega (arith, h)) in
    let rest1 = subst (λ (n : ℕ). map (key_at ((front ++ k ∷ []) ++ keys)) (places_without n marks) ≡ unmarked keys marks) long rest0 in
    let rest = subst (λ (l : List (List ℕ)). map (key_at l) (places_without (length front + 1) marks) ≡ unmarked keys marks) whole rest1 in
    let here = key_at-seam front keys k in
    elim (cases_Bool m) [
      | inl y ↦ rw y rest
      | inr n ↦ rw n (ap (λ (z : List ℕ). z ∷ map (key_at (front ++ k ∷ keys)) (places_without (length front + 1) marks)) here ∙ ap (λ (l : List (List ℕ)). k ∷ l) rest)
    ]

pub places-within : (i : ℕ) (marks : List Bool) (j : ℕ) → Contains (places_without i marks) j → j < i + length marks
places-within i [] j c = absurd (Contains-nil j c)
places-within i (m ∷ marks) j c = elim (cases_Bool m) [
  | inl y ↦ let d : Contains (places_without (i + 1) marks) j = rw y at c in let p = places-within (i + 1) marks j d in omega (arith, p)
  | inr n ↦
      let d : Contains (i ∷ places_without (i + 1) marks) j = rw n at c in
      ⊎_elim (λ (e : i ≡ j). omega (arith, e)) (λ (f : Contains (places_without (i + 1) marks) j). let p = places-within (i + 1) marks j f in omega (arith, p))
      (Contains-cons_cases j i (places_without (i + 1) marks) d)
]

-- ---- stored keys
pub labels-at : {Z : Type 0} (ks : List (Vec ℕ Z)) (i : ℕ) (x : Vec ℕ Z) → x ≡ get_or ks i x → i < length ks → Contains (labels_in ks) (vec_items x)
labels-at ks i x e h =
    subst (λ (k : List ℕ). Contains (labels_in ks) k) (ap vec_items (sym e))
    (member-at (labels_in ks) i (vec_items (get_or ks i x)) (slice_get-map vec_items ks i ∙ ap (option_map vec_items) (slice_get-get_or ks i x h)))

module _ (keys : List (List ℕ)) (marks : List Bool) (places : List ℕ) (t : IsKeyTable keys marks places) where
  pub done_mark : (place : ℕ) (b : Bool) → place < length keys → slice_get marks place ≡ Some b → b ≡ holds (map (key_at keys) places) (key_at keys place)
  done_mark place true h m =
      sym (holds_it (map (key_at keys) places) (key_at keys place)
      (is_done keys marks places t (key_at keys place) (record { place = place; at = slice_get-get_or keys place [] h; mark_is = m })))
  done_mark place false h m =
      sym (holds_not (map (key_at keys) places) (key_at keys place) (λ c.
      let p = keys_at-in keys places (key_at keys place) c in
      let there : slice_get keys p.0 ≡ Some (key_at keys place) = slice_get-get_or keys p.0 [] (place_within keys marks places t p.0 p.1) ∙ ap Some p.2 in
      done_only keys marks places t (key_at keys place) (record { place = p.0; at = there; mark_is = t.marked p.0 p.1 })
      (is_waiting keys marks places t (key_at keys place) (record { place = place; at = slice_get-get_or keys place [] h; mark_is = m }))))
