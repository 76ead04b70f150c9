-- A legal reply keeps the whole in parts.
use Rattle.std.proofs.Common.{◌≡◌, ◌≢◌, ◌⊎◌, inl, inr, ⊎_elim, ◌↔◌, ℕ, List, [], ◌∷◌, ◌++◌, sym, ◌∙◌, subst, append_assoc}
use Rattle.std.specs.List.{Contains}
use Rattle.std.proofs.lemmas.List.{append-nil}
use Rattle.std.proofs.lemmas.List.Elements.{Contains-append_left, Contains-append_right, Contains-append_cases}
use Rattle.linear_laws.specs.Distinct.{AreDistinct}
use Rattle.linear_laws.proofs.Members.{Contains-nil, Contains-first, Contains-cons_cases}
use Rattle.poly_num.specs.Vectors.{Vector}
use Rattle.linear_laws.proofs.Distinct.{distinct_append}
use Rattle.search_laws.specs.Partitions.{Partition}
use Rattle.search_laws.proofs.OnceLists.{one_key_or_not}
use Rattle.job_text.specs.declared.reply.Reply.{Reply}
use Rattle.work_core.specs.Searches.{Search, meaning_of}
use Rattle.run_state.specs.KeyLists.{KnownKeys, without_key}
use Rattle.run_state.specs.Payloads.{FitsIn, keys_after, keys_of}
use Rattle.run_state.specs.Runs.{recorded_rows}
use Rattle.run_state.specs.Legal.{IsLegalReply}
use Rattle.run_state.proofs.KeyListLemmas.{in_without, without_keeps, once-without, new_are_unknown}
use Rattle.run_state.proofs.Followers.{Follow}

-- a key of the list after the reply: an old one, or one given back
pub key_after : (keys : KnownKeys) (r : Reply) (k : List ℕ) → Contains (keys_after keys r).waiting k →
    (Contains keys.waiting k × (k ≢ r.key)) ⊎ Contains r.keys k
key_after keys r k c =
    ⊎_elim (λ a. inl (in_without r.key keys.waiting k a)) (λ b. inr b) (Contains-append_cases (without_key r.key keys.waiting) r.keys k c)

pub is_only : (k first : List ℕ) → Contains (first ∷ []) k → k ≡ first
is_only k first c = ⊎_elim (λ (e : first ≡ k). sym e) (λ d. absurd (Contains-nil k d)) (Contains-cons_cases k first [] c)

module _ (s : Search) (whole : Vector → Type 0) (rows : List Vector) (keys : KnownKeys) (r : Reply)
    (p : Partition whole (meaning_of s).in_share rows keys.waiting) (n : FitsIn keys r) (l : IsLegalReply s r) where
  abbrev Shares : List ℕ → Vector → Type 0
  Shares k y = (meaning_of s).in_share k y

  old_key : (k : List ℕ) → Contains keys.waiting k → k ≢ r.key → Contains (keys_after keys r).waiting k
  old_key k c m = Contains-append_left (without_key r.key keys.waiting) r.keys k (without_keeps r.key keys.waiting k c m)

  given_key : (k : List ℕ) → Contains r.keys k → Contains (keys_after keys r).waiting k
  given_key k c = Contains-append_right (without_key r.key keys.waiting) r.keys k c

  once : AreDistinct (keys_after keys r).waiting
  once = distinct_append (without_key r.key keys.waiting) r.keys (once-without r.key keys.waiting p.keys_once) l.parts.keys_once
      (λ k a b. new_are_unknown (keys.waiting ++ keys.done) r.keys n.new_keys k b
      (Contains-append_left keys.waiting keys.done k (in_without r.key keys.waiting k a).0))

  covered : (y : Vector) → whole y → Contains (rows ++ r.rows) y ⊎ ((k : List ℕ) × Contains (keys_after keys r).waiting k × Shares k y)
  covered y w = elim (p.covers y w) [
    | inl i ↦ inl (Contains-append_left rows r.rows y i)
    | inr h ↦ elim (one_key_or_not h.0 r.key) [
      | inl e ↦ elim (l.parts.covers y (subst (λ (k : List ℕ). Shares k y) e h.2)) [
        | inl i ↦ inl (Contains-append_right rows r.rows y i)
        | inr g ↦ inr (g.0, given_key g.0 g.1, g.2)
      ]
      | inr m ↦ inr (h.0, old_key h.0 h.1 m, h.2)
    ]
  ]

  within : (y : Vector) → Contains (rows ++ r.rows) y → whole y
  within y c = ⊎_elim (p.rows_within y) (λ b. p.keys_within r.key y n.waits (l.parts.rows_within y b)) (Contains-append_cases rows r.rows y c)

  keys_in : (k : List ℕ) (y : Vector) → Contains (keys_after keys r).waiting k → Shares k y → whole y
  keys_in k y c h = elim (key_after keys r k c) [
    | inl a ↦ p.keys_within k y a.0 h
    | inr b ↦ p.keys_within r.key y n.waits (l.parts.keys_within k y b h)
  ]

  -- an old key and the job share nothing
  alone : (k : List ℕ) (y : Vector) → Contains keys.waiting k → k ≢ r.key → Shares k y → Shares r.key y → ⊥
  alone k y c m h g = m (p.one_key k r.key y c n.waits h g)

  separate : (k : List ℕ) (y : Vector) → Contains (keys_after keys r).waiting k → Shares k y → Contains (rows ++ r.rows) y → ⊥
  separate k y c h j = elim (key_after keys r k c) [
    | inl a ↦ elim (Contains-append_cases rows r.rows y j) [
      | inl b ↦ p.apart k y a.0 h b
      | inr d ↦ alone k y a.0 a.1 h (l.parts.rows_within y d)
    ]
    | inr a ↦ elim (Contains-append_cases rows r.rows y j) [
      | inl b ↦ p.apart r.key y n.waits (l.parts.keys_within k y a h) b
      | inr d ↦ l.parts.apart k y a h d
    ]
  ]

  only : (j k : List ℕ) (y : Vector) → Contains (keys_after keys r).waiting j → Contains (keys_after keys r).waiting k → Shares j y → Shares k y → j ≡ k
  only j k y cj ck hj hk = elim (key_after keys r j cj) [
    | inl a ↦ elim (key_after keys r k ck) [
      | inl b ↦ p.one_key j k y a.0 b.0 hj hk
      | inr b ↦ absurd (alone j y a.0 a.1 hj (l.parts.keys_within k y b hk))
    ]
    | inr a ↦ elim (key_after keys r k ck) [
      | inl b ↦ absurd (alone k y b.0 b.1 hk (l.parts.keys_within j y a hj))
      | inr b ↦ l.parts.one_key j k y a b hj hk
    ]
  ]

  pub partition-next : Partition whole (meaning_of s).in_share (rows ++ r.rows) (keys_after keys r).waiting
  partition-next = record {
    rows_once = distinct_append rows r.rows p.rows_once l.parts.rows_once (λ y a b. p.apart r.key y n.waits (l.parts.rows_within y b) a);
    keys_once = once;
    covers = covered;
    rows_within = within;
    keys_within = keys_in;
    apart = separate;
    one_key = only;
  }

pub partition-after : (s : Search) (whole : Vector → Type 0) (rows : List Vector) (keys : KnownKeys) (replies : List Reply) →
    Partition whole (meaning_of s).in_share rows keys.waiting → Follow s keys replies →
    Partition whole (meaning_of s).in_share (rows ++ recorded_rows replies) (keys_of keys replies).waiting
partition-after s whole rows keys [] p f =
    subst (λ (all : List Vector). Partition whole (meaning_of s).in_share all keys.waiting) (sym (append-nil rows)) p
partition-after s whole rows keys (r ∷ replies) p f =
    subst (λ (all : List Vector). Partition whole (meaning_of s).in_share all (keys_of (keys_after keys r) replies).waiting)
    (append_assoc rows r.rows (recorded_rows replies))
    (partition-after s whole (rows ++ r.rows) (keys_after keys r) replies (partition-next s whole rows keys r p f.0.0 f.0.1) f.1)

-- one key whose share is the whole
pub partition-first : (s : Search) (whole : Vector → Type 0) (first : List ℕ) → ((y : Vector) → (meaning_of s).in_share first y ↔ whole y) →
    Partition whole (meaning_of s).in_share [] (first ∷ [])
partition-first s whole first has = record {
  rows_once = tt;
  keys_once = (Contains-nil first, tt);
  covers = λ y w. inr (first, Contains-first first [], (has y).1 w);
  rows_within = λ y c. absurd (Contains-nil y c);
  keys_within = λ k y c h. (has y).0 (subst (λ (q : List ℕ). (meaning_of s).in_share q y) (is_only k first c) h);
  apart = λ k y c h j. Contains-nil y j;
  one_key = λ j k y cj ck hj hk. is_only j first cj ∙ sym (is_only k first ck);
}
