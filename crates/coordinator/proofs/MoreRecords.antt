-- A ledger that gets texts behind its records.
use Rattle.std.proofs.Common.{arith, ℕ, List, ◌≡◌, ◌⊎◌, inl, inr, ◌+◌, ◌<◌, ◌≤◌, [], ◌∷◌, ◌++◌, refl, sym, ap, ◌∙◌, subst, length, append_assoc, append-nil}
use Rattle.std.proofs.lemmas.List.{map-append}
use Rattle.std.proofs.lemmas.List.Sums.{sum_by-append}
use Rattle.disk_core.specs.declared.disk.Disk.{Ghosts as Disk}
use Rattle.disk_core.specs.Moments.{LeavesOnly}
use Rattle.disk_core.proofs.Moments.{joined, started, weaker}
use Rattle.job_ledger.specs.Records.{Records, RecordsOldOrNew}
use Rattle.job_ledger.specs.Ledgers.{IsLedgerAt, IsPastLimit, Known, end_of, grown, need_of, payload_sizes}
use Rattle.coordinator_core.specs.Machine.{State}
use Rattle.coordinator_laws.specs.Ends.{bytes_in, left_to_do}
use Rattle.coordinator.specs.Following.{most_actions}
use Rattle.coordinator.specs.Leaving.{Adds, HasFront, IsRefusedBy, LeavesFronts}

-- ---- fronts
pub front_none : (records : List (List ℕ)) (texts : List (List ℕ)) (file : List ℕ) → Records records file → HasFront records texts file
front_none records texts file has = record { front = []; rest = texts; split = refl; has = subst (λ (l : List (List ℕ)). Records l file) (sym (append-nil records)) has }

front_one : (records : List (List ℕ)) (text file : List ℕ) → RecordsOldOrNew records text file → HasFront records (text ∷ []) file
front_one records text file (inl old) = front_none records (text ∷ []) file old
front_one records text file (inr new) = record { front = text ∷ []; rest = []; split = refl; has = new }

front_left : (records xs ys : List (List ℕ)) (file : List ℕ) → HasFront records xs file → HasFront records (xs ++ ys) file
front_left records xs ys file h = record { front = h.front; rest = h.rest ++ ys; split = ap (λ (l : List (List ℕ)). l ++ ys) h.split ∙ append_assoc h.front h.rest ys; has = h.has }

front_right : (records xs ys : List (List ℕ)) (file : List ℕ) → HasFront (records ++ xs) ys file → HasFront records (xs ++ ys) file
front_right records xs ys file h = record {
  front = xs ++ h.front;
  rest = h.rest;
  split = ap (λ (l : List (List ℕ)). xs ++ l) h.split ∙ sym (append_assoc xs h.front h.rest);
  has = subst (λ (l : List (List ℕ)). Records l file) (append_assoc records xs h.front) h.has;
}

-- ---- sizes
sizes_join : (sizes : List ℕ) (xs ys : List (List ℕ)) → (sizes ++ payload_sizes xs) ++ payload_sizes ys ≡ sizes ++ payload_sizes (xs ++ ys)
sizes_join sizes xs ys = append_assoc sizes (payload_sizes xs) (payload_sizes ys) ∙ ap (λ (l : List ℕ). sizes ++ l) (sym (map-append length xs ys))

with_sizes : Known → List ℕ → Known
with_sizes k sizes = record { limit = k.limit; sizes = sizes }

knows_join : (k l m : Known) (xs ys : List (List ℕ)) → l ≡ record { limit = k.limit; sizes = k.sizes ++ payload_sizes xs } →
    m ≡ record { limit = l.limit; sizes = l.sizes ++ payload_sizes ys } → m ≡ record { limit = k.limit; sizes = k.sizes ++ payload_sizes (xs ++ ys) }
unfolding with_sizes
knows_join k l m xs ys p q =
    q ∙ ap (λ (z : Known). with_sizes z (z.sizes ++ payload_sizes ys)) p ∙ ap (with_sizes k) (sizes_join k.sizes xs ys)

module _ {D : Type 0} (disk : Disk D) where
  -- ---- what is left
  pub leaves_same : (d : D) (k : Known) (texts : List (List ℕ)) → ((x : D) (c : List ℕ) → disk.since x (disk.moment x) c → disk.images x c) → LeavesFronts disk d d k texts
  leaves_same d k texts only_now records at =
      started disk.moment disk.since d (HasFront records texts)
      (λ c now. front_none records texts c (subst (Records records) (sym (at.settled c (only_now d c now))) at.has))

  -- by a call that left the disk as it was
  pub leaves_still : (a b : D) (k : Known) (texts : List (List ℕ)) → b ≡ a → ((x : D) (c : List ℕ) → disk.since x (disk.moment x) c → disk.images x c) → LeavesFronts disk a b k texts
  leaves_still a b k texts same only_now = subst (λ (d : D). LeavesFronts disk a d k texts) (sym same) (leaves_same a k texts only_now)

  pub leaves_join : (a b c : D) (k l : Known) (xs ys : List (List ℕ)) → Adds disk a b k l xs → LeavesFronts disk b c l ys → LeavesFronts disk a c k (xs ++ ys)
  leaves_join a b c k l xs ys f g records at =
      joined disk.moment disk.since a b c (HasFront records xs) (HasFront (records ++ xs) ys) (HasFront records (xs ++ ys)) (f.leaves records at)
      (g (records ++ xs) (f.kept records at)) (front_left records xs ys) (front_right records xs ys)

  -- ---- what is added
  pub adds_none : (d : D) (k : Known) → ((x : D) (c : List ℕ) → disk.since x (disk.moment x) c → disk.images x c) → Adds disk d d k k []
  adds_none d k only_now = record {
    knows = ap (λ (l : List ℕ). record { limit = k.limit; sizes = l }) (sym (append-nil k.sizes));
    kept = λ records at. subst (λ (l : List (List ℕ)). IsLedgerAt k l (disk.seen d) (disk.images d)) (sym (append-nil records)) at;
    leaves = leaves_same d k [] only_now;
  }

  pub adds_still : (a b : D) (k l : Known) → b ≡ a → l ≡ k → ((x : D) (c : List ℕ) → disk.since x (disk.moment x) c → disk.images x c) → Adds disk a b k l []
  adds_still a b k l same still only_now =
      subst (λ (d : D). Adds disk a d k l []) (sym same) (subst (λ (z : Known). Adds disk a a k z []) (sym still) (adds_none a k only_now))

  pub adds_join : (a b c : D) (k l m : Known) (xs ys : List (List ℕ)) → Adds disk a b k l xs → Adds disk b c l m ys → Adds disk a c k m (xs ++ ys)
  adds_join a b c k l m xs ys f g = record {
    knows = knows_join k l m xs ys f.knows g.knows;
    kept = λ records at. subst (λ (r : List (List ℕ)). IsLedgerAt m r (disk.seen c) (disk.images c)) (append_assoc records xs ys) (g.kept (records ++ xs) (f.kept records at));
    leaves = leaves_join a b c k l xs ys f g.leaves;
  }

  -- ---- one record
  pub leaves_one : (a b : D) (k : Known) (text : List ℕ) → ((records : List (List ℕ)) → IsLedgerAt k records (disk.seen a) (disk.images a) →
      LeavesOnly disk.moment disk.since a b (RecordsOldOrNew records text)) → LeavesFronts disk a b k (text ∷ [])
  leaves_one a b k text moments records at =
      weaker disk.moment disk.since a b (RecordsOldOrNew records text) (HasFront records (text ∷ [])) (moments records at) (front_one records text)

-- ---- what would pass the limit
pub refused_one : (k : Known) (text : List ℕ) (need most : ℕ) → IsPastLimit k (length text) need most → IsRefusedBy k (text ∷ []) need most
refused_one k text need most past = record {
  before = [];
  text = text;
  split = refl;
  past = subst (λ (l : List ℕ). IsPastLimit (record { limit = k.limit; sizes = l }) (length text) need most) (sym (append-nil k.sizes)) past;
}

pub refused_join : (k l : Known) (xs ys : List (List ℕ)) (need most : ℕ) → l ≡ record { limit = k.limit; sizes = k.sizes ++ payload_sizes xs } →
    IsRefusedBy l ys need most → IsRefusedBy k (xs ++ ys) need most
refused_join k l xs ys need most knows r =
    let same : (record { limit = l.limit; sizes = l.sizes ++ payload_sizes r.before }) ≡ record { limit = k.limit; sizes = k.sizes ++ payload_sizes (xs ++ r.before) } =
    knows_join k l (record { limit = l.limit; sizes = l.sizes ++ payload_sizes r.before }) xs r.before knows refl in
    record {
      before = xs ++ r.before;
      text = r.text;
      split = ap (λ (z : List (List ℕ)). xs ++ z) r.split ∙ sym (append_assoc xs r.before (r.text ∷ []));
      past = subst (λ (z : Known). IsPastLimit z (length r.text) need most) same r.past;
    }

-- ---- the bound on the actions that are left
end-append : (xs ys : List ℕ) → end_of (xs ++ ys) ≡ end_of xs + end_of ys
end-append [] ys = omega arith
end-append (x ∷ xs) ys = omega (arith, end-append xs ys)

end-bytes : (texts : List (List ℕ)) → bytes_in texts ≤ end_of (payload_sizes texts)
end-bytes [] = omega arith
end-bytes (t ∷ texts) =
    let one : bytes_in (t ∷ []) ≡ length t = omega arith in
    omega (arith, one, sum_by-append length (t ∷ []) texts, end-bytes texts)

pub falls : (s t : State) (k l : Known) (texts : List (List ℕ)) → l ≡ record { limit = k.limit; sizes = k.sizes ++ payload_sizes texts } →
    (l ≡ k) ⊎ (end_of l.sizes ≤ l.limit) → 1 + left_to_do t ≤ left_to_do s + bytes_in texts → most_actions t l < most_actions s k
falls s t k l texts knows fits lower =
    let limit : l.limit ≡ k.limit = ap (λ (z : Known). z.limit) knows in
    let sizes : end_of l.sizes ≡ end_of k.sizes + end_of (payload_sizes texts) = ap (λ (z : Known). end_of z.sizes) knows ∙ end-append k.sizes (payload_sizes texts) in
    elim fits [
      | inl same ↦ let same_end : end_of l.sizes ≡ end_of k.sizes = ap (λ (z : Known). end_of z.sizes) same in
          omega (arith, limit, sizes, same_end, lower, end-bytes texts)
      | inr most ↦ omega (arith, limit, sizes, most, lower, end-bytes texts)
    ]

pub grown_fits : (k l : Known) (size : ℕ) → l ≡ grown k size → need_of k size ≤ k.limit → end_of l.sizes ≤ l.limit
grown_fits k l size is fits =
    let limit : l.limit ≡ k.limit = ap (λ (z : Known). z.limit) is in
    let sizes : end_of l.sizes ≡ end_of k.sizes + end_of (size ∷ []) = ap (λ (z : Known). end_of z.sizes) is ∙ end-append k.sizes (size ∷ []) in
    omega (arith, limit, sizes, fits)
