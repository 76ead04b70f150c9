-- One visit: where it begins, a row passed over, a list under it given back or visited, where it ends and where it stops.
use Rattle.std.proofs.Common.{◌≡◌, ◌⊎◌, inl, inr, ⊎_elim, Bool, true, false, ℕ, ◌+◌, ◌-◌, ◌≤◌, ◌<◌, List, [], ◌∷◌, ◌++◌, length, Option, Result, Ok, Err, refl, sym, ap, subst, ◌∙◌, arith}
use Rattle.std.specs.Prelude.{IsErrOf}
use Rattle.poly_num.specs.Vectors.{Vector}
use Rattle.poly_model.specs.declared.listed.Count.{Count}
use Rattle.poly_model.specs.declared.overflow.Overflow.{Overflow}
use Rattle.poly_model.specs.Keys.{IsKey}
use Rattle.plain_enum.specs.Plain.{PassesInCone}
use Rattle.poly_model.specs.Systems.{System, Polyhedron, cone_of, row_of}
use Rattle.dictionary.specs.Views.{Dictionary}
use Rattle.plain_enum.specs.Listed.{HasRoomFor}
use Rattle.search_laws.specs.Shares.{ListsAll}
use Rattle.listing_laws.specs.Lists.{Lists}
use Rattle.listing_laws.specs.Prefixes.{IsCornerUnder}
use Rattle.linear_laws.proofs.Members.{Contains-first}
use Rattle.work_core.specs.declared.stops.WorkStop.{WorkStop}
use Rattle.poly_model.specs.Limits.{most_labels}
use Rattle.work_core.specs.Meanings.{Meaning, IsKeyBelow}
use Rattle.work_core.specs.Subsets.{IsSubsetKey, InSubset}
use Rattle.work_core.specs.Searches.{by_subsets}
use Rattle.work_core.specs.ReplyLines.{row_line, WritesLines, WritesPartOfLines, IsCutRun, IsTornRun}
use Rattle.work_core.specs.Subsets.{IsShownAtList}
use Rattle.work_core.proofs.WalkLemmas.{under_itself}
use Rattle.work_core.proofs.SubsetShares.{has_shares, shows_at}
use Rattle.work_core.proofs.WalkedLemmas.{writes_given, part_given, cut_is_torn, torn_job, torn_row}
use Rattle.subset_work.specs.declared.progress.Progress.{Progress}
use Rattle.subset_work.specs.Counts.{IsOneBase}
use Rattle.subset_work.specs.Walked.{HasWalked, HasWalkedTo, WalksUnder, GivesBack}
use Rattle.subset_work.specs.Standing.{IsNext, HasRoom, MayTake, IsLive, IsDead}
use Rattle.subset_work.proofs.ListTree.{plain_label, is_plain, child_under, child_room, child_next}
use Rattle.subset_work.proofs.Children.{children_none, no_children, children_past, children_with, children_all}
use Rattle.subset_work.proofs.Walks.{cut_then, cut_above, torn_then, torn_above, walked_none, walked_then, walked_give, walked_visit, walked_show, walked_cut, walked_above}
use Rattle.subset_work.proofs.ListPrefixes.{dead_shows_none, shown_none, shown_one}

-- the list with row i, where the loop under a list has come to row i: what it is, and what a visit of it, or giving it
-- back, makes of the walk
pub record NextStep (p : Polyhedron) (key : List ℕ) (left most longest i : ℕ) (old now : Option (List ℕ))
    (c d : Count) : Type 0 where
  pub may : MayTake p key i (left - 1)
  pub goes_on : (new : Option (List ℕ)) (e : Count) → WalksUnder p (key ++ i ∷ []) most longest now new d (Ok e) →
      HasWalkedTo p key (i + 1) most longest old new c e
  pub breaks : (new : Option (List ℕ)) (x : WorkStop) →
      WalksUnder p (key ++ i ∷ []) most longest now new d (Err x) →
      WalksUnder p key most longest old new c (Err x)

module _ (p : Polyhedron) where
  abbrev s : Meaning
  s = by_subsets p

  abbrev Shows : List ℕ → Vector → Type 0
  Shows = IsShownAtList p

  -- ---- answers
  not_overflow : (d : Count) (x : WorkStop) → IsErrOf {T = Count} {E = WorkStop} (Ok d) x → ⊥
  not_overflow d x e = cc

  pub walks_ok : (key : List ℕ) (most longest : ℕ) (old new : Option (List ℕ)) (c d : Count) →
      HasWalked p key most longest (key ∷ []) old new c d → WalksUnder p key most longest old new c (Ok d)
  walks_ok key most longest old new c d w = record {
    whole = w;
    torn = tt;
    cut = λ o e. absurd (not_overflow d (WorkStop.Overflow o) e);
  }

  -- no overflow
  abbrev IsFault : WorkStop → Type 0
  IsFault x = (o : Overflow) → IsErrOf {T = Count} {E = WorkStop} (Err x) (WorkStop.Overflow o) → ⊥

  pub is_fault : IsFault WorkStop.WriteFault
  is_fault o e = cc

  pub walks_fault : (key : List ℕ) (most longest : ℕ) (old new : Option (List ℕ)) (c : Count) (x : WorkStop) → IsFault x →
      IsTornRun s key old new → WalksUnder p key most longest old new c (Err x)
  walks_fault key most longest old new c x n t = record { whole = tt; torn = t; cut = λ o e. absurd (n o e) }

  one_overflow : (o u : Overflow) → IsErrOf {T = Count} {E = WorkStop} (Err (WorkStop.Overflow o)) (WorkStop.Overflow u) → o ≡ u
  one_overflow o u e = cc

  pub walks_past : (key : List ℕ) (most longest : ℕ) (old new : Option (List ℕ)) (c : Count) (o : Overflow) →
      PassesInCone p o → IsCutRun s key old new → WalksUnder p key most longest old new c (Err (WorkStop.Overflow o))
  walks_past key most longest old new c o h r = record {
    whole = tt;
    torn = cut_is_torn s key old new r;
    cut = λ u e. (subst (PassesInCone p) (one_overflow o u e) h, r);
  }

  under_key : (key : List ℕ) → IsSubsetKey p key → IsKeyBelow s key key
  under_key key is = (is, under_itself s (has_shares p) key)

  -- ---- a key that is given back
  pub given_back : (key : List ℕ) (at : Progress) (old new : Option (List ℕ)) (result : Result Count WorkStop) →
      IsSubsetKey p key → (len : ℕ) → length key ≡ len → (at.most ≤ at.count.bases) ⊎ (at.longest ≤ len) →
      (IsKey key → GivesBack key at.count old new result) → ((o : Overflow) → IsErrOf result (WorkStop.Overflow o) → ⊥) →
      WalksUnder p key at.most at.longest old new at.count result
  given_back key at old new (Ok d) is len same stops given none =
      let g = given is.ascending in
      walks_ok key at.most at.longest old new at.count d
      (walked_give p key at.most at.longest old new at.count d is (writes_given old new key g.whole is.ascending)
      g.rows g.jobs g.bases
      (⊎_elim (λ (m : at.most ≤ at.count.bases). inl m) (λ (m : at.longest ≤ len). inr (omega (arith, m, same))) stops))
  given_back key at old new (Err x) is len same stops given none =
      walks_fault key at.most at.longest old new at.count x none
      (torn_job s key is (under_itself (by_subsets p) (has_shares p) key) old new
      (part_given old new key (given is.ascending).part is.ascending))

  -- ---- a list that is visited
  module _ (key : List ℕ) (most longest : ℕ) (old : Option (List ℕ)) (c : Count) (few : c.bases < most)
      (near : length key < longest) where
    -- it has no children, and shows nothing
    pub visited_alone : HasRoom p key 0 → ListsAll (Shows key) [] → (d : Count) → IsOneBase c d →
        WalksUnder p key most longest old old c (Ok d)
    visited_alone room none d h =
        walks_ok key most longest old old c d
        (walked_visit p key most longest old old c d d [] h few near (no_children p key room) none
        (walked_none p key most longest old d))

    -- all its children were met
    pub ended : (new : Option (List ℕ)) (i : ℕ) (d : Count) → ListsAll (Shows key) [] → length (cone_of p).rows < i →
        HasWalkedTo p key i most longest old new c d → WalksUnder p key most longest old new c (Ok d)
    ended new i d none behind w =
        walks_ok key most longest old new c d
        (walked_visit p key most longest old new c w.base d w.children w.visits few near
        (children_all p key i w.children w.are behind) none w.walked)

  -- ---- a list that is full
  module _ (sys : System) (free : List ℕ) (d : Dictionary) (i : ℕ) (key : List ℕ) (live : IsLive sys free d i 0 p key)
      (room : HasRoom p key 0) (most longest : ℕ) where
    pub leaf_none : (old : Option (List ℕ)) (c e : Count) → c.bases < most → length key < longest → IsOneBase c e →
        Lists (IsCornerUnder live.cone live.marks) [] → WalksUnder p key most longest old old c (Ok e)
    leaf_none old c e few near h l =
        visited_alone key most longest old c few near room (shown_none sys free d i 0 p key live refl l) e h

    module _ (v : Vector) (l : Lists (IsCornerUnder live.cone live.marks) (v ∷ [])) where
      shown_here : ListsAll (Shows key) (v ∷ [])
      shown_here = shown_one sys free d i 0 p key live refl v l

      row_in : InSubset p key v
      row_in =
          ((shows_at p room.narrow).share key v room.is_key).1
          (key, under_key key room.is_key, shown_here.only v (Contains-first v []))

      pub leaf_one : (old new : Option (List ℕ)) (c e : Count) → c.bases < most → length key < longest →
          e.rows ≡ c.rows + 1 → e.jobs ≡ c.jobs → e.bases ≡ c.bases + 1 → WritesLines old new (row_line v ∷ []) →
          WalksUnder p key most longest old new c (Ok e)
      leaf_one old new c e few near r j b a =
          walks_ok key most longest old new c e
          (walked_show p key most longest v old new c e few near (no_children p key room) shown_here a row_in r j b)

      pub leaf_part : (old new : Option (List ℕ)) (c : Count) → WritesPartOfLines old new (row_line v ∷ []) →
          WalksUnder p key most longest old new c (Err WorkStop.WriteFault)
      leaf_part old new c a =
          walks_fault key most longest old new c WorkStop.WriteFault is_fault (torn_row s key v row_in old new a)

  -- ---- the loop
  module _ (key : List ℕ) (left from : ℕ) (room : HasRoom p key left) (next : IsNext key from) (most longest : ℕ) where
    pub begin_at : (old : Option (List ℕ)) (c d : Count) → IsOneBase c d → HasWalkedTo p key from most longest old old c d
    begin_at old c d h = record {
      base = d;
      visits = h;
      children = [];
      are = children_none p key from next;
      walked = walked_none p key most longest old d;
    }

    module _ (i : ℕ) (old now : Option (List ℕ)) (c d : Count) (w : HasWalkedTo p key i most longest old now c d) where
      pub passed : (row_of (cone_of p).rows i).linear ≡ true → HasWalkedTo p key (i + 1) most longest old now c d
      passed e = record {
        base = w.base;
        visits = w.visits;
        children = w.children;
        are = children_past p key i w.children w.are
            (λ m. let h = (plain_label p i m).2 in absurd (let bad : true ≡ false = sym e ∙ h in cc));
        walked = w.walked;
      }

      -- ---- the list with row i
      module _ (few : length key + left ≤ most_labels) (more : 0 < left) (at : from ≤ i) (within : i ≤ length (cone_of p).rows)
          (plain : (row_of (cone_of p).rows i).linear ≡ false) where
        abbrev child : List ℕ
        child = key ++ i ∷ []

        some_label : 0 < i
        some_label = let a = next.some in omega (arith, a, at)

        room_there : HasRoom p child (left - 1)
        room_there = child_room p key left i from few more room next at (is_plain p i some_label within plain)

        -- what is under it is added
        joined : (new : Option (List ℕ)) (e : Count) → HasWalked p child most longest (child ∷ []) now new d e →
            HasWalkedTo p key (i + 1) most longest old new c e
        joined new e v = record {
          base = w.base;
          visits = w.visits;
          children = w.children ++ child ∷ [];
          are = children_with p key i w.children w.are room_there.is_key;
          walked = walked_then p key most longest w.children (child ∷ []) old now new w.base d e w.walked
              (walked_above p child key room_there.is_key (child_under p key i) most longest (child ∷ []) now new
              d e v);
        }

        here : IsCutRun s key old now
        here = walked_cut p key most longest w.children old now w.base d w.walked

        breaks : (new : Option (List ℕ)) (x : WorkStop) → WalksUnder p child most longest now new d (Err x) →
            WalksUnder p key most longest old new c (Err x)
        breaks new x v = record {
          whole = tt;
          torn = torn_then s key old now new here
              (torn_above s (has_shares p) child key room_there.is_key (child_under p key i) now new v.torn);
          cut = λ o e. let r = v.cut o e in (
            r.0,
            cut_then s key old now new here
                (cut_above s (has_shares p) child key room_there.is_key (child_under p key i) now new r.1),
          );
        }

        pub next_step : NextStep p key left most longest i old now c d
        next_step = record {
          may = record { room = room_there; next = child_next p key i from next at };
          goes_on = λ new e v. joined new e v.whole;
          breaks = breaks;
        }

-- ---- a list under one, by the row that it has more
pub walks_to_child : (p : Polyhedron) (key below : List ℕ) (i left most longest : ℕ) (old new : Option (List ℕ)) (c : Count)
    (result : Result Count WorkStop) → below ≡ key ++ i ∷ [] → MayTake p key i left →
    (HasRoom p below left → IsNext below (i + 1) → WalksUnder p below most longest old new c result) →
    WalksUnder p (key ++ i ∷ []) most longest old new c result
walks_to_child p key below i left most longest old new c result there may h =
    subst (λ ks. WalksUnder p ks most longest old new c result) there
    (h (subst (λ ks. HasRoom p ks left) (sym there) may.room) (subst (λ ks. IsNext ks (i + 1)) (sym there) may.next))

-- ---- nothing is shown at a dead list
pub dead_none : (p : Polyhedron) (key : List ℕ) (left : ℕ) → HasRoom p key left → IsDead p key →
    ListsAll (IsShownAtList p key) []
dead_none p key left room dead =
    dead_shows_none p key left room dead (room.is_key, under_itself (by_subsets p) (has_shares p) key)

-- a list under a dead one is dead
pub dead_under : (p : Polyhedron) (key : List ℕ) (i : ℕ) → IsDead p key → IsDead p (key ++ i ∷ [])
dead_under p key i dead one u y h =
    dead one (u.0, (has_shares p).through one (key ++ i ∷ []) key u.0 u.1 (child_under p key i)) y h

-- and so the walk under it is
pub dead_child_walks : (p : Polyhedron) (key below : List ℕ) (i left most longest : ℕ) (old new : Option (List ℕ)) (c : Count)
    (result : Result Count WorkStop) → below ≡ key ++ i ∷ [] → MayTake p key i left → IsDead p key →
    (HasRoom p below left → IsNext below (i + 1) → IsDead p below → WalksUnder p below most longest old new c result) →
    WalksUnder p (key ++ i ∷ []) most longest old new c result
dead_child_walks p key below i left most longest old new c result there may dead h =
    walks_to_child p key below i left most longest old new c result there may
    (λ room next. h room next (subst (IsDead p) (sym there) (dead_under p key i dead)))

-- ---- the row in the loop
pub plain_here : (p : Polyhedron) (sys : System) (i : ℕ) (b : Bool) → sys ≡ cone_of p → b ≡ (row_of sys.rows i).linear → b ≡ false →
    (row_of (cone_of p).rows i).linear ≡ false
plain_here p sys i b e f n = ap (λ (t : System). (row_of t.rows i).linear) (sym e) ∙ sym f ∙ n

pub linear_here : (p : Polyhedron) (sys : System) (i : ℕ) (b : Bool) → sys ≡ cone_of p → b ≡ (row_of sys.rows i).linear → b ≡ true →
    (row_of (cone_of p).rows i).linear ≡ true
linear_here p sys i b e f n = ap (λ (t : System). (row_of t.rows i).linear) (sym e) ∙ sym f ∙ n

pub rows_here : (p : Polyhedron) (sys : System) → sys ≡ cone_of p → length (cone_of p).rows ≡ length sys.rows
rows_here p sys e = ap (λ (t : System). length t.rows) (sym e)

pub step_here : (p : Polyhedron) (sys : System) → sys ≡ cone_of p → (key : List ℕ) (left from : ℕ) → HasRoom p key left →
    IsNext key from → (most longest i : ℕ) (old now : Option (List ℕ)) (c d : Count) →
    HasWalkedTo p key i most longest old now c d → length key + left ≤ most_labels → 0 < left → from ≤ i →
    i ≤ length sys.rows → (b : Bool) → b ≡ (row_of sys.rows i).linear → b ≡ false →
    NextStep p key left most longest i old now c d
step_here p sys file key left from room next most longest i old now c d w few more at within b e plain =
    next_step p key left from room next most longest i old now c d w few more at
    (omega (arith, within, rows_here p sys file)) (plain_here p sys i b file e plain)

-- the same walk, where the sink and the count are told anew
pub walked_at : {O : Type 0} (written : O → Option (List ℕ)) (p : Polyhedron) (key : List ℕ) (i most longest : ℕ)
    (old : Option (List ℕ)) (c : Count) {o out : O} {d count : Count} → out ≡ o → count ≡ d →
    HasWalkedTo p key i most longest old (written o) c d → HasWalkedTo p key i most longest old (written out) c count
walked_at written p key i most longest old c {o} {out} {d} {count} f g w =
    subst (λ (n : Count). HasWalkedTo p key i most longest old (written out) c n) (sym g)
    (subst (λ t. HasWalkedTo p key i most longest old (written t) c d) (sym f) w)

-- a dead list that is full
pub dead_alone : (p : Polyhedron) (key : List ℕ) (left : ℕ) → HasRoom p key left → left ≡ 0 → IsDead p key → (most longest : ℕ)
    (old : Option (List ℕ)) (c d : Count) → c.bases < most → length key < longest → IsOneBase c d →
    WalksUnder p key most longest old old c (Ok d)
dead_alone p key left room none dead most longest old c d few near h =
    visited_alone p key most longest old c few near (subst (λ n. HasRoom p key n) none room)
    (dead_none p key left room dead) d h

-- the room for a walk, where its parts are told anew
pub room_is : (sys : System) (d : Dictionary) {deeper ds : List Dictionary} {vector v : Vector} → ds ≡ deeper → v ≡ vector →
    HasRoomFor sys d deeper vector → HasRoomFor sys d ds v
room_is sys d {deeper} {ds} {vector} {v} f g r =
    subst (λ (xs : List Dictionary). HasRoomFor sys d xs v) (sym f) (subst (λ (w : Vector). HasRoomFor sys d deeper w) (sym g) r)
