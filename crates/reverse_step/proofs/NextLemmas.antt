-- What one step of the walk does to what waits.
use Rattle.std.proofs.Common.{◌≡◌, ◌≢◌, ◌⊎◌, inl, inr, ⊎_elim, ℕ, zero, suc, ◌+◌, ◌≤◌, ◌<◌, ◌-◌, List, [], ◌∷◌, length, take, drop, get_or, refl, sym, ap, subst, ◌∙◌, arith, add-one, Option, Some, None}
use Rattle.poly_model.specs.LexOrder.{rows_in}
use Rattle.poly_model.specs.Spaces.{Space}
use Rattle.poly_model.specs.Dictionaries.{Table}
use Rattle.poly_model.specs.Tree.{IsUnder, IsParent, MayEnter}
use Rattle.linear_laws.specs.Distinct.{AreDistinct}
use Rattle.linear_laws.proofs.Members.{less_or_equal}
use Rattle.dictionary_laws.specs.Keys.{place_in}
use Rattle.dictionary_laws.proofs.KeyExchange.{ascending_distinct}
use Rattle.dictionary.specs.Views.{Dictionary, table_of, IsPivot}
use Rattle.dictionary.proofs.PlaceLemmas.{place_at}
use Rattle.tree_laws.proofs.AnyTable.{parent_too}
use Rattle.tree_laws.proofs.Parents.{one_parent}
use Rattle.search_laws.specs.Shares.{IsChild}
use Rattle.search_laws.proofs.ChildrenAt.{one_child, one_column}
use Rattle.search_laws.proofs.Depths.{not_under_child}
use Rattle.search_laws.proofs.OnceLists.{one_key_or_not}
use Rattle.search_laws.proofs.ShareParts.{under_twice, child_under, under_itself}
use Rattle.lex_pivot.specs.Above.{NoneEnters, LeadsToParent}
use Rattle.reverse_step.specs.declared.children.ChildPivot.{ChildPivot}
use Rattle.reverse_step.specs.declared.walker.Visit.{Visit}
use Rattle.reverse_step.specs.declared.walker.Visit.TheVariants.{New, Back, End}
use Rattle.reverse_step.specs.Waiting.{AreAlong, Wait}
use Rattle.reverse_step.specs.Walks.{Parent, Walk, Stands, AreParentsKept, IsWalkIn, Waits}
use Rattle.search_laws.specs.Shares.{IsChildAt}
use Rattle.reverse_step.specs.Children.{LeadsToChild, NoneBetween, IsFirstChild}
use Rattle.reverse_step.specs.Moves.{moved_to, parents_below, Moves, IsMovedDown, IsMovedUp, IsBackAtParent, IsAtChild, GoesUp, IsVisit}
use Rattle.reverse_step.proofs.Along.{some_along, lists_children}
use Rattle.reverse_step.proofs.StepLemmas.{new_stands, child_here, parent_here}
use Rattle.reverse_step.proofs.WaitLemmas.{wait_skip, wait_child, wait_end, wait_parent, WaitsAtChild, WaitsAtParent}

rows_once : (space : Space) (home : Table) (root : List ℕ) (d : Dictionary) → Stands space home root d →
    AreDistinct (rows_in space.labels)
rows_once space home root d st = ascending_distinct (rows_in space.labels) st.ascending

module _ (space : Space) (home : Table) (root job : List ℕ) (d : Dictionary) (st : Stands space home root d) where
  abbrev WaitsHere : ℕ → ℕ → List (List ℕ) → Type 0
  WaitsHere depth at ws = Wait (IsChildAt space root) job depth d.key at ws

  -- the columns from `at` to `at + n` have no child
  pub skip_to : (depth n at : ℕ) (ws : List (List ℕ)) → at + n ≤ length d.key → NoneBetween root d at (at + n) →
      WaitsHere depth at ws → WaitsHere depth (at + n) ws
  skip_to depth zero at ws l m w = let e : at ≡ at + zero = omega arith in subst (λ i. WaitsHere depth i ws) e w
  skip_to depth (suc n) at ws l m w =
      let e : suc at + n ≡ at + suc n = omega arith in
      subst (λ i. WaitsHere depth i ws) e
      (skip_to depth n (suc at) ws (omega arith) (λ j a b. m j (omega arith) (omega arith))
      (wait_skip (IsChildAt space root) job depth d.key at ws (omega arith)
      (λ child x. m at (omega arith) (omega arith) space home st child x) w))

  pub under_job : (depth at : ℕ) (key : List ℕ) (ws : List (List ℕ)) → Wait (IsChildAt space root) job depth key at ws →
      IsUnder space root key job
  under_job zero at key ws (e, a) = subst (λ k. IsUnder space root key k) e (under_itself space root key)
  under_job (suc depth) at key ws (m, cs, parent, s, rest, a, c, w, e) =
      under_twice space root key parent job (child_under space root parent key c.child)
      (under_job depth (suc (place_in parent s)) parent rest w)

-- some of what is kept, from the parent on
some_kept : (space : Space) (home : Table) (root : List ℕ) (d : Dictionary) (ps : List Parent) (n : ℕ) →
    AreParentsKept space home root d ps → AreParentsKept space home root d (take n ps)
some_kept space home root d [] zero k = tt
some_kept space home root d [] (suc n) k = tt
some_kept space home root d (p ∷ ps) zero k = tt
some_kept space home root d (p ∷ ps) (suc n) (a, c, k) = (a, c, some_kept space home root p.dict ps n k)

-- ---- New: at the first child
module _ (old : Walk) (d : Dictionary) (p : ChildPivot) (f : IsFirstChild old.root old.dict old.at p)
    (pivot : IsPivot old.dict p.row p.col d) (kept : ℕ) where
  abbrev new : Walk
  new = moved_to old d 0 (parents_below old p.col kept)

  module _ (space : Space) (home : Table) (st : Stands space home old.root old.dict) where
    stands : Stands space home old.root d
    stands = new_stands old.dict d old.root p.col p.row f.leads.column f.leads.leaves pivot space home st

    child : IsChildAt space old.root old.dict.key p.col d.key
    child = child_here old.dict d old.root p.col p.row f.leads.column f.leads.leaves pivot space home st f.leads

    move : (depth : ℕ) (ws : List (List ℕ)) → Waits space old depth ws → Moves space new depth ws New
    move depth ws w =
        record {
          rest = x.rest;
          first = x.first;
          cs = cs.0;
          along = cs.1;
          children = lists_children space old.root home st.feasible_root (rows_once space home old.root old.dict st) d.key
              (table_of d) stands.feasible cs.0 cs.1;
          waits = x.waits;
          passed = x.passed;
        }
      where
        key : List ℕ
        key = old.dict.key

        cs : (cs : List (List ℕ)) × AreAlong (IsChildAt space old.root) d.key d.key cs
        cs = some_along space old.root home st.feasible_root (rows_once space home old.root old.dict st) d.key (table_of d)
            stands.feasible d.key (λ q m. m)

        there : Wait (IsChildAt space old.root) old.job depth old.dict.key p.place ws
        there = by (between old.at p.place f.from)
          where
            between : (a b : ℕ) → a ≤ b → (n : ℕ) × (a + n ≡ b)
            between a b l = (b - a, omega arith)

            by : (n : ℕ) × (old.at + n ≡ p.place) → Wait (IsChildAt space old.root) old.job depth old.dict.key p.place ws
            by (n, e) =
                let lt = f.within in
                subst (λ i. Wait (IsChildAt space old.root) old.job depth old.dict.key i ws) e
                (skip_to space home old.root old.job old.dict st depth n old.at ws (omega (arith, lt, e))
                (subst (λ i. NoneBetween old.root old.dict old.at i) (sym e) f.before) w)

        other : d.key ≢ old.job
        other e =
            not_under_child space old.root home st.feasible_root (rows_once space home old.root old.dict st) old.dict.key
            d.key child.child
            (subst (λ k. IsUnder space old.root old.dict.key k) (sym e)
            (under_job space home old.root old.job old.dict st depth p.place old.dict.key ws there))

        at_place : IsChildAt space old.root old.dict.key (get_or old.dict.key p.place 0) d.key
        at_place = subst (λ s. IsChildAt space old.root old.dict.key s d.key) f.column child

        x : WaitsAtChild (IsChildAt space old.root) old.job depth d.key ws cs.0
        x = wait_child (IsChildAt space old.root) old.job depth old.dict.key p.place ws d.key cs.0 f.within
            (place_at old.dict.key p.place 0 (ascending_distinct old.dict.key st.feasible.dictionary.ascending) f.within)
            at_place
            (λ one y. one_child space old.root home st.feasible_root (rows_once space home old.root old.dict st)
            old.dict.key (table_of old.dict) st.feasible (get_or old.dict.key p.place 0) one d.key y at_place) other cs.1
            there

  pub step_new : IsVisit old New new
  step_new = record {
    root = refl;
    job = refl;
    phase = pivot.phase;
    walk = λ space home w. record {
      stands = stands space home w.stands;
      kept = (
        w.stands,
        child space home w.stands,
        some_kept space home old.root old.dict old.parents kept w.kept,
      );
    };
    moves = λ space home w. move space home w.stands;
  }

-- ---- all columns are tried
module _ (old : Walk) (none : NoneBetween old.root old.dict old.at (length old.dict.key)) where
  module _ (space : Space) (home : Table) (st : Stands space home old.root old.dict) where
    at_end : (depth : ℕ) (ws : List (List ℕ)) → Waits space old depth ws →
        (at : ℕ) × (length old.dict.key ≤ at) × Wait (IsChildAt space old.root) old.job depth old.dict.key at ws
    at_end depth ws w = by (before_or_past old.at (length old.dict.key))
      where
        before_or_past : (a b : ℕ) → (b ≤ a) ⊎ ((n : ℕ) × (a + n ≡ b))
        before_or_past a b =
            ⊎_elim
            (λ (l : a < b). inr (b - a, omega arith))
            (λ (h : (b < a) ⊎ (a ≡ b)). inl (⊎_elim (λ (l : b < a). omega arith) (λ (e : a ≡ b). omega arith) h))
            (less_or_equal a b)

        by : (length old.dict.key ≤ old.at) ⊎ ((n : ℕ) × (old.at + n ≡ length old.dict.key)) →
            (at : ℕ) × (length old.dict.key ≤ at) × Wait (IsChildAt space old.root) old.job depth old.dict.key at ws
        by (inl l) = (old.at, l, w)
        by (inr (n, e)) = (
          old.at + n,
          omega (arith, e),
          skip_to space home old.root old.job old.dict st depth n old.at ws (omega (arith, e))
              (subst (λ i. NoneBetween old.root old.dict old.at i) (sym e) none) w,
        )

    parent_of : (depth : ℕ) (ws : List (List ℕ)) → Waits space old (suc depth) ws →
        WaitsAtParent (IsChildAt space old.root) old.job depth old.dict.key ws
    parent_of depth ws w =
        let h = at_end (suc depth) ws w in
        wait_parent (IsChildAt space old.root) old.job depth old.dict.key h.0 ws h.1 h.2

  -- End: at the job's root
  pub step_end : old.dict.key ≡ old.job → IsVisit old End old
  step_end e = record {
    root = refl;
    job = refl;
    phase = refl;
    walk = λ space home w. w;
    moves = λ space home w. move space home w.stands;
  }
    where
      move : (space : Space) (home : Table) → Stands space home old.root old.dict → (depth : ℕ) (ws : List (List ℕ)) →
          Waits space old depth ws → Moves space old depth ws End
      move space home st zero ws w =
          let h = at_end space home st zero ws w in
          (wait_end (IsChildAt space old.root) old.job old.dict.key h.0 ws h.1 h.2, refl)
      move space home st (suc depth) ws w = absurd ((parent_of space home st depth ws w).other e)

  -- elsewhere there is a parent
  pub step_none : old.dict.key ≢ old.job → NoneEnters old.dict old.root → IsVisit old End old
  step_none n none_enters = record {
    root = refl;
    job = refl;
    phase = refl;
    walk = λ space home w. w;
    moves = λ space home w. move space home w.stands;
  }
    where
      no_parent : (space : Space) (home : Table) → Stands space home old.root old.dict → (key : List ℕ) →
          IsParent space.labels old.root old.dict.key (table_of old.dict) key → ⊥
      no_parent space home st key p =
          none_enters p.s p.enters.column
          (subst (λ ls. MayEnter ls old.root (table_of old.dict) p.s) (sym st.dictionary.labels) p.enters.may)

      move : (space : Space) (home : Table) → Stands space home old.root old.dict → (depth : ℕ) (ws : List (List ℕ)) →
          Waits space old depth ws → Moves space old depth ws End
      move space home st zero ws w = absurd (n w.0)
      move space home st (suc depth) ws w =
          let p = parent_of space home st depth ws w in
          let c = p.child.child in
          absurd (no_parent space home st p.parent
          (parent_too space old.root old.dict.key c.0 (table_of old.dict) c.1.dictionary st.feasible.dictionary p.parent c.2))

  -- Back: at the parent
  module _ (n : old.dict.key ≢ old.job) (new : Walk) (s : ℕ) (m : IsMovedUp old s new) where
    abbrev d : Dictionary
    d = new.dict

    back_at : (space : Space) (home : Table) → IsWalkIn space home old → (depth : ℕ) (ws : List (List ℕ)) →
        Waits space old depth ws → Moves space new depth ws Back
    back_at space home x zero ws w = absurd (n w.0)
    back_at space home x (suc depth) ws w = (
      depth,
      refl,
      subst (λ (v : Walk). Waits space v depth ws) (sym m.same)
          (subst (λ k. Wait (IsChildAt space old.root) old.job depth d.key k ws) (sym (add-one (place_in d.key s)))
          (subst (λ q. Wait (IsChildAt space old.root) old.job depth d.key (suc (place_in d.key q)) ws) same_column
          (subst (λ k. Wait (IsChildAt space old.root) old.job depth k (suc (place_in k p.column)) ws) same_parent
          p.waits))),
    )
      where
        st : Stands space home old.root old.dict
        st = x.stands

        p : WaitsAtParent (IsChildAt space old.root) old.job depth old.dict.key ws
        p = parent_of space home st depth ws w

        c : IsChildAt space old.root d.key s old.dict.key
        c = (m.parent space home x).1

        root : new.root ≡ old.root
        root = ap (λ (v : Walk). v.root) m.same

        there : Stands space home old.root d
        there = subst (λ r. Stands space home r d) root (m.parent space home x).0.stands

        once : AreDistinct (rows_in space.labels)
        once = rows_once space home old.root old.dict st

        same_parent : p.parent ≡ d.key
        same_parent = by p.child.child c.child
          where
            by : IsChild space old.root p.parent old.dict.key → IsChild space old.root d.key old.dict.key → p.parent ≡ d.key
            by (a, f, x) (b, g, y) =
                one_parent space old.root old.dict.key p.parent d.key home a b once st.feasible_root.dictionary f.dictionary
                g.dictionary x y

        same_column : p.column ≡ s
        same_column =
            one_column space old.root home st.feasible_root once d.key (table_of d) there.feasible p.column s
            old.dict.key (subst (λ k. IsChildAt space old.root k p.column old.dict.key) same_parent p.child) c

    pub step_back : IsVisit old Back new
    step_back = record {
      root = ap (λ (v : Walk). v.root) m.same;
      job = ap (λ (v : Walk). v.job) m.same;
      phase = m.phase;
      walk = λ space home x. (m.parent space home x).0;
      moves = back_at;
    }

-- the first that is kept is the parent
pub up_kept : (old new : Walk) (s : ℕ) → IsBackAtParent old s new → IsMovedUp old s new
up_kept old new s h = record {
  same = h.same ∙ ap (λ ps. moved_to old new.dict (place_in new.dict.key s + 1) (drop 1 ps)) (sym h.parents);
  phase = h.phase;
  parent = λ space home x.
      let k : AreParentsKept space home old.root old.dict (record { dict = new.dict; column = s } ∷ new.parents) =
      subst (AreParentsKept space home old.root old.dict) h.parents x.kept in
      (subst (IsWalkIn space home) (sym h.same) (record { stands = k.0; kept = k.2 }), k.1);
}

-- a pivot leads to the parent, where none is kept
pub up_pivot : (old : Walk) (d : Dictionary) (s r : ℕ) → old.parents ≡ [] → LeadsToParent old.dict old.root s r →
    IsPivot old.dict r s d → IsMovedUp old r (moved_to old d (place_in d.key r + 1) [])
up_pivot old d s r e h p = record {
  same = ap (λ ps. moved_to old d (place_in d.key r + 1) (drop 1 ps)) (sym e);
  phase = p.phase;
  parent = λ space home x. (
    record { stands = new_stands old.dict d old.root s r h.column h.leaves p space home x.stands; kept = tt },
    parent_here old.dict d old.root s r h.column h.leaves p space home x.stands h,
  );
}

-- ---- by what a walk has moved
-- down
pub down_of : (old new : Walk) (s r : ℕ) → LeadsToChild old.root old.dict s r → IsMovedDown old r s new → IsAtChild old s new
down_of old new s r h m = record {
  kept = m.kept;
  same = m.same;
  phase = m.pivot.phase;
  child = λ space home w.
      let st = new_stands old.dict new.dict old.root s r h.column h.leaves m.pivot space home w.stands in
      let c = child_here old.dict new.dict old.root s r h.column h.leaves m.pivot space home w.stands h in (
        subst (IsWalkIn space home) (sym m.same) (record {
          stands = st;
          kept = (w.stands, c, some_kept space home old.root old.dict old.parents m.kept w.kept);
        }),
        c,
      );
}

pub visit_new : (old new : Walk) (p : ChildPivot) → IsFirstChild old.root old.dict old.at p →
    IsMovedDown old p.row p.col new → IsVisit old New new
visit_new old new p f m = subst (IsVisit old New) (sym m.same) (step_new old new.dict p f m.pivot m.kept)

-- a key is one or another
end_or_none : (old : Walk) → NoneBetween old.root old.dict old.at (length old.dict.key) → NoneEnters old.dict old.root →
    IsVisit old End old
end_or_none old none n = by (one_key_or_not old.dict.key old.job)
  where
    by : (old.dict.key ≡ old.job) ⊎ (old.dict.key ≢ old.job) → IsVisit old End old
    by (inl e) = step_end old none e
    by (inr o) = step_none old none o n

-- what a step up is
abbrev pub visit_of : Option ℕ → Visit
visit_of None = End
visit_of (Some s) = Back

-- up
pub visit_up : (old new : Walk) (o : Option ℕ) → NoneBetween old.root old.dict old.at (length old.dict.key) →
    GoesUp old o new → IsVisit old (visit_of o) new
visit_up old next None none (e, at) =
    subst (IsVisit old End) (sym e)
    (by_end at)
  where
    by_end : (old.dict.key ≡ old.job) ⊎ NoneEnters old.dict old.root → IsVisit old End old
    by_end (inl k) = step_end old none k
    by_end (inr n) = end_or_none old none n
visit_up old next (Some s) none (below, m) = step_back old none below next s m
