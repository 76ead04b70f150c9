-- Where a walk of the work begins: at the root, from the start cobasis; and at a key, from where it stands. Or it begins
-- nowhere, since that is none.
use Rattle.std.proofs.Common.{◌≡◌, ◌↔◌, ℕ, ◌<◌, Bool, true, false, true≢false, List, length, Ok, Err, refl, sym, subst, ◌∙◌}
use Rattle.std.specs.Prelude.{Result, IfOk, IfErr}
use Rattle.poly_num.specs.Vectors.{Vector}
use Rattle.poly_model.specs.declared.overflow.Overflow.{Overflow}
use Rattle.poly_model.specs.Due.{IsDue, IsAskedOnTheWay}
use Rattle.poly_model.specs.Equations.{AreConsistent}
use Rattle.poly_model.specs.Labels.{coordinates_from}
use Rattle.poly_model.specs.Spaces.{Space, main_space}
use Rattle.poly_model.specs.Subtrees.{IsSubtreeRoot, IsSubtreeKey}
use Rattle.poly_model.specs.Systems.{System, Polyhedron, cone_of}
use Rattle.poly_model.specs.Tree.{IsFeasibleRoot, IsLexFeasible}
use Rattle.tree_laws.proofs.AscendingRows.{main_rows_ascend}
use Rattle.tree_laws.proofs.OneList.{same_columns}
use Rattle.tree_laws.proofs.PointTest.{constants_are_not_negative}
use Rattle.tree_laws.proofs.Roots.{root_is_feasible}
use Rattle.dictionary.specs.Views.{Dictionary, table_of}
use Rattle.linearity.specs.Prepared.{IsPrepared}
use Rattle.reverse_step.specs.Walks.{Walk, AreParentsKept, Stands}
use Rattle.reverse_step.specs.Ways.{StopsOnTheWay, IsNoFeasibleKey}
use Rattle.reverse_step.specs.Starts.{unparented, IsAtKey, Starts}
use Rattle.reverse_step.proofs.DueLemmas.{due_on_the_way}
use Rattle.reverse_step.proofs.StartLemmas.{still_a_walk}
use Rattle.reverse_step.proofs.WayLemmas.{reached_dictionary, reached_feasible}
use Rattle.convert_core.specs.declared.rays.Rays.{Rays}
use Rattle.convert_core.specs.Rays.{AreShown}
use Rattle.convert_core.specs.Searches.{IsSearch}
use Rattle.convert_core.proofs.Beginnings.{walk_at}
use Rattle.convert_core.proofs.LinearRows.{points_are_consistent}
use Rattle.convert_core.proofs.Searching.{elsewhere}
use Rattle.subtree_work.specs.Made.{IsDueOnWayToRoot}

-- ---- from the start cobasis
module _ (p : Polyhedron) (lines : List Vector) (free : List ℕ) (d : Dictionary) (x : IsPrepared p lines free d)
    (root : List ℕ) where
  abbrev space : Space
  space = main_space p free

  -- there is no such root
  pub no_root : IsNoFeasibleKey root d root → IsSubtreeRoot p root → ⊥
  no_root n r =
      let feasible = subst (λ f. IsFeasibleRoot (main_space p f) root r.home)
      (same_columns p free r.free x.columns r.columns) r.feasible in
      n space x.points x.dictionary (r.home, root_is_feasible space root r.home feasible)

  pub due_to_root : (o : Overflow) → StopsOnTheWay d root o → IsDueOnWayToRoot p root o
  due_to_root o s = record {
    free = free;
    columns = x.columns;
    start = d.key;
    is_start = x.start;
    due = due_on_the_way p free x.columns d root x.phase x.points x.dictionary o s;
  }

  module _ (new : Walk) (h : IsAtKey (walk_at d root) root new) where
    feasible : IsLexFeasible space root new.dict.key (table_of new.dict)
    feasible = reached_feasible space root d new.dict root h.reached x.points x.dictionary

    home : IsFeasibleRoot space root (table_of new.dict)
    home = subst (λ k. IsFeasibleRoot space k (table_of new.dict)) h.reached.there
        (constants_are_not_negative space root new.dict.key (table_of new.dict) feasible)

    stands : Stands space (table_of new.dict) root new.dict
    stands = record {
      ascending = (main_rows_ascend p free).ascending;
      feasible_root = home;
      dictionary = reached_dictionary space root d new.dict root h.reached x.points x.dictionary;
      feasible = feasible;
    }

    pub at_root : (sys : System) (rays : Rays) (vector : Vector) → sys ≡ cone_of p → AreShown sys rays →
        length vector ≡ p.n → IsSearch p sys rays new vector
    at_root sys rays vector same are width = record {
      is_cone = same;
      are_shown = are;
      few = x.few;
      narrow = x.narrow;
      width = width;
      free = free;
      columns = x.columns;
      home = table_of new.dict;
      walk_in = record {
        stands = subst (λ r. Stands space (table_of new.dict) r new.dict) (sym h.root) stands;
        kept = subst (AreParentsKept space (table_of new.dict) new.root new.dict) (sym h.parents) tt;
      };
      phase = h.phase ∙ x.phase;
    }

-- a root is one of rows in a space with a point
pub root_is_consistent : (p : Polyhedron) (root : List ℕ) → length (cone_of p).rows < coordinates_from →
    IsSubtreeRoot p root → AreConsistent p
root_is_consistent p root few r = points_are_consistent p r.free few r.feasible.dictionary.points

-- ---- from where a walk stands
-- it stands at a key
pub stands_at_key : (p : Polyhedron) (sys : System) (rays : Rays) (walk : Walk) (vector : Vector) →
    IsSearch p sys rays walk vector → IsSubtreeKey p walk.root walk.dict.key
stands_at_key p sys rays walk vector x =
    record { free = x.free; columns = x.columns; table = table_of walk.dict; feasible = x.walk_in.stands.feasible }

module _ (p : Polyhedron) (sys : System) (rays : Rays) (walk : Walk) (vector : Vector)
    (x : IsSearch p sys rays walk vector) (key : List ℕ) (new : Walk) where
  abbrev main : Space
  main = main_space p x.free

  is_there : IsAtKey walk key new → IsSubtreeKey p walk.root key
  is_there h =
      let w = h.walk main x.home x.walk_in in
      record {
        free = x.free;
        columns = x.columns;
        table = table_of new.dict;
        feasible = subst (λ r. IsLexFeasible main r key (table_of new.dict)) h.root
            (subst (λ k. IsLexFeasible main new.root k (table_of new.dict)) h.reached.there w.stands.feasible);
      }

  is_none : IsNoFeasibleKey walk.root walk.dict key → IsSubtreeKey p walk.root key → ⊥
  is_none n k =
      n main x.walk_in.stands.feasible.dictionary.points x.walk_in.stands.dictionary (
        k.table,
        subst (λ f. IsLexFeasible (main_space p f) walk.root key k.table)
            (same_columns p x.free k.free x.columns k.columns) k.feasible,
      )

  key_told : (b : Bool) → Starts walk key b new → b ≡ true ↔ IsSubtreeKey p walk.root key
  key_told true h = (λ e. is_there h, λ k. refl)
  key_told false h = (λ e. absurd (true≢false (sym e)), λ k. absurd (is_none h.1 k))

  stays : new ≡ unparented walk → IsSearch p sys rays new vector
  stays e = subst (λ (w : Walk). IsSearch p sys rays w vector) (sym e)
      (elsewhere p sys rays walk vector x (unparented walk) vector (still_a_walk main x.home walk x.walk_in) x.phase refl)

  moves : (b : Bool) → Starts walk key b new → IsSearch p sys rays new vector
  moves true h = elsewhere p sys rays walk vector x new vector (h.walk main x.home x.walk_in) (h.phase ∙ x.phase) refl
  moves false h = stays h.0

  pub key_is : (r : Result Bool Overflow) → IfOk r (λ b. Starts walk key b new) →
      IfOk r (λ b. b ≡ true ↔ IsSubtreeKey p walk.root key)
  key_is (Ok b) h = key_told b h
  key_is (Err o) h = tt

  pub still_fit : (r : Result Bool Overflow) → IfOk r (λ b. Starts walk key b new) →
      IfErr r (λ _. new ≡ unparented walk) → IsSearch p sys rays new vector
  still_fit (Ok b) h e = moves b h
  still_fit (Err o) h e = stays e

  pub key_is_due : (r : Result Bool Overflow) → IfErr r (λ o. StopsOnTheWay walk.dict key o) →
      IfErr r (λ o. IsDue p o (IsAskedOnTheWay p walk.dict.key key o))
  key_is_due (Ok b) h = tt
  key_is_due (Err o) h =
      due_on_the_way p x.free x.columns walk.dict key x.phase x.walk_in.stands.feasible.dictionary.points
      x.walk_in.stands.dictionary o h

-- what holds of the root and the job of a walk that has begun at a key holds of its root before and of the key
pub holds_at_key : (walk : Walk) (key : List ℕ) (b : Bool) (new : Walk) → Starts walk key b new → b ≡ true →
    (Holds : List ℕ → List ℕ → Type 0) → Holds new.root new.job → Holds walk.root key
holds_at_key walk key b new s t Holds h =
    let at : IsAtKey walk key new = subst (λ (x : Bool). Starts walk key x new) t s in
    subst (λ r. Holds r key) at.root (subst (λ j. Holds new.root j) at.job h)

same_root : (walk : Walk) (key : List ℕ) (new : Walk) (b : Bool) → Starts walk key b new → new.root ≡ walk.root
same_root walk key new true h = h.root
same_root walk key new false h = subst (λ (w : Walk). w.root ≡ walk.root) (sym h.0) refl

pub root_stays : (walk : Walk) (key : List ℕ) (new : Walk) (r : Result Bool Overflow) → IfOk r (λ b. Starts walk key b new) →
    IfErr r (λ _. new ≡ unparented walk) → new.root ≡ walk.root
root_stays walk key new (Ok b) h e = same_root walk key new b h
root_stays walk key new (Err o) h e = subst (λ (w : Walk). w.root ≡ walk.root) (sym e) refl

-- ---- a start at the root of a walk that is not one yet
pub starts_at_root : (walk : Walk) (d : Dictionary) (root key : List ℕ) (b : Bool) (new : Walk) → walk ≡ walk_at d root →
    key ≡ root → b ≡ true → Starts walk key b new → IsAtKey (walk_at d root) root new
starts_at_root walk d root key b new e f t s =
    subst (λ (w : Walk). IsAtKey w root new) e
    (subst (λ k. IsAtKey walk k new) f (subst (λ x. Starts walk key x new) t s))

pub starts_nowhere : (walk : Walk) (d : Dictionary) (root key : List ℕ) (b : Bool) (new : Walk) → walk ≡ walk_at d root →
    key ≡ root → b ≡ false → Starts walk key b new → IsNoFeasibleKey root d root
starts_nowhere walk d root key b new e f t s =
    subst (λ (w : Walk). IsNoFeasibleKey w.root w.dict root) e
    (subst (λ k. IsNoFeasibleKey walk.root walk.dict k) f (subst (λ x. Starts walk key x new) t s).1)

pub stops_before : (walk : Walk) (d : Dictionary) (root key : List ℕ) (o : Overflow) → walk ≡ walk_at d root →
    key ≡ root → StopsOnTheWay walk.dict key o → StopsOnTheWay d root o
stops_before walk d root key o e f s =
    subst (λ (w : Walk). StopsOnTheWay w.dict root o) e (subst (λ k. StopsOnTheWay walk.dict k o) f s)
