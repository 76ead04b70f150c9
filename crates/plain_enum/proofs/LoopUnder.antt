-- The loop over the rows behind a prefix: what is visited when it begins, after a row, where it ends and breaks.
use Rattle.std.specs.Prelude.{Result}
use Rattle.poly_model.specs.Independence.{IsNew}
use Rattle.std.proofs.Common.{◌≡◌, Bool, true, false, ℕ, zero, suc, ◌+◌, ◌<◌, ◌≤◌, List, [], ◌∷◌, ◌++◌, length, Ok, Err, refl, sym, subst, ◌∙◌, arith}
use Rattle.std.specs.List.{All, Contains}
use Rattle.poly_num.specs.Vectors.{Vector}
use Rattle.poly_model.specs.declared.overflow.Overflow.{Overflow}
use Rattle.poly_model.specs.Systems.{System, Polyhedron}
use Rattle.plain_enum.specs.Plain.{PassesInCone}
use Rattle.dictionary_laws.proofs.Members.{without}
use Rattle.dictionary.specs.Views.{Dictionary, CanPivot, IsPivot, IsOverflow}
use Rattle.listing_laws.specs.ListedCone.{ListedCone, IsListable}
use Rattle.listing_laws.specs.Prefixes.{taken_at, next_row as first_without_mark, IsCornerUnder, IsListedUpTo}
use Rattle.listing_laws.proofs.ConeLemmas.{is_listable}
use Rattle.listing_laws.proofs.PrefixLemmas.{loop_begins, loop_skips, loop_takes, loop_ends}
use Rattle.listing_laws.proofs.WholeLists.{loop_stops, loop_stops_within}
use Rattle.plain_enum.specs.Columns.{HasRows, IsColumnOf, HasNoColumn}
use Rattle.plain_enum.specs.declared.prefix.Ended.{Ended}
use Rattle.plain_enum.specs.declared.prefix.Ended.TheVariants.{Overflow as EndedOverflow}
use Rattle.plain_enum.specs.Listed.{IsAt, HasShapeOf, HasRoomFor}
use Rattle.plain_enum.specs.Visits.{Visited, VisitsEach, VisitsUnder}
use Rattle.plain_enum.proofs.NextRow as next_row
use Rattle.plain_enum.proofs.VisitLemmas.{visited_then, broke_then}

-- ---- dictionaries of one shape
pub shape_first : (d e : Dictionary) (xs : List Dictionary) → All (HasShapeOf d) (e ∷ xs) → HasShapeOf d e
shape_first d e xs a = a zero d (omega arith)

pub shapes_rest : (d e : Dictionary) (xs : List Dictionary) → All (HasShapeOf d) (e ∷ xs) → All (HasShapeOf d) xs
shapes_rest d e xs a k z l = a (suc k) z (omega arith)

pub shapes_move : (d e : Dictionary) (xs : List Dictionary) → HasShapeOf d e → All (HasShapeOf d) xs →
    All (HasShapeOf e) xs
shapes_move d e xs s a k z l = record {
  rows = (a k z l).rows ∙ sym s.rows;
  columns = (a k z l).columns ∙ sym s.columns;
}

pub shapes_back : (d e : Dictionary) (xs : List Dictionary) → HasShapeOf d e → All (HasShapeOf e) xs →
    All (HasShapeOf d) xs
shapes_back d e xs s a k z l = record {
  rows = (a k z l).rows ∙ s.rows;
  columns = (a k z l).columns ∙ s.columns;
}

pub shapes_joined : (d e : Dictionary) (xs : List Dictionary) → HasShapeOf d e → All (HasShapeOf d) xs →
    All (HasShapeOf d) (e ∷ xs)
shapes_joined d e xs s a zero z l = s
shapes_joined d e xs s a (suc k) z l = a k z (omega arith)

pub rows_stay : (d new : Dictionary) (rows i k : ℕ) → IsPivot d i k new → HasRows rows d → HasRows rows new
rows_stay d new rows i k pivot h j a b = subst (λ ks. Contains ks j) (sym pivot.labels) (h j a b)

-- ---- the room for a search
module _ (sys : System) (d : Dictionary) where
  -- a row taken: the dictionary that it makes begins the further ones
  pub room_with : (e new : Dictionary) (xs : List Dictionary) (v : Vector) → HasRoomFor sys d (e ∷ xs) v →
      HasShapeOf d new → HasRoomFor sys d (new ∷ xs) v
  room_with e new xs v r s = record {
    rows = r.rows;
    shapes = shapes_joined d new xs s (shapes_rest d e xs r.shapes);
    width = r.width;
    some = r.some;
    narrow = r.narrow;
  }

  -- from there the others are left
  pub room_below : (e new : Dictionary) (xs : List Dictionary) (v : Vector) (i k : ℕ) → HasRoomFor sys d (e ∷ xs) v →
      HasShapeOf d new → IsPivot d i k new → HasRoomFor sys new xs v
  room_below e new xs v i k r s pivot = record {
    rows = rows_stay d new (length sys.rows) i k pivot r.rows;
    shapes = shapes_move d new xs s (shapes_rest d e xs r.shapes);
    width = r.width;
    some = r.some;
    narrow = r.narrow;
  }

  -- and back
  pub room_back : (e new : Dictionary) (xs ys : List Dictionary) (v w : Vector) → HasRoomFor sys d (e ∷ xs) v →
      HasShapeOf d new → HasRoomFor sys new ys w → HasRoomFor sys d (new ∷ ys) w
  room_back e new xs ys v w r s below = record {
    rows = r.rows;
    shapes = shapes_joined d new ys s (shapes_back d new ys s below.shapes);
    width = below.width;
    some = r.some;
    narrow = r.narrow;
  }

-- ---- the loop
module _ {V O E : Type 0} (visits : V → O → Vector → V → O → Type 0) (ends : V → O → Vector → E → O → Type 0) where
  -- of the vectors under the prefix these are visited, and those under the marks, at which the dictionary stands, are
  -- left
  pub record IsInLoop (sys : System) (free : List ℕ) (d : Dictionary) (depth : ℕ) (p : Polyhedron)
      (cone : ListedCone) (fixed left : List ℕ) (prefix : List Bool) (v : V) (o : O) (w : V) (q : O)
      (i : ℕ) : Type 0 where
    pub marks : List Bool
    pub here : IsAt sys free d i depth p cone fixed left marks
    pub shown : List Vector
    pub listed : IsListedUpTo cone prefix marks shown
    pub visited : Visited visits v o shown w q

  -- so it is wherever the dictionary stands
  abbrev pub InLoop : System → List ℕ → Dictionary → ℕ → ℕ → V → O → V → O → ℕ → Type 0
  InLoop sys free d from depth v o w q i =
      (p : Polyhedron) (cone : ListedCone) (fixed left : List ℕ) (prefix : List Bool) →
      IsAt sys free d from depth p cone fixed left prefix →
      IsInLoop sys free d depth p cone fixed left prefix v o w q i

  pub loop_start : (sys : System) (free : List ℕ) (d : Dictionary) (from depth : ℕ) (v : V) (o : O) →
      InLoop sys free d from depth v o v o from
  loop_start sys free d from depth v o p cone fixed left prefix at = record {
    marks = prefix;
    here = at;
    shown = [];
    listed = loop_begins cone prefix;
    visited = (refl, refl);
  }

  module _ (sys : System) (free : List ℕ) (d : Dictionary) (depth : ℕ) (v : V) (o : O) (w : V) (q : O) (i : ℕ)
      (p : Polyhedron) (cone : ListedCone) (fixed left : List ℕ) (prefix : List Bool)
      (s : IsInLoop sys free d depth p cone fixed left prefix v o w q i) where
    listable : IsListable cone
    listable = is_listable sys cone s.here.is_cone

    pub overflows : (k : ℕ) (x : Overflow) → CanPivot d i k → IsOverflow d i k x → PassesInCone p x
    overflows = next_row.overflows sys free d i depth p cone fixed left s.marks s.here

    -- ---- at a row
    module _ (row : i ≤ length sys.rows) where
      before : length s.marks < length cone.rows
      before = next_row.before sys free d i depth p cone fixed left s.marks s.here row

      pub skipped : HasNoColumn d free i → IsInLoop sys free d depth p cone fixed left prefix v o w q (i + 1)
      skipped none = record {
        marks = s.marks ++ false ∷ [];
        here = next_row.stays sys free d i depth p cone fixed left s.marks s.here row;
        shown = s.shown;
        listed = loop_skips cone s.marks before prefix s.shown
            (next_row.follows sys free d i depth p cone fixed left s.marks s.here row none) s.listed;
        visited = s.visited;
      }

      module _ (k : ℕ) (column : IsColumnOf d free i k) (new : Dictionary) (pivot : IsPivot d i k new)
          (less : ℕ) (e : suc less ≡ depth) where
        pub deeper : IsAt sys free new (i + 1) less p cone fixed (without k left) (s.marks ++ true ∷ [])
        deeper = next_row.goes_deeper sys free d i depth p cone fixed left s.marks s.here row k column new pivot less e

        is_new : IsNew cone.n (taken_at cone s.marks) (first_without_mark cone s.marks)
        is_new = next_row.is_new sys free d i depth p cone fixed left s.marks s.here row k column

        -- what is visited from the deeper dictionary
        module _ (later : O) where
          each_below : (result : Result V (Ended E)) →
              VisitsUnder visits ends sys free new (i + 1) less w q later result →
              VisitsEach visits ends w q later result (IsCornerUnder cone (s.marks ++ true ∷ []))
          each_below result h = h p cone fixed (without k left) (s.marks ++ true ∷ []) deeper

          pub goes_on : (x : V) → VisitsUnder visits ends sys free new (i + 1) less w q later (Ok x) →
              IsInLoop sys free d depth p cone fixed left prefix v o x later (i + 1)
          goes_on x h =
              let more = (each_below (Ok x) h).whole in
              record {
                marks = s.marks ++ false ∷ [];
                here = next_row.stays sys free d i depth p cone fixed left s.marks s.here row;
                shown = s.shown ++ more.0;
                listed = loop_takes cone s.marks before prefix s.shown more.0 is_new s.listed more.1;
                visited = visited_then visits ends v o s.shown w q more.0 x later s.visited more.2;
              }

          pub breaks : (x : Ended E) → VisitsUnder visits ends sys free new (i + 1) less w q later (Err x) →
              VisitsEach visits ends v o later (Err x) (IsCornerUnder cone prefix)
          breaks x h =
              let more = (each_below (Err x) h).part in
              record {
                whole = tt;
                part = (
                  s.shown ++ more.0,
                  loop_stops_within cone listable prefix s.marks s.shown more.0 before is_new s.listed more.1,
                  broke_then visits ends v o s.shown w q more.0 x later s.visited more.2,
                );
              }

    -- ---- where a number passes, and where it ends
    pub stops : (x : Overflow) → VisitsEach visits ends v o q (Err (EndedOverflow x)) (IsCornerUnder cone prefix)
    stops x = record {
      whole = tt;
      part = (
        s.shown,
        loop_stops cone listable prefix s.marks s.shown s.here.stands.within s.listed,
        (w, s.visited),
      );
    }

    pub ends_loop : length sys.rows < i → 0 < depth → VisitsEach visits ends v o q (Ok w) (IsCornerUnder cone prefix)
    ends_loop behind some = record {
      whole = (
        s.shown,
        loop_ends cone listable prefix s.marks s.shown
            (next_row.all_decided sys free d i depth p cone fixed left s.marks s.here behind)
            (next_row.too_short sys free d i depth p cone fixed left s.marks s.here some) s.listed,
        s.visited,
      );
      part = tt;
    }
