-- What one row makes of a dictionary that is tried, what several do, and which products pass.
use Rattle.std.specs.Prelude.{Result, IfOk, IfErr}
use Rattle.std.proofs.Common.{◌≡◌, ◌≢◌, ◌⊎◌, ⊎_elim, Ok, Err, ℕ, ◌+◌, ◌<◌, ◌≤◌, length, refl, sym, subst, ◌∙◌, arith}
use Rattle.std.specs.List.{Contains}
use Rattle.poly_model.specs.Labels.{IsRow}
use Rattle.poly_model.specs.declared.overflow.Overflow.{Overflow}
use Rattle.poly_model.specs.declared.overflow.Phase.TheVariants.{Cone, Prepare}
use Rattle.poly_model.specs.Systems.{System, Polyhedron, row_of}
use Rattle.poly_model.specs.Overflows.{Passes, IsPassing}
use Rattle.poly_model.specs.Spaces.{IsSpaceOf}
use Rattle.poly_model.specs.Dictionaries.{IsDictionary}
use Rattle.dictionary.specs.Views.{Dictionary, CanPivot, IsPivot, IsOverflow, table_of}
use Rattle.linearity.specs.declared.eliminate.Pass.{Pass}
use Rattle.linearity.specs.Columns.{IsZeroAtCoordinates}
use Rattle.linearity.specs.Elimination.{IsDictionaryOf, tries_others}
use Rattle.linearity.specs.Turns.{KeepsShape, EntersFor, OverflowsFor, IsEntered, Eliminates, StopsAt}
use Rattle.linearity.proofs.Turns.{passed_over, no_column, enters}

-- ---- the shape
pub shape_stays : (d : Dictionary) → KeepsShape d d
shape_stays d = record { phase = refl; labels = refl; width = refl; fewer = λ k c high. c }

pub shape_then : (a b c : Dictionary) → KeepsShape a b → KeepsShape b c → KeepsShape a c
shape_then a b c s t = record {
  phase = t.phase ∙ s.phase;
  labels = t.labels ∙ s.labels;
  width = t.width ∙ s.width;
  fewer = λ k i high. s.fewer k (t.fewer k i high) high;
}

pivot_shape : (old new : Dictionary) (i k : ℕ) → IsRow i → IsPivot old i k new → KeepsShape old new
pivot_shape old new i k few p = record {
  phase = p.phase;
  labels = p.labels;
  width = p.width;
  fewer = λ j c high.
      ⊎_elim (λ (e : j ≡ i). absurd (omega arith)) (λ (h : Contains old.key j × (j ≢ k)). h.0)
      (p.key.exchanges.only j c);
}

entered_shape : (old new : Dictionary) (i : ℕ) → IsRow i → IsEntered old i new → KeepsShape old new
entered_shape old new i few h =
    ⊎_elim
    (λ (e : (k : ℕ) × EntersFor old i k new). pivot_shape old new i e.0 few e.1.pivot)
    (λ (e : IsZeroAtCoordinates old i × (new ≡ old)). subst (KeepsShape old) (sym e.1) (shape_stays old))
    h

-- whether the row has entered, or nothing has changed
pub shape_after : {T : Type 0} (old new : Dictionary) (i : ℕ) (result : Result T Overflow) → IsRow i →
    IfOk result (λ _. IsEntered old i new) → IfErr result (λ _. new ≡ old) → KeepsShape old new
shape_after old new i (Ok x) few h e = entered_shape old new i few h
shape_after old new i (Err o) few h e = subst (KeepsShape old) (sym e) (shape_stays old)

-- ---- a pivot in a polyhedron's dictionary
pub pivoted : (p : Polyhedron) (old new : Dictionary) (i k : ℕ) → IsPivot old i k new → IsDictionaryOf p old →
    IsDictionaryOf p new
pivoted p old new i k pivot d = record {
  few = d.few;
  narrow = d.narrow;
  phase = subst (λ f. (f ≡ Cone) ⊎ (f ≡ Prepare)) (sym pivot.phase) d.phase;
  space = d.space;
  is_space = subst (λ f. IsSpaceOf p f d.space) (sym pivot.phase) d.is_space;
  points = d.points;
  dictionary = pivot.dictionary d.space d.points d.dictionary;
}

-- a product that passes, at a dictionary of the polyhedron
pub overflows : (p : Polyhedron) (d : Dictionary) (i k : ℕ) (o : Overflow) → IsDictionaryOf p d → CanPivot d i k →
    IsOverflow d i k o → Passes p o
overflows p d i k o h can over = record {
  space = h.space;
  is_space = subst (λ f. IsSpaceOf p f h.space) (sym over.phase) h.is_space;
  point = h.points;
  table = table_of d;
  dictionary = subst (λ ks. IsDictionary h.space ks (table_of d)) (sym over.key) h.dictionary.dictionary;
  r = i;
  s = k;
  outside = (
    subst (λ ks. Contains ks i) h.dictionary.labels can.label,
    λ c. can.outside (subst (λ ks. Contains ks i) over.key c),
  );
  inside = subst (λ ks. Contains ks k) (sym over.key) can.inside;
  nonzero = can.nonzero;
  passing = subst (λ ks. IsPassing h.space.labels ks (table_of d) i k o) (sym over.key)
      (subst (λ ks. IsPassing ks d.key (table_of d) i k o) h.dictionary.labels over.passes);
}

-- it passes at the pivot of that row in that column
pub overflows_at : (p : Polyhedron) (d : Dictionary) (i k : ℕ) (o : Overflow) → IsDictionaryOf p d → CanPivot d i k →
    IsOverflow d i k o → (passes : Passes p o) × (passes.r ≡ i) × (passes.s ≡ k)
unfolding overflows
overflows_at p d i k o h can over = (overflows p d i k o h can over, refl, refl)

-- ---- the rows that have been tried
module _ (sys : System) (pass : Pass) where
  -- the pivot of the next row overflows, and nothing has changed
  pub stops : (i : ℕ) (old now new : Dictionary) (o : Overflow) → 0 < i → i ≤ length sys.rows →
      (row_of sys.rows i).linear ≢ tries_others pass → Eliminates sys pass 1 i old now → new ≡ now →
      (k : ℕ) × OverflowsFor now i k o → StopsAt sys pass i old new o
  stops i old now new o first last n tried same h = record {
    from_one = first;
    within = last;
    tried = n;
    before = subst (Eliminates sys pass 1 i old) (sym same) tried;
    overflows = subst (λ d. (k : ℕ) × OverflowsFor d i k o) (sym same) h;
  }

  pub none_tried : (i : ℕ) (d : Dictionary) → Eliminates sys pass i i d d
  none_tried i d = record { dictionary = λ p file h. h; eliminated = λ p file h e. e }

  pub tried_then : (i j k : ℕ) (a b c : Dictionary) → Eliminates sys pass i j a b → Eliminates sys pass j k b c →
      Eliminates sys pass i k a c
  tried_then i j k a b c s t = record {
    dictionary = λ p file h. t.dictionary p file (s.dictionary p file h);
    eliminated = λ p file h e. t.eliminated p file (s.dictionary p file h) (s.eliminated p file h e);
  }

  -- a row that is passed over
  pub tries_none : (i : ℕ) (d : Dictionary) → (Contains d.labels i → (row_of sys.rows i).linear ≡ tries_others pass) →
      Eliminates sys pass i (i + 1) d d
  tries_none i d is = record {
    dictionary = λ p file h. h;
    eliminated = λ p file h e. passed_over sys.rows pass i d e is;
  }

  module _ (i : ℕ) (few : IsRow i) (n : (row_of sys.rows i).linear ≢ tries_others pass) (old : Dictionary) where
    stays : IsZeroAtCoordinates old i → Eliminates sys pass i (i + 1) old old
    stays none = record {
      dictionary = λ p file h. h;
      eliminated = λ p file h e. no_column sys.rows pass i old e n none;
    }

    enters_for : (new : Dictionary) (k : ℕ) → EntersFor old i k new → Eliminates sys pass i (i + 1) old new
    enters_for new k e = record {
      dictionary = λ p file h. pivoted p old new i k e.pivot h;
      eliminated = λ p file h before.
          enters sys.rows pass i few old new k before h.space h.points h.dictionary e.column e.can e.pivot n;
    }

    -- a row that is tried
    pub tries_one : (new : Dictionary) → IsEntered old i new → Eliminates sys pass i (i + 1) old new
    tries_one new h =
        ⊎_elim
        (λ (e : (k : ℕ) × EntersFor old i k new). enters_for new e.0 e.1)
        (λ (e : IsZeroAtCoordinates old i × (new ≡ old)).
        subst (Eliminates sys pass i (i + 1) old) (sym e.1) (stays e.0))
        h
