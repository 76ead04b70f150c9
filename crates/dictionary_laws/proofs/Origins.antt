-- A cobasis of a space with points has one at which its labels are 0: any point, cleared by dual
-- directions.
use Rattle.std.proofs.Common.{◌≡◌, ℕ, List, ℤ, pos, ◌+ℤ◌, ◌*ℤ◌, neg_ℤ, ap, ◌∙◌, arith}
use Rattle.std.specs.Prelude.{◌<ℤ◌}
use Rattle.std.specs.List.{Contains}
use Rattle.poly_num.specs.Vectors.{Vector, ◌·◌, scale}
use Rattle.poly_num.proofs.Ring.{expand, lin}
use Rattle.poly_num.proofs.Order.{positive_product}
use Rattle.poly_num.proofs.VectorLemmas.{dot-scale}
use Rattle.poly_model.specs.Spaces.{Space, IsInside, HasPoints}
use Rattle.poly_model.specs.Dictionaries.{IsCobasis, sum_over}
use Rattle.linear_laws.proofs.Signs.{square_positive}
use Rattle.dictionary_laws.proofs.Directions.{inside_scale, spread, dot-spread}
use Rattle.dictionary_laws.proofs.Columns.{Columns, columns, shares, level_sum, own_sum, inside_columns}

-- at a label of the key, and at infinity, what is left of a point
point_cancels : (l e v s : ℤ) → s ≡ neg_ℤ (l *ℤ v) *ℤ e → s +ℤ (e *ℤ l) *ℤ v ≡ pos 0
point_cancels l e v s h = let f = simp expand at h in simp expand (omega (arith, lin))

point_level : (e l s : ℤ) → s ≡ pos 0 → s +ℤ (e *ℤ l) *ℤ l ≡ e *ℤ (l *ℤ l)
point_level e l s h = simp expand (omega (arith, lin))

module _ (space : Space) where
  -- a point at which the labels of the key are 0
  pub record Origin (key : List ℕ) : Type 0 where
    pub vector : Vector
    pub inside : IsInside space vector
    pub level : ℤ
    pub positive : pos 0 <ℤ level
    pub is_level : space.infinity · vector ≡ level
    pub zero : (j : ℕ) → Contains key j → space.form j · vector ≡ pos 0

  module _ (key : List ℕ) (cobasis : IsCobasis space key) (c : Columns space key key)
      (p : HasPoints space) where
    level : ℤ
    level = space.infinity · p.vector

    factor : ℕ → ℤ
    factor k = neg_ℤ (level *ℤ (space.form k · p.vector))

    start : Vector
    start = scale (c.value *ℤ level) p.vector

    cleared_at : (g : Vector) → g · spread space key factor c.dual start
        ≡ sum_over key (shares space key c factor g) +ℤ (c.value *ℤ level) *ℤ (g · p.vector)
    unfolding start
    cleared_at g =
        dot-spread space g key factor c.dual start
        ∙ ap (λ (z : ℤ). sum_over key (shares space key c factor g) +ℤ z)
        (dot-scale g (c.value *ℤ level) p.vector)

    origin : Origin key
    unfolding level factor start
    origin = record {
      vector = spread space key factor c.dual start;
      inside = inside_columns space key cobasis c factor start
          (inside_scale space (c.value *ℤ level) p.vector p.inside);
      level = c.value *ℤ (level *ℤ level);
      positive = positive_product c.value (level *ℤ level) c.positive (square_positive level p.finite);
      is_level = cleared_at space.infinity
          ∙ point_level c.value level (sum_over key (shares space key c factor space.infinity))
          (level_sum space key cobasis c factor);
      zero = λ j i. cleared_at (space.form j)
          ∙ point_cancels level c.value (space.form j · p.vector)
          (sum_over key (shares space key c factor (space.form j)))
          (own_sum space key cobasis c factor j i);
    }

  pub some_origin : (key : List ℕ) → HasPoints space → IsCobasis space key → Origin key
  some_origin key p cobasis = origin key cobasis (columns space key cobasis) p
