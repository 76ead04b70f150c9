-- A cobasis is no longer than its space is wide: the forms of its labels, and behind them the form at infinity, are new
-- one over another.
use Rattle.std.proofs.Common.{◌≡◌, ℕ, ◌+◌, ◌<◌, pos, List, [], ◌∷◌, ◌++◌, map, length, length-append, arith}
use Rattle.std.specs.List.{AllByRecursion}
use Rattle.std.proofs.lemmas.List.{length-map}
use Rattle.poly_num.specs.Vectors.{Vector, ◌·◌}
use Rattle.poly_model.specs.Independence.{Vanish}
use Rattle.poly_model.specs.Spaces.{Space, HasPoints}
use Rattle.poly_model.specs.Dictionaries.{AreIndependent, IsCobasis}
use Rattle.linear_laws.specs.NewRows.{AreNew}
use Rattle.linear_laws.proofs.FirstBases.{reach}

module _ (space : Space) where
  -- the forms of these labels, and then infinity
  abbrev forms : List ℕ → List Vector
  forms ks = map space.form ks ++ space.infinity ∷ []

  vanish_at : (ks : List ℕ) (z : Vector) → AllByRecursion (λ k. space.form k · z ≡ pos 0) ks →
      space.infinity · z ≡ pos 0 → Vanish (forms ks) z
  vanish_at [] z h e = (e, tt)
  vanish_at (k ∷ ks) z h e = (h.0, vanish_at ks z h.1 e)

  -- labels, the last of them first, whose forms are new
  record NewForms (many : ℕ) : Type 0 where
    labels : List ℕ
    count : length labels ≡ many
    new : AreNew space.n (forms labels)

  new_forms : (before ks : List ℕ) → AreIndependent space before ks → AreNew space.n (forms before) →
      NewForms (length before + length ks)
  new_forms before [] i a = record { labels = before; count = omega arith; new = a }
  new_forms before (k ∷ ks) i a =
      let w = i.0 in
      let r = new_forms (k ∷ before) ks i.1 ((w.0, w.1.inside.width, vanish_at before w.0 w.2 w.1.level, w.3), a) in
      record { labels = r.labels; count = omega (arith, r.count); new = r.new }

  pub cobasis_is_narrow : (key : List ℕ) → HasPoints space → IsCobasis space key → length key < space.n
  cobasis_is_narrow key point cobasis =
      let r = new_forms [] key cobasis.independent ((point.vector, point.inside.width, tt, point.finite), tt) in
      let e = reach space.n (forms r.labels) r.new in
      omega (
        arith,
        r.count,
        e.count,
        length-append (map space.form r.labels) (space.infinity ∷ []),
        length-map r.labels space.form,
      )
