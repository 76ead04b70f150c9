-- A cobasis of the cone's space has as many labels as the cone has coordinates.
use Rattle.std.proofs.Common.{◌≡◌, ℕ, pos, List, [], ◌∷◌, ◌++◌, map, length, refl, sym, ap, subst, ◌∙◌, arith}
use Rattle.std.proofs.lemmas.List.{length-map}
use Rattle.std.specs.List.{Contains}
use Rattle.poly_num.specs.Vectors.{Vector, ◌·◌}
use Rattle.poly_num.proofs.VectorLemmas.{dot-zero}
use Rattle.poly_model.specs.Independence.{Vanish}
use Rattle.poly_model.specs.Systems.{Polyhedron}
use Rattle.poly_model.specs.Spaces.{cone_space}
use Rattle.poly_model.specs.Dictionaries.{IsCobasis}
use Rattle.linear_laws.specs.Frames.{Column, IsFrame}
use Rattle.linear_laws.specs.NewRows.{AreNew}
use Rattle.linear_laws.specs.Distinct.{AreDistinct}
use Rattle.linear_laws.proofs.AllLemmas.{all_right, all_from_map, all_to_map}
use Rattle.linear_laws.proofs.Columns.{rows_vanish_at}
use Rattle.linear_laws.proofs.Elimination.{Reached, vanish_from_rest}
use Rattle.linear_laws.proofs.FirstBases.{reach}
use Rattle.linear_laws.proofs.Members.{Contains-first, Contains-later, all_at}
use Rattle.dictionary_laws.proofs.Duals.{distinct}
use Rattle.dictionary_laws.proofs.Members.{all_from}
use Rattle.plain_enum.specs.Standing.{form_of}
use Rattle.plain_enum.proofs.ConeVectors.{DualOver, dual_over, zero_over}

module _ (p : Polyhedron) where
  abbrev forms : List ℕ → List Vector
  forms ks = map (form_of p) ks

  -- the forms of labels that have dual vectors are new one over another
  pub new_forms : (ks : List ℕ) → AreDistinct ks → ((k : ℕ) → Contains ks k → DualOver p ks k) → AreNew p.n (forms ks)
  new_forms [] h duals = tt
  new_forms (x ∷ ks) h duals = (
    (d.vector, d.width, vanish, d.here),
    new_forms ks h.1 (λ k c. let e = duals k (Contains-later k x ks c) in record {
      vector = e.vector;
      width = e.width;
      here = e.here;
      elsewhere = λ j i n. e.elsewhere j (Contains-later j x ks i) n;
    }),
  )
    where
      d : DualOver p (x ∷ ks) x
      d = duals x (Contains-first x ks)

      vanish : Vanish (forms ks) d.vector
      vanish =
          all_to_map (λ g. g · d.vector ≡ pos 0) (form_of p) ks
          (all_from (λ k. form_of p k · d.vector ≡ pos 0) ks
          (λ k c. d.elsewhere k (Contains-later k x ks c) (λ e. h.0 (subst (Contains ks) e c))))

  -- a slot that is left would have a dual vector at which all labels are 0
  pub length_of_cobasis : (key : List ℕ) → IsCobasis (cone_space p) key → length key ≡ p.n
  length_of_cobasis key cobasis =
      by (reach p.n (forms key) (new_forms key (distinct (cone_space p) key cobasis) (dual_over p key cobasis)))
    where
      by : Reached p.n (forms key) → length key ≡ p.n
      by r = none r.slots refl
        where
          none : (slots : List Column) → r.slots ≡ slots → length key ≡ p.n
          none [] s = omega (arith, r.count, ap length s, length-map key (form_of p))
          none (c ∷ slots) s =
              let f : IsFrame p.n r.D (c ∷ slots ++ r.rest) = subst (λ t. IsFrame p.n r.D (t ++ r.rest)) s r.frame in
              let all = rows_vanish_at c (slots ++ r.rest) f.duals.1 in
              let here = vanish_from_rest r c.dual (all_right (λ b. b.row · c.dual ≡ pos 0) slots r.rest all) in
              let zero = zero_over p key cobasis c.dual f.inside.0.0
              (all_at (λ k. form_of p k · c.dual ≡ pos 0) key
              (all_from_map (λ g. g · c.dual ≡ pos 0) (form_of p) key here)) in
              absurd (f.nonzero (sym f.duals.0 ∙ dot-zero c.row c.dual zero))
