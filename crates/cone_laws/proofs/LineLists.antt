-- Where each free column has exactly one line, the lines of a system are exactly one list.
use Rattle.std.proofs.Common.{◌≡◌, ℕ, List, [], ◌∷◌, refl, sym, subst, ◌∙◌}
use Rattle.std.specs.List.{Contains}
use Rattle.poly_num.specs.Vectors.{Vector}
use Rattle.poly_model.specs.Systems.{System}
use Rattle.poly_model.specs.FreeColumns.{IsFree, IsLine, AreFreeColumns, AreLinesOf, AreLines}
use Rattle.linear_laws.proofs.Members.{Contains-first, Contains-later}
use Rattle.cone_laws.specs.Unique.{ExactlyOne}

module _ (sys : System) (line : (j : ℕ) → IsFree sys j → ExactlyOne (IsLine sys j)) where
  some_lines : (js : List ℕ) → ((j : ℕ) → Contains js j → IsFree sys j) →
      (lines : List Vector) × AreLinesOf sys js lines
  some_lines [] f = ([], tt)
  some_lines (j ∷ js) f =
      let l : ExactlyOne (IsLine sys j) = line j (f j (Contains-first j js)) in
      let r : (lines : List Vector) × AreLinesOf sys js lines =
      some_lines js (λ k m. f k (Contains-later k j js m)) in
      (l.one ∷ r.0, (l.has, r.1))

  same_lines : (js : List ℕ) (ys zs : List Vector) → AreLinesOf sys js ys → AreLinesOf sys js zs → zs ≡ ys
  same_lines [] [] [] a b = refl
  same_lines [] (y ∷ ys) zs a b = absurd a
  same_lines [] [] (z ∷ zs) a b = absurd b
  same_lines (j ∷ js) [] zs a b = absurd a
  same_lines (j ∷ js) (y ∷ ys) [] a b = absurd b
  same_lines (j ∷ js) (y ∷ ys) (z ∷ zs) a b =
      let l : ExactlyOne (IsLine sys j) = line j a.0.free in
      let e : z ≡ y = l.only z b.0 ∙ sym (l.only y a.0) in
      let r : zs ≡ ys = same_lines js ys zs a.1 b.1 in
      cc

  pub one_list_of_lines : ExactlyOne (AreFreeColumns sys) → ExactlyOne (AreLines sys)
  one_list_of_lines c =
      let lines = some_lines c.one (λ j m. (c.has.exactly j).1 m) in
      record {
        one = lines.0;
        has = record { columns = c.one; free = c.has; each = lines.1 };
        only = λ zs h.
            same_lines c.one lines.0 zs lines.1
            (subst (λ js. AreLinesOf sys js zs) (c.only h.columns h.free) h.each);
      }
