-- What stays of a dictionary without t, without its common divisor, is the dictionary of the space without t.
use Rattle.std.proofs.Common.{◌≡◌, ◌≢◌, ℕ, ◌<◌, Bool, true, false, cond, List, [], ◌∷◌, ◌++◌, arith, refl, sym, ap, subst, ◌∙◌, append-nil}
use Rattle.std.specs.Prelude.{not, ◌&&◌}
use Rattle.std.specs.List.{Contains, filter}
use Rattle.std.proofs.lemmas.Bool.{ne_eqb}
use Rattle.linear_laws.proofs.Members.{Contains-first, Contains-later, all_at}
use Rattle.poly_model.specs.Keys.{IsAscending}
use Rattle.poly_model.specs.Dictionaries.{IsCobasis, Writes}
use Rattle.dictionary.specs.Views.{Dictionary, table_of, IsDictionaryIn, IsWhole}
use Rattle.dictionary.specs.MainPhase.{kept_rows, kept}
use Rattle.dictionary.specs.Arrangements.{IsWithoutDivisor}
use Rattle.dictionary.specs.FirstPhase.{is_other, DropsT}
use Rattle.dictionary.proofs.WithoutDivisor.{is_dictionary}

neither : (b : Bool) → (b && not b) ≡ false
neither true = refl
neither false = refl

none_leaves : (ks : List ℕ) → filter (λ k. is_other k && not (is_other k)) ks ≡ []
none_leaves [] = refl
none_leaves (k ∷ ks) =
    ap (λ b. cond b (k ∷ filter leaves ks) (filter leaves ks)) (neither (is_other k)) ∙ none_leaves ks
  where
    leaves : ℕ → Bool
    leaves i = is_other i && not (is_other i)

-- the rows that stay are those of the old ones
pub other_rows : (d : Dictionary) → filter is_other d.rows ≡ kept_rows d is_other is_other
other_rows d = sym (ap (λ ks. filter is_other d.rows ++ ks) (none_leaves d.columns) ∙ append-nil (filter is_other d.rows))

-- t alone goes from labels that ascend from it
others_all : (ks : List ℕ) → ((k : ℕ) → Contains ks k → 0 < k) → filter is_other ks ≡ ks
others_all [] h = refl
others_all (k ∷ ks) h =
    let n : k ≢ 0 = λ e. let l = h k (Contains-first k ks) in omega (arith, l, e) in
    ap (λ b. cond (not b) (k ∷ filter is_other ks) (filter is_other ks)) (ne_eqb k 0 n)
    ∙ ap (λ ls. k ∷ ls) (others_all ks (λ i c. h i (Contains-later i k ks c)))

others_of : (all rest : List ℕ) → IsAscending all → all ≡ 0 ∷ rest → filter is_other all ≡ rest
others_of all rest h e =
    ap (λ ks. filter is_other ks) e
    ∙ others_all rest (all_at (λ k. 0 < k) rest (subst (λ (ks : List ℕ). IsAscending ks) e h).0)

pub drops_t : (old new : Dictionary) → IsWhole old → IsWithoutDivisor (kept old is_other is_other) new → DropsT old new
drops_t old new whole r = record {
  phase = ap (λ (d : Dictionary). d.phase) r.same;
  drops = λ space rest points labels key cobasis writes.
      let key_is = others_of old.key rest whole.key.ascending key in (
        ap (λ (d : Dictionary). d.key) r.same ∙ key_is,
        subst (λ (d : Dictionary). IsDictionaryIn space d) (sym r.same)
            (is_dictionary old is_other is_other whole (λ k e. e) new.denominator new.cells r.divided space
            (others_of old.labels space.labels whole.labels labels) points
            (subst (λ ks. IsCobasis space ks) (sym key_is) cobasis)
            (subst (λ ks. Writes space ks (table_of old)) (sym key_is) writes)),
      );
}
