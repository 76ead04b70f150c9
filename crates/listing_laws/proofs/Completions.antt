-- Every polyhedron has a list of its extreme vectors, and some of them, each once, are the beginning of one.
use Rattle.std.proofs.Common.{◌≡◌, ◌⊎◌, inl, inr, ⊎_elim, true, false, ◌↔◌, ℕ, List, [], ◌∷◌, ◌++◌, sym, subst, refl, arith}
use Rattle.std.specs.List.{Contains}
use Rattle.std.specs.Cmp.Rules.{signed_items}
use Rattle.std.proofs.lemmas.Bool.{cases_Bool}
use Rattle.poly_num.specs.Vectors.{Vector}
use Rattle.poly_model.specs.Independence.{taken}
use Rattle.poly_model.specs.Systems.{Polyhedron, cone_of}
use Rattle.poly_model.specs.Extreme.{IsExtreme, AreExtreme}
use Rattle.linear_laws.specs.Distinct.{AreDistinct}
use Rattle.linear_laws.proofs.FirstBases.{first_basis}
use Rattle.linear_laws.proofs.Members.{Contains-nil, Contains-first, Contains-later, Contains-cons_cases}
use Rattle.cone_laws.specs.Faces.{fixed_rows}
use Rattle.cone_laws.proofs.ColumnLemmas.{one_list_of_columns}
use Rattle.listing_laws.specs.ListedCone.{cone_over}
use Rattle.listing_laws.specs.Lists.{Lists}
use Rattle.listing_laws.proofs.BaseLemmas.{first_basis_is_base}
use Rattle.listing_laws.proofs.ConeLemmas.{is_listable}
use Rattle.listing_laws.proofs.ListLemmas.{lists_same, lists-append}
use Rattle.listing_laws.proofs.ListingLemmas.{are_extreme, lists_extreme}
use Rattle.listing_laws.proofs.WholeLists.{prefix_has_list}

-- ---- a vector is a member of a list, or is not
same_or_not : (u v : Vector) → (u ≡ v) ⊎ (u ≡ v → ⊥)
same_or_not u v =
    let d = signed_items u v in
    ⊎_elim (λ t. inl (d.0 t)) (λ f. inr (λ e. let t = d.1 e in cc)) (cases_Bool _)

member_or_not : (xs : List Vector) (y : Vector) → Contains xs y ⊎ (Contains xs y → ⊥)
member_or_not [] y = inr (Contains-nil y)
member_or_not (x ∷ xs) y = by (same_or_not x y) (member_or_not xs y)
  where
    by : (x ≡ y) ⊎ (x ≡ y → ⊥) → Contains xs y ⊎ (Contains xs y → ⊥) →
        Contains (x ∷ xs) y ⊎ (Contains (x ∷ xs) y → ⊥)
    by (inl e) m = inl (subst (Contains (x ∷ xs)) e (Contains-first x xs))
    by (inr n) (inl c) = inl (Contains-later y x xs c)
    by (inr n) (inr m) = inr (λ c. ⊎_elim n m (Contains-cons_cases y x xs c))

-- ---- the members that are not in another list
abbrev IsOther : List Vector → List Vector → Vector → Type 0
IsOther shown all y = Contains all y × (Contains shown y → ⊥)

others : (shown all : List Vector) → AreDistinct all → (rest : List Vector) × Lists (IsOther shown all) rest
others shown [] d = ([], record { distinct = tt; members = λ y. (λ c. absurd (Contains-nil y c), λ o. o.0) })
others shown (x ∷ all) d = by (member_or_not shown x) (others shown all d.1)
  where
    by : Contains shown x ⊎ (Contains shown x → ⊥) → (rest : List Vector) × Lists (IsOther shown all) rest →
        (rest : List Vector) × Lists (IsOther shown (x ∷ all)) rest
    by (inl c) (rest, l) = (
      rest,
      lists_same (IsOther shown all) (IsOther shown (x ∷ all)) rest l (λ y. (
        λ o. (Contains-later y x all o.0, o.1),
        λ o. (
          ⊎_elim (λ (e : x ≡ y). absurd (o.1 (subst (Contains shown) e c))) (λ (m : Contains all y). m)
              (Contains-cons_cases y x all o.0),
          o.1,
        ),
      )),
    )
    by (inr n) (rest, l) = (
      x ∷ rest,
      record {
        distinct = (λ c. d.0 ((l.members x).0 c).0, l.distinct);
        members = λ y. (
          λ c. ⊎_elim
              (λ (e : x ≡ y). (
                subst (Contains (x ∷ all)) e (Contains-first x all),
                subst (λ z. Contains shown z → ⊥) e n,
              ))
              (λ (m : Contains rest y). let o = (l.members y).0 m in (Contains-later y x all o.0, o.1))
              (Contains-cons_cases y x rest c),
          λ o. ⊎_elim
              (λ (e : x ≡ y). subst (Contains (x ∷ rest)) e (Contains-first x rest))
              (λ (m : Contains all y). Contains-later y x rest ((l.members y).1 (m, o.1)))
              (Contains-cons_cases y x all o.0),
        );
      },
    )

-- ---- extreme vectors
pub some_extremes : (p : Polyhedron) → (shown : List Vector) × Lists (IsExtreme (cone_of p)) shown
some_extremes p =
    let columns = one_list_of_columns (cone_of p) in
    let basis = first_basis p.n [] (fixed_rows columns.one (cone_of p)) in
    let cone = cone_over (taken [] (fixed_rows columns.one (cone_of p)) basis.0) (cone_of p) in
    let is = first_basis_is_base (cone_of p) columns.one basis.0 columns.has basis.1 in
    let all = prefix_has_list cone (is_listable (cone_of p) cone is) [] (omega arith) in
    (all.0, lists_extreme (cone_of p) cone is all.0 all.1)

-- what was shown, if it is extreme vectors, each once, and the others
pub completed : (p : Polyhedron) (shown : List Vector) → AreDistinct shown →
    ((y : Vector) → Contains shown y → IsExtreme (cone_of p) y) →
    (rest : List Vector) × AreExtreme (cone_of p) (shown ++ rest)
completed p shown d only =
    let (all, l) = some_extremes p in
    let (rest, o) = others shown all l.distinct in (
      rest,
      are_extreme (cone_of p) (shown ++ rest)
          (lists-append (Contains shown) (IsOther shown all) (IsExtreme (cone_of p)) shown rest
          (record { distinct = d; members = λ y. (λ c. c, λ c. c) }) o (λ y c n. n.1 c)
          (λ y. (
            λ x. ⊎_elim (λ c. inl c) (λ n. inr ((l.members y).1 x, n)) (member_or_not shown y),
            λ h. ⊎_elim (λ c. only y c) (λ (o : IsOther shown all y). (l.members y).0 o.0) h,
          ))),
    )
