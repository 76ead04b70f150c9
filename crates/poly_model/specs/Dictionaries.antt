-- Cobases, and the dictionary of a cobasis.
use Rattle.std.specs.Prelude.{◌≡◌, ◌≢◌, ℕ, ℤ, pos, ◌+ℤ◌, ◌*ℤ◌, ◌<ℤ◌, ◌≤ℤ◌, List, [], ◌∷◌}
use Rattle.std.specs.List.{All, AllByRecursion, Contains}
use Rattle.poly_num.specs.Vectors.{Vector, ◌·◌, IsZero}
use Rattle.poly_model.specs.Spaces.{Space, IsInside, IsDirection}

-- each label has a direction at which it is not 0 and those before it are
abbrev pub AreIndependent : Space → List ℕ → List ℕ → Type 0
AreIndependent space before [] = Unit {0}
AreIndependent space before (k ∷ ks) =
    ((z : Vector) × IsDirection space z × AllByRecursion (λ i. space.form i · z ≡ pos 0) before × (space.form k · z ≢ pos 0))
    × AreIndependent space (k ∷ before) ks

-- independent labels of the space, as many as it has dimensions: no direction but 0 is 0 on all of them
pub record IsCobasis (space : Space) (key : List ℕ) : Type 0 where
  pub labels : All (Contains space.labels) key
  pub independent : AreIndependent space [] key
  pub enough : (z : Vector) → IsDirection space z → AllByRecursion (λ k. space.form k · z ≡ pos 0) key → IsZero z

-- numbers for each label: its constant, and its entry in the column of each label
pub record Table : Type 0 where
  pub denominator : ℤ
  pub constant : ℕ → ℤ
  pub entry : ℕ → ℕ → ℤ

-- the sum of f over these labels
abbrev pub sum_over : List ℕ → (ℕ → ℤ) → ℤ
sum_over [] f = pos 0
sum_over (k ∷ ks) f = f k +ℤ sum_over ks f

-- the numbers write each label in those of the key, over a positive denominator: on every vector y of the space
--     denominator * value(i, y) = constant(i) * y0 + the sum over k of entry(i, k) * value(k, y)
pub record Writes (space : Space) (key : List ℕ) (t : Table) : Type 0 where
  pub positive : pos 0 <ℤ t.denominator
  pub values : (i : ℕ) → Contains space.labels i → (y : Vector) → IsInside space y →
      t.denominator *ℤ (space.form i · y)
      ≡ t.constant i *ℤ (space.infinity · y) +ℤ sum_over key (λ k. t.entry i k *ℤ (space.form k · y))

-- the dictionary of a cobasis: the numbers that write each label over the least denominator
pub record IsDictionary (space : Space) (key : List ℕ) (t : Table) : Type 0 where
  pub cobasis : IsCobasis space key
  pub writes : Writes space key t
  pub least : (other : Table) → Writes space key other → t.denominator ≤ℤ other.denominator
