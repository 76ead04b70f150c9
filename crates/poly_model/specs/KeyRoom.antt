-- How a key lies in its room, and how many keys do.
use Rattle.std.specs.Prelude.{◌≡◌, ◌≤◌, ◌-◌, ◌++◌, ℕ, List, [], ◌∷◌, length, take, drop}
use Rattle.std.proofs.Common.{◌∙◌, ap, sym, subst}
use Rattle.std.proofs.Math.ListN.{replicate}
use Rattle.std.proofs.lemmas.List.{take-append-drop, length-take-le}
use Rattle.poly_model.specs.Limits.{most_labels}
use Rattle.poly_model.specs.Keys.{IsAscending, IsKey}

-- the first places hold the labels, ascending, and the others 0
pub record Fills (labels : List ℕ) (len : ℕ) : Type 0 where
  pub size : length labels ≡ most_labels
  pub within : len ≤ most_labels
  pub rest : drop len labels ≡ replicate (most_labels - len) 0
  pub ascending : IsAscending (take len labels)

pub taken : (labels : List ℕ) (len : ℕ) → Fills labels len → length (take len labels) ≡ len
taken labels len h = length-take-le len labels (subst (λ n. len ≤ n) (sym h.size) h.within)

pub filled : (labels : List ℕ) (len : ℕ) → Fills labels len → take len labels ++ replicate (most_labels - length (take len labels)) 0 ≡ labels
filled labels len h =
    ap (λ n. take len labels ++ replicate (most_labels - n) 0) (taken labels len h) ∙ ap (λ l. take len labels ++ l) (sym h.rest) ∙ take-append-drop len labels

-- keys whose labels lie one behind the other, by how many labels each has
abbrev pub keys_by_count : List ℕ → List ℕ → List (List ℕ)
keys_by_count [] labels = []
keys_by_count (count ∷ counts) labels = take count labels ∷ keys_by_count counts (drop count labels)

-- each is a key, and no label is left over
abbrev pub AreKeysIn : List ℕ → List ℕ → Type 0
AreKeysIn [] labels = labels ≡ []
AreKeysIn (count ∷ counts) labels =
    (count ≤ length labels) × IsKey (take count labels) × AreKeysIn counts (drop count labels)
