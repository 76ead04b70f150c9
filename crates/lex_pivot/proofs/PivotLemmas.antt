-- The pivot of the row of the ratio test, and the key after it.
use Rattle.std.proofs.Common.{◌≡◌, ◌≢◌, ⊎_elim, ℕ, List, sym, subst}
use Rattle.std.specs.List.{Contains}
use Rattle.poly_model.specs.Keys.{IsAscending}
use Rattle.poly_model.specs.Dictionaries.{Table}
use Rattle.poly_model.specs.Tree.{Leaves}
use Rattle.linear_laws.proofs.Members.{ascending_is_one}
use Rattle.linear_laws.proofs.Signs.{negative_nonzero}
use Rattle.dictionary_laws.specs.Keys.{Exchanges}
use Rattle.dictionary.specs.Views.{Dictionary, table_of, CanPivot}
use Rattle.lex_pivot.proofs.EarlierLemmas.{row_only}

-- the row of the ratio test can take the place of its column
pub can_leave : (d : Dictionary) (root : List ℕ) (s r : ℕ) → Contains d.key s →
    Leaves d.labels root d.key (table_of d) s r → CanPivot d r s
can_leave d root s r c l = record {
  label = (row_only d.labels r l.row.row).0;
  outside = l.row.outside;
  inside = c;
  nonzero = negative_nonzero (Table.entry (table_of d) r s) l.negative;
}

-- an exchange of one label of a key for another has one ascending key
pub same_exchange : (key new other : List ℕ) (r s : ℕ) → Exchanges key new r s → Exchanges key other r s →
    IsAscending new → IsAscending other → new ≡ other
same_exchange key new other r s x y a b = ascending_is_one new other a b (there new other x y) (there other new y x)
  where
    there : (from to : List ℕ) → Exchanges key from r s → Exchanges key to r s → (k : ℕ) → Contains from k → Contains to k
    there from to u v k m =
        ⊎_elim (λ (e : k ≡ r). subst (Contains to) (sym e) v.entering)
        (λ (h : Contains key k × (k ≢ s)). v.kept k h.0 h.1) (u.only k m)
