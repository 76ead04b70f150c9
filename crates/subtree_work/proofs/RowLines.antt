-- Lines of rows, column by column.
use Rattle.std.proofs.Common.{◌≡◌, ℕ, ◌+◌, List, [], ◌∷◌, ◌++◌, length-append, Option, refl, sym, ap, subst, arith}
use Rattle.std.specs.List.{Contains}
use Rattle.std.proofs.lemmas.List.{map-append}
use Rattle.poly_num.specs.Vectors.{Vector}
use Rattle.poly_model.specs.declared.listed.Count.{Count}
use Rattle.poly_model.specs.Systems.{System}
use Rattle.dictionary.specs.Views.{Dictionary}
use Rattle.hull_lift.specs.Facets.{primitive_column}
use Rattle.convert_core.specs.Rows.{IsColumnShown, column_rows}
use Rattle.convert_core.proofs.RowLists.{none_of_one, that_one, once_more, lists_more, only_more}
use Rattle.work_core.specs.ReplyLines.{ReplyLine, row_line, WritesLines, WritesPartOfLines, rows_in_lines, keys_in_lines}
use Rattle.work_core.proofs.WalkedLemmas.{writes_none, writes_then, part_then}
use Rattle.subtree_work.specs.Rows.{lines_of_rows, ShowsRows, TearsRows}

-- ---- such lines give back no key
pub rows_of_rows : (ys : List Vector) → rows_in_lines (lines_of_rows ys) ≡ ys
rows_of_rows [] = refl
rows_of_rows (y ∷ ys) = ap (λ xs. y ∷ xs) (rows_of_rows ys)

pub keys_of_rows : (ys : List Vector) → keys_in_lines (lines_of_rows ys) ≡ []
keys_of_rows [] = refl
keys_of_rows (y ∷ ys) = keys_of_rows ys

module _ (sys : System) (root : List ℕ) (d : Dictionary) where
  abbrev Shows : List ℕ → Option (List ℕ) → Option (List ℕ) → Count → Count → Type 0
  Shows = ShowsRows sys root d

  abbrev Tears : List ℕ → Option (List ℕ) → Option (List ℕ) → Type 0
  Tears = TearsRows sys root d

  abbrev lines_of : List ℕ → List ReplyLine
  lines_of shown = lines_of_rows (column_rows sys d shown)

  -- ---- one column
  pub not_shown : (c : ℕ) (a : Option (List ℕ)) (n : Count) → (IsColumnShown sys root d c → ⊥) → Shows (c ∷ []) a a n n
  not_shown c a n never = record {
    shown = [];
    all = none_of_one (IsColumnShown sys root d) c never;
    written = writes_none a;
    rows = omega arith;
    jobs = refl;
    bases = refl;
  }

  pub is_shown : (c : ℕ) (a b : Option (List ℕ)) (n m : Count) → IsColumnShown sys root d c →
      WritesLines a b (row_line (primitive_column d c sys.n) ∷ []) → m.rows ≡ n.rows + 1 → m.jobs ≡ n.jobs →
      m.bases ≡ n.bases → Shows (c ∷ []) a b n m
  is_shown c a b n m x w r j e = record {
    shown = c ∷ [];
    all = that_one (IsColumnShown sys root d) c x;
    written = w;
    rows = r;
    jobs = j;
    bases = e;
  }

  pub is_torn : (c : ℕ) (a b : Option (List ℕ)) → IsColumnShown sys root d c →
      WritesPartOfLines a b (row_line (primitive_column d c sys.n) ∷ []) → Tears (c ∷ []) a b
  is_torn c a b x w = record {
    shown = c ∷ [];
    once = (that_one (IsColumnShown sys root d) c x).once;
    only = (that_one (IsColumnShown sys root d) c x).only;
    written = w;
  }

  -- ---- one column more
  lines-append : (xs ys : List ℕ) → lines_of (xs ++ ys) ≡ lines_of xs ++ lines_of ys
  lines-append xs ys =
      subst (λ zs. lines_of_rows (column_rows sys d (xs ++ ys)) ≡ zs)
      (map-append row_line (column_rows sys d xs) (column_rows sys d ys))
      (ap lines_of_rows (map-append (λ c. primitive_column d c sys.n) xs ys))

  module _ (columns : List ℕ) (c : ℕ) (new : Contains columns c → ⊥) (a m : Option (List ℕ)) (n k : Count)
      (v : Shows columns a m n k) where
    pub shows_more : (b : Option (List ℕ)) (l : Count) → Shows (c ∷ []) m b k l → Shows (columns ++ c ∷ []) a b n l
    shows_more b l w = record {
      shown = v.shown ++ w.shown;
      all = lists_more (IsColumnShown sys root d) columns c new v.shown w.shown v.all w.all;
      written = subst (λ ls. WritesLines a b ls) (sym (lines-append v.shown w.shown))
          (writes_then a m b (lines_of v.shown) (lines_of w.shown) v.written w.written);
      rows = let s = length-append v.shown w.shown in let r = v.rows in let q = w.rows in omega (arith, s, r, q);
      jobs = let r = v.jobs in let q = w.jobs in omega (arith, r, q);
      bases = let r = v.bases in let q = w.bases in omega (arith, r, q);
    }

    pub tears_more : (b : Option (List ℕ)) (all : List ℕ) → ((x : ℕ) → Contains columns x → Contains all x) →
        Contains all c → Tears (c ∷ []) m b → Tears all a b
    tears_more b all within here w = record {
      shown = v.shown ++ w.shown;
      once = once_more (IsColumnShown sys root d) columns c new v.shown w.shown v.all w.once w.only;
      only = only_more (IsColumnShown sys root d) columns c new v.shown w.shown v.all all within here w.only;
      written = subst (λ ls. WritesPartOfLines a b ls) (sym (lines-append v.shown w.shown))
          (part_then a m b (lines_of v.shown) (lines_of w.shown) v.written w.written);
    }

  -- the columns among more
  pub tears_within : (columns all : List ℕ) (a b : Option (List ℕ)) → ((x : ℕ) → Contains columns x → Contains all x) →
      Tears columns a b → Tears all a b
  tears_within columns all a b within v = record {
    shown = v.shown;
    once = v.once;
    only = λ x k. (within x (v.only x k).0, (v.only x k).1);
    written = v.written;
  }
