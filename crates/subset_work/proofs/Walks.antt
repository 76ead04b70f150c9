-- What a walk has met and written, piece by piece.
use Rattle.std.proofs.Common.{◌≡◌, ◌⊎◌, ap₂, ℕ, suc, ◌+◌, ◌≤◌, ◌<◌, List, [], ◌∷◌, ◌++◌, append_assoc, length, length-append, Option, refl, sym, ap, subst, ◌∙◌, arith}
use Rattle.std.proofs.lemmas.List.Elements.{All-from_recursion}
use Rattle.poly_num.specs.Vectors.{Vector}
use Rattle.poly_model.specs.declared.listed.Count.{Count}
use Rattle.poly_model.specs.Systems.{Polyhedron}
use Rattle.search_laws.specs.Shares.{ListsAll}
use Rattle.work_core.specs.Laws.{HasShares}
use Rattle.work_core.specs.Meanings.{Meaning, StandsUnder, IsKeyBelow}
use Rattle.work_core.specs.Orders.{Met, visited, given_back, AreChildren, keys_visited}
use Rattle.work_core.specs.ReplyLines.{row_line, job_line, rows_in_lines, keys_in_lines, WritesLines, IsCutRun, IsTornRun}
use Rattle.work_core.specs.Searches.{by_subsets}
use Rattle.work_core.specs.Splits.{AreWithin}
use Rattle.work_core.specs.Subsets.{IsSubsetKey, IsSubsetChildAt, IsShownAtList, InSubset}
use Rattle.work_core.proofs.SubsetShares.{has_shares}
use Rattle.work_core.proofs.WalkLemmas.{under_itself}
use Rattle.work_core.proofs.WalkedLemmas as lines
use Rattle.job_laws.specs.Parts.{IsPart}
use Rattle.job_laws.proofs.MetLists.{visited-append, given_back-append}
use Rattle.job_laws.proofs.PartLemmas as parts
use Rattle.subset_work.specs.Counts.{IsOneBase}
use Rattle.subset_work.specs.Walked.{IsFar, AreShownAt, HasWalked}

-- ---- runs that stopped
module _ (work : Meaning) where
  -- some lines, and then others
  pub cut_then : (key : List ℕ) (old now new : Option (List ℕ)) → IsCutRun work key old now → IsCutRun work key now new →
      IsCutRun work key old new
  cut_then key old now new c d = record {
    lines = c.lines ++ d.lines;
    written = lines.writes_then old now new c.lines d.lines c.written d.written;
    within = lines.within-append work key c.lines d.lines c.within d.within;
  }

  pub torn_then : (key : List ℕ) (old now new : Option (List ℕ)) → IsCutRun work key old now → IsTornRun work key now new →
      IsTornRun work key old new
  torn_then key old now new c d = record {
    lines = c.lines ++ d.lines;
    written = lines.part_then old now new c.lines d.lines c.written d.written;
    within = lines.within-append work key c.lines d.lines c.within d.within;
  }

  -- what stopped under a key stopped under the one above it
  module _ (shares : HasShares work) (child key : List ℕ) (is : work.is_key child) (under : StandsUnder work child key)
      (old new : Option (List ℕ)) where
    pub cut_above : IsCutRun work child old new → IsCutRun work key old new
    cut_above c = record {
      lines = c.lines;
      written = c.written;
      within = lines.within_above work shares child key is under c.lines c.within;
    }

    pub torn_above : IsTornRun work child old new → IsTornRun work key old new
    torn_above c = record {
      lines = c.lines;
      written = c.written;
      within = lines.within_above work shares child key is under c.lines c.within;
    }

module _ (p : Polyhedron) where
  pub shown_append : (ks ls : List (List ℕ)) (xs ys : List Vector) → AreShownAt p ks xs → AreShownAt p ls ys →
      AreShownAt p (ks ++ ls) (xs ++ ys)
  shown_append [] ls xs ys e h = subst (λ zs. AreShownAt p ls (zs ++ ys)) (sym e) h
  shown_append (k ∷ ks) ls xs ys (here, rest, e, l, g) h =
      (here, rest ++ ys, ap (λ zs. zs ++ ys) e ∙ append_assoc here rest ys, l, shown_append ks ls rest ys g h)

  module _ (key : List ℕ) (most longest : ℕ) where
    abbrev Part : ℕ → List (List ℕ) → List Met → ℕ → Type 0
    Part n keys met m = IsPart (IsSubsetChildAt p) (IsFar longest) most n keys met m

    abbrev Walked : List (List ℕ) → Option (List ℕ) → Option (List ℕ) → Count → Count → Type 0
    Walked keys old new c d = HasWalked p key most longest keys old new c d

    -- what one key leaves lies under it
    none_within : AreWithin (by_subsets p) key [] []
    none_within = record {
      rows_within = All-from_recursion (InSubset p key) [] tt;
      keys_within = All-from_recursion (IsKeyBelow (by_subsets p) key) [] tt;
    }

    key_within : IsSubsetKey p key → AreWithin (by_subsets p) key [] (key ∷ [])
    key_within is = record {
      rows_within = All-from_recursion (InSubset p key) [] tt;
      keys_within = All-from_recursion (IsKeyBelow (by_subsets p) key) (key ∷ [])
          ((is, under_itself (by_subsets p) (has_shares p) key), tt);
    }

    row_within : (v : Vector) → InSubset p key v → AreWithin (by_subsets p) key (v ∷ []) []
    row_within v h = record {
      rows_within = All-from_recursion (InSubset p key) (v ∷ []) (h, tt);
      keys_within = All-from_recursion (IsKeyBelow (by_subsets p) key) [] tt;
    }

    -- no key
    pub walked_none : (old : Option (List ℕ)) (c : Count) → Walked [] old old c c
    walked_none old c = record {
      lines = [];
      written = lines.writes_none old;
      within = none_within;
      met = [];
      part = parts.part_none (IsSubsetChildAt p) (IsFar longest) most c.bases;
      shown = refl;
      given = refl;
      rows = omega arith;
      jobs = omega arith;
    }

    -- some keys, and then others
    pub walked_then : (ks ls : List (List ℕ)) (old now new : Option (List ℕ)) (c d e : Count) → Walked ks old now c d →
        Walked ls now new d e → Walked (ks ++ ls) old new c e
    walked_then ks ls old now new c d e v w =
        let rows = lines.rows-append v.lines w.lines in
        let keys = lines.keys-append v.lines w.lines in
        let both = v.lines ++ w.lines in
        record {
          lines = both;
          written = lines.writes_then old now new v.lines w.lines v.written w.written;
          within = lines.within-append (by_subsets p) key v.lines w.lines v.within w.within;
          met = v.met ++ w.met;
          part = parts.part_then (IsSubsetChildAt p) (IsFar longest) most c.bases d.bases e.bases ks ls v.met w.met v.part w.part;
          shown = subst (λ ms. AreShownAt p ms (rows_in_lines both)) (sym (visited-append v.met w.met))
              (subst (λ xs. AreShownAt p (keys_visited v.met ++ keys_visited w.met) xs) (sym rows)
              (shown_append (keys_visited v.met) (keys_visited w.met) (rows_in_lines v.lines) (rows_in_lines w.lines)
              v.shown w.shown));
          given = keys ∙ ap₂ (λ gs hs. gs ++ hs) v.given w.given ∙ sym (given_back-append v.met w.met);
          rows =
              let r = ap length rows in let l = length-append (rows_in_lines v.lines) (rows_in_lines w.lines) in
              omega (arith, r, l, v.rows, w.rows);
          jobs =
              let r = ap length keys in let l = length-append (keys_in_lines v.lines) (keys_in_lines w.lines) in
              omega (arith, r, l, v.jobs, w.jobs);
        }

    -- the key is given back
    pub walked_give : (old new : Option (List ℕ)) (c d : Count) → IsSubsetKey p key → WritesLines old new (job_line key ∷ []) →
        d.rows ≡ c.rows → d.jobs ≡ c.jobs + 1 → d.bases ≡ c.bases →
        (most ≤ c.bases) ⊎ IsFar longest key → Walked (key ∷ []) old new c d
    walked_give old new c d is a r j b stop = record {
      lines = job_line key ∷ [];
      written = a;
      within = key_within is;
      met = given_back key ∷ [];
      part = subst (λ m. Part c.bases (key ∷ []) (given_back key ∷ []) m) (sym b)
          (parts.part_given_back (IsSubsetChildAt p) (IsFar longest) most c.bases key stop);
      shown = refl;
      given = refl;
      rows = omega (arith, r);
      jobs = j;
    }

    -- the key is visited, and then its children
    module _ (old new : Option (List ℕ)) (c base d : Count) (children : List (List ℕ)) (one : IsOneBase c base)
        (few : c.bases < most) (near : length key < longest) (are : AreChildren (IsSubsetChildAt p) key children) where
      high : IsFar longest key → ⊥
      high far = omega (arith, near, far)

      next : base.bases ≡ suc c.bases
      next = omega (arith, one.bases)

      pub walked_visit : ListsAll (IsShownAtList p key) [] → Walked children old new base d → Walked (key ∷ []) old new c d
      walked_visit none w = record {
        lines = w.lines;
        written = w.written;
        within = w.within;
        met = visited key ∷ w.met;
        part = parts.part_visited (IsSubsetChildAt p) (IsFar longest) most c.bases d.bases key children w.met few high are
            (subst (λ n. Part n children w.met d.bases) next w.part);
        shown = ([], rows_in_lines w.lines, refl, none, w.shown);
        given = w.given;
        rows = let r = w.rows in omega (arith, r, one.rows);
        jobs = let j = w.jobs in omega (arith, j, one.jobs);
      }

    -- the key is visited, shows one vector and has no children
    pub walked_show : (v : Vector) (old new : Option (List ℕ)) (c d : Count) → c.bases < most → length key < longest →
        AreChildren (IsSubsetChildAt p) key [] → ListsAll (IsShownAtList p key) (v ∷ []) →
        WritesLines old new (row_line v ∷ []) → InSubset p key v → d.rows ≡ c.rows + 1 →
        d.jobs ≡ c.jobs → d.bases ≡ c.bases + 1 → Walked (key ∷ []) old new c d
    walked_show v old new c d few near are l a in_share r j b =
        let next : suc c.bases ≡ d.bases = omega (arith, b) in
        record {
          lines = row_line v ∷ [];
          written = a;
          within = row_within v in_share;
          met = visited key ∷ [];
          part = subst (λ m. Part c.bases (key ∷ []) (visited key ∷ []) m) next
              (parts.part_visited (IsSubsetChildAt p) (IsFar longest) most c.bases (suc c.bases) key [] [] few
              (λ far. omega (arith, near, far)) are
              (parts.part_none (IsSubsetChildAt p) (IsFar longest) most (suc c.bases)));
          shown = (v ∷ [], [], refl, l, refl);
          given = refl;
          rows = r;
          jobs = omega (arith, j);
        }

  -- where it is up to here, it may stop between two lines
  pub walked_cut : (key : List ℕ) (most longest : ℕ) (keys : List (List ℕ)) (old new : Option (List ℕ)) (c d : Count) →
      HasWalked p key most longest keys old new c d → IsCutRun (by_subsets p) key old new
  walked_cut key most longest keys old new c d w = record { lines = w.lines; written = w.written; within = w.within }

  -- what was met under a child was met under the key
  pub walked_above : (child key : List ℕ) → IsSubsetKey p child → StandsUnder (by_subsets p) child key → (most longest : ℕ) (keys : List (List ℕ))
      (old new : Option (List ℕ)) (c d : Count) → HasWalked p child most longest keys old new c d → HasWalked p key most longest keys old new c d
  walked_above child key is under most longest keys old new c d w = record {
    lines = w.lines;
    written = w.written;
    within = lines.within_above (by_subsets p) (has_shares p) child key is under w.lines w.within;
    met = w.met;
    part = w.part;
    shown = w.shown;
    given = w.given;
    rows = w.rows;
    jobs = w.jobs;
  }
