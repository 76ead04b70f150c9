-- A job has one run and one outcome, for both works; and the order of its rows and keys is free.
use Rattle.std.proofs.Common.{◌≡◌, List, [], ◌∷◌, length, sym, ap, subst, ◌∙◌}
use Rattle.std.specs.List.{Contains}
use Rattle.search_laws.specs.Shares.{ListsAll}
use Rattle.work_core.specs.Orders.{keys_visited, keys_given_back}
use Rattle.work_core.specs.Outcomes.{IsShownAtOne, IsAtDepth}
use Rattle.work_core.specs.Searches.{meaning_of}
use Rattle.job_laws.specs.OneOutcome.{JobsHaveOneRun, JobsHaveOneOutcome, SameRowsAndKeysServe}
use Rattle.job_laws.proofs.OneRun.{one_run}
use Rattle.job_laws.proofs.Branches.{works_have_branches}

pub jobs_have_one_run : JobsHaveOneRun
jobs_have_one_run s begins key budget met other x y =
    let work = meaning_of s in
    one_run work.is_child_at (works_have_branches s begins).one_at (IsAtDepth work key budget) budget.bases 0 (key ∷ []) met
    other x y

module _ {X : Type 0} (P : X → Type 0) where
  -- two lists of the same members
  same_members : (xs ys : List X) → ListsAll P xs → ListsAll P ys → ListsAll (Contains xs) ys
  same_members xs ys l m = record {
    once = m.once;
    only = λ x c. l.each x (m.only x c);
    each = λ x c. m.each x (l.only x c);
  }

  -- and what such a list lists
  members_too : (xs ys : List X) → ListsAll P xs → ListsAll (Contains xs) ys → ListsAll P ys
  members_too xs ys l m = record {
    once = m.once;
    only = λ x c. l.only x (m.only x c);
    each = λ x h. m.each x (l.each x h);
  }

pub jobs_have_one_outcome : JobsHaveOneOutcome
jobs_have_one_outcome s begins key budget rows keys bases rows' keys' bases' f g = record {
  rows_are = same_members (IsShownAtOne (meaning_of s) (keys_visited f.met)) rows rows' f.rows_are
      (subst (λ met. ListsAll (IsShownAtOne (meaning_of s) (keys_visited met)) rows') (sym same) g.rows_are);
  keys_are = same_members (Contains (keys_given_back f.met)) keys keys' f.keys_are
      (subst (λ met. ListsAll (Contains (keys_given_back met)) keys') (sym same) g.keys_are);
  bases_are = g.bases_are ∙ ap (λ met. length (keys_visited met)) (sym same) ∙ sym f.bases_are;
}
  where
    same : f.met ≡ g.met
    same = jobs_have_one_run s begins key budget f.met g.met f.is_run g.is_run

pub same_rows_and_keys_serve : SameRowsAndKeysServe
same_rows_and_keys_serve s key budget rows keys bases rows' keys' bases' f same = record {
  met = f.met;
  is_run = f.is_run;
  rows_are = members_too (IsShownAtOne (meaning_of s) (keys_visited f.met)) rows rows' f.rows_are same.rows_are;
  keys_are = members_too (Contains (keys_given_back f.met)) keys keys' f.keys_are same.keys_are;
  bases_are = same.bases_are ∙ f.bases_are;
}
