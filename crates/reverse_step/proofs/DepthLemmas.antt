-- How deep a walk stands under the job's root, and how many children a cobasis has.
use Rattle.std.proofs.Common.{inl, inr, ℕ, zero, suc, ◌≤◌, List, [], ◌∷◌, length, ap, le_trans, arith}
use Rattle.poly_model.specs.Keys.{IsAscending}
use Rattle.poly_model.specs.Labels.{coordinates_from}
use Rattle.poly_model.specs.LexOrder.{rows_in}
use Rattle.poly_model.specs.Spaces.{Space}
use Rattle.poly_model.specs.Dictionaries.{Table}
use Rattle.poly_model.specs.Tree.{IsFeasibleRoot, IsLexFeasible, IsAbove}
use Rattle.dictionary_laws.proofs.KeyExchange.{ascending_distinct}
use Rattle.tree_laws.proofs.Numbers.{key_row}
use Rattle.search_laws.specs.Shares.{ListsAll, IsChild}
use Rattle.search_laws.proofs.OnceLists.{no_longer}
use Rattle.search_laws.proofs.StepBounds.{few_rows}
use Rattle.reverse_step.specs.Waiting.{AreAlong, Wait}
use Rattle.reverse_step.specs.Walks.{Walk}
use Rattle.search_laws.specs.Shares.{IsChildAt}
use Rattle.reverse_step.specs.Runs.{HasRun}
use Rattle.reverse_step.proofs.Along.{some_along, lists_children}

-- ---- depths
above_here : (space : Space) (root job : List ℕ) (depth : ℕ) (key : List ℕ) (at : ℕ) (ws : List (List ℕ)) →
    Wait (IsChildAt space root) job depth key at ws → IsAbove space root depth key job
above_here space root job zero key at ws w = w.0
above_here space root job (suc depth) key at ws (n, cs, parent, s, rest, along, child, up, e) =
    let c = child.child in
    (c.0, c.1.dictionary.dictionary, parent, c.2, above_here space root job depth parent _ rest up)

-- the job's root is so many parents above
pub stands_at_depth : (space : Space) (home : Table) (first walk : Walk) (visited given : List (List ℕ)) (left taken : ℕ)
    (h : HasRun space home first walk visited given left taken) → IsAbove space walk.root h.depth walk.dict.key walk.job
stands_at_depth space home first walk visited given left taken h =
    above_here space walk.root walk.job h.depth walk.dict.key walk.at h.waiting h.waits

-- a child is one deeper
pub child_depth : (space : Space) (root job key child : List ℕ) (depth : ℕ) → IsChild space root key child →
    IsAbove space root depth key job → IsAbove space root (suc depth) child job
child_depth space root job key child depth c above = (c.0, c.1.dictionary.dictionary, key, c.2, above)

-- ---- children
along_few : (space : Space) (root key ss : List ℕ) (cs : List (List ℕ)) → AreAlong (IsChildAt space root) key ss cs →
    length cs ≤ length ss
along_few space root key [] cs e = let l = ap length e in omega (arith, l)
along_few space root key (s ∷ ss) cs (inl a) = let l = along_few space root key ss cs a.1 in omega (arith, l)
along_few space root key (s ∷ ss) cs (inr (child, rest, c, a, e)) =
    let l = along_few space root key ss rest a in let m = ap length e in omega (arith, l, m)

module _ (space : Space) (root : List ℕ) (home : Table) (h : IsFeasibleRoot space root home)
    (up : IsAscending (rows_in space.labels)) (key : List ℕ) (t : Table) (f : IsLexFeasible space root key t) where
  -- a cobasis of rows has no more labels than there are rows
  pub few_labels : length key ≤ coordinates_from
  few_labels =
      le_trans
      (no_longer key (rows_in space.labels) (ascending_distinct key f.dictionary.ascending)
      (key_row space key t f.dictionary))
      (few_rows space up)

  -- and no more children than labels
  pub few_children : (cs : List (List ℕ)) → ListsAll (IsChild space root key) cs → length cs ≤ coordinates_from
  few_children cs l =
      let distinct = ascending_distinct (rows_in space.labels) up in
      let all = some_along space root home h distinct key t f key (λ k c. c) in
      let each = lists_children space root home h distinct key t f all.0 all.1 in
      le_trans (no_longer cs all.0 l.once (λ c m. each.each c (l.only c m)))
      (le_trans (along_few space root key key all.0 all.1) few_labels)
