-- The share of the root is the extreme vectors of the space, and each stands in a share once.
use Rattle.std.proofs.Common.{◌↔◌, ℕ, List}
use Rattle.poly_num.specs.Vectors.{Vector}
use Rattle.poly_model.specs.Spaces.{Space}
use Rattle.poly_model.specs.Dictionaries.{Table}
use Rattle.poly_model.specs.LexOrder.{rows_in}
use Rattle.poly_model.specs.Tree.{IsFeasibleRoot, IsExtremeIn}
use Rattle.linear_laws.specs.Distinct.{AreDistinct}
use Rattle.tree_laws.proofs.ShownOnce.{shown_once, only_extreme}
use Rattle.tree_laws.proofs.OneRay.{one_key}
use Rattle.search_laws.specs.Shares.{InShare, IsShownBy}
use Rattle.search_laws.specs.SharesOnce.{ShowsOnce}
use Rattle.search_laws.proofs.ShareParts.{root_has_all}
use Rattle.search_laws.proofs.ShareOnce.{RaysAreOne, one_place, shares_meet, own_or_child, one_child, not_shown_and_waiting, more_shown}

pub share_of_root : (space : Space) (root : List ℕ) (home : Table) → IsFeasibleRoot space root home →
    AreDistinct (rows_in space.labels) → (y : Vector) → InShare space root root y ↔ IsExtremeIn space y
share_of_root space root home h distinct y = (
  λ w. extreme ((root_has_all space root home h y).0 w),
  λ e. let k = shown_once space root home y e h distinct in
      (root_has_all space root home h y).1 (k.key, (k.table, k.feasible, k.place, k.shown)),
)
  where
    extreme : (key : List ℕ) × IsShownBy space root key y → IsExtremeIn space y
    extreme (key, (t, f, place, s)) = only_extreme space root key t place y f s

-- a vector is shown along columns of one key at most
pub rays_are_one : (space : Space) (root : List ℕ) (home : Table) → IsFeasibleRoot space root home →
    RaysAreOne space root
rays_are_one space root home h key other t u s r y f g x z =
    one_key space root home h.dictionary y key other t u s r f g x.0 z.0 x.1 z.1

pub shows_once : (space : Space) (root : List ℕ) (home : Table) → IsFeasibleRoot space root home →
    AreDistinct (rows_in space.labels) → ShowsOnce space root
shows_once space root home h distinct =
    let rays = rays_are_one space root home h in
    record {
      all = share_of_root space root home h distinct;
      one = one_place space root rays;
      meet = shares_meet space root rays home h distinct;
      own_or_child = own_or_child space root rays home h distinct;
      one_child = one_child space root rays home h distinct;
      shown_or_waiting = not_shown_and_waiting space root rays;
      visit = more_shown space root rays;
    }
