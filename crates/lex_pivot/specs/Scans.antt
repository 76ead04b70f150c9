-- What a scan of the rows of the root finds.
use Rattle.std.specs.Prelude.{◌≡◌, ℕ, ℤ, List, map}
use Rattle.poly_num.specs.Signs.{lex_sign_of}
use Rattle.search_laws.specs.ChildTest.{downward}
use Rattle.dictionary.specs.Views.{Dictionary}
use Rattle.lex_pivot.specs.Leads.{IsTop}
use Rattle.lex_pivot.specs.declared.scan.Lead.{Lead}

-- the sign of the greatest row of the root at which f is not 0, and how many labels of the root there are up to it
pub record IsLead (d : Dictionary) (root : List ℕ) (f : ℕ → ℤ) (lead : Lead) : Type 0 where
  pub sign : lead.sign ≡ lex_sign_of (map f (downward d.labels root))
  pub top : IsTop d root f lead.top
