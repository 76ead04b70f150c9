-- A ledger and the file that it knows.
use Rattle.std.proofs.Common.{◌≡◌, ◌∙◌, ap, ℕ, List, [], ◌∷◌, ◌++◌, length, Option, Some, sym}
use Rattle.std.proofs.lemmas.List.{map-append}
use Rattle.disk_core.specs.Images.{Images, Only}
use Rattle.job_ledger.specs.Ledgers.{IsLedgerAt, Known, end_of, grown, payload_sizes}
use Rattle.job_ledger.specs.Records.{Records}
use Rattle.job_ledger.specs.Walks.{Stand}
use Rattle.job_ledger.proofs.WalkLemmas.{length-layout}

-- the closed gate stands where the ledger knows
pub stand : (ledger : Known) (ps : List (List ℕ)) (seen : Option (List ℕ)) (images : Images) (at : IsLedgerAt ledger ps seen images) (gate : ℕ) → gate ≡ end_of ledger.sizes → Stand ps at.file gate
stand ledger ps seen images at gate is = record { has = at.has; place = is ∙ ap end_of at.sizes ∙ sym (length-layout ps) }

-- it knows one record more
pub is_at_more : (ledger new : Known) (ps : List (List ℕ)) (p file : List ℕ) (seen : Option (List ℕ)) (images : Images) → ledger.sizes ≡ payload_sizes ps → new ≡ grown ledger (length p)
    → seen ≡ Some file → Only file images → Records (ps ++ p ∷ []) file → IsLedgerAt new (ps ++ p ∷ []) seen images
is_at_more ledger new ps p file seen images sizes is told only has = record {
  file = file;
  told = told;
  has = has;
  sizes = ap (λ (k : Known). k.sizes) is ∙ ap (λ (l : List ℕ). l ++ length p ∷ []) sizes ∙ sym (map-append length ps (p ∷ []));
  settled = only;
}
