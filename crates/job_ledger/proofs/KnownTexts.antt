-- Known layouts, which hold the definitions to account: a payload `ab`, and a `c` behind it.
use Rattle.std.specs.Prelude.{◌≡◌, [], ◌∷◌, ◌++◌, length, codes, refl}
use Rattle.job_ledger.specs.Records.{digits, header, layout}
use Rattle.job_ledger.specs.Ledgers.{end_of, grown, need_of, new_ledger}

two : header 2 ≡ codes "0000000000002\n"
unfolding digits
two = refl

one_record : layout (codes "ab" ∷ []) ++ 0 ∷ [] ≡ 245 ∷ (codes "0000000000002\nab" ++ 0 ∷ [])
unfolding digits
one_record = refl

file_size : length (layout (codes "ab" ∷ []) ++ 0 ∷ []) ≡ 18
unfolding digits
file_size = refl

second_gate : end_of (2 ∷ []) ≡ 17
second_gate = refl

third_gate : end_of (2 ∷ 1 ∷ []) ≡ 33
third_gate = refl

then_a_byte : need_of (grown (new_ledger 33) 2) 1 ≡ 34
then_a_byte = refl
