-- The numbers of a last line, read in one way.
use Rattle.std.proofs.Common.{◌≡◌, ◌<◌, ◌^◌, ℕ, List, [], ◌∷◌, ◌++◌, length, Some, Bor, refl, sym, ap, ◌∙◌, append-nil, drop, inl, arith}
use Rattle.std.specs.Prelude.{decimal}
use Rattle.plain_text.specs.Cuts.{GoesOnWith}
use Rattle.plain_text.specs.Texts.{IsFrontReadOf}
use Rattle.plain_text.proofs.CutLemmas.{one_cut}
use Rattle.plain_text.proofs.NumberLemmas.{decimal_tells, decimal_lacks}
use Rattle.poly_model.specs.declared.listed.Count.{Count}
use Rattle.job_text.specs.Replies.{EndsAt, end_words}

abbrev pub bases_text : Count → List ℕ
bases_text c = 32 ∷ (decimal c.bases ++ [])

abbrev pub jobs_text : Count → List ℕ
jobs_text c = 32 ∷ (decimal c.jobs ++ bases_text c)

pub end_pieces : (c : Count) → end_words c ≡ 32 ∷ (decimal c.rows ++ jobs_text c)
end_pieces c = ap (λ (l : List ℕ). 32 ∷ (decimal c.rows ++ (32 ∷ (decimal c.jobs ++ (32 ∷ l))))) (sym (append-nil (decimal c.bases)))

pub record AreSmall (c : Count) : Type 0 where
  pub rows : c.rows < 2 ^ 64
  pub jobs : c.jobs < 2 ^ 64
  pub bases : c.bases < 2 ^ 64

pub small : (rows jobs : ℕ) (c : Count) → EndsAt rows jobs c → rows < 2 ^ 64 → jobs < 2 ^ 64 → AreSmall c
small rows jobs c h p q = record { rows = omega (arith, h.rows_are, p); jobs = omega (arith, h.jobs_are, q); bases = omega (arith, h.most) }

pub count_step : (m n : ℕ) (rest more text : List ℕ) → m < 2 ^ 64 → n < 2 ^ 64 → GoesOnWith 32 rest → GoesOnWith 32 more
    → text ≡ 32 ∷ (decimal m ++ rest) → text ≡ 32 ∷ (decimal n ++ more) → (m ≡ n) × (rest ≡ more)
count_step m n rest more text p q g h is same =
    let c = one_cut 32 (decimal m) rest (decimal n) more (decimal_lacks 32 m (omega (arith, p)) (inl (omega arith))) g
    (decimal_lacks 32 n (omega (arith, q)) (inl (omega arith))) h (ap (λ (l : List ℕ). drop 1 l) (sym is ∙ same)) in
    (decimal_tells m n (omega (arith, p)) (omega (arith, q)) c.0, c.1)

-- ---- numbers that are read one behind the other: each is that of the line, and what is left is its rest

-- this number was read behind one blank in front of a text, and this is left
abbrev pub IsCountInFront : List ℕ → ℕ × Bor (List ℕ) → Type 0
IsCountInFront text found = IsFrontReadOf (λ n. n < 2 ^ 64) (λ n. 32 ∷ decimal n) text (Some found)

pub rows_in_front : {text : List ℕ} {rows : ℕ × Bor (List ℕ)} (c : Count) → AreSmall c → text ≡ end_words c → IsCountInFront text rows
    → (rows.0 ≡ c.rows) × (rows.1.now ≡ jobs_text c)
rows_in_front {text = text} {rows = rows} c small is read =
    let n = read.some in
    count_step rows.0 c.rows rows.1.now (jobs_text c) text n.0 small.rows n.2 refl n.1 (is ∙ end_pieces c)

pub jobs_in_front : {text : List ℕ} {rows jobs : ℕ × Bor (List ℕ)} (c : Count) → AreSmall c → text ≡ end_words c
    → IsCountInFront text rows → IsCountInFront rows.1.now jobs → (jobs.0 ≡ c.jobs) × (jobs.1.now ≡ bases_text c)
jobs_in_front {rows = rows} {jobs = jobs} c small is first read =
    let n = read.some in
    count_step jobs.0 c.jobs jobs.1.now (bases_text c) rows.1.now n.0 small.jobs n.2 refl n.1 (rows_in_front c small is first).1

pub bases_in_front : {text : List ℕ} {rows jobs bases : ℕ × Bor (List ℕ)} (c : Count) → AreSmall c → text ≡ end_words c
    → IsCountInFront text rows → IsCountInFront rows.1.now jobs → IsCountInFront jobs.1.now bases
    → (bases.0 ≡ c.bases) × (bases.1.now ≡ [])
bases_in_front {jobs = jobs} {bases = bases} c small is first second read =
    let n = read.some in
    count_step bases.0 c.bases bases.1.now [] jobs.1.now n.0 small.bases n.2 tt n.1 (jobs_in_front c small is first second).1

pub empty_from_length : (text : List ℕ) → length text ≡ 0 → text ≡ []
empty_from_length [] e = refl
empty_from_length (b ∷ text) e = absurd (omega (arith, e))

pub end_read : (o : Count) {rows jobs : ℕ} {text a b end : List ℕ} → rows ≡ o.rows → jobs ≡ o.jobs → text ≡ 32 ∷ (decimal rows ++ a)
    → a ≡ 32 ∷ (decimal jobs ++ b) → b ≡ 32 ∷ (decimal o.bases ++ end) → end ≡ [] → text ≡ end_words o
end_read o p q first second third none =
    first ∙ (λ i. 32 ∷ (decimal (p i) ++ second i)) ∙ (λ i. 32 ∷ (decimal o.rows ++ (32 ∷ (decimal (q i) ++ third i))))
    ∙ (λ i. 32 ∷ (decimal o.rows ++ (32 ∷ (decimal o.jobs ++ (32 ∷ (decimal o.bases ++ none i)))))) ∙ sym (end_pieces o)
