-- Words ask for one line at most.
use Rattle.std.proofs.Common.{◌≡◌, ℕ, List, refl, sym, ap, ap₂, subst, ◌∙◌, Option, Some}
use Rattle.clap.specs.Words.{Row, Text}
use Rattle.example_polys.specs.declared.kind.ExampleKind.{ExampleKind}
use Rattle.example_polys.specs.declared.kind.ExampleKind.TheVariants.{Cube, Cross, Product, Pyramid}
use Rattle.command_line.specs.Laws.{IsSameLine}
use Rattle.command_line.specs.Lines.{AskFor, Says, SaysOptions, name_of, word_of}
use Rattle.command_line.specs.declared.lines.Line.{Line}
use Rattle.command_line.specs.declared.lines.Line.TheVariants.{Convert, Job, Demo, Run, Resume, Status}
use Rattle.command_line.specs.declared.lines.WorkOptions.{WorkOptions}
use Rattle.command_line.proofs.FoundWords.{same_some}
use Rattle.command_line.proofs.NamedLines.{by_convert, by_job, by_demo, by_run, by_resume, by_status, unlike}

one_kind : (a b : ExampleKind) → word_of a ≡ word_of b → a ≡ b
one_kind Cube Cube e = refl
one_kind Cube Cross e = absurd (unlike _ _ refl e)
one_kind Cube Product e = absurd (unlike _ _ refl e)
one_kind Cube Pyramid e = absurd (unlike _ _ refl e)
one_kind Cross Cube e = absurd (unlike _ _ refl e)
one_kind Cross Cross e = refl
one_kind Cross Product e = absurd (unlike _ _ refl e)
one_kind Cross Pyramid e = absurd (unlike _ _ refl e)
one_kind Product Cube e = absurd (unlike _ _ refl e)
one_kind Product Cross e = absurd (unlike _ _ refl e)
one_kind Product Product e = refl
one_kind Product Pyramid e = absurd (unlike _ _ refl e)
one_kind Pyramid Cube e = absurd (unlike _ _ refl e)
one_kind Pyramid Cross e = absurd (unlike _ _ refl e)
one_kind Pyramid Product e = absurd (unlike _ _ refl e)
one_kind Pyramid Pyramid e = refl

same_name : (p q : Text × List Row) → Some p ≡ Some q → p.0 ≡ q.0
same_name p q e = ap (λ (x : Text × List Row). x.0) (same_some p q e)

same_rows : (p q : Text × List Row) → Some p ≡ Some q → p.1 ≡ q.1
same_rows p q e = ap (λ (x : Text × List Row). x.1) (same_some p q e)

-- what was found is one number at most, and one name
one_number : {rest : Option ℕ} (n m : ℕ) → rest ≡ Some n → rest ≡ Some m → n ≡ m
one_number n m a b = same_some n m (sym a ∙ b)

one_text : {first : Option Text} (s t : Text) → first ≡ Some s → first ≡ Some t → s ≡ t
one_text s t a b = same_some s t (sym a ∙ b)

same_numbers : (o p : WorkOptions) → o.workers ≡ p.workers → o.bases ≡ p.bases → o.depth ≡ p.depth → o.lmin ≡ p.lmin →
    o.lost ≡ p.lost → o ≡ p
same_numbers o p a b c d e = same
  where
    five : (workers bases depth lmin lost : ℕ) → WorkOptions
    five workers bases depth lmin lost =
        record { workers = workers; bases = bases; depth = depth; lmin = lmin; lost = lost }

    same : five o.workers o.bases o.depth o.lmin o.lost ≡ five p.workers p.bases p.depth p.lmin p.lost
    same = rw (a, b, c, d, e) refl

one_options : (rows : List Row) (o p : WorkOptions) → SaysOptions rows o → SaysOptions rows p → o ≡ p
one_options rows o p a b =
    same_numbers o p (one_number _ _ a.workers b.workers) (one_number _ _ a.bases b.bases) (one_number _ _ a.depth b.depth)
    (one_number _ _ a.lmin b.lmin) (one_number _ _ a.lost b.lost)

by_name : (one other : Line) → name_of one ≡ name_of other → (rows : List Row) → Says rows one → Says rows other →
    IsSameLine one other
by_name Convert other e rows a b = by_convert (λ line. IsSameLine Convert line) refl other e
by_name Job other e rows a b = by_job (λ line. IsSameLine Job line) refl other e
by_name (Demo k n) other e rows a b = by_demo (λ line. Says rows line → IsSameLine (Demo k n) line)
    (λ l m b. ap₂ (λ (x : ExampleKind) (y : ℕ). Demo x y) (one_kind k l (one_text _ _ a.0 b.0)) (one_number _ _ a.1 b.1)) other e b
by_name (Run ledger o) other e rows a b = by_run (λ line. Says rows line → IsSameLine (Run ledger o) line)
    (λ l p b. (one_text _ _ a.0 b.0, one_options rows o p a.1 b.1)) other e b
by_name (Resume ledger o) other e rows a b = by_resume (λ line. Says rows line → IsSameLine (Resume ledger o) line)
    (λ l p b. (one_text _ _ a.0 b.0, one_options rows o p a.1 b.1)) other e b
by_name (Status ledger) other e rows a b = by_status (λ line. Says rows line → IsSameLine (Status ledger) line)
    (λ l b. one_text _ _ a b) other e b

pub one_line : (words : List Text) (one other : Line) → AskFor words one → AskFor words other → IsSameLine one other
one_line words one other a b =
    let both = sym a.command ∙ b.command in
    by_name one other (same_name (name_of one, a.rows) (name_of other, b.rows) both) a.rows a.says
    (subst (λ rows. Says rows other) (sym (same_rows (name_of one, a.rows) (name_of other, b.rows) both)) b.says)
