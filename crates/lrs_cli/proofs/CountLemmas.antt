-- The numbers of a line that are still to be written, and what is written behind the last.
use Rattle.std.proofs.Common.{◌≡◌, ◌<◌, ◌≤◌, ◌+◌, ◌++◌, List, ℕ, [], length, drop, get_or, decimal, drop-cons, add-one, append_assoc, sym, subst, suc, ap, refl, arith, ◌∙◌, Result, Ok}
use Rattle.std.proofs.lemmas.List.{drop_all}
use Rattle.poly_io.specs.Written.{Prints}
use Rattle.poly_io.specs.declared.sink.Sink.{Ghosts as Sink}
use Rattle.poly_io.proofs.Parts.{Owes, prints_then}
use Rattle.lrs_cli.specs.declared.counts.CountBehind.{CountBehind}
use Rattle.lrs_cli.specs.Counts.{counts_text}

-- the next number, and those after it
pub counts_less : (cs : List CountBehind) (end : List ℕ) (i : ℕ) (d : CountBehind) → i < length cs →
    counts_text (drop i cs) end
    ≡ ((get_or cs i d).0.now ++ decimal (get_or cs i d).1) ++ counts_text (drop (i + 1) cs) end
counts_less cs end i d l =
    let c : CountBehind = get_or cs i d in
    rw (add-one, drop-cons cs i d l)
    (sym (append_assoc c.0.now (decimal c.1) (counts_text (drop (suc i) cs) end)))

no_counts : (end : List ℕ) → counts_text [] end ≡ end
no_counts end = refl

-- past the last number
pub counts_none : (cs : List CountBehind) (end : List ℕ) (i : ℕ) → length cs ≤ i → counts_text (drop i cs) end ≡ end
counts_none cs end i l = ap (λ ds. counts_text ds end) (drop_all i cs l) ∙ no_counts end

-- all that was owed was printed by the last call, or first bytes of it
pub owes_last : {O T E : Type 0} {sink : Sink O} {old a b : O} {r : Result T E} {text owed piece : List ℕ} →
    Owes sink old a text owed → owed ≡ piece → Prints sink a b r piece → Prints sink old b r text
owes_last {E = E} {sink = sink} {old = old} {a = a} {b = b} {r = r} o e p =
    let sent : Prints {T = Unit {0}} {E = E} sink old a (Ok tt) o.sent = record {
      whole = o.bytes;
      part = tt;
      cause = record { later = omega (arith, o.same); failed = tt; same = o.same };
    } in
    subst (λ t. Prints sink old b r t) (sym (o.split ∙ ap (λ l. o.sent ++ l) e)) (prints_then sent p)
