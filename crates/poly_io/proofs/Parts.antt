-- A text printed in pieces: what the pieces print gives what the whole prints. Each printer is proved with these.
-- In a row of calls with `?`: `prints_then` for each piece that went out, `prints_cut` at the one that failed, and
-- `prints_part` where more than one was not tried.
-- In a loop: `Owes` as the invariant, `owes_less` after a piece, and at the exits `owes_none` and `owes_cut`.
use Rattle.std.proofs.Common.{◌≡◌, ℕ, List, [], ◌++◌, refl, sym, ap, subst, ◌∙◌, ◌-◌, length, take, drop, append_assoc, append-nil, take-append-drop, arith, Option, Result, Ok, Err, IsErr}
use Rattle.std.proofs.lemmas.List.{take_rest}
use Rattle.std.specs.Io.KnownBytes.{Appends}
use Rattle.std.proofs.KnownBytes.{Appends-nil, Appends-trans}
use Rattle.poly_io.specs.declared.sink.Sink.{Ghosts as Sink}
use Rattle.poly_io.specs.Causes.{HasCause}
use Rattle.poly_io.specs.Written.{AppendsPart, Prints}

-- ---- first bytes of a text

-- a text that was written is written in part
pub part_of_all : (a b : Option (List ℕ)) (text : List ℕ) → Appends a b text → AppendsPart a b text
part_of_all a b text p = record { sent = text; unsent = []; split = sym (append-nil text); bytes = p }

-- the text stopped within its first piece
pub part_before : {a b : Option (List ℕ)} {s : List ℕ} (t : List ℕ) → AppendsPart a b s → AppendsPart a b (s ++ t)
part_before t p = record {
  sent = p.sent;
  unsent = p.unsent ++ t;
  split = ap (λ l. l ++ t) p.split ∙ append_assoc p.sent p.unsent t;
  bytes = p.bytes;
}

-- the text stopped after its first piece
pub part_after : (a b c : Option (List ℕ)) (s t : List ℕ) → Appends a b s → AppendsPart b c t → AppendsPart a c (s ++ t)
part_after a b c s t p q = record {
  sent = s ++ q.sent;
  unsent = q.unsent;
  split = ap (λ l. s ++ l) q.split ∙ sym (append_assoc s q.sent q.unsent);
  bytes = Appends-trans a b c s q.sent p q.bytes;
}

-- ---- a row of calls

-- what failed in a later call failed in all of them
later_cause : {T E : Type 0} {before mid now : ℕ} {r : Result T E} → mid ≡ before → HasCause mid now r →
    HasCause before now r
later_cause {now = now} {r = r} same c = subst (λ n. HasCause n now r) same c

-- no text is printed by doing nothing
pub prints_none : {O T E : Type 0} {sink : Sink O} (o : O) (x : T) → Prints {E = E} sink o o (Ok x) []
prints_none {sink = sink} o x = record {
  whole = Appends-nil (sink.written o);
  part = tt;
  cause = record { later = omega arith; failed = tt; same = refl };
}

-- a piece went out, and the rest of the text followed
pub prints_then : {O T U E F : Type 0} {sink : Sink O} {a b c : O} {x : U} {r : Result T E} {s t : List ℕ} →
    Prints {E = F} sink a b (Ok x) s → Prints sink b c r t → Prints sink a c r (s ++ t)
prints_then {r = Ok y} {s = s} p q = record {
  whole = Appends-trans _ _ _ s _ p.whole q.whole;
  part = tt;
  cause = later_cause p.cause.same q.cause;
}
prints_then {r = Err e} {s = s} p q = record {
  whole = tt;
  part = part_after _ _ _ s _ p.whole q.part;
  cause = later_cause p.cause.same q.cause;
}

-- where a call failed, what would have followed is not tried
pub prints_part : {O T E : Type 0} {sink : Sink O} {a b : O} {e : E} {s : List ℕ} (t : List ℕ) →
    Prints {T = T} sink a b (Err e) s → Prints {T = T} sink a b (Err e) (s ++ t)
prints_part t p = record { whole = tt; part = part_before t p.part; cause = p.cause }

-- the first piece of the text failed, and the error is handed on
pub prints_cut : {O T U E F : Type 0} {sink : Sink O} {a b : O} {r : Result T E} {e : F} {s : List ℕ} (t : List ℕ) →
    IsErr r → Prints {T = U} sink a b (Err e) s → Prints sink a b r (s ++ t)
prints_cut {r = Ok x} t bad p = let h : ⊥ = cc in absurd h
prints_cut {r = Err e} t bad p = record {
  whole = tt;
  part = part_before t p.part;
  cause = record { later = p.cause.later; failed = p.cause.failed; same = tt };
}

-- ---- a loop

-- a list is its first n items, and the slice from n on
pub split_at : (s : List ℕ) (n : ℕ) → s ≡ take n s ++ take (length s - n) (drop n s)
split_at s n = sym (take-append-drop n s) ∙ ap (λ l. take n s ++ l) (sym (take_rest s n))

-- since a sink was as `old`, all of the text but the rest went out, and no write has failed
pub record Owes {O : Type 0} (sink : Sink O) (old now : O) (text rest : List ℕ) : Type 0 where
  pub sent : List ℕ
  pub split : text ≡ sent ++ rest
  pub bytes : Appends (sink.written old) (sink.written now) sent
  pub same : sink.faults now ≡ sink.faults old

-- bytes of what was owed went out
pub owes_after : {O : Type 0} {sink : Sink O} {old a b : O} {text owed rest : List ℕ} (piece : List ℕ) →
    Owes sink old a text owed → owed ≡ piece ++ rest → Appends (sink.written a) (sink.written b) piece →
    sink.faults b ≡ sink.faults a → Owes sink old b text rest
owes_after {rest = rest} piece o e p same = record {
  sent = o.sent ++ piece;
  split = o.split ∙ ap (λ l. o.sent ++ l) e ∙ sym (append_assoc o.sent piece rest);
  bytes = Appends-trans _ _ _ o.sent piece o.bytes p;
  same = same ∙ o.same;
}

-- a piece of what was owed was printed
pub owes_less : {O U F : Type 0} {sink : Sink O} {old a b : O} {x : U} {text owed piece rest : List ℕ} →
    Owes sink old a text owed → owed ≡ piece ++ rest → Prints {E = F} sink a b (Ok x) piece → Owes sink old b text rest
owes_less {piece = piece} o e p = owes_after piece o e p.whole p.cause.same

-- nothing is owed
pub owes_none : {O T E : Type 0} {sink : Sink O} {old now : O} {text owed : List ℕ} (x : T) →
    Owes sink old now text owed → owed ≡ [] → Prints {E = E} sink old now (Ok x) text
owes_none {text = text} x o e =
    let whole : text ≡ o.sent = o.split ∙ ap (λ l. o.sent ++ l) e ∙ append-nil o.sent in
    record {
      whole = rw whole o.bytes;
      part = tt;
      cause = record { later = omega (arith, o.same); failed = tt; same = o.same };
    }

-- a piece of what was owed failed
pub owes_cut : {O T U E F : Type 0} {sink : Sink O} {old a b : O} {r : Result T E} {e : F} {text owed piece : List ℕ}
    (rest : List ℕ) → Owes sink old a text owed → owed ≡ piece ++ rest → IsErr r →
    Prints {T = U} sink a b (Err e) piece →
    Prints sink old b r text
owes_cut {r = Ok x} rest o e bad p = let h : ⊥ = cc in absurd h
owes_cut {r = Err e} {text = text} {piece = piece} rest o split bad p =
    let whole : text ≡ o.sent ++ (piece ++ rest) = o.split ∙ ap (λ l. o.sent ++ l) split in
    record {
      whole = tt;
      part = rw whole (part_after _ _ _ o.sent (piece ++ rest) o.bytes (part_before rest p.part));
      cause = later_cause o.same (record { later = p.cause.later; failed = p.cause.failed; same = tt });
    }
