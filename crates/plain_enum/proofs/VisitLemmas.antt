-- Vectors visited in turn: one after the other, none, one alone, and those of a list with a beginning.
use Rattle.std.proofs.Common.{List, [], ◌∷◌, ◌++◌, Ok, Err, refl, sym, ap, subst, ◌∙◌, append_assoc}
use Rattle.poly_num.specs.Vectors.{Vector}
use Rattle.poly_model.specs.declared.overflow.Overflow.{Overflow as Passed}
use Rattle.linear_laws.proofs.Members.{Contains-nil}
use Rattle.listing_laws.specs.Lists.{Lists}
use Rattle.plain_enum.specs.declared.prefix.Ended.{Ended}
use Rattle.plain_enum.specs.declared.prefix.Ended.TheVariants.{Overflow, Stopped}
use Rattle.plain_enum.specs.Visits.{Visited, Broke, HasVisited, VisitsEach, VisitsSome}

module _ {V O E : Type 0} (visits : V → O → Vector → V → O → Type 0) (ends : V → O → Vector → E → O → Type 0) where
  -- ---- one after the other
  pub visited_then : (v : V) (o : O) (xs : List Vector) (u : V) (m : O) (ys : List Vector) (w : V) (q : O) →
      Visited visits v o xs u m → Visited visits u m ys w q → Visited visits v o (xs ++ ys) w q
  visited_then v o [] u m ys w q (e, f) g =
      subst (λ a. Visited visits a o ys w q) (sym e) (subst (λ a. Visited visits u a ys w q) (sym f) g)
  visited_then v o (x ∷ xs) u m ys w q (a, b, h, t) g = (a, b, h, visited_then a b xs u m ys w q t g)

  pub broke_then : (v : V) (o : O) (xs : List Vector) (u : V) (m : O) (ys : List Vector) (e : Ended E) (q : O) →
      Visited visits v o xs u m → Broke visits ends u m ys e q → Broke visits ends v o (xs ++ ys) e q
  broke_then v o xs u m ys (Overflow x) q g h = (h.0, visited_then v o xs u m ys h.0 q g h.1)
  broke_then v o xs u m ys (Stopped e) q g h = record {
    before = xs ++ h.before;
    last = h.last;
    split = ap (λ zs. xs ++ zs) h.split ∙ sym (append_assoc xs h.before (h.last ∷ []));
    visitor = h.visitor;
    middle = h.middle;
    visited = visited_then v o xs u m h.before h.visitor h.middle g h.visited;
    ended = h.ended;
  }

  -- ---- none, and one alone
  pub visits_none : (v : V) (o : O) (P : Vector → Type 0) → Lists P [] → VisitsEach visits ends v o o (Ok v) P
  visits_none v o P l = record { whole = ([], l, (refl, refl)); part = tt }

  pub visits_where_none : (v : V) (o : O) (P : Vector → Type 0) → ((y : Vector) → P y → ⊥) →
      VisitsEach visits ends v o o (Ok v) P
  visits_where_none v o P n =
      visits_none v o P
      (record { distinct = tt; members = λ y. (λ c. absurd (Contains-nil y c), λ h. absurd (n y h)) })

  pub visits_one : (v w : V) (o q : O) (y : Vector) (P : Vector → Type 0) → Lists P (y ∷ []) → visits v o y w q →
      VisitsEach visits ends v o q (Ok w) P
  visits_one v w o q y P l h = record { whole = (y ∷ [], l, (w, q, h, (refl, refl))); part = tt }

  pub ends_at_one : (v : V) (o q : O) (e : E) (y : Vector) (P : Vector → Type 0) → Lists P (y ∷ []) → ends v o y e q →
      VisitsEach visits ends v o q (Err (Stopped e)) P
  ends_at_one v o q e y P l h = record {
    whole = tt;
    part = (
      y ∷ [],
      ([], l),
      record { before = []; last = y; split = refl; visitor = v; middle = o; visited = (refl, refl); ended = h },
    );
  }

  -- ---- some vectors
  pub some_none : (v : V) (o : O) → HasVisited visits v o v o
  some_none v o = ([], (refl, refl))

  pub some_one : (v w : V) (o q : O) (y : Vector) → visits v o y w q → VisitsSome visits ends v o q (Ok w)
  some_one v w o q y h = record { whole = (y ∷ [], (w, q, h, (refl, refl))); part = tt }

  pub some_end : (v : V) (o q : O) (e : E) (y : Vector) → ends v o y e q →
      VisitsSome visits ends v o q (Err (Stopped e))
  some_end v o q e y h = record {
    whole = tt;
    part = (
      y ∷ [],
      record { before = []; last = y; split = refl; visitor = v; middle = o; visited = (refl, refl); ended = h },
    );
  }

  pub some_all : (v w : V) (o q : O) → HasVisited visits v o w q → VisitsSome visits ends v o q (Ok w)
  some_all v w o q h = record { whole = h; part = tt }

  pub some_stopped : (v w : V) (o q : O) (x : Passed) → HasVisited visits v o w q →
      VisitsSome visits ends v o q (Err (Overflow x))
  some_stopped v w o q x h = record { whole = tt; part = (h.0, (w, h.1)) }

  pub some_then : (v u w : V) (o m q : O) → HasVisited visits v o u m → VisitsSome visits ends u m q (Ok w) →
      HasVisited visits v o w q
  some_then v u w o m q h s = (h.0 ++ s.whole.0, visited_then v o h.0 u m s.whole.0 w q h.1 s.whole.1)

  pub some_broke : (v u : V) (o m q : O) (e : Ended E) → HasVisited visits v o u m →
      VisitsSome visits ends u m q (Err e) → VisitsSome visits ends v o q (Err e)
  some_broke v u o m q e h s = record {
    whole = tt;
    part = (h.0 ++ s.part.0, broke_then v o h.0 u m s.part.0 e q h.1 s.part.1);
  }
