-- What a walk has written, piece by piece.
use Rattle.std.proofs.Common.{◌≡◌, ◌↔◌, ◌⊎◌, inl, inr, ⊎_elim, ℕ, suc, pos, ◌+◌, ◌<◌, ◌≤◌, List, [], ◌∷◌, ◌++◌, length, length-append, append-nil, get_or, Option, refl, sym, ap, subst, ◌∙◌, arith}
use Rattle.std.specs.List.{All, AllByRecursion, Contains, slice_index_or}
use Rattle.std.specs.Io.KnownBytes.{Appends}
use Rattle.std.proofs.KnownBytes.{Appends-nil, Appends-trans}
use Rattle.std.proofs.lemmas.List.Concat.{flat_map-append, flat_map-cons}
use Rattle.std.proofs.lemmas.List.Elements.{All-from_recursion, All-contains, Contains-append_cases}
use Rattle.poly_num.specs.Numbers.{IsNum}
use Rattle.poly_num.specs.Vectors.{Vector}
use Rattle.poly_io.specs.Written.{AppendsPart}
use Rattle.poly_io.proofs.Parts.{part_of_all, part_after}
use Rattle.poly_model.specs.declared.listed.Count.{Count}
use Rattle.poly_model.specs.Keys.{IsKey}
use Rattle.linear_laws.proofs.Members.{Contains-nil, Contains-cons_cases}
use Rattle.listing_laws.proofs.ListLemmas.{all_members}
use Rattle.search_laws.specs.Shares.{ListsAll}
use Rattle.work_core.specs.Meanings.{Meaning, StandsUnder, IsKeyBelow}
use Rattle.work_core.specs.ReplyLines.{ReplyLine, row_line, job_line, line_text, lines_text, rows_in_lines, keys_in_lines, row_line_text, job_line_text, IsInHand, WritesLines, WritesPartOfLines, IsCutRun, IsTornRun}
use Rattle.work_core.specs.Splits.{AreWithin}
use Rattle.work_core.specs.Laws.{HasShares}
use Rattle.work_core.specs.Walks.{ShowsAt, IsWalk}
use Rattle.work_core.specs.Walked.{Bound, HasWalked}
use Rattle.work_core.proofs.WalkLemmas.{walk_visit, walk_give, walk_of, walk_then, walk_within}

-- ---- lines in pieces
pub rows-append : (ls ms : List ReplyLine) → rows_in_lines (ls ++ ms) ≡ rows_in_lines ls ++ rows_in_lines ms
rows-append [] ms = refl
rows-append (row_line v ∷ ls) ms = ap (λ xs. v ∷ xs) (rows-append ls ms)
rows-append (job_line k ∷ ls) ms = rows-append ls ms

pub keys-append : (ls ms : List ReplyLine) → keys_in_lines (ls ++ ms) ≡ keys_in_lines ls ++ keys_in_lines ms
keys-append [] ms = refl
keys-append (row_line v ∷ ls) ms = keys-append ls ms
keys-append (job_line k ∷ ls) ms = ap (λ ks. k ∷ ks) (keys-append ls ms)

pub text-append : (ls ms : List ReplyLine) → lines_text (ls ++ ms) ≡ lines_text ls ++ lines_text ms
text-append ls ms = flat_map-append line_text ls ms

pub one_text : (l : ReplyLine) → lines_text (l ∷ []) ≡ line_text l
one_text l = flat_map-cons line_text l [] ∙ append-nil (line_text l)

-- ---- lines that were written
all_numbers : (v : Vector) → ((i : ℕ) → i < length v → IsNum (slice_index_or v i (pos 0))) → AllByRecursion IsNum v
all_numbers [] h = tt
all_numbers (x ∷ v) h = (h 0 (omega arith), all_numbers v (λ i l. h (suc i) (omega (arith, l))))

in_hand-append : (ls ms : List ReplyLine) → AllByRecursion IsInHand ls → AllByRecursion IsInHand ms →
    AllByRecursion IsInHand (ls ++ ms)
in_hand-append [] ms f g = g
in_hand-append (l ∷ ls) ms f g = (f.0, in_hand-append ls ms f.1 g)

pub writes_none : (a : Option (List ℕ)) → WritesLines a a []
writes_none a = record { bytes = Appends-nil a; in_hand = tt }

pub writes_row : (a b : Option (List ℕ)) (v : Vector) → Appends a b (row_line_text v) →
    ((i : ℕ) → i < length v → IsNum (slice_index_or v i (pos 0))) → WritesLines a b (row_line v ∷ [])
writes_row a b v f n = record {
  bytes = subst (λ t. Appends a b t) (sym (one_text (row_line v))) f;
  in_hand = (all_numbers v n, tt);
}

pub writes_given : (a b : Option (List ℕ)) (key : List ℕ) → Appends a b (job_line_text key) → IsKey key →
    WritesLines a b (job_line key ∷ [])
writes_given a b key f k = record {
  bytes = subst (λ t. Appends a b t) (sym (one_text (job_line key))) f;
  in_hand = (k, tt);
}

pub part_row : (a b : Option (List ℕ)) (v : Vector) → AppendsPart a b (row_line_text v) →
    ((i : ℕ) → i < length v → IsNum (slice_index_or v i (pos 0))) → WritesPartOfLines a b (row_line v ∷ [])
part_row a b v f n = record {
  bytes = subst (λ t. AppendsPart a b t) (sym (one_text (row_line v))) f;
  in_hand = (all_numbers v n, tt);
}

pub part_given : (a b : Option (List ℕ)) (key : List ℕ) → AppendsPart a b (job_line_text key) → IsKey key →
    WritesPartOfLines a b (job_line key ∷ [])
part_given a b key f k = record {
  bytes = subst (λ t. AppendsPart a b t) (sym (one_text (job_line key))) f;
  in_hand = (k, tt);
}

pub writes_then : (a b c : Option (List ℕ)) (ls ms : List ReplyLine) → WritesLines a b ls → WritesLines b c ms →
    WritesLines a c (ls ++ ms)
writes_then a b c ls ms f g = record {
  bytes = subst (λ t. Appends a c t) (sym (text-append ls ms))
      (Appends-trans a b c (lines_text ls) (lines_text ms) f.bytes g.bytes);
  in_hand = in_hand-append ls ms f.in_hand g.in_hand;
}

pub part_then : (a b c : Option (List ℕ)) (ls ms : List ReplyLine) → WritesLines a b ls → WritesPartOfLines b c ms →
    WritesPartOfLines a c (ls ++ ms)
part_then a b c ls ms f g = record {
  bytes = subst (λ t. AppendsPart a c t) (sym (text-append ls ms))
      (part_after a b c (lines_text ls) (lines_text ms) f.bytes g.bytes);
  in_hand = in_hand-append ls ms f.in_hand g.in_hand;
}

all_append : {X : Type 0} (P : X → Type 0) (xs ys : List X) → All P xs → All P ys → All P (xs ++ ys)
all_append P xs ys a b =
    All-from_recursion P (xs ++ ys) (all_members P (xs ++ ys)
    (λ x c. ⊎_elim (λ d. All-contains P xs x a d) (λ d. All-contains P ys x b d) (Contains-append_cases xs ys x c)))

module _ (work : Meaning) where
  pub within-append : (key : List ℕ) (ls ms : List ReplyLine) → AreWithin work key (rows_in_lines ls) (keys_in_lines ls) →
      AreWithin work key (rows_in_lines ms) (keys_in_lines ms) → AreWithin work key (rows_in_lines (ls ++ ms)) (keys_in_lines (ls ++ ms))
  within-append key ls ms a b = record {
    rows_within = subst (All (work.in_share key)) (sym (rows-append ls ms))
        (all_append (work.in_share key) (rows_in_lines ls) (rows_in_lines ms) a.rows_within b.rows_within);
    keys_within = subst (All (IsKeyBelow work key)) (sym (keys-append ls ms))
        (all_append (IsKeyBelow work key) (keys_in_lines ls) (keys_in_lines ms) a.keys_within b.keys_within);
  }

  pub within_above : HasShares work → (child key : List ℕ) → work.is_key child → StandsUnder work child key → (ls : List ReplyLine) →
      AreWithin work child (rows_in_lines ls) (keys_in_lines ls) → AreWithin work key (rows_in_lines ls) (keys_in_lines ls)
  within_above h child key is u ls a = record {
    rows_within = λ k y l. h.within child key (get_or (rows_in_lines ls) k y) is u (a.rows_within k y l);
    keys_within = λ k o l. let b = a.keys_within k o l in (b.0, h.through (get_or (keys_in_lines ls) k o) child key b.0 b.1 u);
  }

  pub no_lines : (key : List ℕ) (old : Option (List ℕ)) → IsCutRun work key old old
  no_lines key old = record {
    lines = [];
    written = writes_none old;
    within = record { rows_within = All-from_recursion (work.in_share key) [] tt; keys_within = All-from_recursion (IsKeyBelow work key) [] tt };
  }

  pub cut_is_torn : (key : List ℕ) (old new : Option (List ℕ)) → IsCutRun work key old new → IsTornRun work key old new
  cut_is_torn key old new c = record { lines = c.lines; written = record { bytes = part_of_all old new (lines_text c.lines) c.written.bytes; in_hand = c.written.in_hand }; within = c.within }

  module _ (Shows : List ℕ → Vector → Type 0) (bound : Bound) where
    abbrev Walked : (List ℕ → Type 0) → Option (List ℕ) → Option (List ℕ) → Count → Count → Type 0
    Walked P old new c d = HasWalked work Shows bound P old new c d

    pub walked_of : (P Q : List ℕ → Type 0) (old new : Option (List ℕ)) (c d : Count) → ((one : List ℕ) → P one ↔ Q one) →
        Walked P old new c d → Walked Q old new c d
    walked_of P Q old new c d h w = record {
      lines = w.lines;
      visited = w.visited;
      written = w.written;
      walk = walk_of work Shows P Q w.visited (keys_in_lines w.lines) (rows_in_lines w.lines) h w.walk;
      rows = w.rows;
      jobs = w.jobs;
      bases = w.bases;
      back = w.back;
      no_deeper = w.no_deeper;
    }

    -- one key visited, and nothing shown
    pub walked_visit : (key : List ℕ) (old : Option (List ℕ)) (c d : Count) → ListsAll (Shows key) [] → d.rows ≡ c.rows → d.jobs ≡ c.jobs →
        d.bases ≡ c.bases + 1 → Walked (λ one. one ≡ key) old old c d
    walked_visit key old c d l r j b = record {
      lines = [];
      visited = key ∷ [];
      written = writes_none old;
      walk = walk_visit work Shows key [] l;
      rows = omega (arith, r);
      jobs = omega (arith, j);
      bases = b;
      back = λ k m. absurd (Contains-nil k m);
      no_deeper = λ k m. absurd (Contains-nil k m);
    }

    -- one key visited, and one vector shown
    pub walked_show : (key : List ℕ) (v : Vector) (old new : Option (List ℕ)) (c d : Count) → ListsAll (Shows key) (v ∷ []) →
        WritesLines old new (row_line v ∷ []) → d.rows ≡ c.rows + 1 → d.jobs ≡ c.jobs → d.bases ≡ c.bases + 1 →
        Walked (λ one. one ≡ key) old new c d
    walked_show key v old new c d l a r j b = record {
      lines = row_line v ∷ [];
      visited = key ∷ [];
      written = a;
      walk = walk_visit work Shows key (v ∷ []) l;
      rows = r;
      jobs = omega (arith, j);
      bases = b;
      back = λ k m. absurd (Contains-nil k m);
      no_deeper = λ k m. absurd (Contains-nil k m);
    }

    -- one key given back
    pub walked_give : (key : List ℕ) (old new : Option (List ℕ)) (c d : Count) → work.is_key key → WritesLines old new (job_line key ∷ []) →
        d.rows ≡ c.rows → d.jobs ≡ c.jobs + 1 → d.bases ≡ c.bases → (d.bases ≡ bound.most) ⊎ bound.is_deepest key → bound.is_within key →
        Walked (IsKeyBelow work key) old new c d
    walked_give key old new c d is a r j b h l = record {
      lines = job_line key ∷ [];
      visited = [];
      written = a;
      walk = walk_give work Shows key is;
      rows = omega (arith, r);
      jobs = j;
      bases = omega (arith, b);
      back = λ k m. subst (λ o. (d.bases ≡ bound.most) ⊎ bound.is_deepest o) (this k m) h;
      no_deeper = λ k m. subst bound.is_within (this k m) l;
    }
      where
        this : (k : List ℕ) → Contains (key ∷ []) k → key ≡ k
        this k m = ⊎_elim (λ (e : key ≡ k). e) (λ n. absurd (Contains-nil k n)) (Contains-cons_cases k key [] m)

    -- one walk after the other
    pub walked_then : (itself : (k : List ℕ) → StandsUnder work k k) (one_key : (a b : List ℕ) (y : Vector) → Shows a y → Shows b y → a ≡ b)
        (P Q : List ℕ → Type 0) (other : (one : List ℕ) → P one → Q one → ⊥) (keys : (one : List ℕ) → (P one ⊎ Q one) → work.is_key one)
        (old now new : Option (List ℕ)) (c d e : Count) → e.bases ≤ bound.most → Walked P old now c d → Walked Q now new d e →
        Walked (λ one. P one ⊎ Q one) old new c e
    walked_then itself one_key P Q other keys old now new c d e within v w =
        let grows = w.bases in
        record {
          lines = v.lines ++ w.lines;
          visited = v.visited ++ w.visited;
          written = writes_then old now new v.lines w.lines v.written w.written;
          walk = subst (λ ks. IsWalk work Shows (λ one. P one ⊎ Q one) (v.visited ++ w.visited) ks (rows_in_lines (v.lines ++ w.lines))) (sym (keys-append v.lines w.lines))
              (subst (λ xs. IsWalk work Shows (λ one. P one ⊎ Q one) (v.visited ++ w.visited) (keys_in_lines v.lines ++ keys_in_lines w.lines) xs) (sym (rows-append v.lines w.lines))
              (walk_then work Shows itself one_key P Q other v.visited w.visited (keys_in_lines v.lines) (keys_in_lines w.lines) (rows_in_lines v.lines) (rows_in_lines w.lines) v.walk w.walk keys));
          rows = let r = ap length (rows-append v.lines w.lines) in let l = length-append (rows_in_lines v.lines) (rows_in_lines w.lines) in omega (arith, r, l, v.rows, w.rows);
          jobs = let r = ap length (keys-append v.lines w.lines) in let l = length-append (keys_in_lines v.lines) (keys_in_lines w.lines) in omega (arith, r, l, v.jobs, w.jobs);
          bases = let l = length-append v.visited w.visited in omega (arith, l, v.bases, w.bases);
          back = λ k m. ⊎_elim
              (λ a. ⊎_elim (λ (b : d.bases ≡ bound.most). inl (omega (arith, b, grows, within))) (λ (b : bound.is_deepest k). inr b) (v.back k a))
              (λ a. w.back k a)
              (Contains-append_cases (keys_in_lines v.lines) (keys_in_lines w.lines) k (subst (λ ks. Contains ks k) (keys-append v.lines w.lines) m));
          no_deeper = λ k m. ⊎_elim (v.no_deeper k) (w.no_deeper k)
              (Contains-append_cases (keys_in_lines v.lines) (keys_in_lines w.lines) k (subst (λ ks. Contains ks k) (keys-append v.lines w.lines) m));
        }

    -- ---- where it stops
    module _ (shares : HasShares work) (shows : ShowsAt work Shows) (key : List ℕ) (is : work.is_key key)
        (P : List ℕ → Type 0) (under : (one : List ℕ) → P one → IsKeyBelow work key one)
        (old now : Option (List ℕ)) (c d : Count) (w : Walked P old now c d) where
      here : AreWithin work key (rows_in_lines w.lines) (keys_in_lines w.lines)
      here = walk_within work Shows shares shows key is P under w.visited (keys_in_lines w.lines) (rows_in_lines w.lines) w.walk

      -- between two lines
      pub cut_here : IsCutRun work key old now
      cut_here = record { lines = w.lines; written = w.written; within = here }

      -- within what is under a child
      pub cut_under : (child : List ℕ) → work.is_key child → StandsUnder work child key → (new : Option (List ℕ)) → IsCutRun work child now new → IsCutRun work key old new
      cut_under child i u new r = record {
        lines = w.lines ++ r.lines;
        written = writes_then old now new w.lines r.lines w.written r.written;
        within = within-append key w.lines r.lines here (within_above shares child key i u r.lines r.within);
      }

      pub torn_under : (child : List ℕ) → work.is_key child → StandsUnder work child key → (new : Option (List ℕ)) → IsTornRun work child now new → IsTornRun work key old new
      torn_under child i u new r = record {
        lines = w.lines ++ r.lines;
        written = part_then old now new w.lines r.lines w.written r.written;
        within = within-append key w.lines r.lines here (within_above shares child key i u r.lines r.within);
      }

  -- within one line
  pub torn_job : (key : List ℕ) → work.is_key key → StandsUnder work key key → (old new : Option (List ℕ)) → WritesPartOfLines old new (job_line key ∷ []) →
      IsTornRun work key old new
  torn_job key is u old new a = record {
    lines = job_line key ∷ [];
    written = a;
    within = record {
      rows_within = All-from_recursion (work.in_share key) [] tt;
      keys_within = All-from_recursion (IsKeyBelow work key) (key ∷ []) ((is, u), tt);
    };
  }

  pub torn_row : (key : List ℕ) (v : Vector) → work.in_share key v → (old new : Option (List ℕ)) → WritesPartOfLines old new (row_line v ∷ []) →
      IsTornRun work key old new
  torn_row key v h old new a = record {
    lines = row_line v ∷ [];
    written = a;
    within = record {
      rows_within = All-from_recursion (work.in_share key) (v ∷ []) (h, tt);
      keys_within = All-from_recursion (IsKeyBelow work key) [] tt;
    };
  }
