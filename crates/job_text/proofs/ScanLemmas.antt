-- The lines of a reply, scanned one by one.
use Rattle.std.proofs.Common.{◌≡◌, ◌≢◌, ◌<◌, ◌+◌, ◌^◌, ℕ, List, [], ◌∷◌, ◌++◌, length, refl, sym, ap, ◌∙◌, subst, inl, inr, arith, append_assoc, append-nil, length-append}
use Rattle.std.specs.List.{AllByRecursion}
use Rattle.plain_text.specs.Cuts.{Lacks, CutsLine}
use Rattle.plain_text.proofs.ReadLemmas.{line_is, no_line}
use Rattle.poly_num.specs.Vectors.{Vector}
use Rattle.work_core.specs.ReplyLines.{ReplyLine, row_line, job_line, line_text, lines_text, rows_in_lines, keys_in_lines}
use Rattle.job_text.specs.LineTexts.{IsReplyLine}
use Rattle.job_text.specs.Replies.{IsTailAt, tail_text}
use Rattle.job_text.specs.declared.reply.Tail.{Tail}
use Rattle.job_text.specs.Fits.{Said, MaySay, said_text}
use Rattle.job_text.specs.Scans.{Scanned, StopsScanAt}
use Rattle.job_text.proofs.ReplyLemmas.{line_is_said, tail_is_said, said_behind, said_lacks, said_size}

lines_push : (lines : List ReplyLine) (l : ReplyLine) → lines_text (lines ++ l ∷ []) ≡ lines_text lines ++ line_text l
lines_push [] l = append-nil (line_text l)
lines_push (m ∷ lines) l = ap (λ (t : List ℕ). line_text m ++ t) (lines_push lines l) ∙ sym (append_assoc (line_text m) (lines_text lines) (line_text l))

fit_push : (n : ℕ) (lines : List ReplyLine) (l : ReplyLine) → AllByRecursion (IsReplyLine n) lines → IsReplyLine n l
    → AllByRecursion (IsReplyLine n) (lines ++ l ∷ [])
fit_push n [] l h k = (k, tt)
fit_push n (m ∷ lines) l h k = (h.0, fit_push n lines l h.1 k)

rows_push_row : (lines : List ReplyLine) (v : Vector) → rows_in_lines (lines ++ row_line v ∷ []) ≡ rows_in_lines lines ++ v ∷ []
rows_push_row [] v = refl
rows_push_row (row_line w ∷ lines) v = ap (λ (l : List Vector). w ∷ l) (rows_push_row lines v)
rows_push_row (job_line key ∷ lines) v = rows_push_row lines v

keys_push_row : (lines : List ReplyLine) (v : Vector) → keys_in_lines (lines ++ row_line v ∷ []) ≡ keys_in_lines lines
keys_push_row [] v = refl
keys_push_row (row_line w ∷ lines) v = keys_push_row lines v
keys_push_row (job_line key ∷ lines) v = ap (λ (l : List (List ℕ)). key ∷ l) (keys_push_row lines v)

rows_push_job : (lines : List ReplyLine) (key : List ℕ) → rows_in_lines (lines ++ job_line key ∷ []) ≡ rows_in_lines lines
rows_push_job [] key = refl
rows_push_job (row_line w ∷ lines) key = ap (λ (l : List Vector). w ∷ l) (rows_push_job lines key)
rows_push_job (job_line other ∷ lines) key = rows_push_job lines key

keys_push_job : (lines : List ReplyLine) (key : List ℕ) → keys_in_lines (lines ++ job_line key ∷ []) ≡ keys_in_lines lines ++ key ∷ []
keys_push_job [] key = refl
keys_push_job (row_line w ∷ lines) key = keys_push_job lines key
keys_push_job (job_line other ∷ lines) key = ap (λ (l : List (List ℕ)). other ∷ l) (keys_push_job lines key)

module _ (n : ℕ) (text rest : List ℕ) (rows : ℕ) (keys : List (List ℕ)) (place : ℕ)
    (s : Scanned n text rest rows keys place) where
  rows_are : length (rows_in_lines s.lines) ≡ rows
  rows_are = sym s.rows_are

  keys_count : length (keys_in_lines s.lines) ≡ length keys
  keys_count = ap (λ (l : List (List ℕ)). length l) (sym s.keys_are)

  -- what may be said behind the lines
  said_here : (x : Said) → MaySay n (length (rows_in_lines s.lines)) (length (keys_in_lines s.lines)) x → MaySay n rows (length keys) x
  said_here x may = subst (λ (k : ℕ). MaySay n k (length keys) x) rows_are
      (subst (λ (k : ℕ). MaySay n (length (rows_in_lines s.lines)) k x) keys_count may)

  said_there : (x : Said) → MaySay n rows (length keys) x → MaySay n (length (rows_in_lines s.lines)) (length (keys_in_lines s.lines)) x
  said_there x may = subst (λ (k : ℕ). MaySay n k (length (keys_in_lines s.lines)) x) (sym rows_are)
      (subst (λ (k : ℕ). MaySay n rows k x) (sym keys_count) may)

  module _ (few : rows < 2 ^ 64) (less : length keys < 2 ^ 64) where
    pub no_line_left : Lacks 10 rest → StopsScanAt n text place
    no_line_left lacks = record {
      lines = s.lines;
      rest = rest;
      fit = s.fit;
      split = s.split;
      few = (omega (arith, rows_are, few), omega (arith, keys_count, less));
      stop = inl (s.size, λ x more may e. no_line rest (said_text x) more lacks e);
    }

    module _ (line behind : List ℕ) (cuts : CutsLine rest line behind) where
      pub no_fit : ((x : Said) → MaySay n rows (length keys) x → line ≡ said_text x → ⊥) → StopsScanAt n text place
      no_fit none = record {
        lines = s.lines;
        rest = rest;
        fit = s.fit;
        split = s.split;
        few = (omega (arith, rows_are, few), omega (arith, keys_count, less));
        stop = inl (
          s.size,
          λ x more may e.
              none x (said_here x may)
              (line_is (said_text x) more cuts (said_lacks n rows (length keys) x few less (said_here x may)) e).0,
        );
      }

      tail_behind : (tail : Tail) → line ≡ said_text (inr tail) → rest ≡ tail_text tail ++ behind
      tail_behind tail is =
          cuts.whole ∙ ap (λ (l : List ℕ). l ++ 10 ∷ behind) is ∙ sym (said_behind (said_text (inr tail)) behind (tail_is_said tail))

      pub more_behind : (tail : Tail) → IsTailAt rows (length keys) tail → line ≡ said_text (inr tail) → behind ≢ []
          → StopsScanAt n text (place + length line + 1)
      more_behind tail may is some = record {
        lines = s.lines;
        rest = rest;
        fit = s.fit;
        split = s.split;
        few = (omega (arith, rows_are, few), omega (arith, keys_count, less));
        stop = inr (
          tail,
          behind,
          said_there (inr tail) may,
          tail_behind tail is,
          some,
          omega (arith, s.size, ap (λ (l : List ℕ). length l) is, said_size (said_text (inr tail)) (tail_is_said tail)),
        );
      }

      pub tail_ends : (tail : Tail) → line ≡ said_text (inr tail) → behind ≡ [] → text ≡ lines_text s.lines ++ tail_text tail
      tail_ends tail is none =
          s.split ∙ ap (λ (l : List ℕ). lines_text s.lines ++ l)
          (tail_behind tail is ∙ ap (λ (l : List ℕ). tail_text tail ++ l) none ∙ append-nil (tail_text tail))

      pub tail_may : (tail : Tail) → IsTailAt rows (length keys) tail → IsTailAt (length (rows_in_lines s.lines)) (length (keys_in_lines s.lines)) tail
      tail_may tail may = said_there (inr tail) may

      line_split : (l : ReplyLine) → line ≡ said_text (inl l) → text ≡ lines_text (s.lines ++ l ∷ []) ++ behind
      line_split l is =
          s.split ∙ ap (λ (t : List ℕ). lines_text s.lines ++ t)
          (cuts.whole ∙ ap (λ (t : List ℕ). t ++ 10 ∷ behind) is ∙ sym (said_behind (said_text (inl l)) behind (line_is_said l)))
          ∙ sym (append_assoc (lines_text s.lines) (line_text l) behind) ∙ ap (λ (t : List ℕ). t ++ behind) (sym (lines_push s.lines l))

      line_size : (l : ReplyLine) → line ≡ said_text (inl l) → place + length line + 1 ≡ length (lines_text (s.lines ++ l ∷ []))
      line_size l is = omega (
        arith,
        s.size,
        ap (λ (t : List ℕ). length t) is,
        said_size (said_text (inl l)) (line_is_said l),
        ap (λ (t : List ℕ). length t) (lines_push s.lines l),
        length-append (lines_text s.lines) (line_text l),
      )

      pub row_scanned : (v : Vector) → IsReplyLine n (row_line v) → line ≡ said_text (inl (row_line v))
          → Scanned n text behind (rows + 1) keys (place + length line + 1)
      row_scanned v fit is = record {
        lines = s.lines ++ row_line v ∷ [];
        fit = fit_push n s.lines (row_line v) s.fit fit;
        split = line_split (row_line v) is;
        rows_are = omega (
          arith,
          s.rows_are,
          ap (λ (l : List Vector). length l) (rows_push_row s.lines v),
          length-append (rows_in_lines s.lines) (v ∷ []),
        );
        keys_are = s.keys_are ∙ sym (keys_push_row s.lines v);
        size = line_size (row_line v) is;
      }

      pub job_scanned : (key : List ℕ) (grown : List (List ℕ)) → IsReplyLine n (job_line key) → line ≡ said_text (inl (job_line key))
          → grown ≡ keys ++ key ∷ [] → Scanned n text behind rows grown (place + length line + 1)
      job_scanned key grown fit is e = rw e (record {
        lines = s.lines ++ job_line key ∷ [];
        fit = fit_push n s.lines (job_line key) s.fit fit;
        split = line_split (job_line key) is;
        rows_are = s.rows_are ∙ ap (λ (l : List Vector). length l) (sym (rows_push_job s.lines key));
        keys_are = ap (λ (l : List (List ℕ)). l ++ key ∷ []) s.keys_are ∙ sym (keys_push_job s.lines key);
        size = line_size (job_line key) is;
      })
