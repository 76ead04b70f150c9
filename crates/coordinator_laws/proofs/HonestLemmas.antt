-- Under honest workers each accepted reply parts the share of its job.
use Rattle.std.proofs.Common.{arith, ℕ, List, ◌≡◌, ◌≢◌, ◌<◌, ◌^◌, inl, inr, ◌+◌, ◌-◌, ◌*◌, Bool, true, false, nat_lt, [], ◌∷◌, ◌++◌, refl, sym, ap, ◌∙◌, subst, length, Option, Some, None, slice_set}
use Rattle.std.specs.List.{AllByRecursion, slice_get}
use Rattle.std.proofs.lemmas.Bool.{cases_Bool, eq-eqb, ne_eqb}
use Rattle.std.proofs.lemmas.List.{append-nil}
use Rattle.std.proofs.lemmas.Option.{slice_get_within}
use Rattle.poly_num.specs.Vectors.{Vector}
use Rattle.poly_reader.specs.Reading.{IsOfItsText}
use Rattle.work_core.specs.declared.budget.Budget.{Budget}
use Rattle.work_core.specs.Searches.{Search, meaning_of}
use Rattle.work_core.specs.Splits.{IsBudget, Splits}
use Rattle.job_text.specs.declared.job.Job.{Job}
use Rattle.job_text.specs.declared.reply.Reply.{Reply}
use Rattle.job_text.specs.declared.reply.Tail.{Tail}
use Rattle.job_text.specs.declared.reply.Tail.TheVariants.{End, Overflow, Memory}
use Rattle.job_text.specs.KeyTexts.{HasKeyText}
use Rattle.job_text.specs.Replies.{IsWholeReply}
use Rattle.job_text.proofs.ApartLemmas.{nothing_more}
use Rattle.job_text.proofs.OneReplyLemmas.{one_reply}
use Rattle.job_text.specs.Rule.{IsReplyFor, Obeys}
use Rattle.run_state.specs.Payloads.{SaysEnd}
use Rattle.run_state.specs.Legal.{IsLegalReply}
use Rattle.workers_io.specs.History.{Happening, StartedTexts, started, refused, replied, broken, IsAllowed, IsHonest, last_text}
use Rattle.coordinator_core.specs.declared.event.Event.TheVariants.{Answer, Lost}
use Rattle.coordinator_core.specs.declared.verdict.Verdict.{Verdict}
use Rattle.coordinator_core.specs.declared.verdict.Verdict.TheVariants.{Accepted, Stray, Loss, Ends}
use Rattle.coordinator_core.specs.Machine.{AreOptions, Attempt, State, after, back, budget_of, by_verdict, handed, judged, lost_at, sent_at, recorded_at}
use Rattle.coordinator_core.specs.Events.{IsReplyTo}
use Rattle.coordinator_core.specs.Traces.{Step, hands, collects, stepped, Trace, accepted, kept_reply}
use Rattle.coordinator_core.proofs.AttemptLemmas.{get-push, get-set, sent_at_place}
use Rattle.coordinator_core.proofs.SoundLemmas.{IsAccepted, IsHand, accepted-means, hand-means}
use Rattle.coordinator_laws.specs.Courses.{AreToldAs, job_head_of, text_for}

-- a search whose jobs have texts
pub record HasJobTexts (search : Search) : Type 0 where
  pub root : HasKeyText search.root
  pub file : IsOfItsText search.polyhedron

pub obeys-end : (s : Search) (key : List ℕ) (budget : Budget) (rows : List Vector) (keys : List (List ℕ)) (t : Tail) → SaysEnd t → Obeys s key budget rows keys t →
    Splits (meaning_of s) key rows keys
obeys-end s key budget rows keys (End count) i o = o.0
obeys-end s key budget rows keys (Overflow o') i o = absurd i
obeys-end s key budget rows keys Memory i o = absurd i

module _ (search : Search) (texts : HasJobTexts search) where
  abbrev pub Text : Attempt → List ℕ
  Text t = text_for search t.key t.budget

  -- the last start of each attempt is the one that the machine knows
  pub record Agrees (starts : StartedTexts) (sent : List Attempt) : Type 0 where
    pub same : (i : ℕ) (t : Attempt) → slice_get sent i ≡ Some t → (last_text (i + 1) starts ≡ Some (Text t)) × IsBudget t.budget

  pub record Knows (starts : StartedTexts) (s : State) : Type 0 where
    pub options : AreOptions s.options
    pub search_is : s.run.search ≡ search
    pub agrees : Agrees starts s.sent

  in_range : (s : State) → AreOptions s.options → IsBudget (budget_of s)
  in_range s o = record {
    some = o.bases.0;
    bases = o.bases.1;
    depth = elim (cases_Bool (nat_lt (length s.queue) (s.options.lmin * s.options.workers))) [ inl y ↦ rw y o.depth.1 | inr n ↦ rw n (omega arith) ];
  }

  agrees-handed : (starts : StartedTexts) (s : State) (a : ℕ) (key : List ℕ) (budget : Budget) → a ≡ length s.sent + 1 → IsBudget budget → Agrees starts s.sent →
      Agrees ((a, text_for search key budget) ∷ starts) (handed s key budget).sent
  agrees-handed starts s a key budget number b g = record {
    same = λ i t e. elim (get-push s.sent (record { key = key; budget = budget; is_out = true }) i t e) [
      | inl p ↦
          let n : (i + 1) ≢ a = λ q. omega (arith, q, number, slice_get_within s.sent i t p) in
          (rw (ne_eqb (i + 1) a n) (g.same i t p).0, (g.same i t p).1)
      | inr q ↦ (rw (eq-eqb (i + 1) a (omega (arith, q.0, number))) (ap (λ (u : Attempt). Some (Text u)) (sym q.1)), subst (λ (u : Attempt). IsBudget u.budget) (sym q.1) b)
    ];
  }

  agrees-ended : (starts : StartedTexts) (sent : List Attempt) (i : ℕ) (t : Attempt) → slice_get sent i ≡ Some t → Agrees starts sent → Agrees starts (slice_set sent i (back t))
  agrees-ended starts sent i t there g = record {
    same = λ j u e. elim (get-set sent i (back t) j u e) [
      | inl p ↦ g.same j u p
      | inr q ↦
          let h = g.same i t there in (
            subst (λ (k : ℕ). last_text (k + 1) starts ≡ Some (Text u)) (sym q.0) (h.0 ∙ ap (λ (w : Attempt). Some (Text w)) (sym q.1)),
            subst (λ (w : Attempt). IsBudget w.budget) (sym q.1) h.1,
          )
    ];
  }

  knows-lost : (starts : StartedTexts) (s : State) (a : ℕ) (o : Option Attempt) → sent_at s a ≡ o → Knows starts s → Knows starts (lost_at s a o)
  knows-lost starts s a None e k = record { options = k.options; search_is = k.search_is; agrees = k.agrees }
  knows-lost starts s a (Some t) e k = elim (cases_Bool t.is_out) [
    | inl y ↦ rw y (record { options = k.options; search_is = k.search_is; agrees = agrees-ended starts s.sent (a - 1) t (sent_at_place s a t e).1 k.agrees })
    | inr n ↦ rw n (record { options = k.options; search_is = k.search_is; agrees = k.agrees })
  ]

  knows-handed : (starts : StartedTexts) (s : State) (a : ℕ) (key : List ℕ) (budget : Budget) → IsHand s a key budget → Knows starts s →
      Knows ((a, text_for search key budget) ∷ starts) (handed s key budget)
  knows-handed starts s a key budget p k = record {
    options = k.options;
    search_is = k.search_is;
    agrees = agrees-handed starts s a key budget p.number (subst IsBudget (sym p.budgeted) (in_range s k.options)) k.agrees;
  }

  pub knows-hands : (starts : StartedTexts) (s : State) (a : ℕ) (key : List ℕ) (budget : Budget) (began : Bool) → IsHand s a key budget → Knows starts s →
      Knows ((a, text_for search key budget) ∷ starts) (stepped s (hands a key budget began))
  knows-hands starts s a key budget true p k = knows-handed starts s a key budget p k
  knows-hands starts s a key budget false p k =
      let u = handed s key budget in
      knows-lost ((a, text_for search key budget) ∷ starts) u a (sent_at u a) refl (knows-handed starts s a key budget p k)

  knows-taken : (starts : StartedTexts) (s : State) (a : ℕ) (r : Reply) (o : Option Attempt) → sent_at s a ≡ o → Knows starts s → Knows starts (recorded_at s a r o)
  knows-taken starts s a r None e k = k
  knows-taken starts s a r (Some t) e k = record { options = k.options; search_is = k.search_is; agrees = agrees-ended starts s.sent (a - 1) t (sent_at_place s a t e).1 k.agrees }

  pub knows-verdict : (starts : StartedTexts) (s : State) (a : ℕ) (r : Reply) (v : Verdict) → Knows starts s → Knows starts (by_verdict s (Answer a r) v)
  knows-verdict starts s a r Accepted k = knows-taken starts s a r (sent_at s a) refl k
  knows-verdict starts s a r Stray k = record { options = k.options; search_is = k.search_is; agrees = k.agrees }
  knows-verdict starts s a r Loss k = knows-lost starts s a (sent_at s a) refl k
  knows-verdict starts s a r (Ends o) k = k

  -- ---- what an honest reply is
  abbrev pub job_for : Attempt → Job
  job_for t = record { head = job_head_of search t.key t.budget; poly = search.polyhedron }

  -- a whole reply that begins an allowed one is that one, so it obeys its rule
  pub told-rule : (t : Attempt) (bytes reply : List ℕ) (r : Reply) → IsBudget t.budget → r.key ≡ t.key → length bytes < 2 ^ 64 →
      IsWholeReply search.polyhedron.n r bytes → IsReplyFor (Text t) reply → (rest : List ℕ) → reply ≡ bytes ++ rest →
      Obeys search t.key t.budget r.rows r.keys r.tail
  told-rule t bytes reply r b key short whole allowed rest split =
      let is = allowed (job_for t) (record {
        head = record { root = texts.root; key = subst HasKeyText key whole.key; budget = b };
        file = texts.file;
        is_text = refl;
      }) in
      let n = search.polyhedron.n in
      let none : rest ≡ [] = nothing_more n r is.reply bytes rest short whole (subst (IsWholeReply n is.reply) split is.whole) in
      let all : IsWholeReply n is.reply bytes =
      subst (IsWholeReply n is.reply) (split ∙ ap (λ (l : List ℕ). bytes ++ l) none ∙ append-nil bytes) is.whole in
      let one : is.reply ≡ r = one_reply n is.reply r bytes short all whole in
      subst (λ (q : Reply). Obeys search t.key t.budget q.rows q.keys q.tail) one is.rule

  -- what was started for an attempt is the text of its job
  pub record IsStartedOn (starts : StartedTexts) (a : ℕ) (t : Attempt) : Type 0 where
    pub at : last_text a starts ≡ Some (Text t)
    pub budget : IsBudget t.budget

  pub started_on : (starts : StartedTexts) (s : State) (a : ℕ) (t : Attempt) → Knows starts s → sent_at s a ≡ Some t → IsStartedOn starts a t
  started_on starts s a t k there =
      let place = sent_at_place s a t there in
      let known = k.agrees.same (a - 1) t place.1 in
      let number : a - 1 + 1 ≡ a = omega (arith, place.0) in
      record { at = subst (λ (i : ℕ). last_text i starts ≡ Some (Text t)) number known.0; budget = known.1 }

  -- a reply that came honestly for an attempt obeys the rule of its job
  pub honest-rule : (starts : StartedTexts) (s : State) (a : ℕ) (bytes : List ℕ) (r : Reply) (t : Attempt) → Knows starts s → IsReplyTo s a bytes r →
      sent_at s a ≡ Some t → r.key ≡ t.key → IsAllowed IsReplyFor (last_text a starts) bytes → Obeys search t.key t.budget r.rows r.keys r.tail
  honest-rule starts s a bytes r t k is there key h =
      let on = started_on starts s a t k there in
      let told : IsAllowed IsReplyFor (Some (Text t)) bytes = subst (λ (o : Option (List ℕ)). IsAllowed IsReplyFor o bytes) on.at h in
      let whole : IsWholeReply search.polyhedron.n r bytes = subst (λ (z : Search). IsWholeReply z.polyhedron.n r bytes) k.search_is is.whole in
      told-rule t bytes told.0 r on.budget key is.short whole told.1 told.2 told.3

  honest-splits : (starts : StartedTexts) (s : State) (a : ℕ) (bytes : List ℕ) (r : Reply) → Knows starts s → IsReplyTo s a bytes r →
      IsAccepted s r (sent_at s a) → IsAllowed IsReplyFor (last_text a starts) bytes → IsLegalReply search r
  honest-splits starts s a bytes r k is p h =
      let t = p.attempt in
      subst (λ (key : List ℕ). Splits (meaning_of search) key r.rows r.keys) (sym p.key)
      (obeys-end search t.key t.budget r.rows r.keys r.tail p.ends (honest-rule starts s a bytes r t k is p.there p.key h))

  legal-verdict : (starts : StartedTexts) (s : State) (a : ℕ) (bytes : List ℕ) (r : Reply) (v : Verdict) (replies : List Reply) → judged s a r ≡ v → Knows starts s →
      IsReplyTo s a bytes r → IsAllowed IsReplyFor (last_text a starts) bytes → AllByRecursion (IsLegalReply search) replies →
      AllByRecursion (IsLegalReply search) (kept_reply (Answer a r) v ++ replies)
  legal-verdict starts s a bytes r Accepted replies e k is h l =
      (honest-splits starts s a bytes r k is (accepted-means s r (sent_at s a) e) h, l)
  legal-verdict starts s a bytes r Stray replies e k is h l = l
  legal-verdict starts s a bytes r Loss replies e k is h l = l
  legal-verdict starts s a bytes r (Ends o) replies e k is h l = l

  abbrev pub Honestly : StartedTexts → List Happening → Type 0
  Honestly starts hs = IsHonest IsReplyFor starts hs

  -- what comes behind a trace, honestly too
  pub record IsHonestBehind (s : State) (more : List Happening) : Type 0 where
    pub starts : StartedTexts
    pub knows : Knows starts s
    pub honest : Honestly starts more

  pub honest-behind : (starts : StartedTexts) (s t : State) (steps : List Step) (hs more : List Happening) → Knows starts s → Trace s steps t →
      AreToldAs s steps hs → Honestly starts (hs ++ more) → IsHonestBehind t more
  honest-behind starts s t [] [] more k m told h = record { starts = starts; knows = subst (Knows starts) (sym m) k; honest = h }
  honest-behind starts s t [] (x ∷ hs) more k m told h = absurd told
  honest-behind starts s t (step ∷ steps) [] more k m told h = absurd told
  honest-behind starts s t (hands a key budget true ∷ steps) (x ∷ hs) more k m told h =
      let p = hand-means s a key budget m.0 in
      let q : x ≡ started a (text_for search key budget) = told.0 ∙ ap (λ (z : Search). started a (text_for z key budget)) k.search_is in
      honest-behind ((a, text_for search key budget) ∷ starts) (handed s key budget) t steps hs more (knows-handed starts s a key budget p k) m.1 told.1
      (subst (λ (z : Happening). Honestly starts (z ∷ (hs ++ more))) q h)
  honest-behind starts s t (hands a key budget false ∷ steps) (x ∷ hs) more k m told h =
      let p = hand-means s a key budget m.0 in
      let q : x ≡ refused a (text_for search key budget) = told.0 ∙ ap (λ (z : Search). refused a (text_for z key budget)) k.search_is in
      honest-behind ((a, text_for search key budget) ∷ starts) (stepped s (hands a key budget false)) t steps hs more (knows-hands starts s a key budget false p k) m.1 told.1
      (subst (λ (z : Happening). Honestly starts (z ∷ (hs ++ more))) q h)
  honest-behind starts s t (collects (Answer a r) ∷ steps) (replied b bytes ∷ hs) more k m told h =
      honest-behind starts (after s (Answer a r)) t steps hs more (knows-verdict starts s a r (judged s a r) k) m.1 told.1 h.1
  honest-behind starts s t (collects (Answer a r) ∷ steps) (broken b ∷ hs) more k m told h = let never : Answer a r ≡ Lost b = told.0 in absurd cc
  honest-behind starts s t (collects (Answer a r) ∷ steps) (started b text ∷ hs) more k m told h = absurd told.0
  honest-behind starts s t (collects (Answer a r) ∷ steps) (refused b text ∷ hs) more k m told h = absurd told.0
  honest-behind starts s t (collects (Lost a) ∷ steps) (replied b bytes ∷ hs) more k m told h =
      honest-behind starts (after s (Lost a)) t steps hs more (knows-lost starts s a (sent_at s a) refl k) m.1 told.1 h.1
  honest-behind starts s t (collects (Lost a) ∷ steps) (broken b ∷ hs) more k m told h =
      honest-behind starts (after s (Lost a)) t steps hs more (knows-lost starts s a (sent_at s a) refl k) m.1 told.1 h
  honest-behind starts s t (collects (Lost a) ∷ steps) (started b text ∷ hs) more k m told h = absurd told.0
  honest-behind starts s t (collects (Lost a) ∷ steps) (refused b text ∷ hs) more k m told h = absurd told.0

  -- the replies that a trace accepts are legal
  pub legal-follow : (starts : StartedTexts) (s t : State) (steps : List Step) (hs : List Happening) → Knows starts s → Trace s steps t → AreToldAs s steps hs →
      Honestly starts hs → AllByRecursion (IsLegalReply search) (accepted s steps)
  legal-follow starts s t [] hs k m told h = tt
  legal-follow starts s t (step ∷ steps) [] k m told h = absurd told
  legal-follow starts s t (hands a key budget true ∷ steps) (x ∷ hs) k m told h =
      let p = hand-means s a key budget m.0 in
      let q : x ≡ started a (text_for search key budget) = told.0 ∙ ap (λ (z : Search). started a (text_for z key budget)) k.search_is in
      legal-follow ((a, text_for search key budget) ∷ starts) (handed s key budget) t steps hs (knows-handed starts s a key budget p k) m.1 told.1
      (subst (λ (z : Happening). Honestly starts (z ∷ hs)) q h)
  legal-follow starts s t (hands a key budget false ∷ steps) (x ∷ hs) k m told h =
      let p = hand-means s a key budget m.0 in
      let q : x ≡ refused a (text_for search key budget) = told.0 ∙ ap (λ (z : Search). refused a (text_for z key budget)) k.search_is in
      legal-follow ((a, text_for search key budget) ∷ starts) (stepped s (hands a key budget false)) t steps hs (knows-hands starts s a key budget false p k) m.1 told.1
      (subst (λ (z : Happening). Honestly starts (z ∷ hs)) q h)
  legal-follow starts s t (collects (Answer a r) ∷ steps) (replied b bytes ∷ hs) k m told h =
      let u = after s (Answer a r) in
      let is : IsReplyTo s a bytes r = subst (λ (n : ℕ). IsReplyTo s n bytes r) (sym told.0.0) told.0.1 in
      let allowed : IsAllowed IsReplyFor (last_text a starts) bytes =
      subst (λ (n : ℕ). IsAllowed IsReplyFor (last_text n starts) bytes) (sym told.0.0) h.0 in
      legal-verdict starts s a bytes r (judged s a r) (accepted u steps) refl k is allowed
      (legal-follow starts u t steps hs (knows-verdict starts s a r (judged s a r) k) m.1 told.1 h.1)
  legal-follow starts s t (collects (Answer a r) ∷ steps) (broken b ∷ hs) k m told h = let never : Answer a r ≡ Lost b = told.0 in absurd cc
  legal-follow starts s t (collects (Answer a r) ∷ steps) (started b text ∷ hs) k m told h = absurd told.0
  legal-follow starts s t (collects (Answer a r) ∷ steps) (refused b text ∷ hs) k m told h = absurd told.0
  legal-follow starts s t (collects (Lost a) ∷ steps) (replied b bytes ∷ hs) k m told h =
      legal-follow starts (after s (Lost a)) t steps hs (knows-lost starts s a (sent_at s a) refl k) m.1 told.1 h.1
  legal-follow starts s t (collects (Lost a) ∷ steps) (broken b ∷ hs) k m told h =
      legal-follow starts (after s (Lost a)) t steps hs (knows-lost starts s a (sent_at s a) refl k) m.1 told.1 h
  legal-follow starts s t (collects (Lost a) ∷ steps) (started b text ∷ hs) k m told h = absurd told.0
  legal-follow starts s t (collects (Lost a) ∷ steps) (refused b text ∷ hs) k m told h = absurd told.0

  -- where a call begins nothing was sent
  pub knows-start : (starts : StartedTexts) (s : State) → AreOptions s.options → s.run.search ≡ search → s.sent ≡ [] → Knows starts s
  knows-start starts s o same none = record { options = o; search_is = same; agrees = record { same = λ i t e. let q : None ≡ Some t = subst (λ (l : List Attempt). slice_get l i ≡ Some t) none e in absurd (cc) } }
