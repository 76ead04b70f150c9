-- What calls do one after the other: steps, and what is told of them.
use Rattle.std.proofs.Common.{rules, ℕ, List, ◌≡◌, inl, inr, ◌+◌, ◌≤◌, Bool, true, false, [], ◌∷◌, ◌++◌, refl, sym, ap, ◌∙◌, subst, Option, Some, None, append_assoc, append-nil}
use Rattle.poly_model.specs.declared.overflow.Overflow.{Overflow as Passed}
use Rattle.work_core.specs.declared.budget.Budget.{Budget}
use Rattle.job_text.specs.declared.job.JobHead.{JobHead}
use Rattle.workers_io.specs.declared.collected.Collected.{Collected}
use Rattle.workers_io.specs.declared.collected.Collected.TheVariants.{Reply, Broken}
use Rattle.workers_io.specs.Collects.{collected_attempt, happening_of}
use Rattle.workers_io.specs.History.{Happening, Tells, refused}
use Rattle.coordinator_core.specs.declared.action.Action.TheVariants.{Hand, Collect}
use Rattle.coordinator_core.specs.declared.event.Event.{Event}
use Rattle.coordinator_core.specs.declared.event.Event.TheVariants.{Answer, Lost}
use Rattle.coordinator_core.specs.declared.verdict.Verdict.{Verdict}
use Rattle.coordinator_core.specs.declared.verdict.Verdict.TheVariants.{Accepted, Stray, Loss, Ends}
use Rattle.coordinator_core.specs.Machine.{AreOptions, State, after, attempt_of, handed, next_action, verdict_of}
use Rattle.coordinator_core.specs.Traces.{GoesOn, MayStep, Step, Trace, collects, hands, started_or_lost, stepped}
use Rattle.coordinator_laws.specs.Courses.{AreToldAs, IsToldAs, IsToldAsEvent, accepted_texts, job_head_of, kept_text, text_for, text_in}
use Rattle.coordinator_laws.specs.Ends.{bytes_in, left_to_do}
use Rattle.coordinator_laws.proofs.EndLemmas.{steps_lower}
use Rattle.coordinator.specs.Following.{EndsBy, LeadsTo, LeadsSomewhere, StepsTo}
use Rattle.coordinator.specs.Starting.{IsStarted, start_told}

-- ---- what is told
pub tells_none : (o : Option (List Happening)) → Tells o o []
tells_none None = tt
tells_none (Some all) = sym (append-nil all)

pub tells_join : (a b c : Option (List Happening)) (xs ys : List Happening) → Tells a b xs → Tells b c ys → Tells a c (xs ++ ys)
tells_join a b None xs ys f g = tt
tells_join a None (Some z) xs ys f g = absurd g
tells_join None (Some y) (Some z) xs ys f g = absurd f
tells_join (Some x) (Some y) (Some z) xs ys f g = g ∙ ap (λ (l : List Happening). l ++ ys) f ∙ append_assoc x xs ys

-- ---- steps
trace_join : (s m t : State) (xs ys : List Step) → Trace s xs m → Trace m ys t → Trace s (xs ++ ys) t
trace_join s m t [] ys a b = subst (λ (z : State). Trace z ys t) a b
trace_join s m t (x ∷ xs) ys a b = (a.0, trace_join (stepped s x) m t xs ys a.1 b)

told_join : (s m : State) (xs ys : List Step) (hs ks : List Happening) → Trace s xs m → AreToldAs s xs hs → AreToldAs m ys ks → AreToldAs s (xs ++ ys) (hs ++ ks)
told_join s m [] ys [] ks a f g = subst (λ (z : State). AreToldAs z ys ks) a g
told_join s m [] ys (h ∷ hs) ks a f g = absurd f
told_join s m (x ∷ xs) ys [] ks a f g = absurd f
told_join s m (x ∷ xs) ys (h ∷ hs) ks a f g = (f.0, told_join (stepped s x) m xs ys hs ks a.1 f.1 g)

texts_join : (s m : State) (xs ys : List Step) (hs ks : List Happening) → Trace s xs m → AreToldAs s xs hs →
    accepted_texts s (xs ++ ys) (hs ++ ks) ≡ accepted_texts s xs hs ++ accepted_texts m ys ks
texts_join s m [] ys [] ks a f = ap (λ (z : State). accepted_texts z ys ks) (sym a)
texts_join s m [] ys (h ∷ hs) ks a f = absurd f
texts_join s m (x ∷ xs) ys [] ks a f = absurd f
texts_join s m (x ∷ xs) ys (h ∷ hs) ks a f =
    ap (λ (l : List (List ℕ)). text_in s x h ++ l) (texts_join (stepped s x) m xs ys hs ks a.1 f.1)
    ∙ sym (append_assoc (text_in s x h) (accepted_texts (stepped s x) xs hs) (accepted_texts m ys ks))

-- ---- calls
pub goes_none : (s : State) (o : Option (List Happening)) → LeadsTo s s o o []
goes_none s o = record { steps = []; trace = refl; happenings = []; told_as = tt; told = tells_none o; accepts = refl }

pub goes_join : (s m t : State) (a b c : Option (List Happening)) (xs ys : List (List ℕ)) → LeadsTo s m a b xs → LeadsTo m t b c ys → LeadsTo s t a c (xs ++ ys)
goes_join s m t a b c xs ys f g = record {
  steps = f.steps ++ g.steps;
  trace = trace_join s m t f.steps g.steps f.trace g.trace;
  happenings = f.happenings ++ g.happenings;
  told_as = told_join s m f.steps g.steps f.happenings g.happenings f.trace f.told_as g.told_as;
  told = tells_join a b c f.happenings g.happenings f.told g.told;
  accepts =
      ap (λ (l : List (List ℕ)). l ++ ys) f.accepts
      ∙ ap (λ (l : List (List ℕ)). accepted_texts s f.steps f.happenings ++ l) g.accepts
      ∙ sym (texts_join s m f.steps g.steps f.happenings g.happenings f.trace f.told_as);
}

pub ends_join : (s m : State) (o : Passed) (a b c : Option (List Happening)) (xs ys : List (List ℕ)) → LeadsTo s m a b xs → EndsBy m o b c ys → EndsBy s o a c (xs ++ ys)
ends_join s m o a b c xs ys f g = record {
  last = g.last;
  before = g.before;
  goes = goes_join s m g.last a b g.before xs ys f g.goes;
  waits = g.waits;
  event = g.event;
  happening = g.happening;
  told_as = g.told_as;
  told = g.told;
  ends = g.ends;
}

pub somewhere_join : (s m : State) (a b c : Option (List Happening)) (xs ys : List (List ℕ)) → LeadsTo s m a b xs → LeadsSomewhere m b c ys → LeadsSomewhere s a c (xs ++ ys)
somewhere_join s m a b c xs ys f (inl (t, g)) = inl (t, goes_join s m t a b c xs ys f g)
somewhere_join s m a b c xs ys f (inr (o, g)) = inr (o, ends_join s m o a b c xs ys f g)

-- ---- one step
pub goes_one : (s t : State) (step : Step) (h : Happening) (old new : Option (List Happening)) → MayStep s step → t ≡ stepped s step → IsToldAs s step h →
    Tells old new (h ∷ []) → StepsTo s t old new (text_in s step h)
goes_one s t step h old new may is k told = record {
  leads = record {
    steps = step ∷ [];
    trace = (may, is);
    happenings = h ∷ [];
    told_as = (k, tt);
    told = told;
    accepts = sym (append-nil (text_in s step h));
  };
  one = search rules;
}

told-start : (s : State) (a : ℕ) (key : List ℕ) (budget : Budget) (began : Bool) → IsToldAs s (hands a key budget began) (start_told began a (text_for s.run.search key budget))
told-start s a key budget true = refl
told-start s a key budget false = refl

pub goes-start : (s mid t : State) (a : ℕ) (key : List ℕ) (budget : Budget) (text out out' : List ℕ) (old new : Option (List Happening)) → next_action s ≡ Hand a key budget →
    mid ≡ handed s key budget → text ≡ text_for s.run.search key budget → IsStarted mid t a text out out' old new → StepsTo s t old new []
goes-start s mid t a key budget text out out' old new act is same p =
    let step = hands a key budget p.began in
    let state : t ≡ stepped s step = p.state ∙ ap (λ (z : State). started_or_lost z a p.began) is in
    let told = subst (λ (x : List ℕ). Tells old new (start_told p.began a x ∷ [])) same p.told in
    goes_one s t step (start_told p.began a (text_for s.run.search key budget)) old new act state (told-start s a key budget p.began) told

pub goes-refused : (s : State) (a : ℕ) (key : List ℕ) (budget : Budget) (text : List ℕ) (old new : Option (List Happening)) → next_action s ≡ Hand a key budget →
    text ≡ text_for s.run.search key budget → Tells old new (refused a text ∷ []) → LeadsTo s (stepped s (hands a key budget false)) old new []
goes-refused s a key budget text old new act same told =
    (goes_one s (stepped s (hands a key budget false)) (hands a key budget false) (refused a (text_for s.run.search key budget)) old new act refl refl
    (subst (λ (x : List ℕ). Tells old new (refused a x ∷ [])) same told)).leads

ends-collect-at : (s : State) (e : Event) (h : Happening) (v : Verdict) (old new : Option (List Happening)) → verdict_of s e ≡ v → next_action s ≡ Collect →
    IsToldAsEvent s e h → Tells old new (h ∷ []) → LeadsSomewhere s old new (kept_text v h)
ends-collect-at s e h Accepted old new j act k told =
    inl (after s e, subst (λ (v : Verdict). LeadsTo s (after s e) old new (kept_text v h)) j (goes_one s (after s e) (collects e) h old new (act, subst GoesOn (sym j) tt) refl k told).leads)
ends-collect-at s e h Stray old new j act k told =
    inl (after s e, subst (λ (v : Verdict). LeadsTo s (after s e) old new (kept_text v h)) j (goes_one s (after s e) (collects e) h old new (act, subst GoesOn (sym j) tt) refl k told).leads)
ends-collect-at s e h Loss old new j act k told =
    inl (after s e, subst (λ (v : Verdict). LeadsTo s (after s e) old new (kept_text v h)) j (goes_one s (after s e) (collects e) h old new (act, subst GoesOn (sym j) tt) refl k told).leads)
ends-collect-at s e h (Ends o) old new j act k told =
    inr (o, record { last = s; before = old; goes = goes_none s old; waits = act; event = e; happening = h; told_as = k; told = told; ends = j })

-- ---- a collect: the machine says that it is next, and stays as it is
module _ (s mid : State) (same : mid ≡ s) (action : Collect ≡ next_action s) (e : Event) (h : Happening) (told_as : IsToldAsEvent mid e h) where
  waits : next_action mid ≡ Collect
  waits = ap next_action same ∙ sym action

  pub goes-collect : (t : State) (old new : Option (List Happening)) → GoesOn (verdict_of mid e) → t ≡ after mid e → Tells old new (h ∷ []) →
      StepsTo s t old new (kept_text (verdict_of mid e) h)
  goes-collect t old new on is told =
      subst (λ (z : State). StepsTo z t old new (kept_text (verdict_of mid e) h)) same (goes_one mid t (collects e) h old new (waits, on) is told_as told)

  -- whatever came, the call goes on or is ended by it
  pub goes-collected : (old new : Option (List Happening)) → Tells old new (h ∷ []) → LeadsSomewhere s old new (kept_text (verdict_of mid e) h)
  goes-collected old new told =
      subst (λ (z : State). LeadsSomewhere z old new (kept_text (verdict_of mid e) h)) same (ends-collect-at mid e h (verdict_of mid e) old new refl waits told_as told)

  pub ends-collected : (o : Passed) (old new : Option (List Happening)) → Tells old new (h ∷ []) → verdict_of mid e ≡ Ends o → EndsBy s o old new []
  ends-collected o old new told j =
      let here : EndsBy mid o old new [] =
      record { last = mid; before = old; goes = goes_none mid old; waits = waits; event = e; happening = h; told_as = told_as; told = told; ends = j } in
      subst (λ (z : State). EndsBy z o old new []) same here

  -- and each lowers what is left to do
  pub lower-collect : (t : State) → AreOptions s.options → GoesOn (verdict_of mid e) → t ≡ after mid e →
      1 + left_to_do t ≤ left_to_do s + bytes_in (kept_text (verdict_of mid e) h)
  lower-collect t options on is =
      let lower = steps_lower mid (collects e) h (subst (λ (z : State). AreOptions z.options) (sym same) options) (waits, on) told_as in
      subst (λ (z : State). 1 + left_to_do t ≤ left_to_do z + bytes_in (kept_text (verdict_of mid e) h)) same
      (subst (λ (z : State). 1 + left_to_do z ≤ left_to_do mid + bytes_in (kept_text (verdict_of mid e) h)) (sym is) lower)

-- ---- no step
pub goes-still : (s : State) (old new : Option (List Happening)) → Tells old new [] → LeadsTo s s old new []
goes-still s old new told = record { steps = []; trace = refl; happenings = []; told_as = tt; told = told; accepts = refl }

pub goes-same : (s t : State) (o : Option (List Happening)) → t ≡ s → StepsTo s t o o []
unfolding goes_none
goes-same s t o same = subst (λ (z : State). StepsTo s z o o []) (sym same) (record { leads = goes_none s o; one = search rules })

-- ---- what is given to a worker
pub head-text : (s mid : State) (head : JobHead) (key : List ℕ) (budget : Budget) → mid ≡ handed s key budget → head ≡ job_head_of mid.run.search key budget →
    text_for mid.run.search head.key head.budget ≡ text_for s.run.search key budget
head-text s mid head key budget is of =
    ap (λ (h : JobHead). text_for mid.run.search h.key h.budget) of ∙ ap (λ (z : State). text_for z.run.search key budget) is

-- ---- which attempt was collected
pub same-attempt : (s : State) (e : Event) (x : Collected) → IsToldAsEvent s e (happening_of x) → attempt_of e ≡ collected_attempt x
same-attempt s (Answer a r) (Reply b bytes) k = k.0
same-attempt s (Lost a) (Reply b bytes) k = k.0
same-attempt s e (Broken b) k = ap attempt_of k

-- ---- a start lowers what is left to do
pub lower-start : (s mid t : State) (a : ℕ) (key : List ℕ) (budget : Budget) (text out out' : List ℕ) (old new : Option (List Happening)) → AreOptions s.options →
    next_action s ≡ Hand a key budget → mid ≡ handed s key budget → IsStarted mid t a text out out' old new → 1 + left_to_do t ≤ left_to_do s + bytes_in []
lower-start s mid t a key budget text out out' old new o act is p =
    let step = hands a key budget p.began in
    let state : t ≡ stepped s step = p.state ∙ ap (λ (z : State). started_or_lost z a p.began) is in
    subst (λ (z : State). 1 + left_to_do z ≤ left_to_do s + bytes_in []) (sym state)
    (steps_lower s step (start_told p.began a (text_for s.run.search key budget)) o act (told-start s a key budget p.began))
